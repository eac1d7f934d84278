-- All functions and named effects of a text without faults are good.
use Rattle.std.specs.Prelude.{ℕ, ◌≡◌, ◌≢◌, ◌+◌, Bool, true, false, cond, if◌then◌else◌, List, [], ◌∷◌, ◌++◌, length, map, Option, None, Some, is_some}
use Rattle.std.specs.List.{AllByRecursion, flat_map}
use Rattle.std.specs.Str.{bytes_eq}
use Rattle.std.proofs.Common.{refl, ap, sym, ◌∙◌, subst}
use Rattle.std.proofs.lemmas.List.{length-map, map-append}
use Rattle.std.proofs.lemmas.List.Elements.{All-from_recursion}
use Rattle.std.proofs.lemmas.Slice.Eq.{bytes_eq-Decides}
use Rattle.qc_widths.specs.TextFaults.{params_faults, item_faults, faults_after}
use Rattle.qc_terms.specs.State.{Context}
use Rattle.qc_descr.specs.declared.description.OperandKind.{OperandKind}
use Rattle.qc_lists.specs.Law.Lists.{each_append}
use Rattle.qc_grammar.specs.declared.cursor.Ident.{Ident}
use Rattle.qc_lrtl.specs.declared.syntax.Expr.{Expr}
use Rattle.qc_lrtl.specs.declared.syntax.Effect.{Effect}
use Rattle.qc_lrtl.specs.declared.syntax.Param.{Param}
use Rattle.qc_lrtl.specs.declared.syntax.Item.{Item}
use Rattle.qc_lrtl.specs.declared.syntax.Item.TheVariants as fact
use Rattle.qc_resolve.specs.Scopes.{Bound, argument, operand, function, Signature, Meaning, Names, local_bound}
use Rattle.qc_facts.specs.Facts.{Facts, named}
use Rattle.qc_resolve.specs.Expressions.{faults_in}
use Rattle.qc_resolve.specs.Effects.{acts_of, effect_faults, effect_targets}
use Rattle.qc_resolve.specs.Declarations.{arity_of, local_of_arity, locals_of_params, bound_params, names_for, scope_for, targets_of_param, signature_of_item, signatures_of, meaning_of_function, meaning_of_effects, meaning_of_item, meanings_after, instruction_name, space_name}
use Rattle.qc_widths.proofs.Typed.{IsComplete, IsGoodBound, SuitsParam, SuitParams, IsGoodMeaning, IsGoodScope, MatchesLocal, MatchLocals, TellsEvents, IsGoodAct}
use Rattle.qc_widths.proofs.TypedNodes.{none_of}
use Rattle.qc_widths.proofs.Typing.{fine}
use Rattle.qc_widths.proofs.TypedActs.{IsThere, good_effects}
use Rattle.qc_widths.proofs.Events.{SameNames, count_is, shown_effects}

-- parameters and what they stand for have the same names
same_params : (params : List Param) (bounds : List Bound) → length bounds ≡ length params
    → SameNames (locals_of_params params) (bound_params params bounds)
same_params [] [] n = tt
same_params [] (b ∷ bounds) n = cc n
same_params (p ∷ params) [] n = cc n
same_params (p ∷ params) (b ∷ bounds) n = (refl, same_params params bounds (cc n))

module _ (context : Context) where
  -- it is good for whatever operands an instruction has, and shows as many things as is known of it
  pub record IsSettled (m : Meaning) : Type 0 where
    pub good : (kinds : List OperandKind) → IsGoodMeaning context kinds m
    pub tells : TellsEvents m

  good_of : (kinds : List OperandKind) (ms : List Meaning) → AllByRecursion IsSettled ms
      → AllByRecursion (IsGoodMeaning context kinds) ms
  good_of kinds [] all = tt
  good_of kinds (m ∷ ms) all = (all.0.good kinds, good_of kinds ms all.1)

  pub tells_of : (ms : List Meaning) → AllByRecursion IsSettled ms → AllByRecursion TellsEvents ms
  tells_of [] all = tt
  tells_of (m ∷ ms) all = (all.0.tells, tells_of ms all.1)

  pub good_scope : (kinds : List OperandKind) (facts : Facts) → IsComplete facts context → (ms : List Meaning)
      → AllByRecursion IsSettled ms → (locals : List (List ℕ × Bound))
      → AllByRecursion (λ l. IsGoodBound context kinds l.1) locals
      → IsGoodScope context kinds (scope_for facts ms locals)
  good_scope kinds facts complete ms all locals goods = record {
    facts = complete;
    locals = All-from_recursion (λ l. IsGoodBound context kinds l.1) locals goods;
    functions = All-from_recursion (IsGoodMeaning context kinds) ms (good_of kinds ms all);
  }

  module _ (kinds : List OperandKind) where
    match_one : (arity : Option ℕ) (tokens : List ℕ) (b : Bound) → SuitsParam context kinds arity tokens b
        → MatchesLocal (local_of_arity arity) b
    match_one None tokens (argument v target) suit = tt
    match_one None tokens (operand number facts) suit = absurd suit
    match_one None tokens (function n apply) suit = absurd suit
    match_one (Some arity) tokens (argument v target) suit = absurd suit
    match_one (Some arity) tokens (operand number facts) suit = absurd suit
    match_one (Some arity) tokens (function n apply) suit = suit.0

    good_one : (arity : Option ℕ) (tokens : List ℕ) (b : Bound) → SuitsParam context kinds arity tokens b
        → IsGoodBound context kinds b
    good_one None tokens (argument v target) suit = suit.0
    good_one None tokens (operand number facts) suit = absurd suit
    good_one None tokens (function n apply) suit = absurd suit
    good_one (Some arity) tokens (argument v target) suit = absurd suit
    good_one (Some arity) tokens (operand number facts) suit = absurd suit
    good_one (Some arity) tokens (function n apply) suit = suit.1

    there_one : (arity : Option ℕ) (tokens : List ℕ) (b : Bound) → SuitsParam context kinds arity tokens b
        → (arity ≡ None → tokens ≢ []) → IsThere (Some b)
    there_one None tokens (argument v target) suit some = suit.1 (some refl)
    there_one None tokens (operand number facts) suit some = absurd suit
    there_one None tokens (function n apply) suit some = absurd suit
    there_one (Some arity) tokens (argument v target) suit some = absurd suit
    there_one (Some arity) tokens (operand number facts) suit some = absurd suit
    there_one (Some arity) tokens (function n apply) suit some = tt

    match_params : (params : List Param) (targets : List (List ℕ)) (bounds : List Bound)
        → SuitParams context kinds (map arity_of params) targets bounds
        → MatchLocals (locals_of_params params) (bound_params params bounds)
    match_params [] targets [] suit = tt
    match_params [] targets (b ∷ bounds) suit = absurd suit
    match_params (p ∷ params) targets [] suit = absurd suit
    match_params (p ∷ params) [] (b ∷ bounds) suit =
        (refl, match_one (arity_of p) [] b suit.0, match_params params [] bounds suit.1)
    match_params (p ∷ params) (tokens ∷ targets) (b ∷ bounds) suit =
        (refl, match_one (arity_of p) tokens b suit.0, match_params params targets bounds suit.1)

    good_params : (params : List Param) (targets : List (List ℕ)) (bounds : List Bound)
        → SuitParams context kinds (map arity_of params) targets bounds
        → AllByRecursion (λ l. IsGoodBound context kinds l.1) (bound_params params bounds)
    good_params [] targets [] suit = tt
    good_params [] targets (b ∷ bounds) suit = absurd suit
    good_params (p ∷ params) targets [] suit = absurd suit
    good_params (p ∷ params) [] (b ∷ bounds) suit =
        (good_one (arity_of p) [] b suit.0, good_params params [] bounds suit.1)
    good_params (p ∷ params) (tokens ∷ targets) (b ∷ bounds) suit =
        (good_one (arity_of p) tokens b suit.0, good_params params targets bounds suit.1)

    -- where a parameter stands for targets it stands for a register
    there_params : (names : Names) (body : List Effect) (params : List Param) (bounds : List Bound)
        → SuitParams context kinds (map arity_of params) (map (targets_of_param names body) params) bounds
        → (name : List ℕ) → flat_map (effect_targets names name) body ≢ []
        → IsThere (local_bound (named (λ p. p.0) (bound_params params bounds) name))
    there_params names body [] [] suit name some = tt
    there_params names body [] (b ∷ bounds) suit name some = absurd suit
    there_params names body (p ∷ params) [] suit name some = absurd suit
    there_params names body (p ∷ params) (b ∷ bounds) suit name some =
        by_test (bytes_eq p.name.text name) refl (there_params names body params bounds suit.1 name some)
      where
        by_test : (test : Bool) → bytes_eq p.name.text name ≡ test
            → IsThere (local_bound (named (λ q. q.0) (bound_params params bounds) name))
            → IsThere (local_bound (cond test (Some (p.name.text, b))
            (named (λ q. q.0) (bound_params params bounds) name)))
        by_test false is more = more
        by_test true is more =
            there_one (arity_of p) (targets_of_param names body p) b suit.0
            (λ plain none. some
            (subst (λ n. flat_map (effect_targets names n) body ≡ []) ((bytes_eq-Decides p.name.text name).0 is)
            (subst (λ a. (if is_some a then [] else flat_map (effect_targets names p.name.text) body) ≡ []) plain none)))

  settled_function : (facts : Facts) → IsComplete facts context → (earlier : List Meaning)
      → AllByRecursion IsSettled earlier → (name : Ident) (params : List Param) (body : Expr)
      → faults_in (names_for facts (signatures_of earlier) (locals_of_params params)) body ≡ []
      → IsSettled (meaning_of_function facts earlier name params body)
  settled_function facts complete earlier all name params body none = record {
    good = λ kinds. record {
      untargeted = λ e. refl;
      value = λ e token bounds suit.
          fine context kinds (names_for facts (signatures_of earlier) (locals_of_params params))
          (scope_for facts earlier (bound_params params bounds))
          (record { facts = refl; locals = match_params kinds params [] bounds suit; functions = refl })
          (good_scope kinds facts complete earlier all (bound_params params bounds)
          (good_params kinds params [] bounds suit)) body none;
      acts = λ e. cc e;
    };
    tells = record { count = λ bounds n. refl };
  }

  settled_effects : (facts : Facts) → IsComplete facts context → (earlier : List Meaning)
      → AllByRecursion IsSettled earlier → (name : Ident) (params : List Param) (body : List Effect)
      → flat_map (effect_faults (names_for facts (signatures_of earlier) (locals_of_params params))) body ≡ []
      → IsSettled (meaning_of_effects facts earlier name params body)
  settled_effects facts complete earlier all name params body none =
      let names : Names = names_for facts (signatures_of earlier) (locals_of_params params) in
      record {
        good = λ kinds. record {
          untargeted = λ e. cc e;
          value = λ e. cc e;
          acts = λ e bounds suit.
              All-from_recursion (IsGoodAct context kinds) (acts_of (scope_for facts earlier (bound_params params bounds)) body)
              (good_effects context kinds names (scope_for facts earlier (bound_params params bounds))
              (record {
                facts = refl;
                locals = match_params kinds params (map (targets_of_param names body) params) bounds suit;
                functions = refl;
              })
              (good_scope kinds facts complete earlier all (bound_params params bounds)
              (good_params kinds params (map (targets_of_param names body) params) bounds suit)) body none
              (there_params kinds names body params bounds suit));
        };
        tells = record {
          count = λ bounds n.
              count_is (acts_of (scope_for facts earlier (bound_params params bounds)) body)
              ∙ shown_effects names (scope_for facts earlier (bound_params params bounds))
              (same_params params bounds (n ∙ length-map params arity_of)) refl (tells_of earlier all) body;
        };
      }

  -- what an item without faults declares is settled
  settled_item : (facts : Facts) → IsComplete facts context → (earlier whole : List Meaning)
      → AllByRecursion IsSettled earlier → (instructions spaces : ℕ) (item : Item)
      → item_faults facts (signatures_of earlier) whole instructions spaces item ≡ []
      → AllByRecursion IsSettled (meaning_of_item facts earlier item)
  settled_item facts complete earlier whole all instructions spaces (fact.Function token name params body) none =
      let parts : (params_faults params ≡ [])
      × (faults_in (names_for facts (signatures_of earlier) (locals_of_params params)) body ≡ []) =
      none_of (params_faults params) (faults_in (names_for facts (signatures_of earlier) (locals_of_params params)) body)
      none in
      (settled_function facts complete earlier all name params body parts.1, tt)
  settled_item facts complete earlier whole all instructions spaces (fact.Effects token name params body) none =
      let parts : (params_faults params ≡ [])
      × (flat_map (effect_faults (names_for facts (signatures_of earlier) (locals_of_params params))) body ≡ []) =
      none_of (params_faults params)
      (flat_map (effect_faults (names_for facts (signatures_of earlier) (locals_of_params params))) body) none in
      (settled_effects facts complete earlier all name params body parts.1, tt)
  settled_item facts complete earlier whole all instructions spaces _ none = tt

  signatures_are : (facts : Facts) (earlier : List Meaning) (item : Item)
      → signatures_of (meaning_of_item facts earlier item) ≡ signature_of_item facts (signatures_of earlier) item
  signatures_are facts earlier (fact.Function token name params body) = refl
  signatures_are facts earlier _ = refl

  pub settled : (facts : Facts) → IsComplete facts context → (whole : List Meaning) (items : List Item)
      (earlier : List Meaning) (instructions spaces : ℕ) → AllByRecursion IsSettled earlier
      → faults_after facts whole (signatures_of earlier) instructions spaces items ≡ []
      → AllByRecursion IsSettled (meanings_after facts earlier items)
  settled facts complete whole [] earlier instructions spaces all none = all
  settled facts complete whole (item ∷ items) earlier instructions spaces all none =
      let more : List Signature = signatures_of earlier ++ signature_of_item facts (signatures_of earlier) item in
      let parts : (item_faults facts (signatures_of earlier) whole instructions spaces item ≡ [])
      × (faults_after facts whole more (instructions + length (instruction_name item)) (spaces + length (space_name item))
      items ≡ []) =
      none_of (item_faults facts (signatures_of earlier) whole instructions spaces item)
      (faults_after facts whole more (instructions + length (instruction_name item)) (spaces + length (space_name item))
      items) none in
      let same : more ≡ signatures_of (earlier ++ meaning_of_item facts earlier item) =
      ap (λ ss. signatures_of earlier ++ ss) (sym (signatures_are facts earlier item))
      ∙ sym (map-append (λ m. m.signature) earlier (meaning_of_item facts earlier item)) in
      settled facts complete whole items (earlier ++ meaning_of_item facts earlier item)
      (instructions + length (instruction_name item)) (spaces + length (space_name item))
      (each_append IsSettled earlier (meaning_of_item facts earlier item) all
      (settled_item facts complete earlier whole all instructions spaces item parts.0))
      (subst (λ ss. faults_after facts whole ss (instructions + length (instruction_name item))
      (spaces + length (space_name item)) items ≡ []) same parts.1)
