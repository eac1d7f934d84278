-- Each effect without faults comes to well typed effects, where its widths don't clash.
use Rattle.std.specs.Prelude.{ℕ, ◌≡◌, ◌≢◌, ◌≤◌, Bool, true, false, if◌then◌else◌, List, [], ◌∷◌, ◌++◌, length, map, Option, None, Some, IfSome, is_some}
use Rattle.std.specs.List.{AllByRecursion, flat_map}
use Rattle.std.specs.Option.{option_map}
use Rattle.std.specs.Str.{bytes_eq}
use Rattle.std.proofs.Common.{refl, ap, sym, ◌∙◌, subst, arith}
use Rattle.std.proofs.lemmas.Grind.{common_steps}
use Rattle.std.proofs.lemmas.List.{length-map}
use Rattle.std.proofs.lemmas.List.Elements.{recursion_from_All}
use Rattle.std.proofs.lemmas.Slice.Eq.{bytes_eq-Decides}
use Rattle.qc_words.specs.declared.operator.Op.{Op}
use Rattle.qc_words.specs.declared.operator.Op.TheVariants as op
use Rattle.qc_terms.specs.State.{Context}
use Rattle.qc_terms.specs.Tree.{tree_of, width_of, Binary, tree_of-bin}
use Rattle.qc_terms.specs.Typing.{IsTyped, IsAccessWidth, TakesWidth}
use Rattle.qc_terms.specs.declared.term.Dest.{Dest}
use Rattle.qc_terms.specs.declared.term.Dest.TheVariants as dest
use Rattle.qc_terms.specs.declared.term.Term.{Term}
use Rattle.qc_terms.specs.declared.term.Term.TheVariants as term
use Rattle.qc_descr.specs.declared.description.OperandKind.{OperandKind}
use Rattle.qc_lists.specs.Law.Lists.{each_append}
use Rattle.qc_descr.specs.Valid.{NamesOperands, NamesDest}
use Rattle.qc_grammar.specs.declared.cursor.Ident.{Ident}
use Rattle.qc_grammar.specs.declared.cursor.Number.{Number}
use Rattle.qc_lrtl.specs.declared.syntax.Expr.{Expr}
use Rattle.qc_lrtl.specs.declared.syntax.Guard.{Guard}
use Rattle.qc_lrtl.specs.declared.syntax.Effect.{Effect}
use Rattle.qc_lrtl.specs.declared.syntax.Simple.{Simple}
use Rattle.qc_lrtl.specs.declared.syntax.Simple.TheVariants.{Pc, Out, Halt, Trap, Mem, Name, Cell, Use}
use Rattle.qc_facts.specs.declared.faults.WidthFault.{WidthFault}
use Rattle.qc_facts.specs.declared.faults.WidthFault.TheVariants.{UnknownName}
use Rattle.qc_facts.specs.declared.facts.Local.{Local}
use Rattle.qc_facts.specs.declared.facts.Local.TheVariants.{Plain as plain, Applied as applied}
use Rattle.qc_facts.specs.declared.facts.Target.{Target}
use Rattle.qc_facts.specs.Numbers.{access_faults, access_width}
use Rattle.qc_facts.specs.Values.{Value, bits_of, mismatch, test}
use Rattle.qc_resolve.specs.Scopes.{Act, Bound, argument, operand, function, Signature, Meaning, Scope, Names, bound_in, local_in, meaning_in, takes}
use Rattle.qc_facts.specs.Facts.{operator_named, cell_faults}
use Rattle.qc_resolve.specs.Expressions.{Expression, expression_of, value_of, faults_in, target_of, target_of_bound, bindings, argument_faults, plain_faults}
use Rattle.qc_resolve.specs.Effects.{act_of, act_on, act_on_memory, acts_of_meaning, acts_of_simple, joined, guarded, acts_under, acts_of_effect, acts_of, fits_target_of, fits_target, target_faults, effects_of, effects_faults, simple_faults, guard_faults, effect_faults, is_named, targets_at, targets_of, simple_targets, effect_targets}
use Rattle.qc_widths.proofs.Typed.{IsTypedValue, IsGood, IsTypedTarget, IsGoodBound, IsGoodAct, IsGoodMeaning, IsGoodScope, MatchesLocal, Matches}
use Rattle.qc_widths.proofs.TypedNodes.{none_of, no_mismatch, is_fine_access}
use Rattle.qc_widths.proofs.Fine.{AreFound, IsFineHere, AreThere, local, signature, meaning, suits, tested, unknown, typed_target}
use Rattle.qc_widths.proofs.TypedRegisters.{fine_cell}
use Rattle.qc_widths.proofs.Typing.{fine}

pub same_bytes : (xs : List ℕ) → bytes_eq xs xs ≡ true
same_bytes xs = (bytes_eq-Decides xs xs).1 refl

-- what a name stands for is a register, if it is an argument
abbrev pub IsThere : Option Bound → Type 0
IsThere (Some (argument v target)) = is_some target ≡ true
IsThere _ = Unit {0}

takes_effects : (s : Signature) (count : ℕ) → takes true s count ≡ true
    → (s.effects ≡ true) × (length s.params ≡ count)
takes_effects s count e = grind (arith, common_steps)

module _ (context : Context) (kinds : List OperandKind) where
  -- an effect without a guard is typed, if its target takes its value's width
  plain_act : (to : Dest) (address : List WidthFault) (value : Value) (bits : ℕ) → IsGood context kinds value
      → (address ≡ [] → TakesWidth context to bits × NamesDest context.word kinds to)
      → IsGoodAct context kinds (act_of to address value (Some bits))
  plain_act to address value bits good takes_bits none =
      let parts : (address ≡ []) × (value.clashes ++ test value (Some bits) ≡ []) =
      none_of address (value.clashes ++ test value (Some bits)) none in
      let more : (value.clashes ≡ []) × (test value (Some bits) ≡ []) =
      none_of value.clashes (test value (Some bits)) parts.1 in
      let v : IsTypedValue context kinds value = good more.0 in
      let width : width_of (tree_of value.term) ≡ bits =
      no_mismatch value.token (width_of (tree_of value.term)) bits
      (subst (λ w. mismatch value.token w (Some bits) ≡ []) v.width more.1) in (
        record {
          guard = tt;
          value = v.typed;
          to = subst (TakesWidth context to) (sym width) (takes_bits parts.0).0;
        },
        record { guard = tt; value = v.names; to = (takes_bits parts.0).1 },
      )

  target_act : (target : Target) → IsTypedTarget context kinds target → (value : Value) → IsGood context kinds value
      → IsGoodAct context kinds (act_on (Some target) value)
  target_act target is value good =
      subst (λ w. IsGoodAct context kinds (act_of (dest.Reg target.place) [] value w)) (sym is.width)
      (plain_act (dest.Reg target.place) [] value is.bits good (λ e. (is.register, is.names)))

  memory_act : (bits : Number) (address value : Value) → access_faults (Some context.word) bits ≡ []
      → IsGood context kinds address → IsGood context kinds value
      → IsGoodAct context kinds (act_on_memory (Some context.word) bits address value)
  memory_act bits address value e good other =
      let width : (access_width (Some context.word) bits ≡ Some bits.value) × IsAccessWidth bits.value
      × (bits.value ≤ context.word) = is_fine_access context.word bits e in
      subst (λ w. IsGoodAct context kinds (act_of (dest.Mem (bits_of w) address.term)
      (address.clashes ++ test address (Some context.word)) value w)) (sym width.0)
      (plain_act (dest.Mem bits.value address.term) (address.clashes ++ test address (Some context.word)) value
      bits.value other
      (λ none.
      let parts : (address.clashes ≡ []) × (test address (Some context.word) ≡ []) =
      none_of address.clashes (test address (Some context.word)) none in
      let a : IsTypedValue context kinds address = good parts.0 in
      let word : width_of (tree_of address.term) ≡ context.word =
      no_mismatch address.token (width_of (tree_of address.term)) context.word
      (subst (λ w. mismatch address.token w (Some context.word) ≡ []) a.width parts.1) in
      ((refl, record { width = width.1; word = width.2; address = word }, a.typed), a.names)))

  -- a guard joined to an effect
  joined_guard : (gv : Value) → IsTypedValue context kinds gv → width_of (tree_of gv.term) ≡ 1 → (inner : Option Term)
      → IfSome inner (λ g. IsTyped context (tree_of g) × (width_of (tree_of g) ≡ 1))
      → IfSome inner (λ g. NamesOperands context.word kinds (tree_of g))
      → IsTyped context (tree_of (joined gv.term inner)) × (width_of (tree_of (joined gv.term inner)) ≡ 1)
      × NamesOperands context.word kinds (tree_of (joined gv.term inner))
  joined_guard gv v one None typed names = (v.typed, one, v.names)
  joined_guard gv v one (Some t) typed names =
      let tree : tree_of (term.Bin op.And gv.term t) ≡ Binary op.And (tree_of gv.term) (tree_of t) =
      tree_of-bin op.And gv.term t in (
        subst (IsTyped context) (sym tree) (refl, tt, one ∙ sym typed.1, v.typed, typed.0),
        ap width_of tree ∙ one,
        subst (NamesOperands context.word kinds) (sym tree) (v.names, names),
      )

  guarded_act : (gv : Value) → IsGood context kinds gv → (act : Act) → IsGoodAct context kinds act
      → IsGoodAct context kinds (guarded gv act)
  guarded_act gv good act is none =
      let parts : ((gv.clashes ++ test gv (Some 1)) ++ act.guards ≡ []) × (act.rest ≡ []) =
      none_of ((gv.clashes ++ test gv (Some 1)) ++ act.guards) act.rest none in
      let more : (gv.clashes ++ test gv (Some 1) ≡ []) × (act.guards ≡ []) =
      none_of (gv.clashes ++ test gv (Some 1)) act.guards parts.0 in
      let own : (gv.clashes ≡ []) × (test gv (Some 1) ≡ []) = none_of gv.clashes (test gv (Some 1)) more.0 in
      let v : IsTypedValue context kinds gv = good own.0 in
      let one : width_of (tree_of gv.term) ≡ 1 =
      no_mismatch gv.token (width_of (tree_of gv.term)) 1
      (subst (λ w. mismatch gv.token w (Some 1) ≡ []) v.width own.1) in
      let inner = is (ap (λ fs. fs ++ act.rest) more.1 ∙ parts.1) in
      let joint = joined_guard gv v one act.guard inner.0.guard inner.1.guard in (
        record { guard = (joint.0, joint.1); value = inner.0.value; to = inner.0.to },
        record { guard = joint.2; value = inner.1.value; to = inner.1.to },
      )

  guarded_acts : (gv : Value) → IsGood context kinds gv → (acts : List Act) → AllByRecursion (IsGoodAct context kinds) acts
      → AllByRecursion (IsGoodAct context kinds) (map (guarded gv) acts)
  guarded_acts gv good [] all = tt
  guarded_acts gv good (act ∷ acts) all = (guarded_act gv good act all.0, guarded_acts gv good acts all.1)

same_ident : (a b : Ident) → Some a ≡ Some b → a ≡ b
same_ident a b e = cc e

nonempty_left : {A : Type 0} (xs ys : List A) → xs ≢ [] → xs ++ ys ≢ []
nonempty_left [] ys some e = some refl
nonempty_left (x ∷ xs) ys some e = cc e

nonempty_right : {A : Type 0} (xs ys : List A) → ys ≢ [] → xs ++ ys ≢ []
nonempty_right [] ys some e = some e
nonempty_right (x ∷ xs) ys some e = cc e

no_tokens : (tokens : List ℕ) → map UnknownName tokens ≡ [] → tokens ≡ []
no_tokens [] e = refl
no_tokens (t ∷ tokens) e = cc e

tokens_or : (b : Bool) (tokens : List ℕ) → (if b then [] else map UnknownName tokens) ≡ [] → tokens ≢ [] → b ≡ true
tokens_or true tokens e some = refl
tokens_or false tokens e some = absurd (some (no_tokens tokens e))

module _ (context : Context) (kinds : List OperandKind) (names : Names) (scope : Scope) (matches : Matches names scope)
    (good : IsGoodScope context kinds scope) where
  value_good : (e : Expr) → faults_in names e ≡ [] → IsGood context kinds (value_of scope e)
  value_good e = fine context kinds names scope matches good e

  word_is : names.facts.word ≡ Some context.word
  word_is = ap (λ f. f.word) matches.facts ∙ good.facts.word

  there_case : (l : Option Local) (b : Option Bound)
      → AreFound (λ x y. MatchesLocal x y × IsGoodBound context kinds y) l b → fits_target_of l ≡ true → IsThere b
      → is_some (target_of_bound b) ≡ true
  there_case None b f e there = cc e
  there_case (Some (applied k)) b f e there = cc e
  there_case (Some (plain fits)) None f e there = absurd f
  there_case (Some (plain fits)) (Some (argument v target)) f e there = there
  there_case (Some (plain fits)) (Some (operand number facts)) f e there = sym f.0 ∙ e
  there_case (Some (plain fits)) (Some (function k apply)) f e there = absurd f.0

  -- a name that fits as a target is a register, if the argument that it may stand for is one
  there_is : (bare : Option Ident) → fits_target names bare ≡ true
      → ((name : Ident) → bare ≡ Some name → IsThere (bound_in scope name.text)) → is_some (target_of scope bare) ≡ true
  there_is None e there = cc e
  there_is (Some name) e there = there_case (local_in names name.text) (bound_in scope name.text)
      (local context kinds names scope matches good name.text) e (there name refl)

  -- the arguments that targets stand for are registers
  args_there : (targets : List (List ℕ)) (args : List Expression) → target_faults names targets args ≡ []
      → ((name : List ℕ) → targets_at name targets args ≢ [] → IsThere (bound_in scope name))
      → AreThere context kinds names scope matches good targets args
  args_there [] args e there = tt
  args_there (tokens ∷ targets) [] e there = tt
  args_there (tokens ∷ targets) (a ∷ args) e there =
      let parts : ((if fits_target names a.bare then [] else map UnknownName tokens) ≡ [])
      × (target_faults names targets args ≡ []) =
      none_of (if fits_target names a.bare then [] else map UnknownName tokens) (target_faults names targets args) e in (
        (λ some. there_is a.bare (tokens_or (fits_target names a.bare) tokens parts.0 some)
            (λ name is. there name.text
            (nonempty_left (if is_named name.text a.bare then tokens else []) (targets_at name.text targets args)
            (subst (λ b. (if b then tokens else []) ≢ []) (sym (ap (is_named name.text) is ∙ same_bytes name.text))
            some)))),
        args_there targets args parts.1
            (λ name some. there name
            (nonempty_right (if is_named name a.bare then tokens else []) (targets_at name targets args) some)),
      )

  fine_exprs : (args : List Expr)
      → AllByRecursion (IsFineHere context kinds names scope matches good) (map expression_of args)
  fine_exprs [] = tt
  fine_exprs (e ∷ args) = (value_good e, fine_exprs args)

  use_case : (l : Option Local) (b : Option Bound) (o : Option Op) (m : Option Meaning) (token : ℕ)
      (args : List Expr) → AreFound (λ x y. MatchesLocal x y × IsGoodBound context kinds y) l b
      → IfSome m (IsGoodMeaning context kinds)
      → effects_faults names (effects_of l o (option_map (λ x. x.signature) m) (length args)) token
      (map expression_of args) ≡ []
      → ((name : List ℕ) → targets_of name (effects_of l o (option_map (λ x. x.signature) m) (length args))
      (map expression_of args) ≢ [] → IsThere (bound_in scope name))
      → AllByRecursion (IsGoodAct context kinds) (acts_of_meaning scope b o m (map expression_of args))
  use_case None (Some b) o m token args f g e there = absurd f
  use_case None None (Some o) m token args f g e there =
      absurd (unknown token (plain_faults names (map expression_of args)) e)
  use_case None None None None token args f g e there =
      absurd (unknown token (plain_faults names (map expression_of args)) e)
  use_case (Some l) None o m token args f g e there = absurd f
  use_case (Some l) (Some b) o m token args f g e there =
      absurd (unknown token (plain_faults names (map expression_of args)) e)
  use_case None None None (Some m) token args f g e there =
      by_test (takes true m.signature (length args)) refl e there
    where
      by_test : (b : Bool) → takes true m.signature (length args) ≡ b
          → effects_faults names (if b then Some m.signature else None) token (map expression_of args) ≡ []
          → ((name : List ℕ) → targets_of name (if b then Some m.signature else None) (map expression_of args) ≢ []
          → IsThere (bound_in scope name))
          → AllByRecursion (IsGoodAct context kinds) (if takes true m.signature (length (map expression_of args))
          then m.acts (bindings scope m.signature.params (map expression_of args)) else [])
      by_test false is faults targets = absurd (unknown token (plain_faults names (map expression_of args)) faults)
      by_test true is faults targets =
          let parts : (argument_faults names m.signature.params (map expression_of args) ≡ [])
          × (target_faults names m.signature.targets (map expression_of args) ≡ []) =
          none_of (argument_faults names m.signature.params (map expression_of args))
          (target_faults names m.signature.targets (map expression_of args)) faults in
          let s : (m.signature.effects ≡ true) × (length m.signature.params ≡ length args) =
          takes_effects m.signature (length args) is in
          subst (λ n. AllByRecursion (IsGoodAct context kinds) (if takes true m.signature n
          then m.acts (bindings scope m.signature.params (map expression_of args)) else []))
          (sym (length-map args expression_of))
          (subst (λ b. AllByRecursion (IsGoodAct context kinds) (if b
          then m.acts (bindings scope m.signature.params (map expression_of args)) else [])) (sym is)
          (recursion_from_All (IsGoodAct context kinds) (m.acts (bindings scope m.signature.params (map expression_of args)))
          (g.acts s.0 (bindings scope m.signature.params (map expression_of args))
          (suits context kinds names scope matches good m.signature.params m.signature.targets (map expression_of args)
          (s.1 ∙ sym (length-map args expression_of)) parts.0
          (args_there m.signature.targets (map expression_of args) parts.1 targets)
          (fine_exprs args)))))

  -- the arguments that the targets of an effect stand for are registers
  abbrev pub AreTargetsThere : (List ℕ → List ℕ) → Type 0
  AreTargetsThere targets = (name : List ℕ) → targets name ≢ [] → IsThere (bound_in scope name)

  target_there : (o : Option Target) → is_some o ≡ true → IfSome o (IsTypedTarget context kinds) → (value : Value)
      → IsGood context kinds value → IsGoodAct context kinds (act_on o value)
  target_there None e typed value v = cc e
  target_there (Some target) e typed value v = target_act context kinds target typed value v

  good_simple : (simple : Simple) → simple_faults names simple ≡ [] → AreTargetsThere (λ name. simple_targets names name simple)
      → AllByRecursion (IsGoodAct context kinds) (acts_of_simple scope simple)
  good_simple (Pc token value) e there = (
    subst (λ w. IsGoodAct context kinds (act_of dest.Pc [] (value_of scope value) w)) (sym good.facts.word)
        (plain_act context kinds dest.Pc [] (value_of scope value) context.word (value_good value e) (λ none. (refl, tt))),
    tt,
  )
  good_simple (Out token value) e there = (
    subst (λ w. IsGoodAct context kinds (act_of dest.Out [] (value_of scope value) w)) (sym good.facts.word)
        (plain_act context kinds dest.Out [] (value_of scope value) context.word (value_good value e) (λ none. (refl, tt))),
    tt,
  )
  good_simple (Halt token value) e there = (
    subst (λ w. IsGoodAct context kinds (act_of dest.Halt [] (value_of scope value) w)) (sym good.facts.word)
        (plain_act context kinds dest.Halt [] (value_of scope value) context.word (value_good value e) (λ none. (refl, tt))),
    tt,
  )
  good_simple (Trap token value) e there =
      (plain_act context kinds dest.Trap [] (value_of scope value) 8 (value_good value e) (λ none. (refl, tt)), tt)
  good_simple (Mem token bits address value) e there =
      let parts : (access_faults names.facts.word bits ≡ []) × (faults_in names address ++ faults_in names value ≡ []) =
      none_of (access_faults names.facts.word bits) (faults_in names address ++ faults_in names value) e in
      let more : (faults_in names address ≡ []) × (faults_in names value ≡ []) =
      none_of (faults_in names address) (faults_in names value) parts.1 in (
        subst (λ w. IsGoodAct context kinds (act_on_memory w bits (value_of scope address) (value_of scope value)))
            (sym good.facts.word)
            (memory_act context kinds bits (value_of scope address) (value_of scope value)
            (subst (λ w. access_faults w bits ≡ []) word_is parts.0) (value_good address more.0) (value_good value more.1)),
        tt,
      )
  good_simple (Name name value) e there =
      let parts : ((if fits_target names (Some name) then [] else UnknownName name.token ∷ []) ≡ [])
      × (faults_in names value ≡ []) =
      none_of (if fits_target names (Some name) then [] else UnknownName name.token ∷ []) (faults_in names value) e in
      let is : is_some (target_of scope (Some name)) ≡ true =
      there_is (Some name) (tested (fits_target names (Some name)) (UnknownName name.token) parts.0)
      (λ other same. there other.text
      (subst (λ (n : Ident). (if bytes_eq name.text n.text then name.token ∷ [] else []) ≢ []) (same_ident name other same)
      (subst (λ b. (if b then name.token ∷ [] else []) ≢ []) (sym (same_bytes name.text)) (λ none. cc none)))) in (
        target_there (target_of scope (Some name)) is (typed_target context kinds names scope matches good (Some name))
            (value_of scope value) (value_good value parts.1),
        tt,
      )
  good_simple (Cell space cell value) e there =
      let parts : (cell_faults names.facts space cell ≡ []) × (faults_in names value ≡ []) =
      none_of (cell_faults names.facts space cell) (faults_in names value) e in
      let found = fine_cell context kinds scope.facts good.facts space cell
      (subst (λ f. cell_faults f space cell ≡ []) matches.facts parts.0) in (
        subst (λ o. IsGoodAct context kinds (act_on o (value_of scope value))) (sym found.1)
            (target_act context kinds found.0 found.2 (value_of scope value) (value_good value parts.1)),
        tt,
      )
  good_simple (Use name args) e there =
      use_case (local_in names name.text) (bound_in scope name.text) (operator_named name.text)
      (meaning_in scope name.text) name.token args (local context kinds names scope matches good name.text)
      (meaning context kinds names scope matches good name.text)
      (subst (λ s. effects_faults names (effects_of (local_in names name.text) (operator_named name.text) s (length args))
      name.token (map expression_of args) ≡ []) (signature context kinds names scope matches good name.text) e)
      (subst (λ s. (n : List ℕ) → targets_of n (effects_of (local_in names name.text) (operator_named name.text) s
      (length args)) (map expression_of args) ≢ [] → IsThere (bound_in scope n))
      (signature context kinds names scope matches good name.text) there)

  good_under : (guard : Option Guard) → guard_faults names guard ≡ [] → (acts : List Act)
      → AllByRecursion (IsGoodAct context kinds) acts → AllByRecursion (IsGoodAct context kinds) (acts_under scope guard acts)
  good_under None e acts all = all
  good_under (Some guard) e acts all =
      guarded_acts context kinds (value_of scope guard.condition) (value_good guard.condition e) acts all

  good_effect : (e : Effect) → effect_faults names e ≡ [] → AreTargetsThere (λ name. effect_targets names name e)
      → AllByRecursion (IsGoodAct context kinds) (acts_of_effect scope e)
  unfolding effect_faults effect_targets acts_of_effect
  good_effect e faults there =
      let parts : (guard_faults names e.guard ≡ []) × (simple_faults names e.simple ≡ []) =
      none_of (guard_faults names e.guard) (simple_faults names e.simple) faults in
      good_under e.guard parts.0 (acts_of_simple scope e.simple) (good_simple e.simple parts.1 there)

  -- All effects without faults come to well typed ones.
  pub good_effects : (effects : List Effect) → flat_map (effect_faults names) effects ≡ []
      → AreTargetsThere (λ name. flat_map (effect_targets names name) effects)
      → AllByRecursion (IsGoodAct context kinds) (acts_of scope effects)
  good_effects [] faults there = tt
  good_effects (e ∷ effects) faults there =
      let parts : (effect_faults names e ≡ []) × (flat_map (effect_faults names) effects ≡ []) =
      none_of (effect_faults names e) (flat_map (effect_faults names) effects) faults in
      each_append (IsGoodAct context kinds) (acts_of_effect scope e) (acts_of scope effects)
      (good_effect e parts.0
      (λ name some. there name
      (nonempty_left (effect_targets names name e) (flat_map (effect_targets names name) effects) some)))
      (good_effects effects parts.1
      (λ name some. there name
      (nonempty_right (effect_targets names name e) (flat_map (effect_targets names name) effects) some)))
