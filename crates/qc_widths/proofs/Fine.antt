-- An expression without faults comes to a well typed term, where its widths don't clash.
use Rattle.std.specs.Prelude.{ℕ, ◌≡◌, ◌≢◌, Bool, true, false, cond, nat_eq, if◌then◌else◌, List, [], ◌∷◌, length, map, All, Option, None, Some, IfSome, is_some}
use Rattle.std.specs.List.{AllByRecursion, list_all}
use Rattle.std.specs.Option.{option_map}
use Rattle.std.specs.Str.{bytes_eq}
use Rattle.std.proofs.Common.{refl, ap, sym, ◌∙◌, subst, arith}
use Rattle.std.proofs.lemmas.Grind.{common_steps}
use Rattle.std.proofs.lemmas.List.{length-map}
use Rattle.std.proofs.lemmas.List.Elements.{recursion_from_All, All-from_recursion}
use Rattle.qc_facts.specs.Faults.{unknown_unless}
use Rattle.qc_words.specs.declared.operator.Op.{Op}
use Rattle.qc_terms.specs.State.{Context}
use Rattle.qc_descr.specs.declared.description.OperandKind.{OperandKind}
use Rattle.qc_grammar.specs.declared.cursor.Ident.{Ident}
use Rattle.qc_facts.specs.declared.faults.WidthFault.{WidthFault}
use Rattle.qc_facts.specs.declared.faults.WidthFault.TheVariants.{UnknownName}
use Rattle.qc_facts.specs.declared.facts.Local.{Local}
use Rattle.qc_facts.specs.declared.facts.Local.TheVariants.{Plain as plain, Applied as applied}
use Rattle.qc_facts.specs.Values.{Value, faulty, operator_at}
use Rattle.qc_resolve.specs.Scopes.{Bound, argument, operand, function, Signature, Meaning, Scope, Names, local_bound, bound_in, local_in, meaning_in, signature_in, is_plain, takes}
use Rattle.qc_facts.specs.Facts.{named, operator_named, operands_of}
use Rattle.qc_resolve.specs.Expressions.{Expression, value_of_bound, target_of_bound, target_of, function_of, function_of_meaning, function_of_operator, function_of_bound, bindings, use_of, use_of_meaning, use_of_operator, use_of_bound, alone_faults, is_function, is_function_of_signature, is_function_of_operator, is_function_of_local, plain_faults, argument_faults, use_faults, use_faults_of_signature, use_faults_of_operator, use_faults_of_local}
use Rattle.qc_widths.proofs.Typed.{IsGood, IsTypedTarget, IsGoodBound, SuitParams, IsGoodMeaning, IsGoodScope, MatchesLocal, MatchLocals, Matches}
use Rattle.qc_widths.proofs.TypedNodes.{none_of, by_cond, by_conds}
use Rattle.qc_widths.proofs.PlainOperators.{IsPlain, plain_operator, good_operator}

-- what is found of a name in lists that match
abbrev pub AreFound : (Local → Bound → Type 0) → Option Local → Option Bound → Type 0
AreFound P None None = Unit {0}
AreFound P None (Some b) = ⊥
AreFound P (Some l) None = ⊥
AreFound P (Some l) (Some b) = P l b

pub found_locals : (P : Bound → Type 0) (locals : List (List ℕ × Local)) (bounds : List (List ℕ × Bound)) (name : List ℕ)
    → MatchLocals locals bounds → AllByRecursion (λ b. P b.1) bounds
    → AreFound (λ l b. MatchesLocal l b × P b) (local_bound (named (λ p. p.0) locals name))
    (local_bound (named (λ p. p.0) bounds name))
found_locals P [] [] name m all = tt
found_locals P [] (b ∷ bounds) name m all = absurd m
found_locals P (l ∷ locals) [] name m all = absurd m
found_locals P (l ∷ locals) (b ∷ bounds) name m all =
    subst (λ n. AreFound (λ l b. MatchesLocal l b × P b)
    (local_bound (cond (bytes_eq n name) (Some l) (named (λ p. p.0) locals name)))
    (local_bound (cond (bytes_eq b.0 name) (Some b) (named (λ p. p.0) bounds name)))) (sym m.0)
    (by_conds (λ x y. AreFound (λ l b. MatchesLocal l b × P b) (local_bound x) (local_bound y)) (bytes_eq b.0 name)
    (Some l) (named (λ p. p.0) locals name) (Some b) (named (λ p. p.0) bounds name) (m.1, all.0)
    (found_locals P locals bounds name m.2 all.1))

-- the signature that is found is that of the meaning that is found
pub named_of_map : {A B : Type 0} (g : A → B) (name_of : B → List ℕ) (xs : List A) (name : List ℕ)
    → named name_of (map g xs) name ≡ option_map g (named (λ x. name_of (g x)) xs name)
named_of_map g name_of [] name = refl
named_of_map g name_of (x ∷ xs) name =
    by_conds (λ u v. u ≡ option_map g v) (bytes_eq (name_of (g x)) name) (Some (g x)) (named name_of (map g xs) name)
    (Some x) (named (λ y. name_of (g y)) xs name) refl (named_of_map g name_of xs name)

pub named_is : {A : Type 0} (P : A → Type 0) (name_of : A → List ℕ) (xs : List A) (name : List ℕ) → AllByRecursion P xs
    → IfSome (named name_of xs name) P
named_is P name_of [] name all = tt
named_is P name_of (x ∷ xs) name all =
    by_cond (λ o. IfSome o P) (bytes_eq (name_of x) name) (Some x) (named name_of xs name) all.0
    (named_is P name_of xs name all.1)

pub unknown : (token : ℕ) (fs : List WidthFault) → UnknownName token ∷ fs ≡ [] → ⊥
unknown token fs e = cc e

-- a test that gives no fault
known : (b : Bool) (token : ℕ) → unknown_unless b token ≡ [] → b ≡ true
known true token e = refl
known false token e = cc e

pub tested : (b : Bool) (f : WidthFault) → (if b then [] else f ∷ []) ≡ [] → b ≡ true
tested true f e = refl
tested false f e = cc e

equal : (a b : ℕ) → nat_eq a b ≡ true → a ≡ b
equal a b e = grind (arith, common_steps)

same : (a b : ℕ) → a ≡ b → nat_eq a b ≡ true
same a b e = grind (arith, common_steps)

-- what the tests of a signature tell
plain_parts : (s : Signature) (arity : ℕ) → is_plain s arity ≡ true → (s.effects ≡ false) × (length s.params ≡ arity)
    × (list_all (λ p. cond (is_some p) false true) s.params ≡ true)
plain_parts s arity e = grind (arith, common_steps)

takes_parts : (s : Signature) (count : ℕ) → takes false s count ≡ true
    → (s.effects ≡ false) × (length s.params ≡ count)
takes_parts s count e = grind (arith, common_steps)

module _ (context : Context) (kinds : List OperandKind) (names : Names) (scope : Scope) (matches : Matches names scope)
    (good : IsGoodScope context kinds scope) where
  -- without faults an expression is good here
  abbrev pub IsFineHere : Expression → Type 0
  IsFineHere x = x.faults names ≡ [] → IsGood context kinds (x.value scope)

  pub local : (name : List ℕ)
      → AreFound (λ l b. MatchesLocal l b × IsGoodBound context kinds b) (local_in names name) (bound_in scope name)
  local name = found_locals (IsGoodBound context kinds) names.locals scope.locals name matches.locals
      (recursion_from_All (λ l. IsGoodBound context kinds l.1) scope.locals good.locals)

  pub signature : (name : List ℕ) → signature_in names name ≡ option_map (λ m. m.signature) (meaning_in scope name)
  signature name = ap (λ fs. named (λ s. s.name) fs name) matches.functions
      ∙ named_of_map (λ m. m.signature) (λ s. s.name) scope.functions name

  pub meaning : (name : List ℕ) → IfSome (meaning_in scope name) (IsGoodMeaning context kinds)
  meaning name = named_is (IsGoodMeaning context kinds) (λ m. m.signature.name) scope.functions name
      (recursion_from_All (IsGoodMeaning context kinds) scope.functions good.functions)

  alone_case : (l : Option Local) (b : Option Bound) (token : ℕ)
      → AreFound (λ x y. MatchesLocal x y × IsGoodBound context kinds y) l b → alone_faults l token ≡ []
      → IsGood context kinds (value_of_bound (Some context.word) b token)
  alone_case None None token f e = absurd (unknown token [] e)
  alone_case None (Some b) token f e = absurd f
  alone_case (Some l) None token f e = absurd f
  alone_case (Some (plain fits)) (Some (argument v target)) token f e = f.1.0
  alone_case (Some (plain fits)) (Some (operand number facts)) token f e = λ none. f.1.0 token
  alone_case (Some (plain fits)) (Some (function arity apply)) token f e = absurd f.0
  alone_case (Some (applied arity)) (Some b) token f e = absurd (unknown token [] e)

  pub fine_name : (name : Ident) → alone_faults (local_in names name.text) name.token ≡ []
      → IsGood context kinds (value_of_bound scope.facts.word (bound_in scope name.text) name.token)
  fine_name name e =
      subst (λ w. IsGood context kinds (value_of_bound w (bound_in scope name.text) name.token)) (sym good.facts.word)
      (alone_case (local_in names name.text) (bound_in scope name.text) name.token (local name.text) e)

  target_case : (l : Option Local) (b : Option Bound)
      → AreFound (λ x y. MatchesLocal x y × IsGoodBound context kinds y) l b
      → IfSome (target_of_bound b) (IsTypedTarget context kinds)
  target_case None None f = tt
  target_case None (Some b) f = absurd f
  target_case (Some l) None f = absurd f
  target_case (Some l) (Some (argument v target)) f = f.1.1
  target_case (Some l) (Some (operand number facts)) f = f.1.1
  target_case (Some l) (Some (function arity apply)) f = tt

  pub typed_target : (bare : Option Ident) → IfSome (target_of scope bare) (IsTypedTarget context kinds)
  typed_target None = tt
  typed_target (Some name) = target_case (local_in names name.text) (bound_in scope name.text) (local name.text)

  -- plain arguments suit plain parameters
  suit_plain : (params : List (Option ℕ)) (args : List Value) → length params ≡ length args
      → list_all (λ p. cond (is_some p) false true) params ≡ true → AllByRecursion (IsGood context kinds) args
      → SuitParams context kinds params [] (map (λ v. argument v None) args)
  suit_plain [] [] e all goods = tt
  suit_plain [] (v ∷ args) e all goods = cc e
  suit_plain (p ∷ params) [] e all goods = cc e
  suit_plain (None ∷ params) (v ∷ args) e all goods =
      (((goods.0, tt), λ some. absurd (some refl)), suit_plain params args (cc e) all goods.1)
  suit_plain (Some arity ∷ params) (v ∷ args) e all goods = cc all

  -- a function of so many plain arguments that is declared
  meaning_case : (m : Option Meaning) (arity : ℕ) (token : ℕ) (args : List Value) → IfSome m (IsGoodMeaning context kinds)
      → is_function_of_signature arity (option_map (λ x. x.signature) m) ≡ true → length args ≡ arity
      → AllByRecursion (IsGood context kinds) args → IsGood context kinds (function_of_meaning arity m token args)
  meaning_case None arity token args g e n all = cc e
  meaning_case (Some m) arity token args g e n all =
      let parts : (m.signature.effects ≡ false) × (length m.signature.params ≡ arity)
      × (list_all (λ p. cond (is_some p) false true) m.signature.params ≡ true) = plain_parts m.signature arity e in
      subst (λ b. IsGood context kinds (if b then m.apply token (map (λ v. argument v None) args) else faulty token))
      (sym e)
      (g.value parts.0 token (map (λ v. argument v None) args)
      (subst (λ targets. SuitParams context kinds m.signature.params targets (map (λ v. argument v None) args))
      (sym (g.untargeted parts.0))
      (suit_plain m.signature.params args (parts.1 ∙ sym n) parts.2 all)))

  operator_case : (o : Option Op) (m : Option Meaning) (arity : ℕ) (token : ℕ) (args : List Value)
      → ((x : Op) → o ≡ Some x → IsPlain x) → IfSome m (IsGoodMeaning context kinds)
      → is_function_of_operator arity o (option_map (λ x. x.signature) m) ≡ true → length args ≡ arity
      → AllByRecursion (IsGood context kinds) args → IsGood context kinds (function_of_operator arity o m token args)
  operator_case None m arity token args p g e n all = meaning_case m arity token args g e n all
  operator_case (Some o) m arity token args p g e n all =
      subst (λ b. IsGood context kinds (if b then operator_at o token args else faulty token)) (sym e)
      (good_operator context kinds o (p o refl) token args (n ∙ sym (equal (operands_of o) arity e)) all)

  function_case : (l : Option Local) (b : Option Bound) (o : Option Op) (m : Option Meaning) (arity : ℕ) (token : ℕ)
      (args : List Value) → AreFound (λ x y. MatchesLocal x y × IsGoodBound context kinds y) l b
      → ((x : Op) → o ≡ Some x → IsPlain x) → IfSome m (IsGoodMeaning context kinds)
      → is_function_of_local arity l o (option_map (λ x. x.signature) m) ≡ true → length args ≡ arity
      → AllByRecursion (IsGood context kinds) args → IsGood context kinds (function_of_bound arity b o m token args)
  function_case None None o m arity token args f p g e n all = operator_case o m arity token args p g e n all
  function_case None (Some b) o m arity token args f p g e n all = absurd f
  function_case (Some l) None o m arity token args f p g e n all = absurd f
  function_case (Some (plain fits)) (Some b) o m arity token args f p g e n all = cc e
  function_case (Some (applied k)) (Some (argument v target)) o m arity token args f p g e n all = absurd f.0
  function_case (Some (applied k)) (Some (operand number facts)) o m arity token args f p g e n all = absurd f.0
  function_case (Some (applied k)) (Some (function n apply)) o m arity token args f p g e count all =
      let here : n ≡ arity = f.0 ∙ equal k arity e in
      subst (λ b. IsGood context kinds (if b then apply token args else faulty token)) (sym (same n arity here))
      (f.1 token args (count ∙ sym here) (All-from_recursion (IsGood context kinds) args all))

  -- the name of a function of so many arguments is good for them
  good_function : (arity : ℕ) (bare : Option Ident) → is_function names arity bare ≡ true → (token : ℕ) (args : List Value)
      → length args ≡ arity → All (IsGood context kinds) args
      → IsGood context kinds (function_of scope arity bare token args)
  good_function arity None e token args n all = cc e
  good_function arity (Some name) e token args n all =
      function_case (local_in names name.text) (bound_in scope name.text) (operator_named name.text)
      (meaning_in scope name.text) arity token args (local name.text) (plain_operator name.text) (meaning name.text)
      (subst (λ s. is_function_of_local arity (local_in names name.text) (operator_named name.text) s ≡ true)
      (signature name.text) e) n (recursion_from_All (IsGood context kinds) args all)

  good_values : (args : List Expression) → plain_faults names args ≡ [] → AllByRecursion IsFineHere args
      → AllByRecursion (IsGood context kinds) (map (λ a. a.value scope) args)
  good_values [] e all = tt
  good_values (a ∷ args) e all =
      let parts : (a.faults names ≡ []) × (plain_faults names args ≡ []) =
      none_of (a.faults names) (plain_faults names args) e in
      (all.0 parts.0, good_values args parts.1 all.1)

  -- where a parameter stands for targets its argument is a register
  abbrev pub AreThere : List (List ℕ) → List Expression → Type 0
  AreThere [] args = Unit {0}
  AreThere (tokens ∷ targets) [] = Unit {0}
  AreThere (tokens ∷ targets) (a ∷ args) =
      (tokens ≢ [] → is_some (target_of scope a.bare) ≡ true) × AreThere targets args

  pub suits : (params : List (Option ℕ)) (targets : List (List ℕ)) (args : List Expression) → length params ≡ length args
      → argument_faults names params args ≡ [] → AreThere targets args → AllByRecursion IsFineHere args
      → SuitParams context kinds params targets (bindings scope params args)
  suits [] targets [] n e there all = tt
  suits [] targets (a ∷ args) n e there all = cc n
  suits (p ∷ params) targets [] n e there all = cc n
  suits (None ∷ params) [] (a ∷ args) n e there all =
      let parts : (a.faults names ≡ []) × (argument_faults names params args ≡ []) =
      none_of (a.faults names) (argument_faults names params args) e in (
        ((all.0 parts.0, typed_target a.bare), λ some. absurd (some refl)),
        suits params [] args (cc n) parts.1 tt all.1,
      )
  suits (None ∷ params) (tokens ∷ targets) (a ∷ args) n e there all =
      let parts : (a.faults names ≡ []) × (argument_faults names params args ≡ []) =
      none_of (a.faults names) (argument_faults names params args) e in
      (((all.0 parts.0, typed_target a.bare), there.0), suits params targets args (cc n) parts.1 there.1 all.1)
  suits (Some arity ∷ params) [] (a ∷ args) n e there all =
      let parts : ((if is_function names arity a.bare then [] else UnknownName a.first ∷ []) ≡ [])
      × (argument_faults names params args ≡ []) =
      none_of (if is_function names arity a.bare then [] else UnknownName a.first ∷ [])
      (argument_faults names params args) e in (
        (refl, good_function arity a.bare (tested (is_function names arity a.bare) (UnknownName a.first) parts.0)),
        suits params [] args (cc n) parts.1 tt all.1,
      )
  suits (Some arity ∷ params) (tokens ∷ targets) (a ∷ args) n e there all =
      let parts : ((if is_function names arity a.bare then [] else UnknownName a.first ∷ []) ≡ [])
      × (argument_faults names params args ≡ []) =
      none_of (if is_function names arity a.bare then [] else UnknownName a.first ∷ [])
      (argument_faults names params args) e in (
        (refl, good_function arity a.bare (tested (is_function names arity a.bare) (UnknownName a.first) parts.0)),
        suits params targets args (cc n) parts.1 there.1 all.1,
      )

  -- a use of a declared function
  use_of_meaning_case : (m : Option Meaning) (token : ℕ) (args : List Expression)
      → IfSome m (IsGoodMeaning context kinds)
      → use_faults_of_signature names false (option_map (λ x. x.signature) m) token args ≡ []
      → AllByRecursion IsFineHere args → IsGood context kinds (use_of_meaning scope m token args)
  use_of_meaning_case None token args g e all = absurd (unknown token (plain_faults names args) e)
  use_of_meaning_case (Some m) token args g e all = by_test (takes false m.signature (length args)) refl e
    where
      by_test : (b : Bool) → takes false m.signature (length args) ≡ b
          → (if b then argument_faults names m.signature.params args else UnknownName token ∷ plain_faults names args) ≡ []
          → IsGood context kinds
          (if b then m.apply token (bindings scope m.signature.params args) else faulty token)
      by_test true is faults =
          let parts : (m.signature.effects ≡ false) × (length m.signature.params ≡ length args) =
          takes_parts m.signature (length args) is in
          g.value parts.0 token (bindings scope m.signature.params args)
          (subst (λ targets. SuitParams context kinds m.signature.params targets (bindings scope m.signature.params args))
          (sym (g.untargeted parts.0))
          (suits m.signature.params [] args parts.1 faults tt all))
      by_test false is faults = absurd (unknown token (plain_faults names args) faults)

  use_of_operator_case : (o : Option Op) (m : Option Meaning) (token : ℕ) (args : List Expression)
      → ((x : Op) → o ≡ Some x → IsPlain x) → IfSome m (IsGoodMeaning context kinds)
      → use_faults_of_operator names o (option_map (λ x. x.signature) m) token args ≡ []
      → AllByRecursion IsFineHere args → IsGood context kinds (use_of_operator scope o m token args)
  use_of_operator_case None m token args p g e all = use_of_meaning_case m token args g e all
  use_of_operator_case (Some o) m token args p g e all =
      let parts : (unknown_unless (nat_eq (operands_of o) (length args)) token ≡ []) × (plain_faults names args ≡ []) =
      none_of (unknown_unless (nat_eq (operands_of o) (length args)) token) (plain_faults names args) e in
      good_operator context kinds o (p o refl) token (map (λ a. a.value scope) args)
      (length-map args (λ a. a.value scope)
      ∙ sym (equal (operands_of o) (length args) (known (nat_eq (operands_of o) (length args)) token parts.0)))
      (good_values args parts.1 all)

  use_case : (l : Option Local) (b : Option Bound) (o : Option Op) (m : Option Meaning) (token : ℕ)
      (args : List Expression) → AreFound (λ x y. MatchesLocal x y × IsGoodBound context kinds y) l b
      → ((x : Op) → o ≡ Some x → IsPlain x) → IfSome m (IsGoodMeaning context kinds)
      → use_faults_of_local names l o (option_map (λ x. x.signature) m) token args ≡ []
      → AllByRecursion IsFineHere args → IsGood context kinds (use_of_bound scope b o m token args)
  use_case None None o m token args f p g e all = use_of_operator_case o m token args p g e all
  use_case None (Some b) o m token args f p g e all = absurd f
  use_case (Some l) None o m token args f p g e all = absurd f
  use_case (Some (plain fits)) (Some b) o m token args f p g e all = absurd (unknown token (plain_faults names args) e)
  use_case (Some (applied k)) (Some (argument v target)) o m token args f p g e all = absurd f.0
  use_case (Some (applied k)) (Some (operand number facts)) o m token args f p g e all = absurd f.0
  use_case (Some (applied k)) (Some (function n apply)) o m token args f p g e all =
      let parts : (unknown_unless (nat_eq k (length args)) token ≡ []) × (plain_faults names args ≡ []) =
      none_of (unknown_unless (nat_eq k (length args)) token) (plain_faults names args) e in
      let here : n ≡ length args = f.0 ∙ equal k (length args) (known (nat_eq k (length args)) token parts.0) in
      subst (λ b. IsGood context kinds (if b then apply token (map (λ a. a.value scope) args) else faulty token))
      (sym (same n (length args) here))
      (f.1 token (map (λ a. a.value scope) args) (length-map args (λ a. a.value scope) ∙ sym here)
      (All-from_recursion (IsGood context kinds) (map (λ a. a.value scope) args) (good_values args parts.1 all)))

  pub fine_use : (name : Ident) (args : List Expression) → use_faults names name args ≡ []
      → AllByRecursion IsFineHere args → IsGood context kinds (use_of scope name args)
  fine_use name args e all =
      use_case (local_in names name.text) (bound_in scope name.text) (operator_named name.text)
      (meaning_in scope name.text) name.token args (local name.text) (plain_operator name.text) (meaning name.text)
      (subst (λ s. use_faults_of_local names (local_in names name.text) (operator_named name.text) s name.token args ≡ [])
      (signature name.text) e) all
