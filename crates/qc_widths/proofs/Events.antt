-- Effects show as many things as is known of them without their uses.
use Rattle.std.specs.Prelude.{ℕ, suc, ◌≡◌, ◌+◌, Bool, true, false, cond, if◌then◌else◌, List, [], ◌∷◌, ◌++◌, length, map, Option, None, Some, IfSome, is_some}
use Rattle.std.specs.List.{AllByRecursion, flat_map}
use Rattle.std.specs.Option.{option_map}
use Rattle.std.specs.Str.{bytes_eq}
use Rattle.std.proofs.Common.{refl, ap, sym, ◌∙◌, subst, arith}
use Rattle.std.proofs.lemmas.Grind.{common_steps}
use Rattle.std.proofs.lemmas.List.{length-map, length-append}
use Rattle.std.proofs.lemmas.List.Sums.{sum_by-append}
use Rattle.qc_words.specs.declared.operator.Op.{Op}
use Rattle.qc_terms.specs.Typing.{is_event}
use Rattle.qc_lrtl.specs.declared.syntax.Expr.{Expr}
use Rattle.qc_lrtl.specs.declared.syntax.Guard.{Guard}
use Rattle.qc_lrtl.specs.declared.syntax.Effect.{Effect}
use Rattle.qc_lrtl.specs.declared.syntax.Simple.{Simple}
use Rattle.qc_lrtl.specs.declared.syntax.Simple.TheVariants.{Name, Cell, Use}
use Rattle.qc_facts.specs.declared.facts.Local.{Local}
use Rattle.qc_facts.specs.declared.facts.Target.{Target}
use Rattle.qc_facts.specs.Values.{Value}
use Rattle.qc_resolve.specs.Scopes.{Act, Bound, Signature, Meaning, Scope, Names, local_bound, bound_in, local_in, meaning_in, takes}
use Rattle.qc_facts.specs.Facts.{named, operator_named, cell_named}
use Rattle.qc_resolve.specs.Expressions.{Expression, expression_of, value_of, target_of, bindings}
use Rattle.qc_resolve.specs.Effects.{act_on, acts_of_meaning, acts_of_simple, guarded, acts_under, acts_of_effect, acts_of, effects_of, events_of, simple_events, effect_events}
use Rattle.qc_resolve.specs.Declarations.{signatures_of}
use Rattle.qc_widths.proofs.Typed.{count_events, TellsEvents}
use Rattle.qc_widths.proofs.TypedNodes.{by_conds}
use Rattle.qc_widths.proofs.Fine.{named_of_map, named_is}

-- the same names, whatever they stand for
abbrev pub SameNames : List (List ℕ × Local) → List (List ℕ × Bound) → Type 0
SameNames [] [] = Unit {0}
SameNames [] (b ∷ bounds) = ⊥
SameNames (l ∷ locals) [] = ⊥
SameNames (l ∷ locals) (b ∷ bounds) = (l.0 ≡ b.0) × SameNames locals bounds

abbrev SameThere : Option (List ℕ × Local) → Option (List ℕ × Bound) → Type 0
SameThere l b = is_some (local_bound l) ≡ is_some (local_bound b)

same_there : (locals : List (List ℕ × Local)) (bounds : List (List ℕ × Bound)) (name : List ℕ) → SameNames locals bounds
    → is_some (local_bound (named (λ p. p.0) locals name)) ≡ is_some (local_bound (named (λ p. p.0) bounds name))
same_there [] [] name same = refl
same_there [] (b ∷ bounds) name same = absurd same
same_there (l ∷ locals) [] name same = absurd same
same_there (l ∷ locals) (b ∷ bounds) name same =
    subst (λ n. SameThere (cond (bytes_eq n name) (Some l) (named (λ p. p.0) locals name))
    (cond (bytes_eq b.0 name) (Some b) (named (λ p. p.0) bounds name))) (sym same.0)
    (by_conds SameThere (bytes_eq b.0 name) (Some l) (named (λ p. p.0) locals name) (Some b)
    (named (λ p. p.0) bounds name) refl (same_there locals bounds name same.1))

-- the number of effects that show something, by recursion on the list
abbrev pub shown : Act → ℕ
shown act = cond (is_event act.to) 1 0

abbrev pub shown_among : List Act → ℕ
shown_among [] = 0
shown_among (x ∷ xs) = shown x + shown_among xs

pub count_is : (xs : List Act) → count_events xs ≡ shown_among xs
count_is [] = refl
count_is (x ∷ xs) =
    let split : count_events (x ∷ xs) ≡ count_events (x ∷ []) + count_events xs = sum_by-append shown (x ∷ []) xs in
    let one : count_events (x ∷ []) ≡ shown x = omega arith in
    omega (arith, split, one, count_is xs)

shown-append : (xs ys : List Act) → shown_among (xs ++ ys) ≡ shown_among xs + shown_among ys
shown-append [] ys = omega arith
shown-append (x ∷ xs) ys = omega (arith, shown-append xs ys)

shown_guarded : (gv : Value) (acts : List Act) → shown_among (map (guarded gv) acts) ≡ shown_among acts
shown_guarded gv [] = refl
shown_guarded gv (act ∷ acts) = ap (λ n. shown act + n) (shown_guarded gv acts)

shown_on : (o : Option Target) (value : Value) → shown_among (act_on o value ∷ []) ≡ 0
shown_on None value = refl
shown_on (Some target) value = refl

taken : (s : Signature) (n : ℕ) → takes true s n ≡ true → length s.params ≡ n
taken s n e = grind (arith, common_steps)

all_bound : (scope : Scope) (params : List (Option ℕ)) (xs : List Expression) → length params ≡ length xs
    → length (bindings scope params xs) ≡ length params
all_bound scope [] xs n = refl
all_bound scope (p ∷ params) [] n = cc n
all_bound scope (None ∷ params) (x ∷ xs) n = ap suc (all_bound scope params xs (cc n))
all_bound scope (Some arity ∷ params) (x ∷ xs) n = ap suc (all_bound scope params xs (cc n))

module _ (names : Names) (scope : Scope) (same : SameNames names.locals scope.locals)
    (functions : names.functions ≡ signatures_of scope.functions)
    (tell : AllByRecursion TellsEvents scope.functions) where
  use_case : (l : Option Local) (b : Option Bound) (o : Option Op) (m : Option Meaning) (args : List Expr)
      → is_some l ≡ is_some b → IfSome m TellsEvents
      → shown_among (acts_of_meaning scope b o m (map expression_of args))
      ≡ length (events_of (effects_of l o (option_map (λ x. x.signature) m) (length args)))
  use_case None (Some b) o m args e t = cc e
  use_case (Some l) None o m args e t = cc e
  use_case (Some l) (Some b) o m args e t = refl
  use_case None None (Some o) m args e t = refl
  use_case None None None None args e t = refl
  use_case None None None (Some m) args e t =
      subst (λ n. shown_among (if takes true m.signature n
      then m.acts (bindings scope m.signature.params (map expression_of args)) else [])
      ≡ length (events_of (if takes true m.signature (length args) then Some m.signature else None)))
      (sym (length-map args expression_of)) (by_test (takes true m.signature (length args)) refl)
    where
      by_test : (b : Bool) → takes true m.signature (length args) ≡ b
          → shown_among (if b then m.acts (bindings scope m.signature.params (map expression_of args)) else [])
          ≡ length (events_of (if b then Some m.signature else None))
      by_test false is = refl
      by_test true is =
          let count : length m.signature.params ≡ length args = taken m.signature (length args) is in
          sym (count_is (m.acts (bindings scope m.signature.params (map expression_of args))))
          ∙ t.count (bindings scope m.signature.params (map expression_of args))
          (all_bound scope m.signature.params (map expression_of args) (count ∙ sym (length-map args expression_of)))

  shown_simple : (simple : Simple) → shown_among (acts_of_simple scope simple) ≡ length (simple_events names simple)
  shown_simple (Name name value) = shown_on (target_of scope (Some name)) (value_of scope value)
  shown_simple (Cell space cell value) = shown_on (cell_named scope.facts space cell) (value_of scope value)
  shown_simple (Use name args) =
      use_case (local_in names name.text) (bound_in scope name.text) (operator_named name.text)
      (meaning_in scope name.text) args (same_there names.locals scope.locals name.text same)
      (named_is TellsEvents (λ m. m.signature.name) scope.functions name.text tell)
      ∙ ap (λ s. length (events_of (effects_of (local_in names name.text) (operator_named name.text) s (length args))))
      (sym (ap (λ fs. named (λ s. s.name) fs name.text) functions
      ∙ named_of_map (λ m. m.signature) (λ s. s.name) scope.functions name.text))
  shown_simple _ = refl

  shown_under : (guard : Option Guard) (acts : List Act) → shown_among (acts_under scope guard acts) ≡ shown_among acts
  shown_under None acts = refl
  shown_under (Some guard) acts = shown_guarded (value_of scope guard.condition) acts

  pub shown_effects : (effects : List Effect)
      → shown_among (acts_of scope effects) ≡ length (flat_map (effect_events names) effects)
  unfolding effect_events acts_of_effect
  shown_effects [] = refl
  shown_effects (e ∷ effects) =
      let first : shown_among (acts_of_effect scope e) ≡ length (effect_events names e) =
      shown_under e.guard (acts_of_simple scope e.simple) ∙ shown_simple e.simple in
      shown-append (acts_of_effect scope e) (acts_of scope effects)
      ∙ omega (arith, first, shown_effects effects)
      ∙ sym (length-append (effect_events names e) (flat_map (effect_events names) effects))
