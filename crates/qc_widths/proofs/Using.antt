-- Uses of functions.
use Rattle.std.specs.Prelude.{ℕ, zero, suc, ◌≡◌, ◌+◌, ◌<◌, Bool, true, false, ◌&&◌, nat_eq, cond, if◌then◌else◌, List, [], ◌∷◌, ◌++◌, length, map, slice_get, Option, None, Some, is_some}
use Rattle.std.specs.List.{list_all}
use Rattle.std.proofs.Common.{refl, ap, sym, subst, ◌∙◌, arith, get_or, eq-eqb, inl, inr}
use Rattle.std.proofs.lemmas.Bool.{cases_lt}
use Rattle.std.proofs.lemmas.Grind.{common_steps}
use Rattle.std.proofs.lemmas.List.{length-map}
use Rattle.qc_lists.specs.Law.Lists.{slice_get-append_left, slice_get-append_right}
use Rattle.qc_words.specs.declared.operator.Op.{Op}
use Rattle.qc_grammar.specs.declared.cursor.Ident.{Ident}
use Rattle.qc_lrtl.specs.declared.syntax.Expr.{Expr}
use Rattle.qc_lrtl.specs.declared.syntax.Param.{Param}
use Rattle.qc_widths.specs.declared.scope.Bound as code
use Rattle.qc_widths.specs.declared.scope.Callee.TheVariants.{Unknown, Declared}
use Rattle.qc_resolve.specs.Scopes.{Bound, function, Meaning, Scope, is_plain, takes}
use Rattle.qc_facts.specs.Facts.{Facts}
use Rattle.qc_lrtl.specs.declared.syntax.Effect.{Effect}
use Rattle.qc_resolve.specs.Effects.{acts_of, acts_of_meaning}
use Rattle.qc_resolve.specs.Declarations.{arity_of, bound_params, meaning_of_effects, meaning_of_function, scope_for}
use Rattle.qc_resolve.specs.Expressions.{Expression, bindings, expression_of, use_of_bound, use_of_operator, use_of_meaning, function_of_meaning, value_of}
use Rattle.qc_widths.specs.Inner.KeptValues.{IsCallee, AreBound, AreBelow, IsBound, IsBoundBelow, binding, seen, nodes_in}
use Rattle.qc_facts.specs.Values as values
use Rattle.qc_words.specs.Operators.{is_unary}
use Rattle.qc_widths.specs.declared.value.Value.TheVariants.{Huge}
use Rattle.qc_widths.proofs.Seen.{huge_of, huge_bin, seen_large}

none_some : {A : Type 0} (x : A) → None ≡ Some x → ⊥
none_some x e = cc

false_true : false ≡ true → ⊥
false_true e = cc

-- as many parameters as arguments
fits : (params : List Param) (args : List Expr) → length params ≡ length args
    → nat_eq (length (map arity_of params)) (length (map expression_of args)) ≡ true
fits params args e = eq-eqb (length (map arity_of params)) (length (map expression_of args))
    (length-map params arity_of ∙ e ∙ sym (length-map args expression_of))

pub use_function : (spec : Scope) (facts : Facts) (earlier : List Meaning) (m : Option Meaning) (name : Ident) (params : List Param)
    (body : Expr) (token : ℕ) (args : List Expr) → m ≡ Some (meaning_of_function facts earlier name params body)
    → length params ≡ length args
    → use_of_meaning spec m token (map expression_of args)
    ≡ value_of (scope_for facts earlier (bound_params params (bindings spec (map arity_of params) (map expression_of args)))) body
use_function spec facts earlier m name params body token args e h =
    ap (λ x. use_of_meaning spec x token (map expression_of args)) e ∙ rw (fits params args h) refl

pub values_map : (spec : Scope) (args : List Expr) → map (λ arg. arg.value spec) (map expression_of args) ≡ map (value_of spec) args
values_map spec [] = refl
values_map spec (a ∷ args) = ap (λ l. value_of spec a ∷ l) (values_map spec args)

-- the use of a parameter that is a function
pub use_applied : (spec : Scope) (o : Option Bound) (op : Option Op) (m : Option Meaning) (n : ℕ)
    (apply : ℕ → List values.Value → values.Value) (token : ℕ) (args : List Expr) → o ≡ Some (function n apply) → n ≡ length args
    → use_of_bound spec o op m token (map expression_of args) ≡ apply token (map (value_of spec) args)
use_applied spec o op m n apply token args e h =
    let t : nat_eq n (length (map expression_of args)) ≡ true =
    eq-eqb n (length (map expression_of args)) (h ∙ sym (length-map args expression_of)) in
    ap (λ x. use_of_bound spec x op m token (map expression_of args)) e ∙ rw t (ap (apply token) (values_map spec args))

pub use_operator : (spec : Scope) (b : Option Bound) (o : Option Op) (op : Op) (m : Option Meaning) (token : ℕ) (args : List Expr)
    → b ≡ None → o ≡ Some op
    → use_of_bound spec b o m token (map expression_of args) ≡ values.operator_at op token (map (value_of spec) args)
use_operator spec b o op m token args e h =
    ap (λ x. use_of_bound spec x o m token (map expression_of args)) e
    ∙ ap (λ x. use_of_operator spec x m token (map expression_of args)) h
    ∙ ap (values.operator_at op token) (values_map spec args)

-- a use that does not fit
pub use_faulty : (spec : Scope) (o : Option Meaning) (m : Meaning) (token : ℕ) (args : List Expr) → o ≡ Some m
    → takes false m.signature (length (map expression_of args)) ≡ false
    → use_of_meaning spec o token (map expression_of args) ≡ values.faulty token
use_faulty spec o m token args e h = ap (λ x. use_of_meaning spec x token (map expression_of args)) e ∙ rw h refl

pub effects_take_none : (m : Meaning) (count : ℕ) → m.signature.effects ≡ true → takes false m.signature count ≡ false
effects_take_none m count e = rw e refl

other_count : (a b : ℕ) → (a ≡ b → ⊥) → nat_eq a b ≡ false
other_count a b h = grind (arith, common_steps)

pub other_takes_none : (facts : Facts) (earlier : List Meaning) (name : Ident) (params : List Param) (body : Expr) (args : List Expr)
    → (length params ≡ length args → ⊥)
    → takes false (meaning_of_function facts earlier name params body).signature (length (map expression_of args)) ≡ false
other_takes_none facts earlier name params body args h =
    other_count (length (map arity_of params)) (length (map expression_of args))
    (λ e. h (sym (length-map params arity_of) ∙ e ∙ length-map args expression_of))

-- a plain function is no named effects, and has as many parameters
pub plain_no_effects : (m : Meaning) (arity : ℕ) → is_plain m.signature arity ≡ true → m.signature.effects ≡ true → ⊥
plain_no_effects m arity e h = false_true (sym (ap (λ x. cond x false (nat_eq (length m.signature.params) arity
    && list_all (λ p. cond (is_some p) false true) m.signature.params)) h) ∙ e)

and_left : (a b : Bool) → (a && b) ≡ true → a ≡ true
and_left true b e = refl
and_left false b e = e

same_count : (a b : ℕ) → nat_eq a b ≡ true → a ≡ b
same_count a b e = grind (arith, common_steps)

pub plain_count : (facts : Facts) (earlier : List Meaning) (name : Ident) (params : List Param) (body : Expr) (arity : ℕ)
    → is_plain (meaning_of_function facts earlier name params body).signature arity ≡ true → length params ≡ arity
plain_count facts earlier name params body arity e =
    sym (length-map params arity_of) ∙ same_count (length (map arity_of params)) arity
    (and_left (nat_eq (length (map arity_of params)) arity) (list_all (λ p. cond (is_some p) false true) (map arity_of params)) e)

-- bindings one by one
pub bindings_length : (spec : Scope) (params : List (Option ℕ)) (args : List Expression) → length params ≡ length args
    → length (bindings spec params args) ≡ length params
bindings_length spec [] args e = refl
bindings_length spec (p ∷ params) [] e = absurd (omega (arith, e))
bindings_length spec (None ∷ params) (a ∷ args) e = ap suc (bindings_length spec params args (omega (arith, e)))
bindings_length spec (Some n ∷ params) (a ∷ args) e = ap suc (bindings_length spec params args (omega (arith, e)))

pub some_of : {A : Type 0} (a b : A) → Some a ≡ Some b → a ≡ b
some_of a b e = cc

pub bindings_at : (spec : Scope) (params : List (Option ℕ)) (args : List Expression) (k : ℕ) (p : Option ℕ) (a : Expression)
    → slice_get params k ≡ Some p → slice_get args k ≡ Some a → slice_get (bindings spec params args) k ≡ Some (binding spec p a)
bindings_at spec [] args k p a e h = absurd (none_some p e)
bindings_at spec (q ∷ params) [] k p a e h = absurd (none_some a h)
bindings_at spec (None ∷ params) (b ∷ args) zero p a e h =
    ap (λ x. Some (binding spec None x)) (some_of b a h) ∙ ap (λ x. Some (binding spec x a)) (some_of None p e)
bindings_at spec (Some n ∷ params) (b ∷ args) zero p a e h =
    ap (λ x. Some (binding spec (Some n) x)) (some_of b a h) ∙ ap (λ x. Some (binding spec x a)) (some_of (Some n) p e)
bindings_at spec (None ∷ params) (b ∷ args) (suc k) p a e h = bindings_at spec params args k p a e h
bindings_at spec (Some n ∷ params) (b ∷ args) (suc k) p a e h = bindings_at spec params args k p a e h

pub map_at : {A B : Type 0} (f : A → B) (xs : List A) (k : ℕ) (x : A) → slice_get xs k ≡ Some x → slice_get (map f xs) k ≡ Some (f x)
map_at f [] k x e = absurd (none_some x e)
map_at f (y ∷ xs) zero x e = ap (λ z. Some (f z)) (some_of y x e)
map_at f (y ∷ xs) (suc k) x e = map_at f xs k x e

pub bound_push : (ms : List Meaning) (n : ℕ) (kept : List code.Bound) (bounds : List Bound) (b : code.Bound) (s : Bound)
    → length kept ≡ n → AreBound ms n kept bounds → slice_get bounds n ≡ Some s → IsBound ms b s
    → AreBound ms (n + 1) (kept ++ b ∷ []) bounds
bound_push ms n kept bounds b s e are g is = record {
  each = λ k h. elim (cases_lt k n) [
    | inl below ↦ let r = are.each k below in
        (r.0, r.1, slice_get-append_left kept (b ∷ []) k (omega arith) ∙ r.2, r.3, r.4)
    | inr above ↦
        let here : k ≡ n = omega arith in (
          b,
          s,
          ap (λ i. slice_get (kept ++ b ∷ []) i) (omega arith) ∙ slice_get-append_right kept (b ∷ []) 0,
          ap (λ i. slice_get bounds i) here ∙ g,
          is,
        )
  ];
}

only_below : (ceiling : ℕ) (b : code.Bound) → IsBoundBelow ceiling b → (k : ℕ) (x : code.Bound)
    → slice_get (b ∷ []) k ≡ Some x → IsBoundBelow ceiling x
only_below ceiling b is zero x e = let P : code.Bound → Type 0 = λ y. IsBoundBelow ceiling y in subst P (some_of b x e) is
only_below ceiling b is (suc k) x e = absurd (none_some x e)

more_below : (ceiling : ℕ) (y : code.Bound) (kept : List code.Bound) (b : code.Bound) → AreBelow ceiling (y ∷ kept)
    → AreBelow ceiling (kept ++ b ∷ []) → AreBelow ceiling (y ∷ (kept ++ b ∷ []))
more_below ceiling y kept b are rest zero x e = are 0 x e
more_below ceiling y kept b are rest (suc k) x e = rest k x e

pub below_push : (ceiling : ℕ) (kept : List code.Bound) (b : code.Bound) → AreBelow ceiling kept → IsBoundBelow ceiling b
    → AreBelow ceiling (kept ++ b ∷ [])
below_push ceiling [] b are is = λ k x e. only_below ceiling b is k x e
below_push ceiling (y ∷ kept) b are is = λ k x e. more_below ceiling y kept b are
    (λ i z f. below_push ceiling kept b (λ j w g. are (suc j) w g) is i z f) k x e

pub got_some : {A : Type 0} (xs : List A) (k : ℕ) (d : A) → k < length xs → slice_get xs k ≡ Some (get_or xs k d)
got_some [] k d h = absurd (omega arith)
got_some (x ∷ xs) zero d h = refl
got_some (x ∷ xs) (suc k) d h = got_some xs k d (omega arith)

-- what a name's meaning is as a function of plain arguments
pub no_callee : (ms : List Meaning) (arity : ℕ) (o : Option Meaning) → o ≡ None → IsCallee ms arity Unknown (function_of_meaning arity o)
no_callee ms arity o e = record { applies = λ token args. ap (λ m. function_of_meaning arity m token args) e; plain = tt }

pub unfit_callee : (ms : List Meaning) (arity : ℕ) (o : Option Meaning) (m : Meaning) → o ≡ Some m → is_plain m.signature arity ≡ false
    → IsCallee ms arity Unknown (function_of_meaning arity o)
unfit_callee ms arity o m e h = record {
  applies = λ token args. ap (λ x. function_of_meaning arity x token args) e ∙ rw h refl;
  plain = tt;
}

pub fit_callee : (ms : List Meaning) (arity : ℕ) (o : Option Meaning) (m : Meaning) (number : ℕ) → o ≡ Some m
    → slice_get ms number ≡ Some m → is_plain m.signature arity ≡ true
    → IsCallee ms arity (Declared number) (function_of_meaning arity o)
fit_callee ms arity o m number e g h = record {
  applies = λ token args. ap (λ x. function_of_meaning arity x token args) e ∙ rw (h, g) refl;
  plain = (m, g, h);
}

pub effects_not_plain : (m : Meaning) (arity : ℕ) → m.signature.effects ≡ true → is_plain m.signature arity ≡ false
effects_not_plain m arity e = rw e refl

-- the use of named effects
pub use_effects : (spec : Scope) (facts : Facts) (earlier : List Meaning) (o : Option Meaning) (name : Ident) (params : List Param)
    (body : List Effect) (args : List Expr) → o ≡ Some (meaning_of_effects facts earlier name params body)
    → length params ≡ length args
    → acts_of_meaning spec None None o (map expression_of args)
    ≡ acts_of (scope_for facts earlier (bound_params params (bindings spec (map arity_of params) (map expression_of args)))) body
use_effects spec facts earlier o name params body args e h =
    ap (λ x. acts_of_meaning spec None None x (map expression_of args)) e ∙ rw (fits params args h) refl

pub use_no_effects : (spec : Scope) (o : Option Meaning) (m : Meaning) (args : List Expr) → o ≡ Some m
    → takes true m.signature (length (map expression_of args)) ≡ false
    → acts_of_meaning spec None None o (map expression_of args) ≡ []
use_no_effects spec o m args e h = ap (λ x. acts_of_meaning spec None None x (map expression_of args)) e ∙ rw h refl

pub function_takes_none : (m : Meaning) (count : ℕ) → m.signature.effects ≡ false → takes true m.signature count ≡ false
function_takes_none m count e = rw e refl

pub other_effects : (facts : Facts) (earlier : List Meaning) (name : Ident) (params : List Param) (body : List Effect) (args : List Expr)
    → (length params ≡ length args → ⊥)
    → takes true (meaning_of_effects facts earlier name params body).signature (length (map expression_of args)) ≡ false
other_effects facts earlier name params body args h =
    other_count (length (map arity_of params)) (length (map expression_of args))
    (λ e. h (sym (length-map params arity_of) ∙ e ∙ length-map args expression_of))

pair_huge : (op : Op) (token : ℕ) (v w : values.Value) → is_unary op ≡ false → Huge ≡ seen v
    → Huge ≡ seen (values.operator_at op token (v ∷ w ∷ []))
pair_huge op token v w u h =
    let n : 4096 < nodes_in v = huge_of v h in
    sym (ap (λ b. seen (if b then values.faulty token else values.binary op token v w)) u
    ∙ seen_large (values.binary op token v w) (huge_bin op v w (omega arith)))

-- an operator over a first operand that is huge
pub huge_first : (spec : Scope) (op : Op) (token : ℕ) (args : List Expr) (a : Expr) → length args ≡ 2 → is_unary op ≡ false
    → slice_get args 0 ≡ Some a → Huge ≡ seen (value_of spec a)
    → Huge ≡ seen (values.operator_at op token (map (value_of spec) args))
huge_first spec op token [] a n u g h = absurd (none_some a g)
huge_first spec op token (x ∷ []) a n u g h = absurd (omega (arith, n))
huge_first spec op token (x ∷ y ∷ []) a n u g h =
    pair_huge op token (value_of spec x) (value_of spec y) u (h ∙ ap (λ e. seen (value_of spec e)) (sym (some_of x a g)))
huge_first spec op token (x ∷ y ∷ z ∷ more) a n u g h = absurd (omega (arith, n))
