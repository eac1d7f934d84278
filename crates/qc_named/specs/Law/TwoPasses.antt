-- What expressions and effects come to by names is what their trees without names come to.
use Rattle.std.proofs.Common.{ℕ, zero, suc, ◌≡◌, Bool, true, false, cond, List, [], ◌∷◌, ◌++◌, length, map, drop, slice_get, Option, None, Some, refl, sym, ap, ◌∙◌, subst, eqb-true, arith}
use Rattle.std.specs.Prelude.{nat_eq, ◌&&◌, is_some, if◌then◌else◌}
use Rattle.std.specs.List.{AllZip, list_all}
use Rattle.std.specs.Option.{option_map}
use Rattle.std.specs.Str.{bytes_eq}
use Rattle.std.proofs.lemmas.Grind.{common_steps, flat_map-append}
use Rattle.std.proofs.lemmas.List.{append-nil, map-append, length-map}
use Rattle.qc_words.specs.declared.operator.Op.{Op}
use Rattle.qc_words.specs.Operators.{is_unary}
use Rattle.qc_terms.specs.declared.term.Term.TheVariants as term
use Rattle.qc_grammar.specs.declared.cursor.Ident.{Ident}
use Rattle.qc_grammar.specs.declared.cursor.Number.{Number}
use Rattle.qc_lrtl.specs.declared.syntax.Effect.{Effect}
use Rattle.qc_lrtl.specs.declared.syntax.Expr.{Expr, roll-Expr, map-Expr, ind-Expr, fold-roll-Expr}
use Rattle.qc_lrtl.specs.declared.syntax.Expr.TheOpen.{Expr-F, Literal, Input, After, Mem, Zx, Sx, Slice, Name, Call, Cell}
use Rattle.qc_lrtl.specs.declared.syntax.Guard.{Guard}
use Rattle.qc_lrtl.specs.declared.syntax.Item.{Item}
use Rattle.qc_lrtl.specs.declared.syntax.Item.TheVariants as item
use Rattle.qc_lrtl.specs.declared.syntax.Operand.{Operand}
use Rattle.qc_lrtl.specs.declared.syntax.Param.{Param}
use Rattle.qc_lrtl.specs.declared.syntax.Simple.{Simple}
use Rattle.qc_lrtl.specs.declared.syntax.Simple.TheVariants as simple
use Rattle.qc_facts.specs.declared.facts.OperandFacts.{OperandFacts}
use Rattle.qc_facts.specs.declared.facts.OperandFacts.TheVariants as operands
use Rattle.qc_facts.specs.declared.facts.Target as known_target
use Rattle.qc_facts.specs.Facts.{Facts, named, placed_from, operator_named, operands_of, cell_named, facts_of_operand}
use Rattle.qc_facts.specs.Numbers.{is_empty, width_in, literal_faults, access_width, access_faults}
use Rattle.qc_facts.specs.Values.{Value, bits_of, faulty, leaf, node, test, operator_at, unary, binary, load}
use Rattle.qc_resolve.specs.Scopes.{Bound, Signature, Meaning, Scope, Act, local_bound, bound_in, meaning_in, is_plain, takes, operand_value}
use Rattle.qc_resolve.specs.Scopes as scopes
use Rattle.qc_resolve.specs.Expressions.{Expression, expression_layer, expression_of, value_of}
use Rattle.qc_resolve.specs.Expressions as names
use Rattle.qc_resolve.specs.Effects as acting
use Rattle.qc_resolve.specs.Declarations.{arity_of, bound_params, bound_operands, scope_for, signatures_of, signature_of_item, signatures_in, meaning_of_item, meanings_in}
use Rattle.qc_resolve.specs.Declarations as declared
use Rattle.qc_resolve.specs.Law.Earlier.{signatures-of-meanings}
use Rattle.qc_bodies.specs.declared.act.Target.{Target}
use Rattle.qc_bodies.specs.declared.tree.Callee.TheVariants as callee
use Rattle.qc_bodies.specs.Trees.{Core, one, several}
use Rattle.qc_bodies.specs.Trees as core
use Rattle.qc_bodies.specs.declared.tree.Leaf.TheVariants as leaves
use Rattle.qc_bodies.specs.declared.tree.Wrap.TheVariants as wraps
use Rattle.qc_bodies.specs.Law.Acts as acts
use Rattle.qc_bodies.specs.Law.Related.{related_length, related_append}
use Rattle.qc_bodies.specs.Meanings.{Fun, value_or, nowhere, joined_option, value, operated, used, fun_of, uses, under, change_of, done_of, all_done, meaning_of, meanings}
use Rattle.qc_bodies.specs.Meanings as bodies
use Rattle.qc_named.specs.Standing.{Standing, own_of_arity, values_after, functions_after, own_params_from, own_params, own_operands_from, own_operands, standing_for, own_in, placed_in}
use Rattle.qc_named.specs.declared.standing.Own.{Own}
use Rattle.qc_named.specs.declared.standing.Own.TheVariants as own
use Rattle.qc_named.specs.Resolved.{Resolved, resolved_layer, resolved, tree_in, target_of, aim_of, aim_of_own, aim_of_operand, aim_of_target, callee_of, callee_of_own, callee_of_placed, callees_of, values_of, aims_of, trees_of, use_of_own}
use Rattle.qc_named.specs.Resolved as trees
use Rattle.qc_named.specs.ResolvedEffects.{acts_of_effect, acts_of_simple, acts_of_placed, guard_tree, acts_of, body_of_item, bodies_after, bodies_in}
use Rattle.qc_named.specs.Terms.{terms, act_on, act_done}

-- An own name is the same with numbers, where parameters are these, and bound.
pub data IsSame (word : Option ℕ) (fs : List (Fun Value)) (ts : List (Option Target)) (vs : List Value) : Own → Bound → Type 0 where
  argument : (number : ℕ) (v : Value) (t : Option known_target.Target) → value_or (faulty 0) (slice_get vs number) ≡ v
      → joined_option (slice_get ts number) ≡ option_map target_of t
      → IsSame word fs ts vs (own.Value number) (scopes.argument v t)
  function : (number arity : ℕ) (apply : Fun Value)
      → ((token : ℕ) (args : List Value) → length args ≡ arity
      → apply token args ≡ value_or (nowhere (terms word)) (slice_get fs number) token args)
      → IsSame word fs ts vs (own.Function number arity) (scopes.function arity apply)
  operand : (number : ℕ) (facts : OperandFacts) → IsSame word fs ts vs (own.Operand number facts) (scopes.operand number facts)

-- parameters of these arities, before which there are so many values and so many functions, are the same and bound
abbrev pub Stand : Option ℕ → List (Fun Value) → List (Option Target) → List Value → ℕ → ℕ → List (Option ℕ) → List Bound → Type 0
Stand word fs ts vs values functions [] [] = Unit {0}
Stand word fs ts vs values functions [] (b ∷ bounds) = ⊥
Stand word fs ts vs values functions (p ∷ params) [] = ⊥
Stand word fs ts vs values functions (p ∷ params) (b ∷ bounds) =
    IsSame word fs ts vs (own_of_arity values functions p) b
    × Stand word fs ts vs (values_after values p) (functions_after functions p) params bounds

-- What is declared comes to the same by names and without.
pub record Comes (word : Option ℕ) (m : Meaning) (n : bodies.Meaning Value) : Type 0 where
  pub value : (token : ℕ) (bounds : List Bound) (fs : List (Fun Value)) (ts : List (Option Target)) (vs : List Value)
      → Stand word fs ts vs 0 0 m.signature.params bounds → m.signature.effects ≡ false
      → m.apply token bounds ≡ n.value fs vs
  pub does : (bounds : List Bound) (fs : List (Fun Value)) (ts : List (Option Target)) (vs : List Value)
      → Stand word fs ts vs 0 0 m.signature.params bounds
      → m.acts bounds ≡ map (act_done word) (n.does fs ts vs)

-- a list from a place on
nothing : {A : Type 0} (x : A) (rest : List A) → [] ≡ x ∷ rest → ⊥
nothing x rest e = cc e

drop_head : {A : Type 0} (n : ℕ) (xs : List A) (x : A) (rest : List A) → drop n xs ≡ x ∷ rest
    → (slice_get xs n ≡ Some x) × (drop (suc n) xs ≡ rest)
drop_head zero [] x rest e = absurd (nothing x rest e)
drop_head zero (y ∷ ys) x rest e = (cc e, cc e)
drop_head (suc n) [] x rest e = absurd (nothing x rest e)
drop_head (suc n) (y ∷ ys) x rest e = drop_head n ys x rest e

-- what is found of a name among own names and among what is bound
pub data AreFound (word : Option ℕ) (fs : List (Fun Value)) (ts : List (Option Target)) (vs : List Value) : Option Own → Option Bound → Type 0 where
  neither : AreFound word fs ts vs None None
  both : (o : Own) (b : Bound) → IsSame word fs ts vs o b → AreFound word fs ts vs (Some o) (Some b)

abbrev pub OwnsAgree : Option ℕ → List (Fun Value) → List (Option Target) → List Value → List (List ℕ × Own) → List (List ℕ × Bound) → Type 0
OwnsAgree word fs ts vs [] [] = Unit {0}
OwnsAgree word fs ts vs [] (l ∷ locals) = ⊥
OwnsAgree word fs ts vs (o ∷ owns) [] = ⊥
OwnsAgree word fs ts vs (o ∷ owns) (l ∷ locals) =
    (o.0 ≡ l.0) × IsSame word fs ts vs o.1 l.1 × OwnsAgree word fs ts vs owns locals

found : (word : Option ℕ) (fs : List (Fun Value)) (ts : List (Option Target)) (vs : List Value)
    → (owns : List (List ℕ × Own)) (locals : List (List ℕ × Bound)) (name : List ℕ) → OwnsAgree word fs ts vs owns locals
    → AreFound word fs ts vs (local_bound (named (λ p. p.0) owns name)) (local_bound (named (λ p. p.0) locals name))
found word fs ts vs [] [] name a = neither
found word fs ts vs [] (l ∷ locals) name a = absurd a
found word fs ts vs (o ∷ owns) [] name a = absurd a
found word fs ts vs (o ∷ owns) (l ∷ locals) name a =
    subst (λ n. AreFound word fs ts vs (local_bound (cond (bytes_eq n name) (Some o) (named (λ p. p.0) owns name)))
    (local_bound (cond (bytes_eq l.0 name) (Some l) (named (λ p. p.0) locals name)))) (sym a.0)
    (elim (bytes_eq l.0 name) as (λ b. AreFound word fs ts vs
    (local_bound (cond b (Some o) (named (λ p. p.0) owns name)))
    (local_bound (cond b (Some l) (named (λ p. p.0) locals name)))) [
      | true ↦ both o.1 l.1 a.1
      | false ↦ found word fs ts vs owns locals name a.2
    ])

-- what is found of a name among signatures, and what it comes to
pub data ArePlaced (word : Option ℕ) (ms : List (bodies.Meaning Value)) : Option (ℕ × Signature) → Option Meaning → Type 0 where
  nowhere_placed : ArePlaced word ms None None
  placed_at : (k : ℕ) (m : Meaning) (n : bodies.Meaning Value) → slice_get ms k ≡ Some n → Comes word m n
      → ArePlaced word ms (Some (k, m.signature)) (Some m)

placed : (word : Option ℕ) (ms : List (bodies.Meaning Value)) (name : List ℕ) (at : ℕ) (functions : List Meaning)
    → (rest : List (bodies.Meaning Value)) → drop at ms ≡ rest → AllZip (Comes word) functions rest
    → ArePlaced word ms (placed_from at (λ s. s.name) (map (λ m. m.signature) functions) name)
    (named (λ m. m.signature.name) functions name)
placed word ms name at [] rest e all = nowhere_placed
placed word ms name at (m ∷ functions) [] e all = absurd all
placed word ms name at (m ∷ functions) (n ∷ rest) e all =
    let head : (slice_get ms at ≡ Some n) × (drop (suc at) ms ≡ rest) = drop_head at ms n rest e in
    elim (bytes_eq m.signature.name name) as (λ b. ArePlaced word ms
    (cond b (Some (at, m.signature)) (placed_from (suc at) (λ s. s.name) (map (λ m. m.signature) functions) name))
    (cond b (Some m) (named (λ m. m.signature.name) functions name))) [
      | true ↦ placed_at at m n head.0 all.0
      | false ↦ placed word ms name (suc at) functions rest head.1 all.1
    ]

-- an operator of any number of operands
operates : (word : Option ℕ) (token : ℕ) (op : Op) (vs : List Value) → operated (terms word) token op vs ≡ operator_at op token vs
operates word token op [] =
    elim (is_unary op) as (λ b. (if nat_eq (if b then 1 else 2) 0 then operator_at op token [] else faulty token) ≡ faulty token) [
      | true ↦ refl
      | false ↦ refl
    ]
operates word token op (v ∷ []) =
    elim (is_unary op) as (λ b. (if nat_eq (if b then 1 else 2) 1 then (if b then unary op token v else faulty token) else faulty token)
    ≡ (if b then unary op token v else faulty token)) [
      | true ↦ refl
      | false ↦ refl
    ]
operates word token op (v ∷ w ∷ []) =
    elim (is_unary op) as (λ b. (if nat_eq (if b then 1 else 2) 2 then (if b then faulty token else binary op token v w) else faulty token)
    ≡ (if b then faulty token else binary op token v w)) [
      | true ↦ refl
      | false ↦ refl
    ]
operates word token op (v ∷ w ∷ u ∷ vs) =
    elim (nat_eq (operands_of op) (suc (suc (suc (length vs))))) as (λ b. (if b then faulty token else faulty token) ≡ faulty token) [
      | true ↦ refl
      | false ↦ refl
    ]

-- a function of values alone, at so many of them
all_values : (word : Option ℕ) (all : List Value) (values functions : ℕ) (params : List (Option ℕ)) (args : List Value)
    → drop values all ≡ args → length params ≡ length args → list_all (λ p. cond (is_some p) false true) params ≡ true
    → Stand word [] [] all values functions params (map (λ v. scopes.argument v None) args)
all_values word all values functions [] [] d e a = tt
all_values word all values functions [] (v ∷ args) d e a = absurd (cc e)
all_values word all values functions (p ∷ params) [] d e a = absurd (cc e)
all_values word all values functions (None ∷ params) (v ∷ args) d e a =
    let head : (slice_get all values ≡ Some v) × (drop (suc values) all ≡ args) = drop_head values all v args d in (
      argument values v None (ap (value_or (faulty 0)) head.0) refl,
      all_values word all (suc values) functions params args head.1 (omega (arith, e)) a,
    )
all_values word all values functions (Some arity ∷ params) (v ∷ args) d e a = absurd (cc a)

-- what the tests of a signature tell
plain_effects : (s : Signature) (arity : ℕ) → is_plain s arity ≡ true → s.effects ≡ false
plain_effects s arity e = grind (arith, common_steps)

plain_length : (s : Signature) (arity : ℕ) → is_plain s arity ≡ true → length s.params ≡ arity
plain_length s arity e = grind (arith, common_steps)

plain_params : (s : Signature) (arity : ℕ) → is_plain s arity ≡ true
    → list_all (λ p. cond (is_some p) false true) s.params ≡ true
plain_params s arity e = grind (arith, common_steps)

takes_effects : (s : Signature) (count : ℕ) → takes false s count ≡ true → s.effects ≡ false
takes_effects s count e = grind (arith, common_steps)

takes_length : (effects : Bool) (s : Signature) (count : ℕ) → takes effects s count ≡ true → length s.params ≡ count
takes_length true s count e = grind (arith, common_steps)
takes_length false s count e = grind (arith, common_steps)

used_at : (word : Option ℕ) (token : ℕ) (o : Option (bodies.Meaning Value)) (n : bodies.Meaning Value) → o ≡ Some n
    → (fs : List (Fun Value)) (vs : List Value) → n.value fs vs ≡ used (terms word) token o fs vs
used_at word token o n e fs vs = ap (λ x. used (terms word) token x fs vs) (sym e)

uses_at : (o : Option (bodies.Meaning Value)) (n : bodies.Meaning Value) → o ≡ Some n
    → (fs : List (Fun Value)) (ts : List (Option Target)) (vs : List Value) → n.does fs ts vs ≡ uses o fs ts vs
uses_at o n e fs ts vs = ap (λ x. uses x fs ts vs) (sym e)

-- where these are declared, and parameters stand for these
module _ (scope : Scope) (owns : List (List ℕ × Own)) (ms : List (bodies.Meaning Value)) (fs : List (Fun Value))
    (ts : List (Option Target)) (vs : List Value) (agree : OwnsAgree scope.facts.word fs ts vs owns scope.locals)
    (known : AllZip (Comes scope.facts.word) scope.functions ms) where
  abbrev standing : Standing
  standing = standing_for scope.facts (map (λ m. m.signature) scope.functions) owns

  abbrev word : Option ℕ
  word = scope.facts.word

  abbrev comes_to : Core one → Value
  comes_to e = value (terms word) ms fs vs e

  own_found : (name : List ℕ) → AreFound word fs ts vs (own_in standing name) (bound_in scope name)
  own_found name = found word fs ts vs owns scope.locals name agree

  is_placed : (name : List ℕ) → ArePlaced word ms (placed_in standing name) (meaning_in scope name)
  is_placed name = placed word ms name 0 scope.functions ms refl known

  -- a name that stands alone
  operand_alone : (number : ℕ) (facts : OperandFacts) (token : ℕ)
      → operand_value word number facts token ≡ comes_to (trees.operand_tree word number facts token)
  operand_alone number (operands.Register space width) token = refl
  operand_alone number (operands.Immediate width) token = refl
  operand_alone number operands.Address token = refl

  alone_case : {o : Option Own} {b : Option Bound} → AreFound word fs ts vs o b → (token : ℕ)
      → names.value_of_bound word b token ≡ comes_to (trees.alone word o token)
  alone_case neither token = refl
  alone_case (both _ _ (argument number v t e f)) token = sym e
  alone_case (both _ _ (function number arity apply e)) token = refl
  alone_case (both _ _ (operand number facts)) token = operand_alone number facts token

  -- the register that a name is
  operand_aim : (number : ℕ) (facts : OperandFacts)
      → bodies.target_of ts (aim_of_operand number facts) ≡ option_map target_of (scopes.target_of_operand number facts)
  operand_aim number (operands.Register space width) = refl
  operand_aim number (operands.Immediate width) = refl
  operand_aim number operands.Address = refl

  aim_case : {o : Option Own} {b : Option Bound} → AreFound word fs ts vs o b
      → bodies.target_of ts (aim_of_own o) ≡ option_map target_of (names.target_of_bound b)
  aim_case neither = refl
  aim_case (both _ _ (argument number v t e f)) = f
  aim_case (both _ _ (function number arity apply e)) = refl
  aim_case (both _ _ (operand number facts)) = operand_aim number facts

  same_aim : (bare : Option Ident) → bodies.target_of ts (aim_of standing bare) ≡ option_map target_of (names.target_of scope bare)
  same_aim None = refl
  same_aim (Some name) = aim_case (own_found name.text)

  -- a function that is handed on
  plain_case : (k : ℕ) (m : Meaning) (n : bodies.Meaning Value) → slice_get ms k ≡ Some n → Comes word m n
      → (arity token : ℕ) (args : List Value) → length args ≡ arity → (b : Bool) → is_plain m.signature arity ≡ b
      → (if b then m.apply token (map (λ v. scopes.argument v None) args) else faulty token)
      ≡ fun_of (terms word) ms fs (if b then callee.Declared k else callee.Nowhere) token args
  plain_case k m n at c arity token args count true e =
      c.value token (map (λ v. scopes.argument v None) args) [] [] args
      (all_values word args 0 0 m.signature.params args refl (plain_length m.signature arity e ∙ sym count)
      (plain_params m.signature arity e)) (plain_effects m.signature arity e)
      ∙ used_at word token (slice_get ms k) n at [] args
  plain_case k m n at c arity token args count false e = refl

  placed_case : {s : Option (ℕ × Signature)} {m : Option Meaning} → ArePlaced word ms s m → (arity token : ℕ) (args : List Value)
      → length args ≡ arity
      → names.function_of_meaning arity m token args ≡ fun_of (terms word) ms fs (callee_of_placed arity s) token args
  placed_case nowhere_placed arity token args count = refl
  placed_case (placed_at k m n at c) arity token args count =
      plain_case k m n at c arity token args count (is_plain m.signature arity) refl

  operator_case : (op : Op) (arity token : ℕ) (args : List Value) (b : Bool)
      → (if b then operator_at op token args else faulty token)
      ≡ fun_of (terms word) ms fs (if b then callee.Operator op else callee.Nowhere) token args
  operator_case op arity token args true = sym (operates word token op args)
  operator_case op arity token args false = refl

  given_case : (number n arity : ℕ) (apply : Fun Value) (token : ℕ) (args : List Value) → length args ≡ arity
      → ((token : ℕ) (args : List Value) → length args ≡ n → apply token args ≡ value_or (nowhere (terms word)) (slice_get fs number) token args)
      → (b : Bool) → nat_eq n arity ≡ b
      → (if b then apply token args else faulty token)
      ≡ fun_of (terms word) ms fs (if b then callee.Given number else callee.Nowhere) token args
  given_case number n arity apply token args count is true e = is token args (count ∙ sym (eqb-true n arity e))
  given_case number n arity apply token args count is false e = refl

  callee_case : {o : Option Own} {b : Option Bound} → AreFound word fs ts vs o b → (op : Option Op)
      → {s : Option (ℕ × Signature)} {m : Option Meaning} → ArePlaced word ms s m → (arity token : ℕ) (args : List Value)
      → length args ≡ arity
      → names.function_of_bound arity b op m token args ≡ fun_of (terms word) ms fs (callee_of_own arity o op s) token args
  callee_case neither None p arity token args count = placed_case p arity token args count
  callee_case neither (Some op) p arity token args count = operator_case op arity token args (nat_eq (operands_of op) arity)
  callee_case (both _ _ (argument number v t e f)) op p arity token args count = refl
  callee_case (both _ _ (function number n apply e)) op p arity token args count =
      given_case number n arity apply token args count e (nat_eq n arity) refl
  callee_case (both _ _ (operand number facts)) op p arity token args count = refl

  same_callee : (arity : ℕ) (bare : Option Ident) (token : ℕ) (args : List Value) → length args ≡ arity
      → names.function_of scope arity bare token args ≡ fun_of (terms word) ms fs (callee_of standing arity bare) token args
  same_callee arity None token args count = refl
  same_callee arity (Some name) token args count =
      callee_case (own_found name.text) (operator_named name.text) (is_placed name.text) arity token args count

  -- an expression is the same in both passes
  pub record IsOne (x : Expression) (y : Resolved) : Type 0 where
    pub bare : x.bare ≡ y.bare
    pub value : x.value scope ≡ comes_to (y.tree standing)

  same_values : (xs : List Expression) (ys : List Resolved) → AllZip IsOne xs ys
      → map (λ x. x.value scope) xs ≡ value (terms word) ms fs vs (several (trees_of standing ys))
  same_values [] [] r = refl
  same_values [] (y ∷ ys) r = absurd r
  same_values (x ∷ xs) [] r = absurd r
  same_values (x ∷ xs) (y ∷ ys) r =
      ap (λ v. v ∷ map (λ x. x.value scope) xs) r.0.value
      ∙ ap (λ l. comes_to (y.tree standing) ∷ l) (same_values xs ys r.1)

  -- arguments for parameters, before which there are so many values and so many functions among all
  bindings_stand : (gs : List (Fun Value)) (us : List (Option Target)) (ws : List Value) (values functions : ℕ)
      → (params : List (Option ℕ)) (xs : List Expression) (ys : List Resolved) → AllZip IsOne xs ys
      → length params ≡ length ys
      → drop functions gs ≡ map (fun_of (terms word) ms fs) (callees_of standing params ys)
      → drop values us ≡ map (bodies.target_of ts) (aims_of standing params ys)
      → drop values ws ≡ value (terms word) ms fs vs (several (values_of standing params ys))
      → Stand word gs us ws values functions params (names.bindings scope params xs)
  bindings_stand gs us ws values functions [] xs ys r e f g h = tt
  bindings_stand gs us ws values functions (p ∷ params) xs [] r e f g h = absurd (cc e)
  bindings_stand gs us ws values functions (p ∷ params) [] (y ∷ ys) r e f g h = absurd r
  bindings_stand gs us ws values functions (None ∷ params) (x ∷ xs) (y ∷ ys) r e f g h =
      let target : (slice_get us values ≡ Some (bodies.target_of ts (aim_of standing y.bare)))
      × (drop (suc values) us ≡ map (bodies.target_of ts) (aims_of standing params ys)) =
      drop_head values us (bodies.target_of ts (aim_of standing y.bare))
      (map (bodies.target_of ts) (aims_of standing params ys)) g in
      let here : (slice_get ws values ≡ Some (comes_to (y.tree standing)))
      × (drop (suc values) ws ≡ value (terms word) ms fs vs (several (values_of standing params ys))) =
      drop_head values ws (comes_to (y.tree standing))
      (value (terms word) ms fs vs (several (values_of standing params ys))) h in (
        argument values (x.value scope) (names.target_of scope x.bare)
            (ap (value_or (faulty 0)) here.0 ∙ sym r.0.value)
            (ap joined_option target.0 ∙ ap (λ b. bodies.target_of ts (aim_of standing b)) (sym r.0.bare) ∙ same_aim x.bare),
        bindings_stand gs us ws (suc values) functions params xs ys r.1 (omega (arith, e)) f target.1 here.1,
      )
  bindings_stand gs us ws values functions (Some arity ∷ params) (x ∷ xs) (y ∷ ys) r e f g h =
      let here : (slice_get gs functions ≡ Some (fun_of (terms word) ms fs (callee_of standing arity y.bare)))
      × (drop (suc functions) gs ≡ map (fun_of (terms word) ms fs) (callees_of standing params ys)) =
      drop_head functions gs (fun_of (terms word) ms fs (callee_of standing arity y.bare))
      (map (fun_of (terms word) ms fs) (callees_of standing params ys)) f in (
        function functions arity (names.function_of scope arity x.bare)
            (λ token args count. same_callee arity x.bare token args count
            ∙ ap (λ b. fun_of (terms word) ms fs (callee_of standing arity b) token args) r.0.bare
            ∙ ap (λ o. value_or (nowhere (terms word)) o token args) (sym here.0)),
        bindings_stand gs us ws values (suc functions) params xs ys r.1 (omega (arith, e)) here.1 g h,
      )

  -- what arguments stand for at the parameters of what is declared
  abbrev funs_at : List (Option ℕ) → List Resolved → List (Fun Value)
  funs_at params ys = map (fun_of (terms word) ms fs) (callees_of standing params ys)

  abbrev targets_at : List (Option ℕ) → List Resolved → List (Option Target)
  targets_at params ys = map (bodies.target_of ts) (aims_of standing params ys)

  abbrev values_at : List (Option ℕ) → List Resolved → List Value
  values_at params ys = value (terms word) ms fs vs (several (values_of standing params ys))

  stand : (params : List (Option ℕ)) (xs : List Expression) (ys : List Resolved) → AllZip IsOne xs ys
      → length params ≡ length ys
      → Stand word (funs_at params ys) (targets_at params ys) (values_at params ys) 0 0 params (names.bindings scope params xs)
  stand params xs ys r e =
      bindings_stand (funs_at params ys) (targets_at params ys) (values_at params ys) 0 0 params xs ys r e refl refl refl

  -- the use of a function
  taken_case : (k : ℕ) (m : Meaning) (n : bodies.Meaning Value) → slice_get ms k ≡ Some n → Comes word m n
      → (token : ℕ) (xs : List Expression) (ys : List Resolved) → AllZip IsOne xs ys
      → (b : Bool) → takes false m.signature (length ys) ≡ b
      → (if b then m.apply token (names.bindings scope m.signature.params xs) else faulty token)
      ≡ comes_to (if b
      then core.Use token k (callees_of standing m.signature.params ys) (several (values_of standing m.signature.params ys))
      else core.Absent token)
  taken_case k m n at c token xs ys r true e =
      let params : List (Option ℕ) = m.signature.params in
      c.value token (names.bindings scope params xs) (funs_at params ys) (targets_at params ys) (values_at params ys)
      (stand params xs ys r (takes_length false m.signature (length ys) e)) (takes_effects m.signature (length ys) e)
      ∙ used_at word token (slice_get ms k) n at (funs_at params ys) (values_at params ys)
  taken_case k m n at c token xs ys r false e = refl

  use_placed : {s : Option (ℕ × Signature)} {m : Option Meaning} → ArePlaced word ms s m
      → (token : ℕ) (xs : List Expression) (ys : List Resolved) → AllZip IsOne xs ys
      → names.use_of_meaning scope m token xs ≡ comes_to (trees.use_of_placed standing s token ys)
  use_placed nowhere_placed token xs ys r = refl
  use_placed (placed_at k m n at c) token xs ys r =
      ap (λ count. if takes false m.signature count then m.apply token (names.bindings scope m.signature.params xs) else faulty token)
      (related_length IsOne xs ys r)
      ∙ taken_case k m n at c token xs ys r (takes false m.signature (length ys)) refl

  applied_case : (number arity : ℕ) (apply : Fun Value)
      → ((token : ℕ) (args : List Value) → length args ≡ arity → apply token args ≡ value_or (nowhere (terms word)) (slice_get fs number) token args)
      → (token : ℕ) (xs : List Expression) (ys : List Resolved) → AllZip IsOne xs ys
      → (b : Bool) → nat_eq arity (length xs) ≡ b
      → (if b then apply token (map (λ x. x.value scope) xs) else faulty token)
      ≡ comes_to (if b then core.Apply token number (several (trees_of standing ys)) else core.Absent token)
  applied_case number arity apply is token xs ys r true e =
      is token (map (λ x. x.value scope) xs) (length-map xs (λ x. x.value scope) ∙ sym (eqb-true arity (length xs) e))
      ∙ ap (λ l. value_or (nowhere (terms word)) (slice_get fs number) token l) (same_values xs ys r)
  applied_case number arity apply is token xs ys r false e = refl

  use_case : {o : Option Own} {b : Option Bound} → AreFound word fs ts vs o b → (op : Option Op)
      → {s : Option (ℕ × Signature)} {m : Option Meaning} → ArePlaced word ms s m
      → (token : ℕ) (xs : List Expression) (ys : List Resolved) → AllZip IsOne xs ys
      → names.use_of_bound scope b op m token xs ≡ comes_to (use_of_own standing o op s token ys)
  use_case neither None p token xs ys r = use_placed p token xs ys r
  use_case neither (Some op) p token xs ys r =
      ap (operator_at op token) (same_values xs ys r)
      ∙ sym (operates word token op (value (terms word) ms fs vs (several (trees_of standing ys))))
  use_case (both _ _ (argument number v t e f)) op p token xs ys r = refl
  use_case (both _ _ (function number arity apply e)) op p token xs ys r =
      applied_case number arity apply e token xs ys r (nat_eq arity (length xs)) refl
      ∙ ap (λ count. comes_to (if nat_eq arity count then core.Apply token number (several (trees_of standing ys)) else core.Absent token))
      (related_length IsOne xs ys r)
  use_case (both _ _ (operand number facts)) op p token xs ys r = refl

  -- a literal, a cell and a load
  literal_case : (number bits : Number) (b : Bool)
      → (if b then leaf number.token (term.Num number.value (bits_of (width_in bits))) (width_in bits) else faulty number.token)
      ≡ comes_to (if b then core.Leaf number.token (leaves.Number number.value) (width_in bits) else core.Absent number.token)
  literal_case number bits true = refl
  literal_case number bits false = refl

  cell_case : (t : Option known_target.Target) (token : ℕ) → names.value_of_cell t token ≡ comes_to (trees.cell_tree t token)
  cell_case None token = refl
  cell_case (Some t) token = refl

  access : (w : Option ℕ) (bits : Number) → is_some (access_width w bits) ≡ is_empty (access_faults w bits)
  access w bits =
      elim (is_empty (access_faults w bits)) as (λ b. is_some (if b then Some bits.value else None) ≡ b) [
        | true ↦ refl
        | false ↦ refl
      ]

  load_case : (token : ℕ) (bits : Number) (v w : Value) → v ≡ w
      → load word token bits v ≡ (terms word).wrap token wraps.Load (access_width word bits) w
  load_case token bits v w e =
      ap (load word token bits) e
      ∙ ap (λ b. node token (term.Mem (bits_of (access_width word bits)) w.term) (access_width word bits) (w.sound && b) w.clashes (test w word))
      (sym (access word bits))

  abbrev IsOneExpr : Expr → Type 0
  IsOneExpr e = IsOne (expression_of e) (resolved e)

  one_args : (args : List ((e : Expr) × IsOneExpr e))
      → AllZip IsOne (map expression_of (map (λ a. a.0) args)) (map resolved (map (λ a. a.0) args))
  one_args [] = tt
  one_args (a ∷ args) = (a.1, one_args args)

  one_step : (y : Expr-F ((e : Expr) × IsOneExpr e))
      → IsOne (expression_layer (map-Expr Expr Expression expression_of (map-Expr ((e : Expr) × IsOneExpr e) Expr (λ a. a.0) y)))
      (resolved_layer (map-Expr Expr Resolved resolved (map-Expr ((e : Expr) × IsOneExpr e) Expr (λ a. a.0) y)))
  one_step (Literal number bits) = record {
    bare = refl;
    value = literal_case number bits (is_empty (literal_faults number bits));
  }
  one_step (Input token) = record { bare = refl; value = refl }
  one_step (After token) = record { bare = refl; value = refl }
  one_step (Mem token bits a) = record {
    bare = refl;
    value = load_case token bits ((expression_of a.0).value scope) (comes_to ((resolved a.0).tree standing)) a.1.value;
  }
  one_step (Zx token bits a) = record {
    bare = refl;
    value = ap ((terms word).wrap token wraps.Zx (width_in bits)) a.1.value;
  }
  one_step (Sx token bits a) = record {
    bare = refl;
    value = ap ((terms word).wrap token wraps.Sx (width_in bits)) a.1.value;
  }
  one_step (Slice token low bits a) = record {
    bare = refl;
    value = ap ((terms word).wrap token (wraps.Slice low.value) (width_in bits)) a.1.value;
  }
  one_step (Name name) = record { bare = refl; value = alone_case (own_found name.text) name.token }
  one_step (Call name args) = record {
    bare = refl;
    value = use_case (own_found name.text) (operator_named name.text) (is_placed name.text) name.token
        (map expression_of (map (λ a. a.0) args)) (map resolved (map (λ a. a.0) args)) (one_args args);
  }
  one_step (Cell space cell) = record { bare = refl; value = cell_case (cell_named scope.facts space cell) space.token }

  is_one : (e : Expr) → IsOne (expression_of e) (resolved e)
  unfolding expression_of resolved
  is_one = ind-Expr IsOneExpr (λ x y is.
      subst (λ u. IsOne u (resolved (roll-Expr x))) (sym (fold-roll-Expr Expression expression_layer x))
      (subst (λ u. IsOne (expression_layer (map-Expr Expr Expression expression_of x)) u) (sym (fold-roll-Expr Resolved resolved_layer x))
      (subst (λ z. IsOne (expression_layer (map-Expr Expr Expression expression_of z)) (resolved_layer (map-Expr Expr Resolved resolved z)))
      is (one_step y))))

  -- what an expression comes to by names is what its tree comes to
  pub same_value : (e : Expr) → value_of scope e ≡ comes_to (tree_in standing e)
  same_value e = (is_one e).value

  -- Effects.
  assigned : (guard : Option Guard) (act : Act) (to : acts.Goal) (tree : Core one)
      → act ≡ act_on word (change_of comes_to ts to) (comes_to tree)
      → acting.acts_under scope guard (act ∷ [])
      ≡ map (act_done word) (all_done (terms word) ms fs ts vs (acts.Assign (guard_tree standing guard) to tree ∷ []))
  assigned None act to tree e = ap (λ x. x ∷ []) e
  assigned (Some guard) act to tree e =
      ap (λ g. acting.guarded g act ∷ []) (same_value guard.condition)
      ∙ ap (λ x. acting.guarded (comes_to (tree_in standing guard.condition)) x ∷ []) e

  on_register : (t : Option known_target.Target) (v : Value)
      → acting.act_on t v ≡ act_on word (bodies.Register (option_map target_of t)) v
  on_register None v = refl
  on_register (Some t) v = refl

  cell_aim : (t : Option known_target.Target) → bodies.target_of ts (aim_of_target t) ≡ option_map target_of t
  cell_aim None = refl
  cell_aim (Some t) = refl

  guarded_done : (guard : Value) (dones : List (bodies.Done Value))
      → map (acting.guarded guard) (map (act_done word) dones) ≡ map (act_done word) (map (bodies.guarded guard) dones)
  guarded_done guard [] = refl
  guarded_done guard (d ∷ dones) = ap (λ l. acting.guarded guard (act_done word d) ∷ l) (guarded_done guard dones)

  used_under : (guard : Option Guard) (done : List Act) (dones : List (bodies.Done Value)) → done ≡ map (act_done word) dones
      → acting.acts_under scope guard done
      ≡ map (act_done word) (under (option_map comes_to (guard_tree standing guard)) dones ++ [])
  used_under None done dones e = e ∙ ap (map (act_done word)) (sym (append-nil dones))
  used_under (Some guard) done dones e =
      ap (λ g. map (acting.guarded g) done) (same_value guard.condition)
      ∙ ap (map (acting.guarded (comes_to (tree_in standing guard.condition)))) e
      ∙ guarded_done (comes_to (tree_in standing guard.condition)) dones
      ∙ ap (map (act_done word)) (sym (append-nil (map (bodies.guarded (comes_to (tree_in standing guard.condition))) dones)))

  nothing_under : (guard : Option Guard) → acting.acts_under scope guard [] ≡ []
  nothing_under None = refl
  nothing_under (Some guard) = refl

  effects_case : (guard : Option Guard) (k : ℕ) (m : Meaning) (n : bodies.Meaning Value) → slice_get ms k ≡ Some n → Comes word m n
      → (xs : List Expression) (ys : List Resolved) → AllZip IsOne xs ys → (b : Bool) → takes true m.signature (length ys) ≡ b
      → acting.acts_under scope guard (if b then m.acts (names.bindings scope m.signature.params xs) else [])
      ≡ map (act_done word) (all_done (terms word) ms fs ts vs (if b
      then acts.Uses (guard_tree standing guard) k (callees_of standing m.signature.params ys) (aims_of standing m.signature.params ys)
      (several (values_of standing m.signature.params ys)) ∷ []
      else []))
  effects_case guard k m n at c xs ys r true e =
      let params : List (Option ℕ) = m.signature.params in
      used_under guard (m.acts (names.bindings scope params xs))
      (uses (slice_get ms k) (funs_at params ys) (targets_at params ys) (values_at params ys))
      (c.does (names.bindings scope params xs) (funs_at params ys) (targets_at params ys) (values_at params ys)
      (stand params xs ys r (takes_length true m.signature (length ys) e))
      ∙ ap (map (act_done word)) (uses_at (slice_get ms k) n at (funs_at params ys) (targets_at params ys) (values_at params ys)))
  effects_case guard k m n at c xs ys r false e = nothing_under guard

  effects_placed : (guard : Option Guard) → {s : Option (ℕ × Signature)} {m : Option Meaning} → ArePlaced word ms s m
      → (xs : List Expression) (ys : List Resolved) → AllZip IsOne xs ys
      → acting.acts_under scope guard (acting.acts_of_meaning scope None None m xs)
      ≡ map (act_done word) (all_done (terms word) ms fs ts vs (acts_of_placed standing (guard_tree standing guard) None None s ys))
  effects_placed guard nowhere_placed xs ys r = nothing_under guard
  effects_placed guard (placed_at k m n at c) xs ys r =
      ap (λ count. acting.acts_under scope guard (if takes true m.signature count then m.acts (names.bindings scope m.signature.params xs) else []))
      (related_length IsOne xs ys r)
      ∙ effects_case guard k m n at c xs ys r (takes true m.signature (length ys)) refl

  effects_used : (guard : Option Guard) → {o : Option Own} {b : Option Bound} → AreFound word fs ts vs o b → (op : Option Op)
      → {s : Option (ℕ × Signature)} {m : Option Meaning} → ArePlaced word ms s m
      → (xs : List Expression) (ys : List Resolved) → AllZip IsOne xs ys
      → acting.acts_under scope guard (acting.acts_of_meaning scope b op m xs)
      ≡ map (act_done word) (all_done (terms word) ms fs ts vs (acts_of_placed standing (guard_tree standing guard) o op s ys))
  effects_used guard neither None p xs ys r = effects_placed guard p xs ys r
  effects_used guard neither (Some op) p xs ys r = nothing_under guard
  effects_used guard (both o b same) op p xs ys r = nothing_under guard

  all_one : (args : List Expr) → AllZip IsOne (map expression_of args) (map resolved args)
  all_one [] = tt
  all_one (e ∷ args) = (is_one e, all_one args)

  simple_case : (guard : Option Guard) (s : Simple)
      → acting.acts_under scope guard (acting.acts_of_simple scope s)
      ≡ map (act_done word) (all_done (terms word) ms fs ts vs (acts_of_simple standing (guard_tree standing guard) s))
  simple_case guard (simple.Pc token e) =
      assigned guard _ acts.Pc (tree_in standing e) (ap (act_on word bodies.Pc) (same_value e))
  simple_case guard (simple.Out token e) =
      assigned guard _ acts.Out (tree_in standing e) (ap (act_on word bodies.Out) (same_value e))
  simple_case guard (simple.Halt token e) =
      assigned guard _ acts.Halt (tree_in standing e) (ap (act_on word bodies.Halt) (same_value e))
  simple_case guard (simple.Trap token e) =
      assigned guard _ acts.Trap (tree_in standing e) (ap (act_on word bodies.Trap) (same_value e))
  simple_case guard (simple.Mem token bits address e) =
      assigned guard _ (acts.Memory (access_width word bits) (tree_in standing address)) (tree_in standing e)
      (ap (λ a. act_on word (bodies.Memory (access_width word bits) a) (value_of scope e)) (same_value address)
      ∙ ap (act_on word (bodies.Memory (access_width word bits) (comes_to (tree_in standing address)))) (same_value e))
  simple_case guard (simple.Name name e) =
      assigned guard _ (acts.Register (aim_of standing (Some name))) (tree_in standing e)
      (on_register (names.target_of scope (Some name)) (value_of scope e)
      ∙ ap (λ t. act_on word (bodies.Register t) (value_of scope e)) (sym (same_aim (Some name)))
      ∙ ap (act_on word (bodies.Register (bodies.target_of ts (aim_of standing (Some name))))) (same_value e))
  simple_case guard (simple.Cell space cell e) =
      assigned guard _ (acts.Register (aim_of_target (cell_named scope.facts space cell))) (tree_in standing e)
      (on_register (cell_named scope.facts space cell) (value_of scope e)
      ∙ ap (λ t. act_on word (bodies.Register t) (value_of scope e)) (sym (cell_aim (cell_named scope.facts space cell)))
      ∙ ap (act_on word (bodies.Register (bodies.target_of ts (aim_of_target (cell_named scope.facts space cell))))) (same_value e))
  simple_case guard (simple.Use name args) =
      effects_used guard (own_found name.text) (operator_named name.text) (is_placed name.text)
      (map expression_of args) (map resolved args) (all_one args)

  effect_case : (e : Effect) → acting.acts_of_effect scope e
      ≡ map (act_done word) (all_done (terms word) ms fs ts vs (acts_of_effect standing e))
  unfolding acts_of_effect acting.acts_of_effect
  effect_case e = simple_case e.guard e.simple

  -- what effects come to by names is what their trees come to
  pub same_acts : (effects : List Effect) → acting.acts_of scope effects
      ≡ map (act_done word) (all_done (terms word) ms fs ts vs (acts_of standing effects))
  same_acts [] = refl
  same_acts (e ∷ effects) =
      ap (λ l. l ++ acting.acts_of scope effects) (effect_case e)
      ∙ ap (λ l. map (act_done word) (all_done (terms word) ms fs ts vs (acts_of_effect standing e)) ++ l) (same_acts effects)
      ∙ sym (map-append (act_done word) (all_done (terms word) ms fs ts vs (acts_of_effect standing e))
      (all_done (terms word) ms fs ts vs (acts_of standing effects)))
      ∙ ap (map (act_done word)) (sym (flat_map-append (done_of (terms word) ms fs ts vs) (acts_of_effect standing e) (acts_of standing effects)))

-- own names and what is bound, of parameters and of operands
params_agree : (words : Option ℕ) (fs : List (Fun Value)) (ts : List (Option Target)) (vs : List Value) (values functions : ℕ)
    → (params : List Param) (bounds : List Bound) → Stand words fs ts vs values functions (map arity_of params) bounds
    → OwnsAgree words fs ts vs (own_params_from values functions params) (bound_params params bounds)
params_agree words fs ts vs values functions [] [] s = tt
params_agree words fs ts vs values functions [] (b ∷ bounds) s = absurd s
params_agree words fs ts vs values functions (p ∷ params) [] s = absurd s
params_agree words fs ts vs values functions (p ∷ params) (b ∷ bounds) s =
    (refl, s.0, params_agree words fs ts vs (values_after values (arity_of p)) (functions_after functions (arity_of p)) params bounds s.1)

operands_agree : (facts : Facts) (number : ℕ) (operands : List Operand)
    → OwnsAgree facts.word [] [] [] (own_operands_from facts number operands) (bound_operands facts number operands)
operands_agree facts number [] = tt
operands_agree facts number (o ∷ operands) =
    (refl, operand number (facts_of_operand facts o.kind), operands_agree facts (suc number) operands)

-- what items declare
comes_next : (facts : Facts) (earlier : List Meaning) (ms : List (bodies.Meaning Value)) → AllZip (Comes facts.word) earlier ms
    → (i : Item)
    → AllZip (Comes facts.word) (meaning_of_item facts earlier i)
    (map (meaning_of (terms facts.word) ms) (body_of_item facts (signatures_of earlier) i))
comes_next facts earlier ms all (item.Function token name params body) = (
  record {
    value = λ token bounds fs ts vs s e.
        same_value (scope_for facts earlier (bound_params params bounds)) (own_params params) ms fs ts vs
        (params_agree facts.word fs ts vs 0 0 params bounds s) all body;
    does = λ bounds fs ts vs s. refl;
  },
  tt,
)
comes_next facts earlier ms all (item.Effects token name params body) = (
  record {
    value = λ token bounds fs ts vs s e. absurd (cc e);
    does = λ bounds fs ts vs s.
        same_acts (scope_for facts earlier (bound_params params bounds)) (own_params params) ms fs ts vs
        (params_agree facts.word fs ts vs 0 0 params bounds s) all body;
  },
  tt,
)
comes_next facts earlier ms all _ = tt

signature_item : (facts : Facts) (earlier : List Meaning) (i : Item)
    → signatures_of (meaning_of_item facts earlier i) ≡ signature_of_item facts (signatures_of earlier) i
signature_item facts earlier (item.Function token name params body) = refl
signature_item facts earlier _ = refl

signatures_next : (facts : Facts) (earlier : List Meaning) (i : Item)
    → signatures_of (earlier ++ meaning_of_item facts earlier i)
    ≡ signatures_of earlier ++ signature_of_item facts (signatures_of earlier) i
signatures_next facts earlier i =
    map-append (λ m. m.signature) earlier (meaning_of_item facts earlier i)
    ∙ ap (λ ss. signatures_of earlier ++ ss) (signature_item facts earlier i)

one_more : (facts : Facts) (signatures : List Signature) (ms : List (bodies.Meaning Value)) (i : Item) (rest : List acts.Body)
    → bodies.meanings_after (terms facts.word) ms (body_of_item facts signatures i ++ rest)
    ≡ bodies.meanings_after (terms facts.word) (ms ++ map (meaning_of (terms facts.word) ms) (body_of_item facts signatures i)) rest
one_more facts signatures ms (item.Function token name params body) rest = refl
one_more facts signatures ms (item.Effects token name params body) rest = refl
one_more facts signatures ms _ rest = ap (λ l. bodies.meanings_after (terms facts.word) l rest) (sym (append-nil ms))

comes_after : (facts : Facts) (earlier : List Meaning) (ms : List (bodies.Meaning Value)) → AllZip (Comes facts.word) earlier ms
    → (items : List Item)
    → AllZip (Comes facts.word) (declared.meanings_after facts earlier items)
    (bodies.meanings_after (terms facts.word) ms (bodies_after facts (signatures_of earlier) items))
comes_after facts earlier ms all [] = all
comes_after facts earlier ms all (i ∷ items) =
    let here : List acts.Body = body_of_item facts (signatures_of earlier) i in
    let later : List Meaning = earlier ++ meaning_of_item facts earlier i in
    let more : List (bodies.Meaning Value) = ms ++ map (meaning_of (terms facts.word) ms) here in
    subst (λ ns. AllZip (Comes facts.word) (declared.meanings_after facts later items) ns)
    (sym (one_more facts (signatures_of earlier) ms i
    (bodies_after facts (signatures_of earlier ++ signature_of_item facts (signatures_of earlier) i) items)))
    (subst (λ ss. AllZip (Comes facts.word) (declared.meanings_after facts later items)
    (bodies.meanings_after (terms facts.word) more (bodies_after facts ss items))) (signatures_next facts earlier i)
    (comes_after facts later more
    (related_append (Comes facts.word) earlier ms (meaning_of_item facts earlier i) (map (meaning_of (terms facts.word) ms) here) all
    (comes_next facts earlier ms all i)) items))

-- all that items declare comes to the same by names and without
pub all_come : (facts : Facts) (items : List Item)
    → AllZip (Comes facts.word) (meanings_in facts items) (meanings (terms facts.word) (bodies_in facts items))
all_come facts items = comes_after facts [] [] tt items

-- what an instruction does by names is what its tree does
pub same_instruction : (facts : Facts) (items : List Item) (operands : List Operand) (body : List Effect)
    → acting.acts_of (scope_for facts (meanings_in facts items) (bound_operands facts 0 operands)) body
    ≡ map (act_done facts.word) (all_done (terms facts.word) (meanings (terms facts.word) (bodies_in facts items)) [] [] []
    (acts_of (standing_for facts (signatures_in facts items) (own_operands facts operands)) body))
same_instruction facts items operands body =
    same_acts (scope_for facts (meanings_in facts items) (bound_operands facts 0 operands)) (own_operands facts operands)
    (meanings (terms facts.word) (bodies_in facts items)) [] [] [] (operands_agree facts 0 operands) (all_come facts items) body
    ∙ ap (λ ss. map (act_done facts.word) (all_done (terms facts.word) (meanings (terms facts.word) (bodies_in facts items)) [] [] []
    (acts_of (standing_for facts ss (own_operands facts operands)) body))) (signatures-of-meanings facts items)
