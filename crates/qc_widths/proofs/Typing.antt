-- Each expression without faults comes to a well typed term, where its widths don't clash: by induction on expressions.
use Rattle.std.specs.Prelude.{ℕ, ◌≡◌, List, [], ◌∷◌, map, Some}
use Rattle.std.specs.List.{AllByRecursion}
use Rattle.std.proofs.Common.{refl, ap, sym, ◌∙◌, subst}
use Rattle.qc_words.specs.declared.operator.Op.TheVariants as op
use Rattle.qc_terms.specs.State.{Context}
use Rattle.qc_descr.specs.declared.description.OperandKind.{OperandKind}
use Rattle.qc_grammar.specs.declared.cursor.Ident.{Ident}
use Rattle.qc_grammar.specs.declared.cursor.Number.{Number}
use Rattle.qc_lrtl.specs.declared.syntax.Expr.{Expr, map-Expr, ind-Expr, fold-roll-Expr}
use Rattle.qc_lrtl.specs.declared.syntax.Expr.TheOpen.{Expr-F, Literal, Input, After, Mem, Zx, Sx, Slice, Name, Call, Cell}
use Rattle.qc_facts.specs.Numbers.{width_faults, access_faults}
use Rattle.qc_facts.specs.Values.{input, after, load}
use Rattle.qc_resolve.specs.Scopes.{Scope, Names}
use Rattle.qc_facts.specs.Facts.{cell_faults}
use Rattle.qc_resolve.specs.Expressions.{Expression, expression_layer, expression_of, value_of_cell}
use Rattle.qc_widths.proofs.Typed.{IsTypedValue, IsGood, IsGoodScope, Matches}
use Rattle.qc_widths.proofs.TypedNodes.{none_of, typed_literal, typed_input, typed_after, good_load, good_extension, good_slice}
use Rattle.qc_widths.proofs.Fine.{IsFineHere, fine_name, fine_use}
use Rattle.qc_widths.proofs.TypedRegisters.{fine_cell, typed_read}

module _ (context : Context) (kinds : List OperandKind) (names : Names) (scope : Scope) (matches : Matches names scope)
    (good : IsGoodScope context kinds scope) where
  IsFine : Expression → Type 0
  IsFine = IsFineHere context kinds names scope matches good

  abbrev IsFineExpr : Expr → Type 0
  IsFineExpr e = IsFine (expression_of e)

  fine_args : (args : List ((e : Expr) × IsFineExpr e))
      → AllByRecursion IsFine (map expression_of (map (λ a. a.0) args))
  fine_args [] = tt
  fine_args (a ∷ args) = (a.1, fine_args args)

  fine_input : (token : ℕ) → IsGood context kinds (input scope.facts.word token)
  fine_input token none = subst (λ w. IsTypedValue context kinds (input w token)) (sym good.facts.word)
      (typed_input context kinds good.facts.most token)

  fine_after : (token : ℕ) → IsGood context kinds (after scope.facts.word token)
  fine_after token none = subst (λ w. IsTypedValue context kinds (after w token)) (sym good.facts.word)
      (typed_after context kinds good.facts.most token)

  fine_load : (token : ℕ) (bits : Number) (address : Expression) → IsFine address
      → IsFine (expression_layer (Mem token bits address))
  unfolding IsFine
  fine_load token bits address fine e =
      let parts : (access_faults names.facts.word bits ≡ []) × (address.faults names ≡ []) =
      none_of (access_faults names.facts.word bits) (address.faults names) e in
      let word : names.facts.word ≡ Some context.word = ap (λ f. f.word) matches.facts ∙ good.facts.word in
      subst (λ w. IsGood context kinds (load w token bits (address.value scope))) (sym good.facts.word)
      (good_load context kinds token bits (address.value scope)
      (subst (λ w. access_faults w bits ≡ []) word parts.0) (fine parts.1))

  fine_zx : (token : ℕ) (bits : Number) (arg : Expression) → IsFine arg → IsFine (expression_layer (Zx token bits arg))
  unfolding IsFine
  fine_zx token bits arg fine e =
      let parts : (width_faults bits ≡ []) × (arg.faults names ≡ []) = none_of (width_faults bits) (arg.faults names) e in
      good_extension context kinds op.Zx (λ to. refl) (λ to w. refl) (λ to w p. p) token bits (arg.value scope) parts.0
      (fine parts.1)

  fine_sx : (token : ℕ) (bits : Number) (arg : Expression) → IsFine arg → IsFine (expression_layer (Sx token bits arg))
  unfolding IsFine
  fine_sx token bits arg fine e =
      let parts : (width_faults bits ≡ []) × (arg.faults names ≡ []) = none_of (width_faults bits) (arg.faults names) e in
      good_extension context kinds op.Sx (λ to. refl) (λ to w. refl) (λ to w p. p) token bits (arg.value scope) parts.0
      (fine parts.1)

  fine_slice : (token : ℕ) (low bits : Number) (arg : Expression) → IsFine arg
      → IsFine (expression_layer (Slice token low bits arg))
  unfolding IsFine
  fine_slice token low bits arg fine e =
      let parts : (width_faults bits ≡ []) × (arg.faults names ≡ []) = none_of (width_faults bits) (arg.faults names) e in
      good_slice context kinds token low bits (arg.value scope) parts.0 (fine parts.1)

  fine_read : (space : Ident) (cell : Number) → IsFine (expression_layer (Cell space cell))
  unfolding IsFine
  fine_read space cell e none =
      let found = fine_cell context kinds scope.facts good.facts space cell
      (subst (λ f. cell_faults f space cell ≡ []) matches.facts e) in
      subst (λ o. IsTypedValue context kinds (value_of_cell o space.token)) (sym found.1)
      (typed_read context kinds found.0 found.2 found.3 space.token)

  fine_step : (y : Expr-F ((e : Expr) × IsFineExpr e)) → IsFine (expression_layer (map-Expr Expr Expression expression_of (map-Expr ((e : Expr) × IsFineExpr e) Expr (λ a. a.0) y)))
  unfolding IsFine
  fine_step (Literal value bits) = λ e none. typed_literal context kinds value bits e
  fine_step (Input token) = λ e. fine_input token
  fine_step (After token) = λ e. fine_after token
  fine_step (Mem token bits a) = fine_load token bits (expression_of a.0) a.1
  fine_step (Zx token bits a) = fine_zx token bits (expression_of a.0) a.1
  fine_step (Sx token bits a) = fine_sx token bits (expression_of a.0) a.1
  fine_step (Slice token low bits a) = fine_slice token low bits (expression_of a.0) a.1
  fine_step (Name name) = λ e. fine_name context kinds names scope matches good name e
  fine_step (Call name args) = λ e.
      fine_use context kinds names scope matches good name (map expression_of (map (λ a. a.0) args)) e (fine_args args)
  fine_step (Cell space cell) = fine_read space cell

  pub fine : (e : Expr) → IsFineHere context kinds names scope matches good (expression_of e)
  unfolding IsFine expression_of
  fine = ind-Expr IsFineExpr (λ x y is.
      subst IsFine (sym (fold-roll-Expr Expression expression_layer x))
      (subst (λ z. IsFine (expression_layer (map-Expr Expr Expression expression_of z))) is (fine_step y)))
