use Rattle.std.proofs.Common.{ap, sym, subst, refl, true, false, [], ◌∷◌, ◌++◌, length-append, ◌∙◌, ◌≡◌, ◌+◌, ◌<◌, ℕ, arith, length, map, IfOk, List, None, Some, slice_get, take}
use Rattle.qc_widths.specs.Inner.KeptValues.{IsValue, seen, AreBelow, AreBound, IsBelow, IsBound, IsBoundBelow, IsFoundBelow, IsFunction, IsPlain, apply_of, apply_of_meaning, binding, meanings_of}
use Rattle.qc_resolve.specs.Expressions.{Expression, expression_of, value_of, expression-literal, expression-input, expression-after, expression-mem, expression-zx, expression-sx, expression-slice, expression-name, expression-call, expression-cell, bare_name, function_of, value_of_cell, use_of, use_of_meaning, bindings}
use Rattle.qc_lrtl.specs.declared.syntax.Expr.{Expr, size-Expr}
use Rattle.qc_resolve.specs.Declarations.{arity_of, bound_params, function_items, scope_for, meanings_in, meaning_of_function}
use Rattle.qc_widths.specs.declared.scope.Bound.{Bound}
use Rattle.qc_widths.specs.declared.scope.Bound.TheVariants.{Argument}
use Rattle.qc_lrtl.specs.declared.syntax.Param.{Param}
use Rattle.qc_widths.specs.declared.scope.Callee.{Callee}
use Rattle.qc_widths.specs.declared.scope.Callee.TheVariants.{Declared}
use Rattle.qc_widths.specs.declared.scope.Found.{Found}
use Rattle.std.specs.Option.{option_map}
use Rattle.std.proofs.lemmas.List.{length-map}
use Rattle.qc_widths.specs.Inner.Measure.{depth_of, depths_of}
use Rattle.qc_facts.specs.Facts.{Facts, cell_named, operator_named}
use Rattle.qc_resolve.specs.Scopes.{Meaning, bound_in, is_plain, function, meaning_in, argument}
use Rattle.qc_words.specs.Operators.{is_unary}
use Rattle.qc_widths.specs.declared.value.Value.TheVariants.{Huge}
use Rattle.qc_facts.specs.Values as values
use Rattle.qc_widths.proofs.Declared.{function_means, no_function_at, no_function_means}
use Rattle.qc_widths.proofs.Falling.{falls_below, falls_inside, shallower}
use Rattle.qc_widths.proofs.Using.{huge_first, got_some, some_of, use_applied, use_operator, use_function, use_faulty, effects_take_none, other_takes_none, plain_no_effects, plain_count, bindings_length, bindings_at, map_at, bound_push, below_push}
use Rattle.qc_widths.proofs.evaluate.+evaluation.Goals as goal

pub evaluate-returns-in-Input : goal.evaluate-returns-in-Input
evaluate-returns-in-Input t c = λ spec is.
    let P : Expression → Type 0 = λ e. IsValue c.input.result (e.value spec) in
    let law = ap expression_of c.in-Input.is ∙ expression-input c.in-Input.token in
    subst P (sym law) (c.input.ensures ∙ ap (λ w. seen (values.input w c.in-Input.token)) (c.word.ensures ∙ sym (ap (λ f. f.word) is.facts)))

pub evaluate-returns-in-After : goal.evaluate-returns-in-After
evaluate-returns-in-After t c = λ spec is.
    let P : Expression → Type 0 = λ e. IsValue c.after.result (e.value spec) in
    let law = ap expression_of c.in-After.is ∙ expression-after c.in-After.token in
    subst P (sym law) (c.after.ensures ∙ ap (λ w. seen (values.after w c.in-After.token)) (c.word-in-After.ensures ∙ sym (ap (λ f. f.word) is.facts)))

pub evaluate-returns-in_ok-arg-in-Zx : goal.evaluate-returns-in_ok-arg-in-Zx
evaluate-returns-in_ok-arg-in-Zx t c = λ spec is.
    let P : Expression → Type 0 = λ e. IfOk c.extension.result (λ v. IsValue v (e.value spec)) in
    let law = ap expression_of c.in-Zx.is ∙ expression-zx c.in-Zx.token c.in-Zx.bits c.in-Zx.arg in
    subst P (sym law) (c.extension.ensures (value_of spec c.in-Zx.arg) (c.in_ok-arg-in-Zx.ensures spec is ∙ ap (λ e. seen (value_of spec e)) c.get-in-Zx.ensures))

pub evaluate-returns-in_ok-arg-in-Sx : goal.evaluate-returns-in_ok-arg-in-Sx
evaluate-returns-in_ok-arg-in-Sx t c = λ spec is.
    let P : Expression → Type 0 = λ e. IfOk c.extension-in-Sx.result (λ v. IsValue v (e.value spec)) in
    let law = ap expression_of c.in-Sx.is ∙ expression-sx c.in-Sx.token c.in-Sx.bits c.in-Sx.arg in
    subst P (sym law) (c.extension-in-Sx.ensures (value_of spec c.in-Sx.arg) (c.in_ok-arg-in-Sx.ensures spec is ∙ ap (λ e. seen (value_of spec e)) c.get-in-Sx.ensures))

pub evaluate-returns-in_ok-arg-in-Slice : goal.evaluate-returns-in_ok-arg-in-Slice
evaluate-returns-in_ok-arg-in-Slice t c = λ spec is.
    let P : Expression → Type 0 = λ e. IfOk c.slice.result (λ v. IsValue v (e.value spec)) in
    let law = ap expression_of c.in-Slice.is ∙ expression-slice c.in-Slice.token c.in-Slice.low c.in-Slice.bits c.in-Slice.arg in
    subst P (sym law) (c.slice.ensures (value_of spec c.in-Slice.arg) (c.in_ok-arg-in-Slice.ensures spec is ∙ ap (λ e. seen (value_of spec e)) c.get-in-Slice.ensures))

pub evaluate-returns-in-Name : goal.evaluate-returns-in-Name
evaluate-returns-in-Name t c = λ spec is.
    let P : Expression → Type 0 = λ e. IfOk c.name_value.result (λ v. IsValue v (e.value spec)) in
    let law = ap expression_of c.in-Name.is ∙ expression-name c.in-Name.name in
    subst P (sym law) (c.name_value.ensures spec is)

pub evaluate-returns-in-Call : goal.evaluate-returns-in-Call
evaluate-returns-in-Call t c = λ spec is.
    let P : Expression → Type 0 = λ e. IfOk c.evaluate_use.result (λ v. IsValue v (e.value spec)) in
    let law = ap expression_of c.in-Call.is ∙ expression-call c.in-Call.name c.in-Call.args in
    subst P (sym law) (let Q : List Expr → Type 0 = λ l. IfOk c.evaluate_use.result (λ v. IsValue v (use_of spec c.in-Call.name (map expression_of l))) in
    subst Q c.as_slice.ensures (c.evaluate_use.ensures spec is))

pub evaluate-returns-in-Cell : goal.evaluate-returns-in-Cell
evaluate-returns-in-Cell t c = λ spec is.
    let P : Expression → Type 0 = λ e. IsValue c.cell_value.result (e.value spec) in
    let law = ap expression_of c.in-Cell.is ∙ expression-cell c.in-Cell.space c.in-Cell.cell in
    subst P (sym law) (c.cell_value.ensures ∙ ap (λ t. seen (value_of_cell t c.in-Cell.space.token))
    (c.cell.ensures ∙ sym (ap (λ f. cell_named f c.in-Cell.space c.in-Cell.cell) is.facts)))

pub evaluate-returns-in-Literal : goal.evaluate-returns-in-Literal
evaluate-returns-in-Literal t c = λ spec is.
    let P : Expression → Type 0 = λ e. IsValue c.literal.result (e.value spec) in
    let law = ap expression_of c.in-Literal.is ∙ expression-literal c.in-Literal.value c.in-Literal.bits in
    subst P (sym law) c.literal.ensures

pub evaluate-returns-in_ok-address-in-Mem : goal.evaluate-returns-in_ok-address-in-Mem
evaluate-returns-in_ok-address-in-Mem t c = λ spec is.
    let P : Expression → Type 0 = λ e. IfOk c.load.result (λ v. IsValue v (e.value spec)) in
    let law = ap expression_of c.in-Mem.is ∙ expression-mem c.in-Mem.token c.in-Mem.bits c.in-Mem.address in
    subst P (sym law) (let Q : Facts → Type 0 = λ f. IfOk c.load.result (λ v. IsValue v (values.load f.word c.in-Mem.token c.in-Mem.bits (value_of spec c.in-Mem.address))) in
    subst Q (sym is.facts) (c.load.ensures (value_of spec c.in-Mem.address) (c.in_ok-address-in-Mem.ensures spec is ∙ ap (λ e. seen (value_of spec e)) c.get.ensures)))

pub evaluate_applied-returns-then-len-args : goal.evaluate_applied-returns-then-len-args
evaluate_applied-returns-then-len-args t c = λ spec is plain.
    let items = c.args.scope.now.items.now in
    let facts = c.args.scope.now.facts.now in
    let ms = meanings_in facts items in
    let token = c.args.token in
    let args = c.args.args.now in
    let number = c.in-Declared.number in
    let P : Callee → Type 0 = λ x. IsPlain ms (length args) x in
    let known : IsPlain ms (length args) (Declared number) = subst P c.in-Declared.is plain in
    let params = c.in-Function.params in
    let m : Meaning = meaning_of_function facts (take number ms) c.in-Function.name params c.in-Function.body in
    let gets : slice_get ms number ≡ Some m = function_means facts items number c.item.result.now c.in-Function.token c.in-Function.name params c.in-Function.body c.item.ensures c.in-Function.is in
    let Q : Meaning → Type 0 = λ x. is_plain x.signature (length args) ≡ true in
    let same : known.0 ≡ m = some_of known.0 m (sym known.1 ∙ gets) in
    let count : length params ≡ length args = plain_count facts (take number ms) c.in-Function.name params c.in-Function.body (length args) (subst Q same known.2) in
    absurd (omega (arith, count, c.if-len-args.true, c.len.ensures))

pub evaluate_applied-evaluate-requires : goal.evaluate_applied-evaluate-requires
evaluate_applied-evaluate-requires t c =
    let items = c.args.scope.now.items.now in
    let count = length (function_items items) in
    let depths = depths_of (function_items items) in
    let number = c.in-Declared.number in
    let P : Callee → Type 0 = λ x. IsBelow c.args.scope.now.ceiling x in
    let below : number < c.args.scope.now.ceiling = subst P c.in-Declared.is c.requires.below in
    let d = falls_inside count depths c.args.scope.now.ceiling c.args.scope.now.level number below (omega (arith, c.requires.settled.ceiling)) in
    let s = shallower (function_items items) number c.item.result.now c.item.ensures in
    let b : depth_of c.item.result.now ≡ size-Expr c.in-Function.body = ap depth_of c.in-Function.is in
    let fits : length c.in-Function.params ≡ length c.args.args.now = omega (arith, c.if-len-args.false, c.len.ensures) in (
      omega (arith, d, s, b, c.decreases),
      record {
        table = c.requires.settled.table;
        level = omega arith;
        ceiling = omega (arith, c.requires.settled.ceiling);
        locals = (
          ap length c.as_slice-in-Function.ensures ∙ c.in_ok-bounds-in-Function.ensures.count ∙ sym fits ∙ sym (ap length c.as_slice.ensures),
          (let P : List Bound → Type 0 = λ l. AreBelow number l in subst P (sym c.as_slice-in-Function.ensures) (c.in_ok-bounds-in-Function.ensures.below number)),
        );
      },
    )

pub evaluate_applied-returns-in_ok-bounds-in-Function : goal.evaluate_applied-returns-in_ok-bounds-in-Function
evaluate_applied-returns-in_ok-bounds-in-Function t c = λ spec is plain.
    let items = c.args.scope.now.items.now in
    let facts = c.args.scope.now.facts.now in
    let ms = meanings_in facts items in
    let token = c.args.token in
    let args = c.args.args.now in
    let number = c.in-Declared.number in
    let P : Callee → Type 0 = λ x. IsPlain ms (length args) x in
    let known : IsPlain ms (length args) (Declared number) = subst P c.in-Declared.is plain in
    let params = c.in-Function.params in
    let m : Meaning = meaning_of_function facts (take number ms) c.in-Function.name params c.in-Function.body in
    let gets : slice_get ms number ≡ Some m = function_means facts items number c.item.result.now c.in-Function.token c.in-Function.name params c.in-Function.body c.item.ensures c.in-Function.is in
    let Q : Meaning → Type 0 = λ x. is_plain x.signature (length args) ≡ true in
    let same : known.0 ≡ m = some_of known.0 m (sym known.1 ∙ gets) in
    let count : length params ≡ length args = plain_count facts (take number ms) c.in-Function.name params c.in-Function.body (length args) (subst Q same known.2) in
    let bounds = map (λ v. argument v None) (map (value_of spec) args) in
    let used : apply_of ms c.args.callee.now token (map (value_of spec) args) ≡ value_of (scope_for facts (take number ms) (bound_params params bounds)) c.in-Function.body =
    ap (λ x. apply_of ms x token (map (value_of spec) args)) c.in-Declared.is ∙ ap (λ o. apply_of_meaning o token (map (value_of spec) args)) gets in
    let R : values.Value → Type 0 = λ x. IfOk c.evaluate.result (λ v. IsValue v x) in
    subst R (sym used) (c.evaluate.ensures (scope_for facts (take number ms) (bound_params params bounds)) (record {
      facts = refl;
      functions = refl;
      locals = record {
        bounds = bounds;
        is = ap (λ l. bound_params l bounds) (sym c.as_slice.ensures);
        count = length-map (map (value_of spec) args) (λ v. argument v None) ∙ length-map args (value_of spec) ∙ sym count
            ∙ sym (ap length c.as_slice.ensures);
        bound = let Q : ℕ → Type 0 = λ n. AreBound ms n c.as_slice-in-Function.result.now bounds in
            let S : List Bound → Type 0 = λ l. AreBound ms (length args) l bounds in
            subst Q (sym count ∙ sym (ap length c.as_slice.ensures))
            (subst S (sym c.as_slice-in-Function.ensures) (c.in_ok-bounds-in-Function.ensures.bound spec ms is));
      };
    }))

pub evaluate_applied-returns-in_default : goal.evaluate_applied-returns-in_default
evaluate_applied-returns-in_default t c = λ spec is plain.
    let items = c.args.scope.now.items.now in
    let facts = c.args.scope.now.facts.now in
    let ms = meanings_in facts items in
    let token = c.args.token in
    let args = c.args.args.now in
    let number = c.in-Declared.number in
    let P : Callee → Type 0 = λ x. IsPlain ms (length args) x in
    let known : IsPlain ms (length args) (Declared number) = subst P c.in-Declared.is plain in
    let effects : known.0.signature.effects ≡ true = no_function_means facts items number c.item.result.now known.0 c.item.ensures c.in_default.not-Function known.1 in
    absurd (plain_no_effects known.0 (length args) known.2 effects)

pub evaluate_binding-returns-in_ok-value-in-None-clause-bound : goal.evaluate_binding-returns-in_ok-value-in-None-clause-bound
evaluate_binding-returns-in_ok-value-in-None-clause-bound t c = λ spec is.
    let arity : arity_of c.args.param.now ≡ None = ap (λ a. option_map (λ n. n.value) a) c.in-None.is in
    record {
      spec = value_of spec c.args.arg.now;
      is = ap (λ a. binding spec a (expression_of c.args.arg.now)) arity ∙ ap (λ t. argument (value_of spec c.args.arg.now) t) (sym (c.target_of_expr.ensures spec is));
      value = c.in_ok-value-in-None.ensures spec is;
    }

pub evaluate_binding-returns-in-Some-clause-bound : goal.evaluate_binding-returns-in-Some-clause-bound
evaluate_binding-returns-in-Some-clause-bound t c = λ spec is.
    let arity : arity_of c.args.param.now ≡ Some c.in-Some.arity.value = ap (λ a. option_map (λ n. n.value) a) c.in-Some.is in
    record {
      apply = function_of spec c.in-Some.arity.value (bare_name c.args.arg.now);
      is = ap (λ a. binding spec a (expression_of c.args.arg.now)) arity;
      same = c.callee_of_expr.ensures.function spec is;
    }

pub evaluate_bindings-returns-clause-count : goal.evaluate_bindings-returns-clause-count
evaluate_bindings-returns-clause-count t c = omega (arith, c.loop-place.invariant.count)

pub evaluate_bindings-returns-clause-below : goal.evaluate_bindings-returns-clause-below
evaluate_bindings-returns-clause-below t c = c.loop-place.invariant.below

pub evaluate_bindings-returns-clause-bound : goal.evaluate_bindings-returns-clause-bound
evaluate_bindings-returns-clause-bound t c = λ spec is.
    let all : c.loop-place.place ≡ length c.args.args.now = omega arith in
    let P : ℕ → Type 0 = λ n. AreBound (meanings_of c.args.scope.now) n c.loop-place.bounds (bindings spec (map arity_of c.args.params.now) (map expression_of c.args.args.now)) in
    subst P all (c.loop-place.invariant.bound spec is)

pub evaluate_declared-returns-then-len-args : goal.evaluate_declared-returns-then-len-args
evaluate_declared-returns-then-len-args t c = λ spec is.
    let items = c.args.scope.now.items.now in
    let facts = c.args.scope.now.facts.now in
    let name = c.args.name.now.text in
    let token = c.args.name.now.token in
    let args = c.args.args.now in
    let number = c.in-Some.number in
    let m : Meaning = meaning_of_function facts (take number (meanings_in facts items)) c.in-Function.name c.in-Function.params c.in-Function.body in
    let gets : slice_get (meanings_in facts items) number ≡ Some m = function_means facts items number c.in-Some.item.now c.in-Function.token c.in-Function.name c.in-Function.params c.in-Function.body c.in-Some.ensures.found.is c.in-Function.is in
    let known : meaning_in spec name ≡ Some m = c.in-Some.ensures.means spec is ∙ gets in
    c.faulty.ensures ∙ ap seen (sym (use_faulty spec (meaning_in spec name) m token args known
    (other_takes_none facts (take number (meanings_in facts items)) c.in-Function.name c.in-Function.params c.in-Function.body args (λ e. absurd (omega (arith, e, c.if-len-args.true, c.len.ensures))))))

pub evaluate_declared-returns-in_ok-bounds-in-Function : goal.evaluate_declared-returns-in_ok-bounds-in-Function
evaluate_declared-returns-in_ok-bounds-in-Function t c = λ spec is.
    let items = c.args.scope.now.items.now in
    let facts = c.args.scope.now.facts.now in
    let name = c.args.name.now.text in
    let token = c.args.name.now.token in
    let args = c.args.args.now in
    let number = c.in-Some.number in
    let m : Meaning = meaning_of_function facts (take number (meanings_in facts items)) c.in-Function.name c.in-Function.params c.in-Function.body in
    let gets : slice_get (meanings_in facts items) number ≡ Some m = function_means facts items number c.in-Some.item.now c.in-Function.token c.in-Function.name c.in-Function.params c.in-Function.body c.in-Some.ensures.found.is c.in-Function.is in
    let known : meaning_in spec name ≡ Some m = c.in-Some.ensures.means spec is ∙ gets in
    let params = c.in-Function.params in
    let fits : length params ≡ length args = omega (arith, c.if-len-args.false, c.len.ensures) in
    let bounds = bindings spec (map arity_of params) (map expression_of args) in
    let used = use_function spec facts (take number (meanings_in facts items)) (meaning_in spec name) c.in-Function.name params c.in-Function.body token args known fits in
    let P : values.Value → Type 0 = λ x. IfOk c.evaluate.result (λ v. IsValue v x) in
    subst P (sym used) (c.evaluate.ensures (scope_for facts (take number (meanings_in facts items)) (bound_params params bounds)) (record {
      facts = refl;
      functions = refl;
      locals = record {
        bounds = bounds;
        is = ap (λ l. bound_params l bounds) (sym c.as_slice-in-Function.ensures);
        count = bindings_length spec (map arity_of params) (map expression_of args) (length-map params arity_of ∙ fits ∙ sym (length-map args expression_of))
            ∙ length-map params arity_of ∙ sym (ap length c.as_slice-in-Function.ensures);
        bound = let Q : ℕ → Type 0 = λ n. AreBound (meanings_in facts items) n c.as_slice-in-Function-2.result.now bounds in
            let R : List Bound → Type 0 = λ l. AreBound (meanings_in facts items) (length args) l bounds in
            subst Q (sym fits ∙ sym (ap length c.as_slice-in-Function.ensures))
            (subst R (sym c.as_slice-in-Function-2.ensures)
            (let S : List Param → Type 0 = λ p. AreBound (meanings_in facts items) (length args) c.in_ok-bounds-in-Function.bounds (bindings spec (map arity_of p) (map expression_of args)) in
            subst S c.as_slice.ensures (c.in_ok-bounds-in-Function.ensures.bound spec is)));
      };
    }))

pub evaluate_declared-returns-in_default : goal.evaluate_declared-returns-in_default
evaluate_declared-returns-in_default t c = λ spec is.
    let items = c.args.scope.now.items.now in
    let facts = c.args.scope.now.facts.now in
    let name = c.args.name.now.text in
    let token = c.args.name.now.token in
    let args = c.args.args.now in
    let number = c.in-Some.number in
    let r = no_function_at facts items number c.in-Some.item.now c.in-Some.ensures.found.is c.in_default.not-Function in
    c.faulty-in_default.ensures ∙ ap seen (sym (use_faulty spec (meaning_in spec name) r.0 token args (c.in-Some.ensures.means spec is ∙ r.1)
    (effects_take_none r.0 (length (map expression_of args)) r.2)))

pub evaluate_declared-returns-in-None : goal.evaluate_declared-returns-in-None
evaluate_declared-returns-in-None t c = λ spec is.
    let items = c.args.scope.now.items.now in
    let facts = c.args.scope.now.facts.now in
    let name = c.args.name.now.text in
    let token = c.args.name.now.token in
    let args = c.args.args.now in
    let none : meaning_in spec name ≡ None = c.in-None.ensures.means spec is in
    c.faulty-in-None.ensures ∙ ap (λ m. seen (use_of_meaning spec m token (map expression_of args))) (sym none)

pub evaluate_declared-evaluate-requires : goal.evaluate_declared-evaluate-requires
evaluate_declared-evaluate-requires t c =
    let items = c.args.scope.now.items.now in
    let count = length (function_items items) in
    let depths = depths_of (function_items items) in
    let number = c.in-Some.number in
    let below : number < c.args.scope.now.level = c.in-Some.ensures.found.below in
    let d = falls_below count depths c.args.scope.now.ceiling c.args.scope.now.level number below in
    let s = shallower (function_items items) number c.in-Some.item.now c.in-Some.ensures.found.is in
    let b : depth_of c.in-Some.item.now ≡ size-Expr c.in-Function.body = ap depth_of c.in-Function.is in
    let fits : length c.in-Function.params ≡ length c.args.args.now = omega (arith, c.if-len-args.false, c.len.ensures) in (
      omega (arith, d, s, b, c.decreases),
      record {
        table = c.requires.table;
        level = omega (arith, c.requires.level);
        ceiling = c.requires.ceiling;
        locals = (
          ap length c.as_slice-in-Function-2.ensures ∙ c.in_ok-bounds-in-Function.ensures.count ∙ sym fits ∙ sym (ap length c.as_slice-in-Function.ensures),
          (let P : List Bound → Type 0 = λ l. AreBelow c.args.scope.now.ceiling l in subst P (sym c.as_slice-in-Function-2.ensures) c.in_ok-bounds-in-Function.ensures.below),
        );
      },
    )

pub evaluate_plain-returns-clause-count : goal.evaluate_plain-returns-clause-count
evaluate_plain-returns-clause-count t c = omega (arith, c.loop-arg.invariant.count)

pub evaluate_plain-returns-clause-below : goal.evaluate_plain-returns-clause-below
evaluate_plain-returns-clause-below t c = λ ceiling k b e. c.loop-arg.invariant.below k b e ceiling

pub evaluate_plain-returns-clause-bound : goal.evaluate_plain-returns-clause-bound
evaluate_plain-returns-clause-bound t c = λ spec meanings is.
    let all : c.loop-arg.arg-index ≡ length c.args.args.now = omega arith in
    let P : ℕ → Type 0 = λ n. AreBound meanings n c.loop-arg.bounds (map (λ v. argument v None) (map (value_of spec) c.args.args.now)) in
    subst P all (c.loop-arg.invariant.bound spec meanings is)

pub evaluate_use-returns-in-Some : goal.evaluate_use-returns-in-Some
evaluate_use-returns-in-Some t c = λ spec is.
    let name = c.args.name.now.text in
    let args = c.args.args.now in
    let none : bound_in spec name ≡ None = ap (λ n. bound_in spec n) (sym c.as_slice.ensures) ∙ c.in-Absent.ensures.found spec is in
    let op : operator_named name ≡ Some c.in-Some.op = ap (λ n. operator_named n) (sym c.as_slice-in-Absent.ensures) ∙ sym c.operator_named.ensures ∙ c.in-Some.is in
    let used = use_operator spec (bound_in spec name) (operator_named name) c.in-Some.op (meaning_in spec name) c.args.name.now.token args none op in
    let P : values.Value → Type 0 = λ x. IfOk c.evaluate_operator.result (λ v. IsValue v x) in
    subst P (sym used) (c.evaluate_operator.ensures spec is)

pub evaluate_use-returns-else-arity-args : goal.evaluate_use-returns-else-arity-args
evaluate_use-returns-else-arity-args t c = λ spec is.
    let name = c.args.name.now.text in
    let args = c.args.args.now in
    let ms = meanings_of c.args.scope.now in
    let r = c.in-Bound.ensures.found spec is in
    let Q : Bound → Type 0 = λ b. IsBound ms b r.spec in
    let f : IsFunction ms c.in-Function.arity c.in-Function.callee r.spec = subst Q c.in-Function.is r.bound in
    let count : c.in-Function.arity ≡ length args = omega (arith, c.if-arity-args.false) in
    let known : bound_in spec name ≡ Some (function c.in-Function.arity f.apply) = ap (λ n. bound_in spec n) (sym c.as_slice.ensures) ∙ r.is ∙ ap Some f.is in
    let used = use_applied spec (bound_in spec name) (operator_named name) (meaning_in spec name) c.in-Function.arity f.apply c.args.name.now.token args known count in
    let P : values.Value → Type 0 = λ x. IfOk c.evaluate_applied.result (λ v. IsValue v x) in
    let R : ℕ → Type 0 = λ n. IsPlain ms n c.in-Function.callee in
    subst P (sym (used ∙ f.same.applies c.args.name.now.token (map (value_of spec) args)))
    (c.evaluate_applied.ensures spec is (subst R count f.same.plain))

pub evaluate_use-evaluate_applied-requires : goal.evaluate_use-evaluate_applied-requires
evaluate_use-evaluate_applied-requires t c =
    let P : Found → Type 0 = λ x. IsFoundBelow c.args.scope.now.ceiling x in
    let Q : Bound → Type 0 = λ x. IsBoundBelow c.args.scope.now.ceiling x in
    (omega (arith, c.decreases), (c.requires, subst Q c.in-Function.is c.in-Bound.ensures.below))

pub evaluate_bindings-loop-place-preserved : goal.evaluate_bindings-loop-place-preserved
evaluate_bindings-loop-place-preserved t c =
    let ms = meanings_of c.args.scope.now in
    let place = c.loop-place.place in
    let b = c.in_ok-bound.bound in
    let inv = c.loop-place.invariant in
    let p = c.index-params-place.result in
    let a = c.index-args-place.result in
    let pp : slice_get c.args.params.now place ≡ Some p = got_some c.args.params.now place c.index-params-place.result (omega (arith, c.requires.count)) ∙ ap Some (sym c.index-params-place.is) in
    let aa : slice_get c.args.args.now place ≡ Some a = got_some c.args.args.now place c.index-args-place.result (omega arith) ∙ ap Some (sym c.index-args-place.is) in
    let ok : c.push.new.self ≡ c.loop-place.bounds ++ b ∷ [] = c.in_ok-push.ensures.ok in
    record {
      count = ap length ok ∙ length-append c.loop-place.bounds (b ∷ []) ∙ ap (λ n. n + 1) inv.count;
      below = let P : List Bound → Type 0 = λ l. AreBelow c.args.scope.now.ceiling l in
          subst P (sym ok) (below_push c.args.scope.now.ceiling c.loop-place.bounds b inv.below c.in_ok-bound.ensures.below);
      bound = λ spec is.
          let bs = bindings spec (map arity_of c.args.params.now) (map expression_of c.args.args.now) in
          let P : List Bound → Type 0 = λ l. AreBound ms (place + 1) l bs in
          subst P (sym ok) (bound_push ms place c.loop-place.bounds bs b (binding spec (arity_of p) (expression_of a)) inv.count (inv.bound spec is)
          (bindings_at spec (map arity_of c.args.params.now) (map expression_of c.args.args.now) place (arity_of p) (expression_of a)
          (map_at arity_of c.args.params.now place p pp) (map_at expression_of c.args.args.now place a aa))
          (c.in_ok-bound.ensures.bound spec is));
    }

pub evaluate_plain-loop-arg-preserved : goal.evaluate_plain-loop-arg-preserved
evaluate_plain-loop-arg-preserved t c =
    let place = c.loop-arg.arg-index in
    let b : Bound = Argument c.in_ok-value.value None in
    let inv = c.loop-arg.invariant in
    let a = c.arg-item.result in
    let aa : slice_get c.args.args.now place ≡ Some a = got_some c.args.args.now place c.arg-item.result (omega arith) ∙ ap Some (sym c.arg-item.is) in
    let ok : c.push.new.self ≡ c.loop-arg.bounds ++ b ∷ [] = c.in_ok-push.ensures.ok in
    record {
      count = ap length ok ∙ length-append c.loop-arg.bounds (b ∷ []) ∙ ap (λ n. n + 1) inv.count;
      below = λ k x e ceiling. let P : List Bound → Type 0 = λ l. AreBelow ceiling l in
          subst P (sym ok) (below_push ceiling c.loop-arg.bounds b (λ j w f. inv.below j w f ceiling) tt) k x e;
      bound = λ spec meanings is.
          let bs = map (λ v. argument v None) (map (value_of spec) c.args.args.now) in
          let P : List Bound → Type 0 = λ l. AreBound meanings (place + 1) l bs in
          subst P (sym ok) (bound_push meanings place c.loop-arg.bounds bs b (argument (value_of spec a) None) inv.count (inv.bound spec meanings is)
          (map_at (λ v. argument v None) (map (value_of spec) c.args.args.now) place (value_of spec a) (map_at (value_of spec) c.args.args.now place a aa))
          (record { spec = value_of spec a; is = refl; value = c.in_ok-value.ensures spec is }));
    }

pub evaluate_operator-returns-then-is_huge : goal.evaluate_operator-returns-then-is_huge
evaluate_operator-returns-then-is_huge t c = λ spec is.
    let args = c.args.args.now in
    let unary : is_unary c.args.op.now ≡ false = sym c.takes_one.ensures ∙ c.if-takes_one.false in
    let huge : c.in_ok-left.left ≡ Huge = c.if-is_huge.ensures.0 refl in
    let two : length args ≡ 2 = omega arith in
    huge_first spec c.args.op.now c.args.token args c.index-args-0-2.result two unary
    (got_some args 0 c.index-args-0-2.result (omega arith) ∙ ap Some (sym c.index-args-0-2.is))
    (sym huge ∙ c.in_ok-left.ensures spec is)
