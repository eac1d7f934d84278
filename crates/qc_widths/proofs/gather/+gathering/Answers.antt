use Rattle.std.proofs.Common.{ap, sym, subst, refl, [], ◌∷◌, ◌++◌, ◌∙◌, ◌≡◌, ℕ, arith, length, map, take, drop, suc, slice_get, IfOk, List, None, Some}
use Rattle.std.proofs.lemmas.List.{length-map}
use Rattle.qc_lrtl.specs.declared.syntax.Effect.{Effect}
use Rattle.qc_lrtl.specs.declared.syntax.Param.{Param}
use Rattle.qc_lrtl.specs.declared.syntax.Simple.{Simple}
use Rattle.qc_widths.specs.declared.acts.Acts.TheVariants.{Huge}
use Rattle.qc_widths.specs.declared.scope.Bound.{Bound}
use Rattle.qc_resolve.specs.Declarations.{arity_of, bound_params, meaning_of_effects, meanings_in, scope_for}
use Rattle.qc_resolve.specs.Effects.{acts_of, acts_of_effect, acts_of_meaning, act_on_memory, acts_of_simple}
use Rattle.qc_widths.specs.Inner.KeptValues.{AreBound}
use Rattle.qc_resolve.specs.Expressions.{bindings, expression_of, value_of}
use Rattle.qc_widths.specs.Inner.KeptEffects.{IsActs, seen_acts}
use Rattle.qc_resolve.specs.Scopes.{Act, Meaning, meaning_in}
use Rattle.qc_facts.specs.Facts.{Facts}
use Rattle.qc_widths.proofs.Declared.{effects_means, no_effects_at}
use Rattle.qc_widths.proofs.Gathered.{cut_behind, huge_so_far}
use Rattle.qc_widths.proofs.Using.{got_some, bindings_length, function_takes_none, other_effects, use_effects, use_no_effects}
use Rattle.qc_widths.proofs.gather.+gathering.Goals as goal

pub acts_of_declared-returns-in-None : goal.acts_of_declared-returns-in-None
acts_of_declared-returns-in-None t c = λ spec is.
    let items = c.args.scope.now.items.now in
    let facts = c.args.scope.now.facts.now in
    let ms = meanings_in facts items in
    let name = c.args.name.now.text in
    let args = c.args.args.now in
    let none : meaning_in spec name ≡ None = c.in-None.ensures.means spec is in
    c.no_acts-in-None.ensures ∙ ap (λ m. seen_acts (acts_of_meaning spec None None m (map expression_of args))) (sym none)

pub acts_of_declared-returns-then-len-args : goal.acts_of_declared-returns-then-len-args
acts_of_declared-returns-then-len-args t c = λ spec is.
    let items = c.args.scope.now.items.now in
    let facts = c.args.scope.now.facts.now in
    let ms = meanings_in facts items in
    let name = c.args.name.now.text in
    let args = c.args.args.now in
    let number = c.in-Some.number in
    let params = c.in-Effects.params in
    let body = c.in-Effects.body in
    let m : Meaning = meaning_of_effects facts (take number ms) c.in-Effects.name params body in
    let gets : slice_get ms number ≡ Some m = effects_means facts items number c.in-Some.item.now c.in-Effects.token c.in-Effects.name params body c.in-Some.ensures.found.is c.in-Effects.is in
    let known : meaning_in spec name ≡ Some m = c.in-Some.ensures.means spec is ∙ gets in
    c.no_acts.ensures ∙ ap seen_acts (sym (use_no_effects spec (meaning_in spec name) m args known
    (other_effects facts (take number ms) c.in-Effects.name params body args (λ e. absurd (omega (arith, e, c.if-len-args.true, c.len.ensures))))))

pub acts_of_declared-returns-in_default : goal.acts_of_declared-returns-in_default
acts_of_declared-returns-in_default t c = λ spec is.
    let items = c.args.scope.now.items.now in
    let facts = c.args.scope.now.facts.now in
    let ms = meanings_in facts items in
    let name = c.args.name.now.text in
    let args = c.args.args.now in
    let number = c.in-Some.number in
    let r = no_effects_at facts items number c.in-Some.item.now c.in-Some.ensures.found.is c.in_default.not-Effects in
    c.no_acts-in_default.ensures ∙ ap seen_acts (sym (use_no_effects spec (meaning_in spec name) r.0 args (c.in-Some.ensures.means spec is ∙ r.1)
    (function_takes_none r.0 (length (map expression_of args)) r.2)))

pub acts_of_declared-returns-in_ok-bounds-in-Effects : goal.acts_of_declared-returns-in_ok-bounds-in-Effects
acts_of_declared-returns-in_ok-bounds-in-Effects t c = λ spec is.
    let items = c.args.scope.now.items.now in
    let facts = c.args.scope.now.facts.now in
    let ms = meanings_in facts items in
    let name = c.args.name.now.text in
    let args = c.args.args.now in
    let number = c.in-Some.number in
    let params = c.in-Effects.params in
    let body = c.in-Effects.body in
    let m : Meaning = meaning_of_effects facts (take number ms) c.in-Effects.name params body in
    let gets : slice_get ms number ≡ Some m = effects_means facts items number c.in-Some.item.now c.in-Effects.token c.in-Effects.name params body c.in-Some.ensures.found.is c.in-Effects.is in
    let known : meaning_in spec name ≡ Some m = c.in-Some.ensures.means spec is ∙ gets in
    let fits : length params ≡ length args = omega (arith, c.if-len-args.false, c.len.ensures) in
    let bounds = bindings spec (map arity_of params) (map expression_of args) in
    let used = use_effects spec facts (take number ms) (meaning_in spec name) c.in-Effects.name params body args known fits in
    let inner = scope_for facts (take number ms) (bound_params params bounds) in
    let P : List Act → Type 0 = λ x. IfOk c.acts_of_effects.result (λ a. IsActs a x) in
    subst P (sym used) (let Q : List Effect → Type 0 = λ b. P (acts_of inner b) in
    subst Q c.as_slice-in-Effects-3.ensures (c.acts_of_effects.ensures inner (record {
      facts = refl;
      functions = refl;
      locals = record {
        bounds = bounds;
        is = ap (λ l. bound_params l bounds) (sym c.as_slice-in-Effects.ensures);
        count = bindings_length spec (map arity_of params) (map expression_of args) (length-map params arity_of ∙ fits ∙ sym (length-map args expression_of))
            ∙ length-map params arity_of ∙ sym (ap length c.as_slice-in-Effects.ensures);
        bound = let R : ℕ → Type 0 = λ n. AreBound ms n c.as_slice-in-Effects-2.result.now bounds in
            let S : List Bound → Type 0 = λ l. AreBound ms (length args) l bounds in
            let T : List Param → Type 0 = λ l. AreBound ms (length args) c.in_ok-bounds-in-Effects.bounds (bindings spec (map arity_of l) (map expression_of args)) in
            subst R (sym fits ∙ sym (ap length c.as_slice-in-Effects.ensures))
            (subst S (sym c.as_slice-in-Effects-2.ensures)
            (subst T c.as_slice.ensures (c.in_ok-bounds-in-Effects.ensures.bound spec is)));
      };
    })))

pub acts_of_effects-returns-then-is_huge : goal.acts_of_effects-returns-then-is_huge
acts_of_effects-returns-then-is_huge t c = λ spec is.
    let effects = c.args.effects.now in
    let i = c.loop-effect.effect-index in
    let item = c.effect-item.result in
    let so_far = acts_of spec (take i effects) in
    let one = acts_of_effect spec item in
    let gets : slice_get effects i ≡ Some item = got_some effects i item c.loop-effect-test.true ∙ ap Some (sym c.effect-item.is) in
    let huge : c.in_ok-acts.acts ≡ Huge = c.if-is_huge.ensures.0 refl in
    huge_so_far (so_far ++ one) (acts_of spec (drop (suc i) effects)) (acts_of spec effects)
    (cut_behind (acts_of_effect spec) effects i item gets)
    (sym huge ∙ c.in_ok-acts.ensures so_far one (c.loop-effect.invariant spec is) (c.in_ok-more.ensures spec is))

pub acts_of_plain-returns-in_ok-value-in-Mem : goal.acts_of_plain-returns-in_ok-value-in-Mem
acts_of_plain-returns-in_ok-value-in-Mem t c = λ spec is.
    let bits = c.in-Mem.bits in
    let address = value_of spec c.in-Mem.address in
    let value = value_of spec c.in-Mem.value in
    let P : Simple → Type 0 = λ s. IfOk c.act_on_word.result (λ a. IsActs a (acts_of_simple spec s)) in
    let Q : Facts → Type 0 = λ f. IfOk c.act_on_word.result (λ a. IsActs a (act_on_memory f.word bits address value ∷ [])) in
    subst P (sym c.in-Mem.is) (subst Q (sym is.facts)
    (c.act_on_word.ensures address value (c.in_ok-address-in-Mem.ensures spec is) (c.in_ok-value-in-Mem.ensures spec is)))
