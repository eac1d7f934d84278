use Rattle.std.proofs.Common.{◌≡◌, ◌∙◌, ◌<◌, ◌^◌, ◌-◌, [], drop, length, sym, ap, subst, arith}
use Rattle.std.proofs.lemmas.List.{drop_all}
use Rattle.qc_terms.specs.Memory.{in_order, number_of}
use Rattle.qc_terms.proofs.Bytes.{below-more, in_order-length, number-more, room-for-digit}
use Rattle.qc_terms.proofs.memory.join.Goals as goal

pub loop-taken-init : goal.loop-taken-init
unfolding number_of
loop-taken-init c =
    let bytes = in_order c.args.order c.args.bytes.now in
    let none : drop (length c.args.bytes.now - 0) bytes ≡ [] =
    drop_all (length c.args.bytes.now - 0) bytes (omega (arith, in_order-length c.args.order c.args.bytes.now)) in
    record { value = sym (ap number_of none); bound = omega arith }

pub overflow_mul-word : goal.overflow_mul-word
overflow_mul-word c =
    let few : c.loop-taken.taken < 8 = omega (arith, c.loop-taken-test.true, c.requires) in
    let small = room-for-digit c.loop-taken.word c.loop-taken.taken c.loop-taken.invariant.bound few in
    omega (arith, small)

pub overflow_add-word : goal.overflow_add-word
overflow_add-word c =
    let few : c.loop-taken.taken < 8 = omega (arith, c.loop-taken-test.true, c.requires) in
    let small = room-for-digit c.loop-taken.word c.loop-taken.taken c.loop-taken.invariant.bound few in
    omega (arith, small, c.digit.type_inv, c.from.ensures)

pub loop-taken-preserved : goal.loop-taken-preserved
loop-taken-preserved c =
    let taken = c.loop-taken.taken in
    record {
      value = number-more (in_order c.args.order c.args.bytes.now) (length c.args.bytes.now) taken c.loop-taken.word c.from.result
          (sym (in_order-length c.args.order c.args.bytes.now)) c.loop-taken-test.true c.loop-taken.invariant.value
          (c.from.ensures ∙ c.digit.ensures);
      bound = below-more c.loop-taken.word c.from.result taken c.loop-taken.invariant.bound (omega (arith, c.digit.type_inv, c.from.ensures));
    }

pub returns-clause-value : goal.returns-clause-value
returns-clause-value c =
    let end : length c.args.bytes.now - c.loop-taken.taken ≡ 0 = omega (arith, c.loop-taken-test.false) in
    c.loop-taken.invariant.value ∙ ap (λ n. number_of (drop n (in_order c.args.order c.args.bytes.now))) end

pub returns-clause-word : goal.returns-clause-word
returns-clause-word c =
    let end : c.loop-taken.taken ≡ length c.args.bytes.now = omega (arith, c.loop-taken-test.false, c.loop-taken.auto.taken-end) in
    subst (λ n. c.loop-taken.word < 256 ^ n) end c.loop-taken.invariant.bound
