use Rattle.std.proofs.Common.{◌≡◌, ◌∙◌, ◌-◌, ◌+◌, ◌/◌, ◌%◌, ◌++◌, ◌∷◌, [], suc, length, sym, ap, arith}
use Rattle.std.proofs.lemmas.List.{append_assoc, append-nil}
use Rattle.qc_terms.specs.Memory.{digits_of}
use Rattle.qc_terms.proofs.Bytes.{digits-length}
use Rattle.qc_terms.proofs.memory.digits.Goals as goal

pub loop-preserved : goal.loop-preserved
unfolding digits_of
loop-preserved c =
    let left = c.args.count - (c.loop.counter + 1) in
    let count : c.args.count - c.loop.counter ≡ suc left = omega (arith, c.loop-test.true) in
    let digit = c.loop.rest % 256 in
    record {
      room = omega (arith, c.loop.invariant.room, c.push.ensures.len);
      rest = ap (λ xs. xs ++ digits_of left (c.loop.rest / 256)) c.push.ensures.items
          ∙ append_assoc c.loop.bytes.items (digit ∷ []) (digits_of left (c.loop.rest / 256))
          ∙ ap (λ n. c.loop.bytes.items ++ digits_of n c.loop.rest) (sym count)
          ∙ c.loop.invariant.rest;
    }

pub returns-clause-value : goal.returns-clause-value
unfolding digits_of
returns-clause-value c =
    let end : c.args.count - c.loop.counter ≡ 0 = omega (arith, c.loop-test.false) in
    sym (append-nil c.loop.bytes.items)
    ∙ ap (λ n. c.loop.bytes.items ++ digits_of n c.loop.rest) (sym end)
    ∙ c.loop.invariant.rest

pub returns-clause-size : goal.returns-clause-size
returns-clause-size c = ap length (returns-clause-value c) ∙ digits-length c.args.count c.args.word
