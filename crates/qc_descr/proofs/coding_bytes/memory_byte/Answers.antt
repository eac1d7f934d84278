use Rattle.std.proofs.Common.{◌∙◌, ◌*◌, sym}
use Rattle.std.proofs.lemmas.List.{take_rest}
use Rattle.qc_descr.proofs.coding_bytes.memory_byte.Goals as goal
use Rattle.qc_descr.specs.Law.Places.{found, passed}

pub returns-then-place-bytes-clause-is : goal.returns-then-place-bytes-clause-is
returns-then-place-bytes-clause-is c =
    sym (found _ _ _ _ _ _ _ c.loop-token-test.true c.from-bytes.ensures c.loop-token.invariant c.if-place-bytes.true)
    ∙ c.token_byte.ensures.is

pub loop-token-preserved : goal.loop-token-preserved
loop-token-preserved c =
    passed _ _ _ _ _ _ _ _ c.loop-token-test.true c.from-bytes.ensures c.loop-token.invariant c.if-place-bytes.false
    (take_rest c.loop-token.bits.now (8 * c.from-bytes.result))
