use Rattle.std.proofs.Common.{◌∙◌, sym}
use Rattle.qc_descr.specs.Coding.{memory_bytes}
use Rattle.qc_descr.proofs.Overlapping.{bytes_found, bytes_passed}
use Rattle.qc_descr.proofs.overlaps.codings_differ.Goals as goal

pub returns-then-bits_differ : goal.returns-then-bits_differ
returns-then-bits_differ c =
    sym (bytes_found (memory_bytes c.args.order c.args.a.now) (memory_bytes c.args.order c.args.b.now) c.loop-place.place
    c.memory_byte.result.now c.memory_byte-in-loop-place.result.now c.memory_byte.ensures.is
    c.memory_byte-in-loop-place.ensures.is (sym c.bits_differ.ensures ∙ c.if-bits_differ.true))
    ∙ c.loop-place.invariant

pub loop-place-preserved : goal.loop-place-preserved
loop-place-preserved c =
    sym (bytes_passed (memory_bytes c.args.order c.args.a.now) (memory_bytes c.args.order c.args.b.now) c.loop-place.place
    c.memory_byte.result.now c.memory_byte-in-loop-place.result.now c.memory_byte.ensures.is
    c.memory_byte-in-loop-place.ensures.is (sym c.bits_differ.ensures ∙ c.if-bits_differ.false))
    ∙ c.loop-place.invariant
