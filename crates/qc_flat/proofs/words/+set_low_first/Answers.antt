use Rattle.std.proofs.Common.{◌+◌, ◌-◌, ◌/◌, ◌∙◌, ap, arith}
use Rattle.qc_terms.specs.Memory.{digits_of, with_bytes}
use Rattle.qc_flat.proofs.Stores.{low_more, no_digits, none_written}
use Rattle.qc_flat.proofs.words.+set_low_first.Goals as goal

pub returns-then-count-gt0-clause-value : goal.returns-then-count-gt0-clause-value
returns-then-count-gt0-clause-value t c =
    low_more c.args.memory.now c.set_low_first.new.memory c.args.count c.args.address c.args.word c.if-count-gt0.true c.requires
    (c.set_low_first.ensures.value ∙ ap (λ m. with_bytes m (c.args.address + 1) (digits_of (c.args.count - 1) (c.args.word / 256))) c.set.ensures)

pub returns-else-count-gt0-clause-value : goal.returns-else-count-gt0-clause-value
returns-else-count-gt0-clause-value t c =
    none_written c.args.memory.now _ c.args.address (no_digits c.args.count c.args.word (omega (arith, c.if-count-gt0.false)))
