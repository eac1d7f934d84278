use Rattle.std.proofs.Common.{◌+◌, ◌-◌, ◌/◌, ◌%◌, ◌∙◌, ap, arith, reverse, slice_set}
use Rattle.qc_terms.specs.Memory.{digits_of, with_bytes}
use Rattle.qc_flat.proofs.Stores.{high_more, no_digits, none_written}
use Rattle.qc_flat.proofs.words.+set_high_first.Goals as goal

pub returns-then-count-gt0-clause-value : goal.returns-then-count-gt0-clause-value
returns-then-count-gt0-clause-value t c =
    high_more c.args.memory.now c.set_high_first.new.memory c.args.count c.args.address c.args.word c.if-count-gt0.true c.requires
    (c.set_high_first.ensures.value ∙ ap (λ m. with_bytes m c.args.address (reverse (digits_of (c.args.count - 1) (c.args.word / 256)))) (c.set.ensures ∙ ap (λ n. slice_set c.args.memory.now (c.args.address + n) (c.args.word % 256)) c.from.ensures))

pub returns-else-count-gt0-clause-value : goal.returns-else-count-gt0-clause-value
returns-else-count-gt0-clause-value t c =
    none_written c.args.memory.now _ c.args.address (ap reverse (no_digits c.args.count c.args.word (omega (arith, c.if-count-gt0.false))))
