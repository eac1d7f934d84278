use Rattle.std.proofs.Common.{◌∙◌, sym}
use Rattle.qc_descr.specs.Law.CodedBytes.{length-tokens_bytes}
use Rattle.qc_descr.proofs.overlaps.bytes_of_coding.Goals as goal

pub returns-clause-value : goal.returns-clause-value
returns-clause-value c =
    c.coding_size.ensures
    ∙ sym (length-tokens_bytes c.args.order c.args.coding.now.tokens c.args.coding.now.bits c.requires.tokens)
