use Rattle.std.proofs.Common.{◌∙◌, sym, arith}
use Rattle.qc_flat.proofs.Numbers.{four_high, four_low}
use Rattle.qc_flat.proofs.words.word_of.Goals as goal

pub returns-in-len4-clause-value : goal.returns-in-len4-clause-value
returns-in-len4-clause-value c =
    rw c.in-Little.is (c.number_of_four.ensures
    ∙ sym (four_low c.args.bytes.now (omega (arith, c.in-len4.len_at_least, c.in-len4.len_below))))

pub returns-in-len4-bytes-clause-value : goal.returns-in-len4-bytes-clause-value
returns-in-len4-bytes-clause-value c =
    rw c.in-Big.is (c.number_of_four-in-len4-bytes.ensures
    ∙ sym (four_high c.args.bytes.now (omega (arith, c.in-len4-bytes.len_at_least, c.in-len4-bytes.len_below))))
