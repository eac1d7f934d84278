use Rattle.qc_grammar.specs.Law.Lists.{all_given}
use Rattle.qc_grammar.proofs.lists.read_separated_by.Goals as goal

pub returns : goal.returns
returns g c = λ reading shortens reads.
    all_given reading c.args.separator.now c.in_ok-first.first c.args.cursor.now _
    c.read_others_by.new.cursor c.read_others_by.result (reads _ _ _ c.in_ok-first.ensures) (c.read_others_by.ensures reading shortens reads)
