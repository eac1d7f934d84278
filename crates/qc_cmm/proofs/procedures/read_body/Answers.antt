use Rattle.qc_grammar.specs.Law.Loops.{gives_alike}
use Rattle.qc_grammar.specs.Lists.{items_then_last_reading}
use Rattle.qc_grammar.specs.Reading.{reads}
use Rattle.qc_cmm.specs.Cmm.{cmm, next_of_body, body_unrolls}
use Rattle.qc_cmm.proofs.procedures.read_body.Goals as goal

pub returns : goal.returns
returns c =
    gives_alike c.read_until_last.result c.args.cursor.now c.read_until_last.new.cursor
    (items_then_last_reading (reads cmm next_of_body)) _ body_unrolls c.read_until_last.ensures
