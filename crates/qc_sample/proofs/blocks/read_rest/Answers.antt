use Rattle.qc_grammar.specs.Law.Loops.{gives_alike}
use Rattle.qc_grammar.specs.Lists.{items_then_last_reading}
use Rattle.qc_grammar.specs.Reading.{reads}
use Rattle.qc_sample.specs.Blocks.{blocks, part, rest_unrolls}
use Rattle.qc_sample.proofs.blocks.read_rest.Goals as goal

pub returns : goal.returns
returns c =
    gives_alike c.read_until_last.result c.args.cursor.now c.read_until_last.new.cursor
    (items_then_last_reading (reads blocks part)) _ rest_unrolls c.read_until_last.ensures
