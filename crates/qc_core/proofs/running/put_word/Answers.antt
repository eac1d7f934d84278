use Rattle.std.proofs.Common.{[]}
use Rattle.qc_core.specs.Lines.{word_line}
use Rattle.qc_core.specs.Puts.{output_of}
use Rattle.qc_core.proofs.Putting.{none_put}
use Rattle.qc_core.proofs.running.put_word.Goals as goal

pub returns-in-Err-clause-stops : goal.returns-in-Err-clause-stops
returns-in-Err-clause-stops g c =
    none_put (word_line c.args.word) [] (output_of (g.O.Out.pieces c.args.out.now) (g.O.Out.faults c.args.out.now))
