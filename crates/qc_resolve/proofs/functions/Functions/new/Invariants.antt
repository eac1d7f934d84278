use Rattle.qc_resolve.specs.Inner.Numbering.{HasFirst}
use Rattle.qc_resolve.proofs.functions.Functions.new.Given as goal

abbrev pub invariant-loop-place : goal.invariant-loop-place
invariant-loop-place l = HasFirst l.items l.place l.declared l.numbers
