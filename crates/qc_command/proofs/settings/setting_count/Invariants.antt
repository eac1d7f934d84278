use Rattle.std.proofs.Common.{map, take}
use Rattle.qc_command.specs.Command.{texts_of}
use Rattle.qc_command.specs.Inner.CommandWords.{option_of, HaveValues}
use Rattle.qc_command.proofs.settings.setting_count.Given as goal

-- the words so far set options, each at most once
abbrev pub invariant-loop-place : goal.invariant-loop-place
invariant-loop-place l = HaveValues (map option_of l.rules) (take l.place (texts_of l.words))
