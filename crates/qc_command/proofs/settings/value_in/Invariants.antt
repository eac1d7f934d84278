use Rattle.std.proofs.Common.{take}
use Rattle.qc_command.specs.Command.{texts_of}
use Rattle.qc_command.specs.Inner.CommandWords.{option_of, IsUnset}
use Rattle.qc_command.proofs.settings.value_in.Given as goal

-- no word so far sets the option
abbrev pub invariant-loop-word : goal.invariant-loop-word
invariant-loop-word l = IsUnset (option_of l.rule) (take l.word-index (texts_of l.words))
