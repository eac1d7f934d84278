use Rattle.qc_command.specs.Command.{texts_of}
use Rattle.qc_command.specs.Inner.CommandWords.{option_of}
use Rattle.qc_command.proofs.Readings.{new_setting}
use Rattle.qc_command.proofs.settings.is_new_setting.Goals as goal

pub returns-in-Some : goal.returns-in-Some
returns-in-Some c =
    new_setting (option_of c.args.rule.now) (texts_of c.args.before.now) c.args.word.now c.in-Some.field-0 c.value_in.result c.is_none.result c.is_none.ensures c.in-Some.ensures c.value_in.ensures

pub returns-in-None : goal.returns-in-None
returns-in-None c = λ new. c.in-None.ensures new.0.0 new.0.1
