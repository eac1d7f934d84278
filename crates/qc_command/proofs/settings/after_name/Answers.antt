use Rattle.std.specs.Prelude.{codes}
use Rattle.qc_command.proofs.Readings.{after_three}
use Rattle.qc_command.proofs.settings.after_name.Goals as goal

pub returns : goal.returns
returns c =
    after_three (codes "--") c.args.name.now (codes "=") c.args.word.now _ _ c.strip_prefix-3.result c.in_ok-strip_prefix.ensures.cases c.in_ok-strip_prefix-2.ensures.cases c.strip_prefix-3.ensures.cases
