use Rattle.std.proofs.Common.{ap}
use Rattle.qc_command.specs.Command.{command_name, file_count, most_steps, options_of, texts_of, default_steps}
use Rattle.qc_command.specs.declared.words.Command.TheVariants.{Run}
use Rattle.qc_command.proofs.Apart.{apart}
use Rattle.qc_command.proofs.UsageLemmas.{set_by_numbers}
use Rattle.qc_command.proofs.words.set_by.Goals as goal

pub returns-in-Run-clause-options : goal.returns-in-Run-clause-options
unfolding most_steps default_steps
returns-in-Run-clause-options c =
    let command = Run c.value_of.result in
    set_by_numbers c.args.command command (texts_of c.args.given.now) (apart command)
    (record { name = ap command_name c.in-Run.is; options = ap options_of c.in-Run.is; files = ap file_count c.in-Run.is })
    c.requires (c.value_of.ensures, tt)
