use Rattle.std.proofs.Common.{ap, drop, inr}
use Rattle.qc_command.specs.Command.{texts_of}
use Rattle.qc_command.specs.declared.words.Command.TheVariants.{Compile}
use Rattle.qc_core.specs.declared.answer.Status.TheVariants.{Usage}
use Rattle.qc_core.specs.Answer.{CommandLeaves}
use Rattle.qc_core.specs.Leaves.{Outside, outside_of}
use Rattle.qc_core.proofs.Endings.{command_compiled, command_of, leaves_of_words}
use Rattle.qc_core.proofs.command.quick.Goals as goal

pub returns-in-Err-clause-usage : goal.returns-in-Err-clause-usage
returns-in-Err-clause-usage g c = λ word usage. ap (λ n. Usage n) (c.one_usage.ensures _ c.in-Err.word word c.in-Err.ensures.usage usage)

pub returns-in-Err-clause-refused : goal.returns-in-Err-clause-refused
returns-in-Err-clause-refused g c = λ asked names files file fault line known refused.
    absurd (c.usage_is_no_command.ensures _ names asked c.in-Err.word c.in-Err.ensures.usage line)

pub returns-in-Err-clause-done : goal.returns-in-Err-clause-done
returns-in-Err-clause-done g c = λ asked names files line known read shelf put.
    absurd (c.usage_is_no_command.ensures _ names asked c.in-Err.word c.in-Err.ensures.usage line)

pub returns-in-Ok-clause-usage : goal.returns-in-Ok-clause-usage
returns-in-Ok-clause-usage g c = λ word usage.
    absurd (c.usage_is_no_command.ensures _ _ c.in-Ok.line.command word usage c.in-Ok.ensures.command)

pub returns-in-Ok-clause-answer : goal.returns-in-Ok-clause-answer
returns-in-Ok-clause-answer g c =
    let old : Outside = outside_of (g.S.Shelf.files c.args.shelf.now) (g.S.Shelf.faults c.args.shelf.now) (g.O.Out.pieces c.args.out.now) (g.O.Out.faults c.args.out.now) in
    let new : Outside = outside_of (g.S.Shelf.files c.do_command.new.shelf) (g.S.Shelf.faults c.do_command.new.shelf) (g.O.Out.pieces c.do_command.new.out) (g.O.Out.faults c.do_command.new.out) in
    let words = texts_of c.args.words.now.items in
    let command = c.in-Ok.line.command in
    let own = drop c.in-Ok.line.files words in
    let leaves : CommandLeaves command own old new c.do_command.result =
    leaves_of_words command c.in-Ok.line.files _ c.as_slice.result.now c.args.words.now.items old new c.do_command.result c.split_at.ensures.back c.as_slice.ensures.value c.do_command.ensures.leaves in
    inr (command, own, c.in-Ok.ensures.command, leaves)

pub returns-in-Ok-clause-refused : goal.returns-in-Ok-clause-refused
returns-in-Ok-clause-refused g c = λ asked names files file fault line known refused.
    let old : Outside = outside_of (g.S.Shelf.files c.args.shelf.now) (g.S.Shelf.faults c.args.shelf.now) (g.O.Out.pieces c.args.out.now) (g.O.Out.faults c.args.out.now) in
    let new : Outside = outside_of (g.S.Shelf.files c.do_command.new.shelf) (g.S.Shelf.faults c.do_command.new.shelf) (g.O.Out.pieces c.do_command.new.out) (g.O.Out.faults c.do_command.new.out) in
    let words = texts_of c.args.words.now.items in
    let command = c.in-Ok.line.command in
    let own = drop c.in-Ok.line.files words in
    let leaves : CommandLeaves command own old new c.do_command.result =
    leaves_of_words command c.in-Ok.line.files _ c.as_slice.result.now c.args.words.now.items old new c.do_command.result c.split_at.ensures.back c.as_slice.ensures.value c.do_command.ensures.leaves in
    c.refused_commands.ensures asked names files file fault old new c.do_command.result known refused
    (command_of c.one_command.ensures words command asked own names old new c.do_command.result c.in-Ok.ensures.command line leaves)

pub returns-in-Ok-clause-done : goal.returns-in-Ok-clause-done
returns-in-Ok-clause-done g c = λ asked names files line known read shelf put.
    let old : Outside = outside_of (g.S.Shelf.files c.args.shelf.now) (g.S.Shelf.faults c.args.shelf.now) (g.O.Out.pieces c.args.out.now) (g.O.Out.faults c.args.out.now) in
    let new : Outside = outside_of (g.S.Shelf.files c.do_command.new.shelf) (g.S.Shelf.faults c.do_command.new.shelf) (g.O.Out.pieces c.do_command.new.out) (g.O.Out.faults c.do_command.new.out) in
    let words = texts_of c.args.words.now.items in
    let command = c.in-Ok.line.command in
    let own = drop c.in-Ok.line.files words in
    let leaves : CommandLeaves command own old new c.do_command.result =
    leaves_of_words command c.in-Ok.line.files _ c.as_slice.result.now c.args.words.now.items old new c.do_command.result c.split_at.ensures.back c.as_slice.ensures.value c.do_command.ensures.leaves in
    c.faultless_commands.ensures asked names files old new c.do_command.result known read shelf put
    (command_of c.one_command.ensures words command asked own names old new c.do_command.result c.in-Ok.ensures.command line leaves)

pub returns-in-Ok-clause-compiled : goal.returns-in-Ok-clause-compiled
returns-in-Ok-clause-compiled g c = λ done names line.
    let old : Outside = outside_of (g.S.Shelf.files c.args.shelf.now) (g.S.Shelf.faults c.args.shelf.now) (g.O.Out.pieces c.args.out.now) (g.O.Out.faults c.args.out.now) in
    let new : Outside = outside_of (g.S.Shelf.files c.do_command.new.shelf) (g.S.Shelf.faults c.do_command.new.shelf) (g.O.Out.pieces c.do_command.new.out) (g.O.Out.faults c.do_command.new.out) in
    let words = texts_of c.args.words.now.items in
    let command = c.in-Ok.line.command in
    let own = drop c.in-Ok.line.files words in
    let leaves : CommandLeaves command own old new c.do_command.result =
    leaves_of_words command c.in-Ok.line.files _ c.as_slice.result.now c.args.words.now.items old new c.do_command.result c.split_at.ensures.back c.as_slice.ensures.value c.do_command.ensures.leaves in
    command_compiled (λ d p valid has small. (c.images_agree.ensures.fits d p valid has small, c.images_agree.ensures.agrees d p valid has small)) names old new c.do_command.result done
    (command_of c.one_command.ensures words command Compile own names old new c.do_command.result c.in-Ok.ensures.command line leaves)
