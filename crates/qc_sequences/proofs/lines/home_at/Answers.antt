use Rattle.std.proofs.Common.{rules, ◌≡◌, ◌∙◌, sym}
use Rattle.qc_derivations.specs.declared.derivation.Binding.{the_lemmas}
use Rattle.qc_derivations.specs.Forest.{Child, stand_of}
use Rattle.qc_derivations.specs.Machine.{machine_of}
use Rattle.qc_sequences.specs.Inner.Homes.{home_slot}
use Rattle.qc_sequences.proofs.Made.{home_absent, home_there}
use Rattle.qc_sequences.proofs.lines.home_at.Goals as goal

pub returns-in-Some-clause-home : goal.returns-in-Some-clause-home
returns-in-Some-clause-home c =
    let stands : stand_of c.args.binding.now ≡ Child = search (rules, the_lemmas, c.in-Child.is) in
    home_there (machine_of c.args.descr.now) (home_slot c.args.own) c.args.written c.args.scratch (stand_of c.args.binding.now) _ _
    (home_slot c.child_home.result) stands (sym c.kind_at.ensures ∙ c.in-Some.is) c.child_home.ensures

pub returns-in-None-clause-home : goal.returns-in-None-clause-home
returns-in-None-clause-home c =
    let stands : stand_of c.args.binding.now ≡ Child = search (rules, the_lemmas, c.in-Child.is) in
    home_absent (machine_of c.args.descr.now) (home_slot c.args.own) c.args.written c.args.scratch (stand_of c.args.binding.now) _ stands
    (sym c.kind_at.ensures ∙ c.in-None.is)
