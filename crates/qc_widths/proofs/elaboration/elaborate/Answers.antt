use Rattle.std.specs.Prelude.{◌≡◌, None}
use Rattle.std.proofs.Common.{refl, ap, sym, subst, ◌∙◌}
use Rattle.qc_widths.specs.TextFaults.{faults_of}
use Rattle.qc_descr.specs.Parts.{AreParts}
use Rattle.qc_lrtl.specs.declared.syntax.RawMachine.{RawMachine}
use Rattle.qc_facts.specs.Faults.{reported}
use Rattle.qc_widths.specs.Inner.Elaboration.{faults_in_items}
use Rattle.qc_widths.proofs.Keeps.{keeps}
use Rattle.qc_widths.proofs.elaboration.elaborate.Goals as goal

faults_are : (raw : RawMachine) → reported (faults_of raw) ≡ reported (faults_in_items raw.items)
unfolding faults_in_items
faults_are raw = refl

pub returns-in-Some : goal.returns-in-Some
returns-in-Some c = record {
  answer = faults_are c.args.raw.now ∙ sym (c.in_ok-fault.ensures.fault
      ∙ ap (λ i. reported (faults_in_items i)) c.as_slice-items.ensures)
      ∙ c.in-Some.is;
  keeps = tt;
}

pub machine-requires-clause-fault : goal.machine-requires-clause-fault
machine-requires-clause-fault c =
    faults_are c.args.raw.now ∙ sym (c.in_ok-fault.ensures.fault
    ∙ ap (λ i. reported (faults_in_items i)) c.as_slice-items.ensures)
    ∙ c.in-None.is

pub returns : goal.returns
returns c =
    let none : reported (faults_of c.args.raw.now) ≡ None =
    faults_are c.args.raw.now ∙ sym (c.in_ok-fault.ensures.fault
    ∙ ap (λ i. reported (faults_in_items i)) c.as_slice-items.ensures)
    ∙ c.in-None.is in
    record {
      answer = (none, c.in_ok-machine-in-None.ensures);
      keeps = subst (λ m. AreParts m.name m.given m.spaces m.operations) (sym c.in_ok-machine-in-None.ensures)
          (keeps c.args.raw.now c.requires.named none);
    }
