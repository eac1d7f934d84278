use Rattle.std.proofs.Common.{◌≡◌, Some, IfSome, refl, drop, arith, sym, subst, take}
use Rattle.std.specs.List.{slice_get}
use Rattle.std.proofs.lemmas.Grind.{common_steps}
use Rattle.qc_terms.specs.State.{context_of}
use Rattle.qc_descr.specs.Description.{AreInRange, kinds_of}
use Rattle.qc_flat.specs.Flat.{IsFlatListOf}
use Rattle.qc_machine.proofs.Instances.{range_read, same_read}
use Rattle.qc_machine.proofs.Kept.{kept_made}
use Rattle.qc_machine.proofs.Steps.{operands_there, typed_there}
use Rattle.qc_machine.proofs.machine.kept_of.Goals as goal

pub flatten-flat-requires-clause-typed : goal.flatten-flat-requires-clause-typed
flatten-flat-requires-clause-typed c =
    let d = c.args.descr.now in
    let number = c.args.instance.instruction in
    let i = c.index-as_slice-instance.result in
    let there = c.requires.found.encodes in
    let is : slice_get d.instructions number ≡ Some i =
    same_read d c.as_slice-2.result.now number there.instruction i c.as_slice-2.ensures there.is c.index-as_slice-instance.is in
    typed_there d c.args.state.now number i c.requires.valid c.requires.made is

pub flatten-flat-requires-clause-operands : goal.flatten-flat-requires-clause-operands
flatten-flat-requires-clause-operands c =
    let d = c.args.descr.now in
    let number = c.args.instance.instruction in
    let i = c.index-as_slice-instance.result in
    let there = c.requires.found.encodes in
    let is : slice_get d.instructions number ≡ Some i =
    same_read d c.as_slice-2.result.now number there.instruction i c.as_slice-2.ensures there.is c.index-as_slice-instance.is in
    let range : AreInRange d (kinds_of i) c.args.instance.operands.items =
    range_read d number c.args.instance.operands.items i there.instruction is there.is there.coded.in_range in
    operands_there d c.args.state.now number i c.as_slice-3.result.now c.requires.valid c.requires.made is
    (subst (AreInRange d (kinds_of i)) (sym c.as_slice-3.ensures) range)

pub returns : goal.returns
returns c =
    let d = c.args.descr.now in
    let s = c.args.state.now in
    let number = c.args.instance.instruction in
    let i = c.index-as_slice-instance.result in
    let there = c.requires.found.encodes in
    let is : slice_get d.instructions number ≡ Some i =
    same_read d c.as_slice-2.result.now number there.instruction i c.as_slice-2.ensures there.is c.index-as_slice-instance.is in
    let bytes : c.bytes_kept-bytes.result.items ≡ take c.args.size (drop s.pc s.memory) = grind (arith, common_steps) in
    kept_made d s _ i c.args.size c.requires.made c.requires.found c.requires.size is refl bytes
    c.address_after-after.ensures.value
    (subst (λ xs. IfSome c.flatten-flat.result (λ flat. IsFlatListOf (context_of s) s.facts.zero i.rtl xs c.address_after-after.result flat.items))
    c.as_slice-3.ensures c.flatten-flat.ensures.flat)
