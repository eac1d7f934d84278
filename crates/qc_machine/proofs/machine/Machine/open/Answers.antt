use Rattle.std.proofs.Common.{ℕ, ◌<◌, All, subst}
use Rattle.qc_machine.proofs.Loaded.{loaded_is_machine, loaded_is_state}
use Rattle.qc_machine.proofs.machine.Machine.open.Goals as goal

pub invariant_of-result : goal.invariant_of-result
invariant_of-result c =
    let P : ℕ → Type 0 = λ byte. byte < 256 in
    let memory = c.in_ok-loaded_memory.ensures in
    rw c.in_ok-widths.ensures (rw c.in_ok-cells.ensures (rw memory.value (rw c.from_vec.ensures
    (loaded_is_state c.args.descr.now c.args.image.now c.args.input.items c.requires.words (subst (All P) memory.value memory.bytes)))))

pub returns-clause-made : goal.returns-clause-made
returns-clause-made c =
    rw c.in_ok-widths.ensures (rw c.in_ok-cells.ensures (rw c.in_ok-loaded_memory.ensures.value (rw c.from_vec.ensures
    (loaded_is_machine c.args.descr.now c.args.image.now c.args.input.items))))
