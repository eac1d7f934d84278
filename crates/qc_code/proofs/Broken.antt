-- Each of these templates breaks a condition.
use Rattle.std.proofs.Common.{◌≡◌, ◌≤◌, Some, None, refl, arith}
use Rattle.qc_descr.specs.CodingFaults as faults
use Rattle.qc_descr.specs.Valid as valid
use Rattle.qc_tiles.specs.declared.name.TileName.TheVariants as name
use Rattle.qc_code.specs.Example.{branch_first, early, guarded, in_two, machine, reading, sharing, stray_after, stray_cell, stray_flag, the_tile, too_many, unaligned, unset, with_flag, with_scratch}
use Rattle.qc_code.specs.IsTemplateFor.{HasRegisters}
use Rattle.qc_code.specs.Marks.{KeepsStrayWords}
use Rattle.qc_code.specs.Reach.{BranchesLast, HasAlignedAddresses, short_reach}
use Rattle.qc_code.specs.Registers.{ReadsAsTile, ReadsSetScratches, SetsParameters, WritesAsTile}
use Rattle.qc_code.specs.SpecialTiles.{CallsApart, MovesLinkAtOnce, MovesSlotsAtOnce}
use Rattle.qc_code.proofs.Trees.{fails, trees}

pub writes : WritesAsTile machine (the_tile name.Add) early → ⊥
writes holds = fails refl holds

pub reads : ReadsAsTile machine (the_tile name.Move) reading → ⊥
unfolding valid.all_below
reads holds = fails (simp trees refl) holds

pub sets : SetsParameters machine guarded → ⊥
sets holds = fails refl holds

pub scratches : ReadsSetScratches machine unset → ⊥
scratches holds = fails (simp trees refl) holds

pub flag : KeepsStrayWords machine (the_tile name.Goto) stray_flag → ⊥
flag holds = fails (simp trees refl) holds

pub after : KeepsStrayWords machine (the_tile name.Move) stray_after → ⊥
after holds = fails (simp trees refl) holds

pub cell : KeepsStrayWords machine (the_tile name.Move) stray_cell → ⊥
cell holds = fails (simp trees refl) holds

pub aligned : HasAlignedAddresses machine unaligned → ⊥
unfolding faults.missing_from
aligned holds = fails refl holds

pub link : MovesLinkAtOnce (the_tile name.Loadlink) in_two → ⊥
link holds = fails refl holds

pub reload : MovesSlotsAtOnce machine (the_tile name.Reload) with_scratch → ⊥
reload holds = fails refl holds

pub spill : MovesSlotsAtOnce machine (the_tile name.Spill) with_flag → ⊥
spill holds = fails refl holds

pub call : CallsApart machine (the_tile name.Call) sharing → ⊥
call holds = fails (simp trees refl) holds

pub branch : BranchesLast machine (the_tile name.Breq) branch_first → ⊥
branch holds = fails refl holds

pub registers : HasRegisters machine (the_tile name.Add) too_many → ⊥
registers holds = let more : 6 ≤ 5 = holds in omega (arith, more)

pub reach : short_reach machine None (the_tile name.Goto) stray_flag ≡ Some (record { reach = 32; needs = 257 })
reach = refl
