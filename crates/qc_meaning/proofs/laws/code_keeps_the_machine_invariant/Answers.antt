use Rattle.std.proofs.Common.{All, false, true}
use Rattle.qc_meaning.specs.declared.lines.TileLine.TheVariants as tile_line
use Rattle.qc_meaning.specs.Kept.{IsTileLine}
use Rattle.qc_meaning.specs.Law.Invariant.{element_of, procedures_do}
use Rattle.qc_meaning.proofs.laws.code_keeps_the_machine_invariant.Goals as goal

pub returns : goal.returns
returns c = record {
  code = λ d x is. procedures_do d true 0 x.procedures is.lines;
  placed = λ d x is. procedures_do d false 0 x.procedures is.lines;
  tiles = λ d x tile registers constants target is i k lines here there.
      element_of (IsTileLine d) lines k (tile_line.Inst tile registers constants target)
      (element_of (λ ls. All (IsTileLine d) ls) x.procedures i lines is.lines here) there;
}
