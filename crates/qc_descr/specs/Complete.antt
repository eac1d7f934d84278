-- Parts that leave nothing open, so that a fault of them is a fault of the description that they would make.
use Rattle.std.specs.Prelude.{List, [], ◌∷◌, Bool, true, false, ◌&&◌, not, is_some, IsTrue}
use Rattle.std.specs.List.{list_all}
use Rattle.qc_descr.specs.declared.sketch.Claim.{Claim}
use Rattle.qc_descr.specs.declared.sketch.Claim.TheVariants.{Once}
use Rattle.qc_descr.specs.declared.sketch.Parts.{Parts}
use Rattle.qc_descr.specs.declared.sketch.Sketch.{Sketch}

-- one thing is said of a bit
abbrev pub is_once : Claim → Bool
is_once (Once bit) = true
is_once _ = false

-- one alternative, in which everything fits and one thing is said of each bit
abbrev pub is_one : List Sketch → Bool
is_one (s ∷ []) = not s.misfit && list_all is_once s.claims
is_one _ = false

-- All facts are given but for a zero cell, which need not be. Each operation has one alternative, in which everything fits
-- and no bit is free or has several things said of it.
pub record AreComplete (p : Parts) : Type 0 where
  pub word : IsTrue (is_some p.given.word)
  pub order : IsTrue (is_some p.given.order)
  pub align : IsTrue (is_some p.given.align)
  pub slot_bits : IsTrue (is_some p.given.slot_bits)
  pub frame : IsTrue (is_some p.given.frame)
  pub link : IsTrue (is_some p.given.link)
  pub allocatable : IsTrue (is_some p.given.allocatable)
  pub memory : IsTrue (is_some p.given.memory)
  pub code_end : IsTrue (is_some p.given.code_end)
  pub data_end : IsTrue (is_some p.given.data_end)
  pub alternatives : IsTrue (list_all is_one p.sketches)
