-- Of which shapes the tests of tiles hold.
use Rattle.std.proofs.Common.{◌≡◌, ◌||◌, true, not, refl}
use Rattle.qc_tiles.specs.declared.shape.Shape.{Shape}
use Rattle.qc_tiles.specs.declared.shape.Shape.TheVariants as shape
use Rattle.qc_code.specs.Reach.{is_branch_shape}
use Rattle.qc_code.specs.SpecialTiles.{moves_link, moves_slot}
use Rattle.qc_derivations.specs.Nodes.{is_bare, is_branch, is_single}

-- a tile that moves the link or a slot is a single one, one that moves a slot a bare one, and branches are the same
pub record IsToldSo (s : Shape) : Type 0 where
  pub link : (not (moves_link s) || is_single s) ≡ true
  pub slot : (not (moves_slot s) || is_single s) ≡ true
  pub bare : moves_slot s ≡ is_bare s
  pub branch : is_branch_shape s ≡ is_branch s

pub is_told : (s : Shape) → IsToldSo s
is_told shape.Move = record { link = refl; slot = refl; bare = refl; branch = refl }
is_told shape.Const = record { link = refl; slot = refl; bare = refl; branch = refl }
is_told (shape.Unary op) = record { link = refl; slot = refl; bare = refl; branch = refl }
is_told (shape.Binary op) = record { link = refl; slot = refl; bare = refl; branch = refl }
is_told (shape.Test op) = record { link = refl; slot = refl; bare = refl; branch = refl }
is_told (shape.Branch op) = record { link = refl; slot = refl; bare = refl; branch = refl }
is_told (shape.LoadPart bits) = record { link = refl; slot = refl; bare = refl; branch = refl }
is_told shape.LoadWord = record { link = refl; slot = refl; bare = refl; branch = refl }
is_told (shape.StorePart bits) = record { link = refl; slot = refl; bare = refl; branch = refl }
is_told shape.StoreWord = record { link = refl; slot = refl; bare = refl; branch = refl }
is_told shape.Goto = record { link = refl; slot = refl; bare = refl; branch = refl }
is_told shape.Call = record { link = refl; slot = refl; bare = refl; branch = refl }
is_told shape.Ret = record { link = refl; slot = refl; bare = refl; branch = refl }
is_told shape.SaveLink = record { link = refl; slot = refl; bare = refl; branch = refl }
is_told shape.LoadLink = record { link = refl; slot = refl; bare = refl; branch = refl }
is_told shape.Spill = record { link = refl; slot = refl; bare = refl; branch = refl }
is_told shape.Reload = record { link = refl; slot = refl; bare = refl; branch = refl }
is_told shape.Frame = record { link = refl; slot = refl; bare = refl; branch = refl }
is_told shape.In = record { link = refl; slot = refl; bare = refl; branch = refl }
is_told shape.Out = record { link = refl; slot = refl; bare = refl; branch = refl }
is_told shape.Halt = record { link = refl; slot = refl; bare = refl; branch = refl }
is_told shape.Trap = record { link = refl; slot = refl; bare = refl; branch = refl }
