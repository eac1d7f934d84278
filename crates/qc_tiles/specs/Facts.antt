-- The facts of a machine that tiles are made for.
use Rattle.std.specs.Prelude.{◌≡◌, ◌≢◌, ◌≤◌, ◌⊎◌, [], ◌∷◌, Contains}
use Rattle.qc_tiles.specs.declared.tile.TileFacts.{TileFacts}

-- The word has 16, 32 or 64 bits, and a frame offset no more. The frame and the link are two cells of one space.
pub record AreTileFacts (f : TileFacts) : Type 0 where
  pub word : (f.word ≡ 16) ⊎ ((f.word ≡ 32) ⊎ (f.word ≡ 64))
  pub align : Contains (1 ∷ 2 ∷ 4 ∷ 8 ∷ 16 ∷ []) f.align
  pub slot_least : 4 ≤ f.slot_bits
  pub slot_most : f.slot_bits ≤ f.word
  pub other_link : f.link ≢ f.frame
  pub same_space : f.link.0 ≡ f.frame.0
