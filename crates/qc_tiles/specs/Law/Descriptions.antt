-- A valid description gives facts that tiles are made for.
use Rattle.std.proofs.Common.{◌∙◌, All, inl, inr, refl, sym, arith}
use Rattle.std.proofs.lemmas.List.{length-map}
use Rattle.qc_descr.specs.declared.description.Description.{Description}
use Rattle.qc_descr.specs.Description.{context_of_description}
use Rattle.qc_descr.specs.Valid.{IsValid}
use Rattle.qc_tiles.specs.Facts.{AreTileFacts}
use Rattle.qc_tiles.specs.Sound.{HasCells, IsSoundTile, facts_of}
use Rattle.qc_tiles.specs.Tiles.{tiles_of}
use Rattle.qc_tiles.specs.Law.Sound.{tiles_sound}

pub description_facts : (d : Description) → IsValid d → AreTileFacts (facts_of d)
description_facts d valid =
    let l = valid.layout in
    record {
      word = elim l.word [ inl e ↦ inl e | inr e ↦ inr (inl e) ];
      align = l.align;
      slot_least = l.slot_least;
      slot_most = l.slot_most;
      other_link = l.other_link;
      same_space = l.same_space.1 ∙ sym l.same_space.0;
    }

pub description_cells : (d : Description) → IsValid d → HasCells (context_of_description d) (facts_of d)
description_cells d valid =
    let l = valid.layout in
    record {
      word = refl;
      space = omega (arith, l.frame.0, length-map d.spaces (λ s. s.width));
      width = l.frame.2;
      frame = l.frame.1;
      link = l.link.1;
    }

pub description_tiles : (d : Description) → IsValid d → All (IsSoundTile (context_of_description d) (facts_of d)) (tiles_of (facts_of d))
description_tiles d valid =
    tiles_sound (context_of_description d) (facts_of d) (description_cells d valid) (description_facts d valid)
