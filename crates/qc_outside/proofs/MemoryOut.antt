-- The bytes of pieces, one of which is added.
use Rattle.std.proofs.Common.{◌≡◌, ℕ, List, [], ◌∷◌, ◌++◌, Vec, sym, ap, ◌∙◌, append-nil}
use Rattle.std.specs.List.{concat}
use Rattle.std.specs.declared.alloc.Global.{Global}
use Rattle.std.proofs.lemmas.List.{map-append}
use Rattle.std.proofs.lemmas.List.Folds.{concat-append}
use Rattle.qc_outside.specs.MemoryOut.{bytes_of}

-- the bytes of the pieces with one more are the bytes before with those of this piece
pub concat-added : (pieces : List (Vec ℕ Global)) (more : Vec ℕ Global) → concat (bytes_of (pieces ++ more ∷ [])) ≡ concat (bytes_of pieces) ++ more.items
concat-added pieces more =
    ap concat (map-append _ pieces (more ∷ []))
    ∙ concat-append (bytes_of pieces) (more.items ∷ [])
    ∙ ap (λ end. concat (bytes_of pieces) ++ end) (append-nil more.items)

-- where a piece was added to the pieces and its bytes to the bytes, these are still the bytes of the pieces
pub joined_more : (pieces after : List (Vec ℕ Global)) (more : Vec ℕ Global) (written now piece : List ℕ) → written ≡ concat (bytes_of pieces) → after ≡ pieces ++ more ∷ [] → more.items ≡ piece → now ≡ written ++ piece → now ≡ concat (bytes_of after)
joined_more pieces after more written now piece before added copied grown =
    grown
    ∙ ap (λ w. w ++ piece) before
    ∙ ap (λ p. concat (bytes_of pieces) ++ p) (sym copied)
    ∙ sym (concat-added pieces more)
    ∙ ap (λ all. concat (bytes_of all)) (sym added)
