-- A file has the bytes of at most one image.
use Rattle.std.proofs.Common.{◌≡◌, ◌<◌, ◌^◌, ◌∙◌, ℕ, List, ◌++◌, length, take, drop, slice_index_or, ap, sym, refl}
use Rattle.std.proofs.lemmas.Nat.{from_le_bytes-to_le_bytes_4}
use Rattle.std.specs.Int.{to_le_bytes, from_le_bytes, w32}
use Rattle.qc_lists.specs.Law.Lists.{same_parts}
use Rattle.qc_terms.specs.declared.state.Order.{Order}
use Rattle.qc_terms.specs.declared.state.Order.TheVariants.{Little, Big}
use Rattle.qc_terms.specs.declared.image.Image.{Image}
use Rattle.qc_layout.specs.ImageFile.{HasFile, image_bytes, order_byte}

same_order : (x y : Order) → order_byte x ≡ order_byte y → x ≡ y
same_order Little Little e = refl
same_order Little Big e = cc e
same_order Big Little e = cc e
same_order Big Big e = refl

same_number : (m n : ℕ) → m < 2 ^ 32 → n < 2 ^ 32 → to_le_bytes w32 m ≡ to_le_bytes w32 n → m ≡ n
same_number m n p q e =
    sym (from_le_bytes-to_le_bytes_4 m p) ∙ ap (from_le_bytes w32) e ∙ from_le_bytes-to_le_bytes_4 n q

image_from : ℕ → Order → List ℕ → List ℕ → Image
image_from word order code initial = record { word = word; order = order; code = code; initial = initial }

pub one_image : (a b : Image) → HasFile a → HasFile b → image_bytes a ≡ image_bytes b → a ≡ b
unfolding image_bytes image_from
one_image a b p q e =
    let word : a.word ≡ b.word = ap (λ bytes. slice_index_or bytes 4 0) e in
    let order : a.order ≡ b.order = same_order _ _ (ap (λ bytes. slice_index_or bytes 5 0) e) in
    let code_length : length a.code ≡ length b.code =
    same_number _ _ p.code q.code (ap (λ bytes. take 4 (drop 8 bytes)) e) in
    let body : a.code ++ a.initial ≡ b.code ++ b.initial = ap (drop 16) e in
    let parts : (a.code ≡ b.code) × (a.initial ≡ b.initial) = same_parts _ _ _ _ code_length body in
    let code : a.code ≡ b.code = parts.0 in
    let initial : a.initial ≡ b.initial = parts.1 in
    let whole : image_from a.word a.order a.code a.initial ≡ image_from b.word b.order b.code b.initial =
    cc (word, order, code, initial) in
    whole
