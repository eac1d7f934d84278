-- The file of an image that fits a machine has no faulty place.
use Rattle.std.proofs.Common.{◌≡◌, ◌<◌, ◌+◌, ◌-◌, ◌∙◌, ◌⊎◌, inl, inr, ℕ, List, ◌++◌, Some, length, ap, sym, subst, arith, append_assoc}
use Rattle.std.specs.List.{slice_get, slice_index}
use Rattle.std.specs.Int.{to_le_bytes, w32}
use Rattle.std.proofs.lemmas.List.{get_or_append_left, get_or-append-add}
use Rattle.std.proofs.lemmas.Option.{get_or_from_slice_get, slice_get-get_or}
use Rattle.qc_terms.specs.declared.image.Image.{Image}
use Rattle.qc_terms.specs.declared.state.Order.{Order}
use Rattle.qc_descr.specs.declared.description.Description.{Description}
use Rattle.qc_descr.specs.Loading.{FitsMachine, data_limit}
use Rattle.qc_descr.specs.Valid.{IsValid}
use Rattle.qc_layout.specs.ImageFaults.{IsFaultyPlace, mark_for, wanted_length}
use Rattle.qc_layout.specs.ImageFile.{HasFile, image_bytes, mark}
use Rattle.qc_layout.proofs.Headers.{code_written, data_written, length_of_file, length_written}

-- an image that fits the machine of a valid description has a file
pub fitting_has_file : (d : Description) (image : Image) → IsValid d → FitsMachine d image → HasFile image
unfolding data_limit
fitting_has_file d image valid fits = record {
  code = omega (arith, fits.code, valid.layout.code_most);
  initial = omega (arith, fits.room);
}

mark_read : (image : Image) (at : ℕ) → at < 8 → slice_index (image_bytes image) at ≡ slice_index (mark image.word image.order) at
unfolding image_bytes
mark_read image at lt =
    get_or_append_left (mark image.word image.order)
    (to_le_bytes w32 (length image.code) ++ (to_le_bytes w32 (length image.initial) ++ (image.code ++ image.initial))) 0 at lt

same_mark : (d : Description) (image : Image) → FitsMachine d image → mark image.word image.order ≡ mark_for d
same_mark d image fits =
    ap (λ w. mark w image.order) fits.word ∙ ap (λ (o : Order). mark d.facts.word o) fits.order

before_data : Image → List ℕ
before_data image =
    mark image.word image.order
    ++ (to_le_bytes w32 (length image.code) ++ (to_le_bytes w32 (length image.initial) ++ image.code))

split_data : (image : Image) → image_bytes image ≡ before_data image ++ image.initial
unfolding image_bytes before_data
split_data image = simp append_assoc

length_before : (image : Image) → length (before_data image) ≡ 16 + length image.code
unfolding before_data
length_before image = omega arith

last_read : (image : Image) (at : ℕ) → 0 < length image.initial → at + 1 ≡ 16 + (length image.code + length image.initial) →
    slice_get (image_bytes image) at ≡ Some 0 → slice_get image.initial (length image.initial - 1) ≡ Some 0
last_read image at more place h =
    let last = length image.initial - 1 in
    let there : at ≡ length (before_data image) + last = omega (arith, length_before image) in
    let read : slice_index (before_data image ++ image.initial) (length (before_data image) + last) ≡ 0 =
    get_or_from_slice_get (before_data image ++ image.initial) (length (before_data image) + last) 0 0
    (subst (λ i. slice_get (before_data image ++ image.initial) i ≡ Some 0) there
    (subst (λ bytes. slice_get bytes at ≡ Some 0) (split_data image) h)) in
    slice_get-get_or image.initial last 0 (omega arith)
    ∙ ap Some (sym (get_or-append-add (before_data image) image.initial last 0) ∙ read)

short_not : (image : Image) → HasFile image → (length (image_bytes image) < 16) ⊎ (length (image_bytes image) < wanted_length (image_bytes image)) → ⊥
short_not image has (inl h) = omega (arith, length_of_file image)
short_not image has (inr h) = omega (arith, length_written image has)

pub no_fault : (d : Description) (image : Image) (at : ℕ) → HasFile image → FitsMachine d image → IsFaultyPlace d (image_bytes image) at → ⊥
no_fault d image at has fits (inl h) =
    h.2 (mark_read image at h.0 ∙ ap (λ m. slice_index m at) (same_mark d image fits))
no_fault d image at has fits (inr (inl h)) = omega (arith, h.2, code_written image has, fits.code)
no_fault d image at has fits (inr (inr (inl h))) = omega (arith, h.2, data_written image has, fits.room)
no_fault d image at has fits (inr (inr (inr (inl h)))) = short_not image has h.1
no_fault d image at has fits (inr (inr (inr (inr (inl h))))) = omega (arith, h.2, length_written image has)
no_fault d image at has fits (inr (inr (inr (inr (inr h))))) =
    fits.last (last_read image at (omega (arith, h.1, data_written image has)) (omega (arith, h.0, code_written image has, data_written image has)) h.3)
