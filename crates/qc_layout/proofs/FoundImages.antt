-- A file that has no faulty place is that of an image that fits.
use Rattle.std.proofs.Common.{◌≡◌, ◌≢◌, ◌<◌, ◌≤◌, ◌+◌, ◌-◌, ◌^◌, ◌∙◌, ◌⊎◌, inl, inr, ℕ, List, ◌++◌, All, Some, length, take, drop, ap, sym, refl, arith, get_or, length-drop}
use Rattle.std.specs.List.{slice_get}
use Rattle.std.specs.Int.{to_le_bytes, w32}
use Rattle.std.proofs.lemmas.Bool.{cases_lt}
use Rattle.std.proofs.lemmas.Bool.Decides.{eqb_tells}
use Rattle.std.proofs.lemmas.List.{drop-drop, ext_get_or, get_or-drop, get_or-take, get_or_past, length-take-le, take-append-drop}
use Rattle.std.proofs.lemmas.List.Elements.{All-get_or}
use Rattle.std.proofs.lemmas.Nat.{le_bytes_4}
use Rattle.std.proofs.lemmas.Option.{get_or_from_slice_get, slice_get-get_or, slice_get_within}
use Rattle.qc_terms.specs.declared.image.Image.{Image}
use Rattle.qc_descr.specs.declared.description.Description.{Description}
use Rattle.qc_descr.specs.Loading.{FitsMachine, data_limit}
use Rattle.qc_layout.specs.ImageFaults.{IsFaultyPlace, code_length, data_length, data_room, mark_for, number_at, wanted_length}
use Rattle.qc_layout.specs.ImageFile.{HasFile, image_bytes}

-- no place of the file is faulty
abbrev pub IsFaultless : Description → List ℕ → Type 0
IsFaultless d bytes = (at : ℕ) → IsFaultyPlace d bytes at → ⊥

at_least : (a b : ℕ) → (b < a → ⊥) → a ≤ b
at_least a b h = elim (cases_lt b a) [ inl lt ↦ absurd (h lt) | inr le ↦ le ]

not_different : (a b : ℕ) → (a ≢ b → ⊥) → a ≡ b
not_different a b h = elim (eqb_tells a b) [ inl w ↦ w.1 | inr w ↦ absurd (h w.1) ]

pub has_header : (d : Description) (bytes : List ℕ) → IsFaultless d bytes → 16 ≤ length bytes
has_header d bytes h = at_least 16 (length bytes) (λ lt. h (length bytes) (inr (inr (inr (inl (refl, inl lt))))))

pub has_length : (d : Description) (bytes : List ℕ) → IsFaultless d bytes → length bytes ≡ wanted_length bytes
has_length d bytes h =
    let header = has_header d bytes h in
    let least : wanted_length bytes ≤ length bytes = at_least _ _ (λ lt. h (length bytes) (inr (inr (inr (inl (refl, inr lt)))))) in
    let most : length bytes ≤ wanted_length bytes = at_least _ _ (λ lt. h (wanted_length bytes) (inr (inr (inr (inr (inl (refl, header, lt))))))) in
    omega arith

pub has_code : (d : Description) (bytes : List ℕ) → IsFaultless d bytes → code_length bytes ≤ d.code_end
has_code d bytes h =
    let header = has_header d bytes h in
    at_least _ _ (λ lt. h 8 (inr (inl (refl, omega arith, lt))))

pub has_room : (d : Description) (bytes : List ℕ) → IsFaultless d bytes → data_length bytes ≤ data_room d
has_room d bytes h =
    let header = has_header d bytes h in
    at_least _ _ (λ lt. h 12 (inr (inr (inl (refl, header, lt)))))

has_mark : (d : Description) (bytes : List ℕ) → IsFaultless d bytes → take 8 bytes ≡ mark_for d
has_mark d bytes h =
    let header = has_header d bytes h in
    let eight : length (take 8 bytes) ≡ 8 = length-take-le 8 bytes (omega arith) in
    ext_get_or 0 (take 8 bytes) (mark_for d) eight
    (λ i lt. get_or-take 8 bytes i 0 (omega arith)
    ∙ not_different _ _ (λ ne. h i (inl (omega arith, omega arith, ne))))

taken_small : (place : ℕ) (bytes : List ℕ) (i : ℕ) → ((k : ℕ) → get_or bytes k 0 < 256) → (i < 4) ⊎ (4 ≤ i) →
    length (take 4 (drop place bytes)) ≡ 4 → get_or (take 4 (drop place bytes)) i 0 < 256
taken_small place bytes i small (inl lt) e =
    let there : get_or (take 4 (drop place bytes)) i 0 ≡ get_or bytes (place + i) 0 =
    get_or-take 4 (drop place bytes) i 0 lt ∙ get_or-drop place bytes i 0 in
    omega (arith, small (place + i))
taken_small place bytes i small (inr le) e =
    omega (arith, get_or_past (take 4 (drop place bytes)) i 0 (omega arith))

bytes_written : (bytes : List ℕ) (place : ℕ) → place + 4 ≤ length bytes → ((i : ℕ) → get_or bytes i 0 < 256) →
    to_le_bytes w32 (number_at place bytes) ≡ take 4 (drop place bytes)
unfolding number_at
bytes_written bytes place within small =
    let four : length (take 4 (drop place bytes)) ≡ 4 =
    length-take-le 4 (drop place bytes) (omega (arith, length-drop place bytes)) in
    le_bytes_4 (take 4 (drop place bytes)) _ four (λ i. taken_small place bytes i small (cases_lt i 4) four) refl

joined : (m n : ℕ) (bytes : List ℕ) → take m (drop n bytes) ++ drop (n + m) bytes ≡ drop n bytes
joined m n bytes =
    ap (λ rest. take m (drop n bytes) ++ rest) (sym (drop-drop m n bytes)) ∙ take-append-drop m (drop n bytes)

split : (c : ℕ) (bytes : List ℕ) →
    take 8 bytes ++ (take 4 (drop 8 bytes) ++ (take 4 (drop 12 bytes) ++ (take c (drop 16 bytes) ++ drop (16 + c) bytes))) ≡ bytes
split c bytes =
    ap (λ rest. take 8 bytes ++ (take 4 (drop 8 bytes) ++ (take 4 (drop 12 bytes) ++ rest))) (joined c 16 bytes)
    ∙ ap (λ rest. take 8 bytes ++ (take 4 (drop 8 bytes) ++ rest)) (joined 4 12 bytes)
    ∙ ap (λ rest. take 8 bytes ++ rest) (joined 4 8 bytes)
    ∙ take-append-drop 8 bytes

-- the image for a machine of this code and data
abbrev pub image_of : Description → List ℕ → List ℕ → Image
image_of d code initial = record { word = d.facts.word; order = d.facts.order; code = code; initial = initial }

-- its parts as they stand in a file
pub record HasParts (bytes code initial : List ℕ) : Type 0 where
  pub code_stands : code ≡ take (code_length bytes) (drop 16 bytes)
  pub data_stands : initial ≡ drop (16 + code_length bytes) bytes

pub has_parts : (bytes body code initial : List ℕ) (size : ℕ) → size ≡ number_at 8 bytes → body ≡ drop 16 bytes →
    code ≡ take size body → initial ≡ drop size body → HasParts bytes code initial
has_parts bytes body code initial size sized is code_is data_is = record {
  code_stands = cc;
  data_stands =
      let whole : initial ≡ drop (number_at 8 bytes) (drop 16 bytes) = cc in
      whole ∙ drop-drop (number_at 8 bytes) 16 bytes;
}

code_size : (d : Description) (bytes code initial : List ℕ) → IsFaultless d bytes → HasParts bytes code initial →
    length code ≡ code_length bytes
code_size d bytes code initial h parts =
    let whole = has_length d bytes h in
    ap length parts.code_stands
    ∙ length-take-le (code_length bytes) (drop 16 bytes) (omega (arith, length-drop 16 bytes))

data_size : (d : Description) (bytes code initial : List ℕ) → IsFaultless d bytes → HasParts bytes code initial →
    length initial ≡ data_length bytes
data_size d bytes code initial h parts =
    let whole = has_length d bytes h in
    let e : length initial ≡ length (drop (16 + code_length bytes) bytes) = ap length parts.data_stands in
    omega (arith, length-drop (16 + code_length bytes) bytes)

last_not : (d : Description) (bytes code initial : List ℕ) → IsFaultless d bytes → HasParts bytes code initial →
    slice_get initial (length initial - 1) ≢ Some 0
last_not d bytes code initial h parts e =
    let size = data_size d bytes code initial h parts in
    let whole = has_length d bytes h in
    let last = length initial - 1 in
    let more : last < length initial = slice_get_within initial last 0 e in
    let at = 16 + code_length bytes + last in
    let read : get_or bytes at 0 ≡ 0 =
    sym (get_or-drop (16 + code_length bytes) bytes last 0)
    ∙ ap (λ xs. get_or xs last 0) (sym parts.data_stands)
    ∙ get_or_from_slice_get initial last 0 0 e in
    h at (inr (inr (inr (inr (inr (
      omega arith,
      omega arith,
      has_header d bytes h,
      slice_get-get_or bytes at 0 (omega arith) ∙ ap Some read,
    ))))))

pub found_lengths : (d : Description) (bytes code initial : List ℕ) → IsFaultless d bytes → HasParts bytes code initial →
    code_length bytes < 2 ^ 32 → HasFile (image_of d code initial)
unfolding data_limit
found_lengths d bytes code initial h parts small = record {
  code = omega (arith, code_size d bytes code initial h parts);
  initial = omega (arith, data_size d bytes code initial h parts, has_room d bytes h);
}

pub found_fits : (d : Description) (bytes code initial : List ℕ) → IsFaultless d bytes → HasParts bytes code initial →
    FitsMachine d (image_of d code initial)
found_fits d bytes code initial h parts = record {
  word = refl;
  order = refl;
  code = omega (arith, code_size d bytes code initial h parts, has_code d bytes h);
  room = omega (arith, data_size d bytes code initial h parts, has_room d bytes h);
  last = last_not d bytes code initial h parts;
}

-- parts that are equal to those of a file, one after another, are the file
joined_parts : (a b c x y a' b' c' x' y' bytes : List ℕ) → a ≡ a' → b ≡ b' → c ≡ c' → x ≡ x' → y ≡ y' →
    a' ++ (b' ++ (c' ++ (x' ++ y'))) ≡ bytes → bytes ≡ a ++ (b ++ (c ++ (x ++ y)))
joined_parts a b c x y a' b' c' x' y' bytes p q r s t e = cc

pub found_bytes : (d : Description) (bytes code initial : List ℕ) → IsFaultless d bytes → HasParts bytes code initial →
    ((i : ℕ) → get_or bytes i 0 < 256) → bytes ≡ image_bytes (image_of d code initial)
unfolding image_bytes
found_bytes d bytes code initial h parts small =
    let header = has_header d bytes h in
    let code_written : to_le_bytes w32 (length code) ≡ take 4 (drop 8 bytes) =
    ap (to_le_bytes w32) (code_size d bytes code initial h parts) ∙ bytes_written bytes 8 (omega arith) small in
    let data_written : to_le_bytes w32 (length initial) ≡ take 4 (drop 12 bytes) =
    ap (to_le_bytes w32) (data_size d bytes code initial h parts) ∙ bytes_written bytes 12 (omega arith) small in
    let whole = split (code_length bytes) bytes in
    let marked = has_mark d bytes h in
    joined_parts (mark_for d) (to_le_bytes w32 (length code)) (to_le_bytes w32 (length initial)) code initial _ _ _ _ _ bytes
    (sym marked) code_written data_written parts.code_stands parts.data_stands whole

small_all : (bytes : List ℕ) (i : ℕ) → All (λ byte. byte < 256) bytes → (i < length bytes) ⊎ (length bytes ≤ i) → get_or bytes i 0 < 256
small_all bytes i all (inl lt) = All-get_or (λ byte. byte < 256) bytes i 0 lt all
small_all bytes i all (inr le) = omega (arith, get_or_past bytes i 0 le)

pub some_image : (d : Description) (bytes : List ℕ) → All (λ byte. byte < 256) bytes → IsFaultless d bytes →
    (image : Image) × FitsMachine d image × (bytes ≡ image_bytes image)
some_image d bytes all h =
    let code = take (code_length bytes) (drop 16 bytes) in
    let initial = drop (16 + code_length bytes) bytes in
    let parts : HasParts bytes code initial = record { code_stands = refl; data_stands = refl } in (
      image_of d code initial,
      found_fits d bytes code initial h parts,
      found_bytes d bytes code initial h parts (λ i. small_all bytes i all (cases_lt i (length bytes))),
    )
