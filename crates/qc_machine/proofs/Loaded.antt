-- The state in which a run begins.
use Rattle.std.proofs.Common.{◌≡◌, ℕ, ◌<◌, ◌^◌, List, [], ◌∷◌, ◌++◌, length, map, replicate, get_or, All, refl, sym, ◌∙◌, ap, arith}
use Rattle.std.specs.Prelude.{slice_index}
use Rattle.std.proofs.lemmas.List.Elements.{All-append, All-from_get_or}
use Rattle.std.proofs.lemmas.List.{get_or-map, get_or-replicate, length-map, length-replicate}
use Rattle.std.proofs.Math.Nat.{one-le-pow}
use Rattle.qc_terms.specs.declared.image.Image.{Image}
use Rattle.qc_terms.specs.Cells.{HasCell, cell_of, row_of}
use Rattle.qc_terms.specs.State.{IsState}
use Rattle.qc_descr.specs.declared.description.Description.{Description}
use Rattle.qc_descr.specs.declared.description.Space.{Space}
use Rattle.qc_descr.specs.Description.{counts_of, widths_of}
use Rattle.qc_descr.specs.Loading.{loaded_state, loaded_memory}
use Rattle.qc_descr.specs.Machine.{IsMachineOf}

abbrev zeros : ℕ → List ℕ
zeros count = replicate count 0

abbrev zeroed : List ℕ → List (List ℕ)
zeroed counts = map zeros counts

lengths-zeroed : (counts : List ℕ) → map length (zeroed counts) ≡ counts
lengths-zeroed [] = refl
lengths-zeroed (count ∷ counts) =
    ap (λ n. n ∷ map length (zeroed counts)) (length-replicate count 0) ∙ ap (λ ns. count ∷ ns) (lengths-zeroed counts)

cell-zeroed : (counts : List ℕ) (space index : ℕ) → HasCell (zeroed counts) space index → cell_of (zeroed counts) space index ≡ 0
cell-zeroed counts space index has =
    let within : space < length counts = omega (arith, has.0, length-map counts zeros) in
    let row : row_of (zeroed counts) space ≡ zeros (get_or counts space 0) =
    get_or-map zeros counts space 0 [] within in
    let inside : index < get_or counts space 0 = omega (arith, has.1, ap length row, length-replicate {A = ℕ} (get_or counts space 0) 0) in
    ap (λ r. slice_index r index) row ∙ get_or-replicate (get_or counts space 0) index 0 0 inside

-- code and data, each followed by zero bytes, are bytes
zero_bytes : (count : ℕ) → All (λ byte. byte < 256) (replicate count 0)
zero_bytes count =
    let P : ℕ → Type 0 = λ byte. byte < 256 in
    All-from_get_or P (replicate count 0) 0 (λ i h.
    let inside : i < count = omega (arith, h, length-replicate {A = ℕ} count 0) in
    omega (arith, get_or-replicate {A = ℕ} count i 0 0 inside))

pub filled_bytes : (code initial : List ℕ) (gap rest : ℕ) → All (λ byte. byte < 256) code → All (λ byte. byte < 256) initial →
    All (λ byte. byte < 256) (code ++ (replicate gap 0 ++ (initial ++ replicate rest 0)))
filled_bytes code initial gap rest in_code in_initial =
    let P : ℕ → Type 0 = λ byte. byte < 256 in
    All-append P code (replicate gap 0 ++ (initial ++ replicate rest 0)) in_code
    (All-append P (replicate gap 0) (initial ++ replicate rest 0) (zero_bytes gap)
    (All-append P initial (replicate rest 0) in_initial (zero_bytes rest)))

pub loaded_is_state : (d : Description) (image : Image) (input : List ℕ) → All (λ word. word < 2 ^ d.facts.word) input →
    All (λ byte. byte < 256) (loaded_memory d image) → IsState (loaded_state d image input)
loaded_is_state d image input words bytes = record {
  spaces = length-map (counts_of d) zeros ∙ length-map d.spaces (λ (s : Space). s.cells)
      ∙ sym (length-map d.spaces (λ (s : Space). s.width));
  words = λ space index has.
      let zero : cell_of (zeroed (counts_of d)) space index ≡ 0 = cell-zeroed (counts_of d) space index has in
      omega (arith, zero, one-le-pow (slice_index (widths_of d) space) 2 (omega arith));
  memory = bytes;
  pc = one-le-pow d.facts.word 2 (omega arith);
  input = words;
  taken = omega arith;
  ending = λ event is. cc;
}

pub loaded_is_machine : (d : Description) (image : Image) (input : List ℕ) → IsMachineOf d (loaded_state d image input)
loaded_is_machine d image input = record { facts = refl; widths = refl; counts = lengths-zeroed (counts_of d) }
