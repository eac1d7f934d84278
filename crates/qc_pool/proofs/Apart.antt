-- A set's entries are apart.
use Rattle.std.proofs.Common.{arith, ◌≡◌, ◌∙◌, sym, ap, refl, ℕ, ◌<◌, List, [], ◌∷◌, ◌++◌, get_or, Some, slice_get, true, false, inl, inr, ◌⊎◌, if◌then◌else◌, Bool}
use Rattle.std.specs.List.{IsDistinct, list_any}
use Rattle.std.proofs.lemmas.Option.{slice_get_within, get_or_from_slice_get}
use Rattle.std.proofs.lemmas.Map.Keys.{apart_from_distinct, any_passes_from_place}
use Rattle.std.proofs.lemmas.Bool.{cases_lt}
use Rattle.qc_pool.specs.declared.node.Entry.{Entry}
use Rattle.qc_pool.specs.contracts.node.EntryPartialEq.TheImpl as entry_eq
use Rattle.qc_pool.specs.contracts.node.EntryEq.TheImpl.Laws as entry_laws
use Rattle.qc_pool.specs.Entries.{AreApart, IsPut}
use Rattle.qc_pool.proofs.Same.{same_entry}

reflexive : (e : Entry) → (entry_eq.ghosts).eq e e ≡ true
reflexive e = entry_laws.laws-law.refl e

not_before : (es : List Entry) → IsDistinct (entry_eq.ghosts).eq es → (i j : ℕ) (e : Entry) → slice_get es i ≡ Some e →
    slice_get es j ≡ Some e → i < j → ⊥
not_before es distinct i j e at also before =
    let differ = apart_from_distinct (entry_eq.ghosts).eq es i j e distinct before (slice_get_within es j e also) in
    let same = ap (λ x. (entry_eq.ghosts).eq x (get_or es j e)) (get_or_from_slice_get es i e e at)
    ∙ ap (λ x. (entry_eq.ghosts).eq e x) (get_or_from_slice_get es j e e also) ∙ reflexive e in
    let clash : false ≡ true = sym differ ∙ same in
    cc clash

pub apart : (es : List Entry) → IsDistinct (entry_eq.ghosts).eq es → AreApart es
apart es distinct i j e at also =
    elim (cases_lt i j) [
      | inl before ↦ absurd (not_before es distinct i j e at also before)
      | inr behind ↦
          elim (cases_lt j i) [ inl after ↦ absurd (not_before es distinct j i e also at after) | inr same ↦ omega arith ]
    ]

change : (old new : List Entry) (e : Entry) (found : Bool) → list_any ((entry_eq.ghosts).eq e) old ≡ found →
    new ≡ (if found then old else old ++ e ∷ []) →
    (new ≡ old) ⊎ (((k : ℕ) → slice_get old k ≡ Some e → ⊥) × (new ≡ old ++ e ∷ []))
change old new e true is keys = inl keys
change old new e false is keys =
    inr ((λ k at. let clash : true ≡ false = sym (any_passes_from_place ((entry_eq.ghosts).eq e) old k e at (reflexive e)) ∙ is in cc clash), keys)

pub is_put : (old new : List Entry) (e : Entry) (id : ℕ) →
    new ≡ (if list_any ((entry_eq.ghosts).eq e) old then old else old ++ e ∷ []) →
    ((k : Entry) × (slice_get new id ≡ Some k) × ((entry_eq.ghosts).eq e k ≡ true)) → IsPut old new e id
is_put old new e id keys stored = record {
  at = stored.1 ∙ ap (λ x. Some x) (sym (same_entry e stored.0 stored.2));
  change = change old new e (list_any ((entry_eq.ghosts).eq e) old) refl keys;
}
