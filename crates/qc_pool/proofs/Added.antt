-- What a pool is, and what an entry that is put into it makes of its terms.
use Rattle.std.proofs.Common.{arith, ◌≡◌, ◌∙◌, sym, ap, subst, refl, ℕ, zero, suc, ◌<◌, List, [], ◌∷◌, ◌++◌, length, Some, slice_get, inl, inr, Result, Ok, Err, IfOk, OnErr}
use Rattle.std.proofs.lemmas.Option.{slice_get-get_or, slice_get_within, get_or_from_slice_get}
use Rattle.std.specs.declared.alloc.AllocError.{AllocError}
use Rattle.qc_terms.specs.Tree.{Tree, Number}
use Rattle.qc_pool.specs.declared.node.Node.{Node}
use Rattle.qc_pool.specs.declared.node.Node.TheVariants.{Num, Un, Bin, Reg, Imm, Mem, Input, After}
use Rattle.qc_pool.specs.declared.node.Entry.{Entry}
use Rattle.qc_pool.specs.Nodes.{NodeFits, term_at, term_of}
use Rattle.qc_pool.specs.Regions.{IsAdded, IsRegion, IsThere}
use Rattle.qc_pool.specs.Widths.{HasWidths}
use Rattle.qc_pool.specs.Entries.{AreEntries, AreSound, IsPut, Shows, terms_after, terms_of}
use Rattle.qc_pool.proofs.Sound.{known_at, length-terms_of, sound-one, terms_after-one, term_of-append}
use Rattle.qc_pool.proofs.Distinct.{entry_of, same_entries, same_id, same_node}

-- each term has the widths that it needs
abbrev pub AllHaveWidths : List Tree → Type 0
AllHaveWidths terms = (id : ℕ) (t : Tree) → slice_get terms id ≡ Some t → HasWidths t

at_has_widths : (terms : List Tree) → AllHaveWidths terms → (id : ℕ) → id < length terms → HasWidths (term_at terms id)
at_has_widths terms all id below = all id (term_at terms id) (slice_get-get_or terms id (Number 0 1) below)

node_has_widths : (terms : List Tree) → AllHaveWidths terms → (node : Node) → NodeFits terms node → HasWidths (term_of terms node)
node_has_widths terms all (Num value width) fits = fits
node_has_widths terms all (Un op arg) fits = (fits.1, fits.2, at_has_widths terms all arg fits.0)
node_has_widths terms all (Bin op left right) fits =
    (fits.2, fits.3, fits.4, at_has_widths terms all left fits.0, at_has_widths terms all right fits.1)
node_has_widths terms all (Reg place width) fits = tt
node_has_widths terms all (Imm operand width) fits = tt
node_has_widths terms all (Mem width address) fits = at_has_widths terms all address fits
node_has_widths terms all (Input width) fits = tt
node_has_widths terms all (After width) fits = tt

one_more : (terms : List Tree) (t : Tree) → AllHaveWidths terms → HasWidths t → AllHaveWidths (terms ++ t ∷ [])
one_more [] t all widths zero u at = let same : t ≡ u = cc at in subst HasWidths same widths
one_more [] t all widths (suc id) u at = absurd (cc at)
one_more (x ∷ terms) t all widths zero u at = all zero u at
one_more (x ∷ terms) t all widths (suc id) u at = one_more terms t (λ k v h. all (suc k) v h) widths id u at

terms_have_widths : (terms : List Tree) (es : List Entry) → AreSound terms es → AllHaveWidths terms → AllHaveWidths (terms_after terms es)
terms_have_widths terms [] sound all = all
terms_have_widths terms (e ∷ es) sound all =
    let t = term_of terms e.node in
    terms_have_widths (terms ++ t ∷ []) es sound.2 (one_more terms t all (node_has_widths terms all e.node sound.0))

pub region : (es : List Entry) → AreEntries es → IsRegion (terms_of es)
region es entries = record {
  widths = terms_have_widths [] es entries.sound (λ id t at. absurd (cc at));
  distinct = λ i j below also same.
      same_id es entries (term_at (terms_of es) j) (λ n m f g p q. same_node es entries (term_at (terms_of es) j) n m f g p q)
      i j below also same refl;
}

-- the entry at a place stands for the node's term, which is the term at its id
pub stands : (es : List Entry) → AreSound [] es → (id : ℕ) (e : Entry) → slice_get es id ≡ Some e →
    slice_get (terms_of es) id ≡ Some (term_of (terms_of es) e.node)
stands es sound id e at =
    let known = known_at es sound id e at in
    let within = slice_get_within es id e at in
    slice_get-get_or (terms_of es) id (Number 0 1) (omega (arith, length-terms_of es)) ∙ ap (λ t. Some t) known.term

not_there : (es : List Entry) → AreEntries es → (e : Entry) → NodeFits (terms_of es) e.node → Shows e (term_of (terms_of es) e.node) →
    ((k : ℕ) → slice_get es k ≡ Some e → ⊥) → IsThere (terms_of es) (term_of (terms_of es) e.node) → ⊥
not_there es entries e fits width absent there =
    let terms = terms_of es in
    let id = there.0 in
    let found = entry_of es entries.sound id (slice_get_within terms id (term_of terms e.node) there.1) in
    let term : term_of terms found.0.node ≡ term_of terms e.node =
    sym found.2.term ∙ get_or_from_slice_get terms id (term_of terms e.node) (Number 0 1) there.1 in
    let node = same_node es entries (term_of terms e.node) found.0.node e.node found.2.fits fits term refl in
    absent id (found.1 ∙ ap (λ x. Some x) (same_entries terms found.0 e found.2.shows width node))

pub sound-put : (old new : List Entry) (e : Entry) (id : ℕ) → AreSound [] old → NodeFits (terms_of old) e.node →
    Shows e (term_of (terms_of old) e.node) → IsPut old new e id → AreSound [] new
sound-put old new e id sound fits width put =
    let P : List Entry → Type 0 = λ es. AreSound [] es in
    elim put.change [ inl same ↦ subst P (sym same) sound | inr change ↦ subst P (sym change.1) (sound-one [] old e sound fits width) ]

pub added : (old new : List Entry) (e : Entry) (id : ℕ) → AreEntries old → NodeFits (terms_of old) e.node →
    Shows e (term_of (terms_of old) e.node) → IsPut old new e id →
    IsAdded (terms_of old) (terms_of new) (term_of (terms_of old) e.node) id
added old new e id entries fits width put =
    let t = term_of (terms_of old) e.node in
    let here = stands new (sound-put old new e id entries.sound fits width put) id e put.at in
    elim put.change [
      | inl same ↦
          let at = here ∙ ap (λ es. Some (term_of (terms_of es) e.node)) same in
          let P : List Entry → Type 0 = λ es. slice_get (terms_of es) id ≡ Some t in
          record { at = at; change = inl ((id, subst P same at), ap terms_of same) }
      | inr change ↦
          let longer = ap terms_of change.1 ∙ terms_after-one [] old e in
          let at = here ∙ ap (λ ts. Some (term_of ts e.node)) longer ∙ ap (λ u. Some u) (term_of-append (terms_of old) (t ∷ []) e.node fits) in
          record { at = at; change = inr (not_there old entries e fits width change.0, longer) }
    ]

-- the same of a call that may be refused memory
pub sound_after : (r : Result ℕ AllocError) (old new : List Entry) (e : Entry) → AreSound [] old → NodeFits (terms_of old) e.node →
    Shows e (term_of (terms_of old) e.node) → IfOk r (λ id. IsPut old new e id) → OnErr r (new ≡ old) → AreSound [] new
sound_after (Ok id) old new e sound fits width put refused = sound-put old new e id sound fits width put
sound_after (Err x) old new e sound fits width put refused =
    let P : List Entry → Type 0 = λ es. AreSound [] es in subst P (sym refused) sound
