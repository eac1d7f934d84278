-- The terms of a pool's entries, as entries come and go.
use Rattle.std.proofs.Common.{rules, arith, ◌≡◌, ◌∙◌, sym, ap, subst, refl, ℕ, zero, suc, ◌+◌, ◌<◌, List, [], ◌∷◌, ◌++◌, length, take, append_assoc, length-append, zero-add, Some, slice_get}
use Rattle.std.proofs.lemmas.List.{get_or_append_left, take_all}
use Rattle.std.proofs.Math.Seq.{get_or-append_seam, take-append_seam}
use Rattle.qc_terms.specs.Tree.{Tree, Number, Unary, Binary, Load, width_of}
use Rattle.qc_pool.specs.declared.node.Node.{Node}
use Rattle.qc_pool.specs.declared.node.Node.TheVariants.{Num, Un, Bin, Reg, Imm, Mem, Input, After}
use Rattle.qc_pool.specs.declared.node.Entry.{Entry}
use Rattle.qc_pool.specs.Nodes.{NodeFits, term_at, term_of}
use Rattle.qc_pool.specs.Regions.{Keeps}
use Rattle.qc_pool.specs.Entries.{AreSound, Shows, terms_after, terms_of}

-- the first term, or what is there
term_at-append : (terms more : List Tree) (id : ℕ) → id < length terms → term_at (terms ++ more) id ≡ term_at terms id
term_at-append terms more id h = get_or_append_left terms more (Number 0 1) id h

-- a node that fits keeps its term while terms come
pub term_of-append : (terms more : List Tree) (node : Node) → NodeFits terms node → term_of (terms ++ more) node ≡ term_of terms node
term_of-append terms more (Num value width) fits = refl
term_of-append terms more (Un op arg) fits = ap (λ t. Unary op t) (term_at-append terms more arg fits.0)
term_of-append terms more (Bin op left right) fits =
    ap (λ t. Binary op t (term_at (terms ++ more) right)) (term_at-append terms more left fits.0)
    ∙ ap (λ t. Binary op (term_at terms left) t) (term_at-append terms more right fits.1)
term_of-append terms more (Reg place width) fits = refl
term_of-append terms more (Imm operand width) fits = refl
term_of-append terms more (Mem width address) fits = ap (λ t. Load width t) (term_at-append terms more address fits)
term_of-append terms more (Input width) fits = refl
term_of-append terms more (After width) fits = refl

-- the terms after some entries begin with those that were there
pub begins : (terms : List Tree) (es : List Entry) → Keeps terms (terms_after terms es)
begins terms [] = ([], search rules)
begins terms (e ∷ es) =
    let t = begins (terms ++ term_of terms e.node ∷ []) es in
    (term_of terms e.node ∷ t.0, t.1 ∙ append_assoc terms (term_of terms e.node ∷ []) t.0)

length-terms_after : (terms : List Tree) (es : List Entry) → length (terms_after terms es) ≡ length terms + length es
length-terms_after terms [] = omega arith
length-terms_after terms (e ∷ es) =
    omega (arith, length-terms_after (terms ++ term_of terms e.node ∷ []) es, length-append terms (term_of terms e.node ∷ []))

-- one more entry
pub terms_after-one : (terms : List Tree) (es : List Entry) (e : Entry) →
    terms_after terms (es ++ e ∷ []) ≡ terms_after terms es ++ term_of (terms_after terms es) e.node ∷ []
terms_after-one terms [] e = refl
terms_after-one terms (x ∷ es) e = terms_after-one (terms ++ term_of terms x.node ∷ []) es e

pub sound-one : (terms : List Tree) (es : List Entry) (e : Entry) → AreSound terms es → NodeFits (terms_after terms es) e.node →
    Shows e (term_of (terms_after terms es) e.node) → AreSound terms (es ++ e ∷ [])
sound-one terms [] e sound fits width = (fits, width, tt)
sound-one terms (x ∷ es) e sound fits width =
    (sound.0, sound.1, sound-one (terms ++ term_of terms x.node ∷ []) es e sound.2 fits width)

take_first : (terms all : List Tree) (n : ℕ) → n ≡ length terms → Keeps terms all → take n all ≡ terms
take_first terms all n is kept =
    ap (λ m. take m all) is ∙ ap (λ ts. take (length terms) ts) kept.1 ∙ take-append_seam terms kept.0

-- the first entries
terms_after-take : (terms : List Tree) (n : ℕ) (es : List Entry) →
    terms_after terms (take n es) ≡ take (length terms + n) (terms_after terms es)
terms_after-take terms zero [] = sym (take_all (length terms + 0) terms (omega arith))
terms_after-take terms zero (e ∷ es) =
    let kept = begins terms (e ∷ es) in
    sym (take_first terms (terms_after terms (e ∷ es)) (length terms + 0) (omega arith) kept)
terms_after-take terms (suc n) [] = sym (take_all (length terms + suc n) terms (omega arith))
terms_after-take terms (suc n) (e ∷ es) =
    let longer = terms ++ term_of terms e.node ∷ [] in
    let long : length longer + n ≡ length terms + suc n = omega (arith, length-append terms (term_of terms e.node ∷ [])) in
    terms_after-take longer n es ∙ ap (λ m. take m (terms_after longer es)) long

pub sound-take : (terms : List Tree) (n : ℕ) (es : List Entry) → AreSound terms es → AreSound terms (take n es)
sound-take terms zero es sound = tt
sound-take terms (suc n) [] sound = tt
sound-take terms (suc n) (e ∷ es) sound = (sound.0, sound.1, sound-take (terms ++ term_of terms e.node ∷ []) n es sound.2)

-- a node that fits goes on to fit while terms come
fits-append : (terms more : List Tree) (node : Node) → NodeFits terms node → NodeFits (terms ++ more) node
fits-append terms more (Num value width) fits = fits
fits-append terms more (Un op arg) fits =
    (omega (arith, length-append terms more, fits.0), fits.1, rw (term_at-append terms more arg fits.0) fits.2)
fits-append terms more (Bin op left right) fits =
    let l = term_at-append terms more left fits.0 in
    let r = term_at-append terms more right fits.1 in
    (omega (arith, length-append terms more, fits.0), omega (arith, length-append terms more, fits.1), fits.2, rw l fits.3, ap width_of l ∙ fits.4 ∙ sym (ap width_of r))
fits-append terms more (Reg place width) fits = tt
fits-append terms more (Imm operand width) fits = tt
fits-append terms more (Mem width address) fits = omega (arith, length-append terms more)
fits-append terms more (Input width) fits = tt
fits-append terms more (After width) fits = tt

-- the entry at a place: what is said of it
pub record IsEntry (terms : List Tree) (id : ℕ) (e : Entry) : Type 0 where
  pub before : NodeFits (take id terms) e.node
  pub fits : NodeFits terms e.node
  pub shows : Shows e (term_of terms e.node)
  pub term : term_at terms id ≡ term_of terms e.node

first_entry : (terms more : List Tree) (e : Entry) → NodeFits terms e.node → Shows e (term_of terms e.node) →
    IsEntry (terms ++ term_of terms e.node ∷ more) (length terms) e
first_entry terms more e fits width =
    let rest = term_of terms e.node ∷ more in
    let same = term_of-append terms rest e.node fits in
    let front = take_first terms (terms ++ rest) (length terms) refl (rest, refl) in
    let P : List Tree → Type 0 = λ ts. NodeFits ts e.node in
    record {
      before = subst P (sym front) fits;
      fits = fits-append terms rest e.node fits;
      shows = subst (Shows e) (sym same) width;
      term = get_or-append_seam terms (term_of terms e.node) more (Number 0 1) ∙ sym same;
    }

entry_at : (terms : List Tree) (es : List Entry) → AreSound terms es → (k id : ℕ) (e : Entry) → slice_get es k ≡ Some e →
    id ≡ length terms + k → IsEntry (terms_after terms es) id e
entry_at terms [] sound k id e at is = cc at
entry_at terms (x ∷ es) sound zero id e at is =
    let kept = begins (terms ++ term_of terms x.node ∷ []) es in
    let all : terms_after terms (x ∷ es) ≡ terms ++ term_of terms x.node ∷ kept.0 = kept.1 ∙ append_assoc terms (term_of terms x.node ∷ []) kept.0 in
    let same : x ≡ e = cc at in
    let place : length terms ≡ id = omega arith in
    let P : List Tree → Type 0 = λ ts. IsEntry ts id e in
    let Q : Entry → Type 0 = λ y. IsEntry (terms ++ term_of terms x.node ∷ kept.0) id y in
    let R : ℕ → Type 0 = λ k. IsEntry (terms ++ term_of terms x.node ∷ kept.0) k x in
    subst P (sym all) (subst Q same (subst R place (first_entry terms kept.0 x sound.0 sound.1)))
entry_at terms (x ∷ es) sound (suc k) id e at is =
    entry_at (terms ++ term_of terms x.node ∷ []) es sound.2 k id e at (omega (arith, length-append terms (term_of terms x.node ∷ [])))

-- the same of all entries of a pool
pub length-terms_of : (es : List Entry) → length (terms_of es) ≡ length es
length-terms_of es = length-terms_after [] es ∙ zero-add (length es)

pub terms_of-take : (n : ℕ) (es : List Entry) → terms_of (take n es) ≡ take n (terms_of es)
terms_of-take n es = terms_after-take [] n es ∙ ap (λ m. take m (terms_of es)) (zero-add n)

pub known_at : (es : List Entry) → AreSound [] es → (id : ℕ) (e : Entry) → slice_get es id ≡ Some e → IsEntry (terms_of es) id e
known_at es sound id e at = entry_at [] es sound id id e at (sym (zero-add id))
