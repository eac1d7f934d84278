-- What the parts of a term, added in turn, make of a pool.
use Rattle.std.proofs.Common.{◌≡◌, ◌∙◌, sym, ap, subst, refl, ℕ, List, [], ◌∷◌, ◌++◌, append_assoc, Some, inl, inr, ◌⊎◌}
use Rattle.qc_words.specs.declared.operator.Op.{Op}
use Rattle.qc_terms.specs.Tree.{Tree, Unary, Binary, Load, width_of}
use Rattle.qc_pool.specs.declared.node.Node.TheVariants.{Un, Bin}
use Rattle.qc_pool.specs.Nodes.{NodeFits, term_at}
use Rattle.qc_pool.specs.Regions.{AreWithin, IsAdded, IsInterned, IsThere, IsWithin, Keeps}
use Rattle.qc_pool.specs.Widths.{HasWidths}
use Rattle.qc_pool.specs.Law.Kept.{added_keeps, at_id, still_at, there_on}

-- what stands inside a part stands inside the whole
under : (t a : Tree) → ((p : Tree) → IsWithin p a → IsWithin p t) → (parts : List Tree) → AreWithin parts a → AreWithin parts t
under t a inside [] within = tt
under t a inside (p ∷ parts) within = (inside p within.0, under t a inside parts within.1)

both_within : (t : Tree) (xs ys : List Tree) → AreWithin xs t → AreWithin ys t → AreWithin (xs ++ ys) t
both_within t [] ys first second = second
both_within t (x ∷ xs) ys first second = (first.0, both_within t xs ys first.1 second)

-- after parts that stand inside a term, the term itself
whole : (old mid new : List Tree) (t : Tree) (id : ℕ) → ((more : List Tree) × (mid ≡ old ++ more) × AreWithin more t) → IsWithin t t →
    ((p : Tree) → IsWithin p t → (p ≡ t) ⊎ IsThere mid p) → IsAdded mid new t id → IsInterned old new t id
whole old mid new t id before self inside added =
    let parts : (p : Tree) → IsWithin p t → IsThere new p = λ p within.
    elim (inside p within) [
      | inl is ↦ (id, added.at ∙ ap (λ u. Some u) (sym is))
      | inr there ↦ there_on mid new p there (added_keeps mid new t id added)
    ] in
    elim added.change [
      | inl same ↦ record { at = added.at; parts = parts; change = (before.0, same.1 ∙ before.1, before.2) }
      | inr last ↦ record {
        at = added.at;
        parts = parts;
        change = (
          before.0 ++ t ∷ [],
          last.1 ∙ ap (λ ts. ts ++ t ∷ []) before.1 ∙ append_assoc old before.0 (t ∷ []),
          both_within t before.0 (t ∷ []) before.2 (self, tt),
        );
      }
    ]

-- after the one part of a term, the term itself
one_interned : (old mid new : List Tree) (over : Tree → Tree) (a t : Tree) (x id : ℕ) →
    ((p : Tree) → IsWithin p (over a) → (p ≡ over a) ⊎ IsWithin p a) → ((p : Tree) → (p ≡ over a) ⊎ IsWithin p a → IsWithin p (over a)) →
    t ≡ over a → IsInterned old mid a x → IsAdded mid new (over (term_at mid x)) id → IsInterned old new t id
one_interned old mid new over a t x id out into is arg added =
    let same = ap over (at_id mid x a arg.at).1 in
    let P : Tree → Type 0 = λ u. IsAdded mid new u id in
    let Q : Tree → Type 0 = λ u. IsInterned old new u id in
    let parts = arg.change in
    subst Q (sym is) (whole old mid new (over a) id (parts.0, parts.1, under (over a) a (λ p w. into p (inr w)) parts.0 parts.2)
    (into (over a) (inl refl)) (λ p within. elim (out p within) [ inl same ↦ inl same | inr below ↦ inr (arg.parts p below) ]) (subst P same added))

pub un_interned : (old mid new : List Tree) (op : Op) (a t : Tree) (x id : ℕ) → t ≡ Unary op a → IsInterned old mid a x →
    IsAdded mid new (Unary op (term_at mid x)) id → IsInterned old new t id
un_interned old mid new op a t x id = one_interned old mid new (Unary op) a t x id (λ p w. w) (λ p w. w)

pub un_fits : (old mid : List Tree) (op : Op) (a t : Tree) (x : ℕ) → t ≡ Unary op a → HasWidths t → IsInterned old mid a x → NodeFits mid (Un op x)
un_fits old mid op a t x is widths arg =
    let here = at_id mid x a arg.at in
    let w = subst HasWidths is widths in
    (here.0, w.0, rw here.1 w.1)

pub mem_interned : (old mid new : List Tree) (width : ℕ) (a t : Tree) (x id : ℕ) → t ≡ Load width a → IsInterned old mid a x →
    IsAdded mid new (Load width (term_at mid x)) id → IsInterned old new t id
mem_interned old mid new width a t x id = one_interned old mid new (Load width) a t x id (λ p w. w) (λ p w. w)

-- the first part keeps its id while the second one comes
keeps : (old new : List Tree) (t : Tree) (id : ℕ) → IsInterned old new t id → Keeps old new
keeps old new t id interned = (interned.change.0, interned.change.1)

pub bin_interned : (old mid last new : List Tree) (op : Op) (a b t : Tree) (x y id : ℕ) → t ≡ Binary op a b → IsInterned old mid a x →
    IsInterned mid last b y → IsAdded last new (Binary op (term_at last x) (term_at last y)) id → IsInterned old new t id
bin_interned old mid last new op a b t x y id is left right added =
    let first = at_id last x a (still_at mid last x a left.at (keeps mid last b y right)) in
    let second = at_id last y b right.at in
    let same = ap (λ u. Binary op u (term_at last y)) first.1 ∙ ap (λ u. Binary op a u) second.1 in
    let P : Tree → Type 0 = λ u. IsAdded last new u id in
    let Q : Tree → Type 0 = λ u. IsInterned old new u id in
    let l = left.change in
    let r = right.change in
    subst Q (sym is) (whole old last new (Binary op a b) id (
      l.0 ++ r.0,
      r.1 ∙ ap (λ ts. ts ++ r.0) l.1 ∙ append_assoc old l.0 r.0,
      both_within (Binary op a b) l.0 r.0 (under (Binary op a b) a (λ p w. inr (inl w)) l.0 l.2)
          (under (Binary op a b) b (λ p w. inr (inr w)) r.0 r.2),
    )
    (inl refl)
    (λ p within. elim within [
      | inl same ↦ inl same
      | inr below ↦ elim below [
        | inl on_left ↦ inr (there_on mid last p (left.parts p on_left) (keeps mid last b y right))
        | inr on_right ↦ inr (right.parts p on_right)
      ]
    ])
    (subst P same added))

pub bin_fits : (old mid last : List Tree) (op : Op) (a b t : Tree) (x y : ℕ) → t ≡ Binary op a b → HasWidths t → IsInterned old mid a x →
    IsInterned mid last b y → NodeFits last (Bin op x y)
bin_fits old mid last op a b t x y is widths left right =
    let first = at_id last x a (still_at mid last x a left.at (keeps mid last b y right)) in
    let second = at_id last y b right.at in
    let w = subst HasWidths is widths in
    (first.0, second.0, w.0, rw first.1 w.1, ap width_of first.1 ∙ w.2 ∙ sym (ap width_of second.1))
