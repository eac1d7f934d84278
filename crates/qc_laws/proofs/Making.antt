-- What a pattern that is spelled on a list becomes in a pool.
use Rattle.std.proofs.Common.{arith, ◌≡◌, ◌∙◌, sym, ap, subst, refl, ℕ, suc, ◌+◌, ◌<◌, ◌^◌, List, [], ◌∷◌, ◌++◌, length, drop, get_or, append_assoc, length-append, length-drop, add-one, inl, inr, true}
use Rattle.std.proofs.Math.Seq.{drop-cons}
use Rattle.std.proofs.lemmas.List.{drop_all}
use Rattle.std.proofs.lemmas.Bool.{cases_lt}
use Rattle.qc_words.specs.declared.operator.Op.{Op}
use Rattle.qc_words.specs.Operators.{Accepts, is_unary}
use Rattle.qc_terms.specs.Tree.{Tree, Number, Unary, Binary, width_of}
use Rattle.qc_pool.specs.declared.node.Node.TheVariants as node
use Rattle.qc_pool.specs.Nodes.{NodeFits, term_at}
use Rattle.qc_pool.specs.Law.Kept.{added_at, kept_id}
use Rattle.qc_pool.specs.Regions.{IsAdded, Keeps}
use Rattle.qc_equations.specs.declared.form.Literal.{Literal}
use Rattle.qc_equations.specs.declared.form.Operator.{Operator}
use Rattle.qc_equations.specs.Pattern.{Parts, Pattern, A, B, C, Fixed, Prefix, Infix, fill, literal_value, literal_width, op_of}
use Rattle.qc_laws.specs.declared.left.Ids.{Ids}
use Rattle.qc_laws.specs.declared.right.Part.{Part}
use Rattle.qc_laws.specs.declared.right.Part.TheVariants as part
use Rattle.qc_laws.specs.Inner.Forms.{HasWords}
use Rattle.qc_laws.specs.Inner.Ids.{AreThere, parts_at}
use Rattle.qc_laws.specs.Inner.Spelling.{CanStand, IsMade, LiteralHasWord, Spells, spell}

-- ---- the list

pub head : (list : List Part) (at : ℕ) (d w : Part) → at < length list → get_or list at d ≡ w → drop at list ≡ w ∷ drop (at + 1) list
head list at d w within is =
    drop-cons list at d within ∙ ap (λ x. x ∷ drop (suc at) list) is ∙ ap (λ n. w ∷ drop n list) (sym (add-one at))

empty : (p : Pattern) (rest : List Part) → [] ≡ spell p ++ rest → ⊥
empty A rest h = cc h
empty B rest h = cc h
empty C rest h = cc h
empty (Fixed literal) rest h = cc h
empty (Prefix operator arg) rest h = cc h
empty (Infix op left right) rest h = cc h

pub within : (list : List Part) (at : ℕ) (p : Pattern) (rest : List Part) → drop at list ≡ spell p ++ rest → at < length list
within list at p rest e =
    elim (cases_lt at (length list)) [ inl below ↦ below | inr past ↦ absurd (empty p rest (sym (drop_all at list past) ∙ e)) ]

pub is_first : (p : Pattern) (rest ws : List Part) → part.First ∷ ws ≡ spell p ++ rest → (p ≡ A) × (ws ≡ rest)
is_first A rest ws h = (refl, cc h)
is_first _ rest ws h = absurd (cc h)

pub is_second : (p : Pattern) (rest ws : List Part) → part.Second ∷ ws ≡ spell p ++ rest → (p ≡ B) × (ws ≡ rest)
is_second B rest ws h = (refl, cc h)
is_second _ rest ws h = absurd (cc h)

pub is_third : (p : Pattern) (rest ws : List Part) → part.Third ∷ ws ≡ spell p ++ rest → (p ≡ C) × (ws ≡ rest)
is_third C rest ws h = (refl, cc h)
is_third _ rest ws h = absurd (cc h)

is_number : (literal : Literal) (p : Pattern) (rest ws : List Part) → part.Number literal ∷ ws ≡ spell p ++ rest →
    (p ≡ Fixed literal) × (ws ≡ rest)
is_number literal (Fixed other) rest ws h = (cc h, cc h)
is_number literal _ rest ws h = absurd (cc h)

is_un : (operator : Operator) (p : Pattern) (rest ws : List Part) → part.Un operator ∷ ws ≡ spell p ++ rest →
    (q : Pattern) × (p ≡ Prefix operator q) × (ws ≡ spell q ++ rest)
is_un operator (Prefix other q) rest ws h = (q, cc h, cc h)
is_un operator _ rest ws h = absurd (cc h)

is_bin : (op : Op) (p : Pattern) (rest ws : List Part) → part.Bin op ∷ ws ≡ spell p ++ rest →
    (l : Pattern) × (r : Pattern) × (p ≡ Infix op l r) × (ws ≡ spell l ++ (spell r ++ rest))
is_bin op (Infix other l r) rest ws h =
    let tail : ws ≡ (spell l ++ spell r) ++ rest = cc h in
    (l, r, cc h, tail ∙ append_assoc (spell l) (spell r) rest)
is_bin op _ rest ws h = absurd (cc h)

-- ---- the pool

pub same_parts : (old new : List Tree) (ids : Ids) → AreThere old ids → Keeps old new → parts_at new ids ≡ parts_at old ids
same_parts old new ids there kept =
    let a = (kept_id old new ids.a there.a kept).1 in
    let b = (kept_id old new ids.b there.b kept).1 in
    let c = (kept_id old new ids.c there.c kept).1 in
    let make : Tree → Tree → Tree → Parts = λ x y z. record { a = x; b = y; c = z; size = ids.size } in
    ap (λ x. make x (term_at new ids.b) (term_at new ids.c)) a
    ∙ ap (λ y. make (term_at old ids.a) y (term_at new ids.c)) b
    ∙ ap (λ z. make (term_at old ids.a) (term_at old ids.b) z) c

pub still_there : (old new : List Tree) (ids : Ids) → AreThere old ids → Keeps old new → AreThere new ids
still_there old new ids there kept = record {
  a = (kept_id old new ids.a there.a kept).0;
  b = (kept_id old new ids.b there.b kept).0;
  c = (kept_id old new ids.c there.c kept).0;
  word = there.word ∙ sym (ap width_of (kept_id old new ids.a there.a kept).1);
  width = there.width;
  size = there.size;
}

-- ---- leaves

-- What was made of a pattern of one part is that of each pattern that is spelled with this part at the place.
pub made_leaf : (terms : List Tree) (parts : Parts) (list : List Part) (at : ℕ) (d w : Part) (leaf : Pattern) (id : ℕ) →
    ((p : Pattern) (rest ws : List Part) → w ∷ ws ≡ spell p ++ rest → (p ≡ leaf) × (ws ≡ rest)) → IsMade terms leaf parts id →
    at < length list → get_or list at d ≡ w → (p : Pattern) (rest : List Part) → drop at list ≡ spell p ++ rest →
    IsMade terms p parts id × (drop (at + 1) list ≡ rest)
made_leaf terms parts list at d w leaf id only made below is p rest e =
    let s = only p rest (drop (at + 1) list) (sym (head list at d w below is) ∙ e) in
    let P : Pattern → Type 0 = λ q. IsMade terms q parts id in
    (subst P (sym s.0) made, s.1)

pub number_stands : (list : List Part) (at : ℕ) (d : Part) (literal : Literal) (parts : Parts) (word : ℕ) → at < length list →
    get_or list at d ≡ part.Number literal → Spells list at parts → word ≡ width_of parts.a →
    LiteralHasWord literal parts.size × (literal_value literal word parts.size < 2 ^ literal_width literal word parts.size)
number_stands list at d literal parts word below is spelled width =
    let s = is_number literal spelled.0 spelled.1 (drop (at + 1) list) (sym (head list at d (part.Number literal) below is) ∙ spelled.2) in
    let P : Pattern → Type 0 = λ q. CanStand q parts in
    let stands = subst P s.0 spelled.3 in
    let Q : ℕ → Type 0 = λ w. literal_value literal w parts.size < 2 ^ literal_width literal w parts.size in
    (stands.words, subst Q (sym width) stands.widths)

pub made_number : (old new : List Tree) (list : List Part) (at : ℕ) (d : Part) (literal : Literal) (parts : Parts) (word value width id : ℕ) →
    at < length list → get_or list at d ≡ part.Number literal → word ≡ width_of parts.a → value ≡ literal_value literal word parts.size →
    width ≡ literal_width literal word parts.size → IsAdded old new (Number value width) id →
    (p : Pattern) (rest : List Part) → drop at list ≡ spell p ++ rest → IsMade new p parts id × (drop (at + 1) list ≡ rest)
made_number old new list at d literal parts word value width id below is same value_is width_is added =
    let here = added_at old new (Number value width) id added in
    let term = here.1 ∙ ap (λ v. Number v width) value_is ∙ ap (λ w. Number (literal_value literal word parts.size) w) width_is
    ∙ ap (λ w. Number (literal_value literal w parts.size) (literal_width literal w parts.size)) same in
    made_leaf new parts list at d (part.Number literal) (Fixed literal) id (is_number literal) (record { there = here.0; term = term })
    below is

-- ---- an operator before one pattern

pub un_spelled : (list : List Part) (at : ℕ) (d : Part) (operator : Operator) (parts : Parts) → at < length list →
    get_or list at d ≡ part.Un operator → Spells list at parts → Spells list (at + 1) parts
un_spelled list at d operator parts below is spelled =
    let s = is_un operator spelled.0 spelled.1 (drop (at + 1) list) (sym (head list at d (part.Un operator) below is) ∙ spelled.2) in
    let P : Pattern → Type 0 = λ q. CanStand q parts in
    let stands = subst P s.1 spelled.3 in
    (s.0, spelled.1, s.2, record { words = stands.words.1; widths = stands.widths.2 })

pub un_words : (list : List Part) (at : ℕ) (d : Part) (operator : Operator) (parts : Parts) (word : ℕ) → at < length list →
    get_or list at d ≡ part.Un operator → Spells list at parts → word ≡ width_of parts.a → HasWords operator word parts.size
un_words list at d operator parts word below is spelled same =
    let s = is_un operator spelled.0 spelled.1 (drop (at + 1) list) (sym (head list at d (part.Un operator) below is) ∙ spelled.2) in
    let P : Pattern → Type 0 = λ q. CanStand q parts in
    let Q : ℕ → Type 0 = λ w. HasWords operator w parts.size in
    subst Q (sym same) (subst P s.1 spelled.3).words.0

-- what was made of a pattern that is spelled from a place on
abbrev pub Makes : List Tree → List Part → (at : ℕ) → Parts → (id next : ℕ) → Type 0
Makes terms list at parts id next =
    (p : Pattern) (rest : List Part) → drop at list ≡ spell p ++ rest → IsMade terms p parts id × (drop next list ≡ rest)

pub un_fits : (mid : List Tree) (list : List Part) (at : ℕ) (d : Part) (operator : Operator) (parts : Parts) (word : ℕ) (op : Op) (x next : ℕ) →
    at < length list → get_or list at d ≡ part.Un operator → Spells list at parts → word ≡ width_of parts.a →
    op ≡ op_of operator word parts.size → Makes mid list (at + 1) parts x next → NodeFits mid (node.Un op x)
un_fits mid list at d operator parts word op x next below is spelled same op_is makes =
    let s = is_un operator spelled.0 spelled.1 (drop (at + 1) list) (sym (head list at d (part.Un operator) below is) ∙ spelled.2) in
    let P : Pattern → Type 0 = λ q. CanStand q parts in
    let widths = (subst P s.1 spelled.3).widths in
    let made = (makes s.0 spelled.1 s.2).0 in
    let whole : op ≡ op_of operator (width_of parts.a) parts.size = op_is ∙ ap (λ w. op_of operator w parts.size) same in
    let Q : Op → Type 0 = λ o. (is_unary o ≡ true) × Accepts o (width_of (fill s.0 parts)) in
    let fits = subst Q (sym whole) (widths.0, widths.1) in
    (made.there, fits.0, rw made.term fits.1)

pub made_un : (mid new : List Tree) (list : List Part) (at : ℕ) (d : Part) (operator : Operator) (parts : Parts) (word : ℕ) (op : Op)
    (x next id : ℕ) → at < length list → get_or list at d ≡ part.Un operator → word ≡ width_of parts.a →
    op ≡ op_of operator word parts.size → Makes mid list (at + 1) parts x next → IsAdded mid new (Unary op (term_at mid x)) id →
    Makes new list at parts id next
made_un mid new list at d operator parts word op x next id below is same op_is makes added p rest e =
    let s = is_un operator p rest (drop (at + 1) list) (sym (head list at d (part.Un operator) below is) ∙ e) in
    let arg = makes s.0 rest s.2 in
    let here = added_at mid new (Unary op (term_at mid x)) id added in
    let whole : op ≡ op_of operator (width_of parts.a) parts.size = op_is ∙ ap (λ w. op_of operator w parts.size) same in
    let P : Pattern → Type 0 = λ q. IsMade new q parts id in
    let term = here.1 ∙ ap (λ t. Unary op t) arg.0.term ∙ ap (λ o. Unary o (fill s.0 parts)) whole in
    (subst P (sym s.1) (record { there = here.0; term = term }), arg.1)

-- ---- an operator before two patterns

pub left_spelled : (list : List Part) (at : ℕ) (d : Part) (op : Op) (parts : Parts) → at < length list →
    get_or list at d ≡ part.Bin op → Spells list at parts → Spells list (at + 1) parts
left_spelled list at d op parts below is spelled =
    let s = is_bin op spelled.0 spelled.1 (drop (at + 1) list) (sym (head list at d (part.Bin op) below is) ∙ spelled.2) in
    let P : Pattern → Type 0 = λ q. CanStand q parts in
    let stands = subst P s.2 spelled.3 in
    (s.0, spell s.1 ++ spelled.1, s.3, record { words = stands.words.0; widths = stands.widths.3 })

pub right_spelled : (mid : List Tree) (list : List Part) (at : ℕ) (d : Part) (op : Op) (parts : Parts) (x next : ℕ) → at < length list →
    get_or list at d ≡ part.Bin op → Spells list at parts → Makes mid list (at + 1) parts x next → Spells list next parts
right_spelled mid list at d op parts x next below is spelled makes =
    let s = is_bin op spelled.0 spelled.1 (drop (at + 1) list) (sym (head list at d (part.Bin op) below is) ∙ spelled.2) in
    let P : Pattern → Type 0 = λ q. CanStand q parts in
    let stands = subst P s.2 spelled.3 in
    (s.1, spelled.1, (makes s.0 (spell s.1 ++ spelled.1) s.3).1, record { words = stands.words.1; widths = stands.widths.4 })

pub spelled_within : (list : List Part) (at : ℕ) (parts : Parts) → Spells list at parts → at < length list
spelled_within list at parts spelled = within list at spelled.0 spelled.1 spelled.2

pub bin_fits : (mid last : List Tree) (list : List Part) (at : ℕ) (d : Part) (op : Op) (parts : Parts) (x y next end : ℕ) →
    at < length list → get_or list at d ≡ part.Bin op → Spells list at parts → Makes mid list (at + 1) parts x next → Keeps mid last →
    Makes last list next parts y end → NodeFits last (node.Bin op x y)
bin_fits mid last list at d op parts x y next end below is spelled first kept second =
    let s = is_bin op spelled.0 spelled.1 (drop (at + 1) list) (sym (head list at d (part.Bin op) below is) ∙ spelled.2) in
    let P : Pattern → Type 0 = λ q. CanStand q parts in
    let widths = (subst P s.2 spelled.3).widths in
    let left = first s.0 (spell s.1 ++ spelled.1) s.3 in
    let right = (second s.1 spelled.1 left.1).0 in
    let here = kept_id mid last x left.0.there kept in
    let term : term_at last x ≡ fill s.0 parts = here.1 ∙ left.0.term in
    (here.0, right.there, widths.0, rw term widths.1, ap width_of term ∙ widths.2 ∙ sym (ap width_of right.term))

pub made_bin : (mid last new : List Tree) (list : List Part) (at : ℕ) (d : Part) (op : Op) (parts : Parts) (x y next end id : ℕ) →
    at < length list → get_or list at d ≡ part.Bin op → Makes mid list (at + 1) parts x next → Keeps mid last →
    Makes last list next parts y end → IsAdded last new (Binary op (term_at last x) (term_at last y)) id → Makes new list at parts id end
made_bin mid last new list at d op parts x y next end id below is first kept second added p rest e =
    let s = is_bin op p rest (drop (at + 1) list) (sym (head list at d (part.Bin op) below is) ∙ e) in
    let left = first s.0 (spell s.1 ++ rest) s.3 in
    let right = second s.1 rest left.1 in
    let here = added_at last new (Binary op (term_at last x) (term_at last y)) id added in
    let term = here.1 ∙ ap (λ t. Binary op t (term_at last y)) ((kept_id mid last x left.0.there kept).1 ∙ left.0.term)
    ∙ ap (λ t. Binary op (fill s.0 parts) t) right.0.term in
    let P : Pattern → Type 0 = λ q. IsMade new q parts id in
    (subst P (sym s.2) (record { there = here.0; term = term }), right.1)

-- what is made of the left pattern ends further on
pub advances : (mid : List Tree) (list : List Part) (at : ℕ) (d : Part) (op : Op) (parts : Parts) (x next : ℕ) → at < length list →
    get_or list at d ≡ part.Bin op → Spells list at parts → Makes mid list (at + 1) parts x next → at < next
advances mid list at d op parts x next below is spelled makes =
    let s = is_bin op spelled.0 spelled.1 (drop (at + 1) list) (sym (head list at d (part.Bin op) below is) ∙ spelled.2) in
    let after = (makes s.0 (spell s.1 ++ spelled.1) s.3).1 in
    let begin = within list next s.1 spelled.1 after in
    let whole = sym (length-drop (at + 1) list) ∙ ap length s.3 ∙ length-append (spell s.0) (spell s.1 ++ spelled.1) in
    let last = sym (length-drop next list) ∙ ap length after in
    omega (arith, whole, last, begin, below)
