-- Terms of a pool are equal only where their ids are.
use Rattle.std.proofs.Common.{arith, ◌≡◌, ◌∙◌, sym, ap, subst, ℕ, ◌<◌, List, [], length, get_or, Some, slice_get, Bool, true}
use Rattle.std.proofs.lemmas.Option.{slice_get-get_or}
use Rattle.qc_words.specs.declared.operator.Op.{Op}
use Rattle.qc_terms.specs.declared.term.Place.{Place}
use Rattle.qc_terms.specs.Tree.{Tree, Number, Unary, Binary, Register, Immediate, Load, NextInput, AddressAfter, width_of}
use Rattle.qc_equations.specs.Matching.{is_constant}
use Rattle.qc_pool.specs.declared.node.Node.{Node}
use Rattle.qc_pool.specs.declared.node.Node.TheVariants.{Num, Un, Bin, Reg, Imm, Mem, Input, After}
use Rattle.qc_pool.specs.declared.node.Entry.{Entry}
use Rattle.qc_pool.specs.Nodes.{NodeFits, term_at, term_of}
use Rattle.qc_pool.specs.Entries.{AreEntries, AreSound, Shows, terms_of}
use Rattle.qc_pool.proofs.Sound.{IsEntry, known_at, length-terms_of}

-- the nodes that stand for a term of each kind
is_num : (terms : List Tree) (n : Node) (value width : ℕ) → term_of terms n ≡ Number value width → n ≡ Num value width
is_num terms (Num x y) value width h = cc h
is_num terms _ value width h = cc h

is_un : (terms : List Tree) (n : Node) (op : Op) (a : Tree) → term_of terms n ≡ Unary op a →
    (x : ℕ) × (n ≡ Un op x) × (term_at terms x ≡ a)
is_un terms (Un p x) op a h = (x, cc h, cc h)
is_un terms _ op a h = absurd (cc h)

is_bin : (terms : List Tree) (n : Node) (op : Op) (a b : Tree) → term_of terms n ≡ Binary op a b →
    (x : ℕ) × (y : ℕ) × (n ≡ Bin op x y) × (term_at terms x ≡ a) × (term_at terms y ≡ b)
is_bin terms (Bin p x y) op a b h = (x, y, cc h, cc h, cc h)
is_bin terms _ op a b h = absurd (cc h)

is_reg : (terms : List Tree) (n : Node) (place : Place) (width : ℕ) → term_of terms n ≡ Register place width → n ≡ Reg place width
is_reg terms (Reg x y) place width h = cc h
is_reg terms _ place width h = cc h

is_imm : (terms : List Tree) (n : Node) (operand width : ℕ) → term_of terms n ≡ Immediate operand width → n ≡ Imm operand width
is_imm terms (Imm x y) operand width h = cc h
is_imm terms _ operand width h = cc h

is_mem : (terms : List Tree) (n : Node) (width : ℕ) (a : Tree) → term_of terms n ≡ Load width a →
    (x : ℕ) × (n ≡ Mem width x) × (term_at terms x ≡ a)
is_mem terms (Mem w x) width a h = (x, cc h, cc h)
is_mem terms _ width a h = absurd (cc h)

is_input : (terms : List Tree) (n : Node) (width : ℕ) → term_of terms n ≡ NextInput width → n ≡ Input width
is_input terms (Input x) width h = cc h
is_input terms _ width h = cc h

is_after : (terms : List Tree) (n : Node) (width : ℕ) → term_of terms n ≡ AddressAfter width → n ≡ After width
is_after terms (After x) width h = cc h
is_after terms _ width h = cc h

-- the entry of an id
pub entry_of : (es : List Entry) → AreSound [] es → (id : ℕ) → id < length (terms_of es) →
    (e : Entry) × (slice_get es id ≡ Some e) × IsEntry (terms_of es) id e
entry_of es sound id below =
    let d : Entry = record { node = Num 0 1; width = 1; constant = true } in
    let within : id < length es = omega (arith, length-terms_of es) in
    let at = slice_get-get_or es id d within in
    (get_or es id d, at, known_at es sound id (get_or es id d) at)

entry : Node → ℕ → Bool → Entry
entry node width constant = record { node = node; width = width; constant = constant }

-- entries of one node are equal
pub same_entries : (terms : List Tree) (e f : Entry) → Shows e (term_of terms e.node) → Shows f (term_of terms f.node) →
    e.node ≡ f.node → e ≡ f
unfolding entry
same_entries terms e f first second same =
    let width : e.width ≡ f.width = first.width ∙ ap (λ n. width_of (term_of terms n)) same ∙ sym second.width in
    let constant : e.constant ≡ f.constant =
    first.constant ∙ ap (λ n. is_constant (term_of terms n)) same ∙ sym second.constant in
    ap (λ n. entry n e.width e.constant) same ∙ ap (λ w. entry f.node w e.constant) width ∙ ap (λ c. entry f.node f.width c) constant

-- where nodes of one term are equal, so are its ids
pub same_id : (es : List Entry) → AreEntries es → (t : Tree) →
    ((n m : Node) → NodeFits (terms_of es) n → NodeFits (terms_of es) m → term_of (terms_of es) n ≡ t → term_of (terms_of es) m ≡ t → n ≡ m) →
    (i j : ℕ) → i < length (terms_of es) → j < length (terms_of es) → term_at (terms_of es) i ≡ t → term_at (terms_of es) j ≡ t → i ≡ j
same_id es entries t nodes i j below also first second =
    let a = entry_of es entries.sound i below in
    let b = entry_of es entries.sound j also in
    let node = nodes a.0.node b.0.node a.2.fits b.2.fits (sym a.2.term ∙ first) (sym b.2.term ∙ second) in
    let same = same_entries (terms_of es) a.0 b.0 a.2.shows b.2.shows node in
    entries.apart i j b.0 (a.1 ∙ ap (λ e. Some e) same) b.1

-- nodes of one term are equal
pub same_node : (es : List Entry) → AreEntries es → (t : Tree) (n m : Node) → NodeFits (terms_of es) n → NodeFits (terms_of es) m →
    term_of (terms_of es) n ≡ t → term_of (terms_of es) m ≡ t → n ≡ m
same_node es entries (Number v w) n m fits also first second =
    is_num (terms_of es) n v w first ∙ sym (is_num (terms_of es) m v w second)
same_node es entries (Unary op a) n m fits also first second =
    let x = is_un (terms_of es) n op a first in
    let y = is_un (terms_of es) m op a second in
    let P : Node → Type 0 = λ k. NodeFits (terms_of es) k in
    let same = same_id es entries a (λ k l f g p q. same_node es entries a k l f g p q) x.0 y.0
    (subst P x.1 fits).0 (subst P y.1 also).0 x.2 y.2 in
    x.1 ∙ ap (λ k. Un op k) same ∙ sym y.1
same_node es entries (Binary op a b) n m fits also first second =
    let x = is_bin (terms_of es) n op a b first in
    let y = is_bin (terms_of es) m op a b second in
    let P : Node → Type 0 = λ k. NodeFits (terms_of es) k in
    let f = subst P x.2 fits in
    let g = subst P y.2 also in
    let left = same_id es entries a (λ k l f g p q. same_node es entries a k l f g p q) x.0 y.0 f.0 g.0 x.3 y.3 in
    let right = same_id es entries b (λ k l f g p q. same_node es entries b k l f g p q) x.1 y.1 f.1 g.1 x.4 y.4 in
    x.2 ∙ ap (λ k. Bin op k x.1) left ∙ ap (λ k. Bin op y.0 k) right ∙ sym y.2
same_node es entries (Register p w) n m fits also first second =
    is_reg (terms_of es) n p w first ∙ sym (is_reg (terms_of es) m p w second)
same_node es entries (Immediate o w) n m fits also first second =
    is_imm (terms_of es) n o w first ∙ sym (is_imm (terms_of es) m o w second)
same_node es entries (Load w a) n m fits also first second =
    let x = is_mem (terms_of es) n w a first in
    let y = is_mem (terms_of es) m w a second in
    let P : Node → Type 0 = λ k. NodeFits (terms_of es) k in
    let same = same_id es entries a (λ k l f g p q. same_node es entries a k l f g p q) x.0 y.0
    (subst P x.1 fits) (subst P y.1 also) x.2 y.2 in
    x.1 ∙ ap (λ k. Mem w k) same ∙ sym y.1
same_node es entries (NextInput w) n m fits also first second =
    is_input (terms_of es) n w first ∙ sym (is_input (terms_of es) m w second)
same_node es entries (AddressAfter w) n m fits also first second =
    is_after (terms_of es) n w first ∙ sym (is_after (terms_of es) m w second)
