-- What is kept of each node, by what is kept of its parts.
use Rattle.std.specs.Prelude.{ℕ, ◌≡◌, ◌+◌, ◌<◌, ◌≤◌, Bool, ◌&&◌, List, ◌++◌, Option}
use Rattle.std.proofs.Common.{ap, sym, ◌∙◌, arith}
use Rattle.qc_words.specs.declared.operator.Op.{Op}
use Rattle.qc_grammar.specs.declared.cursor.Number.{Number}
use Rattle.qc_terms.specs.declared.term.Term.{Term}
use Rattle.qc_terms.specs.declared.term.Term.TheVariants as term
use Rattle.qc_terms.specs.Tree.{Tree, Number as Literal, tree_of, nodes_of}
use Rattle.qc_facts.specs.declared.faults.WidthFault.{WidthFault}
use Rattle.qc_widths.specs.declared.value.Value.{Value}
use Rattle.qc_facts.specs.Faults.{reported, reported_of_both, token_of, rank_of}
use Rattle.qc_facts.specs.Numbers.{is_empty, access_width, access_faults}
use Rattle.qc_facts.specs.Values as values
use Rattle.qc_facts.specs.Values.{bits_of}
use Rattle.qc_widths.specs.Inner.KeptValues.{seen, nodes_in}
use Rattle.qc_names.specs.Law.Reported.{reported-append}
use Rattle.qc_widths.proofs.Seen.{Parts, mem_counted, un_counted, bin_counted}

-- what a node that was built is
abbrev pub IsBuilt : Value → ℕ → Term → ℕ → Option ℕ → Bool → Option WidthFault → Option WidthFault → Type 0
IsBuilt result token t nodes width sound inner own =
    (inside its : List WidthFault) → nodes ≡ nodes_of (tree_of t) → nodes ≤ 4096 → inner ≡ reported inside → own ≡ reported its
    → result ≡ seen (values.node token t width sound inside its)

pub load_is : (result : Value) (word : Option ℕ) (token : ℕ) (bits : Number) (v : values.Value)
    (start : ℕ) (t : Term) (n : ℕ) (width : Option ℕ) (sound : Bool) (clash : Option WidthFault)
    (boxed : Term) (access : Option ℕ) (w : ℕ) (free : Bool) (own : Option WidthFault)
    → Parts start t n width sound clash v → n < 4096 → boxed ≡ t → access ≡ access_width word bits → w ≡ bits_of access
    → free ≡ (sound && is_empty (access_faults word bits)) → own ≡ reported (values.mismatch start width word)
    → IsBuilt result token (term.Mem w boxed) (n + 1) access free clash own
    → result ≡ seen (values.load word token bits v)
load_is result word token bits v start t n width sound clash boxed access w free own p small b a e f o built =
    let tb : boxed ≡ v.term = b ∙ p.term in
    let n' : n ≡ nodes_in v = p.nodes in
    let counted : n + 1 ≡ nodes_of (tree_of (term.Mem w boxed)) = mem_counted w n boxed v n' tb in
    let at : own ≡ reported (values.mismatch v.token v.width word) =
    o ∙ ap (λ x. reported (values.mismatch x width word)) p.token ∙ ap (λ x. reported (values.mismatch v.token x word)) p.width in
    let k : result ≡ seen (values.node token (term.Mem w boxed) access free v.clashes (values.test v word)) =
    built v.clashes (values.test v word) counted (omega arith) p.clash at in
    let bw : w ≡ bits_of (access_width word bits) = e ∙ ap bits_of a in
    let ff : free ≡ (v.sound && is_empty (access_faults word bits)) = f ∙ ap (λ s. s && is_empty (access_faults word bits)) p.sound in
    k ∙ ap (λ x. seen (values.node token (term.Mem x boxed) access free v.clashes (values.test v word))) bw
    ∙ ap (λ x. seen (values.node token (term.Mem (bits_of (access_width word bits)) x) access free v.clashes (values.test v word))) tb
    ∙ ap (λ x. seen (values.node token (term.Mem (bits_of (access_width word bits)) v.term) x free v.clashes (values.test v word))) a
    ∙ ap (λ x. seen (values.node token (term.Mem (bits_of (access_width word bits)) v.term) (access_width word bits) x v.clashes (values.test v word))) ff

pub un_is : (result : Value) (op : Op) (token : ℕ) (v : values.Value)
    (start : ℕ) (t : Term) (n : ℕ) (width : Option ℕ) (sound : Bool) (clash : Option WidthFault)
    (boxed : Term) (to to' : Option ℕ) (free free' : Bool) (own : Option WidthFault) (op' : Op) (faults : List WidthFault)
    → Parts start t n width sound clash v → n < 4096 → boxed ≡ t → op ≡ op' → to ≡ to' → free ≡ free' → own ≡ reported faults
    → IsBuilt result token (term.Un op boxed) (n + 1) to free clash own
    → result ≡ seen (values.node token (term.Un op' v.term) to' free' v.clashes faults)
un_is result op token v start t n width sound clash boxed to to' free free' own op' faults p small b eo et ef o built =
    let tb : boxed ≡ v.term = b ∙ p.term in
    let n' : n ≡ nodes_in v = p.nodes in
    let counted : n + 1 ≡ nodes_of (tree_of (term.Un op boxed)) = un_counted op n boxed v n' tb in
    let k : result ≡ seen (values.node token (term.Un op boxed) to free v.clashes faults) =
    built v.clashes faults counted (omega arith) p.clash o in
    k ∙ ap (λ x. seen (values.node token (term.Un x boxed) to free v.clashes faults)) eo
    ∙ ap (λ x. seen (values.node token (term.Un op' x) to free v.clashes faults)) tb
    ∙ ap (λ x. seen (values.node token (term.Un op' v.term) x free v.clashes faults)) et
    ∙ ap (λ x. seen (values.node token (term.Un op' v.term) to' x v.clashes faults)) ef

-- an equation of a clash moved to where a value stands and its width
pub at_place : (f : ℕ → Option ℕ → List WidthFault) (start token : ℕ) (width bits : Option ℕ) (own : Option WidthFault)
    → (start ≡ token) × (width ≡ bits) → own ≡ reported (f start width) → own ≡ reported (f token bits)
at_place f start token width bits own place o = o ∙ ap (λ x. reported (f x width)) place.0 ∙ ap (λ x. reported (f token x)) place.1

pub bin_is : (result : Value) (op : Op) (token : ℕ) (v u : values.Value)
    (start : ℕ) (t : Term) (n : ℕ) (width : Option ℕ) (sound : Bool) (clash : Option WidthFault)
    (second : ℕ) (t' : Term) (more : ℕ) (found : Option ℕ) (is_sound : Bool) (later : Option WidthFault)
    (count : ℕ) (left right : Term) (joint : Option ℕ) (free : Bool) (inner own : Option WidthFault)
    → Parts start t n width sound clash v → Parts second t' more found is_sound later u
    → count ≡ n + more → count < 4096 → left ≡ t → right ≡ t' → joint ≡ values.width_of_operator op width found
    → free ≡ (sound && is_sound) → inner ≡ reported_of_both clash later → own ≡ reported (values.mismatch second found width)
    → IsBuilt result token (term.Bin op left right) (count + 1) joint free inner own
    → result ≡ seen (values.binary op token v u)
bin_is result op token v u start t n width sound clash second t' more found is_sound later count left right joint free inner own
    p q all small bl br j f i o built =
    let tl : left ≡ v.term = bl ∙ p.term in
    let tr : right ≡ u.term = br ∙ q.term in
    let counted : count + 1 ≡ nodes_of (tree_of (term.Bin op left right)) =
    ap (λ x. x + 1) all ∙ bin_counted op n more left right v u p.nodes q.nodes tl tr in
    let inside : inner ≡ reported (v.clashes ++ u.clashes) = i ∙ ap (λ x. reported_of_both x later) p.clash
    ∙ ap (λ x. reported_of_both (reported v.clashes) x) q.clash ∙ sym (reported-append token_of rank_of v.clashes u.clashes) in
    let at : own ≡ reported (values.mismatch u.token u.width v.width) =
    o ∙ ap (λ x. reported (values.mismatch x found width)) q.token ∙ ap (λ x. reported (values.mismatch u.token x width)) q.width
    ∙ ap (λ x. reported (values.mismatch u.token u.width x)) p.width in
    let k : result ≡ seen (values.node token (term.Bin op left right) joint free (v.clashes ++ u.clashes) (values.mismatch u.token u.width v.width)) =
    built (v.clashes ++ u.clashes) (values.mismatch u.token u.width v.width) counted (omega arith) inside at in
    let jj : joint ≡ values.width_of_operator op v.width u.width = j ∙ ap (λ x. values.width_of_operator op x found) p.width
    ∙ ap (λ x. values.width_of_operator op v.width x) q.width in
    let ff : free ≡ (v.sound && u.sound) = f ∙ ap (λ x. x && is_sound) p.sound ∙ ap (λ x. v.sound && x) q.sound in
    k ∙ ap (λ x. seen (values.node token (term.Bin op x right) joint free (v.clashes ++ u.clashes) (values.mismatch u.token u.width v.width))) tl
    ∙ ap (λ x. seen (values.node token (term.Bin op v.term x) joint free (v.clashes ++ u.clashes) (values.mismatch u.token u.width v.width))) tr
    ∙ ap (λ x. seen (values.node token (term.Bin op v.term u.term) x free (v.clashes ++ u.clashes) (values.mismatch u.token u.width v.width))) jj
    ∙ ap (λ x. seen (values.node token (term.Bin op v.term u.term) (values.width_of_operator op v.width u.width) x (v.clashes ++ u.clashes) (values.mismatch u.token u.width v.width))) ff

-- no part of a node is larger than the limit
pub positive : (t : Tree) → 0 < nodes_of t
positive (Literal value width) = omega arith
positive _ = omega arith
