-- What is kept of values.
use Rattle.std.specs.Prelude.{ℕ, ◌≡◌, ◌+◌, ◌<◌, ◌≤◌, Bool, true, false, ◌&&◌, List, [], ◌∷◌, ◌++◌, Option, None, Some}
use Rattle.std.proofs.Common.{refl, ap, sym, ◌∙◌, arith, inl, inr}
use Rattle.std.proofs.lemmas.Bool.{cases_lt}
use Rattle.qc_words.specs.declared.operator.Op.{Op}
use Rattle.qc_terms.specs.declared.term.Term.{Term}
use Rattle.qc_terms.specs.declared.term.Term.TheVariants as term
use Rattle.qc_terms.specs.Tree.{tree_of, nodes_of, tree_of-num, tree_of-reg, tree_of-imm, tree_of-input, tree_of-after, tree_of-mem, tree_of-un, tree_of-bin}
use Rattle.qc_facts.specs.declared.faults.WidthFault.{WidthFault}
use Rattle.qc_widths.specs.declared.value.Value.TheVariants.{Huge, Known}
use Rattle.qc_facts.specs.Faults.{reported, reported_of_both, token_of, rank_of}
use Rattle.qc_facts.specs.Numbers.{is_empty, clash}
use Rattle.qc_facts.specs.Values as values
use Rattle.qc_widths.specs.Inner.KeptValues.{seen, nodes_in}
use Rattle.qc_names.specs.Law.Reported.{reported-append}

-- the parts of a value that is kept
pub record Parts (kept : ℕ) (t : Term) (count : ℕ) (bits : Option ℕ) (whole : Bool) (fault : Option WidthFault)
    (v : values.Value) : Type 0 where
  pub token : kept ≡ v.token
  pub term : t ≡ v.term
  pub nodes : count ≡ nodes_in v
  pub small : nodes_in v ≤ 4096
  pub width : bits ≡ v.width
  pub sound : whole ≡ v.sound
  pub clash : fault ≡ reported v.clashes

pub seen_small : (v : values.Value) → nodes_in v ≤ 4096
    → seen v ≡ Known v.token v.term (nodes_in v) v.width v.sound (reported v.clashes)
unfolding seen
seen_small v small = grind arith

pub seen_large : (v : values.Value) → 4096 < nodes_in v → seen v ≡ Huge
unfolding seen
seen_large v large = grind arith

parts_small : (token : ℕ) (t : Term) (nodes : ℕ) (width : Option ℕ) (sound : Bool) (clash : Option WidthFault)
    (v : values.Value) → nodes_in v ≤ 4096 → Known token t nodes width sound clash ≡ seen v
    → Parts token t nodes width sound clash v
parts_small token t nodes width sound clash v small e =
    let k : Known token t nodes width sound clash ≡ Known v.token v.term (nodes_in v) v.width v.sound (reported v.clashes)
    = e ∙ seen_small v small in
    record {
      token = cc;
      term = cc;
      nodes = cc;
      small = small;
      width = cc;
      sound = cc;
      clash = cc;
    }

pub parts_of : (token : ℕ) (t : Term) (nodes : ℕ) (width : Option ℕ) (sound : Bool) (clash : Option WidthFault)
    (v : values.Value) → Known token t nodes width sound clash ≡ seen v → Parts token t nodes width sound clash v
parts_of token t nodes width sound clash v e = elim (cases_lt 4096 (nodes_in v)) [
  | inl large ↦ let k : Known token t nodes width sound clash ≡ Huge = e ∙ seen_large v large in absurd (cc)
  | inr small ↦ parts_small token t nodes width sound clash v small e
]

pub huge_of : (v : values.Value) → Huge ≡ seen v → 4096 < nodes_in v
huge_of v e = elim (cases_lt 4096 (nodes_in v)) [
  | inl large ↦ large
  | inr small ↦ let k : Huge ≡ Known v.token v.term (nodes_in v) v.width v.sound (reported v.clashes) = e ∙ seen_small v small in absurd (cc)
]

pub none_reported : (own : List WidthFault) → None ≡ reported own → is_empty own ≡ true
none_reported [] e = refl
none_reported (f ∷ fs) e = cc

pub some_reported : (own : List WidthFault) (f : WidthFault) → Some f ≡ reported own → is_empty own ≡ false
some_reported [] f e = cc
some_reported (g ∷ fs) f e = refl

pub unsound : (sound : Bool) (own : List WidthFault) (f : WidthFault) → Some f ≡ reported own → (sound && is_empty own) ≡ false
unsound false own f e = refl
unsound true own f e = some_reported own f e

-- what is kept of a node without a fault
pub sound_node : (token : ℕ) (t : Term) (width : Option ℕ) (sound : Bool) (inner own : List WidthFault)
    → nodes_of (tree_of t) ≤ 4096 → sound ≡ true → None ≡ reported own
    → Known token t (nodes_of (tree_of t)) width sound (reported_of_both (reported inner) (reported own))
    ≡ seen (values.node token t width sound inner own)
sound_node token t width sound inner own small s o =
    let v : values.Value = values.node token t width sound inner own in
    let e : is_empty own ≡ true = none_reported own o in
    let clash : reported (inner ++ own) ≡ reported_of_both (reported inner) (reported own) = reported-append token_of rank_of inner own in
    sym (seen_small v small ∙ rw (clash, e, s) refl)

-- and of one that has or meets a fault
pub faulty_node : (token : ℕ) (t : Term) (width : Option ℕ) (sound : Bool) (inner own : List WidthFault)
    → nodes_of (tree_of t) ≤ 4096 → (sound && is_empty own) ≡ false
    → Known token t (nodes_of (tree_of t)) None false (reported_of_both (reported inner) (reported own))
    ≡ seen (values.node token t width sound inner own)
faulty_node token t width sound inner own small e =
    let v : values.Value = values.node token t width sound inner own in
    let clash : reported (inner ++ own) ≡ reported_of_both (reported inner) (reported own) = reported-append token_of rank_of inner own in
    sym (seen_small v small ∙ rw (clash, e) refl)

mem_nodes : (width : ℕ) (t : Term) → nodes_of (tree_of (term.Mem width t)) ≡ 1 + nodes_of (tree_of t)
mem_nodes width t = ap nodes_of (tree_of-mem width t)

un_nodes : (op : Op) (t : Term) → nodes_of (tree_of (term.Un op t)) ≡ 1 + nodes_of (tree_of t)
un_nodes op t = ap nodes_of (tree_of-un op t)

pub bin_nodes : (op : Op) (t u : Term)
    → nodes_of (tree_of (term.Bin op t u)) ≡ 1 + (nodes_of (tree_of t) + nodes_of (tree_of u))
bin_nodes op t u = ap nodes_of (tree_of-bin op t u)

-- a node over a huge part, or over one that leaves no place
pub huge_mem : (width : ℕ) (v : values.Value) → 4096 ≤ nodes_in v → 4096 < nodes_of (tree_of (term.Mem width v.term))
huge_mem width v h = omega (arith, mem_nodes width v.term)

pub huge_un : (op : Op) (v : values.Value) → 4096 ≤ nodes_in v → 4096 < nodes_of (tree_of (term.Un op v.term))
huge_un op v h = omega (arith, un_nodes op v.term)

pub huge_bin : (op : Op) (v w : values.Value) → 4096 ≤ nodes_in v + nodes_in w
    → 4096 < nodes_of (tree_of (term.Bin op v.term w.term))
huge_bin op v w h = omega (arith, bin_nodes op v.term w.term)

-- the nodes of a node over parts
pub mem_counted : (width nodes : ℕ) (t : Term) (v : values.Value) → nodes ≡ nodes_in v → t ≡ v.term
    → nodes + 1 ≡ nodes_of (tree_of (term.Mem width t))
mem_counted width nodes t v n e = rw e (omega (arith, mem_nodes width v.term))

pub un_counted : (op : Op) (nodes : ℕ) (t : Term) (v : values.Value) → nodes ≡ nodes_in v → t ≡ v.term
    → nodes + 1 ≡ nodes_of (tree_of (term.Un op t))
un_counted op nodes t v n e = rw e (omega (arith, un_nodes op v.term))

pub bin_counted : (op : Op) (nodes more : ℕ) (t u : Term) (v w : values.Value) → nodes ≡ nodes_in v → more ≡ nodes_in w
    → t ≡ v.term → u ≡ w.term → nodes + more + 1 ≡ nodes_of (tree_of (term.Bin op t u))
bin_counted op nodes more t u v w n m e f = rw (e, f) (omega (arith, bin_nodes op v.term w.term))

pub ruleset trees = (
  tree_of-num,
  tree_of-reg,
  tree_of-imm,
  tree_of-input,
  tree_of-after,
  tree_of-mem,
  tree_of-un,
  tree_of-bin,
)
