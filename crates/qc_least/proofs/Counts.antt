-- Trees for needs by a node, its children and its siblings.
use Rattle.std.proofs.Common.{arith, ◌≡◌, ◌+◌, ◌≤◌, ℕ, zero, suc, List, [], ◌∷◌, map, Option, None, Some, refl, sym, subst, inl, inr}
use Rattle.std.proofs.lemmas.Bool.{cases_lt}
use Rattle.qc_descr.specs.declared.description.Description.{Description}
use Rattle.qc_tiles.specs.declared.tile.Tile.{Tile}
use Rattle.qc_derivations.specs.declared.derivation.Bounds.{Bounds}
use Rattle.qc_derivations.specs.Forest.{Empty, Forest, Grow, Node, height_of, nodes_of, forest_of}
use Rattle.qc_derivations.specs.Goals.{Need}
use Rattle.qc_derivations.specs.Nodes.{Task, children_of, task_of}
use Rattle.qc_derivations.specs.Valid.{AreValid, tile_needs}
use Rattle.qc_least.specs.Choices.{AreChoices, HasAlternative, HasSelection, least_alternative, least_among, least_of, least_selection, least_sum, plus}
use Rattle.qc_least.specs.Least.{HasCount, HasDerivation, IsLeast}
use Rattle.qc_least.specs.Law.Numbers.{HasAny, HasSum, least_any, least_plus, least_same}

-- ---- no needs

none_there : (task : Task) (height n : ℕ) → n ≡ 0 → HasCount task height [] n
none_there task height n is = (Empty, tt, omega arith, sym is)

none_has : (task : Task) (n : ℕ) (forest : Forest) → AreValid task [] forest → nodes_of forest ≡ n → n ≡ 0
none_has task n Empty valid count = sym count
none_has task n (Grow node children rest) valid count = absurd valid

least_none : (task : Task) (height : ℕ) → IsLeast (HasCount task height []) (Some 0)
least_none task height = (none_there task height 0 refl, λ n has. omega arith)

-- ---- a need before others

-- a tree put before others
before : (task : Task) (need : Need) (needs : List Need) (height m n : ℕ) (tree : Forest) → AreValid task (need ∷ []) tree →
    height_of tree ≤ height → nodes_of tree ≡ m → HasCount task height needs n → HasCount task height (need ∷ needs) (m + n)
before task need needs height m n Empty valid low count others = absurd valid
before task need needs height m n (Grow node children Empty) valid low count others = (
  Grow node children others.0,
  (valid.0, valid.1, valid.2, others.1),
  (let h = others.2 in omega arith),
  (let h = others.3 in omega arith),
)
before task need needs height m n (Grow node children (Grow other below beside)) valid low count others = absurd valid.3

apart : (task : Task) (need : Need) (needs : List Need) (height n : ℕ) (forest : Forest) → AreValid task (need ∷ needs) forest →
    height_of forest ≤ height → nodes_of forest ≡ n → HasSum (HasCount task height (need ∷ [])) (HasCount task height needs) n
apart task need needs height n Empty valid low count = absurd valid
apart task need needs height n (Grow node children rest) valid low count = (
  1 + nodes_of children,
  nodes_of rest,
  (Grow node children Empty, (valid.0, valid.1, valid.2, tt), omega arith, omega arith),
  (rest, valid.3, omega arith, refl),
  omega arith,
)

least_first : (task : Task) (need : Need) (needs : List Need) (height : ℕ) (first others : Option ℕ) →
    IsLeast (HasCount task height (need ∷ [])) first → IsLeast (HasCount task height needs) others →
    IsLeast (HasCount task height (need ∷ needs)) (plus first others)
least_first task need needs height first others one rest =
    least_same (HasSum (HasCount task height (need ∷ [])) (HasCount task height needs)) (HasCount task height (need ∷ needs)) (plus first others)
    (λ n has. subst (HasCount task height (need ∷ needs)) (sym has.4)
    (before task need needs height has.0 has.1 has.2.0 has.2.1 has.2.2 has.2.3 has.3))
    (λ n has. apart task need needs height n has.0 has.1 has.2 has.3)
    (least_plus (HasCount task height (need ∷ [])) (HasCount task height needs) first others one rest)

pub least_all : (task : Task) (height : ℕ) (least : Need → Option ℕ) → ((need : Need) → IsLeast (HasCount task height (need ∷ [])) (least need)) →
    (needs : List Need) → IsLeast (HasCount task height needs) (least_sum least needs)
least_all task height least each [] = least_none task height
least_all task height least each (need ∷ needs) =
    least_first task need needs height (least need) (least_sum least needs) (each need) (least_all task height least each needs)

-- ---- a node over its children

-- one node more than trees for these needs
abbrev HasOver : Task → ℕ → List Need → ℕ → Type 0
HasOver task height inner = HasSum (λ m. m ≡ 1) (HasCount task height inner)

least_over : (task : Task) (height : ℕ) (inner : List Need) (least : Option ℕ) → IsLeast (HasCount task height inner) least →
    IsLeast (HasOver task height inner) (plus (Some 1) least)
least_over task height inner least it =
    least_plus (λ m. m ≡ 1) (HasCount task height inner) (Some 1) least (refl, λ n has. omega arith) it

over : (task : Task) (need : Need) (height n : ℕ) (inner : List Need) (node : Node) → children_of task need node ≡ Some inner →
    HasOver task height inner n → HasCount task (suc height) (need ∷ []) n
over task need height n inner node is has =
    let forest = has.3 in (
      Grow node forest.0 Empty,
      (inner, is, forest.1, tt),
      (let h = forest.2 in omega arith),
      (let h = forest.3 in let one = has.2 in let e = has.4 in omega arith),
    )

under : (task : Task) (choices : Need → List (List Need)) → AreChoices task choices → (need : Need) (height n : ℕ) (forest : Forest) →
    AreValid task (need ∷ []) forest → height_of forest ≤ suc height → nodes_of forest ≡ n →
    HasAny (HasOver task height) (choices need) n
under task choices are need height n Empty valid low count = absurd valid
under task choices are need height n (Grow node children Empty) valid low count =
    let there = are.listed need node valid.0 valid.1 in (
      there.0,
      valid.0,
      there.1,
      (1, nodes_of children, refl, (children, valid.2, omega arith, refl), omega arith),
    )
under task choices are need height n (Grow node children (Grow other below beside)) valid low count = absurd valid.3

too_low : (task : Task) (need : Need) (forest : Forest) → AreValid task (need ∷ []) forest → height_of forest ≤ 0 → ⊥
too_low task need Empty valid low = valid
too_low task need (Grow node children rest) valid low = omega arith

pub recursion : (task : Task) (choices : Need → List (List Need)) → AreChoices task choices → (height : ℕ) (need : Need) →
    IsLeast (HasCount task height (need ∷ [])) (least_of choices height need)
recursion task choices are zero need = λ n has. too_low task need has.0 has.1 has.2
recursion task choices are (suc height) need =
    let least = λ (inner : List Need). plus (Some 1) (least_sum (least_of choices height) inner) in
    least_same (HasAny (HasOver task height) (choices need)) (HasCount task (suc height) (need ∷ []))
    (least_among (map least (choices need)))
    (λ n has. let chosen = are.chosen need has.0 has.1 has.2 in over task need height n has.1 chosen.0 chosen.1 has.3)
    (λ n has. under task choices are need height n has.0 has.1 has.2 has.3)
    (least_any (HasOver task height) least
    (λ inner. least_over task height inner (least_sum (least_of choices height) inner)
    (least_all task height (least_of choices height) (recursion task choices are height) inner))
    (choices need))

-- ---- alternatives

least_choice : (task : Task) (height : ℕ) (least : Need → Option ℕ) → ((need : Need) → IsLeast (HasCount task height (need ∷ [])) (least need)) →
    (alternative : Option Need) → IsLeast (HasAlternative task height alternative) (least_alternative least alternative)
least_choice task height least each None = (refl, λ n has. omega arith)
least_choice task height least each (Some need) = each need

pub selection : (task : Task) (height : ℕ) (least : Need → Option ℕ) → ((need : Need) → IsLeast (HasCount task height (need ∷ [])) (least need)) →
    (options : List (List (Option Need))) → IsLeast (HasSelection task height options) (least_selection least options)
selection task height least each [] = (refl, λ n has. omega arith)
selection task height least each (alternatives ∷ others) =
    let first = HasAny (HasAlternative task height) alternatives in
    least_same (HasSum first (HasSelection task height others)) (HasSelection task height (alternatives ∷ others))
    (plus (least_among (map (least_alternative least) alternatives)) (least_selection least others))
    (λ n has. (has.2.0, has.2.1, has.2.2, has.0, has.1, has.2.3, has.3, has.4))
    (λ n has. (has.3, has.4, (has.0, has.1, has.2, has.5), has.6, has.7))
    (least_plus first (HasSelection task height others) (least_among (map (least_alternative least) alternatives)) (least_selection least others)
    (least_any (HasAlternative task height) (least_alternative least) (least_choice task height least each) alternatives)
    (selection task height least each others))

-- ---- heights and limits

no_higher : (forest : Forest) → height_of forest ≤ nodes_of forest
no_higher Empty = omega arith
no_higher (Grow node children rest) = let a = no_higher children in let b = no_higher rest in omega arith

pub bounded : (task : Task) (height : ℕ) (needs : List Need) (count : ℕ) → HasCount task height needs count → HasCount task count needs count
bounded task height needs count has = let h = no_higher has.0 in let e = has.3 in (has.0, has.1, omega arith, has.3)

pub higher : (task : Task) (height more : ℕ) (needs : List Need) (count : ℕ) → height ≤ more → HasCount task height needs count →
    HasCount task more needs count
higher task height more needs count below has = let h = has.2 in (has.0, has.1, omega arith, has.3)

pub no_smaller : (task : Task) (height : ℕ) (needs : List Need) (count : ℕ) → HasCount task height needs count →
    ((n : ℕ) → HasCount task height needs n → n ≤ count → n ≡ count) → IsLeast (HasCount task height needs) (Some count)
no_smaller task height needs count has only = (
  has,
  λ n other. elim (cases_lt n count) [ inl less ↦ let e = only n other (omega arith) in omega arith | inr more ↦ omega arith ],
)

-- ---- derivations

pub counted : (d : Description) (t : Tile) (bounds : Bounds) (count : ℕ) → HasDerivation d t bounds count →
    HasCount (task_of d t bounds.laws) bounds.height (tile_needs t) count
counted d t bounds count has = (forest_of has.0, has.1.nodes, has.1.height, has.2)
