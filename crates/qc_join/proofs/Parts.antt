-- What several patterns come to, part after part.
use Rattle.std.specs.Prelude.{ℕ, ◌≡◌, ◌≤◌, List, [], ◌∷◌, ◌++◌, length, take}
use Rattle.std.proofs.Common.{refl, ap, sym, ◌∙◌, arith, get_or, ◌<◌, ◌+◌}
use Rattle.std.proofs.lemmas.List.{take_more}
use Rattle.qc_sled.specs.declared.syntax.Item.{Item}
use Rattle.qc_sled.specs.declared.syntax.Pattern.{Pattern}
use Rattle.qc_join.specs.declared.expanded.Expanded.{Expanded}
use Rattle.qc_join.specs.declared.expanded.Expanded.TheVariants.{Several}
use Rattle.qc_join.specs.declared.expanded.FieldPlace.{FieldPlace}
use Rattle.qc_join.specs.Alternatives.{one_of}
use Rattle.qc_join.specs.Expansion.{Scope, patterns_in, patterns_after}
use Rattle.qc_join.specs.Inner.Expanding.{all_expanded, expanded-name, expanded-equal, expanded-group, expanded-conjunction, expanded-sequence, expanded-alternatives}

-- what each form of a pattern comes to
pub ruleset expanding = (
  expanded-name,
  expanded-equal,
  expanded-group,
  expanded-conjunction,
  expanded-sequence,
  expanded-alternatives,
)

-- two parts or more are several alternatives
pub two_or_more : (scope : Scope) (ps : List Pattern) → 2 ≤ length ps → Several ≡ one_of (all_expanded scope ps)
two_or_more scope [] many = absurd (omega (arith, many))
two_or_more scope (p ∷ []) many = absurd (omega (arith, many))
two_or_more scope (p ∷ q ∷ ps) many = refl

-- the patterns behind those of more items
patterns_after-append : (fields : List (List ℕ × FieldPlace)) (ps : List (List ℕ × Expanded)) (xs : List Item)
    (x : Item) →
    patterns_after fields ps (xs ++ x ∷ [])
    ≡ patterns_after fields ps xs ++ patterns_in fields (patterns_after fields ps xs) x
patterns_after-append fields ps [] x = refl
patterns_after-append fields ps (y ∷ xs) x = patterns_after-append fields (ps ++ patterns_in fields ps y) xs x

-- the patterns of one item more
pub patterns_more : (fields : List (List ℕ × FieldPlace)) (items : List Item) (at : ℕ) (i : Item) →
    at < length items → i ≡ get_or items at i →
    patterns_after fields [] (take at items) ++ patterns_in fields (patterns_after fields [] (take at items)) i
    ≡ patterns_after fields [] (take (at + 1) items)
patterns_more fields items at i within is =
    sym (patterns_after-append fields [] (take at items) i)
    ∙ ap (patterns_after fields []) (ap (λ x. take at items ++ x ∷ []) is ∙ sym (take_more items at i within))
