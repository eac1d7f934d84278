-- Tables of patterns' names.
use Rattle.std.specs.Prelude.{ℕ, ◌≡◌, List, ◌∷◌, [], ◌++◌}
use Rattle.std.proofs.Common.{sym, subst}
use Rattle.qc_grammar.specs.declared.cursor.Ident.{Ident}
use Rattle.qc_names.specs.Law.Tables.{has_entered, same_names}
use Rattle.qc_names.specs.Seen.{texts_of}
use Rattle.qc_names.specs.Tables.{HasNames, entered, names_in}
use Rattle.qc_sled.specs.declared.syntax.Item.{Item}
use Rattle.qc_sled.specs.declared.syntax.Item.TheVariants.{Pattern}
use Rattle.qc_sled.specs.declared.syntax.Pattern as tree
use Rattle.qc_join.specs.Names.{pattern_names}

-- a table of patterns' names after an item that is a pattern
pub entered_pattern : (old new : List (List ℕ × ℕ)) (text : List ℕ) (item : Item) (token : ℕ) (name : Ident)
    (body : tree.Pattern) → item ≡ Pattern token name body → text ≡ name.text → new ≡ entered old text 0
    → HasNames new (names_in old ++ texts_of (pattern_names item))
entered_pattern old new text item token name body is same next =
    subst (λ es. HasNames es (names_in old ++ texts_of (pattern_names item))) (sym next)
    (subst (λ i. HasNames (entered old text 0) (names_in old ++ texts_of (pattern_names i))) (sym is)
    (subst (λ t. HasNames (entered old text 0) (names_in old ++ t ∷ [])) same
    (has_entered old (names_in old) text 0 (same_names (names_in old)))))
