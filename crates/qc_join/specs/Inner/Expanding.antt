-- What each form of a pattern comes to, and what holds the same names as a scope.
use Rattle.std.specs.Prelude.{ℕ, ◌≡◌, List, [], ◌∷◌, map}
use Rattle.std.proofs.Common.{refl, ap, sym, ◌∙◌}
use Rattle.qc_names.specs.Tables.{named}
use Rattle.qc_grammar.specs.declared.cursor.Ident.{Ident}
use Rattle.qc_sled.specs.declared.syntax.Pattern.{Pattern, fold-roll-Pattern}
use Rattle.qc_sled.specs.declared.syntax.Pattern.TheVariants as part
use Rattle.qc_sled.specs.declared.syntax.Pattern.TheOpen.{Name, Equal, Group, Conjunction, Sequence, Alternatives}
use Rattle.qc_sled.specs.declared.syntax.Value.{Value}
use Rattle.qc_join.specs.declared.expanded.Expanded.{Expanded}
use Rattle.qc_join.specs.declared.scope.ScopeTables.{ScopeTables}
use Rattle.qc_join.specs.declared.expanded.Joint.TheVariants.{AtOnce, InTurn}
use Rattle.qc_join.specs.Alternatives.{all_joined, one_of}
use Rattle.qc_names.specs.ValueTables.{IsTableOf}
use Rattle.qc_join.specs.Expansion.{Scope, field_equal, pattern_named, expanded_layer, expanded}

-- The tables are those of the scope's fields, patterns and operands.
pub record IsScopeOf (tables : ScopeTables) (scope : Scope) : Type 0 where
  pub fields : IsTableOf scope.fields tables.fields.now.values tables.fields.now.numbers
  pub patterns : IsTableOf scope.patterns tables.patterns.now.values tables.patterns.now.numbers
  pub operands : IsTableOf scope.operands tables.operands.now.values tables.operands.now.numbers

-- what several patterns come to
abbrev pub all_expanded : Scope → List Pattern → List Expanded
all_expanded scope [] = []
all_expanded scope (p ∷ ps) = expanded p scope ∷ all_expanded scope ps

-- what the parts' functions give in one scope
all_in : (scope : Scope) (ps : List Pattern) → map (λ f. f scope) (map expanded ps) ≡ all_expanded scope ps
all_in scope [] = refl
all_in scope (p ∷ ps) = ap (λ es. expanded p scope ∷ es) (all_in scope ps)

-- a name of a pattern
pub expanded-name : (name : Ident) (scope : Scope)
    → expanded (part.Name name) scope ≡ pattern_named (named scope.patterns name.text)
unfolding expanded
expanded-name name scope =
    ap (λ p. expanded p scope) (sym (part.rolls-Name name))
    ∙ ap (λ f. f scope) (fold-roll-Pattern (Scope → Expanded) expanded_layer (Name name))

-- a field that is equal to a value
pub expanded-equal : (field : Ident) (value : Value) (scope : Scope)
    → expanded (part.Equal field value) scope ≡ field_equal scope (named scope.fields field.text) value
unfolding expanded
expanded-equal field value scope =
    ap (λ p. expanded p scope) (sym (part.rolls-Equal field value))
    ∙ ap (λ f. f scope) (fold-roll-Pattern (Scope → Expanded) expanded_layer (Equal field value))

-- brackets
pub expanded-group : (token : ℕ) (inner : Pattern) (scope : Scope)
    → expanded (part.Group token inner) scope ≡ expanded inner scope
unfolding expanded
expanded-group token inner scope =
    ap (λ p. expanded p scope) (sym (part.rolls-Group token inner))
    ∙ ap (λ f. f scope) (fold-roll-Pattern (Scope → Expanded) expanded_layer (Group token inner))

-- parts at once
pub expanded-conjunction : (parts : List Pattern) (scope : Scope)
    → expanded (part.Conjunction parts) scope ≡ all_joined AtOnce (all_expanded scope parts)
unfolding expanded
expanded-conjunction parts scope =
    ap (λ p. expanded p scope) (sym (part.rolls-Conjunction parts))
    ∙ ap (λ f. f scope) (fold-roll-Pattern (Scope → Expanded) expanded_layer (Conjunction parts))
    ∙ ap (all_joined AtOnce) (all_in scope parts)

-- parts one after the other
pub expanded-sequence : (parts : List Pattern) (scope : Scope)
    → expanded (part.Sequence parts) scope ≡ all_joined InTurn (all_expanded scope parts)
unfolding expanded
expanded-sequence parts scope =
    ap (λ p. expanded p scope) (sym (part.rolls-Sequence parts))
    ∙ ap (λ f. f scope) (fold-roll-Pattern (Scope → Expanded) expanded_layer (Sequence parts))
    ∙ ap (all_joined InTurn) (all_in scope parts)

-- a choice of parts
pub expanded-alternatives : (parts : List Pattern) (scope : Scope)
    → expanded (part.Alternatives parts) scope ≡ one_of (all_expanded scope parts)
unfolding expanded
expanded-alternatives parts scope =
    ap (λ p. expanded p scope) (sym (part.rolls-Alternatives parts))
    ∙ ap (λ f. f scope) (fold-roll-Pattern (Scope → Expanded) expanded_layer (Alternatives parts))
    ∙ ap one_of (all_in scope parts)
