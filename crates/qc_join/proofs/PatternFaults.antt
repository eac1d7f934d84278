-- The faults of each sort of pattern, and that they hang on which names there are and not on how these are listed.
use Rattle.std.specs.Prelude.{ℕ, ◌≡◌, List, [], ◌∷◌, ◌++◌, map}
use Rattle.std.specs.List.{flat_map}
use Rattle.std.proofs.Common.{refl, ap, sym, ◌∙◌}
use Rattle.qc_names.specs.Tables.{is_among}
use Rattle.qc_grammar.specs.declared.cursor.Ident.{Ident}
use Rattle.qc_sled.specs.declared.syntax.Pattern as tree
use Rattle.qc_sled.specs.declared.syntax.Pattern.{fold-Pattern, fold-roll-Pattern}
use Rattle.qc_sled.specs.declared.syntax.Pattern.TheVariants as part
use Rattle.qc_sled.specs.declared.syntax.Pattern.TheOpen.{Name, Equal, Group, Conjunction, Sequence, Alternatives}
use Rattle.qc_sled.specs.declared.syntax.Value.{Value}
use Rattle.qc_join.specs.declared.faults.NameFault.{NameFault}
use Rattle.qc_join.specs.Names.{Names, unknown_unless, value_faults, faults_layer, pattern_faults}
use Rattle.qc_names.specs.Law.Reported.{reported-append, both_assoc, both-none}

-- the faults of all parts
abbrev pub parts_faults : Names → List tree.Pattern → List NameFault
parts_faults names parts = flat_map (λ p. pattern_faults p names) parts

-- the faults of parts, one after the other
flat : (names : Names) (parts : List tree.Pattern)
    → flat_map (λ (faults : Names → List NameFault). faults names) (map pattern_faults parts) ≡ parts_faults names parts
flat names [] = refl
flat names (p ∷ parts) = ap (λ fs. pattern_faults p names ++ fs) (flat names parts)

-- the faults of a name
pub faults-name : (names : Names) (name : Ident)
    → pattern_faults (part.Name name) names ≡ unknown_unless (is_among names.patterns name.text) name.token
unfolding pattern_faults
faults-name names name =
    ap (λ f. f names) (ap pattern_faults (sym (part.rolls-Name name))
    ∙ fold-roll-Pattern (Names → List NameFault) faults_layer (Name name))

-- of a field with its value
pub faults-equal : (names : Names) (field : Ident) (value : Value)
    → pattern_faults (part.Equal field value) names
    ≡ unknown_unless (is_among names.fields field.text) field.token ++ value_faults names value
unfolding pattern_faults
faults-equal names field value =
    ap (λ f. f names) (ap pattern_faults (sym (part.rolls-Equal field value))
    ∙ fold-roll-Pattern (Names → List NameFault) faults_layer (Equal field value))

-- of a pattern in brackets
pub faults-group : (names : Names) (token : ℕ) (inner : tree.Pattern)
    → pattern_faults (part.Group token inner) names ≡ pattern_faults inner names
unfolding pattern_faults
faults-group names token inner =
    ap (λ f. f names) (ap pattern_faults (sym (part.rolls-Group token inner))
    ∙ fold-roll-Pattern (Names → List NameFault) faults_layer (Group token inner))

-- of parts that hold together
pub faults-conjunction : (names : Names) (parts : List tree.Pattern)
    → pattern_faults (part.Conjunction parts) names ≡ parts_faults names parts
unfolding pattern_faults
faults-conjunction names parts =
    ap (λ f. f names) (ap pattern_faults (sym (part.rolls-Conjunction parts))
    ∙ fold-roll-Pattern (Names → List NameFault) faults_layer (Conjunction parts))
    ∙ flat names parts

-- of parts one after the other
pub faults-sequence : (names : Names) (parts : List tree.Pattern)
    → pattern_faults (part.Sequence parts) names ≡ parts_faults names parts
unfolding pattern_faults
faults-sequence names parts =
    ap (λ f. f names) (ap pattern_faults (sym (part.rolls-Sequence parts))
    ∙ fold-roll-Pattern (Names → List NameFault) faults_layer (Sequence parts))
    ∙ flat names parts

-- of parts of which one holds
pub faults-alternatives : (names : Names) (parts : List tree.Pattern)
    → pattern_faults (part.Alternatives parts) names ≡ parts_faults names parts
unfolding pattern_faults
faults-alternatives names parts =
    ap (λ f. f names) (ap pattern_faults (sym (part.rolls-Alternatives parts))
    ∙ fold-roll-Pattern (Names → List NameFault) faults_layer (Alternatives parts))
    ∙ flat names parts

pub ruleset faults = (
  faults-name,
  faults-equal,
  faults-group,
  faults-conjunction,
  faults-sequence,
  faults-alternatives,
  reported-append,
  both_assoc,
  both-none,
)
