-- The bounds that each text gives are within their limits.
use Rattle.std.proofs.Common.{◌≤◌, arith}
use Rattle.qc_grammar.specs.declared.cursor.Number.{Number}
use Rattle.qc_grammar.specs.Grammar.{Grammar}
use Rattle.qc_grammar.specs.Law.Having.{IsFreeIfName}
use Rattle.qc_grammar.specs.Law.Having as having
use Rattle.qc_tabletext.specs.TableText as grammar
use Rattle.qc_tabletext.specs.TableText.{Rule, TreeOf, table_text, tables}
use Rattle.qc_tabletext.specs.Vocabulary.{vocabulary}
use Rattle.qc_tabletext.specs.Bounded.{IsBounded, IsBoundedVersion}

-- each tree of the grammar
abbrev Each : {A : Type 0} → Grammar Rule TreeOf A → (A → Type 0) → Type 0
Each g P = having.EachHas table_text (IsFreeIfName vocabulary) g P

follows : {A : Type 0} (g : Grammar Rule TreeOf A) (P Q : A → Type 0) → ((x : A) → P x → Q x) → Each g P → Each g Q
follows g P Q f e = having.has_by table_text (IsFreeIfName vocabulary) g P Q f e

abbrev IsHeight : Number → Type 0
IsHeight n = (1 ≤ n.value) × (n.value ≤ 4)

height_bounded : Each grammar.height IsHeight
unfolding grammar.height
height_bounded = (
  (λ t _ _. (omega arith, omega arith)),
  (
    (λ t _ _. (omega arith, omega arith)),
    ((λ t _ _. (omega arith, omega arith)), (λ t _ _. (omega arith, omega arith))),
  ),
)

abbrev IsLaws : Number → Type 0
IsLaws n = n.value ≤ 3

laws_bounded : Each grammar.laws IsLaws
unfolding grammar.laws
laws_bounded = (
  (λ t _ _. omega arith),
  ((λ t _ _. omega arith), ((λ t _ _. omega arith), (λ t _ _. omega arith))),
)

version_bounded : Each grammar.version IsBoundedVersion
unfolding grammar.version
version_bounded = (
  (λ t _ _. tt),
  (λ t _ _ u _ _. follows grammar.height IsHeight _
      (λ h is v _ _. follows grammar.laws IsLaws _ (λ l most. (is.0, is.1, most)) laws_bounded) height_bounded),
)

-- a whole text
pub tables_bounded : Each tables IsBounded
unfolding tables grammar.entries
tables_bounded = λ t _ _ n _ _.
    follows grammar.version IsBoundedVersion _ (λ v is u _ _ entries each. is) version_bounded
