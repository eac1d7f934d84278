-- The names that each text of a machine declares are names.
use Rattle.std.specs.Prelude.{ℕ, List, All, codes}
use Rattle.std.proofs.lemmas.List.Elements.{All-nil}
use Rattle.qc_grammar.specs.Grammar.{Grammar, separated, word}
use Rattle.qc_grammar.specs.Law.Having.{IsFreeName, IsFreeIfName}
use Rattle.qc_grammar.specs.Law.Having as having
use Rattle.qc_lrtl.specs.LambdaRtl as grammar
use Rattle.qc_lrtl.specs.LambdaRtl.{Rule, TreeOf, lambda_rtl, machine, vocabulary}
use Rattle.qc_lrtl.specs.Named.{IsName, IsNamedOperand, IsNamedItem, AreNamed}

-- each tree of the grammar that is made of names which aren't reserved
abbrev Each : {A : Type 0} → Grammar Rule TreeOf A → (A → Type 0) → Type 0
Each g P = having.EachHas lambda_rtl (IsFreeIfName vocabulary) g P

always : {A : Type 0} (g : Grammar Rule TreeOf A) (P : A → Type 0) → ((x : A) → P x) → Each g P
always g P f = having.has_anyway lambda_rtl (IsFreeIfName vocabulary) g P f

follows : {A : Type 0} (g : Grammar Rule TreeOf A) (P Q : A → Type 0) → ((x : A) → P x → Q x) → Each g P → Each g Q
follows g P Q f e = having.has_by lambda_rtl (IsFreeIfName vocabulary) g P Q f e

a_name : (text : List ℕ) → IsFreeName vocabulary text → IsName text
a_name text is = record { form = is.form; free = is.free }

operand_has : Each grammar.operand IsNamedOperand
unfolding grammar.operand
operand_has = λ n class has t _ _. always grammar.operand_kind _ (λ k. a_name n.text (has class))

operands_have : Each grammar.operands (All IsNamedOperand)
unfolding grammar.operands
operands_have = λ t _ _. (
  (λ u _ _. All-nil IsNamedOperand),
  follows (separated grammar.operand (codes ",")) (All IsNamedOperand)
      (λ operands. Each (word (codes ")")) (λ _. All IsNamedOperand operands)) (λ operands are u _ _. are)
      (having.separated_have lambda_rtl (IsFreeIfName vocabulary) grammar.operand (codes ",") IsNamedOperand
      operand_has),
)

instruction_has : Each grammar.instruction IsNamedItem
unfolding grammar.instruction
instruction_has = λ t _ _ n class has.
    follows grammar.operands (All IsNamedOperand) _
    (λ operands are u _ _. always grammar.rtl _ (λ r. (a_name n.text (has class), are))) operands_have

of_cells_has : Each grammar.of_cells IsNamedItem
unfolding grammar.of_cells grammar.role grammar.flags
of_cells_has = (
  (λ t _ _ n class has k _ _ u _ _ l _ _ v _ _. ((λ w _ _. a_name n.text (has class)), a_name n.text (has class))),
  (
    (λ t _ _ n _ _ k _ _. tt),
    (
      (λ t _ _ n _ _ k _ _. tt),
      ((λ t _ _ n _ _ k _ _. tt), (λ t _ _ n _ _ k _ _ u _ _ l _ _. tt)),
    ),
  ),
)

item_has : Each grammar.item IsNamedItem
unfolding grammar.item grammar.single grammar.order grammar.region grammar.declaration
item_has = (
  (
    (λ t _ _ k _ _. tt),
    ((λ t _ _. ((λ u _ _. tt), (λ u _ _. tt))), ((λ t _ _ k _ _. tt), (λ t _ _ k _ _. tt))),
  ),
  (
    ((λ t _ _ k _ _. tt), ((λ t _ _ k _ _. tt), (λ t _ _ k _ _. tt))),
    (
      of_cells_has,
      (
        (λ t _ _ n _ _. always grammar.params _ (λ ps u _ _ x. tt)),
        (
          (λ t _ _ n _ _. always grammar.params _ (λ ps u _ _. always grammar.rtl _ (λ r. tt))),
          instruction_has,
        ),
      ),
    ),
  ),
)

ended_item_has : Each grammar.ended_item IsNamedItem
unfolding grammar.ended_item
ended_item_has = follows grammar.item IsNamedItem _ (λ x is u _ _. is) item_has

-- a whole text
pub machine_has : Each machine AreNamed
unfolding machine grammar.items
machine_has = λ t _ _ n class has u _ _ items each.
    record {
      name = a_name n.text (has class);
      items = having.all_have lambda_rtl (IsFreeIfName vocabulary) grammar.ended_item IsNamedItem ended_item_has items
          each;
    }
