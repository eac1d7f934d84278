-- States that are the same on cells that are kept.
use Rattle.std.proofs.Common.{◌∙◌, ℕ, refl, sym}
use Rattle.qc_terms.specs.declared.state.State.{State}
use Rattle.qc_code.specs.TileHolds.{AreSameOn}

pub same_on-refl : (P : ℕ → ℕ → Type 0) (s : State) → AreSameOn P s s
same_on-refl P s = record {
  facts = refl;
  widths = refl;
  rows = refl;
  cells = λ space index kept. refl;
  memory = refl;
  input = refl;
  taken = refl;
  ending = refl;
}

pub same_on-trans : (P : ℕ → ℕ → Type 0) (s t u : State) → AreSameOn P s t → AreSameOn P t u → AreSameOn P s u
same_on-trans P s t u first second = record {
  facts = second.facts ∙ first.facts;
  widths = second.widths ∙ first.widths;
  rows = second.rows ∙ first.rows;
  cells = λ space index kept. second.cells space index kept ∙ first.cells space index kept;
  memory = second.memory ∙ first.memory;
  input = second.input ∙ first.input;
  taken = second.taken ∙ first.taken;
  ending = second.ending ∙ first.ending;
}

pub same_on-sym : (P : ℕ → ℕ → Type 0) (s t : State) → AreSameOn P s t → AreSameOn P t s
same_on-sym P s t same = record {
  facts = sym same.facts;
  widths = sym same.widths;
  rows = sym same.rows;
  cells = λ space index kept. sym (same.cells space index kept);
  memory = sym same.memory;
  input = sym same.input;
  taken = sym same.taken;
  ending = sym same.ending;
}

-- states that are the same on cells are so on fewer
pub same_on-less : (P Q : ℕ → ℕ → Type 0) (s t : State) → ((space index : ℕ) → Q space index → P space index) →
    AreSameOn P s t → AreSameOn Q s t
same_on-less P Q s t less same = record {
  facts = same.facts;
  widths = same.widths;
  rows = same.rows;
  cells = λ space index kept. same.cells space index (less space index kept);
  memory = same.memory;
  input = same.input;
  taken = same.taken;
  ending = same.ending;
}
