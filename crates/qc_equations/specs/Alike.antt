-- When a term may stand for another one.
use Rattle.std.specs.Prelude.{ℕ, ◌≡◌, ◌<◌, ◌^◌, List, Bool, true}
use Rattle.qc_words.specs.declared.operator.Op.{Op}
use Rattle.qc_terms.specs.declared.state.State.{State}
use Rattle.qc_terms.specs.State.{Context, IsState, context_of}
use Rattle.qc_terms.specs.Tree.{Tree, Number, Unary, Binary, Register, Immediate, Load, NextInput, AddressAfter, width_of, has_input}
use Rattle.qc_terms.specs.Typing.{IsTyped, OperandsFit}
use Rattle.qc_terms.specs.Value.{value_of}

-- the test holds of each node of the term
abbrev pub AllNodes : (Tree → Bool) → Tree → Type 0
AllNodes test (Number value width) = test (Number value width) ≡ true
AllNodes test (Unary op arg) = (test (Unary op arg) ≡ true) × AllNodes test arg
AllNodes test (Binary op left right) =
    (test (Binary op left right) ≡ true) × AllNodes test left × AllNodes test right
AllNodes test (Register place width) = test (Register place width) ≡ true
AllNodes test (Immediate operand width) = test (Immediate operand width) ≡ true
AllNodes test (Load width address) = (test (Load width address) ≡ true) × AllNodes test address
AllNodes test (NextInput width) = test (NextInput width) ≡ true
AllNodes test (AddressAfter width) = test (AddressAfter width) ≡ true

-- A test of what a term reads: numbers and operators pass, and of a load it sees the width alone.
pub record IsOfLeaves (test : Tree → Bool) : Type 0 where
  pub numbers : (value width : ℕ) → test (Number value width) ≡ true
  pub unary : (op : Op) (arg : Tree) → test (Unary op arg) ≡ true
  pub binary : (op : Op) (left right : Tree) → test (Binary op left right) ≡ true
  pub loads : (width : ℕ) (address other : Tree) → test (Load width address) ≡ test (Load width other)

-- The second term may stand where the first one does: it is typed where the first one is, and has its width; in every
-- state, with all operands, it has its value, or both have none. It reads nothing that the first one doesn't read, and
-- the input where that does.
pub record AreAlike (t u : Tree) : Type 0 where
  pub typed : (context : Context) → IsTyped context t → IsTyped context u
  pub width : (context : Context) → IsTyped context t → width_of u ≡ width_of t
  pub value : (context : Context) (operands : List ℕ) (after : ℕ) (s : State) → IsTyped context t → IsState s →
      context_of s ≡ context → OperandsFit context operands t → after < 2 ^ context.word →
      value_of u operands after s ≡ value_of t operands after s
  pub fits : (context : Context) (operands : List ℕ) → OperandsFit context operands t → OperandsFit context operands u
  pub leaves : (test : Tree → Bool) → IsOfLeaves test → AllNodes test t → AllNodes test u
  pub input : has_input u ≡ has_input t
