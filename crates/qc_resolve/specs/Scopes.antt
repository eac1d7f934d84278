-- What names stand for where an expression is written.
use Rattle.std.specs.Prelude.{ℕ, Bool, true, false, ◌&&◌, nat_eq, cond, List, length, is_some, Option, None, Some}
use Rattle.std.specs.List.{list_all}
use Rattle.qc_terms.specs.declared.term.Dest.{Dest}
use Rattle.qc_terms.specs.declared.term.Place.TheVariants as place
use Rattle.qc_terms.specs.declared.term.Term.{Term}
use Rattle.qc_terms.specs.declared.term.Term.TheVariants as term
use Rattle.qc_facts.specs.declared.facts.Local.{Local}
use Rattle.qc_facts.specs.declared.facts.OperandFacts.{OperandFacts}
use Rattle.qc_facts.specs.declared.facts.OperandFacts.TheVariants.{Register as register, Immediate as immediate, Address as address}
use Rattle.qc_facts.specs.declared.facts.Target.{Target}
use Rattle.qc_facts.specs.declared.faults.WidthFault.{WidthFault}
use Rattle.qc_facts.specs.Values.{Value, bits_of, leaf}
use Rattle.qc_facts.specs.Facts.{Facts, named}

-- What the name of a parameter or of an operand stands for: an argument, and the register that it is, if it is one; an
-- operand by its number; or a function of so many plain arguments, used at a token.
pub data Bound : Type 0 where
  argument : Value → Option Target → Bound
  operand : ℕ → OperandFacts → Bound
  function : ℕ → (ℕ → List Value → Value) → Bound

-- What is known of a declared function or of named effects without a use: the arity of each parameter that is a function,
-- and of named effects for each parameter the tokens of the targets that it stands for, and the tokens of the effects
-- that show something.
pub record Signature : Type 0 where
  pub name : List ℕ
  pub params : List (Option ℕ)
  pub effects : Bool
  pub targets : List (List ℕ)
  pub events : List ℕ

-- One effect: its guard, the place that it changes, and the value, with the clashes of the guards, and of the rest.
pub record Act : Type 0 where
  pub guard : Option Term
  pub guards : List WidthFault
  pub to : Dest
  pub value : Term
  pub rest : List WidthFault

-- What a declared function comes to at a token for what its parameters stand for, and what named effects do.
pub record Meaning : Type 0 where
  pub signature : Signature
  pub apply : ℕ → List Bound → Value
  pub acts : List Bound → List Act

-- The names that an expression may use: those of parameters or operands, which hide functions, and of the functions
-- that may be used there. Of two of one name the first counts.
pub record Scope : Type 0 where
  pub facts : Facts
  pub locals : List (List ℕ × Bound)
  pub functions : List Meaning

-- what is known of these without uses
pub record Names : Type 0 where
  pub facts : Facts
  pub locals : List (List ℕ × Local)
  pub functions : List Signature

abbrev pub local_bound : {A : Type 0} → Option (List ℕ × A) → Option A
local_bound None = None
local_bound (Some p) = Some p.1

abbrev pub bound_in : Scope → List ℕ → Option Bound
bound_in scope name = local_bound (named (λ p. p.0) scope.locals name)

abbrev pub local_in : Names → List ℕ → Option Local
local_in names name = local_bound (named (λ p. p.0) names.locals name)

abbrev pub meaning_in : Scope → List ℕ → Option Meaning
meaning_in scope name = named (λ m. m.signature.name) scope.functions name

abbrev pub signature_in : Names → List ℕ → Option Signature
signature_in names name = named (λ s. s.name) names.functions name

-- a function of so many plain arguments
abbrev pub is_plain : Signature → ℕ → Bool
is_plain s arity = cond s.effects false (nat_eq (length s.params) arity && list_all (λ p. cond (is_some p) false true) s.params)

-- a function, or named effects, with so many parameters
abbrev pub takes : Bool → Signature → ℕ → Bool
takes effects s count = cond effects (cond s.effects (nat_eq (length s.params) count) false)
    (cond s.effects false (nat_eq (length s.params) count))

-- the value of an operand at a token
abbrev pub operand_value : Option ℕ → ℕ → OperandFacts → ℕ → Value
operand_value word number (register space width) token =
    leaf token (term.Reg (place.Operand space number) (bits_of width)) width
operand_value word number (immediate width) token = leaf token (term.Imm number (bits_of width)) width
operand_value word number address token = leaf token (term.Imm number (bits_of word)) word

-- the register that an operand is
abbrev pub target_of_operand : ℕ → OperandFacts → Option Target
target_of_operand number (register space width) = Some (record { place = place.Operand space number; width = width })
target_of_operand number (immediate width) = None
target_of_operand number address = None
