-- Expressions whose names are resolved: what stands in them of parameters, operands and functions, by numbers.
use Rattle.std.specs.Prelude.{ℕ, false, nat_eq, if◌then◌else◌, List, [], ◌∷◌, ◌++◌, length, map, Option, None, Some}
use Rattle.qc_words.specs.declared.operator.Op.{Op}
use Rattle.qc_terms.specs.declared.term.Place.TheVariants as place
use Rattle.qc_grammar.specs.declared.cursor.Ident.{Ident}
use Rattle.qc_grammar.specs.declared.cursor.Number.{Number}
use Rattle.qc_lrtl.specs.declared.syntax.Expr.{Expr, fold-Expr}
use Rattle.qc_lrtl.specs.declared.syntax.Expr.TheOpen.{Expr-F, Literal, Input, After, Mem, Zx, Sx, Slice, Name, Call, Cell}
use Rattle.qc_facts.specs.declared.facts.OperandFacts.{OperandFacts}
use Rattle.qc_facts.specs.declared.facts.OperandFacts.TheVariants.{Register as register, Immediate as immediate, Address as address}
use Rattle.qc_facts.specs.declared.facts.Target as known_target
use Rattle.qc_facts.specs.Facts.{operator_named, operands_of, cell_named}
use Rattle.qc_facts.specs.Numbers.{is_empty, width_in, literal_faults, access_width}
use Rattle.qc_bodies.specs.declared.act.Aim.{Aim}
use Rattle.qc_bodies.specs.declared.act.Aim.TheVariants as aim
use Rattle.qc_bodies.specs.declared.act.Target.{Target}
use Rattle.qc_bodies.specs.declared.tree.Callee.{Callee}
use Rattle.qc_bodies.specs.declared.tree.Callee.TheVariants as callee
use Rattle.qc_bodies.specs.declared.tree.Leaf.TheVariants as leaf
use Rattle.qc_bodies.specs.declared.tree.Wrap.TheVariants as wrap
use Rattle.qc_bodies.specs.Trees.{Core, one, Leaf, Absent, Param, Wrap, Operate, Use, Apply, several}
use Rattle.qc_resolve.specs.Scopes.{Signature, is_plain, takes}
use Rattle.qc_named.specs.declared.standing.Own.{Own}
use Rattle.qc_named.specs.declared.standing.Own.TheVariants as own
use Rattle.qc_named.specs.Standing.{Standing, own_in, placed_in}

-- An expression as it is written: the name that it is, if it is one alone, and its tree without names.
pub record Resolved : Type 0 where
  pub bare : Option Ident
  pub tree : Standing → Core one

abbrev pub literal : Number → Number → Core one
literal number bits =
    if is_empty (literal_faults number bits) then Leaf number.token (leaf.Number number.value) (width_in bits)
    else Absent number.token

-- an operand that is used at a token
abbrev pub operand_tree : Option ℕ → ℕ → OperandFacts → ℕ → Core one
operand_tree word number (register space width) token = Leaf token (leaf.Register (place.Operand space number)) width
operand_tree word number (immediate width) token = Leaf token (leaf.Immediate number) width
operand_tree word number address token = Leaf token (leaf.Immediate number) word

-- a name that stands alone
abbrev pub alone : Option ℕ → Option Own → ℕ → Core one
alone word None token = Absent token
alone word (Some (own.Value number)) token = Param number
alone word (Some (own.Function number arity)) token = Absent token
alone word (Some (own.Operand number facts)) token = operand_tree word number facts token

abbrev pub cell_tree : Option known_target.Target → ℕ → Core one
cell_tree None token = Absent token
cell_tree (Some target) token = Leaf token (leaf.Register target.place) target.width

-- the register that a name, or an operand, stands for
abbrev pub target_of : known_target.Target → Target
target_of t = record { place = t.place; width = t.width }

abbrev pub aim_of_target : Option known_target.Target → Aim
aim_of_target None = aim.Nowhere
aim_of_target (Some target) = aim.Fixed (target_of target)

abbrev pub aim_of_operand : ℕ → OperandFacts → Aim
aim_of_operand number (register space width) = aim.Fixed (record { place = place.Operand space number; width = width })
aim_of_operand number (immediate width) = aim.Nowhere
aim_of_operand number address = aim.Nowhere

abbrev pub aim_of_own : Option Own → Aim
aim_of_own None = aim.Nowhere
aim_of_own (Some (own.Value number)) = aim.Given number
aim_of_own (Some (own.Function number arity)) = aim.Nowhere
aim_of_own (Some (own.Operand number facts)) = aim_of_operand number facts

abbrev pub aim_of : Standing → Option Ident → Aim
aim_of standing None = aim.Nowhere
aim_of standing (Some name) = aim_of_own (own_in standing name.text)

-- the function of so many plain arguments that a name stands for, if it stands for one
abbrev pub callee_of_placed : ℕ → Option (ℕ × Signature) → Callee
callee_of_placed arity None = callee.Nowhere
callee_of_placed arity (Some s) = if is_plain s.1 arity then callee.Declared s.0 else callee.Nowhere

abbrev pub callee_of_operator : ℕ → Option Op → Option (ℕ × Signature) → Callee
callee_of_operator arity None s = callee_of_placed arity s
callee_of_operator arity (Some op) s = if nat_eq (operands_of op) arity then callee.Operator op else callee.Nowhere

abbrev pub callee_of_own : ℕ → Option Own → Option Op → Option (ℕ × Signature) → Callee
callee_of_own arity None op s = callee_of_operator arity op s
callee_of_own arity (Some (own.Value number)) op s = callee.Nowhere
callee_of_own arity (Some (own.Function number n)) op s = if nat_eq n arity then callee.Given number else callee.Nowhere
callee_of_own arity (Some (own.Operand number facts)) op s = callee.Nowhere

abbrev pub callee_of : Standing → ℕ → Option Ident → Callee
callee_of standing arity None = callee.Nowhere
callee_of standing arity (Some name) =
    callee_of_own arity (own_in standing name.text) (operator_named name.text) (placed_in standing name.text)

-- what is made of each argument and its parameter, in order
abbrev pub paired : {A : Type 0} → (Option ℕ → Resolved → List A) → List (Option ℕ) → List Resolved → List A
paired f [] args = []
paired f (param ∷ params) [] = []
paired f (param ∷ params) (arg ∷ args) = f param arg ++ paired f params args

abbrev pub one_callee : Standing → Option ℕ → Resolved → List Callee
one_callee standing None arg = []
one_callee standing (Some arity) arg = callee_of standing arity arg.bare ∷ []

abbrev pub one_value : Standing → Option ℕ → Resolved → List (Core one)
one_value standing None arg = arg.tree standing ∷ []
one_value standing (Some arity) arg = []

abbrev pub one_aim : Standing → Option ℕ → Resolved → List Aim
one_aim standing None arg = aim_of standing arg.bare ∷ []
one_aim standing (Some arity) arg = []

-- Of arguments for these parameters, those that are functions, those that are values, and the registers that these are.
abbrev pub callees_of : Standing → List (Option ℕ) → List Resolved → List Callee
callees_of standing params args = paired (one_callee standing) params args

abbrev pub values_of : Standing → List (Option ℕ) → List Resolved → List (Core one)
values_of standing params args = paired (one_value standing) params args

abbrev pub aims_of : Standing → List (Option ℕ) → List Resolved → List Aim
aims_of standing params args = paired (one_aim standing) params args

-- The use of a function: of a parameter, else of an operator, else of a declared one, each with as many arguments as it
-- has.
abbrev pub trees_of : Standing → List Resolved → List (Core one)
trees_of standing args = map (λ arg. arg.tree standing) args

abbrev pub use_of_placed : Standing → Option (ℕ × Signature) → ℕ → List Resolved → Core one
use_of_placed standing None token args = Absent token
use_of_placed standing (Some s) token args =
    if takes false s.1 (length args)
    then Use token s.0 (callees_of standing s.1.params args) (several (values_of standing s.1.params args))
    else Absent token

abbrev pub use_of_operator : Standing → Option Op → Option (ℕ × Signature) → ℕ → List Resolved → Core one
use_of_operator standing None s token args = use_of_placed standing s token args
use_of_operator standing (Some op) s token args = Operate token op (several (trees_of standing args))

abbrev pub use_of_own : Standing → Option Own → Option Op → Option (ℕ × Signature) → ℕ → List Resolved → Core one
use_of_own standing None op s token args = use_of_operator standing op s token args
use_of_own standing (Some (own.Value number)) op s token args = Absent token
use_of_own standing (Some (own.Function number arity)) op s token args =
    if nat_eq arity (length args) then Apply token number (several (trees_of standing args)) else Absent token
use_of_own standing (Some (own.Operand number facts)) op s token args = Absent token

abbrev pub use_of : Standing → Ident → List Resolved → Core one
use_of standing name args =
    use_of_own standing (own_in standing name.text) (operator_named name.text) (placed_in standing name.text)
    name.token args

abbrev pub resolved_layer : Expr-F Resolved → Resolved
resolved_layer (Literal number bits) = record { bare = None; tree = λ standing. literal number bits }
resolved_layer (Input token) = record { bare = None; tree = λ standing. Leaf token leaf.Input standing.facts.word }
resolved_layer (After token) = record { bare = None; tree = λ standing. Leaf token leaf.After standing.facts.word }
resolved_layer (Mem token bits part) = record {
  bare = None;
  tree = λ standing. Wrap token wrap.Load (access_width standing.facts.word bits) (part.tree standing);
}
resolved_layer (Zx token bits part) = record {
  bare = None;
  tree = λ standing. Wrap token wrap.Zx (width_in bits) (part.tree standing);
}
resolved_layer (Sx token bits part) = record {
  bare = None;
  tree = λ standing. Wrap token wrap.Sx (width_in bits) (part.tree standing);
}
resolved_layer (Slice token low bits part) = record {
  bare = None;
  tree = λ standing. Wrap token (wrap.Slice low.value) (width_in bits) (part.tree standing);
}
resolved_layer (Name name) = record {
  bare = Some name;
  tree = λ standing. alone standing.facts.word (own_in standing name.text) name.token;
}
resolved_layer (Call name args) = record { bare = None; tree = λ standing. use_of standing name args }
resolved_layer (Cell space cell) = record {
  bare = None;
  tree = λ standing. cell_tree (cell_named standing.facts space cell) space.token;
}

unfoldable pub resolved : Expr → Resolved
resolved = fold-Expr Resolved resolved_layer

-- the tree of an expression where its names stand for these
abbrev pub tree_in : Standing → Expr → Core one
tree_in standing e = (resolved e).tree standing
