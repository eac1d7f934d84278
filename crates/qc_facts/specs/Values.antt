-- What expressions come to: terms with their widths.
use Rattle.std.specs.Prelude.{ℕ, ◌+◌, min, Bool, true, false, ◌&&◌, nat_eq, nat_lt, if◌then◌else◌, is_some, List, [], ◌∷◌, ◌++◌, Option, None, Some}
use Rattle.qc_words.specs.declared.operator.Op.{Op}
use Rattle.qc_words.specs.declared.operator.Op.TheVariants.{Slice}
use Rattle.qc_words.specs.Operators.{is_unary, result_width_of}
use Rattle.qc_terms.specs.declared.term.Term.{Term}
use Rattle.qc_terms.specs.declared.term.Term.TheVariants as term
use Rattle.qc_grammar.specs.declared.cursor.Number.{Number}
use Rattle.qc_facts.specs.declared.faults.WidthFault.{WidthFault}
use Rattle.qc_facts.specs.Numbers.{is_empty, clash, width_in, literal_faults, access_faults, access_width}

-- An expression in which no function is left. Its token is that of its outermost node, by which a clash of its width is
-- reported. It has no width where a fault stands in it, or where its width hangs on a number that is a fault. Its clashes
-- stand in post-order.
pub record Value : Type 0 where
  pub token : ℕ
  pub term : Term
  pub width : Option ℕ
  pub sound : Bool
  pub clashes : List WidthFault

-- where there is no width the term's has no meaning
abbrev pub bits_of : Option ℕ → ℕ
bits_of None = 1
bits_of (Some width) = width

-- an expression in which a fault stands that is reported elsewhere
abbrev pub faulty : ℕ → Value
faulty token = record { token = token; term = term.Num 0 1; width = None; sound = false; clashes = [] }

abbrev pub leaf : ℕ → Term → Option ℕ → Value
leaf token t width = record { token = token; term = t; width = width; sound = true; clashes = [] }

-- a node over parts, with the clashes inside them and its own
abbrev pub node : ℕ → Term → Option ℕ → Bool → List WidthFault → List WidthFault → Value
node token t width sound inner own = record {
  token = token;
  term = t;
  width = if sound && is_empty own then width else None;
  sound = sound && is_empty own;
  clashes = inner ++ own;
}

-- a width that is not the one that its place wants, where both are known
abbrev pub mismatch : ℕ → Option ℕ → Option ℕ → List WidthFault
mismatch token None wanted = []
mismatch token (Some found) None = []
mismatch token (Some found) (Some wanted) = if nat_eq found wanted then [] else clash token found wanted ∷ []

-- a width that is above a given one, where both are known
abbrev pub excess : ℕ → Option ℕ → Option ℕ → List WidthFault
excess token None most = []
excess token (Some found) None = []
excess token (Some found) (Some most) = if nat_lt most found then clash token found most ∷ [] else []

-- a slice past the end of its operand, where both widths are known
abbrev pub past_end : ℕ → Option ℕ → ℕ → Option ℕ → List WidthFault
past_end token None low to = []
past_end token (Some found) low None = []
past_end token (Some found) low (Some to) = if nat_lt found (low + to) then clash token found (low + to) ∷ [] else []

-- the value is of this width
abbrev pub test : Value → Option ℕ → List WidthFault
test v wanted = mismatch v.token v.width wanted

abbrev pub literal : Number → Number → Value
literal value bits =
    if is_empty (literal_faults value bits)
    then leaf value.token (term.Num value.value (bits_of (width_in bits))) (width_in bits) else faulty value.token

abbrev pub input : Option ℕ → ℕ → Value
input word token = leaf token (term.Input (bits_of word)) word

abbrev pub after : Option ℕ → ℕ → Value
after word token = leaf token (term.After (bits_of word)) word

-- a memory access, whose address is a word
abbrev pub load : Option ℕ → ℕ → Number → Value → Value
load word token bits address =
    node token (term.Mem (bits_of (access_width word bits)) address.term) (access_width word bits)
    (address.sound && is_empty (access_faults word bits)) address.clashes (test address word)

-- an extension, which doesn't narrow
abbrev pub extension : (ℕ → Op) → ℕ → Number → Value → Value
extension op token bits arg =
    node token (term.Un (op (bits_of (width_in bits))) arg.term) (width_in bits)
    (arg.sound && is_some (width_in bits)) arg.clashes (excess arg.token arg.width (width_in bits))

-- a slice, which lies within its operand
abbrev pub slice : ℕ → Number → Number → Value → Value
slice token low bits arg =
    node token (term.Un (Slice (min low.value 64) (bits_of (width_in bits))) arg.term) (width_in bits)
    (arg.sound && is_some (width_in bits)) arg.clashes (past_end arg.token arg.width low.value (width_in bits))

abbrev pub unary : Op → ℕ → Value → Value
unary op token arg = node token (term.Un op arg.term) arg.width arg.sound arg.clashes []

-- the width of an operator's value, by those of its operands that are known; a comparison's is 1 in any case
abbrev pub width_of_operator : Op → Option ℕ → Option ℕ → Option ℕ
width_of_operator op (Some left) right = Some (result_width_of op left)
width_of_operator op None (Some right) = Some (result_width_of op right)
width_of_operator op None None = if nat_eq (result_width_of op 2) 1 then Some 1 else None

-- Both operands of an operator have one width; it is the second's that clashes.
abbrev pub binary : Op → ℕ → Value → Value → Value
binary op token left right =
    node token (term.Bin op left.term right.term) (width_of_operator op left.width right.width)
    (left.sound && right.sound) (left.clashes ++ right.clashes) (mismatch right.token right.width left.width)

-- an operator at its operands, if they are as many as it has
abbrev pub operator_at : Op → ℕ → List Value → Value
operator_at op token (arg ∷ []) = if is_unary op then unary op token arg else faulty token
operator_at op token (left ∷ right ∷ []) = if is_unary op then faulty token else binary op token left right
operator_at op token _ = faulty token
