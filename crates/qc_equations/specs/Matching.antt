-- Which terms have the form of a law's left side, and what their parts are.
use Rattle.std.specs.Prelude.{ℕ, Bool, true, false, ◌&&◌, nat_eq, nat_lt, nat_le, Option, None, Some, count_ones, if◌then◌else◌}
use Rattle.qc_words.specs.declared.operator.Op.{Op}
use Rattle.qc_words.specs.declared.operator.Op.TheVariants.{Add, Sub, Mul, Divu, Modu, Quot, Rem, And, Or, Xor, Com, Neg, Shl, Shrl, Shra, Eq, Ne, Lt, Ge, Ltu, Geu, Zx, Sx, Slice}
use Rattle.qc_terms.specs.Tree.{Tree, Number, Unary, Binary, Register, Immediate, Load, NextInput, AddressAfter, width_of}
use Rattle.qc_equations.specs.declared.form.Left.{Left}
use Rattle.qc_equations.specs.declared.form.Left.TheVariants.{Whole, Constant, OneOperand, TwoOperands, WithLiteral, LeftNested, RightNested, WideComplement, LowBits, Masked}
use Rattle.qc_equations.specs.declared.form.Literal.{Literal}
use Rattle.qc_equations.specs.declared.form.Literal.TheVariants.{LowMask}
use Rattle.qc_equations.specs.declared.form.Operator.{Operator}
use Rattle.qc_equations.specs.Pattern.{Parts, literal_value, literal_width, op_of}

-- a term is constant if it reads no register, no memory, no input and not the address after the instruction
abbrev pub is_constant : Tree → Bool
is_constant (Number value width) = true
is_constant (Unary op arg) = is_constant arg
is_constant (Binary op left right) = is_constant left && is_constant right
is_constant (Register place width) = false
is_constant (Immediate operand width) = true
is_constant (Load width address) = false
is_constant (NextInput width) = false
is_constant (AddressAfter width) = false

abbrev pub same_op : Op → Op → Bool
same_op Add Add = true
same_op Sub Sub = true
same_op Mul Mul = true
same_op Divu Divu = true
same_op Modu Modu = true
same_op Quot Quot = true
same_op Rem Rem = true
same_op And And = true
same_op Or Or = true
same_op Xor Xor = true
same_op Com Com = true
same_op Neg Neg = true
same_op Shl Shl = true
same_op Shrl Shrl = true
same_op Shra Shra = true
same_op Eq Eq = true
same_op Ne Ne = true
same_op Lt Lt = true
same_op Ge Ge = true
same_op Ltu Ltu = true
same_op Geu Geu = true
same_op (Zx to) (Zx other) = nat_eq to other
same_op (Sx to) (Sx other) = nat_eq to other
same_op (Slice low to) (Slice start other) = nat_eq low start && nat_eq to other
same_op _ _ = false

-- a width that words have
abbrev pub is_width : ℕ → Bool
is_width width = nat_le 1 width && nat_le width 64

-- these parts, if the test holds and the first part is a word
abbrev pub parts_if : Bool → Parts → Option Parts
parts_if test parts = if is_width (width_of parts.a) && test then Some parts else None

-- one part, and a size
abbrev pub part : Tree → ℕ → Parts
part a size = record { a = a; b = a; c = a; size = size }

-- the number and the width of a literal beside a part
abbrev pub is_literal : Literal → Parts → (value width : ℕ) → Bool
is_literal literal parts value width =
    nat_eq value (literal_value literal (width_of parts.a) parts.size)
    && nat_eq width (literal_width literal (width_of parts.a) parts.size)

-- op(a)
abbrev pub one_operand : Operator → Tree → Option Parts
one_operand operator (Unary op a) = parts_if (same_op op (op_of operator (width_of a) 0)) (part a 0)
one_operand operator _ = None

-- op(a, b)
abbrev pub two_operands : Op → Tree → Option Parts
two_operands op (Binary found a b) = parts_if (same_op found op) (record { a = a; b = b; c = a; size = 0 })
two_operands op _ = None

-- op(a, literal)
abbrev pub with_literal : Op → Literal → Tree → Option Parts
with_literal op literal (Binary found a (Number value width)) =
    parts_if (same_op found op && is_literal literal (part a 0) value width) (part a 0)
with_literal op literal _ = None

-- op(op(a, b), c)
abbrev pub left_nested : Op → Tree → Option Parts
left_nested op (Binary outer (Binary inner a b) c) =
    parts_if (same_op outer op && same_op inner op) (record { a = a; b = b; c = c; size = 0 })
left_nested op _ = None

-- op(a, op(b, c))
abbrev pub right_nested : Op → Tree → Option Parts
right_nested op (Binary outer a (Binary inner b c)) =
    parts_if (same_op outer op && same_op inner op) (record { a = a; b = b; c = c; size = 0 })
right_nested op _ = None

-- zx size (com(a)), a of one bit
abbrev pub wide_complement : Tree → Option Parts
wide_complement (Unary (Zx to) (Unary Com a)) = parts_if (nat_eq (width_of a) 1) (part a to)
wide_complement _ = None

-- the extension of slice 0 size (a) to the width of a
abbrev pub low_bits : Operator → Tree → Option Parts
low_bits extension (Unary op (Unary (Slice low size) a)) =
    parts_if (same_op op (op_of extension (width_of a) size) && (nat_eq low 0 && nat_le 1 size)) (part a size)
low_bits extension _ = None

-- and(a, 2 ^ size - 1), where the size is below the width of a and not 0: a mask has so many ones as its size says
abbrev pub masked : Tree → Option Parts
masked (Binary And a (Number value width)) =
    let size = count_ones value in
    parts_if (nat_le 1 size && (nat_lt size (width_of a) && is_literal LowMask (part a size) value width)) (part a size)
masked _ = None

-- the parts of a term that has the form
abbrev pub parts_of : Left → Tree → Option Parts
parts_of Whole t = parts_if true (part t 0)
parts_of (Constant size) t = parts_if (is_constant t && nat_lt size (width_of t)) (part t size)
parts_of (OneOperand operator) t = one_operand operator t
parts_of (TwoOperands op) t = two_operands op t
parts_of (WithLiteral op literal) t = with_literal op literal t
parts_of (LeftNested op) t = left_nested op t
parts_of (RightNested op) t = right_nested op t
parts_of WideComplement t = wide_complement t
parts_of (LowBits extension) t = low_bits extension t
parts_of Masked t = masked t
