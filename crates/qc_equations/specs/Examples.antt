-- Worked examples: for each law a term that it matches with what it gives, and one that it just misses.
use Rattle.std.specs.Prelude.{ℕ, ◌≡◌, List, [], ◌∷◌, Option, None, Some}
use Rattle.qc_words.specs.declared.operator.Op.TheVariants.{Add, Sub, Mul, Divu, And, Or, Xor, Com, Neg, Shl, Shrl, Shra, Eq, Ne, Lt, Ge, Ltu, Geu, Zx, Sx, Slice}
use Rattle.qc_terms.specs.declared.term.Place.TheVariants.{Cell}
use Rattle.qc_terms.specs.Tree.{Tree, Number, Unary, Binary, Register, Immediate}
use Rattle.qc_equations.specs.declared.names.Law.{Law}
use Rattle.qc_equations.specs.declared.names.Law.TheVariants.{AddZero, OrZero, AddZeroDrop, OrZeroDrop, XorZeroDrop, ShlZeroDrop, AndOnesDrop, AddSwap, AndSwap, OrSwap, XorSwap, EqSwap, NeSwap, MulSwap, AddLeft, AddRight, SubNeg, NegSub, NegCom, ComXor, ComSub, ComNeg, XorOrAnd, OrXorAnd, AndOr, OrAnd, SubCom, AddSub, EqLtu, NeLtu, LtLtu, LtuLt, EqNe, NeEq, LtGe, GeLt, LtuGeu, GeuLtu, ZxCom, Split8, Split12, Split16, Part8, Part12, Part16, ZxAnd, AndZx, SxShifts}
use Rattle.qc_equations.specs.Table.{gives}

-- the law, a term, and what the law gives for it
pub record Example : Type 0 where
  pub law : Law
  pub term : Tree
  pub given : Option Tree

abbrev pub turns_into : Law → Tree → Tree → Example
turns_into law t u = record { law = law; term = t; given = Some u }

abbrev pub misses : Law → Tree → Example
misses law t = record { law = law; term = t; given = None }

-- three registers of 32 bits, a bit, and numbers of 32 bits
abbrev pub a : Tree
a = Register (Cell 0 1) 32

abbrev pub b : Tree
b = Register (Cell 0 2) 32

abbrev pub c : Tree
c = Register (Cell 0 3) 32

abbrev pub bit : Tree
bit = Register (Cell 1 0) 1

abbrev pub number : ℕ → Tree
number value = Number value 32

-- literals that come and go
abbrev pub on_literals : List Example
on_literals =
    turns_into AddZero a (Binary Add a (number 0))
    ∷ turns_into AddZero bit (Binary Add bit (Number 0 1))
    ∷ turns_into OrZero a (Binary Or a (number 0))
    ∷ turns_into OrZero bit (Binary Or bit (Number 0 1))
    ∷ turns_into AddZeroDrop (Binary Add a (number 0)) a
    ∷ misses AddZeroDrop (Binary Add a (number 1))
    ∷ turns_into OrZeroDrop (Binary Or a (number 0)) a
    ∷ misses OrZeroDrop (Binary Or (number 0) a)
    ∷ turns_into XorZeroDrop (Binary Xor a (number 0)) a
    ∷ misses XorZeroDrop (Binary Or a (number 0))
    ∷ turns_into ShlZeroDrop (Binary Shl a (number 0)) a
    ∷ misses ShlZeroDrop (Binary Shrl a (number 0))
    ∷ turns_into AndOnesDrop (Binary And a (number 4294967295)) a
    ∷ misses AndOnesDrop (Binary And a (number 2147483647))
    ∷ []

-- operands that change places, and sums of three
abbrev pub on_places : List Example
on_places =
    turns_into AddSwap (Binary Add a b) (Binary Add b a)
    ∷ misses AddSwap (Binary Sub a b)
    ∷ turns_into AndSwap (Binary And a b) (Binary And b a)
    ∷ misses AndSwap (Binary Or a b)
    ∷ turns_into OrSwap (Binary Or a b) (Binary Or b a)
    ∷ misses OrSwap (Binary Xor a b)
    ∷ turns_into XorSwap (Binary Xor a b) (Binary Xor b a)
    ∷ misses XorSwap (Binary And a b)
    ∷ turns_into EqSwap (Binary Eq a b) (Binary Eq b a)
    ∷ misses EqSwap (Binary Ne a b)
    ∷ turns_into NeSwap (Binary Ne a b) (Binary Ne b a)
    ∷ misses NeSwap (Binary Lt a b)
    ∷ turns_into MulSwap (Binary Mul a b) (Binary Mul b a)
    ∷ misses MulSwap (Binary Divu a b)
    ∷ turns_into AddLeft (Binary Add a (Binary Add b c)) (Binary Add (Binary Add a b) c)
    ∷ misses AddLeft (Binary Add (Binary Add a b) c)
    ∷ turns_into AddRight (Binary Add (Binary Add a b) c) (Binary Add a (Binary Add b c))
    ∷ misses AddRight (Binary Add (Binary Sub a b) c)
    ∷ []

-- arithmetic and logic
abbrev pub on_operators : List Example
on_operators =
    turns_into SubNeg (Binary Sub a b) (Binary Add a (Unary Neg b))
    ∷ misses SubNeg (Binary Add a b)
    ∷ turns_into NegSub (Unary Neg a) (Binary Sub (number 0) a)
    ∷ misses NegSub (Unary Com a)
    ∷ turns_into NegCom (Unary Neg a) (Binary Add (Unary Com a) (number 1))
    ∷ misses NegCom (Unary Com a)
    ∷ turns_into ComXor (Unary Com a) (Binary Xor a (number 4294967295))
    ∷ misses ComXor (Unary Neg a)
    ∷ turns_into ComSub (Unary Com a) (Binary Sub (number 4294967295) a)
    ∷ misses ComSub (Unary Neg a)
    ∷ turns_into ComNeg (Unary Com a) (Binary Sub (Unary Neg a) (number 1))
    ∷ misses ComNeg (Unary Neg a)
    ∷ turns_into XorOrAnd (Binary Xor a b) (Binary Sub (Binary Or a b) (Binary And a b))
    ∷ misses XorOrAnd (Binary Or a b)
    ∷ turns_into OrXorAnd (Binary Or a b) (Binary Add (Binary Xor a b) (Binary And a b))
    ∷ misses OrXorAnd (Binary Xor a b)
    ∷ turns_into AndOr (Binary And a b) (Unary Com (Binary Or (Unary Com a) (Unary Com b)))
    ∷ misses AndOr (Binary Or a b)
    ∷ turns_into OrAnd (Binary Or a b) (Unary Com (Binary And (Unary Com a) (Unary Com b)))
    ∷ misses OrAnd (Binary And a b)
    ∷ turns_into SubCom (Binary Sub a b) (Unary Com (Binary Add (Unary Com a) b))
    ∷ misses SubCom (Binary Add a b)
    ∷ turns_into AddSub (Binary Add a b) (Binary Sub a (Unary Neg b))
    ∷ misses AddSub (Binary Sub a b)
    ∷ []

-- comparisons
abbrev pub on_comparisons : List Example
on_comparisons =
    turns_into EqLtu (Binary Eq a b) (Binary Ltu (Binary Xor a b) (number 1))
    ∷ misses EqLtu (Binary Ne a b)
    ∷ turns_into NeLtu (Binary Ne a b) (Binary Ltu (number 0) (Binary Xor a b))
    ∷ misses NeLtu (Binary Eq a b)
    ∷ turns_into LtLtu (Binary Lt a b)
    (Binary Ltu (Binary Xor a (number 2147483648)) (Binary Xor b (number 2147483648)))
    ∷ misses LtLtu (Binary Ltu a b)
    ∷ turns_into LtuLt (Binary Ltu a b)
    (Binary Lt (Binary Xor a (number 2147483648)) (Binary Xor b (number 2147483648)))
    ∷ misses LtuLt (Binary Lt a b)
    ∷ turns_into EqNe (Binary Eq a b) (Unary Com (Binary Ne a b))
    ∷ misses EqNe (Binary Ne a b)
    ∷ turns_into NeEq (Binary Ne a b) (Unary Com (Binary Eq a b))
    ∷ misses NeEq (Binary Eq a b)
    ∷ turns_into LtGe (Binary Lt a b) (Unary Com (Binary Ge a b))
    ∷ misses LtGe (Binary Ge a b)
    ∷ turns_into GeLt (Binary Ge a b) (Unary Com (Binary Lt a b))
    ∷ misses GeLt (Binary Geu a b)
    ∷ turns_into LtuGeu (Binary Ltu a b) (Unary Com (Binary Geu a b))
    ∷ misses LtuGeu (Binary Lt a b)
    ∷ turns_into GeuLtu (Binary Geu a b) (Unary Com (Binary Ltu a b))
    ∷ misses GeuLtu (Binary Ltu a b)
    ∷ []

-- a constant that is no number
abbrev pub symbol : Tree
symbol = Immediate 3 32

-- The constant t of 32 bits in two parts, the low one of so many bits: as a sum of a high part that makes up for the low
-- one's sign, and as two parts side by side.
abbrev pub summed : Tree → (low high : ℕ) → Tree
summed t low high =
    Binary Add
    (Binary Shl
    (Unary (Zx 32) (Unary (Slice low high) (Binary Sub t (Unary (Sx 32) (Unary (Slice 0 low) t)))))
    (number low))
    (Unary (Sx 32) (Unary (Slice 0 low) t))

abbrev pub joined : Tree → (low high : ℕ) → Tree
joined t low high =
    Binary Or
    (Binary Shl (Unary (Zx 32) (Unary (Slice low high) t)) (number low))
    (Unary (Zx 32) (Unary (Slice 0 low) t))

-- constants in parts
abbrev pub on_constants : List Example
on_constants =
    turns_into Split8 (number 4660) (summed (number 4660) 8 24)
    ∷ misses Split8 (Number 200 8)
    ∷ turns_into Split12 symbol (summed symbol 12 20)
    ∷ misses Split12 a
    ∷ turns_into Split16 (Unary Com symbol) (summed (Unary Com symbol) 16 16)
    ∷ misses Split16 (Number 4660 16)
    ∷ turns_into Part8 (number 4660) (joined (number 4660) 8 24)
    ∷ misses Part8 (Number 200 8)
    ∷ turns_into Part12 symbol (joined symbol 12 20)
    ∷ misses Part12 (Binary Add symbol a)
    ∷ turns_into Part16 (number 4660) (joined (number 4660) 16 16)
    ∷ misses Part16 (Number 4660 16)
    ∷ []

-- extensions and slices
abbrev pub on_slices : List Example
on_slices =
    turns_into ZxCom (Unary (Zx 32) (Unary Com bit)) (Binary Xor (Unary (Zx 32) bit) (number 1))
    ∷ misses ZxCom (Unary (Zx 64) (Unary Com a))
    ∷ turns_into ZxAnd (Unary (Zx 32) (Unary (Slice 0 8) a)) (Binary And a (number 255))
    ∷ turns_into ZxAnd (Unary (Zx 32) (Unary (Slice 0 32) a)) (Binary And a (number 4294967295))
    ∷ misses ZxAnd (Unary (Zx 64) (Unary (Slice 0 8) a))
    ∷ misses ZxAnd (Unary (Zx 32) (Unary (Slice 8 8) a))
    ∷ turns_into AndZx (Binary And a (number 255)) (Unary (Zx 32) (Unary (Slice 0 8) a))
    ∷ misses AndZx (Binary And a (number 254))
    ∷ misses AndZx (Binary And a (number 0))
    ∷ misses AndZx (Binary And a (number 4294967295))
    ∷ misses AndZx (Binary And a symbol)
    ∷ turns_into SxShifts (Unary (Sx 32) (Unary (Slice 0 8) a)) (Binary Shra (Binary Shl a (number 24)) (number 24))
    ∷ turns_into SxShifts (Unary (Sx 32) (Unary (Slice 0 32) a)) (Binary Shra (Binary Shl a (number 0)) (number 0))
    ∷ misses SxShifts (Unary (Zx 32) (Unary (Slice 0 8) a))
    ∷ []

-- each law of the examples gives what they say
abbrev pub AllHold : List Example → Type 0
AllHold [] = Unit {0}
AllHold (example ∷ examples) = (gives example.law example.term ≡ example.given) × AllHold examples
