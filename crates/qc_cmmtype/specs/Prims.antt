-- The operators of expressions, by their names, with the number of their operands.
use Rattle.std.specs.Prelude.{ℕ, Bool, true, false, nat_eq, if◌then◌else◌, List, [], ◌∷◌, codes, Option}
use Rattle.std.specs.Option.{option_or}
use Rattle.qc_words.specs.declared.operator.Op.TheVariants as op
use Rattle.qc_words.specs.Operators.{is_unary}
use Rattle.qc_names.specs.Tables.{named}
use Rattle.qc_cmmtype.specs.declared.prims.Prim.{Prim}
use Rattle.qc_cmmtype.specs.declared.prims.Prim.TheVariants.{Operation, Comparison, ZeroExtension, SignExtension, LowBits8, LowBits16, LowBits32}

-- the Prims of all machines
unfoldable pub prims : List (List ℕ × Prim)
prims =
    (codes "%add", Operation op.Add) ∷ (codes "%sub", Operation op.Sub) ∷ (codes "%mul", Operation op.Mul)
    ∷ (codes "%divu", Operation op.Divu) ∷ (codes "%modu", Operation op.Modu) ∷ (codes "%quot", Operation op.Quot)
    ∷ (codes "%rem", Operation op.Rem) ∷ (codes "%and", Operation op.And) ∷ (codes "%or", Operation op.Or)
    ∷ (codes "%xor", Operation op.Xor) ∷ (codes "%com", Operation op.Com) ∷ (codes "%neg", Operation op.Neg)
    ∷ (codes "%shl", Operation op.Shl) ∷ (codes "%shrl", Operation op.Shrl) ∷ (codes "%shra", Operation op.Shra)
    ∷ (codes "%eq", Comparison op.Eq) ∷ (codes "%ne", Comparison op.Ne) ∷ (codes "%lt", Comparison op.Lt)
    ∷ (codes "%ge", Comparison op.Ge) ∷ (codes "%ltu", Comparison op.Ltu) ∷ (codes "%geu", Comparison op.Geu)
    ∷ (codes "%lobits8", LowBits8) ∷ (codes "%lobits16", LowBits16) ∷ []

-- Those of machines with words of one width alone: the extensions have the word's width in their names, and the lowest
-- 32 bits are a part of a word of 64 alone.
abbrev pub prims_by_tests : Bool → Bool → Bool → List (List ℕ × Prim)
prims_by_tests true _ _ = (codes "%zx16", ZeroExtension) ∷ (codes "%sx16", SignExtension) ∷ []
prims_by_tests false true _ = (codes "%zx32", ZeroExtension) ∷ (codes "%sx32", SignExtension) ∷ []
prims_by_tests false false true =
    (codes "%zx64", ZeroExtension) ∷ (codes "%sx64", SignExtension) ∷ (codes "%lobits32", LowBits32) ∷ []
prims_by_tests false false false = []

abbrev pub prims_of : ℕ → List (List ℕ × Prim)
prims_of word = prims_by_tests (nat_eq word 16) (nat_eq word 32) (nat_eq word 64)

-- the Prim of a name on a machine with words of this width
unfoldable pub prim_named : ℕ → List ℕ → Option Prim
prim_named word name = option_or (named prims name) (named (prims_of word) name)

-- how many operands a Prim has
abbrev pub operands_of : Prim → ℕ
operands_of (Operation op) = if is_unary op then 1 else 2
operands_of (Comparison op) = 2
operands_of ZeroExtension = 1
operands_of SignExtension = 1
operands_of LowBits8 = 1
operands_of LowBits16 = 1
operands_of LowBits32 = 1
