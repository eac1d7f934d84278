-- The names of the laws.
use Rattle.std.specs.Prelude.{ℕ, Bool, ◌||◌, ◌==◌, List, [], ◌∷◌, map, codes, if◌then◌else◌}
use Rattle.std.specs.Str.{bytes_eq}
use Rattle.qc_equations.specs.declared.names.Law.{Law}
use Rattle.qc_equations.specs.declared.names.Law.TheVariants.{AddZero, OrZero, AddZeroDrop, OrZeroDrop, XorZeroDrop, ShlZeroDrop, AndOnesDrop, AddSwap, AndSwap, OrSwap, XorSwap, EqSwap, NeSwap, MulSwap, AddLeft, AddRight, SubNeg, NegSub, NegCom, ComXor, ComSub, ComNeg, XorOrAnd, OrXorAnd, AndOr, OrAnd, SubCom, AddSub, EqLtu, NeLtu, LtLtu, LtuLt, EqNe, NeEq, LtGe, GeLt, LtuGeu, GeuLtu, ZxCom, Split8, Split12, Split16, Part8, Part12, Part16, ZxAnd, AndZx, SxShifts}

abbrev pub name_of : Law → List ℕ
name_of AddZero = codes "add-zero"
name_of OrZero = codes "or-zero"
name_of AddZeroDrop = codes "add-zero-drop"
name_of OrZeroDrop = codes "or-zero-drop"
name_of XorZeroDrop = codes "xor-zero-drop"
name_of ShlZeroDrop = codes "shl-zero-drop"
name_of AndOnesDrop = codes "and-ones-drop"
name_of AddSwap = codes "add-swap"
name_of AndSwap = codes "and-swap"
name_of OrSwap = codes "or-swap"
name_of XorSwap = codes "xor-swap"
name_of EqSwap = codes "eq-swap"
name_of NeSwap = codes "ne-swap"
name_of MulSwap = codes "mul-swap"
name_of AddLeft = codes "add-left"
name_of AddRight = codes "add-right"
name_of SubNeg = codes "sub-neg"
name_of NegSub = codes "neg-sub"
name_of NegCom = codes "neg-com"
name_of ComXor = codes "com-xor"
name_of ComSub = codes "com-sub"
name_of ComNeg = codes "com-neg"
name_of XorOrAnd = codes "xor-or-and"
name_of OrXorAnd = codes "or-xor-and"
name_of AndOr = codes "and-or"
name_of OrAnd = codes "or-and"
name_of SubCom = codes "sub-com"
name_of AddSub = codes "add-sub"
name_of EqLtu = codes "eq-ltu"
name_of NeLtu = codes "ne-ltu"
name_of LtLtu = codes "lt-ltu"
name_of LtuLt = codes "ltu-lt"
name_of EqNe = codes "eq-ne"
name_of NeEq = codes "ne-eq"
name_of LtGe = codes "lt-ge"
name_of GeLt = codes "ge-lt"
name_of LtuGeu = codes "ltu-geu"
name_of GeuLtu = codes "geu-ltu"
name_of ZxCom = codes "zx-com"
name_of Split8 = codes "split8"
name_of Split12 = codes "split12"
name_of Split16 = codes "split16"
name_of Part8 = codes "part8"
name_of Part12 = codes "part12"
name_of Part16 = codes "part16"
name_of ZxAnd = codes "zx-and"
name_of AndZx = codes "and-zx"
name_of SxShifts = codes "sx-shifts"

-- every law, in order
abbrev pub laws : List Law
laws =
    AddZero ∷ OrZero ∷ AddZeroDrop ∷ OrZeroDrop ∷ XorZeroDrop ∷ ShlZeroDrop ∷ AndOnesDrop ∷ AddSwap ∷ AndSwap ∷ OrSwap ∷ XorSwap ∷ EqSwap ∷ NeSwap ∷ MulSwap ∷ AddLeft ∷ AddRight ∷ SubNeg ∷ NegSub ∷ NegCom ∷ ComXor ∷ ComSub ∷ ComNeg ∷ XorOrAnd ∷ OrXorAnd ∷ AndOr ∷ OrAnd ∷ SubCom ∷ AddSub ∷ EqLtu ∷ NeLtu ∷ LtLtu ∷ LtuLt ∷ EqNe ∷ NeEq ∷ LtGe ∷ GeLt ∷ LtuGeu ∷ GeuLtu ∷ ZxCom ∷ Split8 ∷ Split12 ∷ Split16 ∷ Part8 ∷ Part12 ∷ Part16 ∷ ZxAnd ∷ AndZx ∷ SxShifts ∷ []

-- an underscore for a dash
abbrev pub underscored : ℕ → ℕ
underscored byte = if byte == 45 then 95 else byte

-- the name is the law's, with dashes or with underscores
abbrev pub is_named : List ℕ → Law → Bool
is_named name law = bytes_eq (name_of law) name || bytes_eq (map underscored (name_of law)) name
