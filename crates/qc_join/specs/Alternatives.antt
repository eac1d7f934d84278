-- What patterns come to when they are put together.
use Rattle.std.specs.Prelude.{ℕ, zero, suc, ◌+◌, ◌-◌, ◌/◌, ◌%◌, List, [], ◌∷◌, ◌++◌, length, map, replicate, count_by}
use Rattle.std.specs.Prelude.{Bool, true, false, ◌&&◌, nat_eq, nat_lt, nat_le, if◌then◌else◌, Option, None, Some}
use Rattle.qc_descr.specs.declared.coding.Bit.{Bit}
use Rattle.qc_descr.specs.declared.coding.Bit.TheVariants.{Fixed, Piece}
use Rattle.qc_descr.specs.declared.sketch.Claim.{Claim}
use Rattle.qc_descr.specs.declared.sketch.Claim.TheVariants.{Free, Once}
use Rattle.qc_descr.specs.declared.sketch.Claim.TheVariants as claim
use Rattle.qc_descr.specs.Coding.{is_piece}
use Rattle.qc_descr.specs.Valid.{is_token}
use Rattle.qc_join.specs.declared.expanded.Expanded.{Expanded}
use Rattle.qc_join.specs.declared.expanded.Expanded.TheVariants.{Several, Unfit, Fit}
use Rattle.qc_join.specs.declared.expanded.FieldPlace.{FieldPlace}
use Rattle.qc_join.specs.declared.expanded.Joint.{Joint}
use Rattle.qc_join.specs.declared.expanded.Joint.TheVariants.{AtOnce, InTurn}
use Rattle.qc_join.specs.declared.expanded.TokenUse.{TokenUse}

-- One more thing that stands at a bit where something does. A bit of an operand is listed twice at most, which tells that
-- it stands more than once. A constant bit is listed no more: that several claims are there tells enough.
abbrev pub with_bit : List Bit → Bit → List Bit
with_bit bits (Fixed one) = bits
with_bit bits (Piece operand place) =
    if nat_lt (count_by (is_piece operand place) bits) 2 then bits ++ Piece operand place ∷ [] else bits

abbrev pub with_all : List Bit → List Bit → List Bit
with_all bits [] = bits
with_all bits (bit ∷ more) = with_all (with_bit bits bit) more

-- two claims on one bit
abbrev pub both_claim : Claim → Claim → Claim
both_claim Free d = d
both_claim (Once bit) Free = Once bit
both_claim (Once bit) (Once other) = claim.Several (with_all (bit ∷ []) (other ∷ []))
both_claim (Once bit) (claim.Several more) = claim.Several (with_all (bit ∷ []) more)
both_claim (claim.Several bits) Free = claim.Several bits
both_claim (claim.Several bits) (Once other) = claim.Several (with_all bits (other ∷ []))
both_claim (claim.Several bits) (claim.Several more) = claim.Several (with_all bits more)

-- two lists of claims on the same bits
abbrev pub all_claims : List Claim → List Claim → List Claim
all_claims [] ds = ds
all_claims (c ∷ cs) [] = c ∷ cs
all_claims (c ∷ cs) (d ∷ ds) = both_claim c d ∷ all_claims cs ds

-- two lists of tokens are the same by their declarations
abbrev pub same_tokens : List TokenUse → List TokenUse → Bool
same_tokens [] [] = true
same_tokens (t ∷ ts) (u ∷ us) = nat_eq t.declaration u.declaration && same_tokens ts us
same_tokens [] (u ∷ us) = false
same_tokens (t ∷ ts) [] = false

-- Two patterns at once: they fit where they have the same tokens. Where one has several alternatives both have.
unfoldable pub conjoined : Expanded → Expanded → Expanded
conjoined Several e = Several
conjoined Unfit Several = Several
conjoined Unfit Unfit = Unfit
conjoined Unfit (Fit us ds) = Unfit
conjoined (Fit ts cs) Several = Several
conjoined (Fit ts cs) Unfit = Unfit
conjoined (Fit ts cs) (Fit us ds) = if same_tokens ts us then Fit ts (all_claims cs ds) else Unfit

-- Two patterns one after the other: they fit where they have 4 tokens at most.
unfoldable pub sequenced : Expanded → Expanded → Expanded
sequenced Several e = Several
sequenced Unfit Several = Several
sequenced Unfit Unfit = Unfit
sequenced Unfit (Fit us ds) = Unfit
sequenced (Fit ts cs) Several = Several
sequenced (Fit ts cs) Unfit = Unfit
sequenced (Fit ts cs) (Fit us ds) =
    if nat_le (length ts + length us) 4 then Fit (ts ++ us) (cs ++ ds) else Unfit

-- two patterns that are put together
abbrev pub joined : Joint → Expanded → Expanded → Expanded
joined AtOnce e f = conjoined e f
joined InTurn e f = sequenced e f

-- a pattern with all others after it
abbrev pub joined_with : Joint → Expanded → List Expanded → Expanded
joined_with how e [] = e
joined_with how e (f ∷ fs) = joined_with how (joined how e f) fs

-- No pattern at all doesn't stand in a text.
abbrev pub all_joined : Joint → List Expanded → Expanded
all_joined how [] = Unfit
all_joined how (e ∷ es) = joined_with how e es

-- A choice of one part is that part. More are several alternatives, of which none is looked at.
abbrev pub one_of : List Expanded → Expanded
one_of [] = Unfit
one_of (e ∷ []) = e
one_of (e ∷ f ∷ es) = Several

-- the lowest bits, so many, of a number, the lowest one first
unfoldable pub constant_bits : ℕ → ℕ → List Bit
constant_bits zero value = []
constant_bits (suc n) value = Fixed (nat_eq (value % 2) 1) ∷ constant_bits n (value / 2)

-- so many bits of an operand from this one on
unfoldable pub piece_bits : ℕ → ℕ → ℕ → List Bit
piece_bits operand from zero = []
piece_bits operand from (suc n) = Piece operand from ∷ piece_bits operand (suc from) n

-- the field lies in a token of a size that tokens may have
abbrev pub is_field : FieldPlace → Bool
is_field f = is_token f.bits && nat_le f.low f.high && nat_lt f.high f.bits

abbrev pub field_size : FieldPlace → ℕ
field_size f = f.high - f.low + 1

-- a token's claims where these bits stand in a field of their number
abbrev pub claims_in : FieldPlace → List Bit → List Claim
claims_in f bits = replicate f.low Free ++ (map Once bits ++ replicate (f.bits - (f.high + 1)) Free)

abbrev pub token_of_field : FieldPlace → TokenUse
token_of_field f = record { declaration = f.declaration; bits = f.bits }

-- a field with what stands in it, if that fits
abbrev pub field_with : FieldPlace → Option (List Bit) → Expanded
field_with f None = Unfit
field_with f (Some bits) = Fit (token_of_field f ∷ []) (claims_in f bits)
