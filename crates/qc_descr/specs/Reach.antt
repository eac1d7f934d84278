-- How the values of operands are coded, and which values can be.
use Rattle.std.specs.Prelude.{ℕ, ◌+◌, ◌-◌, ◌^◌, ◌<◌, ◌≤◌, List, [], ◌∷◌, nat_le, if◌then◌else◌}
use Rattle.qc_descr.specs.declared.coding.Reach.{Reach}
use Rattle.qc_descr.specs.declared.coding.Reach.TheVariants.{Plain, Relative, Absolute}

-- How far a target is from an address, as a number of so many bits in two's complement. A target before the address is
-- coded as 2 to the bits, less the distance.
abbrev pub relative_value : ℕ → ℕ → ℕ → ℕ
relative_value bits at target = if nat_le at target then target - at else 2 ^ bits - (at - target)

-- The coded value of an operand at an address, which is that of the instruction's first byte: the operand itself, or for
-- an address of relative reach how far it is.
abbrev pub coded_value : Reach → ℕ → ℕ → ℕ
coded_value Plain at operand = operand
coded_value (Relative bits) at target = relative_value bits at target
coded_value (Absolute bits) at target = target

-- What a reach comes to. Distances in two's complement go from -2^(bits - 1) to 2^(bits - 1) - 1, and don't wrap.
abbrev pub IsReached : Reach → ℕ → ℕ → Type 0
IsReached Plain at operand = Unit {0}
IsReached (Relative bits) at target = (target < at + 2 ^ (bits - 1)) × (at ≤ target + 2 ^ (bits - 1))
IsReached (Absolute bits) at target = target < 2 ^ bits

-- the coded values of operands, each by its reach
abbrev pub coded_operands : List Reach → ℕ → List ℕ → List ℕ
coded_operands [] at operands = []
coded_operands (reach ∷ reaches) at [] = []
coded_operands (reach ∷ reaches) at (operand ∷ operands) =
    coded_value reach at operand ∷ coded_operands reaches at operands

-- an address has 1 to 64 bits
abbrev pub HasFewBits : Reach → Type 0
HasFewBits Plain = Unit {0}
HasFewBits (Relative bits) = (1 ≤ bits) × (bits ≤ 64)
HasFewBits (Absolute bits) = (1 ≤ bits) × (bits ≤ 64)
