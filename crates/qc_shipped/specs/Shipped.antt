-- The machines that come with the program, by name.
use Rattle.std.specs.Prelude.{ℕ, List, Option, Some, None, if◌then◌else◌, codes}
use Rattle.std.specs.Str.{bytes_eq}
use Rattle.qc_shipped.specs.declared.cc16.TheConstants.{CC16_LRTL, CC16_SLED}
use Rattle.qc_shipped.specs.declared.rv32i.TheConstants.{RV32I_LRTL, RV32I_SLED}
use Rattle.qc_shipped.specs.declared.rv32im.TheConstants.{RV32IM_LRTL, RV32IM_SLED}
use Rattle.qc_shipped.specs.declared.tin32.TheConstants.{TIN32_LRTL, TIN32_SLED}

-- the machine's text and the coding's text of this name
unfoldable pub texts_of : List ℕ → Option (List ℕ × List ℕ)
texts_of name =
    if bytes_eq name (codes "tin32") then Some (TIN32_LRTL.now, TIN32_SLED.now)
    else (if bytes_eq name (codes "rv32im") then Some (RV32IM_LRTL.now, RV32IM_SLED.now)
    else (if bytes_eq name (codes "rv32i") then Some (RV32I_LRTL.now, RV32I_SLED.now)
    else (if bytes_eq name (codes "cc16") then Some (CC16_LRTL.now, CC16_SLED.now)
    else None)))
