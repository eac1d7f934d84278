-- What a cache of decoded instances keeps.
use Rattle.std.specs.Prelude.{ℕ, ◌≡◌, ◌+◌, ◌%◌, ◌^◌, ◌++◌, List, All, IfSome, drop, length}
use Rattle.qc_descr.specs.declared.description.Description.{Description}
use Rattle.qc_descr.specs.Description.{context_of_description}
use Rattle.qc_descr.specs.Encoding.{Encodes}
use Rattle.qc_flat.specs.Flat.{IsFlatListOf}
use Rattle.qc_machine.specs.declared.cache.DecodeCache.{DecodeCache}
use Rattle.qc_machine.specs.declared.cache.Kept.{Kept}

-- The instance encodes to the bytes at the address; the address after it is right, and the flat effects are those of its
-- instruction under its operands.
pub record IsKeptOf (d : Description) (kept : Kept) : Type 0 where
  pub encodes : Encodes d kept.at kept.instance.instruction kept.instance.operands.items kept.bytes.items
  pub after : kept.after ≡ (kept.at + length kept.bytes.items) % 2 ^ d.facts.word
  pub flat : IfSome kept.flat (λ flat. IsFlatListOf (context_of_description d) d.facts.zero encodes.instruction.rtl
      kept.instance.operands.items kept.after flat.items)

-- each instance in the cache is one of the description
abbrev pub IsCacheOf : Description → DecodeCache → Type 0
IsCacheOf d cache = All (IsKeptOf d) cache.instances.items

-- the instance is one of the description for this address, and its bytes stand there in the memory
pub record StandsAt (d : Description) (memory : List ℕ) (at : ℕ) (kept : Kept) : Type 0 where
  pub is : IsKeptOf d kept
  pub there : kept.at ≡ at
  pub more : List ℕ
  pub prefix : drop at memory ≡ kept.bytes.items ++ more
