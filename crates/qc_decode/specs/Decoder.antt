-- Decoders of a description, and what they answer.
use Rattle.std.specs.Prelude.{ℕ, ◌≡◌, ◌≤◌, List, length, take, drop, Option, IfSome, IsNone}
use Rattle.qc_descr.specs.declared.description.Description.{Description}
use Rattle.qc_descr.specs.declared.description.Instance.{Instance}
use Rattle.qc_descr.specs.Step.{EncodesAt, IsUndecodable}
use Rattle.qc_decode.specs.declared.decoder.Decoder.{Decoder}

-- The decoder was made for this description. One keeps nothing of its description yet, so it is one of any. When decoders
-- keep tables, this says that they are the tables of this description: who calls a decoder shows it already.
abbrev pub IsDecoderOf : Description → Decoder → Type 0
IsDecoderOf d decoder = Unit {0}

-- What is answered for a memory and an address: the instance that stands there, with its number of bytes, or nothing where
-- none stands there.
pub record DecodesAt (d : Description) (memory : List ℕ) (at : ℕ) (result : Option (Instance × ℕ)) : Type 0 where
  pub found : IfSome result (λ r. EncodesAt d memory at r.0.instruction r.0.operands.items (take r.1 (drop at memory)))
  pub size : IfSome result (λ r. length (take r.1 (drop at memory)) ≡ r.1)
  pub most : IfSome result (λ r. r.1 ≤ 16)
  pub none : IsNone result → IsUndecodable d memory at
