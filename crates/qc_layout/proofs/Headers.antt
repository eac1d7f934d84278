-- The numbers in a file's header.
use Rattle.std.proofs.Common.{◌≡◌, ◌+◌, length, arith, length-append}
use Rattle.std.proofs.lemmas.Nat.{from_le_bytes-to_le_bytes_4}
use Rattle.qc_terms.specs.declared.image.Image.{Image}
use Rattle.qc_layout.specs.ImageFaults.{code_length, data_length, number_at, wanted_length}
use Rattle.qc_layout.specs.ImageFile.{HasFile, image_bytes}

pub code_written : (image : Image) → HasFile image → code_length (image_bytes image) ≡ length image.code
unfolding image_bytes number_at
code_written image has = from_le_bytes-to_le_bytes_4 (length image.code) has.code

pub data_written : (image : Image) → HasFile image → data_length (image_bytes image) ≡ length image.initial
unfolding image_bytes number_at
data_written image has = from_le_bytes-to_le_bytes_4 (length image.initial) has.initial

pub length_of_file : (image : Image) → length (image_bytes image) ≡ 16 + (length image.code + length image.initial)
unfolding image_bytes
length_of_file image = omega (arith, length-append image.code image.initial)

pub length_written : (image : Image) → HasFile image → length (image_bytes image) ≡ wanted_length (image_bytes image)
length_written image has = omega (arith, length_of_file image, code_written image has, data_written image has)
