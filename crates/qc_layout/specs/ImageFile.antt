-- The file of an image.
use Rattle.std.specs.Prelude.{ℕ, ◌<◌, ◌≤◌, ◌≢◌, ◌-◌, ◌^◌, List, [], ◌∷◌, ◌++◌, length, codes, slice_get, Some}
use Rattle.std.specs.Int.{to_le_bytes, w32}
use Rattle.qc_terms.specs.declared.state.Order.{Order}
use Rattle.qc_terms.specs.declared.state.Order.TheVariants.{Little, Big}
use Rattle.qc_terms.specs.declared.image.Image.{Image}
use Rattle.qc_descr.specs.Loading.{data_limit}

-- the byte that stands for a byte order
abbrev pub order_byte : Order → ℕ
order_byte Little = 0
order_byte Big = 1

-- four bytes that mark such a file, the word's width, the byte order, and two zero bytes
abbrev pub mark : ℕ → Order → List ℕ
mark word order = codes "QCI1" ++ word ∷ order_byte order ∷ 0 ∷ 0 ∷ []

-- The mark, the lengths of the code and of the data in four bytes each, the lowest first, and then the code and the
-- data.
unfoldable pub image_bytes : Image → List ℕ
image_bytes image =
    mark image.word image.order
    ++ (to_le_bytes w32 (length image.code)
    ++ (to_le_bytes w32 (length image.initial) ++ (image.code ++ image.initial)))

-- the lengths of the code and of the data each fit into four bytes
pub record HasFile (image : Image) : Type 0 where
  pub code : length image.code < 2 ^ 32
  pub initial : length image.initial < 2 ^ 32

-- the most bytes of code that an image file may have
abbrev pub code_limit : ℕ
code_limit = 1048576

-- what an image keeps that is written: the limits of the code and the data, and no zero byte at the data's end
pub record IsWritable (image : Image) : Type 0 where
  pub code : length image.code ≤ code_limit
  pub initial : length image.initial ≤ data_limit
  pub last : slice_get image.initial (length image.initial - 1) ≢ Some 0
