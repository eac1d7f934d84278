-- The state in which the run of an image begins.
use Rattle.std.specs.Prelude.{ℕ, ◌≡◌, ◌≤◌, ◌-◌, ◌≢◌, List, ◌++◌, length, map, replicate, min, None, Some, slice_get}
use Rattle.qc_terms.specs.declared.state.State.{State}
use Rattle.qc_terms.specs.declared.image.Image.{Image}
use Rattle.qc_descr.specs.declared.description.Description.{Description}
use Rattle.qc_descr.specs.Description.{widths_of, counts_of}

-- the most bytes of data that an image may have
unfoldable pub data_limit : ℕ
data_limit = 3000000

-- The image is for the machine's word and byte order, its code and its data fit into their regions, the data within the
-- limit too, and its data doesn't end in a zero byte.
pub record FitsMachine (d : Description) (image : Image) : Type 0 where
  pub word : image.word ≡ d.facts.word
  pub order : image.order ≡ d.facts.order
  pub code : length image.code ≤ d.code_end
  pub room : length image.initial ≤ min (d.data_end - d.code_end) data_limit
  pub last : slice_get image.initial (length image.initial - 1) ≢ Some 0

-- the code from 0, the data from the data region's start, and zero bytes elsewhere
abbrev pub loaded_memory : Description → Image → List ℕ
loaded_memory d image =
    image.code ++ (replicate (d.code_end - length image.code) 0
    ++ (image.initial ++ replicate (d.memory - d.code_end - length image.initial) 0))

-- all cells and the program counter are 0, and no word of the input was taken
abbrev pub loaded_state : Description → Image → List ℕ → State
loaded_state d image input = record {
  facts = d.facts;
  widths = widths_of d;
  cells = map (λ count. replicate count 0) (counts_of d);
  memory = loaded_memory d image;
  pc = 0;
  input = input;
  taken = 0;
  ending = None;
}
