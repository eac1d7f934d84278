-- The code of a program of constants.
use Rattle.std.specs.Prelude.{ℕ, List, [], ◌∷◌, ◌++◌}
use Rattle.std.specs.List.{flat_map}
use Rattle.qc_terms.specs.declared.image.Image.{Image}
use Rattle.qc_descr.specs.declared.description.Description.{Description}
use Rattle.qc_descr.specs.Encoding.{InstanceOf, code_bytes}
use Rattle.qc_constants.specs.declared.program.ConstantProgram.{ConstantProgram}

-- const into cell 0 of the first space, and op_out and op_halt of that cell
abbrev pub load_constant : ℕ → InstanceOf
load_constant word = record { number = 1; operands = 0 ∷ word ∷ [] }

abbrev pub put_cell : InstanceOf
put_cell = record { number = 37; operands = 0 ∷ [] }

abbrev pub halt_with_cell : InstanceOf
halt_with_cell = record { number = 38; operands = 0 ∷ [] }

-- each output loads its constant and puts it out, and the end loads its constant and halts with it
abbrev pub output_of : ℕ → List InstanceOf
output_of word = load_constant word ∷ put_cell ∷ []

abbrev pub return_of : ℕ → List InstanceOf
return_of word = load_constant word ∷ halt_with_cell ∷ []

abbrev pub instructions_for : ConstantProgram → List InstanceOf
instructions_for p = flat_map output_of p.outputs ++ return_of p.returned

-- the image of a program: the bytes of its instructions one after another from address 0, and no data
abbrev pub image_of : Description → ConstantProgram → Image
image_of d p = record {
  word = d.facts.word;
  order = d.facts.order;
  code = code_bytes d 0 (instructions_for p);
  initial = [];
}
