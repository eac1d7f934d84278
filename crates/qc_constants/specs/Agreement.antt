-- When an image, run on a machine, shows what a program shows.
use Rattle.std.specs.Prelude.{ℕ, ◌≡◌, ◌<◌, ◌+◌, ◌*◌, ◌^◌, List, length, All}
use Rattle.qc_terms.specs.declared.image.Image.{Image}
use Rattle.qc_terms.specs.Observation.{Below}
use Rattle.qc_descr.specs.declared.description.Description.{Description}
use Rattle.qc_descr.specs.Loading.{loaded_state}
use Rattle.qc_descr.specs.Step.{Progress, RunsTo, observation_of}
use Rattle.qc_constants.specs.declared.program.ConstantProgram.{ConstantProgram}
use Rattle.qc_descr.specs.Encoding.{InstanceOf, DecodesInto}
use Rattle.qc_constants.specs.ConstantProgram.{program_shows, statements_of, weight_of}

-- Neither side shows what the other doesn't: what one of them has shown after n steps is below what the other has shown
-- after a number of steps that is stated. `instances` is how many instances the image's code decodes into.
pub record AgreesOn (d : Description) (p : ConstantProgram) (image : Image) (instances : ℕ) (input : List ℕ)
    : Type 0 where
  pub machine_follows : (n : ℕ) → (later : Progress)
      × RunsTo d (loaded_state d image input) ((n + 2) * instances) later
      × Below (program_shows p n) (observation_of later)
  pub program_follows : (n : ℕ) (now : Progress) → RunsTo d (loaded_state d image input) n now →
      Below (observation_of now) (program_shows p ((n + 1) * (weight_of p + 1)))

-- For every input of words of the machine. The code decodes, from address 0 on, into two instances for each statement.
pub record Agrees (d : Description) (p : ConstantProgram) (image : Image) : Type 0 where
  pub instances : List InstanceOf
  pub decodes : DecodesInto d 0 image.code instances
  pub twice : length instances ≡ 2 * length (statements_of p)
  pub runs : (input : List ℕ) → All (λ word. word < 2 ^ d.facts.word) input →
      AgreesOn d p image (length instances) input
