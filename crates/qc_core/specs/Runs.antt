-- What `run` reads, and what it puts.
use Rattle.std.specs.Prelude.{ℕ, ◌≡◌, ◌<◌, ◌^◌, List, All}
use Rattle.qc_terms.specs.declared.image.Image.{Image}
use Rattle.qc_terms.specs.declared.state.State.{State}
use Rattle.qc_terms.specs.Observation.{Observation}
use Rattle.qc_terms.specs.Process.{Process, ShowsIn}
use Rattle.qc_descr.specs.declared.description.Description.{Description}
use Rattle.qc_descr.specs.Loading.{FitsMachine, loaded_state}
use Rattle.qc_descr.specs.Step.{Steps}
use Rattle.qc_descr.specs.Valid.{IsValid}
use Rattle.qc_layout.specs.ImageFile.{HasFile, image_bytes}
use Rattle.qc_layout.specs.ImageFaults.{IsBadImage}
use Rattle.qc_machine.specs.InputFile.{IsInput, IsBadInput}
use Rattle.qc_outside.specs.Files.{input_of}
use Rattle.qc_core.specs.declared.answer.Fault.{Fault}
use Rattle.qc_core.specs.declared.answer.Fault.TheVariants.{BadImage, BadInput}
use Rattle.qc_core.specs.Lines.{run_lines}
use Rattle.qc_core.specs.CommandFiles.{Reading, Step, file_step, then_step}
use Rattle.qc_core.specs.Task.{Task, lines_alone}
use Rattle.qc_core.specs.Texts.{description_reading}

-- a description, an image for its machine, and the words of an input
pub record Setting : Type 0 where
  pub description : Description
  pub image : Image
  pub input : List ℕ

abbrev pub setting_of : Description → Image → List ℕ → Setting
setting_of d image input = record { description = d; image = image; input = input }

-- the bytes are the file of an image that fits the machine
abbrev pub IsImageFile : Description → List ℕ → Image → Type 0
IsImageFile d bytes image = HasFile image × FitsMachine d image × (bytes ≡ image_bytes image)

-- this byte is the first that is wrong in them
abbrev pub IsImageFault : Description → List ℕ → Fault → Type 0
IsImageFault d bytes fault = (at : ℕ) × IsBadImage d bytes at × (fault ≡ BadImage at)

-- this byte is the first that is wrong in the bytes of an input
abbrev pub IsInputFault : ℕ → List ℕ → Fault → Type 0
IsInputFault word bytes fault = (at : ℕ) × IsBadInput word bytes at × (fault ≡ BadInput at)

-- after the description file 3 is an image
abbrev pub image_step : List (List ℕ) → Step Description (Description × Image)
image_step names = file_step names 3 IsImageFile (λ d file. IsImageFault d) (λ d image. (d, image))

abbrev pub image_reading : List (List ℕ) → Reading (Description × Image)
image_reading names = then_step (description_reading names) (image_step names)

-- and file 4 an input
abbrev pub input_step : List (List ℕ) → Step (Description × Image) Setting
input_step names =
    file_step names 4 (λ p. IsInput p.0.facts.word) (λ p file. IsInputFault p.0.facts.word)
    (λ p input. setting_of p.0 p.1 input)

abbrev pub run_reading : List (List ℕ) → Reading Setting
run_reading names = then_step (image_reading names) (input_step names)

-- the machine of a description as a process
abbrev pub machine_process : Description → Process
machine_process d = record {
  State = State;
  Step = λ s t event. Steps d s (record { state = t; event = event });
  ending = λ s. s.ending;
}

-- In so many steps the machine of a valid description, which runs an image that fits on an input of its words, shows this.
pub record Shows (s : Setting) (steps : ℕ) (seen : Observation) : Type 0 where
  pub valid : IsValid s.description
  pub fits : FitsMachine s.description s.image
  pub words : All (λ word. word < 2 ^ s.description.facts.word) s.input
  pub shows : ShowsIn (machine_process s.description) (loaded_state s.description s.image s.input) steps seen

-- `run` reads these files, and puts the lines of what the machine shows.
abbrev pub run_task : List (List ℕ) → ℕ → Task
run_task names steps = record {
  Input = Setting;
  reading = run_reading names;
  MayRefuse = λ s fault. ⊥;
  Makes = λ s product. (seen : Observation) × Shows s steps seen × (product ≡ lines_alone (run_lines seen));
  AreBytes = λ files. All (λ byte. byte < 256) (input_of files names 3);
}
