-- What the two texts of a description come to, which are the files 1 and 2 of a command: that of a machine, and that of
-- its coding.
use Rattle.std.specs.Prelude.{ℕ, ◌≡◌, ◌⊎◌, List, [], ◌∷◌, None, Some, Result, Ok, Err}
use Rattle.qc_widths.specs.TextFaults.{faults_of}
use Rattle.qc_grammar.specs.declared.answers.ReadTextFault.{ReadTextFault}
use Rattle.qc_grammar.specs.declared.answers.ReadTextFault.TheVariants as text
use Rattle.qc_grammar.specs.TextAnswer.{IsTextAnswer}
use Rattle.qc_lrtl.specs.declared.syntax.RawMachine.{RawMachine}
use Rattle.qc_lrtl.specs.LambdaRtl as lrtl
use Rattle.qc_sled.specs.declared.syntax.RawCoding.{RawCoding}
use Rattle.qc_sled.specs.Sled as sled
use Rattle.qc_descr.specs.declared.description.Description.{Description}
use Rattle.qc_descr.specs.Valid.{IsValid}
use Rattle.qc_facts.specs.declared.faults.WidthFault.{WidthFault}
use Rattle.qc_widths.specs.declared.machine.Machine.{Machine}
use Rattle.qc_facts.specs.Faults.{reported}
use Rattle.qc_widths.specs.Machine.{machine_of}
use Rattle.qc_join.specs.declared.faults.JoinEnd.TheVariants as joined
use Rattle.qc_join.specs.declared.faults.JoinFault.{JoinFault}
use Rattle.qc_join.specs.Joining.{Joins}
use Rattle.qc_core.specs.declared.answer.Fault.{Fault}
use Rattle.qc_core.specs.declared.answer.Fault.TheVariants.{BadByte, Syntax, TooDeep, Names, Join}
use Rattle.qc_core.specs.Lines.{checked_line}
use Rattle.qc_core.specs.CommandFiles.{Reading, Step, file_step, no_file, then_step}
use Rattle.qc_core.specs.Task.{Task, lines_alone}

-- the answer to the bytes of a machine's text is this tree or fault
abbrev pub IsMachineText : List ℕ → Result RawMachine ReadTextFault → Type 0
IsMachineText bytes answer = IsTextAnswer lrtl.lambda_rtl lrtl.machine lrtl.vocabulary bytes answer

-- the answer to the bytes of a coding's text is this tree or fault
abbrev pub IsCodingText : List ℕ → Result RawCoding ReadTextFault → Type 0
IsCodingText bytes answer = IsTextAnswer sled.sled sled.coding sled.vocabulary bytes answer

-- the bytes are the text of a machine in which nothing is wrong
pub record MeansMachine (bytes : List ℕ) (machine : Machine) : Type 0 where
  pub raw : RawMachine
  pub text : IsMachineText bytes (Ok raw)
  pub faultless : reported (faults_of raw) ≡ None
  pub is : machine ≡ machine_of raw

-- the bytes are the text of a coding that makes this description of the machine
pub record MeansDescription (machine : Machine) (bytes : List ℕ) (d : Description) : Type 0 where
  pub raw : RawCoding
  pub text : IsCodingText bytes (Ok raw)
  pub joins : Joins machine raw (Ok d)

-- the fault of the file of this number, which is no text of its grammar
abbrev pub fault_of_text : ℕ → ReadTextFault → Fault
fault_of_text file (text.BadByte at) = BadByte file at
fault_of_text file (text.Syntax token) = Syntax file token
fault_of_text file (text.TooDeep token) = TooDeep file token

-- The file of this number, with these answers as a text of its grammar, is none.
pub record IsTextFault {A : Type 0} (IsAnswer : Result A ReadTextFault → Type 0) (file : ℕ) (fault : Fault) : Type 0 where
  pub cause : ReadTextFault
  pub answer : IsAnswer (Err cause)
  pub is : fault ≡ fault_of_text file cause

-- Names or widths are wrong in the text of a machine.
pub record IsNamesFault (bytes : List ℕ) (fault : Fault) : Type 0 where
  pub raw : RawMachine
  pub text : IsMachineText bytes (Ok raw)
  pub cause : WidthFault
  pub found : reported (faults_of raw) ≡ Some cause
  pub is : fault ≡ Names cause

-- The text of a coding makes no description of the machine.
pub record IsJoinFault (machine : Machine) (bytes : List ℕ) (fault : Fault) : Type 0 where
  pub raw : RawCoding
  pub text : IsCodingText bytes (Ok raw)
  pub cause : JoinFault
  pub joins : Joins machine raw (Err (joined.Fault cause))
  pub is : fault ≡ Join cause

-- a fault of a machine's text in the file of this number
abbrev pub IsMachineFault : ℕ → List ℕ → Fault → Type 0
IsMachineFault file bytes fault = IsTextFault (IsMachineText bytes) file fault ⊎ IsNamesFault bytes fault

-- a fault of a coding's text in the file of this number
abbrev pub IsCodingFault : Machine → ℕ → List ℕ → Fault → Type 0
IsCodingFault machine file bytes fault =
    IsTextFault (IsCodingText bytes) file fault ⊎ IsJoinFault machine bytes fault

-- file 1 is a machine's text
abbrev pub machine_step : List (List ℕ) → Step (Unit {0}) Machine
machine_step names =
    file_step names 1 (λ nothing. MeansMachine) (λ nothing. IsMachineFault) (λ nothing machine. machine)

abbrev pub machine_reading : List (List ℕ) → Reading Machine
machine_reading names = then_step no_file (machine_step names)

-- and file 2 that of its coding
abbrev pub coding_step : List (List ℕ) → Step Machine Description
coding_step names = file_step names 2 MeansDescription IsCodingFault (λ machine d. d)

abbrev pub description_reading : List (List ℕ) → Reading Description
description_reading names = then_step (machine_reading names) (coding_step names)

-- `check` reads them, and puts a line.
abbrev pub check_task : List (List ℕ) → Task
check_task names = record {
  Input = Description;
  reading = description_reading names;
  MayRefuse = λ d fault. ⊥;
  Makes = λ d product. IsValid d × (product ≡ lines_alone (checked_line d ∷ []));
  AreBytes = λ files. Unit {0};
}
