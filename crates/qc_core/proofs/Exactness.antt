-- What a command reads means one thing, or has one first fault, and not both.
use Rattle.std.proofs.Common.{◌≡◌, ◌≤◌, ℕ, List, refl, sym, ap, subst, ◌∙◌, arith}
use Rattle.qc_descr.specs.declared.description.Description.{Description}
use Rattle.qc_terms.specs.declared.image.Image.{Image}
use Rattle.qc_constants.specs.ConstantProgram.{IsTextOf}
use Rattle.qc_command.specs.declared.words.Command.{Command}
use Rattle.qc_command.specs.declared.words.Command.TheVariants.{Check, Compile, Run}
use Rattle.qc_layout.specs.ImageFaults.{IsFaultyPlace}
use Rattle.qc_machine.specs.InputFile.{IsInput}
use Rattle.qc_core.specs.declared.answer.Fault.TheVariants.{BadImage, BadInput}
use Rattle.qc_core.specs.Answer.{task_of}
use Rattle.qc_core.specs.Compilation.{IsUnformed, SpellsProgram, compile_reading, program_step, tables_reading, tables_step, tables_text, tin32_reading, tin32_step}
use Rattle.qc_core.specs.Inner.LowerLaws.{LowerLaws}
use Rattle.qc_core.specs.Runs.{IsImageFault, IsImageFile, IsInputFault, image_reading, image_step, input_step, run_reading, setting_of}
use Rattle.qc_core.specs.Texts.{description_reading}
use Rattle.qc_core.proofs.Checks.{description_good, description_up_to, exact_description}
use Rattle.qc_core.proofs.Readings.{AreGood, IsExact, IsExactFile, IsExactStep, IsOfFile, ReadsUpTo, exact_file, exact_then, good_then, of_file, up_to_then}

exact_image_file : LowerLaws → IsExactFile 3 IsImageFile (λ d file. IsImageFault d)
exact_image_file laws = record {
  one = λ d bytes a b p q. laws.images.one a b p.0 q.0 (sym p.2 ∙ q.2);
  one_fault = λ d bytes e f p q. p.2 ∙ ap (λ n. BadImage n) (laws.images.bad d bytes p.0 q.0 p.1 q.1) ∙ sym q.2;
  not_both = λ d bytes image f p q. laws.images.none d image q.0 p.0 p.1 (subst (λ bs. IsFaultyPlace d bs q.0) p.2 q.1.faulty);
}

exact_input_file : LowerLaws → IsExactFile 4 (λ (p : Description × Image). IsInput p.0.facts.word) (λ p file. IsInputFault p.0.facts.word)
exact_input_file laws = record {
  one = λ x bytes xs ys p q. laws.inputs.one x.0.facts.word bytes xs ys p q;
  one_fault = λ x bytes e f p q. p.2 ∙ ap (λ n. BadInput n) (laws.inputs.bad x.0.facts.word bytes p.0 q.0 p.1 q.1) ∙ sym q.2;
  not_both = λ x bytes words f p q. laws.inputs.none x.0.facts.word bytes words q.0 p q.1;
}

exact_image : LowerLaws → (names : List (List ℕ)) → IsExact (image_reading names)
exact_image laws names =
    exact_then (description_reading names) (exact_description laws.tokens names) (image_step names)
    (exact_file names 3 IsImageFile (λ d file. IsImageFault d) (λ d image. (d, image)) (exact_image_file laws))

pub exact_run : LowerLaws → (names : List (List ℕ)) → IsExact (run_reading names)
exact_run laws names =
    exact_then (image_reading names) (exact_image laws names) (input_step names)
    (exact_file names 4 (λ (p : Description × Image). IsInput p.0.facts.word) (λ p file. IsInputFault p.0.facts.word) (λ p input. setting_of p.0 p.1 input) (exact_input_file laws))

exact_tin32_step : IsExactStep tin32_step
exact_tin32_step = record {
  one = λ d nothing b c p q. p.1 ∙ sym q.1;
  one_fault = λ d nothing e f p q. p.1 ∙ sym q.1;
  not_both = λ d nothing c f p q. q.0 p.0;
}

exact_tables_file : IsExactFile 3 (λ (d : Description) bytes (tables : Unit {0}). bytes ≡ tables_text) (λ d form bytes. IsUnformed (bytes ≡ tables_text) form)
exact_tables_file = record {
  one = λ d bytes a b p q. refl;
  one_fault = λ d bytes e f p q. p.1 ∙ sym q.1;
  not_both = λ d bytes a f p q. q.0 p;
}

exact_program_file : LowerLaws → IsExactFile 4 (λ (d : Description). IsTextOf) (λ d form bytes. IsUnformed (SpellsProgram bytes) form)
exact_program_file laws = record {
  one = λ d bytes a b p q. laws.program bytes a b p q;
  one_fault = λ d bytes e f p q. p.1 ∙ sym q.1;
  not_both = λ d bytes a f p q. q.0 (a, p);
}

exact_tin32 : LowerLaws → (names : List (List ℕ)) → IsExact (tin32_reading names)
exact_tin32 laws names =
    exact_then (description_reading names) (exact_description laws.tokens names) tin32_step exact_tin32_step

exact_tables : LowerLaws → (names : List (List ℕ)) → IsExact (tables_reading names)
exact_tables laws names =
    exact_then (tin32_reading names) (exact_tin32 laws names) (tables_step names)
    (exact_file names 3 (λ (d : Description) bytes (tables : Unit {0}). bytes ≡ tables_text) (λ d form bytes. IsUnformed (bytes ≡ tables_text) form) (λ d tables. d) exact_tables_file)

pub exact_compile : LowerLaws → (names : List (List ℕ)) → IsExact (compile_reading names)
exact_compile laws names =
    exact_then (tables_reading names) (exact_tables laws names) (program_step names)
    (exact_file names 4 (λ (d : Description). IsTextOf) (λ d form bytes. IsUnformed (SpellsProgram bytes) form) (λ d p. (d, p)) (exact_program_file laws))

-- what a command reads
pub exact_task : LowerLaws → (command : Command) (names : List (List ℕ)) → IsExact (task_of command names).reading
exact_task laws Check names = exact_description laws.tokens names
exact_task laws Compile names = exact_compile laws names
exact_task laws (Run steps) names = exact_run laws names

-- what is said of a file of this number that is too long, of each step
pub image_of_file : (names : List (List ℕ)) → IsOfFile names (image_step names)
image_of_file names = of_file names 3 IsImageFile (λ d file. IsImageFault d) (λ d image. (d, image))

pub input_of_file : (names : List (List ℕ)) → IsOfFile names (input_step names)
input_of_file names =
    of_file names 4 (λ (p : Description × Image). IsInput p.0.facts.word) (λ p file. IsInputFault p.0.facts.word) (λ p input. setting_of p.0 p.1 input)

pub tables_of_file : (names : List (List ℕ)) → IsOfFile names (tables_step names)
tables_of_file names =
    of_file names 3 (λ (d : Description) bytes (tables : Unit {0}). bytes ≡ tables_text) (λ d form bytes. IsUnformed (bytes ≡ tables_text) form) (λ d tables. d)

pub program_of_file : (names : List (List ℕ)) → IsOfFile names (program_step names)
program_of_file names =
    of_file names 4 (λ (d : Description). IsTextOf) (λ d form bytes. IsUnformed (SpellsProgram bytes) form) (λ d p. (d, p))

-- files that mean something are all good
pub image_good : (names : List (List ℕ)) → AreGood (image_reading names)
image_good names = good_then (description_reading names) (image_step names) (description_good names)

pub tin32_good : (names : List (List ℕ)) → AreGood (tin32_reading names)
tin32_good names = good_then (description_reading names) tin32_step (description_good names)

pub tables_good : (names : List (List ℕ)) → AreGood (tables_reading names)
tables_good names = good_then (tin32_reading names) (tables_step names) (tin32_good names)

-- the files that are read up to these numbers
pub image_up_to : (names : List (List ℕ)) (n : ℕ) → 3 ≤ n → ReadsUpTo (image_reading names) n
image_up_to names n within =
    up_to_then (description_reading names) (image_step names) n (description_up_to names n (omega (arith, within))) within

pub tin32_up_to : (names : List (List ℕ)) (n : ℕ) → 2 ≤ n → ReadsUpTo (tin32_reading names) n
tin32_up_to names n within = up_to_then (description_reading names) tin32_step n (description_up_to names n within) within

pub tables_up_to : (names : List (List ℕ)) (n : ℕ) → 3 ≤ n → ReadsUpTo (tables_reading names) n
tables_up_to names n within =
    up_to_then (tin32_reading names) (tables_step names) n (tin32_up_to names n (omega (arith, within))) within
