-- What a command reads: files, one after another, each of which means something or is refused.
use Rattle.std.specs.Prelude.{ℕ, ◌≡◌, ◌<◌, ◌≤◌, ◌⊎◌, List, length}
use Rattle.qc_outside.specs.Files.{Files, file_limit, input_of}
use Rattle.qc_core.specs.declared.answer.Fault.{Fault}
use Rattle.qc_core.specs.declared.answer.Fault.TheVariants.{TooLong}

-- What some files mean, or for which fault they are refused.
pub record Reading (A : Type 0) : Type 1 where
  -- what they mean
  pub Means : Files → A → Type 0
  -- the file of this number is the first that is refused, for this fault
  pub Refused : Files → ℕ → Fault → Type 0
  -- each of them that is read before the one of this number is good
  pub Before : Files → ℕ → Type 0
  -- a fault that one of such files may have, whatever the files are
  pub MayHave : Fault → Type 0
  -- the file of this number is one of them
  pub Reads : ℕ → Type 0

-- before any file is read
abbrev pub no_file : Reading (Unit {0})
no_file = record {
  Means = λ files nothing. Unit {0};
  Refused = λ files file fault. ⊥;
  Before = λ files file. Unit {0};
  MayHave = λ fault. ⊥;
  Reads = λ file. ⊥;
}

-- A step from files that mean an A to files that mean a C. It looks at one thing in the files. Its faults are those of the
-- file of this number.
pub record Step (A C : Type 0) : Type 1 where
  pub file : ℕ
  pub Sight : Type 0
  pub sight : Files → Sight
  pub Gives : A → Sight → C → Type 0
  pub Fails : A → Sight → Fault → Type 0

-- a reading, and then a step
abbrev pub then_step : {A C : Type 0} → Reading A → Step A C → Reading C
then_step {A = A} {C = C} r s =
    let Means : Files → C → Type 0 = λ files c. (a : A) × r.Means files a × s.Gives a (s.sight files) c in
    record {
      Means = Means;
      Refused = λ files file fault. r.Refused files file fault
          ⊎ ((a : A) × (file ≡ s.file) × r.Means files a × s.Fails a (s.sight files) fault);
      Before = λ files file. r.Before files file × (s.file < file → (c : C) × Means files c);
      MayHave = λ fault. r.MayHave fault ⊎ ((a : A) × (x : s.Sight) × s.Fails a x fault);
      Reads = λ file. r.Reads file ⊎ (file ≡ s.file);
    }

-- The bytes of the file of this number are too many, or not too many and have such a fault.
abbrev pub IsFileFault : ℕ → (List ℕ → Fault → Type 0) → List ℕ → Fault → Type 0
IsFileFault file IsFault bytes fault =
    ((file_limit < length bytes) × (fault ≡ TooLong file)) ⊎ ((length bytes ≤ file_limit) × IsFault bytes fault)

-- A further file, of this number. Its bytes mean some b, or have a fault, which may tell the number. What was read before
-- and b together mean what `both` says.
abbrev pub file_step : {A B C : Type 0} → List (List ℕ) → ℕ → (A → List ℕ → B → Type 0)
    → (A → ℕ → List ℕ → Fault → Type 0) → (A → B → C) → Step A C
file_step {B = B} names file IsText IsFault both = record {
  file = file;
  Sight = List ℕ;
  sight = λ files. input_of files names file;
  Gives = λ a bytes c. (b : B) × (length bytes ≤ file_limit) × IsText a bytes b × (c ≡ both a b);
  Fails = λ a. IsFileFault file (IsFault a file);
}

-- A test of what was read, up to the file of this number. A fault may depend on what was read.
abbrev pub test_step : {A : Type 0} → ℕ → (A → Type 0) → (A → Fault → Type 0) → Step A A
test_step file IsGood IsFault = record {
  file = file;
  Sight = Unit {0};
  sight = λ files. tt;
  Gives = λ a nothing c. IsGood a × (c ≡ a);
  Fails = λ a nothing. IsFault a;
}
