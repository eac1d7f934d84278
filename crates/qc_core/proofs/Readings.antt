-- What holds of readings: what files mean is one thing, they have one first fault, and not both; and how functions read.
use Rattle.std.proofs.Common.{◌≡◌, ◌<◌, ◌≤◌, ◌⊎◌, ℕ, List, length, refl, sym, ap, subst, ◌∙◌, arith, inl, inr, ⊎_elim}
use Rattle.std.proofs.lemmas.Option.{IfSome_then}
use Rattle.std.specs.Prelude.{Option, None, Some, IfSome, replicate, ◌+◌, Result, Ok, Err, IfErr, IfOk}
use Rattle.std.proofs.lemmas.Bool.{cases_lt}
use Rattle.std.proofs.lemmas.List.{length-replicate}
use Rattle.qc_outside.specs.Files.{Files, file_limit, input_of, name_of}
use Rattle.qc_core.specs.declared.answer.Fault.{Fault}
use Rattle.qc_core.specs.declared.answer.Fault.TheVariants.{TooLong}
use Rattle.qc_core.specs.declared.answer.Status.{Status}
use Rattle.qc_core.specs.declared.answer.Status.TheVariants.{Refused, ReadFault, WriteFault, NoMemory}
use Rattle.qc_core.specs.Inner.Reading.{ReadsBytes, ReadsFiles, StopsFor, StopsReading, StopsToRead}
use Rattle.qc_core.specs.Leaves.{KeepsShelfFaults}
use Rattle.qc_core.specs.CommandFiles.{IsFileFault, Reading, Step, file_step, no_file, then_step}

-- What a step gives is one thing, it has one fault, and not both.
pub record IsExactStep {A C : Type 0} (s : Step A C) : Type 0 where
  pub one : (a : A) (x : s.Sight) (b c : C) → s.Gives a x b → s.Gives a x c → b ≡ c
  pub one_fault : (a : A) (x : s.Sight) (e f : Fault) → s.Fails a x e → s.Fails a x f → e ≡ f
  pub not_both : (a : A) (x : s.Sight) (c : C) (f : Fault) → s.Gives a x c → s.Fails a x f → ⊥

-- Files mean one thing, they have one first fault, and not both. A file that is read after good ones is not after that of
-- the fault.
pub record IsExact {A : Type 0} (r : Reading A) : Type 0 where
  pub one : (files : Files) (a b : A) → r.Means files a → r.Means files b → a ≡ b
  pub one_fault : (files : Files) (m n : ℕ) (e f : Fault) → r.Refused files m e → r.Refused files n f → (m ≡ n) × (e ≡ f)
  pub not_both : (files : Files) (a : A) (n : ℕ) (f : Fault) → r.Means files a → r.Refused files n f → ⊥
  pub in_order : (files : Files) (n : ℕ) (f : Fault) (file : ℕ) → r.Before files file → r.Refused files n f → file ≤ n

pub exact_no_file : IsExact no_file
exact_no_file = record {
  one = λ files a b p q. refl;
  one_fault = λ files m n e f p q. absurd p;
  not_both = λ files a n f p q. q;
  in_order = λ files n f file before p. absurd p;
}

module _ {A C : Type 0} (r : Reading A) (exact : IsExact r) (s : Step A C) (step : IsExactStep s) where
  one_then : (files : Files) (c d : C) → (then_step r s).Means files c → (then_step r s).Means files d → c ≡ d
  one_then files c d (a, means, gives) (b, means_too, gives_too) =
      let same : b ≡ a = exact.one files b a means_too means in
      step.one a (s.sight files) c d gives (subst (λ x. s.Gives x (s.sight files) d) same gives_too)

  one_fault_then : (files : Files) (m n : ℕ) (e f : Fault) → (then_step r s).Refused files m e → (then_step r s).Refused files n f → (m ≡ n) × (e ≡ f)
  one_fault_then files m n e f (inl p) (inl q) = exact.one_fault files m n e f p q
  one_fault_then files m n e f (inl p) (inr (a, at, means, q)) = absurd (exact.not_both files a m e means p)
  one_fault_then files m n e f (inr (a, at, means, p)) (inl q) = absurd (exact.not_both files a n f means q)
  one_fault_then files m n e f (inr (a, at, means, p)) (inr (b, there, means_too, q)) =
      let same : b ≡ a = exact.one files b a means_too means in
      (at ∙ sym there, step.one_fault a (s.sight files) e f p (subst (λ x. s.Fails x (s.sight files) f) same q))

  not_both_then : (files : Files) (c : C) (n : ℕ) (f : Fault) → (then_step r s).Means files c → (then_step r s).Refused files n f → ⊥
  not_both_then files c n f (a, means, gives) (inl p) = exact.not_both files a n f means p
  not_both_then files c n f (a, means, gives) (inr (b, at, means_too, p)) =
      let same : b ≡ a = exact.one files b a means_too means in
      step.not_both a (s.sight files) c f gives (subst (λ x. s.Fails x (s.sight files) f) same p)

  in_order_then : (files : Files) (n : ℕ) (f : Fault) (k : ℕ) → (then_step r s).Before files k → (then_step r s).Refused files n f → k ≤ n
  in_order_then files n f k before (inl p) = exact.in_order files n f k before.0 p
  in_order_then files n f k before (inr (a, at, means, p)) =
      ⊎_elim
      (λ less. absurd (not_both_then files (before.1 less).0 n f (before.1 less).1 (inr (a, at, means, p))))
      (λ within. omega (arith, at, within))
      (cases_lt s.file k)

  pub exact_then : IsExact (then_step r s)
  exact_then = record {
    one = one_then;
    one_fault = one_fault_then;
    not_both = not_both_then;
    in_order = in_order_then;
  }

-- Where what was read before means a, a file's bytes mean one thing, they have one fault, and not both.
pub record IsExactFile {A B : Type 0} (file : ℕ) (IsText : A → List ℕ → B → Type 0) (IsFault : A → ℕ → List ℕ → Fault → Type 0) : Type 0 where
  pub one : (a : A) (bytes : List ℕ) (b c : B) → IsText a bytes b → IsText a bytes c → b ≡ c
  pub one_fault : (a : A) (bytes : List ℕ) (e f : Fault) → IsFault a file bytes e → IsFault a file bytes f → e ≡ f
  pub not_both : (a : A) (bytes : List ℕ) (b : B) (f : Fault) → IsText a bytes b → IsFault a file bytes f → ⊥

-- what a step needs of a file that it reads: one that is too long has this fault, and some bytes are too long
pub record IsOfFile {A C : Type 0} (names : List (List ℕ)) (s : Step A C) : Type 0 where
  pub too_long : (a : A) (files : Files) → file_limit < length (input_of files names s.file) → s.Fails a (s.sight files) (TooLong s.file)
  pub some : (a : A) → (x : s.Sight) × s.Fails a x (TooLong s.file)

module _ {A B C : Type 0} (names : List (List ℕ)) (file : ℕ) (IsText : A → List ℕ → B → Type 0) (IsFault : A → ℕ → List ℕ → Fault → Type 0) (both : A → B → C) where
  one_file_fault : IsExactFile file IsText IsFault → (a : A) (bytes : List ℕ) (e f : Fault) → IsFileFault file (IsFault a file) bytes e → IsFileFault file (IsFault a file) bytes f → e ≡ f
  one_file_fault text a bytes e f (inl p) (inl q) = p.1 ∙ sym q.1
  one_file_fault text a bytes e f (inl p) (inr q) = absurd (omega (arith, p.0, q.0))
  one_file_fault text a bytes e f (inr p) (inl q) = absurd (omega (arith, p.0, q.0))
  one_file_fault text a bytes e f (inr p) (inr q) = text.one_fault a bytes e f p.1 q.1

  no_file_fault : IsExactFile file IsText IsFault → (a : A) (bytes : List ℕ) (b : B) (f : Fault) → length bytes ≤ file_limit → IsText a bytes b → IsFileFault file (IsFault a file) bytes f → ⊥
  no_file_fault text a bytes b f short is (inl p) = omega (arith, p.0, short)
  no_file_fault text a bytes b f short is (inr p) = text.not_both a bytes b f is p.1

  pub exact_file : IsExactFile file IsText IsFault → IsExactStep (file_step names file IsText IsFault both)
  exact_file text = record {
    one = λ a bytes c d p q. p.3 ∙ ap (both a) (text.one a bytes p.0 q.0 p.2 q.2) ∙ sym q.3;
    one_fault = λ a bytes e f p q. one_file_fault text a bytes e f p q;
    not_both = λ a bytes c f p q. no_file_fault text a bytes p.0 f p.1 p.2 q;
  }

  pub of_file : IsOfFile names (file_step names file IsText IsFault both)
  of_file = record {
    too_long = λ a files long. inl (long, refl);
    some = λ a. (replicate (file_limit + 1) 0, inl (omega (arith, length-replicate {A = ℕ} (file_limit + 1) 0), refl));
  }

-- files that mean something are all good
abbrev pub AreGood : {A : Type 0} → Reading A → Type 0
AreGood {A = A} r = (files : Files) (a : A) (file : ℕ) → r.Means files a → r.Before files file

-- the files that are read are not after the one of this number
abbrev pub ReadsUpTo : {A : Type 0} → Reading A → ℕ → Type 0
ReadsUpTo r n = (file : ℕ) → r.Reads file → file ≤ n

-- of files that are known
pub both_some : (P Q R : Files → Type 0) (known : Option Files) → ((files : Files) → P files → Q files → R files) → IfSome known P → IfSome known Q → IfSome known R
both_some P Q R None f p q = tt
both_some P Q R (Some files) f p q = f files p q

pub known_of : (P : Files → Type 0) (files : Files) (o : Option Files) → o ≡ Some files → IfSome o P → P files
known_of P files o known p = subst (λ q. IfSome q P) known p

-- where no fault was counted, none was that a status doesn't tell
keeps_same : (before now : ℕ) (status : Status) → now ≡ before → KeepsShelfFaults status before now
keeps_same before now (ReadFault file) same = tt
keeps_same before now WriteFault same = tt
keeps_same before now status same = same

module _ {A C : Type 0} (r : Reading A) (s : Step A C) where
  pub good_then : AreGood r → AreGood (then_step r s)
  good_then good files c file (a, means, gives) = (good files a file means, λ less. (c, (a, means, gives)))

  pub up_to_then : (n : ℕ) → ReadsUpTo r n → s.file ≤ n → ReadsUpTo (then_step r s) n
  up_to_then n up within file (inl reads) = up file reads
  up_to_then n up within file (inr is) = omega (arith, is, within)

  stops_before : ReadsUpTo r s.file → (known : Option Files) (before now : ℕ) (status : Status) → StopsReading r known before now status → StopsReading (then_step r s) known before now status
  stops_before up known before now (Refused fault) stops = (inl stops.0, IfSome_then known stops.1 (λ files p. (p.0, inl p.1)))
  stops_before up known before now (ReadFault file) stops =
      (stops.0, inl stops.1, IfSome_then known stops.2 (λ files good. (good, λ less. absurd (omega (arith, less, up file stops.1)))))
  stops_before up known before now NoMemory stops = tt
  stops_before up known before now status stops = absurd stops

  stops_at : (a : A) (x : s.Sight) (known : Option Files) (before now : ℕ) (status : Status) → IfSome known (λ files. r.Means files a) → IfSome known (λ files. x ≡ s.sight files) → StopsFor (s.Fails a x) status → StopsReading (then_step r s) known before now status
  stops_at a x known before now (Refused fault) means sight fails =
      (inr (a, x, fails), both_some _ _ _ known (λ files p q. (s.file, inr (a, refl, p, subst (λ y. s.Fails a y fault) q fails))) means sight)
  stops_at a x known before now NoMemory means sight fails = tt
  stops_at a x known before now status means sight fails = absurd fails

  stops_to_read : AreGood r → (names : List (List ℕ)) → IsOfFile names s → (a : A) (known : Option Files) (before now : ℕ) (status : Status) → IfSome known (λ files. r.Means files a) → StopsToRead s.file (name_of names s.file) known before now status → StopsReading (then_step r s) known before now status
  stops_to_read good names of a known before now (Refused fault) means stops =
      let is : TooLong s.file ≡ fault = sym stops.0 in (
        inr (a, (of.some a).0, subst (λ f. s.Fails a (of.some a).0 f) is (of.some a).1),
        both_some _ _ _ known (λ files p long. (s.file, inr (a, refl, p, subst (λ f. s.Fails a (s.sight files) f) is (of.too_long a files long)))) means stops.1,
      )
  stops_to_read good names of a known before now (ReadFault file) means stops =
      (stops.1, inr stops.0, IfSome_then known means (λ files p. (good files a file p, λ less. absurd (omega (arith, less, stops.0)))))
  stops_to_read good names of a known before now NoMemory means stops = tt
  stops_to_read good names of a known before now status means stops = absurd stops

  -- a reading that stopped, and no step more
  pub stopped : {X Y : Type 0} (m : X → A) (o : Y → C) → ReadsUpTo r s.file → (status : Status) (old new : Option Files) (before now : ℕ) → ReadsFiles r m (Err status) old new before now → ReadsFiles (then_step r s) o (Err status) old new before now
  stopped m o up status old new before now reads = record {
    read = tt;
    stops = stops_before up old before now status reads.stops;
    files = reads.files;
    kept = reads.kept;
    later = reads.later;
  }

  -- a file that could not be read
  pub unread : {X Y : Type 0} (bytes_of : X → List ℕ) (o : Y → C) → AreGood r → (names : List (List ℕ)) → IsOfFile names s → (a : A) (status : Status) (old new : Option Files) (before now : ℕ) → IfSome old (λ files. r.Means files a) → ReadsBytes names s.file bytes_of (Err status) old new before now → ReadsFiles (then_step r s) o (Err status) old new before now
  unread bytes_of o good names of a status old new before now means reads = record {
    read = tt;
    stops = stops_to_read good names of a old before now status means reads.stops;
    files = reads.files;
    kept = reads.kept;
    later = reads.later;
  }

  -- a step that was made, or that failed
  pub stepped : {Y : Type 0} (o : Y → C) (a : A) (x : s.Sight) (result : Result Y Status) (old new : Option Files) (before now : ℕ) → IfSome old (λ files. r.Means files a) → IfSome old (λ files. x ≡ s.sight files) → new ≡ old → now ≡ before → IfOk result (λ y. s.Gives a x (o y)) → IfErr result (StopsFor (s.Fails a x)) → ReadsFiles (then_step r s) o result old new before now
  stepped o a x (Ok y) old new before now means sight same kept gives fails = record {
    read = both_some _ _ _ old (λ files p q. (a, p, subst (λ z. s.Gives a z (o y)) q gives)) means sight;
    stops = tt;
    files = same;
    kept = kept;
    later = omega (arith, kept);
  }
  stepped o a x (Err status) old new before now means sight same kept gives fails = record {
    read = tt;
    stops = stops_at a x old before now status means sight fails;
    files = same;
    kept = keeps_same before now status kept;
    later = omega (arith, kept);
  }

-- one function that reads, after another
pub read_after : {A C X Y : Type 0} (r : Reading A) (m : X → A) (t : Reading C) (o : Y → C) (x : X) (result : Result Y Status) (old mid new : Option Files) (before between now : ℕ) → ReadsFiles r m (Ok x) old mid before between → ReadsFiles t o result mid new between now → ReadsFiles t o result old new before now
read_after r m t o x result old mid new before between now first next =
    subst (λ files. ReadsFiles t o result files new before now) first.files
    (subst (λ n. ReadsFiles t o result mid new n now) first.kept next)

-- what a function read that is done is there for the next one
pub still_read : {A X : Type 0} (r : Reading A) (m : X → A) (x : X) (old new : Option Files) (before now : ℕ) → ReadsFiles r m (Ok x) old new before now → IfSome new (λ files. r.Means files (m x))
still_read r m x old new before now reads =
    subst (λ fs. IfSome fs (λ files. r.Means files (m x))) (sym reads.files) reads.read

-- the same end, or the same meaning, of a function with another type of results
pub same_end : {A X Y : Type 0} (r : Reading A) (m : X → A) (o : Y → A) (status : Status) (old new : Option Files) (before now : ℕ) → ReadsFiles r m (Err status) old new before now → ReadsFiles r o (Err status) old new before now
same_end r m o status old new before now reads =
    record { read = tt; stops = reads.stops; files = reads.files; kept = reads.kept; later = reads.later }

pub same_value : {A X Y : Type 0} (r : Reading A) (m : X → A) (o : Y → A) (x : X) (y : Y) (old new : Option Files) (before now : ℕ) → m x ≡ o y → ReadsFiles r m (Ok x) old new before now → ReadsFiles r o (Ok y) old new before now
same_value r m o x y old new before now same reads = record {
  read = subst (λ a. IfSome old (λ files. r.Means files a)) same reads.read;
  stops = tt;
  files = reads.files;
  kept = reads.kept;
  later = reads.later;
}

-- what holds of all files
pub always : (P : Files → Type 0) (known : Option Files) → ((files : Files) → P files) → IfSome known P
always P None all = tt
always P (Some files) all = all files

-- faults of bytes that are not too many are faults of the file
pub file_fails : {Y : Type 0} (file : ℕ) (IsFault : List ℕ → Fault → Type 0) (bytes : List ℕ) (result : Result Y Status) → length bytes ≤ file_limit → IfErr result (StopsFor (IsFault bytes)) → IfErr result (StopsFor (IsFileFault file IsFault bytes))
file_fails file IsFault bytes (Ok y) short fails = tt
file_fails file IsFault bytes (Err (Refused fault)) short fails = inr (short, fails)
file_fails file IsFault bytes (Err NoMemory) short fails = tt
file_fails file IsFault bytes (Err status) short fails = absurd fails
