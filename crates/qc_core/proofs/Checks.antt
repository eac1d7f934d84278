-- What the two texts of a description come to excludes all else.
use Rattle.std.proofs.Common.{◌≡◌, ◌≤◌, ◌⊎◌, ℕ, List, refl, sym, ap, subst, ◌∙◌, arith, inl, inr, ⊎_elim}
use Rattle.std.specs.Prelude.{Option, None, Some, Result, Ok, Err}
use Rattle.qc_widths.specs.TextFaults.{faults_of}
use Rattle.qc_grammar.specs.declared.answers.ReadTextFault.{ReadTextFault}
use Rattle.qc_grammar.specs.declared.answers.ReadTextFault.TheVariants as text
use Rattle.qc_lrtl.specs.declared.syntax.RawMachine.{RawMachine}
use Rattle.qc_lrtl.specs.LambdaRtl as lrtl
use Rattle.qc_sled.specs.declared.syntax.RawCoding.{RawCoding}
use Rattle.qc_sled.specs.Sled as sled
use Rattle.qc_descr.specs.declared.description.Description.{Description}
use Rattle.qc_descr.specs.declared.faults.DescrFault.{DescrFault}
use Rattle.qc_descr.specs.Making.{description_of, fault_of}
use Rattle.qc_widths.specs.declared.machine.Machine.{Machine}
use Rattle.qc_facts.specs.Faults.{reported}
use Rattle.qc_widths.specs.Machine.{machine_of}
use Rattle.qc_join.specs.declared.faults.JoinEnd.TheVariants as joined
use Rattle.qc_join.specs.declared.faults.JoinFault.{JoinFault}
use Rattle.qc_join.specs.declared.faults.JoinFault.TheVariants as join
use Rattle.qc_join.specs.Joining.{Joins, name_fault, parts_of}
use Rattle.qc_core.specs.declared.answer.Fault.{Fault}
use Rattle.qc_core.specs.declared.answer.Fault.TheVariants.{Names, Join}
use Rattle.qc_core.specs.Inner.LowerLaws.{TokenLaws}
use Rattle.qc_core.specs.CommandFiles.{no_file}
use Rattle.qc_core.specs.Texts.{IsCodingFault, IsCodingText, IsMachineFault, IsMachineText, IsNamesFault, IsTextFault, MeansDescription, MeansMachine, coding_step, description_reading, fault_of_text, machine_reading, machine_step}
use Rattle.qc_core.proofs.Readings.{AreGood, IsExact, IsExactFile, IsOfFile, ReadsUpTo, exact_file, exact_no_file, exact_then, good_then, of_file, up_to_then}
use Rattle.qc_core.proofs.TextAnswers.{one_text_answer}

-- a fault and no fault
none_some : {A : Type 0} (o : Option A) (x : A) → o ≡ None → o ≡ Some x → ⊥
none_some o x none some = cc

same_some : {A : Type 0} (o : Option A) (x y : A) → o ≡ Some x → o ≡ Some y → x ≡ y
same_some o x y some other = cc

-- a tree and a fault, or two of the same
ok_err : {A E : Type 0} (x : A) (e : E) → Ok x ≡ Err e → ⊥
ok_err x e same = cc

same_ok : {A E : Type 0} (r : Result A E) (x y : A) → r ≡ Ok x → r ≡ Ok y → x ≡ y
same_ok r x y one other = cc

same_err : {A E : Type 0} (r : Result A E) (d e : E) → r ≡ Err d → r ≡ Err e → d ≡ e
same_err r d e one other = cc

one_machine_text : TokenLaws → (bytes : List ℕ) (a b : Result RawMachine ReadTextFault) → IsMachineText bytes a → IsMachineText bytes b → a ≡ b
one_machine_text laws bytes a b p q = one_text_answer lrtl.lambda_rtl lrtl.machine lrtl.lambda_rtl_is_readable laws lrtl.vocabulary bytes a b p q

one_coding_text : TokenLaws → (bytes : List ℕ) (a b : Result RawCoding ReadTextFault) → IsCodingText bytes a → IsCodingText bytes b → a ≡ b
one_coding_text laws bytes a b p q = one_text_answer sled.sled sled.coding sled.sled_is_readable laws sled.vocabulary bytes a b p q

-- a file means at most one machine, and has at most one tree
one_raw : TokenLaws → (bytes : List ℕ) (x y : RawMachine) → IsMachineText bytes (Ok x) → IsMachineText bytes (Ok y) → x ≡ y
one_raw laws bytes x y p q = same_ok (Ok y) x y (sym (one_machine_text laws bytes (Ok x) (Ok y) p q)) refl

one_raw_coding : TokenLaws → (bytes : List ℕ) (x y : RawCoding) → IsCodingText bytes (Ok x) → IsCodingText bytes (Ok y) → x ≡ y
one_raw_coding laws bytes x y p q = same_ok (Ok y) x y (sym (one_coding_text laws bytes (Ok x) (Ok y) p q)) refl

pub one_machine : TokenLaws → (bytes : List ℕ) (m n : Machine) → MeansMachine bytes m → MeansMachine bytes n → m ≡ n
one_machine laws bytes m n p q = p.is ∙ ap machine_of (one_raw laws bytes p.raw q.raw p.text q.text) ∙ sym q.is

pub one_described : TokenLaws → (machine : Machine) (bytes : List ℕ) (d e : Description) → MeansDescription machine bytes d → MeansDescription machine bytes e → d ≡ e
one_described laws machine bytes d e p q =
    p.joins.2 ∙ ap (λ (raw : RawCoding). description_of (parts_of machine raw.items)) (one_raw_coding laws bytes p.raw q.raw p.text q.text) ∙ sym q.joins.2

-- Where a file has one answer as a text, it has one fault as one, and none where it has a tree.
one_text_fault : {A : Type 0} (Is : Result A ReadTextFault → Type 0) → ((x y : Result A ReadTextFault) → Is x → Is y → x ≡ y) → (file : ℕ) (a b : Fault) → IsTextFault Is file a → IsTextFault Is file b → a ≡ b
one_text_fault Is one file a b x y =
    x.is ∙ ap (fault_of_text file) (same_err (Err y.cause) x.cause y.cause (sym (one (Err x.cause) (Err y.cause) x.answer y.answer)) refl) ∙ sym y.is

no_text_fault : {A : Type 0} (Is : Result A ReadTextFault → Type 0) → ((x y : Result A ReadTextFault) → Is x → Is y → x ≡ y) → (file : ℕ) (tree : A) (fault : Fault) → Is (Ok tree) → IsTextFault Is file fault → ⊥
no_text_fault Is one file tree fault p x = ok_err tree x.cause (one (Ok tree) (Err x.cause) p x.answer)

one_names_fault : TokenLaws → (bytes : List ℕ) (a b : Fault) → IsNamesFault bytes a → IsNamesFault bytes b → a ≡ b
one_names_fault laws bytes a b x y =
    let same : x.raw ≡ y.raw = one_raw laws bytes x.raw y.raw x.text y.text in
    x.is ∙ ap Names (same_some (reported (faults_of y.raw)) x.cause y.cause (ap (λ raw. reported (faults_of raw)) (sym same) ∙ x.found) y.found) ∙ sym y.is

one_machine_fault : TokenLaws → (file : ℕ) (bytes : List ℕ) (a b : Fault) → IsMachineFault file bytes a → IsMachineFault file bytes b → a ≡ b
one_machine_fault laws file bytes a b (inl x) (inl y) = one_text_fault (IsMachineText bytes) (one_machine_text laws bytes) file a b x y
one_machine_fault laws file bytes a b (inl x) (inr y) = absurd (no_text_fault (IsMachineText bytes) (one_machine_text laws bytes) file y.raw a y.text x)
one_machine_fault laws file bytes a b (inr x) (inl y) = absurd (no_text_fault (IsMachineText bytes) (one_machine_text laws bytes) file x.raw b x.text y)
one_machine_fault laws file bytes a b (inr x) (inr y) = one_names_fault laws bytes a b x y

pub machine_not_faulty : TokenLaws → (file : ℕ) (bytes : List ℕ) (machine : Machine) (fault : Fault) → MeansMachine bytes machine → IsMachineFault file bytes fault → ⊥
machine_not_faulty laws file bytes machine fault means (inl x) =
    no_text_fault (IsMachineText bytes) (one_machine_text laws bytes) file means.raw fault means.text x
machine_not_faulty laws file bytes machine fault means (inr x) =
    let same : means.raw ≡ x.raw = one_raw laws bytes means.raw x.raw means.text x.text in
    none_some (reported (faults_of x.raw)) x.cause (ap (λ raw. reported (faults_of raw)) (sym same) ∙ means.faultless) x.found

-- The fault of a machine and a coding is one among names, or one of their description.
join_cause : (machine : Machine) (raw : RawCoding) (fault : JoinFault) → Joins machine raw (Err (joined.Fault fault)) →
    (name_fault machine raw ≡ Some fault)
    ⊎ ((d : DescrFault) × (fault ≡ join.Descr d) × (name_fault machine raw ≡ None) × (fault_of (parts_of machine raw.items) ≡ Some d))
join_cause machine raw (join.UnknownName token) p = inl p
join_cause machine raw (join.TwiceNamed token) p = inl p
join_cause machine raw (join.Descr d) p = inr (d, refl, p.0, p.1)

one_join_fault : (machine : Machine) (raw : RawCoding) (a b : JoinFault) → Joins machine raw (Err (joined.Fault a)) → Joins machine raw (Err (joined.Fault b)) → a ≡ b
one_join_fault machine raw a b p q =
    ⊎_elim
    (λ x. ⊎_elim
    (λ y. same_some (name_fault machine raw) a b x y)
    (λ y. absurd (none_some (name_fault machine raw) a y.2 x))
    (join_cause machine raw b q))
    (λ x. ⊎_elim
    (λ y. absurd (none_some (name_fault machine raw) b x.2 y))
    (λ y. x.1 ∙ ap (λ d. join.Descr d) (same_some (fault_of (parts_of machine raw.items)) x.0 y.0 x.3 y.3) ∙ sym y.1)
    (join_cause machine raw b q))
    (join_cause machine raw a p)

joined_not_faulty : (machine : Machine) (raw : RawCoding) (d : Description) (fault : JoinFault) → Joins machine raw (Ok d) → Joins machine raw (Err (joined.Fault fault)) → ⊥
joined_not_faulty machine raw d fault joins p =
    ⊎_elim
    (λ x. none_some (name_fault machine raw) fault joins.0 x)
    (λ x. none_some (fault_of (parts_of machine raw.items)) x.0 joins.1 x.3)
    (join_cause machine raw fault p)

one_coding_fault : TokenLaws → (machine : Machine) (file : ℕ) (bytes : List ℕ) (a b : Fault) → IsCodingFault machine file bytes a → IsCodingFault machine file bytes b → a ≡ b
one_coding_fault laws machine file bytes a b (inl x) (inl y) = one_text_fault (IsCodingText bytes) (one_coding_text laws bytes) file a b x y
one_coding_fault laws machine file bytes a b (inl x) (inr y) = absurd (no_text_fault (IsCodingText bytes) (one_coding_text laws bytes) file y.raw a y.text x)
one_coding_fault laws machine file bytes a b (inr x) (inl y) = absurd (no_text_fault (IsCodingText bytes) (one_coding_text laws bytes) file x.raw b x.text y)
one_coding_fault laws machine file bytes a b (inr x) (inr y) =
    let same : x.raw ≡ y.raw = one_raw_coding laws bytes x.raw y.raw x.text y.text in
    x.is ∙ ap Join (one_join_fault machine y.raw x.cause y.cause (subst (λ raw. Joins machine raw (Err (joined.Fault x.cause))) same x.joins) y.joins) ∙ sym y.is

pub described_not_faulty : TokenLaws → (machine : Machine) (file : ℕ) (bytes : List ℕ) (d : Description) (fault : Fault) → MeansDescription machine bytes d → IsCodingFault machine file bytes fault → ⊥
described_not_faulty laws machine file bytes d fault means (inl x) =
    no_text_fault (IsCodingText bytes) (one_coding_text laws bytes) file means.raw fault means.text x
described_not_faulty laws machine file bytes d fault means (inr x) =
    let same : x.raw ≡ means.raw = one_raw_coding laws bytes x.raw means.raw x.text means.text in
    joined_not_faulty machine means.raw d x.cause means.joins (subst (λ raw. Joins machine raw (Err (joined.Fault x.cause))) same x.joins)

-- what the two texts mean, and what is wrong in them, is one thing and not both
exact_machine_file : TokenLaws → IsExactFile 1 (λ (nothing : Unit {0}). MeansMachine) (λ nothing. IsMachineFault)
exact_machine_file laws = record {
  one = λ nothing bytes m n p q. one_machine laws bytes m n p q;
  one_fault = λ nothing bytes e f p q. one_machine_fault laws 1 bytes e f p q;
  not_both = λ nothing bytes m f p q. machine_not_faulty laws 1 bytes m f p q;
}

exact_coding_file : TokenLaws → IsExactFile 2 MeansDescription IsCodingFault
exact_coding_file laws = record {
  one = λ machine bytes d e p q. one_described laws machine bytes d e p q;
  one_fault = λ machine bytes e f p q. one_coding_fault laws machine 2 bytes e f p q;
  not_both = λ machine bytes d f p q. described_not_faulty laws machine 2 bytes d f p q;
}

exact_machine : TokenLaws → (names : List (List ℕ)) → IsExact (machine_reading names)
exact_machine laws names =
    exact_then no_file exact_no_file (machine_step names)
    (exact_file names 1 (λ (nothing : Unit {0}). MeansMachine) (λ nothing. IsMachineFault) (λ nothing machine. machine) (exact_machine_file laws))

pub exact_description : TokenLaws → (names : List (List ℕ)) → IsExact (description_reading names)
exact_description laws names =
    exact_then (machine_reading names) (exact_machine laws names) (coding_step names)
    (exact_file names 2 MeansDescription IsCodingFault (λ machine d. d) (exact_coding_file laws))

-- what is said of a file of this number that is too long, of each step
pub machine_of_file : (names : List (List ℕ)) → IsOfFile names (machine_step names)
machine_of_file names = of_file names 1 (λ (nothing : Unit {0}). MeansMachine) (λ nothing. IsMachineFault) (λ nothing machine. machine)

pub coding_of_file : (names : List (List ℕ)) → IsOfFile names (coding_step names)
coding_of_file names = of_file names 2 MeansDescription IsCodingFault (λ machine d. d)

-- files that mean something are all good
pub machine_good : (names : List (List ℕ)) → AreGood (machine_reading names)
machine_good names = good_then no_file (machine_step names) (λ files nothing file means. tt)

pub description_good : (names : List (List ℕ)) → AreGood (description_reading names)
description_good names = good_then (machine_reading names) (coding_step names) (machine_good names)

-- the files that are read up to these numbers
pub machine_up_to : (names : List (List ℕ)) (n : ℕ) → 1 ≤ n → ReadsUpTo (machine_reading names) n
machine_up_to names n within = up_to_then no_file (machine_step names) n (λ file reads. absurd reads) within

pub description_up_to : (names : List (List ℕ)) (n : ℕ) → 2 ≤ n → ReadsUpTo (description_reading names) n
description_up_to names n within =
    up_to_then (machine_reading names) (coding_step names) n (machine_up_to names n (omega (arith, within))) within
