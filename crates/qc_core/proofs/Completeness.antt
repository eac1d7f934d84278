-- Files mean something or are refused. This is said by double negations, as no definition decides whether bytes are a text.
use Rattle.std.proofs.Common.{◌≡◌, ◌<◌, ◌≤◌, ◌+◌, ◌⊎◌, ℕ, zero, suc, true, List, [], ◌∷◌, ◌++◌, length, map, refl, sym, ap, subst, ◌∙◌, arith, inl, inr, append_assoc, length-append}
use Rattle.std.specs.Prelude.{◌≢◌, Option, None, Some, Result, Ok, Err, All}
use Rattle.std.specs.Int.{to_le_bytes, w32}
use Rattle.std.specs.Option.{option_map}
use Rattle.std.proofs.lemmas.Bool.{and_parts, cases_lt}
use Rattle.std.proofs.lemmas.List.Elements.{All-head, All-nil, All-push, All-tail}
use Rattle.qc_widths.specs.TextFaults.{faults_of}
use Rattle.qc_grammar.specs.declared.answers.ReadTextFault.{ReadTextFault}
use Rattle.qc_grammar.specs.declared.answers.ReadTextFault.TheVariants as text_fault
use Rattle.qc_grammar.specs.declared.cursor.ReadError.{ReadError}
use Rattle.qc_grammar.specs.declared.cursor.ReadError.TheVariants as error
use Rattle.qc_grammar.specs.declared.cursor.Stop.{Stop}
use Rattle.qc_grammar.specs.declared.cursor.Stop.TheVariants as stop
use Rattle.qc_grammar.specs.declared.cursor.Stop.TheVariants.{At}
use Rattle.qc_text.specs.declared.token.Kind.{Kind}
use Rattle.qc_text.specs.declared.token.Kind.TheVariants.{End}
use Rattle.qc_text.specs.declared.token.Token.{Token}
use Rattle.qc_grammar.specs.Answer.{Answers, EndsText, IsAnswer, cut, settled}
use Rattle.qc_grammar.specs.Brackets.{first_too_deep}
use Rattle.qc_grammar.specs.Law.LL1.{IsReadable, is_clean}
use Rattle.qc_grammar.specs.Grammar.{text}
use Rattle.qc_grammar.specs.ReaderResult.{Gives}
use Rattle.qc_grammar.specs.Grammar as grammar
use Rattle.qc_grammar.specs.Grammar.{Grammar}
use Rattle.qc_grammar.specs.Law.Ended.{file_ended}
use Rattle.qc_grammar.specs.Law.Exactness.{Exact, Found}
use Rattle.qc_grammar.specs.Law.Fuel.{exact}
use Rattle.qc_grammar.specs.Law.OneAnswer.{answers}
use Rattle.qc_grammar.specs.Lexeme.{Lexeme, lexemes, Vocabulary}
use Rattle.qc_text.specs.Pieces.{AreCut, AreTokens, IsBadByte, IsFirst, IsPieceText, Piece, place_after, token_at, tokens_of}
use Rattle.qc_grammar.specs.Reading.{Read, reads}
use Rattle.qc_grammar.specs.TextAnswer.{IsTextAnswer}
use Rattle.qc_lrtl.specs.declared.syntax.RawMachine.{RawMachine}
use Rattle.qc_lrtl.specs.LambdaRtl as lrtl
use Rattle.qc_sled.specs.declared.syntax.RawCoding.{RawCoding}
use Rattle.qc_sled.specs.Sled as sled
use Rattle.qc_terms.specs.declared.image.Image.{Image}
use Rattle.qc_descr.specs.declared.description.Description.{Description}
use Rattle.qc_descr.specs.declared.faults.DescrFault.{DescrFault}
use Rattle.qc_descr.specs.Loading.{FitsMachine}
use Rattle.qc_descr.specs.Making.{description_of, fault_of}
use Rattle.qc_facts.specs.declared.faults.WidthFault.{WidthFault}
use Rattle.qc_widths.specs.declared.machine.Machine.{Machine}
use Rattle.qc_facts.specs.Faults.{reported}
use Rattle.qc_widths.specs.Machine.{machine_of}
use Rattle.qc_join.specs.declared.faults.JoinEnd.TheVariants as joined
use Rattle.qc_join.specs.declared.faults.JoinFault.{JoinFault}
use Rattle.qc_join.specs.declared.faults.JoinFault.TheVariants as join
use Rattle.qc_join.specs.Faults.{fault_of_name}
use Rattle.qc_join.specs.Joining.{Joins, name_fault, parts_of}
use Rattle.qc_layout.specs.ImageFaults.{IsBadImage, IsFaultyPlace}
use Rattle.qc_layout.specs.ImageFile.{HasFile, image_bytes, mark}
use Rattle.qc_machine.specs.InputFile.{IsInput, IsWordToken, number_in}
use Rattle.qc_constants.specs.ConstantProgram.{IsTextOf}
use Rattle.qc_command.specs.declared.words.Command.{Command}
use Rattle.qc_command.specs.declared.words.Command.TheVariants.{Check, Compile, Run}
use Rattle.qc_outside.specs.Files.{Files, file_limit, input_of}
use Rattle.qc_core.specs.declared.answer.Fault.{Fault}
use Rattle.qc_core.specs.declared.answer.Fault.TheVariants.{TooLong, Names, Join, BadImage, BadInput, NotYet}
use Rattle.qc_core.specs.Answer.{IsCommandRead, IsCommandRefused, task_of}
use Rattle.qc_core.specs.Compilation.{IsTin32, IsUnformed, SpellsProgram, compile_reading, program_step, tables_reading, tables_step, tables_text, tin32_reading, tin32_step}
use Rattle.qc_core.specs.Inner.LowerLaws.{TokenLaws}
use Rattle.qc_core.specs.CommandFiles.{Reading, Step, file_step, no_file, then_step}
use Rattle.qc_core.specs.Runs.{IsImageFault, IsImageFile, IsInputFault, image_reading, image_step, input_step, run_reading, setting_of}
use Rattle.qc_core.specs.Texts.{IsCodingFault, IsCodingText, IsMachineFault, IsMachineText, MeansDescription, MeansMachine, coding_step, description_reading, fault_of_text, machine_reading, machine_step}

-- Not both are false.
abbrev pub OneOf : Type 0 → Type 0 → Type 0
OneOf A B = (A → ⊥) → (B → ⊥) → ⊥

-- For every proposition, not both it and its negation are false.
decided : (P : Type 0) → OneOf P (P → ⊥)
decided P never not_never = not_never never

-- the files mean something or are refused
abbrev pub IsComplete : {A : Type 0} → Reading A → Files → Type 0
IsComplete {A = A} r files = OneOf ((a : A) × r.Means files a) ((n : ℕ) × (f : Fault) × r.Refused files n f)

complete_no_file : (files : Files) → IsComplete no_file files
complete_no_file files none good = none (tt, tt)

complete_then : {A C : Type 0} (r : Reading A) (s : Step A C) (files : Files) → ((a : A) → OneOf ((c : C) × s.Gives a (s.sight files) c) ((f : Fault) × s.Fails a (s.sight files) f)) → IsComplete r files → IsComplete (then_step r s) files
complete_then r s files one before none good =
    before
    (λ x. one x.0
    (λ y. none (y.0, (x.0, x.1, y.1)))
    (λ y. good (s.file, y.0, inr (x.0, refl, x.1, y.1))))
    (λ x. good (x.0, x.1, inl x.2))

complete_file : {A B C : Type 0} (names : List (List ℕ)) (file : ℕ) (IsText : A → List ℕ → B → Type 0) (IsFault : A → ℕ → List ℕ → Fault → Type 0) (both : A → B → C) (a : A) (bytes : List ℕ) → (length bytes ≤ file_limit → OneOf ((b : B) × IsText a bytes b) ((f : Fault) × IsFault a file bytes f)) → OneOf ((c : C) × (file_step names file IsText IsFault both).Gives a bytes c) ((f : Fault) × (file_step names file IsText IsFault both).Fails a bytes f)
complete_file names file IsText IsFault both a bytes one none good = by_length (cases_lt file_limit (length bytes))
  where
    by_length : (file_limit < length bytes) ⊎ (length bytes ≤ file_limit) → ⊥
    by_length (inl long) = good (TooLong file, inl (long, refl))
    by_length (inr short) =
        one short
        (λ x. none (both a x.0, (x.0, short, x.1, refl)))
        (λ x. good (x.0, inr (short, x.1)))

-- A piece has bytes.
filled : (kind : Option Kind) (bytes : List ℕ) → IsPieceText kind bytes → 0 < length bytes
filled None [] (inl blank) = cc blank.2
filled None [] (inr (inl line)) = cc line.2
filled None [] (inr (inr block)) = cc block.2
filled (Some kind) [] is = absurd (is.1 refl)
filled kind (b ∷ bs) is = omega arith

-- the bytes are whole pieces
record AreWhole (bytes : List ℕ) : Type 0 where
  pieces : List Piece
  cut : AreCut bytes pieces []

-- they are whole pieces up to a place where none begins
record AreBroken (bytes : List ℕ) : Type 0 where
  pieces : List Piece
  rest : List ℕ
  cut : AreCut bytes pieces rest
  some : rest ≢ []
  none : (piece : Piece) (after : List ℕ) → IsFirst rest piece after → ⊥

-- a piece begins them
record Begin (bytes : List ℕ) : Type 0 where
  piece : Piece
  after : List ℕ
  first : IsFirst bytes piece after

shorter : (bytes after : List ℕ) (piece : Piece) (n : ℕ) → IsFirst bytes piece after → length bytes ≤ suc n → length after ≤ n
shorter bytes after piece n first within =
    omega (arith, ap length first.split, length-append piece.text after, filled piece.kind piece.text first.is)

whole_or_broken : (n : ℕ) (bytes : List ℕ) → length bytes ≤ n → OneOf (AreWhole bytes) (AreBroken bytes)
whole_or_broken n [] within not_whole not_broken = not_whole (record { pieces = []; cut = refl })
whole_or_broken zero (b ∷ bs) within not_whole not_broken = absurd (omega (arith, within))
whole_or_broken (suc n) (b ∷ bs) within not_whole not_broken =
    decided (Begin (b ∷ bs))
    (λ x. whole_or_broken n x.after (shorter (b ∷ bs) x.after x.piece n x.first within)
    (λ w. not_whole (record { pieces = x.piece ∷ w.pieces; cut = (x.after, x.first, w.cut) }))
    (λ w. not_broken (record { pieces = x.piece ∷ w.pieces; rest = w.rest; cut = (x.after, x.first, w.cut); some = w.some; none = w.none })))
    (λ x. not_broken (record { pieces = []; rest = b ∷ bs; cut = refl; some = λ e. cc e; none = λ piece after first. x (record { piece = piece; after = after; first = first }) }))

-- Bytes have tokens or a bad byte.
tokens_or_bad : (bytes : List ℕ) → OneOf ((tokens : List Token) × AreTokens bytes tokens) ((at : ℕ) × IsBadByte bytes at)
tokens_or_bad bytes none good =
    whole_or_broken (length bytes) bytes (omega arith)
    (λ w. none (tokens_of 0 w.pieces, record { pieces = w.pieces; cut = w.cut; are = refl }))
    (λ w. good (place_after 0 w.pieces, record { pieces = w.pieces; rest = w.rest; cut = w.cut; place = refl; some = w.some; none = w.none }))

module _ {I : Type 0} {E : I → Type 0} (s : grammar.Syntax I E) {A : Type 0} (g : Grammar I E A) (readable : IsReadable s g) where
  HasAnswer : List Lexeme → Type 0
  HasAnswer tokens = (answer : Result A ReadError) × IsAnswer s g tokens answer

  answer_of : (tokens : List Lexeme) (result : Result A Stop) (deep : Option ℕ) (total left : ℕ) → (result ≡ Err stop.NoMemory → ⊥) → Answers s g tokens (settled result deep total left) → IsAnswer s g tokens (settled result deep total left)
  answer_of tokens (Ok tree) None total zero enough one = one.is
  answer_of tokens (Ok tree) (Some k) total zero enough one = one.is
  answer_of tokens (Ok tree) deep total (suc left) enough one = one.is
  answer_of tokens (Err (At zero)) None total left enough one = one.is
  answer_of tokens (Err (At zero)) (Some k) total left enough one = one.is
  answer_of tokens (Err (At (suc at))) deep total left enough one = one.is
  answer_of tokens (Err stop.NoMemory) deep total left enough one = absurd (enough refl)

  answer_settled : (tokens : List Lexeme) → EndsText tokens → (result : Result A Stop) (new : List Lexeme) → Gives result (cut (first_too_deep 0 tokens) tokens) new (reads s (text g)) → (result ≡ Err stop.NoMemory → ⊥) → HasAnswer tokens
  unfolding HasAnswer
  answer_settled tokens ends result new gives enough =
      let deep = first_too_deep 0 tokens in
      let total = length (cut deep tokens) in
      (settled result deep total (length new), answer_of tokens result deep total (length new) enough (answers s g readable tokens ends result new gives))

  answer_read : (tokens : List Lexeme) → EndsText tokens → (read : Read A) → reads s (text g) (cut (first_too_deep 0 tokens) tokens) ≡ read → HasAnswer tokens
  answer_read tokens ends (Ok x) e =
      let given = cut (first_too_deep 0 tokens) tokens in
      let clean : is_clean s (text g) ≡ true = (and_parts _ _ readable.start).0 in
      let found : Found s (text g) (reads s (text g)) given x.0 x.1 = subst (Exact s (text g) (reads s (text g)) given) e (exact s readable.rules (text g) clean given) in
      answer_settled tokens ends (Ok x.0) x.1 (e, omega (arith, ap length found.split, length-append found.front x.1)) (λ no. cc)
  answer_read tokens ends (Err left) e = answer_settled tokens ends (Err (At left)) [] e (λ no. cc)

  HasTextAnswer : Vocabulary → List ℕ → Type 0
  HasTextAnswer vocabulary bytes = (answer : Result A ReadTextFault) × IsTextAnswer s g vocabulary bytes answer

  text_answer : (vocabulary : Vocabulary) (bytes : List ℕ) (tokens : List Token) → AreTokens bytes tokens → (answer : Result A ReadError) → IsAnswer s g (lexemes vocabulary bytes tokens) answer → HasTextAnswer vocabulary bytes
  unfolding HasTextAnswer
  text_answer vocabulary bytes tokens are (Ok tree) is = (Ok tree, record { tokens = tokens; are = are; is = is })
  text_answer vocabulary bytes tokens are (Err (error.Syntax n)) is = (Err (text_fault.Syntax n), record { tokens = tokens; are = are; is = is })
  text_answer vocabulary bytes tokens are (Err (error.TooDeep n)) is = (Err (text_fault.TooDeep n), record { tokens = tokens; are = are; is = is })
  text_answer vocabulary bytes tokens are (Err error.NoMemory) is = absurd is

  -- A file has an answer as a text.
  has_text_answer : TokenLaws → (vocabulary : Vocabulary) (bytes : List ℕ) → (((answer : Result A ReadTextFault) × IsTextAnswer s g vocabulary bytes answer) → ⊥) → ⊥
  unfolding HasAnswer HasTextAnswer
  has_text_answer laws vocabulary bytes none =
      tokens_or_bad bytes
      (λ x. let tokens = lexemes vocabulary bytes x.0 in
      let end = laws.end bytes x.0 x.1 in
      let some = answer_read tokens (subst (λ ts. EndsText (lexemes vocabulary bytes ts)) (sym end.1) (file_ended vocabulary bytes end.0 _ refl)) (reads s (text g) (cut (first_too_deep 0 tokens) tokens)) refl in
      none (text_answer vocabulary bytes x.0 x.1 some.0 some.1))
      (λ x. none (Err (text_fault.BadByte x.0), x.1))

-- A machine's text means a machine or has a fault.
machine_or_fault : TokenLaws → (file : ℕ) (bytes : List ℕ) → OneOf ((machine : Machine) × MeansMachine bytes machine) ((f : Fault) × IsMachineFault file bytes f)
machine_or_fault laws file bytes none good =
    has_text_answer lrtl.lambda_rtl lrtl.machine lrtl.lambda_rtl_is_readable laws lrtl.vocabulary bytes (λ x. by_answer x.0 x.1)
  where
    by_report : (raw : RawMachine) → IsMachineText bytes (Ok raw) → (fault : Option WidthFault) → reported (faults_of raw) ≡ fault → ⊥
    by_report raw p None e = none (machine_of raw, record { raw = raw; text = p; faultless = e; is = refl })
    by_report raw p (Some fault) e = good (Names fault, inr (record { raw = raw; text = p; cause = fault; found = e; is = refl }))

    by_answer : (answer : Result RawMachine ReadTextFault) → IsMachineText bytes answer → ⊥
    by_answer (Ok raw) p = by_report raw p (reported (faults_of raw)) refl
    by_answer (Err cause) p = good (fault_of_text file cause, inl (record { cause = cause; answer = p; is = refl }))

-- what no value is made into does not come
never_made : {A B : Type 0} (f : A → B) (o : Option A) (b : B) → ((a : A) → f a ≡ b → ⊥) → option_map f o ≡ Some b → ⊥
never_made f None b never e = cc e
never_made f (Some a) b never e = never a cc

-- a fault among names is none of the parts
reported_joins : (machine : Machine) (raw : RawCoding) (fault : JoinFault) → name_fault machine raw ≡ Some fault → Joins machine raw (Err (joined.Fault fault))
reported_joins machine raw (join.UnknownName token) e = e
reported_joins machine raw (join.TwiceNamed token) e = e
reported_joins machine raw (join.Descr d) e = absurd (never_made fault_of_name _ (join.Descr d) (λ fault same. grind arith) e)

-- A machine and a coding make a description or have a fault.
described_or_fault : (machine : Machine) (raw : RawCoding) → OneOf ((d : Description) × Joins machine raw (Ok d)) ((fault : JoinFault) × Joins machine raw (Err (joined.Fault fault)))
described_or_fault machine raw none good =
    by_name (name_fault machine raw) refl (fault_of (parts_of machine raw.items)) refl
  where
    by_name : (o : Option JoinFault) → name_fault machine raw ≡ o → (p : Option DescrFault) → fault_of (parts_of machine raw.items) ≡ p → ⊥
    by_name (Some fault) e p f = good (fault, reported_joins machine raw fault e)
    by_name None e (Some d) f = good (join.Descr d, (e, f))
    by_name None e None f = none (description_of (parts_of machine raw.items), (e, f, refl))

-- A coding's text means a description of the machine or has a fault.
coding_or_fault : TokenLaws → (machine : Machine) (file : ℕ) (bytes : List ℕ) → OneOf ((d : Description) × MeansDescription machine bytes d) ((f : Fault) × IsCodingFault machine file bytes f)
coding_or_fault laws machine file bytes none good =
    has_text_answer sled.sled sled.coding sled.sled_is_readable laws sled.vocabulary bytes (λ x. by_answer x.0 x.1)
  where
    by_answer : (answer : Result RawCoding ReadTextFault) → IsCodingText bytes answer → ⊥
    by_answer (Ok raw) p =
        described_or_fault machine raw
        (λ x. none (x.0, record { raw = raw; text = p; joins = x.1 }))
        (λ x. good (Join x.0, inr (record { raw = raw; text = p; cause = x.0; joins = x.1; is = refl })))
    by_answer (Err cause) p = good (fault_of_text file cause, inl (record { cause = cause; answer = p; is = refl }))

complete_machine : TokenLaws → (names : List (List ℕ)) (files : Files) → IsComplete (machine_reading names) files
complete_machine laws names files =
    complete_then no_file (machine_step names) files
    (λ nothing. complete_file names 1 (λ (n : Unit {0}). MeansMachine) (λ n. IsMachineFault) (λ n machine. machine) nothing (input_of files names 1)
    (λ short. machine_or_fault laws 1 (input_of files names 1)))
    (complete_no_file files)

complete_description : TokenLaws → (names : List (List ℕ)) (files : Files) → IsComplete (description_reading names) files
complete_description laws names files =
    complete_then (machine_reading names) (coding_step names) files
    (λ machine. complete_file names 2 MeansDescription IsCodingFault (λ m d. d) machine (input_of files names 2)
    (λ short. coding_or_fault laws machine 2 (input_of files names 2)))
    (complete_machine laws names files)

-- a form that is understood, or another one
form_or_fault : (HasForm : Type 0) (form : ℕ) → OneOf HasForm ((f : Fault) × IsUnformed HasForm form f)
form_or_fault HasForm form none good = decided HasForm none (λ bad. good (NotYet form, (bad, refl)))

-- What `compile` reads after the description.
complete_tin32 : TokenLaws → (names : List (List ℕ)) (files : Files) → IsComplete (tin32_reading names) files
complete_tin32 laws names files =
    complete_then (description_reading names) tin32_step files
    (λ d none good. form_or_fault (IsTin32 d) 5 (λ is. none (d, (is, refl))) good)
    (complete_description laws names files)

complete_tables : TokenLaws → (names : List (List ℕ)) (files : Files) → IsComplete (tables_reading names) files
complete_tables laws names files =
    complete_then (tin32_reading names) (tables_step names) files
    (λ d. complete_file names 3 (λ (e : Description) bytes (tables : Unit {0}). bytes ≡ tables_text) (λ e form bytes. IsUnformed (bytes ≡ tables_text) form) (λ e tables. e) d (input_of files names 3)
    (λ short none good. form_or_fault (input_of files names 3 ≡ tables_text) 3 (λ is. none (tt, is)) good))
    (complete_tin32 laws names files)

complete_compile : TokenLaws → (names : List (List ℕ)) (files : Files) → IsComplete (compile_reading names) files
complete_compile laws names files =
    complete_then (tables_reading names) (program_step names) files
    (λ d. complete_file names 4 (λ (e : Description). IsTextOf) (λ e form bytes. IsUnformed (SpellsProgram bytes) form) (λ e p. (e, p)) d (input_of files names 4)
    (λ short. form_or_fault (SpellsProgram (input_of files names 4)) 4))
    (complete_tables laws names files)

-- A file that has no faulty place is that of an image that fits.
abbrev pub FaultlessImages : Type 0
FaultlessImages = (d : Description) (bytes : List ℕ) → All (λ byte. byte < 256) bytes → ((at : ℕ) → IsFaultyPlace d bytes at → ⊥) → (image : Image) × FitsMachine d image × (bytes ≡ image_bytes image)

image_lengths : (image : Image) → length (image_bytes image) ≤ file_limit → HasFile image
unfolding image_bytes file_limit
image_lengths image short =
    let rest = to_le_bytes w32 (length image.initial) ++ (image.code ++ image.initial) in
    let sizes : length image.code + length image.initial ≤ length (image_bytes image) =
    omega (
      arith,
      length-append (mark image.word image.order) (to_le_bytes w32 (length image.code) ++ rest),
      length-append (to_le_bytes w32 (length image.code)) rest,
      length-append (to_le_bytes w32 (length image.initial)) (image.code ++ image.initial),
      length-append image.code image.initial,
    ) in
    record { code = omega (arith, sizes, short); initial = omega (arith, sizes, short) }

-- no place below this one is faulty, where no faulty place is the first
none_below : (d : Description) (bytes : List ℕ) → ((at : ℕ) → IsBadImage d bytes at → ⊥) → (n at : ℕ) → at < n → IsFaultyPlace d bytes at → ⊥
none_below d bytes none zero at less p = omega (arith, less)
none_below d bytes none (suc n) at less p =
    none at (record { faulty = p; first = λ place before q. none_below d bytes none n place (omega (arith, less, before)) q })

image_or_fault : FaultlessImages → (d : Description) (bytes : List ℕ) → length bytes ≤ file_limit → All (λ byte. byte < 256) bytes → OneOf ((image : Image) × IsImageFile d bytes image) ((f : Fault) × IsImageFault d bytes f)
image_or_fault images d bytes short small none good =
    let found = images d bytes small (λ at p. none_below d bytes (λ place bad. good (BadImage place, (place, bad, refl))) (suc at) at (omega arith) p) in
    none (found.0, (image_lengths found.0 (subst (λ (bs : List ℕ). length bs ≤ file_limit) found.2 short), found.1, found.2))

-- The tokens of a file are words up to the end, or one of them is the first that is wrong.
input_or_fault : TokenLaws → (word : ℕ) (bytes : List ℕ) → OneOf ((words : List ℕ) × IsInput word bytes words) ((f : Fault) × IsInputFault word bytes f)
input_or_fault laws word bytes none good =
    tokens_or_bad bytes
    (λ x. let end = laws.end bytes x.0 x.1 in
    walk x.0 x.1 [] end.0 end.1 (All-nil (IsWordToken word bytes)) end.2)
    (λ x. good (BadInput x.0, (x.0, inl x.1, refl)))
  where
    walk : (tokens : List Token) → AreTokens bytes tokens → (front rest : List Token) → tokens ≡ front ++ (rest ++ token_at (length bytes) (Some End) (length bytes)) → All (IsWordToken word bytes) front → All (λ token. token.kind ≢ End) rest → ⊥
    walk tokens are front [] e words others =
        none (
          map (number_in bytes) front,
          record {
            front = front;
            last = record { kind = End; start = length bytes; end = length bytes };
            cut = subst (AreTokens bytes) e are;
            ended = refl;
            numbers = words;
            values = refl;
          },
        )
    walk tokens are front (t ∷ ts) e words others =
        decided (IsWordToken word bytes t)
        (λ is. walk tokens are (front ++ t ∷ []) ts (e ∙ sym (append_assoc front (t ∷ []) (ts ++ token_at (length bytes) (Some End) (length bytes))))
        (All-push (IsWordToken word bytes) front t words is) (All-tail (λ token. token.kind ≢ End) t ts others))
        (λ bad. good (
          BadInput t.start,
          (
            t.start,
            inr (record {
              front = front;
              token = t;
              rest = ts ++ token_at (length bytes) (Some End) (length bytes);
              cut = subst (AreTokens bytes) e are;
              numbers = words;
              some = All-head (λ token. token.kind ≢ End) t ts others;
              wrong = bad;
              place = refl;
            }),
            refl,
          ),
        ))

complete_image : FaultlessImages → TokenLaws → (names : List (List ℕ)) (files : Files) → All (λ byte. byte < 256) (input_of files names 3) → IsComplete (image_reading names) files
complete_image images laws names files small =
    complete_then (description_reading names) (image_step names) files
    (λ d. complete_file names 3 IsImageFile (λ e file. IsImageFault e) (λ e image. (e, image)) d (input_of files names 3)
    (λ short. image_or_fault images d (input_of files names 3) short small))
    (complete_description laws names files)

complete_run : FaultlessImages → TokenLaws → (names : List (List ℕ)) (files : Files) → All (λ byte. byte < 256) (input_of files names 3) → IsComplete (run_reading names) files
complete_run images laws names files small =
    complete_then (image_reading names) (input_step names) files
    (λ x. complete_file names 4 (λ (p : Description × Image). IsInput p.0.facts.word) (λ p file. IsInputFault p.0.facts.word) (λ p input. setting_of p.0 p.1 input) x (input_of files names 4)
    (λ short. input_or_fault laws x.0.facts.word (input_of files names 4)))
    (complete_image images laws names files small)

complete_task : FaultlessImages → TokenLaws → (command : Command) (names : List (List ℕ)) (files : Files) → (task_of command names).AreBytes files → IsComplete (task_of command names).reading files
complete_task images laws Check names files small = complete_description laws names files
complete_task images laws Compile names files small = complete_compile laws names files
complete_task images laws (Run steps) names files small = complete_run images laws names files small

pub read_unless_refused : FaultlessImages → TokenLaws → (command : Command) (names : List (List ℕ)) (files : Files) → (task_of command names).AreBytes files → ((file : ℕ) (fault : Fault) → IsCommandRefused command names files file fault → ⊥) → (IsCommandRead command names files → ⊥) → ⊥
read_unless_refused images laws command names files small none read =
    complete_task images laws command names files small read (λ x. none x.0 x.1 x.2)
