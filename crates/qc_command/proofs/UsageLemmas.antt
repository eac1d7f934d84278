-- Which word is wrong.
use Rattle.std.proofs.Common.{cond, ◌≡◌, ◌≢◌, ◌<◌, ◌≤◌, ◌+◌, ◌-◌, ℕ, zero, suc, List, [], ◌∷◌, ◌++◌, length, take, drop, replicate, true, false, refl, sym, ap, subst, ◌∙◌, append_assoc, arith, length-append, ⊎_elim}
use Rattle.std.specs.Prelude.{Option, codes, slice_index, unwrap_or}
use Rattle.std.specs.Str.{bytes_eq}
use Rattle.std.specs.List.{list_all, slice_index_or}
use Rattle.std.proofs.Math.Seq.{take-append-add}
use Rattle.std.proofs.lemmas.List.{length-replicate, length-take, get_or_append_left, get_or-take, take-append-drop}
use Rattle.std.proofs.lemmas.List.Folds.{list_all-append, list_all_at, list_all_more}
use Rattle.qc_command.specs.Settings.{AreSettings}
use Rattle.qc_command.specs.Command.{BeginsCommand, IsCommandLine, IsUsage, command_name, file_count, is_file_word, option_values, options_of, default_steps}
use Rattle.qc_command.specs.Inner.CommandWords.{AreApart, AreFiles, HaveValues, IsSameKind, IsSetBy, IsSettingCount, IsWrongFile}
use Rattle.qc_command.specs.declared.words.Command.{Command}
use Rattle.qc_command.specs.declared.words.Command.TheVariants.{Check, Compile, Run}
use Rattle.qc_command.proofs.SettingLemmas.{HaveNumbers, Stops, numbers_are, same_given, settings_are_no_files}

-- the command of a name, with these values of its options
pub command_from : List ℕ → List ℕ → Command
command_from name values =
    cond (bytes_eq name (codes "check")) Check
    (cond (bytes_eq name (codes "compile")) Compile
    (Run (slice_index values 0)))

-- it has the options of each command of that name
options_from : (c : Command) → options_of (command_from (command_name c) []) ≡ options_of c
unfolding command_from
options_from Check = refl
options_from Compile = refl
options_from (Run steps) = refl

-- a command that is made from its name has as many files
files_from : (c : Command) → file_count (command_from (command_name c) []) ≡ file_count c
unfolding command_from
files_from Check = refl
files_from Compile = refl
files_from (Run steps) = refl

-- a command that is made from its name and the values of its options is that command
pub same_from : (c : Command) → command_from (command_name c) (option_values c) ≡ c
unfolding command_from
same_from Check = refl
same_from Compile = refl
same_from (Run steps) = refl

-- commands of one name have the same options and as many files
pub same_kind : (c d : Command) → command_name c ≡ command_name d → IsSameKind c d
same_kind c d e = record {
  name = e;
  options = sym (options_from c) ∙ ap (λ name. options_of (command_from name [])) e ∙ options_from d;
  files = sym (files_from c) ∙ ap (λ name. file_count (command_from name [])) e ∙ files_from d;
}

-- some command of the kind has its options as words set them
set_command : (c : Command) (given : List (List ℕ)) (values : List (Option ℕ)) → AreSettings (options_of c) given values → (d : Command) × IsSameKind c d × IsSetBy d given
set_command Check given values are =
    (Check, record { name = refl; options = refl; files = refl }, (values, are, refl))
set_command Compile given values are =
    (Compile, record { name = refl; options = refl; files = refl }, (values, are, refl))
set_command (Run steps) given [] are = absurd are
set_command (Run steps) given (value ∷ values) are = (
  Run (unwrap_or value default_steps),
  record { name = refl; options = refl; files = refl },
  (value ∷ values, are, refl),
)

pub head_same : (word other : List ℕ) (xs ys : List (List ℕ)) → word ∷ xs ≡ other ∷ ys → word ≡ other
head_same word other xs ys e = cc

pub tail_same : (word other : List ℕ) (xs ys : List (List ℕ)) → word ∷ xs ≡ other ∷ ys → xs ≡ ys
tail_same word other xs ys e = cc

-- one more right file word
pub one_more : (files : List (List ℕ)) (n : ℕ) (word : List ℕ) → n < length files → slice_index_or files n [] ≡ word → list_all is_file_word (take n files) ≡ true → is_file_word word ≡ true → list_all is_file_word (take (n + 1) files) ≡ true
one_more files n word within at front right = list_all_more is_file_word files n [] within ∙ rw (at, front, right) refl

-- file words that are right
right_files : (n : ℕ) → list_all is_file_word (replicate n (120 ∷ [])) ≡ true
right_files zero = refl
right_files (suc n) = right_files n

-- a command line of the kind, whose files are these
line_of : (c d : Command) (given files : List (List ℕ)) → IsSameKind c d → IsSetBy d given → length files ≡ file_count c → list_all is_file_word files ≡ true → IsCommandLine (command_name c ∷ (given ++ files)) d files
line_of c d given files kind set count all = record {
  given = given;
  values = set.0;
  words_are = ap (λ name. name ∷ (given ++ files)) kind.name;
  settings = set.1;
  values_are = set.2;
  count = count ∙ kind.files;
  each = all;
}

-- words that set options, and then a few right file words, begin a command
begins : (c : Command) (given files : List (List ℕ)) → HaveValues (options_of c) given → length files ≤ file_count c → list_all is_file_word files ≡ true → BeginsCommand (command_name c ∷ (given ++ files))
begins c given files have few right =
    let more = replicate (file_count c - length files) (120 ∷ []) in
    let made = set_command c given have.0 have.1 in
    let all : list_all is_file_word (files ++ more) ≡ true = list_all-append is_file_word files more ∙ rw (right, right_files (file_count c - length files)) refl in
    let count : length (files ++ more) ≡ file_count c = omega (arith, few, length-append files more, length-replicate {A = List ℕ} (file_count c - length files) (120 ∷ [])) in (
      more,
      files ++ more,
      made.0,
      subst (λ ws. IsCommandLine (command_name c ∷ ws) made.0 (files ++ more)) (sym (append_assoc given files more)) (line_of c made.0 given (files ++ more) made.1 made.2 count all),
    )

-- what follows the words that set options are the files of any command line
files_of : (c : Command) (given after : List (List ℕ)) (d : Command) (files : List (List ℕ)) → HaveValues (options_of c) given → Stops (options_of c) given after → IsCommandLine (command_name c ∷ (given ++ after)) d files → (length after ≡ file_count c) × (list_all is_file_word after ≡ true)
files_of c given after d files have stops line =
    let kind = same_kind c d (head_same _ _ _ _ line.words_are) in
    let are = subst (λ os. AreSettings os line.given line.values) (sym kind.options) line.settings in
    let same = same_given (options_of c) given after line.given files line.values (settings_are_no_files (options_of c) given have.0 have.1) stops are line.each (tail_same _ _ _ _ line.words_are) in
    (ap length same.1 ∙ line.count ∙ sym kind.files, ap (list_all is_file_word) same.1 ∙ line.each)

-- the words after those that set options have one first word, however many are taken of them
stops_taken : (c : Command) (given files more : List (List ℕ)) (place : ℕ) → place < length files → Stops (options_of c) given files → Stops (options_of c) given (take (suc place) files ++ more)
stops_taken c given [] more place within stops = absurd (omega arith)
stops_taken c given (file ∷ files) more place within stops = λ word rest e.
    let first : file ≡ word = cc e in
    let split : file ∷ files ≡ word ∷ files = ap (λ w. w ∷ files) first in
    stops word files split

-- what a command line that begins with these words has as its files
begun : (c : Command) (given files : List (List ℕ)) (place : ℕ) → HaveValues (options_of c) given → Stops (options_of c) given files → place < length files → (more : List (List ℕ)) (all : List (List ℕ)) (d : Command) → IsCommandLine ((command_name c ∷ (given ++ take (suc place) files)) ++ more) d all → (length (take (suc place) files ++ more) ≡ file_count c) × (list_all is_file_word (take (suc place) files ++ more) ≡ true)
begun c given files place have stops within more all d line =
    files_of c given (take (suc place) files ++ more) d all have (stops_taken c given files more place within stops)
    (subst (λ ws. IsCommandLine (command_name c ∷ ws) d all) (append_assoc given (take (suc place) files) more) line)

-- a command has so many file words, so no more of them begin one
too_many : (count : ℕ) (files more : List (List ℕ)) (place : ℕ) → place ≡ count → place < length files → length (take (suc place) files ++ more) ≡ count → ⊥
too_many count files more place last within is =
    omega (arith, last, within, is, length-append (take (suc place) files) more, length-take (suc place) files)

-- no command begins with a wrong file word
wrong_word : (files more : List (List ℕ)) (place : ℕ) → is_file_word (slice_index_or files place []) ≡ false → place < length files → list_all is_file_word (take (suc place) files ++ more) ≡ true → ⊥
wrong_word files more place wrong within right =
    let front = take (suc place) files in
    let long : place < length front = omega (arith, within, length-take (suc place) files) in
    let at : slice_index_or (front ++ more) place [] ≡ slice_index_or files place [] = get_or_append_left front more [] place long ∙ get_or-take (suc place) files place [] (omega arith) in
    let inside : place < length (front ++ more) = omega (arith, long, length-append front more) in
    let bad : list_all is_file_word (front ++ more) ≡ false = list_all_at is_file_word (front ++ more) place [] inside (ap is_file_word at ∙ wrong) in
    cc (bad, right)

-- of the words of a command, the first ones that set options and the first file words
taken : (name : List ℕ) (given files : List (List ℕ)) (place n : ℕ) → n ≡ suc (length given + place) → take n (name ∷ (given ++ files)) ≡ name ∷ (given ++ take place files)
taken name given files place n is =
    ap (λ m. take m (name ∷ (given ++ files))) is ∙ ap (λ ws. name ∷ ws) (take-append-add given files place)

-- the wrong word is the wrong file word
pub usage_of_file : (c : Command) (given files : List (List ℕ)) (place n : ℕ) → HaveValues (options_of c) given → Stops (options_of c) given files → IsWrongFile (file_count c) files place → n ≡ suc (length given + place) → IsUsage (command_name c ∷ (given ++ files)) n
usage_of_file c given files place n have stops w is = record {
  within = omega (arith, w.within, is, length-append given files);
  before = subst (λ ws. BeginsCommand ws) (sym (taken (command_name c) given files place n is)) (begins c given (take place files) have (omega (arith, w.few, length-take place files)) w.before);
  wrong = λ within begins_too.
      let inside : place < length files = omega (arith, within, is, length-append given files) in
      let more : suc n ≡ suc (length given + suc place) = omega (arith, is) in
      let line = subst (λ ws. BeginsCommand ws) (taken (command_name c) given files (suc place) (suc n) more) begins_too in
      let found = begun c given files place have stops inside line.0 line.1 line.2 line.3 in
      ⊎_elim
      (λ last. too_many (file_count c) files line.0 place last inside found.0)
      (λ bad. wrong_word files line.0 place bad inside found.1)
      (w.wrong inside);
  wanted = λ all d others line.
      let found = files_of c given files d others have stops line in
      let end : place ≡ length files = omega (arith, all, is, length-append given files) in
      omega (arith, found.0, end, w.wanted end);
}

-- some command begins with no word
begins_with_none : BeginsCommand []
begins_with_none = (
  codes "check" ∷ replicate 2 (120 ∷ []),
  replicate 2 (120 ∷ []),
  Check,
  record { given = []; values = []; words_are = refl; settings = refl; values_are = refl; count = refl; each = refl },
)

-- words that don't begin with a command's name
pub usage_of_command : (word : List ℕ) (files : List (List ℕ)) → ((c : Command) → word ≢ command_name c) → IsUsage (word ∷ files) 0
usage_of_command word files unknown = record {
  within = omega arith;
  before = begins_with_none;
  wrong = λ within line. unknown line.2 (head_same _ _ _ _ line.3.words_are);
  wanted = λ none. omega arith;
}

pub usage_of_nothing : (words : List (List ℕ)) → length words ≡ 0 → IsUsage words 0
usage_of_nothing [] none = record {
  within = omega arith;
  before = begins_with_none;
  wrong = λ within. omega arith;
  wanted = λ all d files line.
      let no : [] ≡ command_name d ∷ (line.given ++ files) = line.words_are in
      cc;
}
usage_of_nothing (word ∷ words) none = absurd (omega arith)

-- one more word than the first so many
take_next : (words : List (List ℕ)) (count : ℕ) (word : List ℕ) (more : List (List ℕ)) → drop count words ≡ word ∷ more → (count < length words) × (take (suc count) words ≡ take count words ++ word ∷ [])
take_next [] zero word more e = cc e
take_next [] (suc count) word more e = cc e
take_next (first ∷ words) zero word more e = let same : first ≡ word = cc e in (omega arith, ap (λ w. w ∷ []) same)
take_next (first ∷ words) (suc count) word more e =
    let next = take_next words count word more e in (omega (arith, next.0), ap (λ ws. first ∷ ws) next.1)

-- the most words that set options stop before one that sets no further one
pub stops_after : (c : Command) (words : List (List ℕ)) (count : ℕ) → (count < length words → HaveValues (options_of c) (take (suc count) words) → ⊥) → Stops (options_of c) (take count words) (drop count words)
stops_after c words count longest = λ word more e have.
    let next = take_next words count word more e in
    longest next.0 (subst (λ ws. HaveValues (options_of c) ws) (sym next.1) have)

-- the wrong word of a command whose first words set options
pub usage_of_words : (c : Command) (words : List (List ℕ)) (count place : ℕ) → IsSettingCount (options_of c) words count → IsWrongFile (file_count c) (drop count words) place → IsUsage (command_name c ∷ words) (1 + count + place)
usage_of_words c words count place counted w =
    subst (λ ws. IsUsage (command_name c ∷ ws) (1 + count + place)) (take-append-drop count words)
    (usage_of_file c (take count words) (drop count words) place (1 + count + place) counted.settings (stops_after c words count counted.longest) w (omega (arith, counted.within, length-take count words)))

-- the command line whose first words set options
pub line_of_words : (c d : Command) (words : List (List ℕ)) (count n : ℕ) → n ≡ suc count → IsSameKind c d → IsSetBy d (take count words) → AreFiles (file_count c) (drop count words) → IsCommandLine (command_name c ∷ words) d (drop n (command_name c ∷ words))
line_of_words c d words count n is kind set files =
    subst (λ m. IsCommandLine (command_name c ∷ words) d (drop m (command_name c ∷ words))) (sym is)
    (subst (λ ws. IsCommandLine (command_name c ∷ ws) d (drop count words)) (take-append-drop count words)
    (line_of c d (take count words) (drop count words) kind set files.0 files.1))

-- a command whose options have these values has them from the words
pub set_by_numbers : (c d : Command) (given : List (List ℕ)) → AreApart (options_of d) → IsSameKind c d → HaveValues (options_of c) given → HaveNumbers (options_of d) given (option_values d) → IsSetBy d given
set_by_numbers c d given apart kind have numbers =
    let are = subst (λ os. HaveValues os given) kind.options have in
    (are.0, are.1, numbers_are (options_of d) given are.0 (option_values d) apart are.1 numbers)
