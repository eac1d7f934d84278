-- Words that are a command line, and words that are none.
use Rattle.std.proofs.Common.{◌≡◌, ◌<◌, ℕ, suc, List, [], ◌++◌, take, drop, sym, ap, subst, ◌∙◌, arith, append_assoc, append-nil, ⊎_elim}
use Rattle.std.proofs.Math.Nat.{eq-or-lt_of_le}
use Rattle.std.proofs.lemmas.List.{take-take, take-append-drop}
use Rattle.qc_command.specs.Settings.{AreSettings, with_defaults}
use Rattle.qc_command.specs.Command.{BeginsCommand, IsCommandLine, IsUsage, command_name, option_values, options_of}
use Rattle.qc_command.specs.declared.words.Command.{Command}
use Rattle.qc_command.proofs.Apart.{apart}
use Rattle.qc_command.proofs.Pieces.{one_split}
use Rattle.qc_command.proofs.SettingLemmas.{one_list_of_values, settings_are_no_files}
use Rattle.qc_command.proofs.UsageLemmas.{command_from, head_same, same_from, same_kind, tail_same}

-- a prefix of words that begin a command begins one
front_begins : (words : List (List ℕ)) (n : ℕ) → BeginsCommand words → BeginsCommand (take n words)
front_begins words n begins = (
  drop n words ++ begins.0,
  begins.1,
  begins.2,
  subst (λ ws. IsCommandLine ws begins.2 begins.1) (sym (sym (append_assoc (take n words) (drop n words) begins.0) ∙ ap (λ ws. ws ++ begins.0) (take-append-drop n words))) begins.3,
)

-- the words of a command begin one
command_begins : (words files : List (List ℕ)) (command : Command) → IsCommandLine words command files → BeginsCommand words
command_begins words files command line =
    ([], files, command, subst (λ ws. IsCommandLine ws command files) (sym (append-nil words)) line)

-- each prefix of a command begins one, also that with the wrong word
pub usage_is_no_command : (words files : List (List ℕ)) (command : Command) (word : ℕ) → IsUsage words word → IsCommandLine words command files → ⊥
usage_is_no_command words files command word usage line =
    ⊎_elim
    (λ none. usage.wanted none command files line)
    (λ less. usage.wrong less (front_begins words (suc word) (command_begins words files command line)))
    (eq-or-lt_of_le usage.within)

-- the wrong word is not before another
no_earlier : (words : List (List ℕ)) (a b : ℕ) → IsUsage words a → IsUsage words b → a < b → ⊥
no_earlier words a b usage usage_too less =
    usage.wrong (omega (arith, less, usage_too.within))
    (subst (λ ws. BeginsCommand ws) (take-take (suc a) b words less) (front_begins (take b words) (suc a) usage_too.before))

-- the first wrong word is one
pub one_usage : (words : List (List ℕ)) (a b : ℕ) → IsUsage words a → IsUsage words b → a ≡ b
one_usage words a b usage usage_too =
    omega (arith, no_earlier words a b usage usage_too, no_earlier words b a usage_too usage)

-- commands of one name with the same values of their options are one
same_command : (c d : Command) → command_name c ≡ command_name d → option_values c ≡ option_values d → c ≡ d
same_command c d e values =
    sym (same_from c) ∙ ap (λ name. command_from name (option_values c)) e ∙ ap (command_from (command_name d)) values ∙ same_from d

-- the words say which command it is, which words set options, and which are files
pub one_command : (words fs gs : List (List ℕ)) (c d : Command) → IsCommandLine words c fs → IsCommandLine words d gs → (c ≡ d) × (fs ≡ gs)
one_command words fs gs c d line line_too =
    let words_are = sym line.words_are ∙ line_too.words_are in
    let kind = same_kind c d (head_same _ _ _ _ words_are) in
    let none = settings_are_no_files (options_of c) line.given line.values line.settings in
    let none_too = settings_are_no_files (options_of d) line_too.given line_too.values line_too.settings in
    let split = one_split line.given line_too.given fs gs none none_too line.each line_too.each (tail_same _ _ _ _ words_are) in
    let settings = subst (λ ws. AreSettings (options_of c) ws line_too.values) (sym split.0) (subst (λ os. AreSettings os line_too.given line_too.values) (sym kind.options) line_too.settings) in
    let values = one_list_of_values (options_of c) line.given line.values line_too.values (apart c) line.settings settings in
    let numbers : option_values c ≡ option_values d =
    line.values_are ∙ ap (with_defaults (options_of c)) values ∙ ap (λ os. with_defaults os line_too.values) kind.options ∙ sym line_too.values_are in
    (same_command c d kind.name numbers, split.1)
