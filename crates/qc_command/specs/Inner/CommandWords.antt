-- What the calls within this crate answer.
use Rattle.std.specs.Prelude.{ℕ, suc, ◌≡◌, ◌<◌, ◌≤◌, ◌⊎◌, List, [], ◌∷◌, length, take, true, false, Option}
use Rattle.std.specs.List.{AllByRecursion, list_all, slice_index_or}
use Rattle.qc_command.specs.Settings.{CommandOption, IsNumber, IsSetting, AreSettings, with_defaults}
use Rattle.qc_command.specs.Command.{command_name, options_of, option_values, file_count, is_file_word}
use Rattle.qc_command.specs.declared.settings.OptionRule.{OptionRule}
use Rattle.qc_command.specs.declared.words.Command.{Command}

-- the option of a rule
abbrev pub option_of : OptionRule → CommandOption
option_of rule = record { name = rule.name.now; least = rule.least; most = rule.most; default = rule.default }

abbrev pub IsNoNumber : List ℕ → Type 0
IsNoNumber digits = (number : ℕ) → IsNumber digits number → ⊥

-- the word doesn't set the option
abbrev pub IsNoSetting : CommandOption → List ℕ → Type 0
IsNoSetting option word = (value : ℕ) → IsSetting option word value → ⊥

-- one of the words sets the option to this value
abbrev pub IsSetTo : CommandOption → List (List ℕ) → ℕ → Type 0
IsSetTo option [] value = ⊥
IsSetTo option (word ∷ words) value = IsSetting option word value ⊎ IsSetTo option words value

-- none of the words sets the option
abbrev pub IsUnset : CommandOption → List (List ℕ) → Type 0
IsUnset option words = AllByRecursion (IsNoSetting option) words

-- the word sets the option, and none of those before it does
abbrev pub IsNewSetting : CommandOption → List (List ℕ) → List ℕ → Type 0
IsNewSetting option before word = ((value : ℕ) × IsSetting option word value) × IsUnset option before

-- the word sets one of the options, and none of those before it sets the same
abbrev pub SetsNew : List CommandOption → List (List ℕ) → List ℕ → Type 0
SetsNew [] before word = ⊥
SetsNew (option ∷ options) before word = IsNewSetting option before word ⊎ SetsNew options before word

-- the words set options, each at most once
abbrev pub HaveValues : List CommandOption → List (List ℕ) → Type 0
HaveValues options words = (values : List (Option ℕ)) × AreSettings options words values

-- no word sets the option and also one of the others
abbrev pub IsApartFrom : CommandOption → List CommandOption → Type 0
IsApartFrom option [] = Unit {0}
IsApartFrom option (other ∷ others) =
    ((word : List ℕ) (value number : ℕ) → IsSetting option word value → IsSetting other word number → ⊥) × IsApartFrom option others

-- no word sets two of the options
abbrev pub AreApart : List CommandOption → Type 0
AreApart [] = Unit {0}
AreApart (option ∷ options) = IsApartFrom option options × AreApart options

-- the most of the words, from the first on, that set options, each at most once
pub record IsSettingCount (options : List CommandOption) (words : List (List ℕ)) (count : ℕ) : Type 0 where
  pub within : count ≤ length words
  pub settings : HaveValues options (take count words)
  pub longest : count < length words → HaveValues options (take (suc count) words) → ⊥

-- the commands have one name, and the options and files of one
pub record IsSameKind (c d : Command) : Type 0 where
  pub name : command_name c ≡ command_name d
  pub options : options_of c ≡ options_of d
  pub files : file_count c ≡ file_count d

-- the option's value: the one that a word sets it to, or else its default
abbrev pub HasValue : CommandOption → List (List ℕ) → ℕ → Type 0
HasValue option words value = IsSetTo option words value ⊎ (IsUnset option words × (value ≡ option.default))

-- the command has its options as these words set them
abbrev pub IsSetBy : Command → List (List ℕ) → Type 0
IsSetBy command given = (values : List (Option ℕ)) × AreSettings (options_of command) given values × (option_values command ≡ with_defaults (options_of command) values)

-- the first wrong file word by its place from 0, or their number where more are wanted, of a command with this many
pub record IsWrongFile (count : ℕ) (files : List (List ℕ)) (place : ℕ) : Type 0 where
  pub within : place ≤ length files
  pub few : place ≤ count
  pub before : list_all is_file_word (take place files) ≡ true
  pub wrong : place < length files → (place ≡ count) ⊎ (is_file_word (slice_index_or files place []) ≡ false)
  pub wanted : place ≡ length files → place < count

-- the words are file words, and as many as `count` says
abbrev pub AreFiles : ℕ → List (List ℕ) → Type 0
AreFiles count files = (length files ≡ count) × (list_all is_file_word files ≡ true)
