-- The words of a command.
use Rattle.std.specs.Prelude.{ℕ, suc, ◌≡◌, ◌<◌, ◌≤◌, List, [], ◌∷◌, ◌++◌, length, take, map, Bool, true, false}
use Rattle.std.specs.Prelude.{Option, codes, not, nat_eq, String, string_bytes}
use Rattle.std.specs.List.{list_all}
use Rattle.std.specs.declared.alloc.Global.{Global}
use Rattle.qc_command.specs.Settings.{CommandOption, AreSettings, with_defaults}
use Rattle.qc_command.specs.declared.words.Command.{Command}
use Rattle.qc_command.specs.declared.words.Command.TheVariants.{Check, Compile, Run}

-- the bytes of each word
abbrev pub texts_of : List (String Global) → List (List ℕ)
texts_of words = map string_bytes words

-- the most steps that a run may have, and how many it has where none are given
unfoldable pub most_steps : ℕ
most_steps = 1000000000

unfoldable pub default_steps : ℕ
default_steps = 10000000

-- how many steps a run has
abbrev pub steps_option : CommandOption
steps_option = record { name = codes "steps"; least = 0; most = most_steps; default = default_steps }

-- the name of a command
abbrev pub command_name : Command → List ℕ
command_name Check = codes "check"
command_name Compile = codes "compile"
command_name (Run steps) = codes "run"

-- the options of a command
abbrev pub options_of : Command → List CommandOption
options_of Check = []
options_of Compile = []
options_of (Run steps) = steps_option ∷ []

-- the values of these options
abbrev pub option_values : Command → List ℕ
option_values Check = []
option_values Compile = []
option_values (Run steps) = steps ∷ []

-- How many files a command names. All have the text of a machine and that of its coding first. Compile has the tables,
-- the program, and the image that is to be written after them, and run an image and an input.
abbrev pub file_count : Command → ℕ
file_count Check = 2
file_count Compile = 5
file_count (Run steps) = 4

-- a file word isn't empty and doesn't begin with a dash
abbrev pub is_file_word : List ℕ → Bool
is_file_word [] = false
is_file_word (byte ∷ bytes) = not (nat_eq byte 45)

-- the words are the name of the command, then words that set its options, then its files
pub record IsCommandLine (words : List (List ℕ)) (command : Command) (files : List (List ℕ)) : Type 0 where
  pub given : List (List ℕ)
  pub values : List (Option ℕ)
  pub words_are : words ≡ command_name command ∷ (given ++ files)
  pub settings : AreSettings (options_of command) given values
  pub values_are : option_values command ≡ with_defaults (options_of command) values
  pub count : length files ≡ file_count command
  pub each : list_all is_file_word files ≡ true

-- some command line begins with these words
abbrev pub BeginsCommand : List (List ℕ) → Type 0
BeginsCommand words = (more files : List (List ℕ)) × (command : Command) × IsCommandLine (words ++ more) command files

-- The words are no command line, and their longest prefix that some command line starts with has this many words.
pub record IsUsage (words : List (List ℕ)) (word : ℕ) : Type 0 where
  pub within : word ≤ length words
  pub before : BeginsCommand (take word words)
  pub wrong : word < length words → BeginsCommand (take (suc word) words) → ⊥
  pub wanted : word ≡ length words → (command : Command) (files : List (List ℕ)) → IsCommandLine words command files → ⊥
