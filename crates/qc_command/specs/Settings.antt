-- The options of a command, and the words that set them.
use Rattle.std.specs.Prelude.{ℕ, ◌≡◌, ◌≤◌, List, [], ◌∷◌, ◌++◌, length, true, Option, Some, None, unwrap_or, codes}
use Rattle.std.specs.Char.{is_ascii_digit}
use Rattle.std.specs.List.{list_all}
use Rattle.std.specs.Str.Parse.{digits_value}

-- an option: its name, the least and the most of its values, and its value where it isn't given
pub record CommandOption : Type 0 where
  pub name : List ℕ
  pub least : ℕ
  pub most : ℕ
  pub default : ℕ

-- one to ten decimal digits, of which the first may be zeros, and their number
pub record IsNumber (digits : List ℕ) (number : ℕ) : Type 0 where
  pub all : list_all is_ascii_digit digits ≡ true
  pub some : 1 ≤ length digits
  pub few : length digits ≤ 10
  pub value : number ≡ digits_value 10 digits

-- the word `--name=digits`, which sets the option to a value in its range
pub record IsSetting (option : CommandOption) (word : List ℕ) (value : ℕ) : Type 0 where
  pub digits : List ℕ
  pub word_is : word ≡ codes "--" ++ (option.name ++ (codes "=" ++ digits))
  pub number : IsNumber digits value
  pub least : option.least ≤ value
  pub most : value ≤ option.most

-- The words set options, each at most once and in any order. The values are those of all the options, with none for
-- an option that the words don't set.
abbrev pub AreSettings : List CommandOption → List (List ℕ) → List (Option ℕ) → Type 0
AreSettings [] words [] = words ≡ []
AreSettings [] words (value ∷ values) = ⊥
AreSettings (option ∷ options) words [] = ⊥
AreSettings (option ∷ options) words (None ∷ values) = AreSettings options words values
AreSettings (option ∷ options) words (Some value ∷ values) =
    (before after : List (List ℕ)) × (word : List ℕ) × (words ≡ before ++ word ∷ after) × IsSetting option word value × AreSettings options (before ++ after) values

-- the values, with its default for each option that has none
abbrev pub with_defaults : List CommandOption → List (Option ℕ) → List ℕ
with_defaults [] values = []
with_defaults (option ∷ options) [] = []
with_defaults (option ∷ options) (value ∷ values) = unwrap_or value option.default ∷ with_defaults options values
