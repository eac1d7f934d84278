-- Options that no word sets both.
use Rattle.std.proofs.Common.{◌≡◌, ◌&&◌, ◌||◌, ℕ, Bool, true, false, List, [], ◌∷◌, ◌++◌, refl, sym, ap, ◌∙◌, append_assoc, nat_eq, not, eq-eqb}
use Rattle.std.proofs.lemmas.Bool.{and_parts}
use Rattle.std.specs.Prelude.{codes}
use Rattle.std.specs.List.{list_all}
use Rattle.std.proofs.lemmas.List.{append_cancel_left}
use Rattle.qc_command.specs.Settings.{CommandOption, IsSetting}
use Rattle.qc_command.specs.Command.{options_of}
use Rattle.qc_command.specs.Inner.CommandWords.{AreApart, IsApartFrom}
use Rattle.qc_command.specs.declared.words.Command.{Command}
use Rattle.qc_command.specs.declared.words.Command.TheVariants.{Check, Compile, Run}

-- the texts differ at a place that both have
abbrev differ : List ℕ → List ℕ → Bool
differ [] ys = false
differ (x ∷ xs) [] = false
differ (x ∷ xs) (y ∷ ys) = not (nat_eq x y) || differ xs ys

-- the names of the options differ so
abbrev differ_all : CommandOption → List CommandOption → Bool
differ_all option others = list_all (λ other. differ (option.name ++ codes "=") (other.name ++ codes "=")) others

abbrev have_own_names : List CommandOption → Bool
have_own_names [] = true
have_own_names (option ∷ options) = differ_all option options && have_own_names options

-- texts that differ so begin no text both
no_text : (xs ys ds es : List ℕ) → differ xs ys ≡ true → xs ++ ds ≡ ys ++ es → ⊥
no_text [] ys ds es apart e = cc apart
no_text (x ∷ xs) [] ds es apart e = cc apart
no_text (x ∷ xs) (y ∷ ys) ds es apart e =
    let first : x ≡ y = cc e in
    let rest : xs ++ ds ≡ ys ++ es = cc e in
    no_text xs ys ds es (sym (ap (λ b. not b || differ xs ys) (eq-eqb x y first)) ∙ apart) rest

not_both : (option other : CommandOption) → differ (option.name ++ codes "=") (other.name ++ codes "=") ≡ true → (word : List ℕ) (value number : ℕ) → IsSetting option word value → IsSetting other word number → ⊥
not_both option other apart word value number set set_too =
    no_text (option.name ++ codes "=") (other.name ++ codes "=") set.digits set_too.digits apart
    (append_assoc option.name (codes "=") set.digits ∙ append_cancel_left (codes "--") _ _ (sym set.word_is ∙ set_too.word_is) ∙ sym (append_assoc other.name (codes "=") set_too.digits))

apart_from : (option : CommandOption) (others : List CommandOption) → differ_all option others ≡ true → IsApartFrom option others
apart_from option [] own = tt
apart_from option (other ∷ others) own =
    let both = and_parts (differ (option.name ++ codes "=") (other.name ++ codes "=")) (differ_all option others) own in
    (not_both option other both.0, apart_from option others both.1)

apart_by_names : (options : List CommandOption) → have_own_names options ≡ true → AreApart options
apart_by_names [] own = tt
apart_by_names (option ∷ options) own =
    let both = and_parts (differ_all option options) (have_own_names options) own in
    (apart_from option options both.0, apart_by_names options both.1)

-- a command's options are apart
pub apart : (c : Command) → AreApart (options_of c)
apart Check = apart_by_names [] refl
apart Compile = apart_by_names [] refl
apart (Run steps) = apart_by_names (options_of (Run steps)) refl
