-- What the calls that read a word say of it.
use Rattle.std.proofs.Common.{◌≡◌, ◌<◌, ◌≤◌, ◌+◌, ℕ, zero, suc, Bool, true, false, List, [], ◌∷◌, ◌++◌, length, take, refl, sym, ap, subst, ◌∙◌, arith, rules, Ok, Err, Result, Bor, inl, inr, add-one, append-nil}
use Rattle.std.specs.Prelude.{Option, None, Some, codes, is_some, not, MatchBool, MatchOption}
use Rattle.std.specs.List.{list_all, slice_index_or}
use Rattle.std.specs.Result.{result_ok}
use Rattle.std.specs.Char.{is_ascii_digit}
use Rattle.std.specs.Str.Parse.{ParsesUnsigned, digits_value}
use Rattle.std.specs.Str.Pattern.{FindsTextPrefix, StripsPrefix}
use Rattle.std.proofs.lemmas.List.{append_cancel_left, take_more}
use Rattle.std.proofs.lemmas.Str.Parse.{IsNumeralModel, numerals_by_value, parse_digits, digits_value_short}
use Rattle.qc_command.specs.Settings.{CommandOption, AreSettings, IsNumber, IsSetting}
use Rattle.qc_command.specs.Inner.CommandWords.{AreApart, HaveValues, IsNewSetting, IsNoNumber, IsNoSetting, IsSetTo, IsSettingCount, IsUnset, SetsNew}
use Rattle.qc_command.proofs.Pieces.{all_insert}
use Rattle.qc_command.proofs.SettingLemmas.{last_is_new, one_more_setting, set_or_unset}

own : IsNumeralModel (λ ds. list_all is_ascii_digit ds ≡ true) (digits_value 10)
own = numerals_by_value _ (search rules)

-- what is read of at most ten digits, if anything, is their number
pub read_number : {E : Type 0} (digits : List ℕ) (r : Result ℕ E) → ParsesUnsigned 64 10 digits r → list_all is_ascii_digit digits ≡ true → length digits ≤ 10 → MatchOption (result_ok r) (IsNoNumber digits) (λ n. IsNumber digits n)
read_number {E} digits (Ok n) h all few =
    let read = parse_digits own {E = E} 64 digits (Ok n) h all in
    record { all = all; some = omega (arith, read.0.0); few = few; value = read.1 }
read_number {E} digits (Err e) h all few = λ n is.
    let read = parse_digits own {E = E} 64 digits (Err e) h all in
    read (omega (arith, is.some), omega (arith, digits_value_short own digits 10 all few))

-- a text after one that was stripped from it
stripped : (front text rest : List ℕ) → StripsPrefix (FindsTextPrefix front) text rest → text ≡ front ++ rest
stripped front text rest strips = strips.1.1 ∙ ap (λ ws. front ++ ws) (sym strips.2)

-- three texts that were stripped, or of which the last does not follow
pub after_three : (a b c word second third : List ℕ) (r : Option (Bor (List ℕ))) → StripsPrefix (FindsTextPrefix a) word second → StripsPrefix (FindsTextPrefix b) second third → MatchOption r (FindsTextPrefix c third None) (λ x. StripsPrefix (FindsTextPrefix c) third x.now) →
    MatchOption r ((digits : List ℕ) → word ≡ a ++ (b ++ (c ++ digits)) → ⊥) (λ x. word ≡ a ++ (b ++ (c ++ x.now)))
after_three a b c word second third None first next last = λ digits is.
    let after_first = append_cancel_left a _ _ (sym (stripped a word second first) ∙ is) in
    let after_next = append_cancel_left b _ _ (sym (stripped b second third next) ∙ after_first) in
    last digits after_next
after_three a b c word second third (Some x) first next last =
    stripped a word second first ∙ ap (λ ws. a ++ ws) (stripped b second third next ∙ ap (λ ws. b ++ ws) (stripped c third x.now last))

-- the digits of a setting are what follows its name
pub number_of_setting : (option : CommandOption) (word digits : List ℕ) (value : ℕ) → word ≡ codes "--" ++ (option.name ++ (codes "=" ++ digits)) → IsSetting option word value → IsNumber digits value
number_of_setting option word digits value is set =
    let after_dashes = append_cancel_left (codes "--") _ _ (sym set.word_is ∙ is) in
    let after_name = append_cancel_left option.name _ _ after_dashes in
    subst (λ ds. IsNumber ds value) (append_cancel_left (codes "=") _ _ after_name) set.number

-- a word that sets the option stands among the words
pub set_at : (option : CommandOption) (words : List (List ℕ)) (place : ℕ) (word : List ℕ) (value : ℕ) → place < length words → slice_index_or words place [] ≡ word → IsSetting option word value → IsSetTo option words value
set_at option [] place word value within at set = absurd (omega arith)
set_at option (first ∷ words) zero word value within at set = inl (subst (λ w. IsSetting option w value) (sym at) set)
set_at option (first ∷ words) (suc place) word value within at set = inr (set_at option words place word value (omega arith) at set)

-- one more word that doesn't set the option
pub unset_more : (option : CommandOption) (words : List (List ℕ)) (place : ℕ) (word : List ℕ) → place < length words → slice_index_or words place [] ≡ word → IsUnset option (take place words) → IsNoSetting option word → IsUnset option (take (place + 1) words)
unset_more option words place word within at unset unlike =
    let front : IsUnset option (take place words ++ []) = subst (λ ws. IsUnset option ws) (sym (append-nil (take place words))) unset in
    let more : take (place + 1) words ≡ take place words ++ word ∷ [] = take_more words place [] within ∙ ap (λ w. take place words ++ w ∷ []) at in
    subst (λ ws. IsUnset option ws) (sym more) (all_insert (IsNoSetting option) (take place words) [] word front unlike)

-- a word that sets the option is new where no word before it does
pub new_setting : (option : CommandOption) (before : List (List ℕ)) (word : List ℕ) (value : ℕ) (r : Option ℕ) (none : Bool) → is_some r ≡ not none → IsSetting option word value → MatchOption r (IsUnset option before) (λ v. IsSetTo option before v) → MatchBool none (IsNewSetting option before word) (IsNewSetting option before word → ⊥)
new_setting option before word value None true e set unset = ((value, set), unset)
new_setting option before word value None false e set unset = cc e
new_setting option before word value (Some v) true e set earlier = cc e
new_setting option before word value (Some v) false e set earlier = λ new. set_or_unset option before v earlier new.1

-- no words set no options
pub none_given : (options : List CommandOption) → HaveValues options []
none_given [] = ([], refl)
none_given (option ∷ options) = let none = none_given options in (None ∷ none.0, none.1)

-- one word after the first so many
next_taken : (words : List (List ℕ)) (place : ℕ) (word : List ℕ) → place < length words → slice_index_or words place [] ≡ word → take (place + 1) words ≡ take place words ++ word ∷ []
next_taken words place word within at = take_more words place [] within ∙ ap (λ w. take place words ++ w ∷ []) at

-- words up to one that is not new
pub count_at : (options : List CommandOption) (words before : List (List ℕ)) (place : ℕ) (word : List ℕ) → AreApart options → place < length words → slice_index_or words place [] ≡ word → before ≡ take place words → HaveValues options (take place words) → (SetsNew options before word → ⊥) → IsSettingCount options words place
count_at options words before place word apart within at front have old = record {
  within = omega arith;
  settings = have;
  longest = λ less longer.
      let split : take (suc place) words ≡ take place words ++ word ∷ [] = rw add-one at (next_taken words place word within at) in
      let are = subst (λ ws. AreSettings options ws longer.0) split longer.1 in
      old (subst (λ ws. SetsNew options ws word) (sym front) (last_is_new options (take place words) longer.0 word apart are));
}

-- words up to one that is new, and that one
pub count_more : (options : List CommandOption) (words before : List (List ℕ)) (place : ℕ) (word : List ℕ) → place < length words → slice_index_or words place [] ≡ word → before ≡ take place words → HaveValues options (take place words) → SetsNew options before word → HaveValues options (take (place + 1) words)
count_more options words before place word within at front have new =
    subst (λ ws. HaveValues options ws) (sym (next_taken words place word within at))
    (one_more_setting options (take place words) have.0 word have.1 (subst (λ ws. SetsNew options ws word) front new))
