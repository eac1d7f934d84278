-- Words that set options.
use Rattle.std.proofs.Common.{◌≡◌, ℕ, true, false, List, [], ◌∷◌, ◌++◌, refl, sym, ap, subst, ◌∙◌, append_assoc, append-nil, inl, inr, ⊎_elim}
use Rattle.std.proofs.lemmas.Bool.{and_parts}
use Rattle.std.specs.Prelude.{Option, None, Some, codes}
use Rattle.std.specs.List.{list_all}
use Rattle.std.specs.Str.Parse.{digits_value}
use Rattle.std.proofs.lemmas.List.{append_cancel_left}
use Rattle.qc_command.specs.Settings.{CommandOption, IsSetting, AreSettings, with_defaults}
use Rattle.qc_command.specs.Command.{is_file_word}
use Rattle.qc_command.specs.Inner.CommandWords.{AreApart, HasValue, HaveValues, IsApartFrom, IsNoSetting, IsSetTo, IsUnset, SetsNew}
use Rattle.qc_command.proofs.Pieces.{AreNoFiles, all_at, all_insert, all_remove, no_words, only_word, some_words, split_twice, which_part}

-- a word sets an option to one value
pub one_value : (option : CommandOption) (word : List ℕ) (v n : ℕ) → IsSetting option word v → IsSetting option word n → v ≡ n
one_value option word v n set set_too =
    let after_dashes = append_cancel_left (codes "--") _ _ (sym set.word_is ∙ set_too.word_is) in
    let after_name = append_cancel_left option.name _ _ after_dashes in
    let digits : set.digits ≡ set_too.digits = append_cancel_left (codes "=") _ _ after_name in
    set.number.value ∙ ap (digits_value 10) digits ∙ sym set_too.number.value

-- an option that one of the words sets is not unset
pub set_or_unset : (option : CommandOption) (words : List (List ℕ)) (value : ℕ) → IsSetTo option words value → IsUnset option words → ⊥
set_or_unset option [] value set unset = set
set_or_unset option (word ∷ words) value (inl here) unset = unset.0 value here
set_or_unset option (word ∷ words) value (inr there) unset = set_or_unset option words value there unset.1

-- the only word that sets an option gives its value
pub set_value : (option : CommandOption) (before after : List (List ℕ)) (word : List ℕ) (value n : ℕ) → IsSetting option word value → IsUnset option (before ++ after) → IsSetTo option (before ++ word ∷ after) n → n ≡ value
set_value option [] after word value n set unset (inl here) = one_value option word n value here set
set_value option [] after word value n set unset (inr there) = absurd (set_or_unset option after n there unset)
set_value option (first ∷ before) after word value n set unset (inl here) = absurd (unset.0 n here)
set_value option (first ∷ before) after word value n set unset (inr there) = set_value option before after word value n set unset.1 there

-- words that set other options don't set this one
pub unset_among : (option : CommandOption) (options : List CommandOption) (words : List (List ℕ)) (values : List (Option ℕ)) → IsApartFrom option options → AreSettings options words values → IsUnset option words
unset_among option [] words [] apart are = subst (λ ws. IsUnset option ws) (sym are) tt
unset_among option [] words (value ∷ values) apart are = absurd are
unset_among option (other ∷ options) words [] apart are = absurd are
unset_among option (other ∷ options) words (None ∷ values) apart are = unset_among option options words values apart.1 are
unset_among option (other ∷ options) words (Some value ∷ values) apart are =
    subst (λ ws. IsUnset option ws) (sym are.3)
    (all_insert (IsNoSetting option) are.0 are.1 are.2 (unset_among option options (are.0 ++ are.1) values apart.1 are.5) (λ n set. apart.0 are.2 n value set are.4))

-- a word that is new among words is new among fewer of them
sets_remove : (options : List CommandOption) (before after : List (List ℕ)) (other word : List ℕ) → SetsNew options (before ++ other ∷ after) word → SetsNew options (before ++ after) word
sets_remove [] before after other word new = new
sets_remove (option ∷ options) before after other word (inl new) = inl (new.0, all_remove (IsNoSetting option) before after other new.1)
sets_remove (option ∷ options) before after other word (inr new) = inr (sets_remove options before after other word new)

-- a word that sets an option newly does so beside a word that sets another one too
sets_insert : (first : CommandOption) (options : List CommandOption) (before after : List (List ℕ)) (other word : List ℕ) (value : ℕ) → IsApartFrom first options → IsSetting first other value → SetsNew options (before ++ after) word → SetsNew options (before ++ other ∷ after) word
sets_insert first [] before after other word value apart set new = new
sets_insert first (option ∷ options) before after other word value apart set (inl new) =
    inl (new.0, all_insert (IsNoSetting option) before after other new.1 (λ n too. apart.0 other value n set too))
sets_insert first (option ∷ options) before after other word value apart set (inr new) =
    inr (sets_insert first options before after other word value apart.1 set new)

-- one more word that sets an option which is not yet set
pub one_more_setting : (options : List CommandOption) (words : List (List ℕ)) (values : List (Option ℕ)) (word : List ℕ) → AreSettings options words values → SetsNew options words word → HaveValues options (words ++ word ∷ [])
one_more_setting [] words values word are new = absurd new
one_more_setting (option ∷ options) words [] word are new = absurd are
one_more_setting (option ∷ options) words (None ∷ values) word are (inl new) =
    (Some new.0.0 ∷ values, (words, [], word, refl, new.0.1, subst (λ ws. AreSettings options ws values) (sym (append-nil words)) are))
one_more_setting (option ∷ options) words (None ∷ values) word are (inr new) =
    let more = one_more_setting options words values word are new in
    (None ∷ more.0, more.1)
one_more_setting (option ∷ options) words (Some value ∷ values) word are (inl new) =
    absurd (all_at (IsNoSetting option) are.0 are.1 are.2 (subst (λ ws. IsUnset option ws) are.3 new.1) value are.4)
one_more_setting (option ∷ options) words (Some value ∷ values) word are (inr new) =
    let fewer = sets_remove options are.0 are.1 are.2 word (subst (λ ws. SetsNew options ws word) are.3 new) in
    let more = one_more_setting options (are.0 ++ are.1) values word are.5 fewer in
    let split : words ++ word ∷ [] ≡ are.0 ++ are.2 ∷ (are.1 ++ word ∷ []) = ap (λ ws. ws ++ word ∷ []) are.3 ∙ append_assoc are.0 (are.2 ∷ are.1) (word ∷ []) in
    (Some value ∷ more.0, (are.0, are.1 ++ word ∷ [], are.2, split, are.4, subst (λ ws. AreSettings options ws more.0) (append_assoc are.0 are.1 (word ∷ [])) more.1))

-- the last of words that set options is new among those before it
pub last_is_new : (options : List CommandOption) (words : List (List ℕ)) (values : List (Option ℕ)) (word : List ℕ) → AreApart options → AreSettings options (words ++ word ∷ []) values → SetsNew options words word
last_is_new [] words [] word apart are = some_words word words [] are
last_is_new [] words (value ∷ values) word apart are = are
last_is_new (option ∷ options) words [] word apart are = absurd are
last_is_new (option ∷ options) words (None ∷ values) word apart are = inr (last_is_new options words values word apart.1 are)
last_is_new (option ∷ options) words (Some value ∷ values) word apart are =
    ⊎_elim
    (λ l.
    let only = only_word word are.2 l.0 are.1 l.2 in
    let rest : are.0 ++ are.1 ≡ words = ap (λ ws. are.0 ++ ws) only.1 ∙ append-nil are.0 ∙ l.1 ∙ ap (λ ws. words ++ ws) only.0 ∙ append-nil words in
    inl ((value, subst (λ w. IsSetting option w value) (sym only.2) are.4), subst (λ ws. IsUnset option ws) rest (unset_among option options (are.0 ++ are.1) values apart.0 are.5)))
    (λ r.
    let rest : are.0 ++ are.1 ≡ (are.0 ++ r.0) ++ word ∷ [] = ap (λ ws. are.0 ++ ws) r.2 ∙ sym (append_assoc are.0 r.0 (word ∷ [])) in
    let new = last_is_new options (are.0 ++ r.0) values word apart.1 (subst (λ ws. AreSettings options ws values) rest are.5) in
    inr (subst (λ ws. SetsNew options ws word) (sym r.1) (sets_insert option options are.0 r.0 are.2 word value apart.0 are.4 new)))
    (which_part words (word ∷ []) are.0 are.1 are.2 are.3)

-- the first of words that set options set options
pub front_settings : (options : List CommandOption) (xs ys : List (List ℕ)) (values : List (Option ℕ)) → AreSettings options (xs ++ ys) values → HaveValues options xs
front_settings [] xs ys [] are = ([], no_words xs ys are)
front_settings [] xs ys (value ∷ values) are = absurd are
front_settings (option ∷ options) xs ys [] are = absurd are
front_settings (option ∷ options) xs ys (None ∷ values) are =
    let front = front_settings options xs ys values are in
    (None ∷ front.0, front.1)
front_settings (option ∷ options) xs ys (Some value ∷ values) are =
    ⊎_elim
    (λ l.
    let rest : are.0 ++ are.1 ≡ xs ++ (l.0 ++ are.1) = ap (λ ws. ws ++ are.1) l.1 ∙ append_assoc xs l.0 are.1 in
    let front = front_settings options xs (l.0 ++ are.1) values (subst (λ ws. AreSettings options ws values) rest are.5) in
    (None ∷ front.0, front.1))
    (λ r.
    let rest : are.0 ++ are.1 ≡ (are.0 ++ r.0) ++ ys = ap (λ ws. are.0 ++ ws) r.2 ∙ sym (append_assoc are.0 r.0 ys) in
    let front = front_settings options (are.0 ++ r.0) ys values (subst (λ ws. AreSettings options ws values) rest are.5) in
    (Some value ∷ front.0, (are.0, r.0, are.2, r.1, are.4, front.1)))
    (which_part xs ys are.0 are.1 are.2 are.3)

-- the one word that sets an option stands at one place
one_place : (option : CommandOption) (xs ys zs ws : List (List ℕ)) (word other : List ℕ) (v n : ℕ) → IsSetting option word v → IsSetting option other n → IsUnset option (xs ++ ys) → IsUnset option (zs ++ ws) → xs ++ word ∷ ys ≡ zs ++ other ∷ ws → (xs ++ ys ≡ zs ++ ws) × (word ≡ other)
one_place option [] ys [] ws word other v n set set_too unset unset_too e = (cc e, cc e)
one_place option [] ys (z ∷ zs) ws word other v n set set_too unset unset_too e =
    let same : word ≡ z = cc e in
    absurd (unset_too.0 v (subst (λ w. IsSetting option w v) same set))
one_place option (x ∷ xs) ys [] ws word other v n set set_too unset unset_too e =
    let same : other ≡ x = cc e in
    absurd (unset.0 n (subst (λ w. IsSetting option w n) same set_too))
one_place option (x ∷ xs) ys (z ∷ zs) ws word other v n set set_too unset unset_too e =
    let first : x ≡ z = cc e in
    let rest : xs ++ word ∷ ys ≡ zs ++ other ∷ ws = cc e in
    let more = one_place option xs ys zs ws word other v n set set_too unset.1 unset_too.1 rest in
    let same : x ∷ (xs ++ ys) ≡ z ∷ (zs ++ ws) = cc (first, more.0) in
    (same, more.1)

-- words that set options give them one list of values
pub one_list_of_values : (options : List CommandOption) (words : List (List ℕ)) (values numbers : List (Option ℕ)) → AreApart options → AreSettings options words values → AreSettings options words numbers → values ≡ numbers
one_list_of_values [] words [] [] apart are are_too = refl
one_list_of_values [] words [] (n ∷ numbers) apart are are_too = absurd are_too
one_list_of_values [] words (v ∷ values) numbers apart are are_too = absurd are
one_list_of_values (option ∷ options) words [] numbers apart are are_too = absurd are
one_list_of_values (option ∷ options) words (v ∷ values) [] apart are are_too = absurd are_too
one_list_of_values (option ∷ options) words (None ∷ values) (None ∷ numbers) apart are are_too =
    ap (λ vs. None ∷ vs) (one_list_of_values options words values numbers apart.1 are are_too)
one_list_of_values (option ∷ options) words (None ∷ values) (Some n ∷ numbers) apart are are_too =
    let unset = unset_among option options words values apart.0 are in
    absurd (all_at (IsNoSetting option) are_too.0 are_too.1 are_too.2 (subst (λ ws. IsUnset option ws) are_too.3 unset) n are_too.4)
one_list_of_values (option ∷ options) words (Some v ∷ values) (None ∷ numbers) apart are are_too =
    let unset = unset_among option options words numbers apart.0 are_too in
    absurd (all_at (IsNoSetting option) are.0 are.1 are.2 (subst (λ ws. IsUnset option ws) are.3 unset) v are.4)
one_list_of_values (option ∷ options) words (Some v ∷ values) (Some n ∷ numbers) apart are are_too =
    let unset = unset_among option options (are.0 ++ are.1) values apart.0 are.5 in
    let unset_too = unset_among option options (are_too.0 ++ are_too.1) numbers apart.0 are_too.5 in
    let place = one_place option are.0 are.1 are_too.0 are_too.1 are.2 are_too.2 v n are.4 are_too.4 unset unset_too (sym are.3 ∙ are_too.3) in
    let value = one_value option are_too.2 v n (subst (λ w. IsSetting option w v) place.1 are.4) are_too.4 in
    let more = one_list_of_values options (are_too.0 ++ are_too.1) values numbers apart.1 (subst (λ ws. AreSettings options ws values) place.0 are.5) are_too.5 in
    cc (value, more)

-- a word that sets an option begins with a dash
setting_is_no_file : (option : CommandOption) (word : List ℕ) (value : ℕ) → IsSetting option word value → is_file_word word ≡ false
setting_is_no_file option word value set = ap is_file_word set.word_is

pub settings_are_no_files : (options : List CommandOption) (words : List (List ℕ)) (values : List (Option ℕ)) → AreSettings options words values → AreNoFiles words
settings_are_no_files [] words [] are = subst (λ ws. AreNoFiles ws) (sym are) tt
settings_are_no_files [] words (value ∷ values) are = absurd are
settings_are_no_files (option ∷ options) words [] are = absurd are
settings_are_no_files (option ∷ options) words (None ∷ values) are = settings_are_no_files options words values are
settings_are_no_files (option ∷ options) words (Some value ∷ values) are =
    subst (λ ws. AreNoFiles ws) (sym are.3)
    (all_insert (λ w. is_file_word w ≡ false) are.0 are.1 are.2 (settings_are_no_files options (are.0 ++ are.1) values are.5) (setting_is_no_file option are.2 value are.4))

-- each option has this value
abbrev pub HaveNumbers : List CommandOption → List (List ℕ) → List ℕ → Type 0
HaveNumbers [] words [] = Unit {0}
HaveNumbers [] words (n ∷ numbers) = ⊥
HaveNumbers (option ∷ options) words [] = ⊥
HaveNumbers (option ∷ options) words (n ∷ numbers) = HasValue option words n × HaveNumbers options words numbers

-- a word that sets no option of these may be left out
set_remove : (option : CommandOption) (before after : List (List ℕ)) (word : List ℕ) (n : ℕ) → IsNoSetting option word → IsSetTo option (before ++ word ∷ after) n → IsSetTo option (before ++ after) n
set_remove option [] after word n unlike (inl here) = absurd (unlike n here)
set_remove option [] after word n unlike (inr there) = there
set_remove option (first ∷ before) after word n unlike (inl here) = inl here
set_remove option (first ∷ before) after word n unlike (inr there) = inr (set_remove option before after word n unlike there)

numbers_remove : (first : CommandOption) (options : List CommandOption) (before after : List (List ℕ)) (word : List ℕ) (value : ℕ) (numbers : List ℕ) → IsApartFrom first options → IsSetting first word value → HaveNumbers options (before ++ word ∷ after) numbers → HaveNumbers options (before ++ after) numbers
numbers_remove first [] before after word value [] apart set have = tt
numbers_remove first [] before after word value (n ∷ numbers) apart set have = have
numbers_remove first (option ∷ options) before after word value [] apart set have = have
numbers_remove first (option ∷ options) before after word value (n ∷ numbers) apart set have = (
  ⊎_elim
      (λ is. inl (set_remove option before after word n (λ m too. apart.0 word value m set too) is))
      (λ not. inr (all_remove (IsNoSetting option) before after word not.0, not.1))
      have.0,
  numbers_remove first options before after word value numbers apart.1 set have.1,
)

-- the values of options, read one by one, are those that the words give
pub numbers_are : (options : List CommandOption) (words : List (List ℕ)) (values : List (Option ℕ)) (numbers : List ℕ) → AreApart options → AreSettings options words values → HaveNumbers options words numbers → numbers ≡ with_defaults options values
numbers_are [] words values [] apart are have = refl
numbers_are [] words values (n ∷ numbers) apart are have = absurd have
numbers_are (option ∷ options) words [] numbers apart are have = absurd are
numbers_are (option ∷ options) words (v ∷ values) [] apart are have = absurd have
numbers_are (option ∷ options) words (None ∷ values) (n ∷ numbers) apart are have =
    let first : n ≡ option.default = ⊎_elim (λ set. absurd (set_or_unset option words n set (unset_among option options words values apart.0 are))) (λ not. not.1) have.0 in
    let more = numbers_are options words values numbers apart.1 are have.1 in
    cc (first, more)
numbers_are (option ∷ options) words (Some v ∷ values) (n ∷ numbers) apart are have =
    let unset = unset_among option options (are.0 ++ are.1) values apart.0 are.5 in
    let there : HaveNumbers (option ∷ options) (are.0 ++ are.2 ∷ are.1) (n ∷ numbers) = subst (λ ws. HaveNumbers (option ∷ options) ws (n ∷ numbers)) are.3 have in
    let first : n ≡ v = ⊎_elim (λ set. set_value option are.0 are.1 are.2 v n are.4 unset set) (λ not. absurd (all_at (IsNoSetting option) are.0 are.1 are.2 not.0 v are.4)) there.0 in
    let more = numbers_are options (are.0 ++ are.1) values numbers apart.1 are.5 (numbers_remove option options are.0 are.1 are.2 v numbers apart.0 are.4 there.1) in
    cc (first, more)

-- no word that could follow sets one more option
abbrev pub Stops : List CommandOption → List (List ℕ) → List (List ℕ) → Type 0
Stops options given after = (word : List ℕ) (more : List (List ℕ)) → after ≡ word ∷ more → HaveValues options (given ++ word ∷ []) → ⊥

no_longer : (options : List CommandOption) (given after others files : List (List ℕ)) (values : List (Option ℕ)) → Stops options given after → AreSettings options others values → (rest : List (List ℕ)) → others ≡ given ++ rest → after ≡ rest ++ files → (given ≡ others) × (after ≡ files)
no_longer options given after others files values stops are [] longer behind = (sym (append-nil given) ∙ sym longer, behind)
no_longer options given after others files values stops are (word ∷ rest) longer behind =
    let split : others ≡ (given ++ word ∷ []) ++ rest = longer ∙ sym (append_assoc given (word ∷ []) rest) in
    absurd (stops word (rest ++ files) behind (front_settings options (given ++ word ∷ []) rest values (subst (λ ws. AreSettings options ws values) split are)))

no_shorter : (given after others files rest : List (List ℕ)) (word : List ℕ) → AreNoFiles given → list_all is_file_word files ≡ true → given ≡ others ++ word ∷ rest → files ≡ word ∷ (rest ++ after) → ⊥
no_shorter given after others files rest word none all longer behind =
    let wrong : is_file_word word ≡ false = all_at (λ w. is_file_word w ≡ false) others rest word (subst (λ ws. AreNoFiles ws) longer none) in
    let right = and_parts (is_file_word word) (list_all is_file_word (rest ++ after)) (sym (ap (list_all is_file_word) behind) ∙ all) in
    cc (wrong, right.0)

-- the words that set options are those before the first that sets no further one
pub same_given : (options : List CommandOption) (given after others files : List (List ℕ)) (values : List (Option ℕ)) → AreNoFiles given → Stops options given after → AreSettings options others values → list_all is_file_word files ≡ true → given ++ after ≡ others ++ files → (given ≡ others) × (after ≡ files)
same_given options given after others files values none stops are all e =
    ⊎_elim
    (λ l. no_longer options given after others files values stops are l.0 l.1 l.2)
    (λ r. absurd (no_shorter given after others files r.1 r.0 none all r.2 r.3))
    (split_twice given after others files e)
