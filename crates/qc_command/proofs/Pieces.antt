-- Words that stand in lists of words.
use Rattle.std.proofs.Common.{◌≡◌, ◌⊎◌, ◌&&◌, ℕ, Bool, true, false, List, [], ◌∷◌, ◌++◌, refl, ap, ◌∙◌, inl, inr, ⊎_elim}
use Rattle.std.proofs.lemmas.Bool.{and_parts}
use Rattle.std.specs.List.{AllByRecursion, list_all}
use Rattle.qc_command.specs.Command.{is_file_word}

-- what holds of each word before and after one, and of that one
pub all_insert : (P : List ℕ → Type 0) (before after : List (List ℕ)) (word : List ℕ) → AllByRecursion P (before ++ after) → P word → AllByRecursion P (before ++ word ∷ after)
all_insert P [] after word all here = (here, all)
all_insert P (first ∷ before) after word all here = (all.0, all_insert P before after word all.1 here)

pub all_remove : (P : List ℕ → Type 0) (before after : List (List ℕ)) (word : List ℕ) → AllByRecursion P (before ++ word ∷ after) → AllByRecursion P (before ++ after)
all_remove P [] after word all = all.1
all_remove P (first ∷ before) after word all = (all.0, all_remove P before after word all.1)

pub all_at : (P : List ℕ → Type 0) (before after : List (List ℕ)) (word : List ℕ) → AllByRecursion P (before ++ word ∷ after) → P word
all_at P [] after word all = all.0
all_at P (first ∷ before) after word all = all_at P before after word all.1

-- one list split in two ways: one of the first parts begins with the other
pub split_twice : (xs ys zs ws : List (List ℕ)) → xs ++ ys ≡ zs ++ ws →
    ((rest : List (List ℕ)) × (zs ≡ xs ++ rest) × (ys ≡ rest ++ ws)) ⊎ ((word : List ℕ) × (rest : List (List ℕ)) × (xs ≡ zs ++ word ∷ rest) × (ws ≡ word ∷ (rest ++ ys)))
split_twice [] ys zs ws e = inl (zs, refl, e)
split_twice (x ∷ xs) ys [] ws e = let back : ws ≡ x ∷ (xs ++ ys) = cc e in inr (x, xs, refl, back)
split_twice (x ∷ xs) ys (z ∷ zs) ws e =
    let first : x ≡ z = cc e in
    let rest : xs ++ ys ≡ zs ++ ws = cc e in
    ⊎_elim
    (λ l. let longer : z ∷ zs ≡ x ∷ (xs ++ l.0) = cc in inl (l.0, longer, l.2))
    (λ r. let longer : x ∷ xs ≡ z ∷ (zs ++ r.0 ∷ r.1) = cc in inr (r.0, r.1, longer, r.3))
    (split_twice xs ys zs ws rest)

-- a word in a list of two parts is in one of them
pub which_part : (xs ys before after : List (List ℕ)) (word : List ℕ) → xs ++ ys ≡ before ++ word ∷ after →
    ((rest : List (List ℕ)) × (before ≡ xs ++ rest) × (ys ≡ rest ++ word ∷ after)) ⊎ ((rest : List (List ℕ)) × (xs ≡ before ++ word ∷ rest) × (after ≡ rest ++ ys))
which_part xs ys before after word e =
    ⊎_elim
    (λ l. inl l)
    (λ r.
    let here : r.0 ≡ word = cc (r.3) in
    let behind : after ≡ r.1 ++ ys = cc (r.3) in
    let front : xs ≡ before ++ word ∷ r.1 = r.2 ∙ ap (λ w. before ++ w ∷ r.1) here in
    inr (r.1, front, behind))
    (split_twice xs ys before (word ∷ after) e)

-- a list of one word has no other
pub only_word : (word other : List ℕ) (before after : List (List ℕ)) → word ∷ [] ≡ before ++ other ∷ after → (before ≡ []) × (after ≡ []) × (word ≡ other)
only_word word other [] after e = (refl, cc e, cc e)
only_word word other (first ∷ []) after e = cc e
only_word word other (first ∷ next ∷ before) after e = cc e

pub no_words : (xs ys : List (List ℕ)) → xs ++ ys ≡ [] → xs ≡ []
no_words [] ys e = refl
no_words (x ∷ xs) ys e = cc e

pub some_words : (word : List ℕ) (before after : List (List ℕ)) → before ++ word ∷ after ≡ [] → ⊥
some_words word [] after e = cc e
some_words word (first ∷ before) after e = cc e

-- words of which none is a file word
abbrev pub AreNoFiles : List (List ℕ) → Type 0
AreNoFiles words = AllByRecursion (λ word. is_file_word word ≡ false) words

-- words that are not file words, and then file words, are split in one way
pub one_split : (xs ys fs gs : List (List ℕ)) → AreNoFiles xs → AreNoFiles ys → list_all is_file_word fs ≡ true → list_all is_file_word gs ≡ true → xs ++ fs ≡ ys ++ gs → (xs ≡ ys) × (fs ≡ gs)
one_split [] [] fs gs no_x no_y all all_too e = (refl, e)
one_split [] (y ∷ ys) [] gs no_x no_y all all_too e = cc e
one_split [] (y ∷ ys) (f ∷ fs) gs no_x no_y all all_too e =
    let same : f ≡ y = cc e in
    let file = and_parts (is_file_word f) (list_all is_file_word fs) all in
    cc (no_y.0, file.0, ap is_file_word same)
one_split (x ∷ xs) [] fs [] no_x no_y all all_too e = cc e
one_split (x ∷ xs) [] fs (g ∷ gs) no_x no_y all all_too e =
    let same : x ≡ g = cc e in
    let file = and_parts (is_file_word g) (list_all is_file_word gs) all_too in
    cc (no_x.0, file.0, ap is_file_word same)
one_split (x ∷ xs) (y ∷ ys) fs gs no_x no_y all all_too e =
    let first : x ≡ y = cc e in
    let rest : xs ++ fs ≡ ys ++ gs = cc e in
    let more = one_split xs ys fs gs no_x.1 no_y.1 all all_too rest in
    let same : x ∷ xs ≡ y ∷ ys = cc (first, more.0) in
    (same, more.1)
