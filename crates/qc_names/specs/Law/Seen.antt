-- Names that are seen one after the other: which were seen, and what is reported of them.
use Rattle.std.specs.Prelude.{ℕ, ◌+◌, ◌≡◌, ◌<◌, List, [], ◌∷◌, ◌++◌, length, drop}
use Rattle.std.specs.List.{flat_map}
use Rattle.std.proofs.Common.{refl, ap, sym, ◌∙◌, append_assoc, subst, get_or}
use Rattle.std.proofs.lemmas.List.{append-nil, at_drop_more}
use Rattle.qc_grammar.specs.declared.cursor.Ident.{Ident}
use Rattle.qc_names.specs.declared.seen.Seen.{Seen}
use Rattle.qc_names.specs.Tables.{is_among, HasNames}
use Rattle.qc_names.specs.Reported.{reported, reported_of_both, twice_if}
use Rattle.qc_names.specs.Seen as names
use Rattle.qc_names.specs.Seen.{second_names, none_seen, texts_of}
use Rattle.qc_names.specs.Law.Tables.{has_entered, names-any, same_names}
use Rattle.qc_names.specs.Law.Reported.{both_assoc, both-none, reported-append}

module _ {F : Type 0} (token_of rank_of : F → ℕ) (twice : ℕ → F) where
  abbrev noted : Seen F → Ident → Seen F
  noted = names.noted token_of rank_of twice

  abbrev noted_all : Seen F → List Ident → Seen F
  noted_all = names.noted_all token_of rank_of twice

  -- names, and more names behind them
  pub noted_append : (seen : Seen F) (names more : List Ident)
      → noted_all seen (names ++ more) ≡ noted_all (noted_all seen names) more
  noted_append seen [] more = refl
  noted_append seen (name ∷ names) more = noted_append (noted seen name) names more

  -- a loop over what has names
  pub noted_more : {A : Type 0} (f : A → List Ident) (old new whole : Seen F) (xs : List A) (i : ℕ) (x : A)
      → i < length xs → x ≡ get_or xs i x → new ≡ noted_all old (f x) → noted_all old (flat_map f (drop i xs)) ≡ whole
      → noted_all new (flat_map f (drop (i + 1) xs)) ≡ whole
  noted_more f old new whole xs i x within is next before =
      ap (λ s. noted_all s (flat_map f (drop (i + 1) xs))) next
      ∙ sym (noted_append old (f x) (flat_map f (drop (i + 1) xs)))
      ∙ ap (λ y. noted_all old (flat_map f (y ∷ drop (i + 1) xs))) is
      ∙ sym (at_drop_more (λ ys. noted_all old (flat_map f ys)) xs i x within)
      ∙ before

  -- the table of what was seen, after one more name
  pub has_noted : (seen : Seen F) (names : List (List ℕ)) (name : Ident) → HasNames seen.names names
      → HasNames (noted seen name).names (names ++ name.text ∷ [])
  unfolding names.noted
  has_noted seen names name has = has_entered seen.names names name.text 0 has

  -- the table of what was seen, after more names
  pub has_noted_all : (seen : Seen F) (before : List (List ℕ)) (names : List Ident) → HasNames seen.names before
      → HasNames (noted_all seen names).names (before ++ texts_of names)
  has_noted_all seen before [] has = subst (HasNames seen.names) (sym (append-nil before)) has
  has_noted_all seen before (name ∷ names) has =
      subst (HasNames (noted_all (noted seen name) names).names) (append_assoc before (name.text ∷ []) (texts_of names))
      (has_noted_all (noted seen name) (before ++ name.text ∷ []) names (has_noted seen before name has))

  -- the same where no name was seen before
  pub has_seen : (names : List Ident) → HasNames (noted_all none_seen names).names (texts_of names)
  has_seen names = has_noted_all none_seen [] names (same_names [])

  -- what is reported of one more name
  noted_one : (seen : Seen F) (before : List (List ℕ)) (name : Ident) → HasNames seen.names before
      → (noted seen name).fault ≡ reported_of_both token_of rank_of seen.fault
      (reported token_of rank_of (twice_if twice (is_among before name.text) name.token))
  unfolding names.noted
  noted_one seen before name has =
      ap (λ b. reported_of_both token_of rank_of seen.fault (reported token_of rank_of (twice_if twice b name.token)))
      (names-any seen.names name.text ∙ has.same name.text)

  -- what is reported of names that are seen behind others
  pub noted_fault : (seen : Seen F) (before : List (List ℕ)) (names : List Ident) → HasNames seen.names before
      → (noted_all seen names).fault
      ≡ reported_of_both token_of rank_of seen.fault (reported token_of rank_of (second_names twice before names))
  noted_fault seen before [] has = sym (both-none token_of rank_of seen.fault)
  noted_fault seen before (name ∷ names) has =
      let own : List F = twice_if twice (is_among before name.text) name.token in
      let rest : List F = second_names twice (before ++ name.text ∷ []) names in
      noted_fault (noted seen name) (before ++ name.text ∷ []) names (has_noted seen before name has)
      ∙ ap (λ f. reported_of_both token_of rank_of f (reported token_of rank_of rest)) (noted_one seen before name has)
      ∙ both_assoc token_of rank_of seen.fault (reported token_of rank_of own) (reported token_of rank_of rest)
      ∙ sym (ap (reported_of_both token_of rank_of seen.fault) (reported-append token_of rank_of own rest))

  -- the same where no name was seen before
  pub seen_fault : (names : List Ident)
      → (noted_all none_seen names).fault ≡ reported token_of rank_of (second_names twice [] names)
  seen_fault names = noted_fault none_seen [] names (same_names [])
