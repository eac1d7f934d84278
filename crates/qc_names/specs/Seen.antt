-- Names that are declared one after the other, and the faults of those that repeat one.
use Rattle.std.specs.Prelude.{ℕ, List, [], ◌∷◌, ◌++◌, map, None, is_some}
use Rattle.qc_grammar.specs.declared.cursor.Ident.{Ident}
use Rattle.qc_names.specs.declared.seen.Seen.{Seen}
use Rattle.qc_names.specs.Tables.{number_at, entered, is_among}
use Rattle.qc_names.specs.Reported.{reported, reported_of_both, twice_if}

abbrev pub texts_of : List Ident → List (List ℕ)
texts_of names = map (λ n. n.text) names

-- the faults of the names that repeat one of those that were seen before
abbrev pub second_names : {F : Type 0} → (ℕ → F) → List (List ℕ) → List Ident → List F
second_names twice seen [] = []
second_names twice seen (n ∷ names) =
    twice_if twice (is_among seen n.text) n.token ++ second_names twice (seen ++ n.text ∷ []) names

-- before any name is seen
abbrev pub none_seen : {F : Type 0} → Seen F
none_seen = record { names = []; fault = None }

module _ {F : Type 0} (token_of rank_of : F → ℕ) (twice : ℕ → F) where
  -- after one more name
  unfoldable pub noted : Seen F → Ident → Seen F
  noted seen name = record {
    names = entered seen.names name.text 0;
    fault = reported_of_both token_of rank_of seen.fault
        (reported token_of rank_of (twice_if twice (is_some (number_at seen.names name.text)) name.token));
  }

  -- after more names
  abbrev pub noted_all : Seen F → List Ident → Seen F
  noted_all seen [] = seen
  noted_all seen (name ∷ names) = noted_all (noted seen name) names
