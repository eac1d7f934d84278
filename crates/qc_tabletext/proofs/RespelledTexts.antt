-- The vocabulary tells the same of tokens that are printed.
use Rattle.std.proofs.Common.{ℕ, ◌≡◌, ◌∙◌, ◌-◌, ◌&&◌, ◌||◌, not, List, [], ◌∷◌, ap, drop, length, map, refl}
use Rattle.std.specs.List.{list_any}
use Rattle.std.specs.Str.{bytes_eq}
use Rattle.std.proofs.lemmas.List.{drop-map, length-map}
use Rattle.qc_text.specs.declared.token.Kind.{Kind}
use Rattle.qc_text.specs.declared.token.Kind.TheVariants.{Name, Prim, Number, Str, Punct, End}
use Rattle.qc_grammar.specs.Spelled.{Respells}
use Rattle.qc_grammar.specs.Law.ReadAgain.{KeepsWords}
use Rattle.qc_tabletext.specs.Vocabulary.{introduces, introducing, is_bound_word, is_front_number, is_introduced, last_two, reserved, vocabulary}

module _ (as_text : Kind → List ℕ → List ℕ) (respells : Respells as_text) where
  -- a token with its text respelled
  abbrev respelled : Kind × List ℕ → Kind × List ℕ
  respelled word = (word.0, as_text word.0 word.1)

  introduces_respelled : (kind : Kind) (given : List ℕ) → introduces kind (as_text kind given) ≡ introduces kind given
  introduces_respelled Name given = ap (λ text. list_any (λ word. bytes_eq word text) introducing) (respells.name given)
  introduces_respelled Prim given = refl
  introduces_respelled Number given = refl
  introduces_respelled Str given = refl
  introduces_respelled Punct given = refl
  introduces_respelled End given = refl

  introduced_respelled : (words : List (Kind × List ℕ)) → is_introduced (map respelled words) ≡ is_introduced words
  introduced_respelled [] = refl
  introduced_respelled (last ∷ []) = introduces_respelled last.0 last.1
  introduced_respelled (one ∷ last ∷ more) =
      ap (λ b. b && not (introduces one.0 (as_text one.0 one.1))) (introduces_respelled last.0 last.1)
      ∙ ap (λ b. introduces last.0 last.1 && not b) (introduces_respelled one.0 one.1)

  last_two_respelled : (words : List (Kind × List ℕ)) → last_two (map respelled words) ≡ map respelled (last_two words)
  last_two_respelled words =
      ap (λ n. drop (n - 2) (map respelled words)) (length-map words respelled)
      ∙ drop-map respelled (length words - 2) words

  same : (before : List (Kind × List ℕ)) (kind : Kind) (given : List ℕ)
      → vocabulary (map respelled before) kind (as_text kind given) ≡ vocabulary before kind given
  same before Name given =
      ap (λ text. (list_any (λ word. bytes_eq word text) reserved || is_bound_word (length (map respelled before)) text)
      && not (is_introduced (last_two (map respelled before)))) (respells.name given)
      ∙ ap (λ n. (list_any (λ word. bytes_eq word given) reserved || is_bound_word n given)
      && not (is_introduced (last_two (map respelled before)))) (length-map before respelled)
      ∙ ap (λ b. (list_any (λ word. bytes_eq word given) reserved || is_bound_word (length before) given) && not b)
      (ap is_introduced (last_two_respelled before) ∙ introduced_respelled (last_two before))
  same before Prim given = refl
  same before Number given = ap is_front_number (length-map before respelled)
  same before Str given = refl
  same before Punct given = refl
  same before End given = refl

  pub vocabulary_respelled : KeepsWords vocabulary as_text
  vocabulary_respelled = record { same = same }
