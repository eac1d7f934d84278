-- Grammars whose next token tells which phrase comes: a test for LL(1) grammars.
use Rattle.std.specs.Prelude.{ℕ, zero, suc, Bool, true, false, not, cond, ◌&&◌, ◌||◌, ◌≡◌, List, [], ◌++◌}
use Rattle.std.specs.List.{list_any, list_all}
use Rattle.qc_text.specs.declared.token.Kind.TheVariants as kind
use Rattle.qc_grammar.specs.Lexeme.{Class, Any, same_class}
use Rattle.qc_grammar.specs.Grammar.{Grammar, terminal, empty, sequence, choice, action, repetition, nonterminal, Syntax, text}
use Rattle.qc_grammar.specs.Reading.{can_be_empty, first}

-- a class is one of the list
abbrev pub is_in : List Class → Class → Bool
is_in classes c = list_any (same_class c) classes

abbrev pub are_apart : List Class → List Class → Bool
are_apart xs ys = list_all (λ c. not (is_in ys c)) xs

abbrev pub are_within : List Class → List Class → Bool
are_within xs ys = list_all (is_in ys) xs

module _ {I : Type 0} {E : I → Type 0} where
  -- The classes that may go on after a whole phrase: with such a token after it, another phrase may begin so.
  abbrev pub follow : Syntax I E → {A : Type 0} → Grammar I E A → List Class
  follow s (terminal c) = []
  follow s (empty x) = []
  follow s (sequence g h) = follow s h ++ cond (can_be_empty h) (follow s g) []
  follow s (choice g h) = follow s g ++ (follow s h ++ cond (can_be_empty h) (first s g) [])
  follow s (action f g) = follow s g
  follow s (repetition g) = first s g ++ follow s g
  follow s (nonterminal i) = s.goes_on i

  -- What may go on after a whole phrase is apart from what may begin the next, so that the next token tells which it
  -- is. In a choice the first has a token, and no token begins both. What is repeated has a token.
  abbrev pub is_clean : Syntax I E → {A : Type 0} → Grammar I E A → Bool
  is_clean s (terminal c) = true
  is_clean s (empty x) = true
  is_clean s (sequence g h) = is_clean s g && is_clean s h && are_apart (follow s g) (first s h)
  is_clean s (choice g h) =
      is_clean s g && is_clean s h && not (can_be_empty g) && are_apart (first s g) (first s h)
  is_clean s (action f g) = is_clean s g
  is_clean s (repetition g) = is_clean s g && not (can_be_empty g) && are_apart (follow s g) (first s g)
  is_clean s (nonterminal i) = true

  -- there is a phrase with rules nested at most so deep
  abbrev pub has_phrase_by : (I → Bool) → {A : Type 0} → Grammar I E A → Bool
  has_phrase_by R (terminal c) = true
  has_phrase_by R (empty x) = true
  has_phrase_by R (sequence g h) = has_phrase_by R g && has_phrase_by R h
  has_phrase_by R (choice g h) = has_phrase_by R g || has_phrase_by R h
  has_phrase_by R (action f g) = has_phrase_by R g
  has_phrase_by R (repetition g) = true
  has_phrase_by R (nonterminal i) = R i

  abbrev pub has_phrase : Syntax I E → ℕ → I → Bool
  has_phrase s zero i = false
  has_phrase s (suc depth) i = has_phrase_by (has_phrase s depth) (s.rule i)

  -- each rule inside the grammar comes after a token
  abbrev pub is_guarded : {A : Type 0} → Grammar I E A → Bool
  is_guarded (terminal c) = true
  is_guarded (empty x) = true
  is_guarded (sequence g h) = is_guarded g && cond (can_be_empty g) (is_guarded h) true
  is_guarded (choice g h) = is_guarded g && is_guarded h
  is_guarded (action f g) = is_guarded g
  is_guarded (repetition g) = is_guarded g
  is_guarded (nonterminal i) = false

  -- no token of the grammar is the end of a text
  abbrev pub is_endless : {A : Type 0} → Grammar I E A → Bool
  is_endless (terminal c) = not (same_class c (Any kind.End))
  is_endless (empty x) = true
  is_endless (sequence g h) = is_endless g && is_endless h
  is_endless (choice g h) = is_endless g && is_endless h
  is_endless (action f g) = is_endless g
  is_endless (repetition g) = is_endless g
  is_endless (nonterminal i) = true

  -- A rule is clean, its phrases have a token, and one comes before each rule inside it. The syntax has all classes
  -- that may go on after it. It has a phrase with rules nested at most so deep.
  abbrev pub is_clean_rule : Syntax I E → ℕ → I → Bool
  is_clean_rule s depth i =
      is_clean s (s.rule i) && not (can_be_empty (s.rule i)) && is_guarded (s.rule i)
      && are_within (follow s (s.rule i)) (s.goes_on i) && has_phrase s depth i && is_endless (s.rule i)

  -- each rule is clean
  pub record IsClean (s : Syntax I E) : Type 0 where
    pub depth : ℕ
    pub rules : (i : I) → is_clean_rule s depth i ≡ true

  -- the texts of the grammar can be read by their next tokens
  pub record IsReadable (s : Syntax I E) {A : Type 0} (g : Grammar I E A) : Type 0 where
    pub rules : IsClean s
    pub start : (is_clean s (text g) && is_endless g) ≡ true
