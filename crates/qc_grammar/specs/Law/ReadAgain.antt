-- A printed tree is read again: the words of a tree's tokens, respelled and with a blank after each, are a text that is like them.
use Rattle.std.specs.Prelude.{ℕ, suc, ◌≡◌, ◌≢◌, Bool, true, false, ◌&&◌, List, [], ◌∷◌, ◌++◌, map, length, nat_le, slice_range, slice_get, Some}
use Rattle.std.specs.List.{list_any, AllByRecursion, All}
use Rattle.std.specs.Str.{bytes_eq}
use Rattle.std.proofs.Common.{refl, ap, sym, ◌∙◌, subst, inl, inr, arith}
use Rattle.std.proofs.lemmas.List.{map-append, same_from_push}
use Rattle.std.proofs.lemmas.List.Elements.{recursion_from_All}
use Rattle.std.proofs.lemmas.Bool.{and_parts}
use Rattle.qc_text.specs.declared.token.Kind.{Kind}
use Rattle.qc_text.specs.declared.token.Kind.TheVariants.{Name, Prim, Number, Str, Punct, End}
use Rattle.qc_text.specs.declared.token.Token.{Token}
use Rattle.qc_text.specs.Tokens.{IsTokenText, token_text}
use Rattle.qc_text.specs.Pieces.{AreTokens, token_at}
use Rattle.qc_text.specs.PrintedWords.{Words, spaced, AreWords, texts_of, words_in}
use Rattle.qc_grammar.specs.Lexeme.{Word, Value, Any, Lexeme, Vocabulary, class_of, reserving, classed_from, lexemes_from, lexemes}
use Rattle.qc_grammar.specs.Grammar as grammar
use Rattle.qc_grammar.specs.Grammar.{Grammar, text}
use Rattle.qc_grammar.specs.Language.{IsPhrase, PhraseBy, Derives}
use Rattle.qc_grammar.specs.Brackets.{open_after, is_shallow, most_open}
use Rattle.qc_grammar.specs.SameUpToTokens.{AreAlike, AlikeBy, AlikeIn, AreAlikeTrees}
use Rattle.qc_grammar.specs.Spelled.{spelled_as, spelling, spellings, IsSpelledAlike, AreSameTrees, Respells}
use Rattle.qc_grammar.specs.Printing.{AreLexemes, IsTreeOf, IsTextOf}
use Rattle.qc_grammar.specs.Answer.{IsTree}
use Rattle.qc_grammar.specs.TextAnswer.{OfTokens}
use Rattle.qc_grammar.specs.Law.Ended.{end_class}
use Rattle.qc_grammar.specs.Law.Fronts.{shallow_front}
use Rattle.qc_grammar.specs.Law.SameUpToTokens.{alike_append, alike_texts}

-- texts of one class each have the same brackets
alike_shallow : (alike : Lexeme → Lexeme → Type 0) (one_class : (t u : Lexeme) → alike t u
    → t.class ≡ u.class) (n : ℕ) (tokens others : List Lexeme) → AreAlike alike tokens others
    → is_shallow n tokens ≡ is_shallow n others
alike_shallow alike one_class n [] [] p = refl
alike_shallow alike one_class n [] (u ∷ us) p = absurd p
alike_shallow alike one_class n (t ∷ ts) [] p = absurd p
alike_shallow alike one_class n (t ∷ ts) (u ∷ us) p =
    ap (λ c. is_shallow n (record { number = t.number; class = c; text = t.text } ∷ ts)) (one_class t u p.0)
    ∙ ap (λ b. nat_le (open_after n u) most_open && b) (alike_shallow alike one_class (open_after n u) ts us p.1)

-- what is shallow is shallow with a token more that is the end
shallow_end : (n : ℕ) (tokens : List Lexeme) (last : Lexeme) → last.class ≡ Any End → nat_le n most_open ≡ true
    → is_shallow n tokens ≡ true → is_shallow n (tokens ++ last ∷ []) ≡ true
shallow_end n [] last end few all =
    ap (λ c. nat_le (open_after n (record { number = last.number; class = c; text = last.text })) most_open && true) end
    ∙ ap (λ b. b && true) few
shallow_end n (t ∷ ts) last end few all =
    let both : (nat_le (open_after n t) most_open ≡ true) × (is_shallow (open_after n t) ts ≡ true) = and_parts _ _ all in
    ap (λ b. b && is_shallow (open_after n t) (ts ++ last ∷ [])) both.0
    ∙ shallow_end (open_after n t) ts last end both.0 both.1

-- only the end of a text has no bytes
empty_is_end : (kind : Kind) → IsTokenText kind [] → kind ≡ End
empty_is_end Name is = absurd is
empty_is_end Prim is = cc is.2
empty_is_end Number (inl digits) = absurd (omega (arith, digits.0))
empty_is_end Number (inr hexadecimal) = cc hexadecimal.2
empty_is_end Str is = cc is.2
empty_is_end Punct (inl e) = cc e
empty_is_end Punct (inr (inl e)) = cc e
empty_is_end Punct (inr (inr (inl e))) = cc e
empty_is_end Punct (inr (inr (inr mark))) = cc mark.2
empty_is_end End is = refl

-- A vocabulary tells the same of tokens that are respelled.
pub record KeepsWords (vocabulary : Vocabulary) (as_text : Kind → List ℕ → List ℕ) : Type 0 where
  pub same : (before : List (Kind × List ℕ)) (kind : Kind) (given : List ℕ)
      → vocabulary (map (λ word. (word.0, as_text word.0 word.1)) before) kind (as_text kind given)
      ≡ vocabulary before kind given

-- punctuation and reserved names do
same_reserving : (names : List (List ℕ)) (as_text : Kind → List ℕ → List ℕ) → Respells as_text
    → (before others : List (Kind × List ℕ)) (kind : Kind) (given : List ℕ)
    → reserving names others kind (as_text kind given) ≡ reserving names before kind given
same_reserving names as_text respells before others Name given =
    ap (λ text. list_any (λ word. bytes_eq word text) names) (respells.name given)
same_reserving names as_text respells before others Prim given = refl
same_reserving names as_text respells before others Number given = refl
same_reserving names as_text respells before others Str given = refl
same_reserving names as_text respells before others Punct given = refl
same_reserving names as_text respells before others End given = refl

pub reserving_respelled : (names : List (List ℕ)) (as_text : Kind → List ℕ → List ℕ) → Respells as_text
    → KeepsWords (reserving names) as_text
reserving_respelled names as_text respells =
    record {
      same = λ before kind given. same_reserving names as_text respells before
          (map (λ word. (word.0, as_text word.0 word.1)) before) kind given;
    }

module _ (vocabulary : Vocabulary) where
  -- the tokens of these kinds and texts, where others come before them, of which the first has this number
  from_words : ℕ → List (Kind × List ℕ) → List (Kind × List ℕ) → List Lexeme
  from_words n before [] = []
  from_words n before (word ∷ words) =
      record { number = n; class = class_of (vocabulary before word.0 word.1) word.0 word.1; text = word.1 }
      ∷ from_words (suc n) (before ++ word ∷ []) words

  are_from_words : (bytes : List ℕ) (n : ℕ) (before : List (Kind × List ℕ)) (tokens : List Token)
      → lexemes_from bytes n (classed_from vocabulary bytes before tokens)
      ≡ from_words n before (words_in bytes tokens)
  unfolding from_words
  are_from_words bytes n before [] = refl
  are_from_words bytes n before (token ∷ tokens) =
      ap (λ ts. record {
        number = n;
        class = class_of (vocabulary before token.kind (token_text bytes token)) token.kind (token_text bytes token);
        text = token_text bytes token;
      } ∷ ts)
      (are_from_words bytes (suc n) (before ++ (token.kind, token_text bytes token) ∷ []) tokens)

  they_are : (n : ℕ) (before words : List (Kind × List ℕ)) → AreLexemes vocabulary before words (from_words n before words)
  unfolding from_words
  they_are n before [] = tt
  they_are n before (word ∷ words) = (refl, refl, they_are (suc n) (before ++ word ∷ []) words)

  -- the end after some words
  end_behind : (n : ℕ) (before words : List (Kind × List ℕ)) (given : List ℕ)
      → (t : Lexeme) × (t.class ≡ Any End) × (t.text ≡ given)
      × (from_words n before (words ++ (End, given) ∷ []) ≡ from_words n before words ++ t ∷ [])
  unfolding from_words
  end_behind n before [] given =
      let b : Bool = vocabulary before End given in
      (record { number = n; class = class_of b End given; text = given }, end_class b given, refl, refl)
  end_behind n before (word ∷ words) given =
      let rest : (t : Lexeme) × (t.class ≡ Any End) × (t.text ≡ given)
      × (from_words (suc n) (before ++ word ∷ []) (words ++ (End, given) ∷ [])
      ≡ from_words (suc n) (before ++ word ∷ []) words ++ t ∷ []) =
      end_behind (suc n) (before ++ word ∷ []) words given in (
        rest.0,
        rest.1,
        rest.2,
        ap (λ ts.
            record { number = n; class = class_of (vocabulary before word.0 word.1) word.0 word.1; text = word.1 } ∷ ts)
            rest.3,
      )

module _ (as_text : Kind → List ℕ → List ℕ) (respells : Respells as_text) where
  respelled : Kind × List ℕ → Kind × List ℕ
  respelled word = (word.0, as_text word.0 word.1)

  spells : (b : Bool) (kind : Kind) (given : List ℕ) → spelled_as as_text (class_of b kind given) given ≡ as_text kind given
  spells false kind given = refl
  spells true Name given = sym (respells.name given)
  spells true Prim given = sym (respells.prim given)
  spells true Number given = sym (respells.number given)
  spells true Str given = sym (respells.str given)
  spells true Punct given = sym (respells.punct given)
  spells true End given = refl

  class_kept : (b : Bool) (kind : Kind) (given : List ℕ) → class_of b kind given ≡ class_of b kind (as_text kind given)
  class_kept false kind given = refl
  class_kept true Name given = ap Word (sym (respells.name given))
  class_kept true Prim given = ap Word (sym (respells.prim given))
  class_kept true Number given = ap Value (sym (respells.value given))
  class_kept true Str given = ap Word (sym (respells.str given))
  class_kept true Punct given = ap Word (sym (respells.punct given))
  class_kept true End given = refl

  -- what a token spells
  token_spells : (b : Bool) (kind : Kind) (given : List ℕ) (t : Lexeme) → t.class ≡ class_of b kind given → t.text ≡ given
      → spelling as_text t ≡ as_text kind given
  token_spells b kind given t class same =
      ap (λ c. spelled_as as_text c t.text) class ∙ ap (spelled_as as_text (class_of b kind given)) same
      ∙ spells b kind given

  module _ (vocabulary : Vocabulary) (keeps : KeepsWords vocabulary as_text) where
    words_alike : (n : ℕ) (before words : List (Kind × List ℕ)) (tokens : List Lexeme) → AreWords words
        → AreLexemes vocabulary before words tokens
        → AreAlike (IsSpelledAlike as_text) tokens (from_words vocabulary n (map respelled before) (map respelled words))
    unfolding from_words respelled
    words_alike n before [] [] all are = tt
    words_alike n before [] (t ∷ ts) all are = absurd are
    words_alike n before (word ∷ words) [] all are = absurd are
    words_alike n before (word ∷ words) (t ∷ ts) all are =
        let b : Bool = vocabulary before word.0 word.1 in
        let c : Bool = vocabulary (map respelled before) word.0 (as_text word.0 word.1) in
        let one : c ≡ b = keeps.same before word.0 word.1 in
        let more : AreAlike (IsSpelledAlike as_text) ts
        (from_words vocabulary (suc n) (map respelled (before ++ word ∷ [])) (map respelled words)) =
        words_alike (suc n) (before ++ word ∷ []) words ts all.2 are.2 in (
          (
            are.0 ∙ class_kept b word.0 word.1 ∙ ap (λ d. class_of d word.0 (as_text word.0 word.1)) (sym one),
            token_spells b word.0 word.1 t are.0 are.1 ∙ sym (respells.again word.0 word.1 all.0)
                ∙ sym (spells c word.0 (as_text word.0 word.1)),
          ),
          subst (λ others. AreAlike (IsSpelledAlike as_text) ts (from_words vocabulary (suc n) others (map respelled words)))
              (map-append respelled before (word ∷ [])) more,
        )

    texts_spelled : (before words : List (Kind × List ℕ)) (tokens : List Lexeme)
        → AreLexemes vocabulary before words tokens → texts_of (map respelled words) ≡ spellings as_text tokens
    unfolding respelled
    texts_spelled before [] [] are = refl
    texts_spelled before [] (t ∷ ts) are = absurd are
    texts_spelled before (word ∷ words) [] are = absurd are
    texts_spelled before (word ∷ words) (t ∷ ts) are =
        ap (λ given. given ∷ texts_of (map respelled words))
        (sym (token_spells (vocabulary before word.0 word.1) word.0 word.1 t are.0 are.1))
        ∙ ap (λ ws. spelling as_text t ∷ ws) (texts_spelled (before ++ word ∷ []) words ts are.2)

  -- words that are respelled are words
  words_respelled : (words : List (Kind × List ℕ)) → AreWords words → AreWords (map respelled words)
  unfolding respelled
  words_respelled [] all = tt
  words_respelled (word ∷ words) all = (
    respells.of_kind word.0 word.1 all.0,
    (λ e. let end : word.0 ≡ End =
        empty_is_end word.0 (subst (IsTokenText word.0) e (respells.of_kind word.0 word.1 all.0)) in
        all.1 (subst (λ kind. IsTokenText kind word.1) end all.0)),
    words_respelled words all.2,
  )

-- The tokens of a file but its end are words.
are_words : (bytes : List ℕ) (tokens front : List Token) (last : Token) → tokens ≡ front ++ last ∷ []
    → ((i : ℕ) (token : Token) → slice_get tokens i ≡ Some token → IsTokenText token.kind (token_text bytes token))
    → AllByRecursion (λ token. token.kind ≢ End) front → AreWords (words_in bytes front)
are_words bytes tokens [] last e each whole = tt
are_words bytes tokens (token ∷ front) last e each whole = (
  each 0 token (ap (λ ts. slice_get ts 0) e),
  (λ none. whole.0 (empty_is_end token.kind
      (subst (IsTokenText token.kind) none (each 0 token (ap (λ ts. slice_get ts 0) e))))),
  are_words bytes (front ++ last ∷ []) front last refl
      (λ i other g. each (suc i) other (ap (λ ts. slice_get ts (suc i)) e ∙ g)) whole.1,
)

module _ {I : Type 0} {E : I → Type 0} (s : grammar.Syntax I E) {A : Type 0} (g : Grammar I E A)
    (vocabulary : Vocabulary) (as_text : Kind → List ℕ → List ℕ) where
  -- a whole text is a phrase, and one token more
  pub record Fronted (tokens : List Lexeme) (tree : A) : Type 0 where
    pub front : List Lexeme
    pub last : Lexeme
    pub split : tokens ≡ front ++ last ∷ []
    pub phrase : IsPhrase s g front tree

  pub fronted : (tokens : List Lexeme) (tree : A) → IsPhrase s (text g) tokens tree → Fronted tokens tree
  fronted tokens tree p =
      record {
        front = p.is.1.0;
        last = p.is.1.4.0;
        split = p.is.1.2 ∙ ap (λ rest. p.is.1.0 ++ rest) p.is.1.4.1.0;
        phrase = record { depth = p.depth; is = subst (PhraseBy (Derives s p.depth) g p.is.1.0) (sym p.is.2) p.is.1.3 };
      }

  -- without the end of a text
  same_before_end : (tree other : A) → AreAlikeTrees s (IsSpelledAlike as_text) (text g) tree other
      → AreSameTrees as_text s g tree other
  same_before_end tree other p =
      record {
        depth = p.depth;
        are = subst (λ a. AlikeBy (IsSpelledAlike as_text) (AlikeIn s (IsSpelledAlike as_text) p.depth) g a other)
            (sym p.are.3)
            (subst (AlikeBy (IsSpelledAlike as_text) (AlikeIn s (IsSpelledAlike as_text) p.depth) g p.are.0.0)
            (sym p.are.4) p.are.2.0);
      }

  -- with the end of a text
  whole_phrase : (tokens : List Lexeme) (tree : A) (last : Lexeme) → last.class ≡ Any End → IsPhrase s g tokens tree
      → IsPhrase s (text g) (tokens ++ last ∷ []) tree
  whole_phrase tokens tree last end p =
      record {
        depth = p.depth;
        is = ((tree, last.number), (tokens, last ∷ [], refl, p.is, (last, (refl, end), refl)), refl);
      }

  module _ (respells : Respells as_text) (keeps : KeepsWords vocabulary as_text)
      (cut : (words : List (Kind × List ℕ)) → AreWords words → (tokens : List Token)
      × AreTokens (spaced (texts_of words)) tokens
      × (words_in (spaced (texts_of words)) tokens ≡ words ++ (End, []) ∷ [])) where
    again_by : (tree : A) → (is : IsTreeOf s g vocabulary tree)
        → IsTextOf as_text s g vocabulary tree (spaced (texts_of (map (respelled as_text respells) is.words)))
    unfolding respelled
    again_by tree is =
        let others : List (Kind × List ℕ) = map (respelled as_text respells) is.words in
        let found : (tokens : List Token) × AreTokens (spaced (texts_of others)) tokens
        × (words_in (spaced (texts_of others)) tokens ≡ others ++ (End, []) ∷ []) =
        cut others (words_respelled as_text respells is.words is.of_kinds) in
        let bytes : List ℕ = spaced (texts_of others) in
        let new : List Lexeme = lexemes vocabulary bytes found.0 in
        let end : (t : Lexeme) × (t.class ≡ Any End) × (t.text ≡ [])
        × (from_words vocabulary 0 [] (others ++ (End, []) ∷ []) ≡ from_words vocabulary 0 [] others ++ t ∷ []) =
        end_behind vocabulary 0 [] others [] in
        let same_new : from_words vocabulary 0 [] others ++ end.0 ∷ [] ≡ new =
        sym end.3 ∙ ap (from_words vocabulary 0 []) (sym found.2)
        ∙ sym (are_from_words vocabulary bytes 0 [] found.0) in
        let last : Lexeme = record { number = 0; class = Any End; text = [] } in
        let lasts : IsSpelledAlike as_text last end.0 =
        (sym end.1, sym (ap (λ c. spelled_as as_text c end.0.text) end.1 ∙ ap (as_text End) end.2)) in
        let alike : AreAlike (IsSpelledAlike as_text) (is.tokens ++ last ∷ []) new =
        subst (AreAlike (IsSpelledAlike as_text) (is.tokens ++ last ∷ [])) same_new
        (alike_append (IsSpelledAlike as_text) is.tokens (from_words vocabulary 0 [] others) (last ∷ []) (end.0 ∷ [])
        (words_alike as_text respells vocabulary keeps 0 [] is.words is.tokens is.of_kinds is.are) (lasts, tt)) in
        let read = alike_texts s (IsSpelledAlike as_text) (λ t u h. h.0) (text g)
        (is.tokens ++ last ∷ []) new tree (whole_phrase is.tokens tree last refl is.phrase) alike in
        record {
          other = read.0;
          reads = record {
            tokens = found.0;
            are = found.1;
            is = record {
              phrase = read.1;
              shallow = sym (alike_shallow (IsSpelledAlike as_text) (λ t u h. h.0) 0 (is.tokens ++ last ∷ []) new alike)
                  ∙ shallow_end 0 is.tokens last refl refl is.shallow;
            };
          };
          same = same_before_end tree read.0 read.2;
        }

    -- What is printed for a tree of the grammar is read again.
    pub read_again : (tree : A) → IsTreeOf s g vocabulary tree → (out : List ℕ) → ((tokens : List Lexeme)
        → IsPhrase s g tokens tree → out ≡ spaced (spellings as_text tokens)) → IsTextOf as_text s g vocabulary tree out
    read_again tree is out printed =
        subst (IsTextOf as_text s g vocabulary tree)
        (ap spaced (texts_spelled as_text respells vocabulary keeps [] is.words is.tokens is.are)
        ∙ sym (printed is.tokens is.phrase)) (again_by tree is)

  -- The tree of a file is one of the grammar.
  pub file_tree : ((bytes : List ℕ) (tokens : List Token) (i : ℕ) (token : Token) → AreTokens bytes tokens
      → slice_get tokens i ≡ Some token → IsTokenText token.kind (token_text bytes token))
      → ((bytes : List ℕ) (tokens : List Token) → AreTokens bytes tokens → (front : List Token)
      × (tokens ≡ front ++ token_at (length bytes) (Some End) (length bytes))
      × All (λ token. token.kind ≢ End) front)
      → (bytes : List ℕ) (tree : A) → OfTokens vocabulary bytes (λ tokens. IsTree s g tokens tree)
      → IsTreeOf s g vocabulary tree
  file_tree kinds one_end bytes tree o =
      let ends = one_end bytes o.tokens o.are in
      let words : List (Kind × List ℕ) = words_in bytes ends.0 in
      let given : List ℕ = slice_range bytes (length bytes) (length bytes) in
      let all_words : words_in bytes o.tokens ≡ words ++ (End, given) ∷ [] =
      ap (words_in bytes) ends.1
      ∙ map-append (λ token. (token.kind, token_text bytes token)) ends.0
      (token_at (length bytes) (Some End) (length bytes)) in
      let end : (t : Lexeme) × (t.class ≡ Any End) × (t.text ≡ given)
      × (from_words vocabulary 0 [] (words ++ (End, given) ∷ []) ≡ from_words vocabulary 0 [] words ++ t ∷ []) =
      end_behind vocabulary 0 [] words given in
      let lexed : lexemes vocabulary bytes o.tokens ≡ from_words vocabulary 0 [] words ++ end.0 ∷ [] =
      are_from_words vocabulary bytes 0 [] o.tokens ∙ ap (from_words vocabulary 0 []) all_words ∙ end.3 in
      let front : Fronted (lexemes vocabulary bytes o.tokens) tree =
      fronted (lexemes vocabulary bytes o.tokens) tree o.is.phrase in
      let same : front.front ≡ from_words vocabulary 0 [] words =
      (same_from_push front.front (from_words vocabulary 0 [] words) front.last end.0 (sym front.split ∙ lexed)).0 in
      record {
        words = words;
        tokens = from_words vocabulary 0 [] words;
        of_kinds = are_words bytes o.tokens ends.0 _ ends.1 (λ i token e. kinds bytes o.tokens i token o.are e)
            (recursion_from_All (λ token. token.kind ≢ End) ends.0 ends.2);
        are = they_are vocabulary 0 [] words;
        phrase = subst (λ ts. IsPhrase s g ts tree) same front.phrase;
        shallow = shallow_front 0 (from_words vocabulary 0 [] words) (end.0 ∷ [])
            (ap (is_shallow 0) (sym lexed) ∙ o.is.shallow);
      }

  -- Words of a tree that are what each of its texts spells, printed after nothing.
  pub words_alone : (words : A → Words) → ((tokens : List Lexeme) (tree : A) → IsPhrase s g tokens tree
      → spellings as_text tokens ≡ words tree) → (tree : A) (before out : List ℕ) → before ≡ []
      → out ≡ before ++ spaced (words tree) → (tokens : List Lexeme) → IsPhrase s g tokens tree
      → out ≡ spaced (spellings as_text tokens)
  words_alone words texts tree before out none printed tokens phrase =
      printed ∙ ap (λ bytes. bytes ++ spaced (words tree)) none ∙ sym (ap spaced (texts tokens tree phrase))
