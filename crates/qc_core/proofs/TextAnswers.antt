-- A file has at most one answer as a text of a grammar.
use Rattle.std.proofs.Common.{◌≡◌, ℕ, zero, suc, true, List, [], length, refl, sym, ap, subst, ◌∙◌, arith, length-append}
use Rattle.std.specs.Prelude.{Option, None, Some, Result, Ok, Err}
use Rattle.std.proofs.lemmas.Bool.{and_parts}
use Rattle.qc_grammar.specs.declared.answers.ReadTextFault.{ReadTextFault}
use Rattle.qc_grammar.specs.declared.answers.ReadTextFault.TheVariants as text_fault
use Rattle.qc_grammar.specs.declared.cursor.ReadError.{ReadError}
use Rattle.qc_grammar.specs.declared.cursor.ReadError.TheVariants.{Syntax, TooDeep, NoMemory}
use Rattle.qc_grammar.specs.declared.cursor.Stop.{Stop}
use Rattle.qc_grammar.specs.declared.cursor.Stop.TheVariants as stop
use Rattle.qc_grammar.specs.declared.cursor.Stop.TheVariants.{At}
use Rattle.qc_text.specs.declared.token.Token.{Token}
use Rattle.qc_grammar.specs.Answer.{Answers, EndsText, IsAnswer, cut, settled}
use Rattle.qc_grammar.specs.Brackets.{first_too_deep}
use Rattle.qc_grammar.specs.Law.LL1.{IsReadable, is_clean}
use Rattle.qc_grammar.specs.Grammar.{text}
use Rattle.qc_grammar.specs.ReaderResult.{Gives}
use Rattle.qc_grammar.specs.Grammar as grammar
use Rattle.qc_grammar.specs.Grammar.{Grammar}
use Rattle.qc_grammar.specs.Law.Ended.{file_ended}
use Rattle.qc_grammar.specs.Law.Exactness.{Exact, Found}
use Rattle.qc_grammar.specs.Law.Fuel.{exact}
use Rattle.qc_grammar.specs.Law.OneAnswer.{answers}
use Rattle.qc_grammar.specs.Lexeme.{Lexeme, lexemes, Vocabulary}
use Rattle.qc_text.specs.Pieces.{AreTokens, IsBadByte}
use Rattle.qc_grammar.specs.Reading.{Read, reads}
use Rattle.qc_grammar.specs.TextAnswer.{IsTextAnswer, OfTokens}
use Rattle.qc_core.specs.Inner.LowerLaws.{TokenLaws}

-- the tokens of a file end a text
ends_text : TokenLaws → (vocabulary : Vocabulary) (bytes : List ℕ) (tokens : List Token) → AreTokens bytes tokens → EndsText (lexemes vocabulary bytes tokens)
ends_text laws vocabulary bytes tokens are =
    let end = laws.end bytes tokens are in
    subst (λ ts. EndsText (lexemes vocabulary bytes ts)) (sym end.1) (file_ended vocabulary bytes end.0 _ refl)

-- what is settled is no want of memory, unless that was
settled_enough : {A : Type 0} (result : Result A Stop) (deep : Option ℕ) (total left : ℕ) → (result ≡ Err stop.NoMemory → ⊥) → settled result deep total left ≡ Err NoMemory → ⊥
settled_enough (Ok tree) None total zero enough e = cc
settled_enough (Ok tree) (Some k) total zero enough e = cc
settled_enough (Ok tree) deep total (suc left) enough e = cc
settled_enough (Err (At zero)) None total left enough e = cc
settled_enough (Err (At zero)) (Some k) total left enough e = cc
settled_enough (Err (At (suc at))) deep total left enough e = cc
settled_enough (Err stop.NoMemory) deep total left enough e = enough refl

-- the answer to a file that an answer to its tokens is
abbrev as_text : {A : Type 0} → Result A ReadError → Result A ReadTextFault
as_text (Ok tree) = Ok tree
as_text (Err (Syntax token)) = Err (text_fault.Syntax token)
as_text (Err (TooDeep token)) = Err (text_fault.TooDeep token)
as_text (Err NoMemory) = Err (text_fault.BadByte 0)

module _ {I : Type 0} {E : I → Type 0} (s : grammar.Syntax I E) {A : Type 0} (g : Grammar I E A) (readable : IsReadable s g) where
  only_of : (tokens : List Lexeme) (answer : Result A ReadError) → Answers s g tokens answer → (answer ≡ Err NoMemory → ⊥) → (other : Result A ReadError) → IsAnswer s g tokens other → answer ≡ other
  only_of tokens (Ok tree) one enough other is = one.only other is
  only_of tokens (Err (Syntax n)) one enough other is = one.only other is
  only_of tokens (Err (TooDeep n)) one enough other is = one.only other is
  only_of tokens (Err NoMemory) one enough other is = absurd (enough refl)

  -- two answers are both what was settled
  by_settled : (tokens : List Lexeme) → EndsText tokens → (result : Result A Stop) (new : List Lexeme) → Gives result (cut (first_too_deep 0 tokens) tokens) new (reads s (text g)) → (result ≡ Err stop.NoMemory → ⊥) → (a b : Result A ReadError) → IsAnswer s g tokens a → IsAnswer s g tokens b → a ≡ b
  by_settled tokens ends result new gives enough a b p q =
      let one = answers s g readable tokens ends result new gives in
      let some = settled_enough result (first_too_deep 0 tokens) (length (cut (first_too_deep 0 tokens) tokens)) (length new) enough in
      sym (only_of tokens _ one some a p) ∙ only_of tokens _ one some b q

  by_reading : (tokens : List Lexeme) → EndsText tokens → (read : Read A) → reads s (text g) (cut (first_too_deep 0 tokens) tokens) ≡ read → (a b : Result A ReadError) → IsAnswer s g tokens a → IsAnswer s g tokens b → a ≡ b
  by_reading tokens ends (Ok x) e =
      let given = cut (first_too_deep 0 tokens) tokens in
      let clean : is_clean s (text g) ≡ true = (and_parts _ _ readable.start).0 in
      let found : Found s (text g) (reads s (text g)) given x.0 x.1 = subst (Exact s (text g) (reads s (text g)) given) e (exact s readable.rules (text g) clean given) in
      by_settled tokens ends (Ok x.0) x.1 (e, omega (arith, ap length found.split, length-append found.front x.1)) (λ no. cc)
  by_reading tokens ends (Err left) e = by_settled tokens ends (Err (At left)) [] e (λ no. cc)

  one_of_tokens : TokenLaws → (vocabulary : Vocabulary) (bytes : List ℕ) (a b : Result A ReadError) → OfTokens vocabulary bytes (λ tokens. IsAnswer s g tokens a) → OfTokens vocabulary bytes (λ tokens. IsAnswer s g tokens b) → as_text a ≡ as_text b
  one_of_tokens laws vocabulary bytes a b p q =
      let tokens = lexemes vocabulary bytes p.tokens in
      let too : IsAnswer s g tokens b = subst (λ ts. IsAnswer s g (lexemes vocabulary bytes ts) b) (laws.one bytes q.tokens p.tokens q.are p.are) q.is in
      ap as_text (by_reading tokens (ends_text laws vocabulary bytes p.tokens p.are) (reads s (text g) (cut (first_too_deep 0 tokens) tokens)) refl a b p.is too)

  -- a file with a bad byte has no tokens
  no_tokens : TokenLaws → (vocabulary : Vocabulary) (bytes : List ℕ) (at : ℕ) (P : List Lexeme → Type 0) → IsBadByte bytes at → OfTokens vocabulary bytes P → ⊥
  no_tokens laws vocabulary bytes at P bad of = laws.none bytes of.tokens at of.are bad

  pub one_text_answer : TokenLaws → (vocabulary : Vocabulary) (bytes : List ℕ) (a b : Result A ReadTextFault) → IsTextAnswer s g vocabulary bytes a → IsTextAnswer s g vocabulary bytes b → a ≡ b
  one_text_answer laws vocabulary bytes (Ok x) (Ok y) p q = one_of_tokens laws vocabulary bytes (Ok x) (Ok y) p q
  one_text_answer laws vocabulary bytes (Ok x) (Err (text_fault.BadByte m)) p q = absurd (no_tokens laws vocabulary bytes m _ q p)
  one_text_answer laws vocabulary bytes (Ok x) (Err (text_fault.Syntax m)) p q = one_of_tokens laws vocabulary bytes (Ok x) (Err (Syntax m)) p q
  one_text_answer laws vocabulary bytes (Ok x) (Err (text_fault.TooDeep m)) p q = one_of_tokens laws vocabulary bytes (Ok x) (Err (TooDeep m)) p q
  one_text_answer laws vocabulary bytes (Err (text_fault.BadByte n)) (Ok y) p q = absurd (no_tokens laws vocabulary bytes n _ p q)
  one_text_answer laws vocabulary bytes (Err (text_fault.BadByte n)) (Err (text_fault.BadByte m)) p q = ap (λ k. Err (text_fault.BadByte k)) (laws.bad bytes n m p q)
  one_text_answer laws vocabulary bytes (Err (text_fault.BadByte n)) (Err (text_fault.Syntax m)) p q = absurd (no_tokens laws vocabulary bytes n _ p q)
  one_text_answer laws vocabulary bytes (Err (text_fault.BadByte n)) (Err (text_fault.TooDeep m)) p q = absurd (no_tokens laws vocabulary bytes n _ p q)
  one_text_answer laws vocabulary bytes (Err (text_fault.Syntax n)) (Ok y) p q = one_of_tokens laws vocabulary bytes (Err (Syntax n)) (Ok y) p q
  one_text_answer laws vocabulary bytes (Err (text_fault.Syntax n)) (Err (text_fault.BadByte m)) p q = absurd (no_tokens laws vocabulary bytes m _ q p)
  one_text_answer laws vocabulary bytes (Err (text_fault.Syntax n)) (Err (text_fault.Syntax m)) p q = one_of_tokens laws vocabulary bytes (Err (Syntax n)) (Err (Syntax m)) p q
  one_text_answer laws vocabulary bytes (Err (text_fault.Syntax n)) (Err (text_fault.TooDeep m)) p q = one_of_tokens laws vocabulary bytes (Err (Syntax n)) (Err (TooDeep m)) p q
  one_text_answer laws vocabulary bytes (Err (text_fault.TooDeep n)) (Ok y) p q = one_of_tokens laws vocabulary bytes (Err (TooDeep n)) (Ok y) p q
  one_text_answer laws vocabulary bytes (Err (text_fault.TooDeep n)) (Err (text_fault.BadByte m)) p q = absurd (no_tokens laws vocabulary bytes m _ q p)
  one_text_answer laws vocabulary bytes (Err (text_fault.TooDeep n)) (Err (text_fault.Syntax m)) p q = one_of_tokens laws vocabulary bytes (Err (TooDeep n)) (Err (Syntax m)) p q
  one_text_answer laws vocabulary bytes (Err (text_fault.TooDeep n)) (Err (text_fault.TooDeep m)) p q = one_of_tokens laws vocabulary bytes (Err (TooDeep n)) (Err (TooDeep m)) p q
