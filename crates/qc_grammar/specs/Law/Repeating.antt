-- What is read again and again, one step at a time.
use Rattle.std.specs.Prelude.{ℕ, zero, suc, ◌≡◌, ◌≤◌, ◌<◌, cond, List, [], ◌∷◌, length, Ok, Err}
use Rattle.std.proofs.Common.{refl, ap, ◌∙◌, arith}
use Rattle.qc_grammar.specs.Lexeme.{Class, Lexeme}
use Rattle.qc_grammar.specs.Lists.{many}
use Rattle.qc_grammar.specs.Reading.{Read, then_read, read_both, read_as, next_in, repeated}

-- what comes after a reading matters only where that one found
pub then_alike : {A B : Type 0} (r : Read A) (f g : A → List Lexeme → Read B) → ((x : A × List Lexeme) → r ≡ Ok x
    → f x.0 x.1 ≡ g x.0 x.1) → then_read r f ≡ then_read r g
then_alike (Ok x) f g h = h x refl
then_alike (Err left) f g h = refl

pub both_alike : {A B : Type 0} (read other : List Lexeme → Read A) (more another : List Lexeme
    → Read B) (tokens : List Lexeme) → read tokens ≡ other tokens → ((x : A × List Lexeme) → read tokens ≡ Ok x
    → more x.1 ≡ another x.1) → read_both read more tokens ≡ read_both other another tokens
both_alike read other more another tokens e h =
    then_alike (read tokens) (λ x rest. then_read (more rest) (λ y last. Ok ((x, y), last)))
    (λ x rest. then_read (another rest) (λ y last. Ok ((x, y), last)))
    (λ x f. ap (λ r. then_read r (λ y last. Ok ((x.0, y), last))) (h x f))
    ∙ ap (λ r. then_read r (λ x rest. then_read (another rest) (λ y last. Ok ((x, y), last)))) e

-- one more, and then those after it
abbrev pub one_more : {A : Type 0} → (List Lexeme → Read A) → (List Lexeme → Read (List A)) → List Lexeme
    → Read (List A)
one_more read more tokens = read_as (λ p. p.0 ∷ p.1) (read_both read more) tokens

module _ {A : Type 0} (read : List Lexeme → Read A) (classes : List Class)
    (consumes : (tokens : List Lexeme) (x : A × List Lexeme) → read tokens ≡ Ok x → length x.1 < length tokens) where
  -- more fuel than tokens changes nothing
  pub enough : (m k : ℕ) (tokens : List Lexeme) → length tokens ≤ m → length tokens ≤ k
      → repeated read classes m tokens ≡ repeated read classes k tokens
  enough zero zero tokens p q = refl
  enough zero (suc k) [] p q = refl
  enough zero (suc k) (t ∷ ts) p q = absurd (omega arith)
  enough (suc m) zero [] p q = refl
  enough (suc m) zero (t ∷ ts) p q = absurd (omega arith)
  enough (suc m) (suc k) tokens p q =
      ap (λ r. cond (next_in classes tokens) r (Ok ([], tokens)))
      (ap (λ r. then_read r (λ x rest. Ok (x.0 ∷ x.1, rest)))
      (both_alike read read (repeated read classes m) (repeated read classes k) tokens refl
      (λ x e. let shorter : length x.1 < length tokens = consumes tokens x e in
      enough m k x.1 (omega arith) (omega arith))))

  -- one step
  pub step : (tokens : List Lexeme)
      → many read classes tokens ≡ cond (next_in classes tokens) (one_more read (many read classes) tokens)
      (Ok ([], tokens))
  step [] = refl
  step (t ∷ ts) =
      ap (λ r. cond (next_in classes (t ∷ ts)) r (Ok ([], t ∷ ts)))
      (ap (λ r. then_read r (λ x rest. Ok (x.0 ∷ x.1, rest)))
      (both_alike read read (repeated read classes (length ts)) (many read classes) (t ∷ ts) refl
      (λ x e. let shorter : length x.1 < suc (length ts) = consumes (t ∷ ts) x e in
      enough (length ts) (length x.1) x.1 (omega arith) (omega arith))))
