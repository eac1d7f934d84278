-- Fronts of texts: where they begin texts, and how deep their brackets are.
use Rattle.std.specs.Prelude.{ℕ, zero, suc, ◌≡◌, ◌≤◌, ◌<◌, Bool, true, false, cond, ◌&&◌, ◌||◌, List, [], ◌∷◌, ◌++◌, length, take, drop, nat_le, Option, Some, None}
use Rattle.std.specs.List.{list_any}
use Rattle.std.specs.Option.{option_map}
use Rattle.std.proofs.Common.{refl, ap, sym, ◌∙◌, inl, inr, subst, append_assoc, arith}
use Rattle.std.proofs.lemmas.List.{take-append-drop, take-take}
use Rattle.std.proofs.lemmas.List.Folds.{list_any-append}
use Rattle.std.proofs.lemmas.Bool.{and_parts, not-true}
use Rattle.qc_text.specs.declared.token.Kind.TheVariants as kind
use Rattle.qc_grammar.specs.Lexeme.{Any, Lexeme, same_class}
use Rattle.qc_grammar.specs.Grammar.{Grammar, terminal, empty, sequence, choice, action, repetition, nonterminal, Syntax}
use Rattle.qc_grammar.specs.Language.{Phrases, PhraseBy, Derives, IsPhrase, Begins}
use Rattle.qc_grammar.specs.Law.LL1.{is_endless, IsClean}
use Rattle.qc_grammar.specs.Brackets.{is_shallow, open_after, first_too_deep, most_open}
use Rattle.qc_grammar.specs.Law.Phrases.{rule_facts}

pub take_one_more : (front : List Lexeme) (t : Lexeme) (rest : List Lexeme)
    → take (suc (length front)) (front ++ t ∷ rest) ≡ front ++ t ∷ []
take_one_more [] t rest = refl
take_one_more (u ∷ us) t rest = ap (λ ts. u ∷ ts) (take_one_more us t rest)

module _ {I : Type 0} {E : I → Type 0} (s : Syntax I E) where
  -- a front of what begins a phrase begins it
  pub begins_front : {A : Type 0} (g : Grammar I E A) (front rest : List Lexeme) → Begins s g (front ++ rest)
      → Begins s g front
  begins_front g front rest b =
      record {
        more = rest ++ b.more;
        tree = b.tree;
        phrase =
            subst (λ ts. IsPhrase s g ts b.tree) (append_assoc front rest b.more) b.phrase;
      }

  pub begins_take : {A : Type 0} (g : Grammar I E A) (tokens : List Lexeme) (j m : ℕ) → j ≤ m
      → Begins s g (take m tokens) → Begins s g (take j tokens)
  begins_take g tokens j m le b =
      subst (Begins s g) (take-take j m tokens le)
      (begins_front g (take j (take m tokens)) (drop j (take m tokens))
      (subst (Begins s g) (sym (take-append-drop j (take m tokens))) b))

  pub phrase_begins : {A : Type 0} (g : Grammar I E A) (tokens : List Lexeme) (tree : A) → IsPhrase s g tokens tree
      → (j : ℕ) → Begins s g (take j tokens)
  phrase_begins g tokens tree p j =
      record {
        more = drop j tokens;
        tree = tree;
        phrase =
            subst (λ ts. IsPhrase s g ts tree) (sym (take-append-drop j tokens)) p;
      }

-- a front of shallow tokens is shallow
pub shallow_front : (n : ℕ) (front rest : List Lexeme) → is_shallow n (front ++ rest) ≡ true → is_shallow n front ≡ true
shallow_front n [] rest e = refl
shallow_front n (t ∷ ts) rest e =
    let parts : (nat_le (open_after n t) most_open ≡ true) × (is_shallow (open_after n t) (ts ++ rest) ≡ true) =
    and_parts _ _ e in
    ap (λ b. b && is_shallow (open_after n t) ts) parts.0 ∙ shallow_front (open_after n t) ts rest parts.1

pub shallow_take : (n : ℕ) (tokens : List Lexeme) (j m : ℕ) → j ≤ m → is_shallow n (take m tokens) ≡ true
    → is_shallow n (take j tokens) ≡ true
shallow_take n tokens j m le e =
    subst (λ ts. is_shallow n ts ≡ true) (take-take j m tokens le)
    (shallow_front n (take j (take m tokens)) (drop j (take m tokens))
    (subst (λ ts. is_shallow n ts ≡ true) (sym (take-append-drop j (take m tokens))) e))

pub shallow_all : (n : ℕ) (tokens : List Lexeme) (j : ℕ) → is_shallow n tokens ≡ true
    → is_shallow n (take j tokens) ≡ true
shallow_all n tokens j e =
    shallow_front n (take j tokens) (drop j tokens)
    (subst (λ ts. is_shallow n ts ≡ true) (sym (take-append-drop j tokens)) e)

-- the search for the first bracket that is too deep
pub none_too_deep : (n : ℕ) (tokens : List Lexeme) → first_too_deep n tokens ≡ None → is_shallow n tokens ≡ true
none_too_deep n [] e = refl
none_too_deep n (t ∷ ts) e = go (nat_le (open_after n t) most_open) e (none_too_deep (open_after n t) ts)
  where
    back : (o : Option ℕ) → option_map suc o ≡ None → o ≡ None
    back None f = refl
    back (Some k) f = absurd cc

    go : (b : Bool) → cond b (option_map suc (first_too_deep (open_after n t) ts)) (Some 0) ≡ None
        → (first_too_deep (open_after n t) ts ≡ None → is_shallow (open_after n t) ts ≡ true)
        → (b && is_shallow (open_after n t) ts) ≡ true
    go true f more = more (back (first_too_deep (open_after n t) ts) f)
    go false f more = absurd cc

-- a bracket that is too deep, and none before it is
pub record FirstTooDeep (n : ℕ) (tokens : List Lexeme) (k : ℕ) : Type 0 where
  pub within : k < length tokens
  pub shallow : is_shallow n (take k tokens) ≡ true
  pub deep : is_shallow n (take (suc k) tokens) ≡ false

pub some_too_deep : (n : ℕ) (tokens : List Lexeme) (k : ℕ) → first_too_deep n tokens ≡ Some k → FirstTooDeep n tokens k
some_too_deep n [] k e = absurd cc
some_too_deep n (t ∷ ts) k e = go (nat_le (open_after n t) most_open) refl e (some_too_deep (open_after n t) ts)
  where
    back : (o : Option ℕ) → option_map suc o ≡ Some k → (j : ℕ) × (o ≡ Some j) × (k ≡ suc j)
    back None f = absurd cc
    back (Some j) f = let same : suc j ≡ k = cc in (j, refl, sym same)

    go : (b : Bool) → nat_le (open_after n t) most_open ≡ b
        → cond b (option_map suc (first_too_deep (open_after n t) ts)) (Some 0) ≡ Some k → ((j : ℕ)
        → first_too_deep (open_after n t) ts ≡ Some j → FirstTooDeep (open_after n t) ts j)
        → FirstTooDeep n (t ∷ ts) k
    go true here f more =
        let found : (j : ℕ) × (first_too_deep (open_after n t) ts ≡ Some j) × (k ≡ suc j) =
        back (first_too_deep (open_after n t) ts) f in
        let rest : FirstTooDeep (open_after n t) ts found.0 = more found.0 found.1 in
        subst (FirstTooDeep n (t ∷ ts)) (sym found.2)
        (record {
          within = let lt : found.0 < length ts = rest.within in omega arith;
          shallow = ap (λ b. b && is_shallow (open_after n t) (take found.0 ts)) here ∙ rest.shallow;
          deep = ap (λ b. b && is_shallow (open_after n t) (take (suc found.0) ts)) here ∙ rest.deep;
        })
    go false here f more =
        let same : 0 ≡ k = cc in
        subst (FirstTooDeep n (t ∷ ts)) same
        (record { within = omega arith; shallow = refl; deep = ap (λ b. b && true) here })

-- one of the tokens is the end of a text
abbrev pub has_end : List Lexeme → Bool
has_end tokens = list_any (λ t. same_class t.class (Any kind.End)) tokens

pub no_end_append : (front rest : List Lexeme) → has_end front ≡ false → has_end rest ≡ false
    → has_end (front ++ rest) ≡ false
no_end_append front rest e f =
    list_any-append (λ t. same_class t.class (Any kind.End)) front rest ∙ ap (λ b. b || has_end rest) e ∙ f

pub no_ends : {X : Type 0} (P : List Lexeme → X → Type 0) → ((tokens : List Lexeme) (x : X) → P tokens x
    → has_end tokens ≡ false) → (xs : List X) (tokens : List Lexeme) → Phrases P tokens xs → has_end tokens ≡ false
no_ends P one [] tokens p = ap has_end p
no_ends P one (x ∷ xs) tokens p = ap has_end p.2 ∙ no_end_append p.0 p.1 (one p.0 x p.3) (no_ends P one xs p.1 p.4)

module _ {I : Type 0} {E : I → Type 0} (s : Syntax I E) (clean : IsClean s) where
  pub no_end_by : (n : ℕ) → ((i : I) (tokens : List Lexeme) (tree : E i) → Derives s n i tokens tree
      → has_end tokens ≡ false) → {A : Type 0} (g : Grammar I E A) → is_endless g ≡ true
      → (tokens : List Lexeme) (tree : A) → PhraseBy (Derives s n) g tokens tree → has_end tokens ≡ false
  no_end_by n rules (terminal c) e tokens tree p =
      ap has_end p.0 ∙ ap (λ d. same_class d (Any kind.End) || false) p.1 ∙ ap (λ b. b || false) (not-true _ e)
  no_end_by n rules (empty x) e tokens tree p = ap has_end p.0
  no_end_by n rules (sequence g h) e tokens tree p =
      let each : (is_endless g ≡ true) × (is_endless h ≡ true) = and_parts _ _ e in
      ap has_end p.2
      ∙ no_end_append p.0 p.1 (no_end_by n rules g each.0 p.0 tree.0 p.3)
      (no_end_by n rules h each.1 p.1 tree.1 p.4)
  no_end_by n rules (choice g h) e tokens tree p =
      let each : (is_endless g ≡ true) × (is_endless h ≡ true) = and_parts _ _ e in
      elim p [
        | inl q ↦ no_end_by n rules g each.0 tokens tree q
        | inr q ↦ no_end_by n rules h each.1 tokens tree q
      ]
  no_end_by n rules (action f g) e tokens tree p = no_end_by n rules g e tokens p.0 p.1
  no_end_by n rules (repetition g) e tokens tree p =
      no_ends (PhraseBy (Derives s n) g) (no_end_by n rules g e) tree tokens p
  no_end_by n rules (nonterminal i) e tokens tree p = rules i tokens tree p

  no_end_in_rule : (n : ℕ) (i : I) (tokens : List Lexeme) (tree : E i) → Derives s n i tokens tree
      → has_end tokens ≡ false
  no_end_in_rule zero i tokens tree p = absurd p
  no_end_in_rule (suc n) i tokens tree p =
      no_end_by n (no_end_in_rule n) (s.rule i) (rule_facts s clean i).endless tokens tree p

  -- no token of a phrase is the end
  pub no_end_inside : {A : Type 0} (g : Grammar I E A) → is_endless g ≡ true → (tokens : List Lexeme) (tree : A)
      → IsPhrase s g tokens tree → has_end tokens ≡ false
  no_end_inside g e tokens tree p = no_end_by p.depth (no_end_in_rule p.depth) g e tokens tree p.is
