-- A file's tokens up to the first that is no word.
use Rattle.std.proofs.Common.{◌≡◌, ◌≢◌, ◌<◌, ◌≤◌, ◌^◌, ◌+◌, ◌∙◌, inl, inr, ℕ, suc, List, [], ◌∷◌, ◌++◌, All, Some, map, length, take, drop, get_or, ap, sym, refl, subst, arith, append_assoc, length-append}
use Rattle.std.specs.List.{slice_get}
use Rattle.std.proofs.Math.Seq.{drop-cons}
use Rattle.std.proofs.lemmas.List.{get_or_append_left, map-append, same_from_push, take-append-drop, take_more}
use Rattle.std.proofs.lemmas.List.Elements.{All-head, All-map, All-tail}
use Rattle.std.proofs.lemmas.Option.{slice_get-get_or}
use Rattle.qc_text.specs.declared.token.Kind.TheVariants.{End, Number}
use Rattle.qc_text.specs.declared.token.Token.{Token}
use Rattle.qc_text.specs.Pieces.{AreTokens, IsBadByte, token_at}
use Rattle.qc_machine.specs.InputFile.{IsBadInput, IsInput, IsWordToken, IsWrongToken, number_in}

-- two lists that are equal have the same first element that isn't P, and the same elements before it
same_first : (P : Token → Type 0) (xs ys us vs : List Token) (x y : Token) → xs ++ x ∷ us ≡ ys ++ y ∷ vs →
    All P xs → All P ys → (P x → ⊥) → (P y → ⊥) → (xs ≡ ys) × (x ≡ y)
same_first P [] [] us vs x y e p q wrong other = (refl, cc)
same_first P [] (b ∷ ys) us vs x y e p q wrong other =
    let same : b ≡ x = cc in absurd (wrong (subst P same (All-head P b ys q)))
same_first P (a ∷ xs) [] us vs x y e p q wrong other =
    let same : a ≡ y = cc in absurd (other (subst P same (All-head P a xs p)))
same_first P (a ∷ xs) (b ∷ ys) us vs x y e p q wrong other =
    let rest : xs ++ x ∷ us ≡ ys ++ y ∷ vs = cc in
    let head : a ≡ b = cc in
    let same = same_first P xs ys us vs x y rest (All-tail P a xs p) (All-tail P b ys q) wrong other in
    (cc (same.0, head), same.1)

-- a file has at most one list of tokens
abbrev pub OneList : Type 0
OneList = (bytes : List ℕ) (tokens others : List Token) → AreTokens bytes tokens → AreTokens bytes others → tokens ≡ others

-- the end is no word
end_is_none : (word : ℕ) (bytes : List ℕ) (token : Token) → token.kind ≡ End → IsWordToken word bytes token → ⊥
end_is_none word bytes token e w = let never : End ≡ Number = sym e ∙ w.0 in cc never

pub one_input : OneList → (word : ℕ) (bytes words others : List ℕ) → IsInput word bytes words → IsInput word bytes others → words ≡ others
one_input one word bytes words others a b =
    let same = same_first (IsWordToken word bytes) a.front b.front [] [] a.last b.last (one bytes _ _ a.cut b.cut)
    a.numbers b.numbers (end_is_none word bytes a.last a.ended) (end_is_none word bytes b.last b.ended) in
    a.values ∙ ap (map (number_in bytes)) same.0 ∙ sym b.values

one_wrong : OneList → (word : ℕ) (bytes : List ℕ) (a b : ℕ) → IsWrongToken word bytes a → IsWrongToken word bytes b → a ≡ b
one_wrong one word bytes a b p q =
    let same = same_first (IsWordToken word bytes) p.front q.front p.rest q.rest p.token q.token (one bytes _ _ p.cut q.cut)
    p.numbers q.numbers p.wrong q.wrong in
    p.place ∙ ap (λ (t : Token). t.start) same.1 ∙ sym q.place

pub one_bad_input : OneList → ((bytes : List ℕ) (at place : ℕ) → IsBadByte bytes at → IsBadByte bytes place → at ≡ place) →
    ((bytes : List ℕ) (tokens : List Token) (at : ℕ) → AreTokens bytes tokens → IsBadByte bytes at → ⊥) →
    (word : ℕ) (bytes : List ℕ) (a b : ℕ) → IsBadInput word bytes a → IsBadInput word bytes b → a ≡ b
one_bad_input one byte none word bytes a b (inl p) (inl q) = byte bytes a b p q
one_bad_input one byte none word bytes a b (inl p) (inr q) = absurd (none bytes _ a q.cut p)
one_bad_input one byte none word bytes a b (inr p) (inl q) = absurd (none bytes _ b p.cut q)
one_bad_input one byte none word bytes a b (inr p) (inr q) = one_wrong one word bytes a b p q

pub not_bad : OneList → ((bytes : List ℕ) (tokens : List Token) (at : ℕ) → AreTokens bytes tokens → IsBadByte bytes at → ⊥) →
    (word : ℕ) (bytes words : List ℕ) (at : ℕ) → IsInput word bytes words → IsBadInput word bytes at → ⊥
not_bad one none word bytes words at p (inl q) = none bytes _ at p.cut q
not_bad one none word bytes words at p (inr q) =
    let same = same_first (IsWordToken word bytes) p.front q.front [] q.rest p.last q.token (one bytes _ _ p.cut q.cut)
    p.numbers q.numbers (end_is_none word bytes p.last p.ended) q.wrong in
    q.some (ap (λ (t : Token). t.kind) (sym same.1) ∙ p.ended)

-- tokens lie inside their file
abbrev pub InFile : Type 0
InFile = (bytes : List ℕ) (tokens : List Token) (i : ℕ) (token : Token) → AreTokens bytes tokens →
    slice_get tokens i ≡ Some token → (token.start ≤ token.end) × (token.end ≤ length bytes)

-- the last token and no other is the end
abbrev pub EndsOnce : Type 0
EndsOnce = (bytes : List ℕ) (tokens : List Token) → AreTokens bytes tokens →
    (front : List Token) × (tokens ≡ front ++ token_at (length bytes) (Some End) (length bytes))
    × All (λ token. token.kind ≢ End) front

pub some_tokens : EndsOnce → (bytes : List ℕ) (tokens : List Token) → AreTokens bytes tokens → length tokens ≡ 0 → ⊥
some_tokens ends bytes tokens cut none =
    let end = ends bytes tokens cut in
    let size : length tokens ≡ length end.0 + 1 =
    ap length end.1 ∙ length-append end.0 (token_at (length bytes) (Some End) (length bytes)) in
    omega arith

pub inside_at : InFile → (bytes : List ℕ) (tokens front : List Token) (last d : Token) (i : ℕ) → AreTokens bytes tokens →
    tokens ≡ front ++ last ∷ [] → i < length front →
    ((get_or front i d).start ≤ (get_or front i d).end) × ((get_or front i d).end ≤ length bytes)
inside_at file bytes tokens front last d i cut e lt =
    let more : i < length (front ++ last ∷ []) = omega (arith, length-append front (last ∷ [])) in
    file bytes tokens i (get_or front i d) cut
    (ap (λ xs. slice_get xs i) e ∙ slice_get-get_or (front ++ last ∷ []) i d more
    ∙ ap Some (get_or_append_left front (last ∷ []) d i lt))

pub input_found : EndsOnce → (word : ℕ) (bytes words : List ℕ) (tokens front : List Token) (last : Token) →
    AreTokens bytes tokens → tokens ≡ front ++ last ∷ [] → All (IsWordToken word bytes) front →
    words ≡ map (number_in bytes) front → IsInput word bytes words
input_found ends word bytes words tokens front last cut e numbers values =
    let end = ends bytes tokens cut in
    let same = same_from_push front end.0 last _ (sym e ∙ end.1) in
    record {
      front = front;
      last = last;
      cut = subst (AreTokens bytes) e cut;
      ended = ap (λ (t : Token). t.kind) same.1;
      numbers = numbers;
      values = values;
    }

pub wrong_found : EndsOnce → (word : ℕ) (bytes : List ℕ) (tokens front : List Token) (last d : Token) (i : ℕ) →
    AreTokens bytes tokens → tokens ≡ front ++ last ∷ [] → i < length front →
    All (IsWordToken word bytes) (take i front) → (IsWordToken word bytes (get_or front i d) → ⊥) →
    IsWrongToken word bytes (get_or front i d).start
wrong_found ends word bytes tokens front last d i cut e lt numbers wrong =
    let end = ends bytes tokens cut in
    let same = same_from_push front end.0 last _ (sym e ∙ end.1) in
    let others : All (λ token. token.kind ≢ End) front = subst (All (λ token. token.kind ≢ End)) (sym same.0) end.2 in
    let parts : take i front ++ get_or front i d ∷ drop (suc i) front ≡ front =
    ap (λ rest. take i front ++ rest) (sym (drop-cons front i d lt)) ∙ take-append-drop i front in
    let whole : tokens ≡ take i front ++ get_or front i d ∷ (drop (suc i) front ++ last ∷ []) =
    e ∙ ap (λ xs. xs ++ last ∷ []) (sym parts)
    ∙ append_assoc (take i front) (get_or front i d ∷ drop (suc i) front) (last ∷ []) in
    record {
      front = take i front;
      token = get_or front i d;
      rest = drop (suc i) front ++ last ∷ [];
      cut = subst (AreTokens bytes) whole cut;
      numbers = numbers;
      some = others i d lt;
      wrong = wrong;
      place = refl;
    }

pub small_words : (word : ℕ) (bytes words : List ℕ) (front : List Token) → All (IsWordToken word bytes) front →
    words ≡ map (number_in bytes) front → All (λ number. number < 2 ^ word) words
small_words word bytes words front numbers values =
    subst (All (λ number. number < 2 ^ word)) (sym values)
    (All-map (λ number. number < 2 ^ word) (number_in bytes) front (λ k d lt. (numbers k d lt).1))

pub one_more : (word : ℕ) (bytes words : List ℕ) (front : List Token) (d : Token) (i number : ℕ) → i < length front →
    words ≡ map (number_in bytes) (take i front) → number ≡ number_in bytes (get_or front i d) →
    words ++ number ∷ [] ≡ map (number_in bytes) (take (i + 1) front)
one_more word bytes words front d i number lt values is =
    sym (ap (map (number_in bytes)) (take_more front i d lt) ∙ map-append (number_in bytes) (take i front) (get_or front i d ∷ [])
    ∙ cc (values, is))
