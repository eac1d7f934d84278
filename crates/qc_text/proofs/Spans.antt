-- Where the tokens of a file stand.
use Rattle.std.proofs.Common.{ℕ, zero, suc, ◌≡◌, ◌≢◌, ◌∙◌, ◌+◌, ◌-◌, ◌≤◌, ◌<◌, List, [], ◌∷◌, ◌++◌, length, take, drop, refl, ap, sym, subst, arith, append_assoc, append-nil, length-append}
use Rattle.std.proofs.Math.Seq.{take-append_seam, drop-append_seam}
use Rattle.std.proofs.lemmas.List.Elements.{All-from_recursion}
use Rattle.std.specs.List.{AllByRecursion, All, slice_range}
use Rattle.std.specs.Prelude.{Option, None, Some, slice_get}
use Rattle.qc_lists.specs.Law.Lists.{each_append}
use Rattle.qc_text.specs.declared.token.Kind.{Kind}
use Rattle.qc_text.specs.declared.token.Kind.TheVariants.{Name, Prim, Number, Str, Punct, End}
use Rattle.qc_text.specs.declared.token.Token.{Token}
use Rattle.qc_text.specs.Pieces.{Piece, IsPieceText, AreCut, token_at, tokens_of, AreTokens}
use Rattle.qc_text.specs.Tokens.{IsTokenText, token_text}

-- A token stands in a file, no earlier than a place, and its bytes are a text of its kind.
pub record Stands (file : List ℕ) (at : ℕ) (token : Token) : Type 0 where
  pub later : at ≤ token.start
  pub order : token.start ≤ token.end
  pub inside : token.end ≤ length file
  pub text : IsTokenText token.kind (token_text file token)

earlier : (file : List ℕ) (at before : ℕ) → before ≤ at → (tokens : List Token) → AllByRecursion (Stands file at) tokens
    → AllByRecursion (Stands file before) tokens
earlier file at before le [] all = tt
earlier file at before le (t ∷ tokens) all = (
  record { later = omega (arith, all.0.later); order = all.0.order; inside = all.0.inside; text = all.0.text },
  earlier file at before le tokens all.1,
)

-- the bytes between two places
pub between : (file front text after : List ℕ) (at : ℕ) → at ≡ length front → file ≡ front ++ (text ++ after)
    → slice_range file at (at + length text) ≡ text
between file front text after at place e =
    let size : at + length text - at ≡ length text = omega arith in
    ap (λ n. take n (drop at file)) size
    ∙ ap (λ xs. take (length text) (drop at xs)) e
    ∙ ap (λ n. take (length text) (drop n (front ++ (text ++ after)))) place
    ∙ ap (take (length text)) (drop-append_seam front (text ++ after))
    ∙ take-append_seam text after

one_stands : (file front after : List ℕ) (kind : Option Kind) (text : List ℕ) → file ≡ front ++ (text ++ after)
    → IsPieceText kind text
    → AllByRecursion (Stands file (length front)) (token_at (length front) kind (length front + length text))
one_stands file front after None text e is = tt
one_stands file front after (Some kind) text e is = (
  record {
    later = omega arith;
    order = omega arith;
    inside = omega (arith, ap length e, length-append front (text ++ after), length-append text after);
    text = subst (IsTokenText kind) (sym (between file front text after (length front) refl e)) is.0;
  },
  tt,
)

end_stands : (file : List ℕ) → Stands file (length file) (record { kind = End; start = length file; end = length file })
end_stands file = let none : length file - length file ≡ 0 = omega arith in
    record {
      later = omega arith;
      order = omega arith;
      inside = omega arith;
      text =
          ap (λ n. take n (drop (length file) file)) none;
    }

-- all tokens stand in the file
all_stand : (file front bytes : List ℕ) (at : ℕ) (pieces : List Piece) → file ≡ front ++ bytes → at ≡ length front
    → AreCut bytes pieces [] → AllByRecursion (Stands file at) (tokens_of at pieces)
all_stand file front bytes at [] e place cut =
    let whole : file ≡ front = e ∙ ap (λ xs. front ++ xs) cut ∙ append-nil front in
    let here : at ≡ length file = place ∙ sym (ap length whole) in
    (subst (λ n. Stands file n (record { kind = End; start = n; end = n })) (sym here) (end_stands file), tt)
all_stand file front bytes at (piece ∷ pieces) e place cut =
    let split : file ≡ front ++ (piece.text ++ cut.0) = e ∙ ap (λ xs. front ++ xs) cut.1.split in
    let first : AllByRecursion (Stands file at) (token_at at piece.kind (at + length piece.text)) =
    subst (λ n. AllByRecursion (Stands file n) (token_at n piece.kind (n + length piece.text))) (sym place)
    (one_stands file front cut.0 piece.kind piece.text split cut.1.is) in
    let rest = all_stand file (front ++ piece.text) cut.0 (at + length piece.text) pieces
    (split ∙ sym (append_assoc front piece.text cut.0))
    (omega (arith, place, length-append front piece.text)) cut.2 in
    each_append (Stands file at) (token_at at piece.kind (at + length piece.text))
    (tokens_of (at + length piece.text) pieces) first
    (earlier file (at + length piece.text) at (omega arith) (tokens_of (at + length piece.text) pieces) rest)

got : (P : Token → Type 0) (tokens : List Token) (i : ℕ) (token : Token) → AllByRecursion P tokens
    → slice_get tokens i ≡ Some token → P token
got P [] i token all e = cc e
got P (t ∷ tokens) zero token all e = let same : t ≡ token = cc e in subst P same all.0
got P (t ∷ tokens) (suc i) token all e = got P tokens i token all.1 e

stands : (bytes : List ℕ) (tokens : List Token) (i : ℕ) (token : Token) → AreTokens bytes tokens
    → slice_get tokens i ≡ Some token → Stands bytes 0 token
stands bytes tokens i token are e =
    got (Stands bytes 0) (tokens_of 0 are.pieces) i token (all_stand bytes [] bytes 0 are.pieces refl refl are.cut)
    (ap (λ ts. slice_get ts i) (sym are.are) ∙ e)

pub inside : (bytes : List ℕ) (tokens : List Token) (i : ℕ) (token : Token) → AreTokens bytes tokens
    → slice_get tokens i ≡ Some token → (token.start ≤ token.end) × (token.end ≤ length bytes)
inside bytes tokens i token are e = let s = stands bytes tokens i token are e in (s.order, s.inside)

pub of_its_kind : (bytes : List ℕ) (tokens : List Token) (i : ℕ) (token : Token) → AreTokens bytes tokens
    → slice_get tokens i ≡ Some token → IsTokenText token.kind (token_text bytes token)
of_its_kind bytes tokens i token are e = (stands bytes tokens i token are e).text

-- each token ends before the next ones begin
abbrev AreOrdered : List Token → Type 0
AreOrdered [] = Unit {0}
AreOrdered (t ∷ tokens) = AllByRecursion (λ u. t.end ≤ u.start) tokens × AreOrdered tokens

behind : (file : List ℕ) (at : ℕ) (tokens : List Token) → AllByRecursion (Stands file at) tokens
    → AllByRecursion (λ u. at ≤ u.start) tokens
behind file at [] all = tt
behind file at (t ∷ tokens) all = (all.0.later, behind file at tokens all.1)

with_token : (at end : ℕ) (kind : Option Kind) (tokens : List Token) → AllByRecursion (λ u. end ≤ u.start) tokens
    → AreOrdered tokens → AreOrdered (token_at at kind end ++ tokens)
with_token at end None tokens later ordered = ordered
with_token at end (Some kind) tokens later ordered = (later, ordered)

all_ordered : (file front bytes : List ℕ) (at : ℕ) (pieces : List Piece) → file ≡ front ++ bytes → at ≡ length front
    → AreCut bytes pieces [] → AreOrdered (tokens_of at pieces)
all_ordered file front bytes at [] e place cut = (tt, tt)
all_ordered file front bytes at (piece ∷ pieces) e place cut =
    let split : file ≡ front ++ (piece.text ++ cut.0) = e ∙ ap (λ xs. front ++ xs) cut.1.split in
    let again : file ≡ (front ++ piece.text) ++ cut.0 = split ∙ sym (append_assoc front piece.text cut.0) in
    let next : at + length piece.text ≡ length (front ++ piece.text) =
    omega (arith, place, length-append front piece.text) in
    with_token at (at + length piece.text) piece.kind (tokens_of (at + length piece.text) pieces)
    (behind file (at + length piece.text) (tokens_of (at + length piece.text) pieces)
    (all_stand file (front ++ piece.text) cut.0 (at + length piece.text) pieces again next cut.2))
    (all_ordered file (front ++ piece.text) cut.0 (at + length piece.text) pieces again next cut.2)

ordered_at : (tokens : List Token) (i j : ℕ) (a b : Token) → AreOrdered tokens → i < j → slice_get tokens i ≡ Some a
    → slice_get tokens j ≡ Some b → a.end ≤ b.start
ordered_at [] i j a b ordered lt e f = cc e
ordered_at (t ∷ tokens) zero zero a b ordered lt e f = absurd (omega arith)
ordered_at (t ∷ tokens) zero (suc j) a b ordered lt e f =
    let same : t ≡ a = cc e in
    subst (λ x. x.end ≤ b.start) same (got (λ u. t.end ≤ u.start) tokens j b ordered.0 f)
ordered_at (t ∷ tokens) (suc i) zero a b ordered lt e f = absurd (omega arith)
ordered_at (t ∷ tokens) (suc i) (suc j) a b ordered lt e f = ordered_at tokens i j a b ordered.1 (omega arith) e f

pub in_order : (bytes : List ℕ) (tokens : List Token) (i j : ℕ) (a b : Token) → AreTokens bytes tokens → i < j
    → slice_get tokens i ≡ Some a → slice_get tokens j ≡ Some b → a.end ≤ b.start
in_order bytes tokens i j a b are lt e f =
    ordered_at (tokens_of 0 are.pieces) i j a b (all_ordered bytes [] bytes 0 are.pieces refl refl are.cut) lt
    (ap (λ ts. slice_get ts i) (sym are.are) ∙ e) (ap (λ ts. slice_get ts j) (sym are.are) ∙ f)

-- a token of the file and no end
not_end : (at end : ℕ) (kind : Option Kind) (text : List ℕ) → IsPieceText kind text
    → AllByRecursion (λ t. t.kind ≢ End) (token_at at kind end)
not_end at end None text is = tt
not_end at end (Some Name) text is = (λ e. cc e, tt)
not_end at end (Some Prim) text is = (λ e. cc e, tt)
not_end at end (Some Number) text is = (λ e. cc e, tt)
not_end at end (Some Str) text is = (λ e. cc e, tt)
not_end at end (Some Punct) text is = (λ e. cc e, tt)
not_end at end (Some End) text is = absurd (is.1 is.0)

ends_on : (file front bytes : List ℕ) (at : ℕ) (pieces : List Piece) → file ≡ front ++ bytes → at ≡ length front
    → AreCut bytes pieces []
    → (tokens : List Token) × (tokens_of at pieces ≡ tokens ++ token_at (length file) (Some End) (length file))
    × AllByRecursion (λ t. t.kind ≢ End) tokens
ends_on file front bytes at [] e place cut =
    let whole : file ≡ front = e ∙ ap (λ xs. front ++ xs) cut ∙ append-nil front in
    let here : at ≡ length file = place ∙ sym (ap length whole) in
    ([], ap (λ n. token_at n (Some End) n) here, tt)
ends_on file front bytes at (piece ∷ pieces) e place cut =
    let split : file ≡ front ++ (piece.text ++ cut.0) = e ∙ ap (λ xs. front ++ xs) cut.1.split in
    let first : List Token = token_at at piece.kind (at + length piece.text) in
    let rest = ends_on file (front ++ piece.text) cut.0 (at + length piece.text) pieces
    (split ∙ sym (append_assoc front piece.text cut.0))
    (omega (arith, place, length-append front piece.text)) cut.2 in (
      first ++ rest.0,
      ap (λ ts. first ++ ts) rest.1 ∙ sym (append_assoc first rest.0 (token_at (length file) (Some End) (length file))),
      each_append (λ t. t.kind ≢ End) first rest.0 (not_end at (at + length piece.text) piece.kind piece.text cut.1.is)
          rest.2,
    )

pub one_end : (bytes : List ℕ) (tokens : List Token) → AreTokens bytes tokens
    → (front : List Token) × (tokens ≡ front ++ token_at (length bytes) (Some End) (length bytes))
    × All (λ token. token.kind ≢ End) front
one_end bytes tokens are =
    let ends = ends_on bytes [] bytes 0 are.pieces refl refl are.cut in
    (ends.0, are.are ∙ ends.1, All-from_recursion (λ token. token.kind ≢ End) ends.0 ends.2)
