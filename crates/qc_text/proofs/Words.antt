-- Words with a blank after each are cut into these words.
use Rattle.std.proofs.Common.{ℕ, suc, ◌≡◌, ◌≢◌, ◌∙◌, ◌+◌, ◌-◌, ◌≤◌, inl, inr, Bool, true, false, nat_eq, List, [], ◌∷◌, ◌++◌, length, take, drop, refl, ap, sym, subst, arith, append_assoc, length-append}
use Rattle.std.proofs.Math.Bool.{and-false}
use Rattle.std.proofs.lemmas.Bool.{and_parts}
use Rattle.std.specs.Char.{is_ascii_digit, is_ascii_hexdigit}
use Rattle.std.specs.List.{list_all}
use Rattle.std.specs.Prelude.{Option, None, Some, codes}
use Rattle.qc_text.specs.declared.token.Kind.{Kind}
use Rattle.qc_text.specs.declared.token.Kind.TheVariants.{End}
use Rattle.qc_text.specs.declared.token.Token.{Token}
use Rattle.qc_text.specs.Tokens.{is_name_start, is_name_part, is_string_byte, IsNameText, IsNumberText, IsStringText, IsTokenText, IsComment}
use Rattle.qc_text.specs.Pieces.{Piece, IsPieceText, IsFirst, AreCut, tokens_of, AreTokens}
use Rattle.qc_text.specs.Inner.Scanning.{is_pair}
use Rattle.qc_text.specs.PrintedWords.{spaced, AreWords, texts_of, words_in}
use Rattle.qc_text.proofs.Spans.{between}
use Rattle.qc_text.proofs.Shapes.{Sort, names, numbers, prims, strings, slashes, blanks, marks, others, sort_of, Shape, a_name, a_number, a_prim, a_string, a_slash, a_comment, a_blank, a_mark, a_pair, shape, sort_blank, sort_slash}

heads : (x y : ℕ) (xs ys : List ℕ) → x ∷ xs ≡ y ∷ ys → x ≡ y
heads x y xs ys e = cc e

-- a run of bytes stops where a byte follows that doesn't pass
stops : (p : ℕ → Bool) (more : List ℕ) (y : ℕ) (ys text after : List ℕ) → p y ≡ false → list_all p text ≡ true
    → more ++ y ∷ ys ≡ text ++ after → length text ≤ length more
stops p more y ys [] after fails all e = omega arith
stops p [] y ys (x ∷ text) after fails all e =
    let same : y ≡ x = cc e in cc (ap p same, fails, (and_parts (p x) (list_all p text) all).0)
stops p (m ∷ more) y ys (x ∷ text) after fails all e =
    omega (arith, stops p more y ys text after fails (and_parts (p x) (list_all p text) all).1 (cc e))

hexadecimal_most : (more rest digits after : List ℕ) → list_all is_ascii_hexdigit digits ≡ true
    → more ++ 32 ∷ rest ≡ (120 ∷ digits) ++ after → suc (length digits) ≤ length more
hexadecimal_most [] rest digits after all e = absurd (omega (arith, heads 32 120 rest (digits ++ after) e))
hexadecimal_most (m ∷ more) rest digits after all e =
    omega (arith, stops is_ascii_hexdigit more 32 rest digits after refl all (cc e))

number_most : (b : ℕ) (more rest text after : List ℕ) → IsNumberText (b ∷ text) → more ++ 32 ∷ rest ≡ text ++ after
    → length text ≤ length more
number_most b more rest text after (inl digits) e =
    stops is_ascii_digit more 32 rest text after refl (and_parts _ _ digits.1).1 e
number_most b more rest text after (inr (digits, are, same)) e =
    let behind : text ≡ 120 ∷ digits = cc same in
    omega (arith, ap length behind, hexadecimal_most more rest digits after are.1 (e ∙ ap (λ xs. xs ++ after) behind))

name_most : (more rest text after : List ℕ) → IsNameText text → more ++ 32 ∷ rest ≡ text ++ after
    → length text ≤ length more
name_most more rest [] after is e = absurd is
name_most [] rest (x ∷ text) after is e =
    let same : 32 ≡ x = cc e in cc (ap is_name_start same, is.0)
name_most (m ∷ more) rest (x ∷ text) after is e =
    omega (arith, stops is_name_part more 32 rest text after refl is.1 (cc e))

string_most : (b : ℕ) (more rest text after : List ℕ) → IsStringText (b ∷ more) → IsStringText (b ∷ text)
    → more ++ 32 ∷ rest ≡ text ++ after → length text ≤ length more
string_most b more rest text after (inner, all, same) (other, every, alike) e =
    let mine : more ≡ inner ++ 34 ∷ [] = cc same in
    let theirs : text ≡ other ++ 34 ∷ [] = cc alike in
    let apart : inner ++ 34 ∷ 32 ∷ rest ≡ other ++ 34 ∷ after =
    sym (append_assoc inner (34 ∷ []) (32 ∷ rest)) ∙ ap (λ xs. xs ++ 32 ∷ rest) (sym mine) ∙ e
    ∙ ap (λ xs. xs ++ after) theirs ∙ append_assoc other (34 ∷ []) after in
    omega (
      arith,
      ap length mine,
      ap length theirs,
      length-append inner (34 ∷ []),
      length-append other (34 ∷ []),
      stops is_string_byte inner 34 (32 ∷ rest) other (34 ∷ after) refl every apart,
    )

no_comment_text : (b : ℕ) (text after rest : List ℕ) → IsComment (b ∷ text) → 32 ∷ rest ≡ text ++ after → ⊥
no_comment_text b text after rest (inl line) e =
    let behind : text ≡ 47 ∷ line.0 = cc line.2 in
    omega (arith, heads 32 47 rest (line.0 ++ after) (e ∙ ap (λ xs. xs ++ after) behind))
no_comment_text b text after rest (inr block) e =
    let behind : text ≡ 42 ∷ block.0 ++ codes "*/" = cc block.2 in
    omega (arith, heads 32 42 rest ((block.0 ++ codes "*/") ++ after) (e ∙ ap (λ xs. xs ++ after) behind))

no_pair : (b : ℕ) → is_pair b 32 ≡ false
no_pair b = rw (and-false (nat_eq b 58)) (rw (and-false (nat_eq b 61)) (rw (and-false (nat_eq b 46)) refl))

-- no piece that begins as a word does is longer, where a blank follows the word
most : (kind : Kind) (other : Option Kind) (b : ℕ) (more rest text after : List ℕ) (s : Sort)
    → Shape (Some kind) b more s → Shape other b text s → more ++ 32 ∷ rest ≡ text ++ after
    → length text ≤ length more
most kind other b more rest text after names (a_name k all) (a_name l every) e = stops is_name_part more 32 rest text
    after refl every e
most kind other b more rest text after numbers (a_number k is) (a_number l its) e = number_most b more rest text after
    its e
most kind other b more rest text after prims (a_prim k is) (a_prim l its) e = name_most more rest text after its e
most kind other b more rest text after strings (a_string k is) (a_string l its) e = string_most b more rest text after
    is its e
most kind other b more rest text after slashes (a_slash k none) (a_slash l no_more) e = omega (arith, ap length no_more)
most kind other b more rest text after slashes (a_slash k none) (a_comment l its) e =
    absurd (no_comment_text b text after rest its (subst (λ xs. xs ++ 32 ∷ rest ≡ text ++ after) none e))
most kind other b more rest text after slashes (a_comment k is) theirs e = cc k
most kind other b more rest text after blanks (a_blank k none) theirs e = cc k
most kind other b more rest text after marks (a_mark k none) (a_mark l no_more) e = omega (arith, ap length no_more)
most kind other b more rest text after marks (a_mark k none) (a_pair l c one pair) e =
    let front : 32 ∷ rest ≡ (c ∷ []) ++ after =
    subst (λ xs. xs ++ 32 ∷ rest ≡ text ++ after) none e ∙ ap (λ xs. xs ++ after) one in
    let same : c ≡ 32 = cc front in
    cc (no_pair b, ap (is_pair b) same, pair)
most kind other b more rest text after marks (a_pair k c one pair) (a_mark l no_more) e = omega
    (arith, ap length no_more)
most kind other b more rest text after marks (a_pair k c one pair) (a_pair l d another pair_too) e =
    omega (arith, ap length one, ap length another)
most kind other b more rest text after others mine theirs e = elim mine [ ]

longest : (kind : Kind) (b : ℕ) (more rest : List ℕ) → IsTokenText kind (b ∷ more)
    → (other : Option Kind) (text after : List ℕ) → IsPieceText other text → (b ∷ more) ++ 32 ∷ rest ≡ text ++ after
    → length text ≤ suc (length more)
longest kind b more rest is other [] after its e = omega arith
longest kind b more rest is other (c ∷ text) after its e =
    let same : c ≡ b = cc e in
    let mine : Shape (Some kind) b more (sort_of b) = shape (Some kind) b more (is, λ f. cc f) in
    let theirs : Shape other b text (sort_of b) = subst (λ x. Shape other x text (sort_of x)) same
    (shape other c text its) in
    omega (arith, most kind other b more rest text after (sort_of b) mine theirs (cc e))

no_star : (kind : Kind) (b : ℕ) (more rest after : List ℕ) → Shape (Some kind) b more slashes
    → more ++ 32 ∷ rest ≡ 42 ∷ after → ⊥
no_star kind b more rest after (a_slash k none) e =
    omega (arith, heads 32 42 rest after (subst (λ xs. xs ++ 32 ∷ rest ≡ 42 ∷ after) none e))
no_star kind b more rest after (a_comment k is) e = cc k

word_first : (kind : Kind) (word rest : List ℕ) → IsTokenText kind word → word ≢ []
    → IsFirst (word ++ 32 ∷ rest) (record { kind = Some kind; text = word }) (32 ∷ rest)
word_first kind [] rest is some = absurd (some refl)
word_first kind (b ∷ more) rest is some =
    record {
      split = refl;
      is = (is, some);
      longest = longest kind b more rest is;
      comment = λ after e.
          let slash : b ≡ 47 = cc e in
          let mine : Shape (Some kind) b more (sort_of b) = shape (Some kind) b more (is, λ f. cc f) in
          absurd (no_star kind b more rest after (subst (Shape (Some kind) b more) (ap sort_of slash
          ∙ sort_slash) mine) (cc e));
    }

blank_alone : (other : Option Kind) (text : List ℕ) → Shape other 32 text blanks → length text ≤ 0
blank_alone other text (a_blank k none) = omega (arith, ap length none)

blank_longest : (rest : List ℕ) (other : Option Kind) (text after : List ℕ) → IsPieceText other text
    → 32 ∷ rest ≡ text ++ after → length text ≤ 1
blank_longest rest other [] after its e = omega arith
blank_longest rest other (c ∷ text) after its e =
    let same : c ≡ 32 = cc e in
    let theirs : Shape other 32 text (sort_of 32) = subst (λ x. Shape other x text (sort_of x)) same
    (shape other c text its) in
    omega (arith, blank_alone other text (subst (Shape other 32 text) (sort_blank 32 refl) theirs))

blank_first : (rest : List ℕ) → IsFirst (32 ∷ rest) (record { kind = None; text = 32 ∷ [] }) rest
blank_first rest =
    record {
      split = refl;
      is = inl (32, refl, refl);
      longest = blank_longest rest;
      comment = λ after e. absurd (omega (arith, heads 32 47 rest (42 ∷ after) e));
    }

pieces_of : List (Kind × List ℕ) → List Piece
pieces_of [] = []
pieces_of (word ∷ words) = record { kind = Some word.0; text = word.1 } ∷ record { kind = None; text = 32 ∷ [] }
    ∷ pieces_of words

are_cut : (words : List (Kind × List ℕ)) → AreWords words → AreCut (spaced (texts_of words)) (pieces_of words) []
unfolding pieces_of
are_cut [] all = refl
are_cut (word ∷ words) all =
    let rest : List ℕ = spaced (texts_of words) in (
      32 ∷ rest,
      subst (λ bytes. IsFirst bytes (record { kind = Some word.0; text = word.1 }) (32 ∷ rest))
          (sym (append_assoc word.1 (32 ∷ []) rest))
          (word_first word.0 word.1 rest all.0 all.1),
      (rest, blank_first rest, are_cut words all.2),
    )

texts_are : (file front : List ℕ) (at : ℕ) (words : List (Kind × List ℕ)) → file ≡ front ++ spaced (texts_of words)
    → at ≡ length front → words_in file (tokens_of at (pieces_of words)) ≡ words ++ (End, []) ∷ []
unfolding pieces_of
texts_are file front at [] e place =
    let none : at - at ≡ 0 = omega arith in ap (λ n. (End, take n (drop at file)) ∷ []) none
texts_are file front at (word ∷ words) e place =
    let rest : List ℕ = spaced (texts_of words) in
    let split : file ≡ front ++ (word.1 ++ (32 ∷ [] ++ rest)) = e
    ∙ ap (λ xs. front ++ xs) (append_assoc word.1 (32 ∷ []) rest) in
    let again : file ≡ (front ++ (word.1 ++ 32 ∷ [])) ++ rest = e ∙ sym (append_assoc front (word.1 ++ 32 ∷ []) rest) in
    let next : at + length word.1 + 1 ≡ length (front ++ (word.1 ++ 32 ∷ [])) =
    omega (arith, place, length-append front (word.1 ++ 32 ∷ []), length-append word.1 (32 ∷ [])) in
    ap (λ text. (word.0, text) ∷ words_in file (tokens_of (at + length word.1 + 1) (pieces_of words)))
    (between file front word.1 (32 ∷ [] ++ rest) at place split)
    ∙ ap (λ ws. word ∷ ws) (texts_are file (front ++ (word.1 ++ 32 ∷ [])) (at + length word.1 + 1) words again next)

pub spaced_words : (words : List (Kind × List ℕ)) → AreWords words
    → (tokens : List Token) × AreTokens (spaced (texts_of words)) tokens
    × (words_in (spaced (texts_of words)) tokens ≡ words ++ (End, []) ∷ [])
spaced_words words all = (
  tokens_of 0 (pieces_of words),
  record { pieces = pieces_of words; cut = are_cut words all; are = refl },
  texts_are (spaced (texts_of words)) [] 0 words refl refl,
)
