-- The piece at the front of a byte and the bytes behind it.
use Rattle.std.proofs.Common.{ℕ, suc, ◌≡◌, ◌≢◌, ◌∙◌, ◌+◌, ◌≤◌, ◌<◌, ◌&&◌, ◌||◌, inl, inr, Bool, true, false, nat_eq, if◌then◌else◌, List, [], ◌∷◌, ◌++◌, length, take, drop, get_or, drop-cons, refl, ap, sym, subst, arith, append_assoc, length-append}
use Rattle.std.proofs.Math.Seq.{take-append_seam, drop-append_seam, get_or-append_seam}
use Rattle.std.proofs.lemmas.Bool.{and_parts, eqb-true, ne_eqb, or_cases}
use Rattle.std.proofs.lemmas.List.{take-append-drop}
use Rattle.std.proofs.lemmas.List.Folds.{length-prefix_len}
use Rattle.std.specs.Char.{is_ascii_digit, is_ascii_hexdigit}
use Rattle.std.specs.List.{list_all, prefix_len}
use Rattle.std.specs.Prelude.{Option, None, Some, codes}
use Rattle.qc_text.specs.declared.piece.Front.{Front}
use Rattle.qc_text.specs.declared.token.Kind.{Kind}
use Rattle.qc_text.specs.declared.token.Kind.TheVariants.{Name, Prim, Number, Str, Punct}
use Rattle.qc_text.specs.Inner.Scanning.{IsFront, is_pair, begins_pair, hexadecimal_run}
use Rattle.qc_text.specs.Pieces.{IsFirst, IsPieceText}
use Rattle.qc_text.specs.Tokens.{is_blank, is_name_start, is_name_part, is_punctuation, is_string_byte, IsNameText, IsNumberText, IsStringText, IsPunctText, IsComment}
use Rattle.qc_text.proofs.Runs.{run_covers, run_ends, run_passes}
use Rattle.qc_text.proofs.Shapes.{Sort, names, numbers, prims, strings, slashes, blanks, marks, others, sort_of, Shape, a_name, a_number, a_prim, a_string, a_blank, a_mark, a_pair, shape, sort_name, sort_digit, sort_blank, sort_mark, sort_percent, sort_quote, sort_slash}

whole : (bytes text rest : List ℕ) (kind : Option Kind) (n : ℕ) → n ≡ length text → 0 < n
    → IsFirst bytes (record { kind = kind; text = text }) rest
    → IsFront bytes (Some (record { kind = kind; length = n }))
unfolding IsFront
whole bytes text rest kind n size some first =
    let front : take n bytes ≡ text = ap (λ k. take k bytes) size ∙ ap (take (length text)) first.split
    ∙ take-append_seam text rest in
    let back : drop n bytes ≡ rest = ap (λ k. drop k bytes) size ∙ ap (drop (length text)) first.split
    ∙ drop-append_seam text rest in
    let within : n ≤ length bytes = omega (arith, ap length first.split, length-append text rest) in (
      some,
      within,
      subst (λ t. IsFirst bytes (record { kind = kind; text = t }) (drop n bytes)) (sym front)
          (subst (λ r. IsFirst bytes (record { kind = kind; text = text }) r) (sym back) first),
    )

-- all pieces at the front are as what begins with the first byte
in_shape : (b c : ℕ) (bs text after : List ℕ) (kind : Option Kind) (s : Sort) → sort_of b ≡ s
    → IsPieceText kind (c ∷ text) → b ∷ bs ≡ (c ∷ text) ++ after → Shape kind b text s
in_shape b c bs text after kind s sorted is e =
    let same : c ≡ b = cc e in
    subst (Shape kind b text) sorted (subst (λ x. Shape kind x text (sort_of x)) same (shape kind c text is))

bounded : (b : ℕ) (bs : List ℕ) (s : Sort) (n : ℕ) → sort_of b ≡ s
    → ((kind : Option Kind) (text after : List ℕ) → Shape kind b text s → bs ≡ text ++ after → length text ≤ n)
    → (kind : Option Kind) (text after : List ℕ) → IsPieceText kind text → b ∷ bs ≡ text ++ after → length text ≤ suc n
bounded b bs s n sorted most kind [] after is e = omega arith
bounded b bs s n sorted most kind (c ∷ text) after is e =
    let behind : bs ≡ text ++ after = cc e in
    omega (arith, most kind text after (in_shape b c bs text after kind s sorted is e) behind)

-- the longest piece
pub first_by : (b : ℕ) (bs more rest : List ℕ) (kind : Option Kind) (n : ℕ) (s : Sort) → sort_of b ≡ s
    → n ≡ 1 + length more → bs ≡ more ++ rest → IsPieceText kind (b ∷ more)
    → ((other : Option Kind) (text after : List ℕ) → Shape other b text s → bs ≡ text ++ after
    → length text ≤ length more)
    → ((after : List ℕ) → s ≡ slashes → bs ≡ 42 ∷ after → IsComment (b ∷ more))
    → IsFront (b ∷ bs) (Some (record { kind = kind; length = n }))
first_by b bs more rest kind n s sorted size split is most comment =
    whole (b ∷ bs) (b ∷ more) rest kind n (omega arith) (omega arith)
    (record {
      split = ap (λ xs. b ∷ xs) split;
      is = is;
      longest = bounded b bs s (length more) sorted most;
      comment = λ after e.
          let slash : b ≡ 47 = cc e in
          let star : bs ≡ 42 ∷ after = cc e in
          comment after (sym sorted ∙ ap sort_of slash ∙ sort_slash) star;
    })

none_on : (b : ℕ) (bs : List ℕ) (s : Sort) → sort_of b ≡ s
    → ((kind : Option Kind) (text after : List ℕ) → Shape kind b text s → bs ≡ text ++ after
    → ((more : List ℕ) → b ≡ 47 → bs ≡ 42 ∷ more → IsComment (b ∷ text)) → ⊥)
    → (kind : Option Kind) (text after : List ℕ) → IsPieceText kind text → b ∷ bs ≡ text ++ after
    → ((more : List ℕ) → b ∷ bs ≡ codes "/*" ++ more → IsComment text) → ⊥
none_on b bs s sorted never None [] after (inl blank) e comment = cc blank.2
none_on b bs s sorted never None [] after (inr (inl line)) e comment = cc line.2
none_on b bs s sorted never None [] after (inr (inr block)) e comment = cc block.2
none_on b bs s sorted never (Some kind) [] after is e comment = is.1 refl
none_on b bs s sorted never kind (c ∷ text) after is e comment =
    let same : c ≡ b = cc e in
    never kind text after (in_shape b c bs text after kind s sorted is e) (cc e)
    (λ more slash star. subst (λ x. IsComment (x ∷ text)) same (comment more (cc (slash, star))))

-- no piece
pub no_front : (b : ℕ) (bs : List ℕ) (s : Sort) → sort_of b ≡ s
    → ((kind : Option Kind) (text after : List ℕ) → Shape kind b text s → bs ≡ text ++ after
    → ((more : List ℕ) → b ≡ 47 → bs ≡ 42 ∷ more → IsComment (b ∷ text)) → ⊥)
    → IsFront (b ∷ bs) None
unfolding IsFront
no_front b bs s sorted never =
    λ piece after first. none_on b bs s sorted never piece.kind piece.text after first.is first.split first.comment

-- a run that passes is no longer than the longest one
pub covers : (p : ℕ → Bool) (xs text after : List ℕ) → xs ≡ text ++ after → list_all p text ≡ true
    → length text ≤ length (take (prefix_len p xs) xs)
covers p xs text after e all =
    omega (arith, length-prefix_len p xs, ap (prefix_len p) e, run_covers p text after all)

name_shape : (kind : Option Kind) (b : ℕ) (text : List ℕ) → Shape kind b text names → list_all is_name_part text ≡ true
name_shape kind b text (a_name k all) = all

pub front_name : (b : ℕ) (bs : List ℕ) → is_name_start b ≡ true
    → IsFront (b ∷ bs) (Some (record { kind = Some Name; length = 1 + prefix_len is_name_part bs }))
front_name b bs starts =
    let n : ℕ = prefix_len is_name_part bs in
    first_by b bs (take n bs) (drop n bs) (Some Name) (1 + n) names (sort_name b starts)
    (omega (arith, length-prefix_len is_name_part bs)) (sym (take-append-drop n bs))
    ((starts, run_passes is_name_part bs), λ e. cc e)
    (λ other text after s e. covers is_name_part bs text after e (name_shape other b text s))
    (λ after e. cc e)

number_shape : (kind : Option Kind) (b : ℕ) (text : List ℕ) → Shape kind b text numbers → IsNumberText (b ∷ text)
number_shape kind b text (a_number k is) = is

decimal_most : (b : ℕ) (bs text after : List ℕ) → hexadecimal_run b bs ≡ 0 → bs ≡ text ++ after
    → IsNumberText (b ∷ text) → length text ≤ length (take (prefix_len is_ascii_digit bs) bs)
decimal_most b bs text after plain e (inl digits) = covers is_ascii_digit bs text after e (and_parts _ _ digits.1).1
decimal_most b bs text after plain e (inr (digits, are, same)) =
    let behind : text ≡ 120 ∷ digits = cc same in
    let whole_text : bs ≡ 120 ∷ (digits ++ after) = e ∙ ap (λ xs. xs ++ after) behind in
    let zero : b ≡ 48 = cc same in
    let run : hexadecimal_run b bs ≡ prefix_len is_ascii_hexdigit (digits ++ after) =
    ap (λ x. hexadecimal_run x bs) zero ∙ ap (hexadecimal_run 48) whole_text in
    absurd (omega (arith, run, plain, are.0, run_covers is_ascii_hexdigit digits after are.1))

pub front_decimal : (b : ℕ) (bs : List ℕ) → is_ascii_digit b ≡ true → hexadecimal_run b bs ≡ 0
    → IsFront (b ∷ bs) (Some (record { kind = Some Number; length = 1 + prefix_len is_ascii_digit bs }))
front_decimal b bs digit plain =
    let n : ℕ = prefix_len is_ascii_digit bs in
    first_by b bs (take n bs) (drop n bs) (Some Number) (1 + n) numbers (sort_digit b digit)
    (omega (arith, length-prefix_len is_ascii_digit bs)) (sym (take-append-drop n bs))
    (inl (omega arith, rw digit (run_passes is_ascii_digit bs)), λ e. cc e)
    (λ other text after s e. decimal_most b bs text after plain e (number_shape other b text s))
    (λ after e. cc e)

hexadecimal_most : (ds text after : List ℕ) → 120 ∷ ds ≡ text ++ after → IsNumberText (48 ∷ text)
    → length text ≤ 1 + length (take (prefix_len is_ascii_hexdigit ds) ds)
hexadecimal_most ds [] after e is = omega arith
hexadecimal_most ds (x ∷ text) after e (inl digits) =
    let first : x ≡ 120 = cc e in
    let digit : is_ascii_digit x ≡ true = (and_parts _ _ digits.1).0 in
    let not_a_digit : is_ascii_digit x ≡ false = ap is_ascii_digit first in
    cc (digit, not_a_digit)
hexadecimal_most ds (x ∷ text) after e (inr (digits, are, same)) =
    let behind : digits ≡ text = cc same in
    omega (
      arith,
      covers is_ascii_hexdigit ds text after (cc e)
          (subst (λ xs. list_all is_ascii_hexdigit xs ≡ true) behind are.1),
    )

front_0x : (ds : List ℕ) → 0 < prefix_len is_ascii_hexdigit ds
    → IsFront (48 ∷ 120 ∷ ds) (Some (record { kind = Some Number; length = 2 + prefix_len is_ascii_hexdigit ds }))
front_0x ds some =
    let n : ℕ = prefix_len is_ascii_hexdigit ds in
    let size : length (take n ds) ≡ n = length-prefix_len is_ascii_hexdigit ds in
    first_by 48 (120 ∷ ds) (120 ∷ take n ds) (drop n ds) (Some Number) (2 + n) numbers (sort_digit 48 refl)
    (omega arith) (ap (λ xs. 120 ∷ xs) (sym (take-append-drop n ds)))
    (inr (take n ds, (omega arith, run_passes is_ascii_hexdigit ds), refl), λ e. cc e)
    (λ other text after s e. omega (arith, hexadecimal_most ds text after e (number_shape other 48 text s)))
    (λ after e. cc e)

behind_0x : (b x : ℕ) (ds : List ℕ) (t : Bool) → (nat_eq b 48 && nat_eq x 120) ≡ t
    → (if t then prefix_len is_ascii_hexdigit ds else 0) ≢ 0
    → IsFront (b ∷ x ∷ ds)
    (Some (record { kind = Some Number; length = 2 + (if t then prefix_len is_ascii_hexdigit ds else 0) }))
behind_0x b x ds false e some = absurd (some refl)
behind_0x b x ds true e some =
    let both = and_parts (nat_eq b 48) (nat_eq x 120) e in
    let found : Option Front = Some (record { kind = Some Number; length = 2 + prefix_len is_ascii_hexdigit ds }) in
    subst (λ y. IsFront (y ∷ x ∷ ds) found) (sym (eqb-true b 48 both.0))
    (subst (λ y. IsFront (48 ∷ y ∷ ds) found) (sym (eqb-true x 120 both.1)) (front_0x ds (omega arith)))

pub front_hexadecimal : (b : ℕ) (bs : List ℕ) → hexadecimal_run b bs ≢ 0
    → IsFront (b ∷ bs) (Some (record { kind = Some Number; length = 2 + hexadecimal_run b bs }))
front_hexadecimal b [] some = absurd (some refl)
front_hexadecimal b (x ∷ ds) some = behind_0x b x ds (nat_eq b 48 && nat_eq x 120) refl some

prim_most : (c : ℕ) (ds text after : List ℕ) → c ∷ ds ≡ text ++ after → IsNameText text
    → length text ≤ 1 + length (take (prefix_len is_name_part ds) ds)
prim_most c ds [] after e is = omega arith
prim_most c ds (x ∷ text) after e is = omega (arith, covers is_name_part ds text after (cc e) is.1)

prim_shape : (kind : Option Kind) (b : ℕ) (text : List ℕ) → Shape kind b text prims → IsNameText text
prim_shape kind b text (a_prim k is) = is

pub front_prim : (c : ℕ) (ds : List ℕ) → is_name_start c ≡ true
    → IsFront (37 ∷ c ∷ ds) (Some (record { kind = Some Prim; length = 2 + prefix_len is_name_part ds }))
front_prim c ds starts =
    let n : ℕ = prefix_len is_name_part ds in
    let size : length (take n ds) ≡ n = length-prefix_len is_name_part ds in
    first_by 37 (c ∷ ds) (c ∷ take n ds) (drop n ds) (Some Prim) (2 + n) prims sort_percent (omega arith)
    (ap (λ xs. c ∷ xs) (sym (take-append-drop n ds)))
    ((c ∷ take n ds, (starts, run_passes is_name_part ds), refl), λ e. cc e)
    (λ other text after s e. omega (arith, prim_most c ds text after e (prim_shape other 37 text s)))
    (λ after e. cc e)

name_begins : (bs text after : List ℕ) → bs ≡ text ++ after → IsNameText text
    → (c : ℕ) × (ds : List ℕ) × (bs ≡ c ∷ ds) × (is_name_start c ≡ true)
name_begins bs [] after e is = absurd is
name_begins bs (c ∷ text) after e is = (c, text ++ after, e, is.0)

pub no_prim : (bs : List ℕ) → ((c : ℕ) (ds : List ℕ) → bs ≡ c ∷ ds → is_name_start c ≡ false) → IsFront (37 ∷ bs) None
no_prim bs starts =
    no_front 37 bs prims sort_percent
    (λ kind text after s e comment.
    let begins = name_begins bs text after e (prim_shape kind 37 text s) in
    cc (begins.3, starts begins.0 begins.1 begins.2))

string_shape : (kind : Option Kind) (b : ℕ) (text : List ℕ) → Shape kind b text strings → IsStringText (b ∷ text)
string_shape kind b text (a_string k is) = is

-- a string ends where the run of its bytes does
string_ends : (bs text after inner : List ℕ) → bs ≡ text ++ after → list_all is_string_byte inner ≡ true
    → 34 ∷ text ≡ 34 ∷ inner ++ 34 ∷ [] → (prefix_len is_string_byte bs ≡ length inner) × (bs ≡ inner ++ 34 ∷ after)
string_ends bs text after inner e all same =
    let behind : text ≡ inner ++ 34 ∷ [] = cc same in
    let whole_text : bs ≡ inner ++ 34 ∷ after = e ∙ ap (λ xs. xs ++ after) behind
    ∙ append_assoc inner (34 ∷ []) after in
    (ap (prefix_len is_string_byte) whole_text ∙ run_ends is_string_byte inner 34 after all refl, whole_text)

pub split_byte : (bs : List ℕ) (n c : ℕ) → n < length bs → get_or bs n 0 ≡ c → bs ≡ take n bs ++ c ∷ drop (suc n) bs
split_byte bs n c within is =
    sym (take-append-drop n bs)
    ∙ ap (λ xs. take n bs ++ xs) (drop-cons bs n 0 within ∙ ap (λ x. x ∷ drop (suc n) bs) is)

pub front_string : (bs : List ℕ) → prefix_len is_string_byte bs < length bs
    → get_or bs (prefix_len is_string_byte bs) 0 ≡ 34
    → IsFront (34 ∷ bs) (Some (record { kind = Some Str; length = 2 + prefix_len is_string_byte bs }))
front_string bs within quote =
    let n : ℕ = prefix_len is_string_byte bs in
    let size : length (take n bs) ≡ n = length-prefix_len is_string_byte bs in
    let more : List ℕ = take n bs ++ 34 ∷ [] in
    let whole_size : length more ≡ n + 1 = omega (arith, length-append (take n bs) (34 ∷ [])) in
    first_by 34 bs more (drop (suc n) bs) (Some Str) (2 + n) strings sort_quote (omega arith)
    (split_byte bs n 34 within quote ∙ sym (append_assoc (take n bs) (34 ∷ []) (drop (suc n) bs)))
    ((take n bs, run_passes is_string_byte bs, refl), λ e. cc e)
    (λ other text after s e.
    let is = string_shape other 34 text s in
    let ends = string_ends bs text after is.0 e is.1 is.2 in
    omega (arith, whole_size, ends.0, ap length is.2, length-append is.0 (34 ∷ [])))
    (λ after e. cc e)

pub no_string : (bs : List ℕ)
    → (prefix_len is_string_byte bs < length bs → get_or bs (prefix_len is_string_byte bs) 0 ≢ 34)
    → IsFront (34 ∷ bs) None
no_string bs open_end =
    no_front 34 bs strings sort_quote
    (λ kind text after s e comment.
    let is = string_shape kind 34 text s in
    let ends = string_ends bs text after is.0 e is.1 is.2 in
    let within : prefix_len is_string_byte bs < length bs =
    omega (arith, ends.0, ap length ends.1, length-append is.0 (34 ∷ after)) in
    let quote : get_or bs (prefix_len is_string_byte bs) 0 ≡ 34 = ap (get_or bs (prefix_len is_string_byte bs)) refl
    ∙ ap (λ k. get_or bs k 0) ends.0 ∙ ap (λ xs. get_or xs (length is.0) 0) ends.1
    ∙ get_or-append_seam is.0 34 after 0 in
    open_end within quote)

blank_shape : (kind : Option Kind) (b : ℕ) (text : List ℕ) → Shape kind b text blanks → text ≡ []
blank_shape kind b text (a_blank k e) = e

pub front_blank : (b : ℕ) (bs : List ℕ) → is_blank b ≡ true
    → IsFront (b ∷ bs) (Some (record { kind = None; length = 1 }))
front_blank b bs blank =
    first_by b bs [] bs None 1 blanks (sort_blank b blank) refl refl (inl (b, blank, refl))
    (λ other text after s e. omega (arith, ap length (blank_shape other b text s)))
    (λ after e. cc e)

two_bytes : (b c x y : ℕ) → (nat_eq b x && nat_eq c y) ≡ true → b ∷ c ∷ [] ≡ x ∷ y ∷ []
two_bytes b c x y e =
    let both = and_parts (nat_eq b x) (nat_eq c y) e in cc (eqb-true b x both.0, eqb-true c y both.1)

pair_text : (b c : ℕ) → is_pair b c ≡ true → IsPunctText (b ∷ c ∷ [])
pair_text b c pair =
    elim (or_cases (nat_eq b 58 && nat_eq c 61 || nat_eq b 61 && nat_eq c 62) (nat_eq b 46 && nat_eq c 46) pair) [
      | inl two ↦ elim (or_cases (nat_eq b 58 && nat_eq c 61) (nat_eq b 61 && nat_eq c 62) two)
          [ inl one ↦ inl (two_bytes b c 58 61 one) | inr one ↦ inr (inl (two_bytes b c 61 62 one)) ]
      | inr one ↦ inr (inr (inl (two_bytes b c 46 46 one)))
    ]

pair_most : (kind : Option Kind) (b : ℕ) (text : List ℕ) → Shape kind b text marks → length text ≤ 1
pair_most kind b text (a_mark k e) = omega (arith, ap length e)
pair_most kind b text (a_pair k c e pair) = omega (arith, ap length e)

mark_most : (kind : Option Kind) (b : ℕ) (bs text after : List ℕ) → bs ≡ text ++ after → begins_pair b bs ≡ false
    → Shape kind b text marks → length text ≤ 0
mark_most kind b bs text after e alone (a_mark k nil) = omega (arith, ap length nil)
mark_most kind b bs text after e alone (a_pair k c second pair) =
    cc (pair, alone)

of_marks : (b : ℕ) → is_punctuation b ≡ true → b ≢ 47 → sort_of b ≡ marks
of_marks b mark other = elim (sort_mark b mark) [ inl here ↦ here | inr slash ↦ absurd (other slash) ]

pub front_pair : (b : ℕ) (bs : List ℕ) → is_punctuation b ≡ true → b ≢ 47 → begins_pair b bs ≡ true
    → IsFront (b ∷ bs) (Some (record { kind = Some Punct; length = 2 }))
front_pair b [] mark other pair = cc pair
front_pair b (c ∷ cs) mark other pair =
    first_by b (c ∷ cs) (c ∷ []) cs (Some Punct) 2 marks (of_marks b mark other) refl refl
    (pair_text b c pair, λ e. cc e)
    (λ kind text after s e. pair_most kind b text s)
    (λ after e. cc e)

pub front_mark : (b : ℕ) (bs : List ℕ) → is_punctuation b ≡ true → b ≢ 47 → begins_pair b bs ≡ false
    → IsFront (b ∷ bs) (Some (record { kind = Some Punct; length = 1 }))
front_mark b bs mark other alone =
    first_by b bs [] bs (Some Punct) 1 marks (of_marks b mark other) refl refl
    (inr (inr (inr (b, mark, refl))), λ e. cc e)
    (λ kind text after s e. mark_most kind b bs text after e alone s)
    (λ after e. cc e)

sort_other : (b : ℕ) → is_name_start b ≡ false → is_ascii_digit b ≡ false → nat_eq b 37 ≡ false → nat_eq b 34 ≡ false
    → nat_eq b 47 ≡ false → is_blank b ≡ false → is_punctuation b ≡ false → sort_of b ≡ others
unfolding sort_of
sort_other b e1 e2 e3 e4 e5 e6 e7 = rw e7 (rw e1 (rw e2 (rw e3 (rw e4 (rw e5 (rw e6 refl))))))

no_others : (kind : Option Kind) (b : ℕ) (text : List ℕ) → Shape kind b text others → ⊥
no_others kind b text s = elim s [ ]

pub no_other : (b : ℕ) (bs : List ℕ) → is_name_start b ≡ false → is_ascii_digit b ≡ false → b ≢ 37 → b ≢ 34 → b ≢ 47
    → is_blank b ≡ false → is_punctuation b ≡ false → IsFront (b ∷ bs) None
no_other b bs e1 e2 e3 e4 e5 e6 e7 =
    no_front b bs others (sort_other b e1 e2 (ne_eqb b 37 e3) (ne_eqb b 34 e4) (ne_eqb b 47 e5) e6 e7)
    (λ kind text after s e comment. no_others kind b text s)
