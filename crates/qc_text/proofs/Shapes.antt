-- What the first byte of a piece tells of it.
use Rattle.std.proofs.Common.{ℕ, ◌≡◌, ◌∙◌, ◌⊎◌, inl, inr, true, false, cond, nat_eq, List, [], ◌∷◌, refl, ap, sym, subst, arith}
use Rattle.std.proofs.lemmas.Bool.{and_parts, eqb-true, or_cases}
use Rattle.std.proofs.lemmas.Bool.Decides.{nat_tests}
use Rattle.std.specs.Char.{is_ascii_digit}
use Rattle.std.specs.List.{list_all, list_any, AllByRecursion}
use Rattle.std.specs.Prelude.{Option, None, Some, codes}
use Rattle.qc_text.specs.declared.token.Kind.{Kind}
use Rattle.qc_text.specs.declared.token.Kind.TheVariants.{Name, Prim, Number, Str, Punct, End}
use Rattle.qc_text.specs.Tokens.{is_blank, is_name_start, is_name_part, is_punctuation, IsNameText, IsNumberText, IsStringText, IsPunctText, IsComment}
use Rattle.qc_text.specs.Pieces.{IsPieceText}
use Rattle.qc_text.specs.Inner.Scanning.{is_pair}

pub data Sort : Type 0 where
  names : Sort
  numbers : Sort
  prims : Sort
  strings : Sort
  slashes : Sort
  blanks : Sort
  marks : Sort
  others : Sort

-- what begins with a byte
unfoldable pub sort_of : ℕ → Sort
sort_of b =
    cond (is_name_start b) names
    (cond (is_ascii_digit b) numbers
    (cond (nat_eq b 37) prims
    (cond (nat_eq b 34) strings
    (cond (nat_eq b 47) slashes (cond (is_blank b) blanks (cond (is_punctuation b) marks others))))))

-- what is behind the first byte of a piece, by what begins with that byte
pub data Shape (kind : Option Kind) (b : ℕ) (bs : List ℕ) : Sort → Type 0 where
  a_name : kind ≡ Some Name → list_all is_name_part bs ≡ true → Shape kind b bs names
  a_number : kind ≡ Some Number → IsNumberText (b ∷ bs) → Shape kind b bs numbers
  a_prim : kind ≡ Some Prim → IsNameText bs → Shape kind b bs prims
  a_string : kind ≡ Some Str → IsStringText (b ∷ bs) → Shape kind b bs strings
  a_slash : kind ≡ Some Punct → bs ≡ [] → Shape kind b bs slashes
  a_comment : kind ≡ None → IsComment (b ∷ bs) → Shape kind b bs slashes
  a_blank : kind ≡ None → bs ≡ [] → Shape kind b bs blanks
  a_mark : kind ≡ Some Punct → bs ≡ [] → Shape kind b bs marks
  a_pair : kind ≡ Some Punct → (c : ℕ) → bs ≡ c ∷ [] → is_pair b c ≡ true → Shape kind b bs marks

-- what holds of each byte of a list holds of one of them
pub member : (P : ℕ → Type 0) (xs : List ℕ) (b : ℕ) → list_any (nat_eq b) xs ≡ true → AllByRecursion P xs → P b
member P [] b e all = cc e
member P (x ∷ xs) b e all =
    elim (or_cases (nat_eq b x) (list_any (nat_eq b) xs) e)
    [ inl here ↦ subst P (sym (eqb-true b x here)) all.0 | inr there ↦ member P xs b there all.1 ]

pub sort_name : (b : ℕ) → is_name_start b ≡ true → sort_of b ≡ names
unfolding sort_of
sort_name b e = rw e refl

digit_is_no_start : (b : ℕ) → is_ascii_digit b ≡ true → is_name_start b ≡ false
digit_is_no_start b e = grind (arith, nat_tests)

pub sort_digit : (b : ℕ) → is_ascii_digit b ≡ true → sort_of b ≡ numbers
unfolding sort_of
sort_digit b e = rw (digit_is_no_start b e) (rw e refl)

pub sort_blank : (b : ℕ) → is_blank b ≡ true → sort_of b ≡ blanks
unfolding sort_of
sort_blank b e = member (λ x. sort_of x ≡ blanks) (32 ∷ 9 ∷ 13 ∷ 10 ∷ []) b e (refl, (refl, (refl, (refl, tt))))

pub sort_mark : (b : ℕ) → is_punctuation b ≡ true → (sort_of b ≡ marks) ⊎ (b ≡ 47)
unfolding sort_of
sort_mark b e =
    member (λ x. (sort_of x ≡ marks) ⊎ (x ≡ 47)) (codes "()[]{},;:=|&/.'-@") b e (
      inl refl,
      (
        inl refl,
        (
          inl refl,
          (
            inl refl,
            (
              inl refl,
              (
                inl refl,
                (
                  inl refl,
                  (
                    inl refl,
                    (
                      inl refl,
                      (
                        inl refl,
                        (
                          inl refl,
                          (inl refl, (inr refl, (inl refl, (inl refl, (inl refl, (inl refl, tt)))))),
                        ),
                      ),
                    ),
                  ),
                ),
              ),
            ),
          ),
        ),
      ),
    )

pub sort_percent : sort_of 37 ≡ prims
unfolding sort_of
sort_percent = refl

pub sort_quote : sort_of 34 ≡ strings
unfolding sort_of
sort_quote = refl

pub sort_slash : sort_of 47 ≡ slashes
unfolding sort_of
sort_slash = refl

sort_colon : sort_of 58 ≡ marks
unfolding sort_of
sort_colon = refl

sort_equals : sort_of 61 ≡ marks
unfolding sort_of
sort_equals = refl

sort_dot : sort_of 46 ≡ marks
unfolding sort_of
sort_dot = refl

sort_zero : sort_of 48 ≡ numbers
unfolding sort_of
sort_zero = refl

-- a piece is as what begins with its first byte
in_sort : (kind : Option Kind) (b : ℕ) (bs : List ℕ) (s : Sort) → sort_of b ≡ s → Shape kind b bs s
    → Shape kind b bs (sort_of b)
in_sort kind b bs s e shape = subst (Shape kind b bs) (sym e) shape

number_first : (b : ℕ) (bs : List ℕ) → IsNumberText (b ∷ bs) → sort_of b ≡ numbers
number_first b bs (inl digits) = sort_digit b (and_parts _ _ digits.1).0
number_first b bs (inr hexadecimal) =
    let same : b ≡ 48 = cc hexadecimal.2 in ap sort_of same ∙ sort_zero

punct_shape : (b : ℕ) (bs : List ℕ) → IsPunctText (b ∷ bs) → Shape (Some Punct) b bs (sort_of b)
punct_shape b bs (inl e) =
    let same : b ≡ 58 = cc e in
    in_sort _ b bs marks (ap sort_of same ∙ sort_colon) (a_pair refl 61 (cc e) (ap (λ x. is_pair x 61) same))
punct_shape b bs (inr (inl e)) =
    let same : b ≡ 61 = cc e in
    in_sort _ b bs marks (ap sort_of same ∙ sort_equals) (a_pair refl 62 (cc e) (ap (λ x. is_pair x 62) same))
punct_shape b bs (inr (inr (inl e))) =
    let same : b ≡ 46 = cc e in
    in_sort _ b bs marks (ap sort_of same ∙ sort_dot) (a_pair refl 46 (cc e) (ap (λ x. is_pair x 46) same))
punct_shape b bs (inr (inr (inr (c, mark, e)))) =
    let first : c ≡ b = cc e in
    let last : bs ≡ [] = cc e in
    elim (sort_mark b (subst (λ x. is_punctuation x ≡ true) first mark)) [
      | inl here ↦ in_sort _ b bs marks here (a_mark refl last)
      | inr slash ↦ in_sort _ b bs slashes (ap sort_of slash ∙ sort_slash) (a_slash refl last)
    ]

comment_first : (b : ℕ) (bs : List ℕ) → IsComment (b ∷ bs) → b ≡ 47
comment_first b bs (inl line) = cc line.2
comment_first b bs (inr block) = cc block.2

pub shape : (kind : Option Kind) (b : ℕ) (bs : List ℕ) → IsPieceText kind (b ∷ bs) → Shape kind b bs (sort_of b)
shape None b bs (inl (c, blank, e)) =
    let first : c ≡ b = cc e in
    in_sort _ b bs blanks (sort_blank b (subst (λ x. is_blank x ≡ true) first blank)) (a_blank refl (cc e))
shape None b bs (inr comment) =
    in_sort _ b bs slashes (ap sort_of (comment_first b bs comment) ∙ sort_slash) (a_comment refl comment)
shape (Some Name) b bs is = in_sort _ b bs names (sort_name b is.0.0) (a_name refl is.0.1)
shape (Some Prim) b bs is =
    let first : b ≡ 37 = cc is.0.2 in
    let behind : is.0.0 ≡ bs = cc is.0.2 in
    in_sort _ b bs prims (ap sort_of first ∙ sort_percent) (a_prim refl (subst IsNameText behind is.0.1))
shape (Some Number) b bs is = in_sort _ b bs numbers (number_first b bs is.0) (a_number refl is.0)
shape (Some Str) b bs is =
    let first : b ≡ 34 = cc is.0.2 in in_sort _ b bs strings (ap sort_of first ∙ sort_quote) (a_string refl is.0)
shape (Some Punct) b bs is = punct_shape b bs is.0
shape (Some End) b bs is = cc is.0
