-- The piece behind a slash.
use Rattle.std.proofs.Common.{ℕ, suc, ◌≡◌, ◌≢◌, ◌∙◌, ◌+◌, ◌≤◌, ◌<◌, inl, inr, true, not, nat_eq, List, [], ◌∷◌, ◌++◌, length, take, drop, get_or, refl, ap, sym, arith, append_assoc, length-append, length-take, add-one, drop-cons}
use Rattle.std.proofs.Math.ListN.{get_or-append}
use Rattle.std.proofs.Math.Seq.{get_or-append_seam}
use Rattle.std.proofs.lemmas.List.{take-append-drop, get_or-append-add}
use Rattle.std.proofs.lemmas.List.Folds.{length-prefix_len}
use Rattle.std.specs.List.{list_all, prefix_len}
use Rattle.std.specs.Prelude.{Option, None, Some}
use Rattle.qc_text.specs.declared.token.Kind.{Kind}
use Rattle.qc_text.specs.declared.token.Kind.TheVariants.{Punct}
use Rattle.qc_text.specs.Inner.Scanning.{IsFront}
use Rattle.qc_text.specs.Tokens.{IsComment, Contains}
use Rattle.qc_text.proofs.Runs.{run_passes}
use Rattle.qc_text.proofs.Shapes.{slashes, Shape, a_slash, a_comment, sort_slash}
use Rattle.qc_text.proofs.Fronts.{first_by, no_front, covers, split_byte}

-- what is behind the slash, where a comment is
behind_slash : (bs text after inner : List ℕ) (c : ℕ) → bs ≡ text ++ after → 47 ∷ text ≡ 47 ∷ c ∷ inner
    → bs ≡ c ∷ (inner ++ after)
behind_slash bs text after inner c e same =
    let behind : text ≡ c ∷ inner = cc same in e ∙ ap (λ xs. xs ++ after) behind

slash_is_no_star : (xs ys : List ℕ) → 47 ∷ xs ≡ 42 ∷ ys → ⊥
slash_is_no_star xs ys e = omega (arith, ap (λ (zs : List ℕ). get_or zs 0 0) e)

line_covers : (ls text after inner : List ℕ) → 47 ∷ ls ≡ text ++ after → list_all (λ b. not (nat_eq b 10)) inner ≡ true
    → 47 ∷ text ≡ 47 ∷ 47 ∷ inner → length text ≤ 1 + length (take (prefix_len (λ b. not (nat_eq b 10)) ls) ls)
line_covers ls text after inner e all same =
    let whole_text = behind_slash (47 ∷ ls) text after inner 47 e same in
    omega (arith, ap length same, covers (λ b. not (nat_eq b 10)) ls inner after (cc whole_text) all)

line_most : (ls text after : List ℕ) → 47 ∷ ls ≡ text ++ after → IsComment (47 ∷ text)
    → length text ≤ 1 + length (take (prefix_len (λ b. not (nat_eq b 10)) ls) ls)
line_most ls text after e (inl line) = line_covers ls text after line.0 e line.1 line.2
line_most ls text after e (inr block) =
    absurd (slash_is_no_star _ _ (behind_slash (47 ∷ ls) text after (block.0 ++ 42 ∷ 47 ∷ []) 42 e block.2))

line_shape : (kind : Option Kind) (ls text after : List ℕ) → 47 ∷ ls ≡ text ++ after → Shape kind 47 text slashes
    → length text ≤ 1 + length (take (prefix_len (λ b. not (nat_eq b 10)) ls) ls)
line_shape kind ls text after e (a_slash k nil) = omega (arith, ap length nil)
line_shape kind ls text after e (a_comment k is) = line_most ls text after e is

pub front_line : (ls : List ℕ)
    → IsFront (47 ∷ 47 ∷ ls) (Some (record { kind = None; length = 2 + prefix_len (λ b. not (nat_eq b 10)) ls }))
front_line ls =
    let n : ℕ = prefix_len (λ b. not (nat_eq b 10)) ls in
    let size : length (take n ls) ≡ n = length-prefix_len (λ b. not (nat_eq b 10)) ls in
    first_by 47 (47 ∷ ls) (47 ∷ take n ls) (drop n ls) None (2 + n) slashes sort_slash (omega arith)
    (ap (λ xs. 47 ∷ xs) (sym (take-append-drop n ls)))
    (inr (inl (take n ls, run_passes (λ b. not (nat_eq b 10)) ls, refl)))
    (λ other text after s e. omega (arith, line_shape other ls text after e s))
    (λ after e star. absurd (slash_is_no_star ls after star))

-- where `*/` stands
star_slash : (xs front back : List ℕ) → xs ≡ front ++ 42 ∷ 47 ∷ back
    → (get_or xs (length front) 0 ≡ 42) × (get_or xs (length front + 1) 0 ≡ 47) × (length front + 1 < length xs)
star_slash xs front back e = (
  ap (λ ys. get_or ys (length front) 0) e ∙ get_or-append_seam front 42 (47 ∷ back) 0,
  ap (λ ys. get_or ys (length front + 1) 0) e ∙ get_or-append-add front (42 ∷ 47 ∷ back) 1 0,
  omega (arith, ap length e, length-append front (42 ∷ 47 ∷ back)),
)

block_stands : (is text after inner : List ℕ) → 42 ∷ is ≡ text ++ after → 47 ∷ text ≡ 47 ∷ 42 ∷ (inner ++ 42 ∷ 47 ∷ [])
    → is ≡ inner ++ 42 ∷ 47 ∷ after
block_stands is text after inner e same =
    let whole_text = behind_slash (42 ∷ is) text after (inner ++ 42 ∷ 47 ∷ []) 42 e same in
    let tail : is ≡ (inner ++ 42 ∷ 47 ∷ []) ++ after = cc whole_text in
    tail ∙ append_assoc inner (42 ∷ 47 ∷ []) after

split_close : (xs : List ℕ) (at : ℕ) → at + 1 < length xs → get_or xs at 0 ≡ 42 → get_or xs (at + 1) 0 ≡ 47
    → xs ≡ take at xs ++ 42 ∷ 47 ∷ drop (at + 2) xs
split_close xs at within star slash =
    let after_two : suc (suc at) ≡ at + 2 = omega arith in
    let next : drop (suc at) xs ≡ 47 ∷ drop (at + 2) xs =
    drop-cons xs (suc at) 0 (omega arith)
    ∙ ap (λ x. x ∷ drop (suc (suc at)) xs) (ap (λ k. get_or xs k 0) (sym (add-one at)) ∙ slash)
    ∙ ap (λ k. 47 ∷ drop k xs) after_two in
    split_byte xs at 42 (omega arith) star ∙ ap (λ ys. take at xs ++ 42 ∷ ys) next

-- `*/` ends no later than a comment does
closed_by : (is inner after : List ℕ) (at : ℕ) → (Contains (inner ++ 42 ∷ []) (42 ∷ 47 ∷ []) → ⊥) → get_or is at 0 ≡ 42
    → get_or is (at + 1) 0 ≡ 47 → is ≡ inner ++ 42 ∷ 47 ∷ after → length inner ≤ at
closed_by is inner after at never star slash e =
    let xs : List ℕ = inner ++ 42 ∷ [] in
    let size : length xs ≡ length inner + 1 = length-append inner (42 ∷ []) in
    let front : is ≡ xs ++ 47 ∷ after = e ∙ sym (append_assoc inner (42 ∷ []) (47 ∷ after)) in
    let no_later : at < length inner → ⊥ = λ later.
    let star_in : get_or xs at 0 ≡ 42 = sym (get_or-append xs (47 ∷ after) 0 at (omega arith))
    ∙ ap (λ ys. get_or ys at 0) (sym front) ∙ star in
    let slash_in : get_or xs (at + 1) 0 ≡ 47 = sym (get_or-append xs (47 ∷ after) 0 (at + 1) (omega arith))
    ∙ ap (λ ys. get_or ys (at + 1) 0) (sym front) ∙ slash in
    never (
      take at xs,
      drop (at + 2) xs,
      split_close xs at (omega arith) star_in slash_in
          ∙ sym (append_assoc (take at xs) (42 ∷ 47 ∷ []) (drop (at + 2) xs)),
    ) in
    omega arith

block_most : (is text after : List ℕ) (at : ℕ) → get_or is at 0 ≡ 42 → get_or is (at + 1) 0 ≡ 47
    → 42 ∷ is ≡ text ++ after → IsComment (47 ∷ text) → length text ≤ at + 3
block_most is text after at star slash e (inl line) =
    absurd (slash_is_no_star _ _ (sym (behind_slash (42 ∷ is) text after line.0 47 e line.2)))
block_most is text after at star slash e (inr block) =
    let stands = block_stands is text after block.0 e block.2 in
    omega (
      arith,
      ap length block.2,
      length-append block.0 (42 ∷ 47 ∷ []),
      closed_by is block.0 after at block.1 star
          slash stands,
    )

block_shape : (kind : Option Kind) (is text after : List ℕ) (at : ℕ) → get_or is at 0 ≡ 42 → get_or is (at + 1) 0 ≡ 47
    → 42 ∷ is ≡ text ++ after → Shape kind 47 text slashes → length text ≤ at + 3
block_shape kind is text after at star slash e (a_slash k nil) = omega (arith, ap length nil)
block_shape kind is text after at star slash e (a_comment k comment) = block_most is text after at star slash e comment

-- no `*/` ends before the first one does
first_close : (is : List ℕ) (at : ℕ) → at + 1 < length is → get_or is at 0 ≡ 42
    → ((k : ℕ) → k < at → get_or is k 0 ≡ 42 → get_or is (k + 1) 0 ≢ 47)
    → Contains (take at is ++ 42 ∷ []) (42 ∷ 47 ∷ []) → ⊥
first_close is at within star first found =
    let xs : List ℕ = take at is ++ 42 ∷ [] in
    let rest : List ℕ = drop (suc at) is in
    let stands : is ≡ xs ++ rest = split_byte is at 42 (omega arith) star
    ∙ sym (append_assoc (take at is) (42 ∷ []) rest) in
    let inside : xs ≡ found.0 ++ 42 ∷ 47 ∷ found.1 = found.2 ∙ append_assoc found.0 (42 ∷ 47 ∷ []) found.1 in
    let whole_text : is ≡ found.0 ++ 42 ∷ 47 ∷ (found.1 ++ rest) = stands ∙ ap (λ ys. ys ++ rest) inside
    ∙ append_assoc found.0 (42 ∷ 47 ∷ found.1) rest in
    let place = star_slash is found.0 (found.1 ++ rest) whole_text in
    let before : length found.0 < at =
    omega (
      arith,
      ap length inside,
      length-append found.0 (42 ∷ 47 ∷ found.1),
      length-append (take at is) (42 ∷ []),
      length-take at is,
    ) in
    first (length found.0) before place.0 place.1

pub front_block : (is : List ℕ) (at : ℕ) → at + 1 < length is → get_or is at 0 ≡ 42 → get_or is (at + 1) 0 ≡ 47
    → ((k : ℕ) → k < at → get_or is k 0 ≡ 42 → get_or is (k + 1) 0 ≢ 47)
    → IsFront (47 ∷ 42 ∷ is) (Some (record { kind = None; length = 4 + at }))
front_block is at within star slash first =
    let more : List ℕ = 42 ∷ (take at is ++ 42 ∷ 47 ∷ []) in
    let size : length more ≡ at + 3 = omega (arith, length-append (take at is) (42 ∷ 47 ∷ []), length-take at is) in
    let comment : IsComment (47 ∷ more) = inr (take at is, first_close is at within star first, refl) in
    first_by 47 (42 ∷ is) more (drop (at + 2) is) None (4 + at) slashes sort_slash (omega arith)
    (ap (λ xs. 42 ∷ xs) (split_close is at within star slash
    ∙ sym (append_assoc (take at is) (42 ∷ 47 ∷ []) (drop (at + 2) is))))
    (inr comment)
    (λ other text after s e. omega (arith, size, block_shape other is text after at star slash e s))
    (λ after e same. comment)

unclosed : (is text after : List ℕ) → 42 ∷ is ≡ text ++ after → IsComment (47 ∷ text)
    → (k : ℕ) × (k + 1 < length is) × (get_or is k 0 ≡ 42) × (get_or is (k + 1) 0 ≡ 47)
unclosed is text after e (inl line) =
    absurd (slash_is_no_star _ _ (sym (behind_slash (42 ∷ is) text after line.0 47 e line.2)))
unclosed is text after e (inr block) =
    let found = star_slash is block.0 after (block_stands is text after block.0 e block.2) in
    (length block.0, found.2, found.0, found.1)

pub no_block : (is : List ℕ) → ((k : ℕ) → k + 1 < length is → get_or is k 0 ≡ 42 → get_or is (k + 1) 0 ≢ 47)
    → IsFront (47 ∷ 42 ∷ is) None
no_block is never =
    no_front 47 (42 ∷ is) slashes sort_slash
    (λ kind text after s e comment.
    let found = unclosed is text after e (comment is refl refl) in never found.0 found.1 found.2 found.3)

alone : (bs text after : List ℕ) → ((c : ℕ) (cs : List ℕ) → bs ≡ c ∷ cs → (c ≢ 47) × (c ≢ 42)) → bs ≡ text ++ after
    → IsComment (47 ∷ text) → ⊥
alone bs text after other e (inl line) =
    (other 47 (line.0 ++ after) (behind_slash bs text after line.0 47 e line.2)).0 refl
alone bs text after other e (inr block) =
    (other 42 ((block.0 ++ 42 ∷ 47 ∷ []) ++ after)
    (behind_slash bs text after (block.0 ++ 42 ∷ 47 ∷ []) 42 e block.2)).1 refl

slash_shape : (kind : Option Kind) (bs text after : List ℕ)
    → ((c : ℕ) (cs : List ℕ) → bs ≡ c ∷ cs → (c ≢ 47) × (c ≢ 42)) → bs ≡ text ++ after → Shape kind 47 text slashes
    → length text ≤ 0
slash_shape kind bs text after other e (a_slash k nil) = omega (arith, ap length nil)
slash_shape kind bs text after other e (a_comment k is) = absurd (alone bs text after other e is)

pub front_slash : (bs : List ℕ) → ((c : ℕ) (cs : List ℕ) → bs ≡ c ∷ cs → (c ≢ 47) × (c ≢ 42))
    → IsFront (47 ∷ bs) (Some (record { kind = Some Punct; length = 1 }))
front_slash bs other =
    first_by 47 bs [] bs (Some Punct) 1 slashes sort_slash refl refl (inr (inr (inr (47, refl, refl))), λ e. cc e)
    (λ kind text after s e. slash_shape kind bs text after other e s)
    (λ after e star. absurd ((other 42 after star).1 refl))
