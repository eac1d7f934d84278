-- A list that is written over the front of another one.
use Rattle.std.proofs.Common.{◌≡◌, ℕ, ◌+◌, ◌<◌, List, [], ◌∷◌, ◌++◌, length, take, drop, get_or, set, sym, ◌∙◌, ap, arith, length-take-le}
use Rattle.std.proofs.lemmas.List.{append_assoc, drop_at, drop_more, set_at, take_all, take_at, take_more}

-- one step on
pub written_more : (whole old into : List ℕ) (i v : ℕ) → into ≡ take i whole ++ drop i old → i < length whole → i < length old →
    v ≡ get_or whole i 0 → set into i v ≡ take (i + 1) whole ++ drop (i + 1) old
written_more whole old into i v e h k r =
    let front : length (take i whole) ≡ i = length-take-le i whole (omega arith) in
    ap (λ s. set s i v) (e ∙ ap (λ s. take i whole ++ s) (drop_more old i 0 k))
    ∙ set_at (take i whole) (get_or old i 0) (drop (i + 1) old) v i front
    ∙ ap (λ w. take i whole ++ w ∷ drop (i + 1) old) r
    ∙ sym (append_assoc (take i whole) (get_or whole i 0 ∷ []) (drop (i + 1) old))
    ∙ ap (λ s. s ++ drop (i + 1) old) (sym (take_more whole i 0 h))

-- where the whole list was written its front is that list
pub written_front : (whole old into : List ℕ) (n : ℕ) → into ≡ take n whole ++ drop n old → length whole ≡ n → take n into ≡ whole
written_front whole old into n e h =
    let all : take n whole ≡ whole = take_all n whole (omega arith) in
    ap (take n) (e ∙ ap (λ s. s ++ drop n old) all) ∙ take_at whole (drop n old) n h

pub written_rest : (whole old into : List ℕ) (n : ℕ) → into ≡ take n whole ++ drop n old → length whole ≡ n → drop n into ≡ drop n old
written_rest whole old into n e h =
    let all : take n whole ≡ whole = take_all n whole (omega arith) in
    ap (drop n) (e ∙ ap (λ s. s ++ drop n old) all) ∙ drop_at whole (drop n old) n h
