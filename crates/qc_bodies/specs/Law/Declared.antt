-- What is declared at a number.
use Rattle.std.proofs.Common.{◌≡◌, ◌+◌, ℕ, zero, suc, List, [], ◌∷◌, ◌++◌, length, take, slice_get, Some, refl, sym, ◌∙◌, ap, arith, append_assoc, length-append}
use Rattle.std.proofs.Math.Seq.{take-append_seam}
use Rattle.std.proofs.lemmas.List.{append-nil}
use Rattle.qc_lists.specs.Law.Lists.{slice_get-append_right}
use Rattle.qc_bodies.specs.Law.Acts.{Body}
use Rattle.qc_bodies.specs.Meanings.{Algebra, Meaning, meaning_of, meanings_after, meanings}

-- those before stay
after_begins : {V : Type 0} (a : Algebra V) (ms : List (Meaning V)) (bodies : List Body)
    → (rest : List (Meaning V)) × (meanings_after a ms bodies ≡ ms ++ rest)
after_begins a ms [] = ([], sym (append-nil ms))
after_begins a ms (b ∷ bs) =
    let h = after_begins a (ms ++ meaning_of a ms b ∷ []) bs in
    (meaning_of a ms b ∷ h.0, h.1 ∙ append_assoc ms (meaning_of a ms b ∷ []) h.0)

after_at : {V : Type 0} (a : Algebra V) (ms : List (Meaning V)) (bodies : List Body) (n : ℕ) (body : Body) → slice_get bodies n ≡ Some body
    → slice_get (meanings_after a ms bodies) (length ms + n) ≡ Some (meaning_of a (take (length ms + n) (meanings_after a ms bodies)) body)
after_at a ms [] n body e = cc
after_at a ms (b ∷ bs) zero body e =
    let m = meaning_of a ms b in
    let h = after_begins a (ms ++ m ∷ []) bs in
    let split : meanings_after a (ms ++ m ∷ []) bs ≡ ms ++ (m ∷ h.0) = h.1 ∙ append_assoc ms (m ∷ []) h.0 in
    let seam : length ms + 0 ≡ length ms = omega arith in
    let same : b ≡ body = cc in
    rw split (slice_get-append_right ms (m ∷ h.0) 0 ∙ ap Some (ap (meaning_of a ms) same
    ∙ ap (λ l. meaning_of a l body) (sym (ap (λ k. take k (ms ++ m ∷ h.0)) seam ∙ take-append_seam ms (m ∷ h.0)))))
after_at a ms (b ∷ bs) (suc n) body e =
    let m = meaning_of a ms b in
    let h = after_at a (ms ++ m ∷ []) bs n body e in
    let count : length (ms ++ m ∷ []) + n ≡ length ms + suc n = omega (arith, length-append ms (m ∷ [])) in
    rw count at h

pub meaning_at : {V : Type 0} (a : Algebra V) (bodies : List Body) (n : ℕ) (body : Body) → slice_get bodies n ≡ Some body
    → slice_get (meanings a bodies) n ≡ Some (meaning_of a (take n (meanings a bodies)) body)
meaning_at a bodies n body e = let count : 0 + n ≡ n = omega arith in rw count at (after_at a [] bodies n body e)

after_length : {V : Type 0} (a : Algebra V) (ms : List (Meaning V)) (bodies : List Body)
    → length (meanings_after a ms bodies) ≡ length ms + length bodies
after_length a ms [] = omega arith
after_length a ms (b ∷ bs) =
    let h = after_length a (ms ++ meaning_of a ms b ∷ []) bs in
    omega (arith, h, length-append ms (meaning_of a ms b ∷ []))

pub length_meanings : {V : Type 0} (a : Algebra V) (bodies : List Body) → length (meanings a bodies) ≡ length bodies
length_meanings a bodies = let h = after_length a [] bodies in omega (arith, h)

after_declared : {V : Type 0} (a : Algebra V) (ms : List (Meaning V)) (bodies : List Body) (body : Body)
    → meanings_after a ms (bodies ++ body ∷ []) ≡ meanings_after a ms bodies ++ meaning_of a (meanings_after a ms bodies) body ∷ []
after_declared a ms [] body = refl
after_declared a ms (b ∷ bs) body = after_declared a (ms ++ meaning_of a ms b ∷ []) bs body

-- one more
pub meanings_push : {V : Type 0} (a : Algebra V) (bodies : List Body) (body : Body)
    → meanings a (bodies ++ body ∷ []) ≡ meanings a bodies ++ meaning_of a (meanings a bodies) body ∷ []
meanings_push a bodies body = after_declared a [] bodies body
