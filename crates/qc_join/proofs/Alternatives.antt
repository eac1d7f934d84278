-- Lists of claims, of tokens and of bits, piece after piece.
use Rattle.std.specs.Prelude.{ℕ, zero, suc, ◌≡◌, ◌+◌, ◌/◌, ◌%◌, ◌<◌, ◌≤◌, Bool, true, false, ◌&&◌, nat_eq, List, [], ◌∷◌, ◌++◌, length, take, slice_set}
use Rattle.std.proofs.Common.{refl, ap, sym, ◌∙◌, arith, append_assoc, get_or, max, ◌≢◌}
use Rattle.std.proofs.lemmas.List.{append-nil, take_more, length-take-le, get_or_default, set-get_or}
use Rattle.qc_descr.specs.declared.coding.Bit.{Bit}
use Rattle.qc_descr.specs.declared.coding.Bit.TheVariants.{Fixed, Piece}
use Rattle.qc_descr.specs.declared.sketch.Claim.{Claim}
use Rattle.qc_join.specs.declared.expanded.TokenUse.{TokenUse}
use Rattle.qc_join.specs.Alternatives.{both_claim, all_claims, same_tokens, constant_bits, piece_bits}

-- nothing is joined
pub none_joined : (cs : List Claim) → cs ≡ all_claims cs []
none_joined [] = refl
none_joined (c ∷ cs) = refl

-- as many claims as the longer list has
all_claims-length : (cs ds : List Claim) → length (all_claims cs ds) ≡ max (length cs) (length ds)
all_claims-length [] ds = omega arith
all_claims-length (c ∷ cs) [] = omega arith
all_claims-length (c ∷ cs) (d ∷ ds) = omega (arith, all_claims-length cs ds)

-- one claim more, on a bit that the first have
all_claims-set : (cs ds : List Claim) (c d : Claim) (n : ℕ) → length ds ≡ n → n < length cs →
    c ≡ get_or (all_claims cs ds) n c →
    slice_set (all_claims cs ds) n (both_claim c d) ≡ all_claims cs (ds ++ d ∷ [])
all_claims-set [] ds c d n size within is = absurd (omega (arith, within))
all_claims-set (c0 ∷ cs) [] c d zero size within is =
    ap (λ x. both_claim x d ∷ cs) is ∙ ap (λ xs. both_claim c0 d ∷ xs) (none_joined cs)
all_claims-set (c0 ∷ cs) [] c d (suc n) size within is = absurd (omega (arith, size))
all_claims-set (c0 ∷ cs) (d0 ∷ ds) c d zero size within is = absurd (omega (arith, size))
all_claims-set (c0 ∷ cs) (d0 ∷ ds) c d (suc n) size within is =
    ap (λ xs. both_claim c0 d0 ∷ xs)
    (all_claims-set cs ds c d n (omega (arith, size)) (omega (arith, within)) is)

-- one claim more, on a bit that the first don't have
all_claims-push : (cs ds : List Claim) (d : Claim) → length cs ≤ length ds →
    all_claims cs ds ++ d ∷ [] ≡ all_claims cs (ds ++ d ∷ [])
all_claims-push [] ds d past = refl
all_claims-push (c ∷ cs) [] d past = absurd (omega (arith, past))
all_claims-push (c ∷ cs) (e ∷ ds) d past =
    ap (λ xs. both_claim c e ∷ xs) (all_claims-push cs ds d (omega (arith, past)))

-- the claims at a place are joined there
pub joined_set : (start second first : List Claim) (place : ℕ) (e : Claim) → place < length second →
    first ≡ all_claims start (take place second) → place < length first →
    slice_set first place (both_claim (get_or first place e) (get_or second place e))
    ≡ all_claims start (take (place + 1) second)
joined_set start second first place e within so_far inside =
    ap (λ cs. slice_set cs place (both_claim c d)) so_far
    ∙ all_claims-set start (take place second) c d place size
    (omega (arith, inside, ap length so_far, all_claims-length start (take place second), size))
    (get_or_default first place e c inside ∙ ap (λ cs. get_or cs place c) so_far)
    ∙ ap (all_claims start) (sym (take_more second place e within))
  where
    c : Claim
    c = get_or first place e

    d : Claim
    d = get_or second place e

    size : length (take place second) ≡ place
    size = length-take-le place second (omega (arith, within))

-- a claim that stays what it is is joined
pub joined_kept : (start second first : List Claim) (place : ℕ) (e : Claim) → place < length second →
    first ≡ all_claims start (take place second) → place < length first →
    both_claim (get_or first place e) (get_or second place e) ≡ get_or first place e →
    first ≡ all_claims start (take (place + 1) second)
joined_kept start second first place e within so_far inside kept =
    sym (ap (slice_set first place) kept ∙ set-get_or first place e)
    ∙ joined_set start second first place e within so_far inside

-- a claim past the first ones stands behind them
pub joined_push : (start second first : List Claim) (place : ℕ) (e : Claim) → place < length second →
    first ≡ all_claims start (take place second) → length first ≤ place →
    first ++ get_or second place e ∷ [] ≡ all_claims start (take (place + 1) second)
joined_push start second first place e within so_far past =
    ap (λ cs. cs ++ get_or second place e ∷ []) so_far
    ∙ all_claims-push start (take place second) (get_or second place e)
    (omega (arith, past, ap length so_far, all_claims-length start (take place second), size))
    ∙ ap (all_claims start) (sym (take_more second place e within))
  where
    size : length (take place second) ≡ place
    size = length-take-le place second (omega (arith, within))

-- lists of different lengths are not the same tokens
pub other_lengths : (ts us : List TokenUse) → length ts ≢ length us → false ≡ same_tokens ts us
other_lengths [] [] other = absurd (other refl)
other_lengths [] (u ∷ us) other = refl
other_lengths (t ∷ ts) [] other = refl
other_lengths (t ∷ ts) (u ∷ us) other =
    by (nat_eq t.declaration u.declaration) (other_lengths ts us (λ same. other (ap suc same)))
  where
    by : (b : Bool) → false ≡ same_tokens ts us → false ≡ (b && same_tokens ts us)
    by true rest = rest
    by false rest = refl

-- one bit more of an operand
pub piece_bits-more : (bs cs : List Bit) (operand from from' n n' : ℕ) → from' ≡ from + 1 → n ≡ n' + 1 →
    cs ≡ bs ++ Piece operand from ∷ [] → cs ++ piece_bits operand from' n' ≡ bs ++ piece_bits operand from n
unfolding piece_bits
piece_bits-more bs cs operand from from' n n' next more is =
    let e : n ≡ suc n' = omega arith in
    let f : from' ≡ suc from = omega arith in
    rw (is, e, f) (append_assoc bs (Piece operand from ∷ []) (piece_bits operand (suc from) n'))

-- no bit is left
pub piece_bits-end : (bs : List Bit) (operand from n : ℕ) → n ≡ 0 → bs ++ piece_bits operand from n ≡ bs
unfolding piece_bits
piece_bits-end bs operand from n none = rw none (append-nil bs)

-- one bit more of a number
pub constant_bits-more : (bs cs : List Bit) (n n' value : ℕ) → n ≡ n' + 1 →
    cs ≡ bs ++ Fixed (nat_eq (value % 2) 1) ∷ [] →
    cs ++ constant_bits n' (value / 2) ≡ bs ++ constant_bits n value
unfolding constant_bits
constant_bits-more bs cs n n' value more is =
    let e : n ≡ suc n' = omega arith in
    rw (is, e) (append_assoc bs (Fixed (nat_eq (value % 2) 1) ∷ []) (constant_bits n' (value / 2)))

-- no bit is left
pub constant_bits-end : (bs : List Bit) (n value : ℕ) → n ≡ 0 → bs ++ constant_bits n value ≡ bs
unfolding constant_bits
constant_bits-end bs n value none = rw none (append-nil bs)
