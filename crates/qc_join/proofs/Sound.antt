-- What is kept of what patterns come to: fitting tokens, a claim for each of their bits, and no bit that an operand hasn't.
use Rattle.std.specs.Prelude.{ℕ, zero, suc, ◌≡◌, ◌+◌, ◌-◌, ◌<◌, ◌≤◌, true, ◌&&◌, nat_eq, nat_lt, nat_le}
use Rattle.std.specs.Prelude.{List, [], ◌∷◌, ◌++◌, length, map, replicate, sum, count_by, Option, None, Some, IsTrue}
use Rattle.std.specs.List.{AllByRecursion}
use Rattle.std.proofs.Common.{refl, ap, sym, ◌∙◌, arith}
use Rattle.std.proofs.lemmas.Bool.{and_parts, cond_both, eqb-true, leb-true, ltb-true}
use Rattle.std.proofs.lemmas.Grind.{common_steps}
use Rattle.std.proofs.lemmas.List.{length-append, length-map, length-replicate, map-append}
use Rattle.qc_lists.specs.Law.Lists.{each_append}
use Rattle.qc_descr.specs.declared.coding.Bit.{Bit}
use Rattle.qc_descr.specs.declared.coding.Bit.TheVariants.{Fixed, Piece}
use Rattle.qc_descr.specs.Coding.{is_piece}
use Rattle.qc_descr.specs.declared.sketch.Claim.{Claim}
use Rattle.qc_descr.specs.declared.sketch.Claim.TheVariants.{Free, Once}
use Rattle.qc_descr.specs.declared.sketch.Claim.TheVariants as claim
use Rattle.qc_descr.specs.Valid.{is_token, is_within}
use Rattle.qc_join.specs.declared.expanded.Expanded.{Expanded}
use Rattle.qc_join.specs.declared.expanded.Joint.{Joint}
use Rattle.qc_join.specs.declared.expanded.Joint.TheVariants.{AtOnce, InTurn}
use Rattle.qc_join.specs.declared.expanded.Expanded.TheVariants.{Several, Unfit, Fit}
use Rattle.qc_join.specs.declared.expanded.FieldPlace.{FieldPlace}
use Rattle.qc_join.specs.declared.expanded.TokenUse.{TokenUse}
use Rattle.qc_join.specs.Alternatives.{both_claim, all_claims, with_all, with_bit, same_tokens, conjoined, sequenced, joined, joined_with, all_joined, one_of, is_field, field_size, claims_in, field_with}

-- bits that operands of these sizes have
abbrev pub AreWithin : List ℕ → List Bit → Type 0
AreWithin sizes bits = AllByRecursion (λ bit. IsTrue (is_within sizes bit)) bits

-- a claim has only bits that operands of these sizes have
abbrev pub IsWithinClaim : List ℕ → Claim → Type 0
IsWithinClaim sizes Free = Unit {0}
IsWithinClaim sizes (Once bit) = IsTrue (is_within sizes bit)
IsWithinClaim sizes (claim.Several bits) = AreWithin sizes bits

abbrev pub AreWithinClaims : List ℕ → List Claim → Type 0
AreWithinClaims sizes claims = AllByRecursion (IsWithinClaim sizes) claims

-- a token of a fitting size, which is the one of its declaration
pub record IsSoundToken (declared : ℕ → ℕ) (t : TokenUse) : Type 0 where
  pub size : IsTrue (is_token t.bits)
  pub own : t.bits ≡ declared t.declaration

abbrev pub AreSoundTokens : (ℕ → ℕ) → List TokenUse → Type 0
AreSoundTokens declared tokens = AllByRecursion (IsSoundToken declared) tokens

abbrev pub sizes_of_tokens : List TokenUse → List ℕ
sizes_of_tokens tokens = map (λ t. t.bits) tokens

-- 1 to 4 such tokens, a claim for each of their bits, and only bits that operands of these sizes have
pub record IsSoundFit (declared : ℕ → ℕ) (sizes : List ℕ) (tokens : List TokenUse) (claims : List Claim) : Type 0 where
  pub some_token : 1 ≤ length tokens
  pub few_tokens : length tokens ≤ 4
  pub each : AreSoundTokens declared tokens
  pub counts : length claims ≡ sum (sizes_of_tokens tokens)
  pub within : AreWithinClaims sizes claims

-- what a pattern comes to, if it fits
abbrev pub IsSound : (ℕ → ℕ) → List ℕ → Expanded → Type 0
IsSound declared sizes Several = Unit {0}
IsSound declared sizes Unfit = Unit {0}
IsSound declared sizes (Fit tokens claims) = IsSoundFit declared sizes tokens claims

-- one more thing at a bit
with_bit_within : (sizes : List ℕ) (bits : List Bit) (bit : Bit) → AreWithin sizes bits → IsTrue (is_within sizes bit)
    → AreWithin sizes (with_bit bits bit)
with_bit_within sizes bits (Fixed one) h k = h
with_bit_within sizes bits (Piece operand place) h k =
    cond_both (nat_lt (count_by (is_piece operand place) bits) 2) (bits ++ Piece operand place ∷ []) bits (AreWithin sizes)
    (λ e. each_append (λ bit. IsTrue (is_within sizes bit)) bits (Piece operand place ∷ []) h (k, tt)) (λ e. h)

-- several things more
with_all_within : (sizes : List ℕ) (bits more : List Bit) → AreWithin sizes bits → AreWithin sizes more
    → AreWithin sizes (with_all bits more)
with_all_within sizes bits [] h k = h
with_all_within sizes bits (bit ∷ more) h k = with_all_within sizes (with_bit bits bit) more (with_bit_within sizes bits bit h k.0) k.1

-- two claims on one bit
both_within : (sizes : List ℕ) (c d : Claim) → IsWithinClaim sizes c → IsWithinClaim sizes d
    → IsWithinClaim sizes (both_claim c d)
both_within sizes Free d h k = k
both_within sizes (Once bit) Free h k = h
both_within sizes (Once bit) (Once other) h k = with_all_within sizes (bit ∷ []) (other ∷ []) (h, tt) (k, tt)
both_within sizes (Once bit) (claim.Several more) h k = with_all_within sizes (bit ∷ []) more (h, tt) k
both_within sizes (claim.Several bits) Free h k = h
both_within sizes (claim.Several bits) (Once other) h k = with_all_within sizes bits (other ∷ []) h (k, tt)
both_within sizes (claim.Several bits) (claim.Several more) h k = with_all_within sizes bits more h k

-- two lists of claims on the same bits
all_within : (sizes : List ℕ) (cs ds : List Claim) → AreWithinClaims sizes cs → AreWithinClaims sizes ds
    → AreWithinClaims sizes (all_claims cs ds)
all_within sizes [] ds h k = k
all_within sizes (c ∷ cs) [] h k = h
all_within sizes (c ∷ cs) (d ∷ ds) h k = (both_within sizes c d h.0 k.0, all_within sizes cs ds h.1 k.1)

-- two lists of one length make a list of that length
length_of_all : (cs ds : List Claim) → length cs ≡ length ds → length (all_claims cs ds) ≡ length cs
length_of_all [] ds e = sym e
length_of_all (c ∷ cs) [] e = refl
length_of_all (c ∷ cs) (d ∷ ds) e = ap suc (length_of_all cs ds (omega (arith, e)))

-- the same tokens have the same sizes
same_sizes : (declared : ℕ → ℕ) (ts us : List TokenUse) → same_tokens ts us ≡ true → AreSoundTokens declared ts
    → AreSoundTokens declared us → sizes_of_tokens ts ≡ sizes_of_tokens us
same_sizes declared [] [] e h k = refl
same_sizes declared [] (u ∷ us) e h k = absurd (cc e)
same_sizes declared (t ∷ ts) [] e h k = absurd (cc e)
same_sizes declared (t ∷ ts) (u ∷ us) e h k =
    let parts : (nat_eq t.declaration u.declaration ≡ true) × (same_tokens ts us ≡ true) =
    and_parts (nat_eq t.declaration u.declaration) (same_tokens ts us) e in
    let first : t.bits ≡ u.bits =
    h.0.own ∙ (ap declared (eqb-true t.declaration u.declaration parts.0) ∙ sym k.0.own) in
    ap (λ n. n ∷ sizes_of_tokens ts) first ∙ ap (λ ns. u.bits ∷ ns) (same_sizes declared ts us parts.1 h.1 k.1)

-- the sum of two such lists
sum_of_both : (xs ys : List ℕ) → sum (xs ++ ys) ≡ sum xs + sum ys
sum_of_both xs ys = grind (arith, common_steps)

-- two patterns at once
conjoined_fit : (declared : ℕ → ℕ) (sizes : List ℕ) (ts us : List TokenUse) (cs ds : List Claim)
    → IsSoundFit declared sizes ts cs → IsSoundFit declared sizes us ds → same_tokens ts us ≡ true
    → IsSoundFit declared sizes ts (all_claims cs ds)
conjoined_fit declared sizes ts us cs ds h k e =
    record {
      some_token = h.some_token;
      few_tokens = h.few_tokens;
      each = h.each;
      counts =
          length_of_all cs ds (h.counts ∙ (ap sum (same_sizes declared ts us e h.each k.each) ∙ sym k.counts)) ∙ h.counts;
      within = all_within sizes cs ds h.within k.within;
    }

-- the same, if both fit
pub sound_conjoined : (declared : ℕ → ℕ) (sizes : List ℕ) (e f : Expanded) → IsSound declared sizes e
    → IsSound declared sizes f → IsSound declared sizes (conjoined e f)
unfolding conjoined
sound_conjoined declared sizes Several f h k = tt
sound_conjoined declared sizes (Fit ts cs) Several h k = tt
sound_conjoined declared sizes (Fit ts cs) Unfit h k = tt
sound_conjoined declared sizes (Fit ts cs) (Fit us ds) h k =
    cond_both (same_tokens ts us) (Fit ts (all_claims cs ds)) Unfit (IsSound declared sizes)
    (λ e. conjoined_fit declared sizes ts us cs ds h k e) (λ e. tt)
sound_conjoined declared sizes Unfit Several h k = tt
sound_conjoined declared sizes Unfit _ h k = tt

-- two patterns one after the other
sequenced_fit : (declared : ℕ → ℕ) (sizes : List ℕ) (ts us : List TokenUse) (cs ds : List Claim)
    → IsSoundFit declared sizes ts cs → IsSoundFit declared sizes us ds → nat_le (length ts + length us) 4 ≡ true
    → IsSoundFit declared sizes (ts ++ us) (cs ++ ds)
sequenced_fit declared sizes ts us cs ds h k e =
    let few : length ts + length us ≤ 4 = leb-true (length ts + length us) 4 e in
    record {
      some_token = omega (arith, length-append ts us, h.some_token);
      few_tokens = omega (arith, length-append ts us, few);
      each = each_append (IsSoundToken declared) ts us h.each k.each;
      counts =
          length-append cs ds ∙ (ap (λ n. n + length ds) h.counts ∙ (ap (λ n. sum (sizes_of_tokens ts) + n) k.counts
          ∙ (sym (sum_of_both (sizes_of_tokens ts) (sizes_of_tokens us))
          ∙ sym (ap sum (map-append (λ (t : TokenUse). t.bits) ts us)))));
      within = each_append (IsWithinClaim sizes) cs ds h.within k.within;
    }

-- the same, if both fit
pub sound_sequenced : (declared : ℕ → ℕ) (sizes : List ℕ) (e f : Expanded) → IsSound declared sizes e
    → IsSound declared sizes f → IsSound declared sizes (sequenced e f)
unfolding sequenced
sound_sequenced declared sizes Several f h k = tt
sound_sequenced declared sizes (Fit ts cs) Several h k = tt
sound_sequenced declared sizes (Fit ts cs) Unfit h k = tt
sound_sequenced declared sizes (Fit ts cs) (Fit us ds) h k =
    cond_both (nat_le (length ts + length us) 4) (Fit (ts ++ us) (cs ++ ds)) Unfit (IsSound declared sizes)
    (λ e. sequenced_fit declared sizes ts us cs ds h k e) (λ e. tt)
sound_sequenced declared sizes Unfit Several h k = tt
sound_sequenced declared sizes Unfit _ h k = tt

-- lists of patterns
abbrev pub AreSound : (ℕ → ℕ) → List ℕ → List Expanded → Type 0
AreSound declared sizes es = AllByRecursion (IsSound declared sizes) es

-- two that are put together
sound_joined : (declared : ℕ → ℕ) (sizes : List ℕ) (how : Joint) (e f : Expanded)
    → IsSound declared sizes e → IsSound declared sizes f → IsSound declared sizes (joined how e f)
sound_joined declared sizes AtOnce e f h k = sound_conjoined declared sizes e f h k
sound_joined declared sizes InTurn e f h k = sound_sequenced declared sizes e f h k

sound_joined_with : (declared : ℕ → ℕ) (sizes : List ℕ) (how : Joint) (e : Expanded) (fs : List Expanded)
    → IsSound declared sizes e → AreSound declared sizes fs → IsSound declared sizes (joined_with how e fs)
sound_joined_with declared sizes how e [] h k = h
sound_joined_with declared sizes how e (f ∷ fs) h k =
    sound_joined_with declared sizes how (joined how e f) fs (sound_joined declared sizes how e f h k.0) k.1

-- all of a list
pub sound_all_joined : (declared : ℕ → ℕ) (sizes : List ℕ) (how : Joint) (es : List Expanded)
    → AreSound declared sizes es → IsSound declared sizes (all_joined how es)
sound_all_joined declared sizes how [] h = tt
sound_all_joined declared sizes how (e ∷ es) h = sound_joined_with declared sizes how e es h.0 h.1

-- one of several
pub sound_one_of : (declared : ℕ → ℕ) (sizes : List ℕ) (es : List Expanded) → AreSound declared sizes es
    → IsSound declared sizes (one_of es)
sound_one_of declared sizes [] h = tt
sound_one_of declared sizes (e ∷ []) h = h.0
sound_one_of declared sizes (e ∷ f ∷ es) h = tt

-- claims of bits that are left free
all_free : (sizes : List ℕ) (n : ℕ) → AreWithinClaims sizes (replicate n Free)
all_free sizes zero = tt
all_free sizes (suc n) = (tt, all_free sizes n)

-- claims of bits in which something stands
all_once : (sizes : List ℕ) (bits : List Bit) → AreWithin sizes bits → AreWithinClaims sizes (map Once bits)
all_once sizes [] h = tt
all_once sizes (b ∷ bits) h = (h.0, all_once sizes bits h.1)

-- a field's claims are as many as its token's bits
length_of_claims : (f : FieldPlace) (bits : List Bit) → f.low ≤ f.high → f.high < f.bits → length bits ≡ field_size f
    → length (claims_in f bits) ≡ 0 + f.bits
length_of_claims f bits order above e =
    let low : length (replicate f.low Free) ≡ f.low = length-replicate f.low Free in
    let high : length (replicate (f.bits - (f.high + 1)) Free) ≡ f.bits - (f.high + 1) =
    length-replicate (f.bits - (f.high + 1)) Free in
    let middle : length (map Once bits) ≡ length bits = length-map bits Once in
    let rest : length (map Once bits ++ replicate (f.bits - (f.high + 1)) Free)
    ≡ length (map Once bits) + length (replicate (f.bits - (f.high + 1)) Free) =
    length-append (map Once bits) (replicate (f.bits - (f.high + 1)) Free) in
    let whole : length (claims_in f bits)
    ≡ length (replicate f.low Free) + length (map Once bits ++ replicate (f.bits - (f.high + 1)) Free) =
    length-append (replicate f.low Free) (map Once bits ++ replicate (f.bits - (f.high + 1)) Free) in
    omega (arith, low, high, middle, rest, whole, e, order, above)

-- so many bits that operands have, if there are any
abbrev pub FillField : List ℕ → ℕ → Option (List Bit) → Type 0
FillField sizes count None = Unit {0}
FillField sizes count (Some bits) = (length bits ≡ count) × AreWithin sizes bits

-- a field with what stands in it
pub sound_field : (declared : ℕ → ℕ) (sizes : List ℕ) (f : FieldPlace) (bits : Option (List Bit)) → is_field f ≡ true
    → f.bits ≡ declared f.declaration → FillField sizes (field_size f) bits → IsSound declared sizes (field_with f bits)
sound_field declared sizes f None e own h = tt
sound_field declared sizes f (Some bits) e own h =
    let parts : ((is_token f.bits && nat_le f.low f.high) ≡ true) × (nat_lt f.high f.bits ≡ true) =
    and_parts (is_token f.bits && nat_le f.low f.high) (nat_lt f.high f.bits) e in
    let sized : (is_token f.bits ≡ true) × (nat_le f.low f.high ≡ true) =
    and_parts (is_token f.bits) (nat_le f.low f.high) parts.0 in
    record {
      some_token = omega arith;
      few_tokens = omega arith;
      each = (record { size = sized.0; own = own }, tt);
      counts =
          length_of_claims f bits (leb-true f.low f.high sized.1) (ltb-true f.high f.bits parts.1) h.0;
      within =
          each_append (IsWithinClaim sizes) (replicate f.low Free) (map Once bits ++ replicate (f.bits - (f.high + 1)) Free)
          (all_free sizes f.low)
          (each_append (IsWithinClaim sizes) (map Once bits) (replicate (f.bits - (f.high + 1)) Free)
          (all_once sizes bits h.1) (all_free sizes (f.bits - (f.high + 1))));
    }
