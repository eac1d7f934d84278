-- Two cells are room for a line that names two registers.
use Rattle.std.proofs.Common.{All, Contains, ◌≡◌, ◌≢◌, ◌∙◌, ◌+◌, ◌++◌, ◌<◌, ◌≤◌, ◌⊎◌, ◌||◌, ℕ, zero, suc, List, [], ◌∷◌, length, get_or, nat_eq, slice_get, Bool, true, false, Some, inl, inr, refl, ap, sym, subst, arith}
use Rattle.std.proofs.lemmas.Bool.{eqb-true}
use Rattle.qc_tiles.specs.Law.Terms.{tree_of-term_of}
use Rattle.qc_meaning.specs.Code.{Does, Inst, Label, Line, Standing, calls_at, sets_counter}
use Rattle.qc_meaning.specs.Examples.{adds_two, one_line, roomier, sum_of_two}
use Rattle.qc_meaning.specs.Liveness.{HasGap, HoldsGap, IsLiveBefore, Jump, Later, MayFollow, Next, Reads, StandsAt, is_even, line_writes, may_jump, names_register, reads, writes_frame}
use Rattle.qc_meaning.specs.Roomy.{AreApart, IsRoomy, NamesSlot}
use Rattle.qc_meaning.specs.Slots.{slots_in, slots_of}

clash : true ≡ false → ⊥
clash e = cc

-- ---- room for two registers

-- the registers that the line names
named_ones : (r : ℕ) → names_register roomier r (Does adds_two) ≡ true → (r ≡ 0) ⊎ (r ≡ 2)
named_ones r named =
    let shown : names_register roomier r (Does adds_two) ≡ (((reads roomier r [] sum_of_two) || false) || line_writes roomier r (Does adds_two)) =
    ap (λ t. (reads roomier r [] t || false) || line_writes roomier r (Does adds_two)) (tree_of-term_of sum_of_two) in
    tests (nat_eq 8 (8 + r)) refl (nat_eq 10 (8 + r)) refl (sym shown ∙ named)
  where
    tests : (a : Bool) → nat_eq 8 (8 + r) ≡ a → (b : Bool) → nat_eq 10 (8 + r) ≡ b → (((a || b) || false) || (a || false)) ≡ true → (r ≡ 0) ⊎ (r ≡ 2)
    tests true a b is_b named = inl (omega (arith, eqb-true 8 (8 + r) a))
    tests false a true is_b named = inr (omega (arith, eqb-true 10 (8 + r) is_b))
    tests false a false is_b named = absurd (clash (sym named))

abbrev the_line : Standing
the_line = record { procedure = 0; first = true; line = Does adds_two }

-- it is the one line
only_line : (k : ℕ) (s : Standing) → slice_get (one_line adds_two).lines k ≡ Some s → (k ≡ 0) × (the_line ≡ s)
only_line zero s is = (refl, cc)
only_line (suc k) s is = absurd (nothing s is)
  where
    nothing : (s : Standing) → slice_get {X = Standing} [] 0 ≡ Some s → ⊥
    nothing s is = cc

not_behind : (k : ℕ) (s : Standing) → 1 ≤ k → slice_get (one_line adds_two).lines k ≡ Some s → ⊥
not_behind k s least is = let place : k ≡ 0 = (only_line k s is).0 in omega (arith, least, place)

-- behind the line nothing is live
not_live : (p r : ℕ) (k : ℕ) → IsLiveBefore roomier (one_line adds_two) p r k → 1 ≤ k → ⊥
not_live p r _ (Reads k s is same read) least = not_behind k s least is
not_live p r _ (Later k j s is same unwritten follows live) least = not_behind k s least is

written_one : (r : ℕ) (line : Line) → Does adds_two ≡ line → line_writes roomier r line ≡ true → r ≡ 0
written_one r line is writes = go (nat_eq 8 (8 + r)) refl (ap (line_writes roomier r) is ∙ writes)
  where
    go : (b : Bool) → nat_eq 8 (8 + r) ≡ b → (b || false) ≡ true → r ≡ 0
    go true same writes = omega (arith, eqb-true 8 (8 + r) same)
    go false same writes = absurd (clash (sym writes))

no_jump : (line : Line) → Does adds_two ≡ line → may_jump roomier line ≡ true → ⊥
no_jump line is jumps = clash (sym (ap (may_jump roomier) is ∙ jumps))

follows_behind : (k j : ℕ) → MayFollow roomier (one_line adds_two) k j → 1 ≤ j
follows_behind k _ (Next s is ends jumps) = omega arith
follows_behind k _ (Jump s target is ends jumps call aim) = absurd (no_jump s.line (ap (λ t. t.line) (only_line k s is).1) jumps)

gap_at_line : (p r k : ℕ) → HoldsGap roomier (one_line adds_two) p r k → (k ≡ 0) × (r ≡ 0)
gap_at_line p r k (inl live) = absurd (not_live p r (suc k) live (omega arith))
gap_at_line p r k (inr (inl after)) = absurd (not_live p r after.0 after.2 (follows_behind k after.0 after.1))
gap_at_line p r k (inr (inr written)) =
    let it = only_line k written.0 written.1 in (it.0, written_one r written.0.line (ap (λ t. t.line) it.1) written.3)

gap_of : (p r k : ℕ) → HasGap roomier (one_line adds_two) p r k → r ≡ 0
gap_of p r k gap = (gap_at_line p r gap.first gap.begins).1

even_zero : (r : ℕ) → r ≡ 0 → is_even r ≡ true
even_zero r is = ap is_even is

even_two : (r : ℕ) → r ≡ 2 → is_even r ≡ true
even_two r is = ap is_even is

-- ---- few numbers

second_apart : (a b : ℕ) (rest : List ℕ) → AreApart (a ∷ b ∷ rest) → a ≢ b
second_apart a b rest apart = apart 0 1 0 (omega arith) (omega arith)

few_zeros : (xs : List ℕ) → AreApart xs → All (λ r. r ≡ 0) xs → length xs ≤ 1
few_zeros [] apart all = omega arith
few_zeros (a ∷ []) apart all = omega arith
few_zeros (a ∷ b ∷ rest) apart all =
    let first : a ≡ 0 = all 0 0 (omega arith) in
    let second : b ≡ 0 = all 1 0 (omega arith) in
    absurd (second_apart a b rest apart (first ∙ sym second))

pigeons : (a b c : ℕ) → (a ≡ 0) ⊎ (a ≡ 2) → (b ≡ 0) ⊎ (b ≡ 2) → (c ≡ 0) ⊎ (c ≡ 2) → a ≢ b → a ≢ c → b ≢ c → ⊥
pigeons a b c (inl x) (inl y) z ab ac bc = ab (x ∙ sym y)
pigeons a b c (inr x) (inr y) z ab ac bc = ab (x ∙ sym y)
pigeons a b c (inl x) (inr y) (inl z) ab ac bc = ac (x ∙ sym z)
pigeons a b c (inl x) (inr y) (inr z) ab ac bc = bc (y ∙ sym z)
pigeons a b c (inr x) (inl y) (inl z) ab ac bc = bc (y ∙ sym z)
pigeons a b c (inr x) (inl y) (inr z) ab ac bc = ac (x ∙ sym z)

few_of_two : (xs : List ℕ) → AreApart xs → All (λ r. (r ≡ 0) ⊎ (r ≡ 2)) xs → length xs ≤ 2
few_of_two [] apart all = omega arith
few_of_two (a ∷ []) apart all = omega arith
few_of_two (a ∷ b ∷ []) apart all = omega arith
few_of_two (a ∷ b ∷ c ∷ rest) apart all =
    absurd (pigeons a b c (all 0 0 (omega arith)) (all 1 0 (omega arith)) (all 2 0 (omega arith))
    (apart 0 1 0 (omega arith) (omega arith)) (apart 0 2 0 (omega arith) (omega arith)) (apart 1 2 0 (omega arith) (omega arith)))

-- ---- slots

no_slots : slots_of roomier 64 adds_two ≡ []
no_slots = ap (λ t. slots_in roomier 64 adds_two t ++ []) (tree_of-term_of sum_of_two)

abbrev inst_of : Line → Inst
inst_of (Label number) = adds_two
inst_of (Does inst) = inst

names_none : (slot : ℕ) → NamesSlot roomier (one_line adds_two) 64 slot → ⊥
names_none slot names =
    let it = only_line names.place (record { procedure = names.procedure; first = names.first; line = Does names.inst }) names.stands in
    let inst : adds_two ≡ names.inst = ap (λ s. inst_of s.line) it.1 in
    let none : Contains [] slot = subst (λ xs. Contains xs slot) (sym (ap (slots_of roomier 64) inst) ∙ no_slots) names.named in
    let inside : none.0 < 0 = none.1 in
    omega (arith, inside)

no_slot_list : (slots : List ℕ) → All (NamesSlot roomier (one_line adds_two) 64) slots → length slots ≡ 0
no_slot_list [] all = refl
no_slot_list (slot ∷ slots) all = absurd (names_none slot (all 0 0 (omega arith)))

-- ---- all together

one_or_other : (s : Standing) (r : ℕ) → the_line ≡ s → (r ≡ 0) ⊎ (r ≡ 2) →
    is_even r ≡ false → ⊥
one_or_other s r same (inl is) odd = clash (sym (even_zero r is) ∙ odd)
one_or_other s r same (inr is) odd = clash (sym (even_two r is) ∙ odd)

named_at : (s : Standing) (r : ℕ) → the_line ≡ s → names_register roomier r s.line ≡ true →
    (r ≡ 0) ⊎ (r ≡ 2)
named_at s r same named = named_ones r (ap (λ t. names_register roomier r t.line) same ∙ named)

stands_for : (s : Standing) (p r k : ℕ) → is_even r ≡ false → StandsAt roomier (one_line adds_two) p r k → ⊥
stands_for s p r k odd (inl named) =
    let it = only_line k named.0 named.1 in
    one_or_other named.0 r it.1 (named_at named.0 r it.1 named.3) odd
stands_for s p r k odd (inr gap) = clash (sym (even_zero r (gap_of p r k gap)) ∙ odd)

no_call : (k : ℕ) → calls_at roomier.link (one_line adds_two) k ≡ true → ⊥
no_call zero is = clash (sym is)
no_call (suc k) is = clash (sym is)

pub two_are_roomy : IsRoomy roomier (one_line adds_two) 64
two_are_roomy = record {
  frames = λ p k slots registers slots_apart slots_are apart gaps.
      let none = no_slot_list slots slots_are in
      let few = few_zeros registers apart (λ i e less. gap_of p (get_or registers i e) k (gaps i e less).1) in
      omega (arith, none, few);
  cells = λ k s registers is apart each.
      let it = only_line k s is in
      few_of_two registers apart (λ i e less. elim (each i e less) [
        | inl standing ↦ absurd (stands_for s s.procedure (get_or registers i e) k standing.0 standing.1)
        | inr named ↦ named_at s (get_or registers i e) it.1 named.1
      ]);
  calls = λ p k number odd call gaps. no_call k call;
  quiet = λ k number s is even writes.
      let it = only_line k s is in (
        sym (ap (λ t. sets_counter t.line) it.1),
        sym (ap (λ t. writes_frame roomier t.line) it.1),
      );
}
