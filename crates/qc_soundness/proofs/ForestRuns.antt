-- How the lines of a forest come out, and how those of a tree and of what stands beside it do together.
use Rattle.std.proofs.Common.{◌≡◌, ◌≢◌, ◌∙◌, ◌⊎◌, ◌+◌, ◌≤◌, ◌<◌, ℕ, zero, suc, List, [], ◌∷◌, true, false, None, Some, inl, inr, refl, sym, ap, subst, arith}
use Rattle.std.proofs.lemmas.Bool.{cases_lt}
use Rattle.qc_terms.specs.declared.state.Event.TheVariants.{Trapped}
use Rattle.qc_terms.specs.Effects.{input_is_over}
use Rattle.qc_descr.specs.Step.{Progress}
use Rattle.qc_code.specs.declared.template.Slot.{Slot}
use Rattle.qc_code.specs.declared.template.Slot.TheVariants as slot
use Rattle.qc_code.specs.Setting.{slot_value}
use Rattle.qc_derivations.specs.Goals.{AsTile, InFlag, InRegister, Need}
use Rattle.qc_soundness.proofs.Needs.{HeldAll, HeldAt, IsEnd, IsEndOf, IsReached, SomeFaults, SuitAll, SuitsOne, end_below, inputs_needed}
use Rattle.qc_soundness.proofs.Scene.{IsAny, IsBeyond, IsOuter, IsScene, Scene, allocatable_no_flag, beyond-less}
use Rattle.qc_soundness.proofs.Writes.{AreKept, kept-less, kept-trans}

-- The lines trap, where some need does.
pub record HasStopped (c : Scene) (ns : List Need) (code : ℕ) (p q : Progress) : Type 0 where
  pub fault : SomeFaults c code ns
  pub ending : q.state.ending ≡ Some (Trapped code)
  pub kept : AreKept (IsOuter c) p.state q.state
  pub taken : (inputs_needed ns ≡ 0) ⊎ (code ≡ 5) → q.state.taken ≡ p.state.taken
  pub output : q.output ≡ p.output

-- The lines leave what is needed in the needs' own cells, and keep all else but flags and scratches of these numbers.
pub record HasRun (c : Scene) (ns : List Need) (os : List Slot) (low high : ℕ) (p q : Progress) : Type 0 where
  pub ending : q.state.ending ≡ None
  pub kept : AreKept (IsBeyond c (IsReached ns os low high)) p.state q.state
  pub taken : q.state.taken ≡ p.state.taken + inputs_needed ns
  pub held : HeldAll c ns os q.state
  pub over : 1 ≤ inputs_needed ns → input_is_over c.start ≡ false
  pub output : q.output ≡ p.output

abbrev pub ForestComes : Scene → List Need → List Slot → (low high : ℕ) → Progress → Progress → Type 0
ForestComes c ns os low high p q = ((code : ℕ) × HasStopped c ns code p q) ⊎ HasRun c ns os low high p q

-- before the lines all is as at the front but flags and scratches, and the input too if it is needed
pub record IsBefore (c : Scene) (ns : List Need) (p : Progress) : Type 0 where
  pub kept : AreKept (IsOuter c) c.start p.state
  pub running : p.state.ending ≡ None
  pub untaken : 1 ≤ inputs_needed ns → p.state.taken ≡ c.start.taken

pub some_over : (c : Scene) (code : ℕ) (ns : List Need) → SomeFaults c code ns → code ≡ 5 → input_is_over c.start ≡ true
some_over c code [] fault five = absurd fault
some_over c code (n ∷ ns) (inl (inl over)) five = over.2
some_over c code (n ∷ ns) (inl (inr none)) five = absurd (omega (arith, none.0, five))
some_over c code (n ∷ ns) (inr there) five = some_over c code ns there five

pub outer_is_beyond : (c : Scene) (ns : List Need) (os : List Slot) (bound low high space index : ℕ) → SuitAll c ns os bound → bound ≤ c.count → high ≤ c.count → IsOuter c space index →
    IsBeyond c (IsReached ns os low high) space index
outer_is_beyond c ns os bound low high space index suit below within outer =
    beyond-less c (IsAny c) (IsReached ns os low high) space index (λ k reached. go k reached) outer
  where
    go : (k : ℕ) → IsReached ns os low high k → k < c.count
    go k (inl between) = omega (arith, between.1, within)
    go k (inr end) = let it = end_below c ns os bound k suit end in omega (arith, it, below)

scratches_apart : (c : Scene) (j k : ℕ) → IsScene c → j ≢ k → j < c.count → k < c.count → c.e.scratch j ≢ c.e.scratch k
scratches_apart c j k is other first second same = elim (less j k) [
  | inl below ↦ is.placed.setting.apart j k below second same
  | inr above ↦ elim (less k j) [
    | inl below ↦ is.placed.setting.apart k j below first (sym same)
    | inr equal ↦ other (omega (arith, above, equal))
  ]
]
  where
    less : (a b : ℕ) → (a < b) ⊎ (b ≤ a)
    less a b = cases_lt a b

-- what a need's own cell holds stays, while others run
still_held : (c : Scene) (n : Need) (o : Slot) (ns : List Need) (os : List Slot) (bound low mid high : ℕ) (p q : Progress) → IsScene c → SuitsOne c n o bound ns →
    ((k j : ℕ) → IsEndOf n o k → IsEnd ns os j → k ≢ j) → SuitAll c ns os bound → bound ≤ mid → mid ≤ high → high ≤ c.count → (ns ≡ [] → q ≡ p) →
    AreKept (IsBeyond c (IsReached ns os mid high)) p.state q.state → HeldAt c n o p.state → HeldAt c n o q.state
still_held c (InRegister v) o ns os bound low mid high p q is suit apart others below within count none kept held =
    let k : ℕ = suit.0 in
    let value : slot_value c.t c.e o ≡ c.e.scratch k = ap (slot_value c.t c.e) suit.1 in
    let beyond : IsBeyond c (IsReached ns os mid high) c.d.allocatable (slot_value c.t c.e o) = record {
      flag = allocatable_no_flag c.d is.placed.valid;
      scratch = λ here j reached same. go k suit.1 suit.2 j reached (sym value ∙ same);
    } in
    held ∙ ap Some (sym (kept.cells c.d.allocatable (slot_value c.t c.e o) beyond))
  where
    go : (k : ℕ) → o ≡ slot.Scratch k → k < bound → (j : ℕ) → IsReached ns os mid high j → c.e.scratch k ≡ c.e.scratch j → ⊥
    go k is_k less j (inl between) same = scratches_apart c k j is (λ equal. omega (arith, equal, between.0, below, less)) (omega (arith, less, below, within, count)) (omega (arith, between.1, count)) same
    go k is_k less j (inr end) same =
        let it = end_below c ns os bound j others end in
        scratches_apart c k j is (apart k j is_k end) (omega (arith, less, below, within, count)) (omega (arith, it, below, within, count)) same
still_held c (InFlag s i v) o ns os bound low mid high p q is suit apart others below within count none kept held =
    subst (λ (x : Progress). HeldAt c (InFlag s i v) o x.state) (sym (none suit.2)) held
still_held c (AsTile a) o ns os bound low mid high p q is suit apart others below within count none kept held = absurd suit

-- a tree, and then what stands beside it
pub join : (c : Scene) (n : Need) (o : Slot) (ns : List Need) (os : List Slot) (low mid high : ℕ) (p r q : Progress) → IsScene c → SuitAll c (n ∷ ns) (o ∷ os) low → low ≤ mid → mid ≤ high → high ≤ c.count →
    inputs_needed (n ∷ ns) ≤ 1 → IsBefore c (n ∷ ns) p → ForestComes c (n ∷ []) (o ∷ []) low mid p r → ((code : ℕ) → r.state.ending ≡ Some (Trapped code) → q ≡ r) → (ns ≡ [] → q ≡ r) →
    (IsBefore c ns r → ForestComes c ns os mid high r q) → ForestComes c (n ∷ ns) (o ∷ os) low high p q
join c n o ns os low mid high p r q is suit below within count few before (inl first) ended none rest =
    let stop : HasStopped c (n ∷ []) first.0 p r = first.1 in
    subst (λ x. ForestComes c (n ∷ ns) (o ∷ os) low high p x) (sym (ended first.0 stop.ending))
    (inl (
      first.0,
      record {
        fault = elim stop.fault [ inl here ↦ inl here | inr there ↦ absurd there ];
        ending = stop.ending;
        kept = stop.kept;
        taken = λ when. stop.taken (elim when [ inl zeros ↦ inl (omega (arith, zeros)) | inr five ↦ inr five ]);
        output = stop.output;
      },
    ))
join c n o ns os low mid high p r q is suit below within count few before (inr first) ended none rest =
    let first_suits : SuitAll c (n ∷ []) (o ∷ []) low → AreKept (IsOuter c) p.state r.state = λ one. kept-less (IsBeyond c (IsReached (n ∷ []) (o ∷ []) low mid)) (IsOuter c) p.state r.state
    (λ space index. outer_is_beyond c (n ∷ []) (o ∷ []) low low mid space index one (omega (arith, below, within, count)) (omega (arith, within, count))) first.kept in
    let outer : AreKept (IsOuter c) p.state r.state = first_suits (alone n suit.0) in
    let next : IsBefore c ns r = record {
      kept = kept-trans (IsOuter c) c.start p.state r.state before.kept outer;
      running = first.ending;
      untaken = λ some. first.taken ∙ (let it = before.untaken (omega (arith, some)) in omega (arith, it, some, few));
    } in
    elim (rest next) [
      | inl stopped ↦ inl (stopped.0, stopped_then stopped.0 stopped.1 outer)
      | inr run ↦ inr (run_then run)
    ]
  where
    alone : (n : Need) → SuitsOne c n o low ns → SuitAll c (n ∷ []) (o ∷ []) low
    alone (InRegister v) one = (one, (λ k j end other. absurd other), tt)
    alone (InFlag s i v) one = ((one.0, one.1, refl), (λ k j end other. absurd other), tt)
    alone (AsTile a) one = absurd one

    stopped_then : (code : ℕ) → HasStopped c ns code r q → AreKept (IsOuter c) p.state r.state → HasStopped c (n ∷ ns) code p q
    stopped_then code stop outer = record {
      fault = inr stop.fault;
      ending = stop.ending;
      kept = kept-trans (IsOuter c) p.state r.state q.state outer stop.kept;
      taken = λ when. go when;
      output = stop.output ∙ first.output;
    }
      where
        none_taken : (m : ℕ) → inputs_needed (n ∷ []) ≡ m → (code ≡ 5) → q.state.taken ≡ p.state.taken
        none_taken zero zeros five = stop.taken (inr five) ∙ first.taken ∙ (omega (arith, zeros))
        none_taken (suc m) some five = absurd (let no : true ≡ false = sym (some_over c code ns stop.fault five) ∙ first.over (omega (arith, some)) in cc no)

        go : (inputs_needed (n ∷ ns) ≡ 0) ⊎ (code ≡ 5) → q.state.taken ≡ p.state.taken
        go (inl zeros) = stop.taken (inl (omega (arith, zeros))) ∙ first.taken ∙ (omega (arith, zeros))
        go (inr five) = none_taken (inputs_needed (n ∷ [])) refl five

    run_then : HasRun c ns os mid high r q → HasRun c (n ∷ ns) (o ∷ os) low high p q
    run_then run = record {
      ending = run.ending;
      kept = kept-trans (IsBeyond c (IsReached (n ∷ ns) (o ∷ os) low high)) p.state r.state q.state
          (kept-less (IsBeyond c (IsReached (n ∷ []) (o ∷ []) low mid)) (IsBeyond c (IsReached (n ∷ ns) (o ∷ os) low high)) p.state r.state
          (λ space index. beyond-less c (IsReached (n ∷ ns) (o ∷ os) low high) (IsReached (n ∷ []) (o ∷ []) low mid) space index (λ k reached. first_less k reached)) first.kept)
          (kept-less (IsBeyond c (IsReached ns os mid high)) (IsBeyond c (IsReached (n ∷ ns) (o ∷ os) low high)) r.state q.state
          (λ space index. beyond-less c (IsReached (n ∷ ns) (o ∷ os) low high) (IsReached ns os mid high) space index (λ k reached. rest_less k reached)) run.kept);
      taken = run.taken ∙ (let it = first.taken in omega (arith, it));
      held = (still_held c n o ns os low low mid high r q is suit.0 suit.1 suit.2 below within count none run.kept first.held.0, run.held);
      over = λ some. over_both (inputs_needed ns) refl some;
      output = run.output ∙ first.output;
    }
      where
        first_less : (k : ℕ) → IsReached (n ∷ []) (o ∷ []) low mid k → IsReached (n ∷ ns) (o ∷ os) low high k
        first_less k (inl between) = inl (between.0, omega (arith, between.1, within))
        first_less k (inr (inl end)) = inr (inl end)
        first_less k (inr (inr nothing)) = absurd nothing

        rest_less : (k : ℕ) → IsReached ns os mid high k → IsReached (n ∷ ns) (o ∷ os) low high k
        rest_less k (inl between) = inl (omega (arith, between.0, below), between.1)
        rest_less k (inr end) = inr (inr end)

        over_both : (m : ℕ) → inputs_needed ns ≡ m → 1 ≤ inputs_needed (n ∷ ns) → input_is_over c.start ≡ false
        over_both zero zeros some = first.over (omega (arith, zeros, some))
        over_both (suc m) more some = run.over (omega (arith, more))
