-- Runs of any step function that come to an end, and what they show on the way.
use Rattle.std.proofs.Common.{◌≡◌, ◌≤◌, ℕ, zero, suc, ◌-◌, List, [], ◌∷◌, ◌++◌, Option, None, Some, refl, ap, sym, subst, ◌∙◌, arith, append_assoc, append-nil}
use Rattle.qc_terms.specs.declared.state.Event.{Event}
use Rattle.qc_terms.specs.Observation.{Observation, Below, SameEnding}

-- A run whose steps keep what it shows in the end, and whose size falls to 0 as it gets there.
pub record Finishes {A : Type 0} (step : A → A) (shown final : A → Observation) (size : A → ℕ) : Type 0 where
  pub keeps : (a : A) → final (step a) ≡ final a
  pub below : (a : A) → Below (shown a) (final a)
  pub falls : (a : A) → size (step a) ≤ size a - 1
  pub ends : (a : A) → size a ≡ 0 → shown a ≡ final a

-- after n steps
abbrev pub steps_of : {A : Type 0} → (A → A) → A → ℕ → A
steps_of step a zero = a
steps_of step a (suc n) = step (steps_of step a n)

-- one step before n others is one after them
pub steps_of-step : {A : Type 0} (step : A → A) (a : A) (n : ℕ) → steps_of step (step a) n ≡ steps_of step a (suc n)
steps_of-step step a zero = refl
steps_of-step step a (suc n) = ap step (steps_of-step step a n)

steps_keep : {A : Type 0} {step : A → A} {shown final : A → Observation} {size : A → ℕ} → Finishes step shown final size → (a : A) (n : ℕ) → final (steps_of step a n) ≡ final a
steps_keep f a zero = refl
steps_keep f a (suc n) = f.keeps _ ∙ steps_keep f a n

steps_fall : {A : Type 0} {step : A → A} {shown final : A → Observation} {size : A → ℕ} → Finishes step shown final size → (a : A) (n : ℕ) → size (steps_of step a n) ≤ size a - n
steps_fall f a zero = omega arith
steps_fall {step = step} f a (suc n) = omega (arith, f.falls (steps_of step a n), steps_fall f a n)

-- what is shown is always below what is shown in the end
pub steps_below : {A : Type 0} {step : A → A} {shown final : A → Observation} {size : A → ℕ} → Finishes step shown final size → (a : A) (n : ℕ) → Below (shown (steps_of step a n)) (final a)
steps_below {step = step} {shown = shown} f a n = subst (Below (shown (steps_of step a n))) (steps_keep f a n) (f.below _)

-- after enough steps that is what is shown
pub steps_end : {A : Type 0} {step : A → A} {shown final : A → Observation} {size : A → ℕ} → Finishes step shown final size → (a : A) (n : ℕ) → size a ≤ n → shown (steps_of step a n) ≡ final a
steps_end f a n h = f.ends _ (omega (arith, steps_fall f a n)) ∙ steps_keep f a n

-- what is seen where these words were put out, and this is the ending
abbrev pub shows : List ℕ → Option Event → Observation
shows output ending = record { output = output; ending = ending }

-- more output is more
pub below_more_output : (x : Observation) (word : ℕ) (output : List ℕ) → Below (shows (output ++ word ∷ []) None) x → Below (shows output None) x
below_more_output x word output b =
    record { output = (word ∷ b.output.0, b.output.1 ∙ append_assoc output (word ∷ []) b.output.0); ending = tt }

same_itself : (e : Option Event) (x : Observation) → SameEnding e x x
same_itself None x = tt
same_itself (Some event) x = (refl, refl)

-- what is seen is below itself
pub below_itself : (x : Observation) → Below x x
below_itself x = record { output = ([], sym (append-nil x.output)); ending = same_itself x.ending x }

same_ending_trans : (e : Option Event) (x y z : Observation) → x.ending ≡ e → SameEnding e x y → SameEnding y.ending y z → SameEnding e x z
same_ending_trans None x y z is first second = tt
same_ending_trans (Some event) x y z is first second =
    let next : SameEnding (Some event) y z = subst (λ e. SameEnding e y z) (first.1 ∙ is) second in
    (next.0 ∙ first.0, next.1 ∙ first.1)

-- what is below something below a third is below that
pub below_trans : (x y z : Observation) → Below x y → Below y z → Below x z
below_trans x y z first second =
    record {
      output = (
        first.output.0 ++ second.output.0,
        second.output.1 ∙ ap (λ o. o ++ second.output.0) first.output.1 ∙ append_assoc x.output first.output.0 second.output.0,
      );
      ending = same_ending_trans x.ending x y z refl first.ending second.ending;
    }
