-- Flat effects show nothing.
use Rattle.std.proofs.Common.{◌≡◌, ◌∙◌, ℕ, List, [], ◌∷◌, Some, ap, append-nil, refl, false}
use Rattle.qc_terms.specs.declared.state.Event.TheVariants.{Quiet}
use Rattle.qc_terms.specs.declared.state.State.{State}
use Rattle.qc_terms.specs.Effects.{after_writes, event_of, outcome_of_event}
use Rattle.qc_flat.specs.declared.effect.FlatEffect.{FlatEffect}
use Rattle.qc_flat.specs.declared.run.PendingWrite.{PendingWrite}
use Rattle.qc_flat.specs.declared.run.PendingWrite.TheVariants.{Skipped, ToCell, ToMemory, ToCounter}
use Rattle.qc_flat.specs.Flat.{outcome_of_flat, writes_of_flat, writes_of_flat_effect}
use Rattle.qc_flat.specs.Inner.Pending.{writes_of_all, writes_of_pending}

quiet : (ps : List PendingWrite) → event_of (writes_of_all ps) ≡ Quiet
quiet [] = refl
quiet (Skipped ∷ ps) = quiet ps
quiet (ToCell space index word ∷ ps) = quiet ps
quiet (ToMemory address count word ∷ ps) = quiet ps
quiet (ToCounter word ∷ ps) = quiet ps

pub quiet_outcome : (es : List FlatEffect) (ps : List PendingWrite) (after : ℕ) (s : State) → writes_of_flat es s ≡ Some (writes_of_all ps) →
    outcome_of_flat es after s ≡ record { state = after_writes (writes_of_all ps) (record s { pc = after }); event = Quiet }
quiet_outcome es ps after s is = rw is (ap (λ event. outcome_of_event event (writes_of_all ps) false after s) (quiet ps))

-- the same for one effect
pub quiet_one : (e : FlatEffect) (p : PendingWrite) (after : ℕ) (s : State) → writes_of_flat_effect e s ≡ Some (writes_of_pending p) →
    outcome_of_flat (e ∷ []) after s ≡ record { state = after_writes (writes_of_pending p) (record s { pc = after }); event = Quiet }
quiet_one e p after s is =
    let whole : writes_of_flat (e ∷ []) s ≡ Some (writes_of_all (p ∷ [])) = rw is refl in
    quiet_outcome (e ∷ []) (p ∷ []) after s whole
    ∙ ap (λ ws. record { state = after_writes ws (record s { pc = after }); event = Quiet }) (append-nil (writes_of_pending p))
