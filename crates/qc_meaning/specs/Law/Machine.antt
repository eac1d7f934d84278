-- Code at addresses is a machine of lines, and its turns come in time.
use Rattle.std.proofs.Common.{◌≡◌, ◌∙◌, ◌++◌, ℕ, List, [], length, min, true, false, not, Option, None, Some, slice_get, refl, ap, sym, append-nil, is_some}
use Rattle.qc_terms.specs.declared.state.Event.{Event}
use Rattle.qc_terms.specs.Observation.{Below, Observation, SameEnding, words_of}
use Rattle.qc_descr.specs.declared.description.Description.{Description}
use Rattle.qc_runs.specs.LineMachine.{IsLineMachine}
use Rattle.qc_meaning.specs.Code.{Does, Flat, Label, Line, Standing, at_place, is_label, solid_at}
use Rattle.qc_meaning.specs.Runs.{Data, acts, does, does_at, goes_by_aim, goes_by_word, jump_by, jump_of, lines_at, lines_by_aim, outcome_at, shown_by, trapped_data}

-- ---- labels

-- what holds of a label at a place
pub record IsAtLabel (x : Flat) (k : ℕ) : Type 0 where
  pub standing : Standing
  pub number : ℕ
  pub is : slice_get x.lines k ≡ Some standing
  pub label : standing.line ≡ Label number

pub label_at : (x : Flat) (k : ℕ) → solid_at x k ≡ false → IsAtLabel x k
label_at x k none = go (slice_get x.lines k) refl none
  where
    go_on : (s : Standing) (line : Line) → slice_get x.lines k ≡ Some s → s.line ≡ line → not (is_label line) ≡ false → IsAtLabel x k
    go_on s (Label number) is line label = record { standing = s; number = number; is = is; label = line }
    go_on s (Does inst) is line label = cc

    go : (o : Option Standing) → slice_get x.lines k ≡ o → at_place (λ s. not (is_label s.line)) true o ≡ false → IsAtLabel x k
    go None is label = cc
    go (Some s) is label = go_on s s.line is refl label

label_does_nothing : (d : Description) (x : Flat) (at : ℕ → ℕ) (k : ℕ) (r : Data) → solid_at x k ≡ false → acts d x at k r ≡ r
label_does_nothing d x at k r label =
    let it = label_at x k label in
    ap (λ o. does_at d x at k o r) it.is ∙ ap (λ line. does d x at k it.standing.procedure line r) it.label

label_goes_onward : (d : Description) (x : Flat) (at : ℕ → ℕ) (k : ℕ) (r : Data) → solid_at x k ≡ false →
    jump_of d x at k (slice_get x.lines k) r ≡ None
label_goes_onward d x at k r label =
    let it = label_at x k label in
    ap (λ o. jump_of d x at k o r) it.is ∙ ap (λ line. jump_by d x at k it.standing.procedure line r) it.label

-- ---- what is shown

-- a state that goes on has shown no more than one with more output
more_shown : (x y : Observation) (more : List ℕ) → is_some x.ending ≡ false → y.output ≡ x.output ++ more → Below x y
more_shown x y more on output = record { output = (more, output); ending = no_ending x.ending on }
  where
    no_ending : (ending : Option Event) → is_some ending ≡ false → SameEnding ending x y
    no_ending None on = tt
    no_ending (Some event) on = cc

line_shows_more : (d : Description) (x : Flat) (at : ℕ → ℕ) (k p : ℕ) (line : Line) (r : Data) → is_some r.machine.ending ≡ false →
    Below (shown_by r) (shown_by (does d x at k p line r))
line_shows_more d x at k p (Label number) r on = more_shown (shown_by r) (shown_by r) [] on (sym (append-nil r.output))
line_shows_more d x at k p (Does inst) r on =
    more_shown (shown_by r) (shown_by (does d x at k p (Does inst) r)) (words_of (outcome_at d x at k p inst r).event) on refl

place_shows_more : (d : Description) (x : Flat) (at : ℕ → ℕ) (k : ℕ) (o : Option Standing) (r : Data) → is_some r.machine.ending ≡ false →
    Below (shown_by r) (shown_by (does_at d x at k o r))
place_shows_more d x at k None r on =
    more_shown (shown_by r) (shown_by (trapped_data 4 r)) [] on (sym (append-nil r.output))
place_shows_more d x at k (Some s) r on = line_shows_more d x at k s.procedure s.line r on

-- ---- machines of lines

pub lines_at_are : (d : Description) (x : Flat) (at : ℕ → ℕ) → IsLineMachine (lines_at d x at)
lines_at_are d x at = record {
  labels = λ k r label. (label_does_nothing d x at k r label, ap (goes_by_word x at) (label_goes_onward d x at k r label));
  grows = λ k r on. place_shows_more d x at k (slice_get x.lines k) r on;
}

pub lines_by_aim_are : (d : Description) (x : Flat) (at : ℕ → ℕ) → IsLineMachine (lines_by_aim d x at)
lines_by_aim_are d x at = record {
  labels = λ k r label. (label_does_nothing d x at k r label, ap (goes_by_aim x k r.calls) (label_goes_onward d x at k r label));
  grows = λ k r on. place_shows_more d x at k (slice_get x.lines k) r on;
}

-- ---- turns come in time

-- the place of a run, as far as there are lines
abbrev pub place_rank : Flat → ℕ × Data → ℕ
place_rank x s = min s.0 (length x.lines)
