-- Code that is fine means the same at all placings.
use Rattle.std.proofs.Common.{if◌then◌else◌, ◌≡◌, ◌∙◌, ◌+◌, ◌*◌, ◌≤◌, ◌<◌, ◌-◌, ◌∷◌, ◌++◌, ℕ, zero, suc, List, [], length, replicate, map, slice_index, length-append, Bool, true, false, None, slice_get, is_some, inl, refl, ap, sym, subst, arith}
use Rattle.std.proofs.lemmas.List.{length-map, length-replicate}
use Rattle.qc_terms.specs.Cells.{row_of}
use Rattle.qc_descr.specs.declared.description.Description.{Description}
use Rattle.qc_descr.specs.Description.{counts_of}
use Rattle.qc_runs.specs.Automaton.{IsBefore, Same, after, before}
use Rattle.qc_runs.specs.LineMachine.{AtGroup, Going, Grouped, IsLineMachine, arrival, run_of}
use Rattle.qc_runs.specs.Placing.{AtSame}
use Rattle.qc_runs.specs.Law.Followed.{no_path, same_of}
use Rattle.qc_runs.specs.Law.Grouped.{grouped_follows}
use Rattle.qc_runs.specs.Law.Lines.{EndsBehind, is_automaton, lines_rise, place_rank}
use Rattle.qc_runs.specs.Law.Runs.{before_is, one_before, reached_within}
use Rattle.qc_runs.specs.Law.Placed.{only_labels_itself, placed_follows}
use Rattle.qc_meaning.specs.Aimed.{IsAimed}
use Rattle.qc_meaning.specs.Code.{Flat, solid_at}
use Rattle.qc_meaning.specs.Landing.{IsPlacingOf}
use Rattle.qc_meaning.specs.Marked.{Ghost, marked_lines, marks_at_place, marks_of_line}
use Rattle.qc_meaning.specs.Runs.{Data, acts, code_run, data_memory, does_at, goes_by_word, jump_of, lines_at, lines_by_aim, shown_by}
use Rattle.qc_meaning.specs.Law.Sound.{SuitsCode}
use Rattle.qc_meaning.specs.Tame.{IsStart, IsTame, JumpsWhereItSays, KeepsMarks, MeanTheSame, Start, most_steps, start_data, start_marked}
use Rattle.qc_meaning.specs.Law.Independent.{Any, Near, grouped}
use Rattle.qc_meaning.specs.Law.Landing.{words_land}
use Rattle.qc_meaning.specs.Law.Machine.{label_at, lines_at_are, lines_by_aim_are}

-- ---- machines of lines

-- behind the last line a run ends
no_line : {A : Type 0} (xs : List A) (k : ℕ) → length xs ≤ k → slice_get xs k ≡ None
no_line [] k behind = refl
no_line (x ∷ xs) zero behind = absurd (omega (arith, behind))
no_line (x ∷ xs) (suc k) behind = no_line xs k (omega (arith, behind))

acts_behind : (d : Description) (x : Flat) (at : ℕ → ℕ) (k : ℕ) (r : Data) → length x.lines ≤ k → is_some (acts d x at k r).machine.ending ≡ true
acts_behind d x at k r behind = ap (λ o. is_some (does_at d x at k o r).machine.ending) (no_line x.lines k behind)

label_keeps_marks : (d : Description) (x : Flat) (homes : Bool) (at : ℕ → ℕ) (k : ℕ) (r : Data) (g : Ghost) → solid_at x k ≡ false →
    marks_at_place d x homes at k (slice_get x.lines k) r g ≡ g
label_keeps_marks d x homes at k r g label =
    let it = label_at x k label in
    ap (λ o. marks_at_place d x homes at k o r g) it.is
    ∙ ap (λ line. marks_of_line d x homes at k it.standing.procedure line r g) it.label

marked_are : (d : Description) (x : Flat) (homes : Bool) (at : ℕ → ℕ) → IsLineMachine (marked_lines d x homes at)
marked_are d x homes at = record {
  labels = λ k s label.
      let plain = (lines_by_aim_are d x at).labels k s.0 label in (
        ap (λ r. (r, marks_at_place d x homes at k (slice_get x.lines k) s.0 s.1)) plain.0
            ∙ ap (λ g. (s.0, g)) (label_keeps_marks d x homes at k s.0 s.1 label),
        plain.1,
      );
  grows = λ k s on. (lines_by_aim_are d x at).grows k s.0 on;
}

at_ends : (d : Description) (x : Flat) (at : ℕ → ℕ) → EndsBehind (lines_at d x at) (length x.lines)
at_ends d x at = record { ends = λ k r behind. acts_behind d x at k r behind }

aim_ends : (d : Description) (x : Flat) (at : ℕ → ℕ) → EndsBehind (lines_by_aim d x at) (length x.lines)
aim_ends d x at = record { ends = λ k r behind. acts_behind d x at k r behind }

marked_ends : (d : Description) (x : Flat) (homes : Bool) (at : ℕ → ℕ) → EndsBehind (marked_lines d x homes at) (length x.lines)
marked_ends d x homes at = record { ends = λ k s behind. acts_behind d x at k s.0 behind }

-- ---- marks change no run

-- a state without its marks
abbrev pub unmarked : ℕ × (Data × Ghost) → ℕ × Data
unmarked s = (s.0, s.1.0)

unmarked_next : (d : Description) (x : Flat) (homes : Bool) (at : ℕ → ℕ) (s : ℕ × (Data × Ghost)) →
    unmarked ((run_of (marked_lines d x homes at)).next s) ≡ (run_of (lines_by_aim d x at)).next (unmarked s)
unmarked_next d x homes at s = go (is_some s.1.0.machine.ending)
  where
    go : (b : Bool) →
        unmarked (if b then s
        else (arrival s.0 ((lines_by_aim d x at).goes s.0 s.1.0), (acts d x at s.0 s.1.0, marks_at_place d x homes at s.0 (slice_get x.lines s.0) s.1.0 s.1.1)))
        ≡ (if b then unmarked s else (arrival s.0 ((lines_by_aim d x at).goes s.0 s.1.0), acts d x at s.0 s.1.0))
    go true = refl
    go false = refl

pub unmarked_after : (d : Description) (x : Flat) (homes : Bool) (at : ℕ → ℕ) (n : ℕ) (s : ℕ × (Data × Ghost)) →
    unmarked (after (run_of (marked_lines d x homes at)) n s) ≡ after (run_of (lines_by_aim d x at)) n (unmarked s)
unmarked_after d x homes at zero s = refl
unmarked_after d x homes at (suc n) s =
    unmarked_next d x homes at (after (run_of (marked_lines d x homes at)) n s)
    ∙ ap (run_of (lines_by_aim d x at)).next (unmarked_after d x homes at n s)

-- the run with marks follows the one without
with_marks : (d : Description) (x : Flat) (homes : Bool) (at : ℕ → ℕ) →
    Grouped (lines_by_aim d x at) (marked_lines d x homes at) (λ k. k) Any Any (λ k r s. s.0 ≡ r)
with_marks d x homes at = record {
  rises = λ j k least. least;
  shows = λ k r s same. ap shown_by same;
  ended = λ k r s place same fine done. tt;
  answers = λ k r s same fine on. inl (record {
    at = k;
    last = s;
    comes = no_path (run_of (marked_lines d x homes at)) Any (k, s);
    low = omega arith;
    high = omega arith;
    runs = ap (λ t. is_some t.machine.ending) same ∙ on;
    shows = ap shown_by same;
    nice = tt;
    moves = λ running. ap (λ t. arrival k ((lines_by_aim d x at).goes k t)) same;
    related = ap (acts d x at k) same;
  });
}

-- ---- one run, two placings

-- States of the run with marks at a placing: all lines are fine, and jump where their text says.
pub record IsFineRun (d : Description) (x : Flat) (homes : Bool) (frame : ℕ) (at : ℕ → ℕ) (s : ℕ × (Data × Ghost)) : Type 0 where
  pub fine : (n : ℕ) → KeepsMarks d x homes frame at (after (run_of (marked_lines d x homes at)) n s)
  pub aimed : (n : ℕ) → JumpsWhereItSays d x at (after (run_of (marked_lines d x homes at)) n s)

-- a run that goes on jumps where its text says
abbrev pub IsAimedOn : Description → Flat → (ℕ → ℕ) → ℕ × Data → Type 0
IsAimedOn d x at s = s.1.machine.ending ≡ None → IsAimed d x at s

-- the run by addresses shows what the run by texts shows
by_words : (d : Description) (x : Flat) (homes : Bool) (frame : ℕ) (at : ℕ → ℕ) (s : ℕ × (Data × Ghost)) → IsPlacingOf d x at →
    IsFineRun d x homes frame at s →
    Same (run_of (lines_by_aim d x at)) (most_steps x) (unmarked s) (code_run d x at) (most_steps x) (unmarked s)
by_words d x homes frame at s placing fine =
    let m = lines_by_aim d x at in
    let goes : ℕ → Data → Going = λ k r. goes_by_word x at (jump_of d x at k (slice_get x.lines k) r) in
    same_of (run_of m) (code_run d x at) (IsAimedOn d x at) (λ u. Unit {0}) (AtSame m) (most_steps x) (most_steps x)
    (place_rank (length x.lines)) (place_rank (length x.lines))
    (is_automaton m (lines_by_aim_are d x at)) (is_automaton (lines_at d x at) (lines_at_are d x at))
    (lines_rise m (length x.lines) (aim_ends d x at)) (lines_rise (lines_at d x at) (length x.lines) (at_ends d x at))
    (placed_follows m goes (IsAimedOn d x at) (lines_by_aim_are d x at) (lines_at_are d x at) (words_land d x at placing))
    (unmarked s) (unmarked s) (record { equal = refl; place = λ on. only_labels_itself (solid_at x) s.0 })
    (λ n. subst (IsAimedOn d x at) (unmarked_after d x homes at n s) (fine.aimed n))

-- marks change nothing that is shown
by_marks : (d : Description) (x : Flat) (homes : Bool) (at : ℕ → ℕ) (s : ℕ × (Data × Ghost)) →
    Same (run_of (lines_by_aim d x at)) (most_steps x) (unmarked s) (run_of (marked_lines d x homes at)) (most_steps x) s
by_marks d x homes at s =
    let m = lines_by_aim d x at in
    let n = marked_lines d x homes at in
    same_of (run_of m) (run_of n) Any Any (AtGroup m (λ k. k) (λ k r t. t.0 ≡ r)) (most_steps x) (most_steps x)
    (place_rank (length x.lines)) (place_rank (length x.lines))
    (is_automaton m (lines_by_aim_are d x at)) (is_automaton n (marked_are d x homes at))
    (lines_rise m (length x.lines) (aim_ends d x at)) (lines_rise n (length x.lines) (marked_ends d x homes at))
    (grouped_follows m n (λ k. k) Any Any (λ k r t. t.0 ≡ r) (with_marks d x homes at))
    (unmarked s) s (record { related = refl; place = λ on. refl }) (λ n. tt)

-- the run at another placing
by_placing : (d : Description) → SuitsCode d → (x : Flat) (homes : Bool) (frame : ℕ) (b c : ℕ → ℕ) (s : ℕ × (Data × Ghost)) →
    Near d s.0 s.1 s.1.0 → IsFineRun d x homes frame b s →
    Same (run_of (marked_lines d x homes b)) (most_steps x) s (run_of (lines_by_aim d x c)) (most_steps x) (unmarked s)
by_placing d suits x homes frame b c s near fine =
    let m = marked_lines d x homes b in
    let n = lines_by_aim d x c in
    same_of (run_of m) (run_of n) (KeepsMarks d x homes frame b) Any (AtGroup m (λ k. k) (Near d)) (most_steps x) (most_steps x)
    (place_rank (length x.lines)) (place_rank (length x.lines))
    (is_automaton m (marked_are d x homes b)) (is_automaton n (lines_by_aim_are d x c))
    (lines_rise m (length x.lines) (marked_ends d x homes b)) (lines_rise n (length x.lines) (aim_ends d x c))
    (grouped_follows m n (λ k. k) (KeepsMarks d x homes frame b) Any (Near d) (grouped d suits x homes frame b c))
    s (unmarked s) (record { related = near; place = λ on. refl }) fine.fine

-- Code whose runs are fine at two placings shows the same at both before each turn.
pub one_meaning : (d : Description) → SuitsCode d → (x : Flat) (homes : Bool) (frame : ℕ) (b c : ℕ → ℕ) (s : ℕ × (Data × Ghost)) →
    Near d s.0 s.1 s.1.0 → IsPlacingOf d x b → IsPlacingOf d x c → IsFineRun d x homes frame b s → IsFineRun d x homes frame c s →
    Same (code_run d x b) (most_steps x) (unmarked s) (code_run d x c) (most_steps x) (unmarked s)
one_meaning d suits x homes frame b c s near at_b at_c fine_b fine_c t =
    by_words d x homes frame c s at_c fine_c t
    ∙ by_placing d suits x homes frame b c s near fine_b t
    ∙ by_marks d x homes b s t
    ∙ sym (by_words d x homes frame b s at_b fine_b t)

-- ---- tame code

-- so many zeros as a space has cells
zero_rows : (counts : List ℕ) (a : ℕ) → a < length counts → length (row_of (map (λ count. replicate count 0) counts) a) ≡ slice_index counts a
zero_rows [] a known = absurd (omega (arith, known))
zero_rows (c ∷ cs) zero known = length-replicate c 0
zero_rows (c ∷ cs) (suc a) known = zero_rows cs a (omega (arith, known))

memory_size : (d : Description) (initial : List ℕ) → d.code_end + length initial ≤ d.memory → length (data_memory d initial) ≡ d.memory
memory_size d initial room =
    let rest = d.memory - d.code_end - length initial in
    omega (
      arith,
      length-append (replicate d.code_end 0) (initial ++ replicate rest 0),
      length-append initial (replicate rest 0),
      length-replicate {A = ℕ} d.code_end 0,
      length-replicate {A = ℕ} rest 0,
      room,
    )

start_near : (d : Description) → SuitsCode d → (x : Flat) (s : Start) → IsStart d s → Near d 0 (start_marked d x s).1 (start_data d x s)
start_near d suits x s start = record {
  together = record {
    machine = record {
      facts = refl;
      widths = refl;
      rows = refl;
      cells = λ space index free clean. refl;
      memory = refl;
      bytes = λ a known clean. refl;
      input = refl;
      taken = refl;
      ending = refl;
    };
    lengths = λ p f. refl;
    registers = λ p f n known clean. refl;
    output = refl;
    calls = refl;
  };
  sound = record {
    facts = refl;
    row = record {
      known = subst (λ n. d.allocatable < n) (sym (length-map (counts_of d) (λ count. replicate count 0))) suits.space;
      cells = zero_rows (counts_of d) d.allocatable suits.space;
    };
    memory = memory_size d s.initial start.room;
    frame = refl;
  };
}

-- tame code means the same at all placings
pub tame_means_the_same : (d : Description) → SuitsCode d → (x : Flat) (homes : Bool) (frame : ℕ) → IsTame d x homes frame → MeanTheSame d x x
tame_means_the_same d suits x homes frame tame at by s at_is by_is start =
    one_meaning d suits x homes frame at by (start_marked d x s) (start_near d suits x s start) at_is by_is
    (record { fine = tame.marks at s at_is start; aimed = tame.jumps at s at_is start })
    (record { fine = tame.marks by s by_is start; aimed = tame.jumps by s by_is start })

-- ---- turns of code

-- the state before a turn, as it is computed
pub code_before : (d : Description) (x : Flat) (at : ℕ → ℕ) (s : ℕ × Data) (t : ℕ) →
    IsBefore (code_run d x at) s t (before (code_run d x at) (most_steps x) s t)
code_before d x at s t =
    before_is (code_run d x at) (most_steps x) (place_rank (length x.lines)) (is_automaton (lines_at d x at) (lines_at_are d x at))
    (lines_rise (lines_at d x at) (length x.lines) (at_ends d x at)) s t

pub code_one_before : (d : Description) (x : Flat) (at : ℕ → ℕ) (s : ℕ × Data) (t : ℕ) (u v : ℕ × Data) → IsBefore (code_run d x at) s t u →
    IsBefore (code_run d x at) s t v → u ≡ v
code_one_before d x at s t u v = one_before (code_run d x at) (is_automaton (lines_at d x at) (lines_at_are d x at)) s t u v

pub code_reached : (d : Description) (x : Flat) (at : ℕ → ℕ) (s u : ℕ × Data) (t : ℕ) → IsBefore (code_run d x at) s t u →
    (n : ℕ) × (n ≤ suc t * most_steps x) × (u ≡ after (code_run d x at) n s)
code_reached d x at s u t =
    reached_within (code_run d x at) (most_steps x) (place_rank (length x.lines)) (is_automaton (lines_at d x at) (lines_at_are d x at))
    (lines_rise (lines_at d x at) (length x.lines) (at_ends d x at)) s t u
