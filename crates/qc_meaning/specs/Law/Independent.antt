-- Code that is fine shows the same wherever its lines stand: a run at one placing follows that at another.
use Rattle.std.proofs.Common.{◌≡◌, ◌∙◌, ◌+◌, ◌-◌, ◌<◌, ◌++◌, ◌∷◌, ℕ, zero, suc, List, [], length, map, take, Bool, true, false, not, Option, None, Some, slice_get, slice_index, if◌then◌else◌, is_some, inl, refl, ap, sym, subst, arith, length-append, length-take}
use Rattle.std.proofs.lemmas.List.{length-set}
use Rattle.qc_terms.specs.declared.state.Event.{Event}
use Rattle.qc_terms.specs.declared.state.Event.TheVariants.{Ended, Out, Quiet, Trapped}
use Rattle.qc_terms.specs.declared.state.State.{State}
use Rattle.qc_terms.specs.Cells.{row_of}
use Rattle.qc_terms.specs.State.{is_zero_cell}
use Rattle.qc_descr.specs.declared.description.Description.{Description}
use Rattle.qc_runs.specs.LineMachine.{Grouped, arrival, run_of}
use Rattle.qc_terms.specs.Observation.{Observation}
use Rattle.qc_runs.specs.Law.Followed.{no_path}
use Rattle.qc_meaning.specs.Code.{Does, Flat, Inst, Label, Line, Standing, calls_at}
use Rattle.qc_meaning.specs.Fine.{AreFine, Marking, all_marks_after}
use Rattle.qc_meaning.specs.Marked.{Ghost, IsFineAt, IsFineLine, is_later_home, marked_lines, marks_at_place, marks_by, marks_of_line, reading, rules_of, seen_marks}
use Rattle.qc_meaning.specs.Marks.{Address, Clean, Mark, Stray}
use Rattle.qc_meaning.specs.Runs.{Data, address_of, calls_with, does, does_at, frame_in, goes_by_aim, jump_at, jump_by, jump_of, lines_by_aim, operands_at, outcome_at, own_cells, seen_by, shown_by, trapped_data, with_address, without_registers}
use Rattle.qc_meaning.specs.Slots.{is_addressed, is_true}
use Rattle.qc_meaning.specs.Law.Sound.{HasOwnRow, IsSound, SuitsCode}
use Rattle.qc_meaning.specs.Tame.{KeepsMarks}
use Rattle.qc_meaning.specs.Law.After.{IsWide, after_together}
use Rattle.qc_meaning.specs.Law.Effects.{IsShaped}
use Rattle.qc_meaning.specs.Law.Kept.{allowed_inside, frame_stays_clean, rows_stay, shape_stays}
use Rattle.qc_meaning.specs.Law.Landing.{no_ending}
use Rattle.qc_meaning.specs.Law.Outcomes.{jumps_alike, outcomes_alike}
use Rattle.qc_meaning.specs.Law.Values.{AreInside, ReadAlike, clash}
use Rattle.qc_meaning.specs.Law.Views.{Together, row_at, row_lengths, rows_count, seen_agree}

-- ---- operands

-- an operand that isn't an address is the same wherever lines stand
same_operand : (a b : ℕ) (addressed : List Bool) (operands : List ℕ) (n : ℕ) → is_true (slice_get addressed n) ≡ false →
    slice_index (with_address b addressed operands) n ≡ slice_index (with_address a addressed operands) n
same_operand a b [] operands n not = refl
same_operand a b (c ∷ cs) [] n not = refl
same_operand a b (c ∷ cs) (o ∷ os) zero not = ap (λ t. if t then b else o) not ∙ sym (ap (λ t. if t then a else o) not)
same_operand a b (c ∷ cs) (o ∷ os) (suc n) not = same_operand a b cs os n not

plain_operand : (b : Bool) → (if b then Address else Clean) ≡ Clean → b ≡ false
plain_operand true clean = absurd (apart clean)
  where
    apart : Address ≡ Clean → ⊥
    apart e = cc
plain_operand false clean = refl

never_clean : (b : Bool) → (if b then Address else Stray) ≡ Clean → ⊥
never_clean true clean = cc
never_clean false clean = cc

kept_clean : (b : Bool) (mark : Mark) → (if b then Stray else mark) ≡ Clean → mark ≡ Clean
kept_clean true mark clean = absurd (apart clean)
  where
    apart : Stray ≡ Clean → ⊥
    apart e = cc
kept_clean false mark clean = clean

-- ---- the frame cell

-- both runs have one word in the frame cell
pub frames_same : (d : Description) → SuitsCode d → (g : Ghost) (r q : Data) → IsSound d g r → Together g r q → frame_in d q.machine ≡ frame_in d r.machine
frames_same d suits g r q sound together =
    together.machine.cells d.frame.0 d.frame.1 (ap (λ f. is_zero_cell f.zero d.frame.0 d.frame.1) sound.facts ∙ suits.frame_free) sound.frame

-- ---- readings

pub readings_alike : (d : Description) → SuitsCode d → (x : Flat) (homes : Bool) (b c : ℕ → ℕ) (k p : ℕ) (inst : Inst) (g : Ghost) (r q : Data) →
    IsSound d g r → Together g r q → ReadAlike (reading d x homes b k p inst r g) (reading d x homes c k p inst q g)
readings_alike d suits x homes b c k p inst g r q sound together =
    let frames = frames_same d suits g r q sound together in
    let seen = seen_agree d p g r q sound.row together frames in
    record {
      cell_marks = ap (λ f space index. if is_later_home d homes space index then Stray else (seen_marks d p f g).cell space index) frames;
      operand_marks = refl;
      after_mark = refl;
      byte_marks = refl;
      operands = λ n clean. same_operand (address_of x b inst.target) (address_of x c inst.target) inst.addressed inst.operands n
          (plain_operand (is_addressed inst n) clean);
      next = λ clean. absurd (never_clean (calls_at d.link x k) clean);
      zero_cell = ap (λ f. f.zero) seen.facts;
      order = ap (λ f. f.order) seen.facts;
      cells = λ space index free clean. seen.cells space index free
          (kept_clean (is_later_home d homes space index) ((seen_marks d p (frame_in d r.machine) g).cell space index) clean);
      memory = seen.memory;
      bytes = seen.bytes;
      input = seen.input;
      taken = seen.taken;
    }

-- ---- a line that does something

-- what is known of a line of both runs
record AtLine (d : Description) (x : Flat) (homes : Bool) (frame : ℕ) (b c : ℕ → ℕ) (k p : ℕ) (inst : Inst) (g : Ghost) (r q : Data) : Type 0 where
  suits : SuitsCode d
  sound : IsSound d g r
  together : Together g r q
  fine : AreFine (rules_of d homes frame (frame_in d r.machine) inst) (reading d x homes b k p inst r g) inst.rtl.effects

inside_first : (d : Description) (x : Flat) (homes : Bool) (frame : ℕ) (b c : ℕ → ℕ) (k p : ℕ) (inst : Inst) (g : Ghost) (r q : Data) →
    AtLine d x homes frame b c k p inst g r q → AreInside (rules_of d homes frame (frame_in d r.machine) inst) (length r.machine.memory)
inside_first d x homes frame b c k p inst g r q line =
    subst (AreInside (rules_of d homes frame (frame_in d r.machine) inst)) (sym line.sound.memory)
    (allowed_inside d line.suits homes frame (frame_in d r.machine) inst)

inside_second : (d : Description) (x : Flat) (homes : Bool) (frame : ℕ) (b c : ℕ → ℕ) (k p : ℕ) (inst : Inst) (g : Ghost) (r q : Data) →
    AtLine d x homes frame b c k p inst g r q → AreInside (rules_of d homes frame (frame_in d r.machine) inst) (length q.machine.memory)
inside_second d x homes frame b c k p inst g r q line =
    subst (AreInside (rules_of d homes frame (frame_in d r.machine) inst)) (sym (line.together.machine.memory ∙ line.sound.memory))
    (allowed_inside d line.suits homes frame (frame_in d r.machine) inst)

shape : (d : Description) (x : Flat) (homes : Bool) (frame : ℕ) (b c : ℕ → ℕ) (k p : ℕ) (inst : Inst) (g : Ghost) (r q : Data) →
    AtLine d x homes frame b c k p inst g r q → IsShaped (reading d x homes b k p inst r g) (outcome_at d x b k p inst r).state
shape d x homes frame b c k p inst g r q line =
    shape_stays (rules_of d homes frame (frame_in d r.machine) inst) (reading d x homes b k p inst r g) (reading d x homes c k p inst q g)
    (readings_alike d line.suits x homes b c k p inst g r q line.sound line.together)
    (inside_first d x homes frame b c k p inst g r q line) (inside_second d x homes frame b c k p inst g r q line) inst.rtl line.fine

-- the allocatable space keeps its row, with virtual registers behind its cells
wide_after : (d : Description) (x : Flat) (b : ℕ → ℕ) (k p : ℕ) (inst : Inst) (r : Data) → HasOwnRow d r → IsWide d (outcome_at d x b k p inst r).state
wide_after d x b k p inst r own =
    let a = d.allocatable in
    let s = seen_by d p r in
    let o = (outcome_at d x b k p inst r).state in
    let row = row_of r.machine.cells a in
    let regs = r.registers p (frame_in d r.machine) in
    let rows : map length o.cells ≡ map length s.cells = rows_stay inst.rtl (operands_at x b inst) (b (suc k)) s in
    let seen : row_of s.cells a ≡ row ++ regs = row_at r.machine.cells a (row ++ regs) own.known in
    let size : length (row_of o.cells a) ≡ length (row_of s.cells a) = row_lengths s.cells o.cells a rows in
    let both : length (row_of s.cells a) ≡ length row + length regs = ap length seen ∙ length-append row regs in
    record {
      known =
          subst (λ n. a < n) (sym (rows_count s.cells o.cells rows))
          (subst (λ n. a < n) (sym (length-set r.machine.cells a (row ++ regs))) own.known);
      cells = omega (arith, size, both, own.cells);
    }

narrow_row : (d : Description) (s : State) → IsWide d s → (d.allocatable < length (without_registers d s).cells) × (length (row_of (without_registers d s).cells d.allocatable) ≡ own_cells d)
narrow_row d s wide =
    let part = take (own_cells d) (row_of s.cells d.allocatable) in (
      subst (λ n. d.allocatable < n) (sym (length-set s.cells d.allocatable part)) wide.known,
      ap length (row_at s.cells d.allocatable part wide.known)
          ∙ omega (arith, length-take (own_cells d) (row_of s.cells d.allocatable), wide.cells),
    )

-- where the program counter is set in both runs or in neither, the places after calls are the same, and so is where they go on
calls_same : (d : Description) (x : Flat) (k : ℕ) (j i : Option ℕ) (calls : List ℕ) → is_some i ≡ is_some j → calls_with d x k i calls ≡ calls_with d x k j calls
calls_same d x k None None calls same = refl
calls_same d x k None (Some i) calls same = absurd (clash same)
calls_same d x k (Some j) None calls same = absurd (clash (sym same))
calls_same d x k (Some j) (Some i) calls same = refl

goes_same : (x : Flat) (k : ℕ) (calls : List ℕ) (j i : Option ℕ) → is_some i ≡ is_some j → goes_by_aim x k calls i ≡ goes_by_aim x k calls j
goes_same x k calls None None same = refl
goes_same x k calls None (Some i) same = absurd (clash same)
goes_same x k calls (Some j) None same = absurd (clash (sym same))
goes_same x k calls (Some j) (Some i) same = refl

jumps_same : (d : Description) (x : Flat) (homes : Bool) (frame : ℕ) (b c : ℕ → ℕ) (k p : ℕ) (inst : Inst) (g : Ghost) (r q : Data) →
    AtLine d x homes frame b c k p inst g r q → is_some (jump_at d x c k p inst q) ≡ is_some (jump_at d x b k p inst r)
jumps_same d x homes frame b c k p inst g r q line =
    jumps_alike (rules_of d homes frame (frame_in d r.machine) inst) (reading d x homes b k p inst r g) (reading d x homes c k p inst q g)
    (readings_alike d line.suits x homes b c k p inst g r q line.sound line.together)
    (inside_first d x homes frame b c k p inst g r q line) (inside_second d x homes frame b c k p inst g r q line) inst.rtl line.fine

line_together : (d : Description) (x : Flat) (homes : Bool) (frame : ℕ) (b c : ℕ → ℕ) (k p : ℕ) (inst : Inst) (g : Ghost) (r q : Data) →
    AtLine d x homes frame b c k p inst g r q →
    Together (marks_of_line d x homes b k p (Does inst) r g) (does d x b k p (Does inst) r) (does d x c k p (Does inst) q)
line_together d x homes frame b c k p inst g r q line =
    let f = frame_in d r.machine in
    let first = reading d x homes b k p inst r g in
    let second = reading d x homes c k p inst q g in
    let frames = frames_same d line.suits g r q line.sound line.together in
    let m = seen_marks d p f g in
    let alike = outcomes_alike (rules_of d homes frame f inst) first second
    (readings_alike d line.suits x homes b c k p inst g r q line.sound line.together)
    (inside_first d x homes frame b c k p inst g r q line) (inside_second d x homes frame b c k p inst g r q line) inst.rtl line.fine m
    (seen_agree d p g r q line.sound.row line.together frames) in
    let o = outcome_at d x b k p inst r in
    let shaped = shape d x homes frame b c k p inst g r q line in
    after_together d g (marks_by o.event m (all_marks_after first inst.rtl.effects m)) r q p o (outcome_at d x c k p inst q)
    (calls_with d x k (jump_at d x b k p inst r) r.calls) (calls_with d x k (jump_at d x c k p inst q) q.calls)
    (wide_after d x b k p inst r line.sound.row)
    (λ index behind. ap (λ z. is_zero_cell z.zero d.allocatable index) (shaped.facts ∙ line.sound.facts) ∙ line.suits.zero_own index behind)
    alike line.together frames
    (calls_same d x k (jump_at d x b k p inst r) (jump_at d x c k p inst q) q.calls (jumps_same d x homes frame b c k p inst g r q line)
    ∙ ap (calls_with d x k (jump_at d x b k p inst r)) line.together.calls)

marks_by_clean : (event : Event) (before after : Marking) (frame : ℕ × ℕ) → before.cell frame.0 frame.1 ≡ Clean → after.cell frame.0 frame.1 ≡ Clean →
    (marks_by event before after).cell frame.0 frame.1 ≡ Clean
marks_by_clean (Trapped code) before after frame one two = one
marks_by_clean Quiet before after frame one two = two
marks_by_clean (Out word) before after frame one two = two
marks_by_clean (Ended code) before after frame one two = two

line_sound : (d : Description) (x : Flat) (homes : Bool) (frame : ℕ) (b c : ℕ → ℕ) (k p : ℕ) (inst : Inst) (g : Ghost) (r q : Data) →
    AtLine d x homes frame b c k p inst g r q → IsSound d (marks_of_line d x homes b k p (Does inst) r g) (does d x b k p (Does inst) r)
line_sound d x homes frame b c k p inst g r q line =
    let f = frame_in d r.machine in
    let first = reading d x homes b k p inst r g in
    let m = seen_marks d p f g in
    let o = outcome_at d x b k p inst r in
    let shaped = shape d x homes frame b c k p inst g r q line in
    let row = narrow_row d o.state (wide_after d x b k p inst r line.sound.row) in
    let clean : m.cell d.frame.0 d.frame.1 ≡ Clean =
    ap (λ v. if v then g.registers p f (d.frame.1 - own_cells d) else g.cells d.frame.0 d.frame.1) line.suits.frame_own ∙ line.sound.frame in
    record {
      facts = shaped.facts ∙ line.sound.facts;
      row = record { known = row.0; cells = row.1 };
      memory = shaped.memory ∙ line.sound.memory;
      frame = marks_by_clean o.event m (all_marks_after first inst.rtl.effects m) d.frame clean
          (frame_stays_clean (rules_of d homes frame f inst) first inst.rtl.effects m line.fine clean);
    }

-- ---- a step of both runs

-- the data of two runs, the first one with marks, agree, and the marks are sound
pub record Near (d : Description) (k : ℕ) (s : Data × Ghost) (q : Data) : Type 0 where
  pub together : Together s.1 s.0 q
  pub sound : IsSound d s.1 s.0

trapped_near : (d : Description) (k : ℕ) (r : Data) (g : Ghost) (q : Data) → Near d k (r, g) q → Near d (suc k) (trapped_data 4 r, g) (trapped_data 4 q)
trapped_near d k r g q near = record {
  together = record {
    machine = record {
      facts = near.together.machine.facts;
      widths = near.together.machine.widths;
      rows = near.together.machine.rows;
      cells = near.together.machine.cells;
      memory = near.together.machine.memory;
      bytes = near.together.machine.bytes;
      input = near.together.machine.input;
      taken = near.together.machine.taken;
      ending = refl;
    };
    lengths = near.together.lengths;
    registers = near.together.registers;
    output = near.together.output;
    calls = near.together.calls;
  };
  sound = record { facts = near.sound.facts; row = record { known = near.sound.row.known; cells = near.sound.row.cells }; memory = near.sound.memory; frame = near.sound.frame };
}

-- the data after the line at a place, and where both runs go on
record Steps (d : Description) (x : Flat) (homes : Bool) (b c : ℕ → ℕ) (k : ℕ) (o : Option Standing) (r : Data) (g : Ghost) (q : Data) : Type 0 where
  near : (j : ℕ) → Near d j (does_at d x b k o r, marks_at_place d x homes b k o r g) (does_at d x c k o q)
  goes : goes_by_aim x k q.calls (jump_of d x c k o q) ≡ goes_by_aim x k r.calls (jump_of d x b k o r)

line_steps : (d : Description) → SuitsCode d → (x : Flat) (homes : Bool) (frame : ℕ) (b c : ℕ → ℕ) (k p : ℕ) (line : Line) (r : Data) (g : Ghost) (q : Data) →
    Near d k (r, g) q → IsFineLine d x homes frame b k p line r g →
    ((j : ℕ) → Near d j (does d x b k p line r, marks_of_line d x homes b k p line r g) (does d x c k p line q))
    × (goes_by_aim x k q.calls (jump_by d x c k p line q) ≡ goes_by_aim x k r.calls (jump_by d x b k p line r))
line_steps d suits x homes frame b c k p (Label number) r g q near fine = (
  λ j. record { together = near.together; sound = near.sound },
  refl,
)
line_steps d suits x homes frame b c k p (Does inst) r g q near fine =
    let line : AtLine d x homes frame b c k p inst g r q =
    record { suits = suits; sound = near.sound; together = near.together; fine = fine } in (
      λ j. record {
        together = line_together d x homes frame b c k p inst g r q line;
        sound = line_sound d x homes frame b c k p inst g r q line;
      },
      ap (λ calls. goes_by_aim x k calls (jump_at d x c k p inst q)) near.together.calls
          ∙ goes_same x k r.calls (jump_at d x b k p inst r) (jump_at d x c k p inst q) (jumps_same d x homes frame b c k p inst g r q line),
    )

place_steps : (d : Description) → SuitsCode d → (x : Flat) (homes : Bool) (frame : ℕ) (b c : ℕ → ℕ) (k : ℕ) (o : Option Standing) (r : Data) (g : Ghost) (q : Data) →
    Near d k (r, g) q → IsFineAt d x homes frame b k o r g → Steps d x homes b c k o r g q
place_steps d suits x homes frame b c k None r g q near fine =
    record { near = λ j. let t = trapped_near d k r g q near in record { together = t.together; sound = t.sound }; goes = refl }
place_steps d suits x homes frame b c k (Some s) r g q near fine =
    let it = line_steps d suits x homes frame b c k s.procedure s.line r g q near fine in record { near = it.0; goes = it.1 }

-- ---- runs

shown_same : (g : Ghost) (r q : Data) → Together g r q → shown_by q ≡ shown_by r
shown_same g r q together =
    ap (λ output. seen output q.machine.ending) together.output ∙ ap (seen r.output) together.machine.ending
  where
    seen : List ℕ → Option Event → Observation
    seen output ending = record { output = output; ending = ending }

abbrev pub Any : {S : Type 0} → S → Type 0
Any s = Unit {0}

-- each line is answered by the same line at its other address
pub grouped : (d : Description) → SuitsCode d → (x : Flat) (homes : Bool) (frame : ℕ) (b c : ℕ → ℕ) →
    Grouped (marked_lines d x homes b) (lines_by_aim d x c) (λ k. k) (KeepsMarks d x homes frame b) Any (Near d)
grouped d suits x homes frame b c = record {
  rises = λ j k least. least;
  shows = λ k s q near. shown_same s.1 s.0 q near.together;
  ended = λ k s q place near fine done. tt;
  answers = λ k s q near fine on.
      let steps = place_steps d suits x homes frame b c k (slice_get x.lines k) s.0 s.1 q (record { together = near.together; sound = near.sound })
      (fine (no_ending s.0.machine.ending on)) in
      inl (record {
        at = k;
        last = q;
        comes = no_path (run_of (lines_by_aim d x c)) Any (k, q);
        low = omega arith;
        high = omega arith;
        runs = ap (λ seen. is_some seen.ending) (shown_same s.1 s.0 q near.together) ∙ on;
        shows = shown_same s.1 s.0 q near.together;
        nice = tt;
        moves = λ running. ap (arrival k) steps.goes;
        related = steps.near (arrival k ((marked_lines d x homes b).goes k s));
      });
}
