-- A template is gone through line by line where each line but the last writes scratches, flags and the zero cell alone.
use Rattle.std.proofs.Common.{◌≡◌, ℕ, zero, suc, ◌+◌, ◌<◌, List, [], ◌∷◌, length, take, Bool, true, false, ◌&&◌, ◌||◌, Option, None, Some, IsSome, ◌⊎◌, inl, inr, refl, subst, arith}
use Rattle.std.specs.List.{list_all}
use Rattle.std.proofs.lemmas.Bool.{and_parts}
use Rattle.qc_terms.specs.declared.state.Event.{Event}
use Rattle.qc_terms.specs.declared.state.State.{State}
use Rattle.qc_terms.specs.declared.term.Dest.{Dest}
use Rattle.qc_terms.specs.declared.term.Dest.TheVariants as dest
use Rattle.qc_terms.specs.declared.term.Effect.{Effect}
use Rattle.qc_terms.specs.declared.term.Place.{Place}
use Rattle.qc_descr.specs.declared.description.Description.{Description}
use Rattle.qc_descr.specs.Step.{Progress}
use Rattle.qc_tiles.specs.declared.tile.Tile.{Tile}
use Rattle.qc_code.specs.declared.template.Template.{Template}
use Rattle.qc_code.specs.Registers.{WritesAsTile, is_of_tile, writes_as_tile}
use Rattle.qc_code.specs.Running.{Transfer, goes_on, run_of}
use Rattle.qc_code.specs.Setting.{Line, Setting, line_rtl, transfer_of, transfers_from}
use Rattle.qc_code.specs.TileHolds.{GoesThrough}
use Rattle.qc_code.specs.Work.{Named, Work, all_lines, goes_to, is_inner, line_work}
use Rattle.qc_code.specs.Law.Quiet.{WritesRegisters, is_register, registers_pass}

-- ---- one line

-- what goes to a place goes to a register
goes_is_register : (test : Named → Bool) (named : Place → Named) (to : Dest) → goes_to test named to ≡ true → is_register to ≡ true
goes_is_register test named (dest.Reg place) goes = refl
goes_is_register test named (dest.Mem width address) goes = absurd (cc goes)
goes_is_register test named dest.Pc goes = absurd (cc goes)
goes_is_register test named dest.Out goes = absurd (cc goes)
goes_is_register test named dest.Halt goes = absurd (cc goes)
goes_is_register test named dest.Trap goes = absurd (cc goes)

or_false_left : (a b : Bool) → (a || (false && b)) ≡ true → a ≡ true
or_false_left true b e = refl
or_false_left false b e = e

inner_are_registers : (d : Description) (t : Tile) (w : Work) (es : List Effect) →
    list_all (λ e. goes_to (is_inner d) w.place e.to || (false && is_of_tile t w e)) es ≡ true → WritesRegisters es
inner_are_registers d t w [] all = tt
inner_are_registers d t w (e ∷ es) all =
    let parts = and_parts (goes_to (is_inner d) w.place e.to || (false && is_of_tile t w e)) (list_all (λ e. goes_to (is_inner d) w.place e.to || (false && is_of_tile t w e)) es) all in (
      goes_is_register (is_inner d) w.place e.to (or_false_left (goes_to (is_inner d) w.place e.to) (is_of_tile t w e) parts.0),
      inner_are_registers d t w es parts.1,
    )

-- a line that writes registers alone has ended, or is at the address after it
at_next : (d : Description) (t : Tile) (e : Setting) (after : ℕ) (line : Line) (p : Progress) (ending : Option Event) → p.state.ending ≡ ending →
    WritesRegisters (line_rtl d line).effects →
    let q = goes_on ending (transfer_of d t e after line) p in IsSome q.state.ending ⊎ (q.state.pc ≡ after)
at_next d t e after line p (Some event) is are = inl (rw is refl)
at_next d t e after line p None is are =
    let x : Transfer = transfer_of d t e after line in
    elim (registers_pass x.rtl x.operands after p.state are) [
      | inl trap ↦ inl (rw (trap.1) refl)
      | inr pass ↦ inr pass.state.pc
    ]

-- ---- lines

-- after each line but the last
pub goes_through_from : (d : Description) (t : Tile) (e : Setting) (j : ℕ) (lines : List Line) (p : Progress) (k : ℕ) → suc k < length lines →
    all_lines (writes_as_tile d t) lines ≡ true →
    let q = run_of (take (suc k) (transfers_from d t e j lines)) p in IsSome q.state.ending ⊎ (q.state.pc ≡ e.next (j + k))
goes_through_from d t e j [] p k below all = absurd (omega (arith, below))
goes_through_from d t e j (line ∷ []) p k below all = absurd (omega (arith, below))
goes_through_from d t e j (line ∷ second ∷ lines) p zero below all =
    let w : Work = line_work d line in
    let parts = and_parts (writes_as_tile d t false line) (all_lines (writes_as_tile d t) (second ∷ lines)) all in
    subst (λ n. let q = goes_on p.state.ending (transfer_of d t e (e.next j) line) p in IsSome q.state.ending ⊎ (q.state.pc ≡ e.next n))
    (let same : j ≡ j + 0 = omega arith in same)
    (at_next d t e (e.next j) line p p.state.ending refl (inner_are_registers d t w w.effects parts.0))
goes_through_from d t e j (line ∷ second ∷ lines) p (suc k) below all =
    let parts = and_parts (writes_as_tile d t false line) (all_lines (writes_as_tile d t) (second ∷ lines)) all in
    let q : Progress = goes_on p.state.ending (transfer_of d t e (e.next j) line) p in
    subst (λ n. let r = run_of (take (suc k) (transfers_from d t e (suc j) (second ∷ lines))) q in IsSome r.state.ending ⊎ (r.state.pc ≡ e.next n))
    (let same : suc j + k ≡ j + suc k = omega arith in same)
    (goes_through_from d t e (suc j) (second ∷ lines) q k (omega (arith, below)) parts.1)

-- where no line but the last writes more than scratches, flags and the zero cell
pub writes_go_through : (d : Description) (t : Tile) (x : Template) (e : Setting) (s : State) → WritesAsTile d t x → GoesThrough d t x e s
writes_go_through d t x e s writes k below =
    subst (λ n. let q = run_of (take (suc k) (transfers_from d t e 0 x.instances)) (record { state = s; output = [] }) in
    IsSome q.state.ending ⊎ (q.state.pc ≡ e.next n))
    (let same : 0 + k ≡ k = omega arith in same)
    (goes_through_from d t e 0 x.instances (record { state = s; output = [] }) k below writes)
