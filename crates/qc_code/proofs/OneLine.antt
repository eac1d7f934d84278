-- Templates of one line.
use Rattle.std.proofs.Common.{◌≡◌, ◌∙◌, ℕ, suc, ◌<◌, List, [], ◌∷◌, ◌++◌, length, map, take, ◌-◌, ◌⊎◌, IsSome, true, refl, sym, ap, subst, arith}
use Rattle.std.specs.List.{list_any}
use Rattle.std.proofs.lemmas.List.{append-nil, append_assoc}
use Rattle.std.proofs.Math.Bool.{or-true}
use Rattle.qc_terms.specs.declared.state.State.{State}
use Rattle.qc_terms.specs.Effects.{Outcome, outcome_of}
use Rattle.qc_descr.specs.declared.description.Description.{Description}
use Rattle.qc_descr.specs.Step.{Progress}
use Rattle.qc_tiles.specs.declared.tile.Tile.{Tile}
use Rattle.qc_tiles.specs.Sound.{facts_of, kinds_of_tile}
use Rattle.qc_code.specs.declared.template.Template.{Template}
use Rattle.qc_code.specs.Accesses.{Access, AccessesAsTile, accesses_from, accesses_of, accesses_of_run, are_inside, is_inside}
use Rattle.qc_code.specs.Running.{Transfer, goes_on, run_of, with_outcome}
use Rattle.qc_code.specs.Setting.{AreOperandsOf, IsSetting, Line, Setting, line_rtl, slot_value, transfers_from}
use Rattle.qc_code.specs.TileHolds.{DoesAs, IsKept, TileHolds}
use Rattle.qc_code.specs.Law.Same.{same_on-refl}

-- the line has the tile's operands in their order
abbrev pub HasTileOperands : Description → Tile → Line → Type 0
HasTileOperands d t line =
    (row : ℕ) (e : Setting) → AreOperandsOf d row (kinds_of_tile (facts_of d) t) e.operands → map (slot_value t e) line.1 ≡ e.operands

abbrev pub begun : State → Progress
begun s = record { state = s; output = [] }

-- the line does what the tile does
line_does : (d : Description) (t : Tile) (line : Line) (row lines scratches : ℕ) (e : Setting) → line_rtl d line ≡ t.rtl → HasTileOperands d t line →
    IsSetting d t scratches lines row e →
    transfers_from d t e 0 (line ∷ []) ≡ record { rtl = t.rtl; operands = e.operands; after = e.next 0 } ∷ []
line_does d t line row lines scratches e same operands setting =
    ap (λ rtl. record { rtl = rtl; operands = map (slot_value t e) line.1; after = e.next 0 } ∷ []) same
    ∙ ap (λ xs. record { rtl = t.rtl; operands = xs; after = e.next 0 } ∷ []) (operands row e setting.operands)

does_itself : (d : Description) (scratches : ℕ) (e : Setting) (s : State) (o : Outcome) → DoesAs d scratches e o (with_outcome (begun s) o)
does_itself d scratches e s o = record {
  state = same_on-refl (IsKept d scratches e) o.state;
  pc = λ running. refl;
  output = refl;
}

pub one_line : (d : Description) (t : Tile) (x : Template) (line : Line) → x.instances ≡ line ∷ [] → line_rtl d line ≡ t.rtl →
    HasTileOperands d t line → TileHolds d t x
one_line d t x line is same operands row e s setting wide running =
    let tiles : Transfer = record { rtl = t.rtl; operands = e.operands; after = e.next 0 } in
    let Holds : List Line → List Transfer → Type 0 = λ lines ts.
    DoesAs d x.scratches e (outcome_of t.rtl e.operands (e.next (length lines - 1)) s) (run_of ts (begun s))
    × ((k : ℕ) → suc k < length lines → IsSome (run_of (take (suc k) ts) (begun s)).state.ending ⊎ ((run_of (take (suc k) ts) (begun s)).state.pc ≡ e.next k)) in
    let alone : Holds (line ∷ []) (tiles ∷ []) = (
      subst (λ ending. DoesAs d x.scratches e (outcome_of t.rtl e.operands (e.next 0) s) (goes_on ending tiles (begun s))) (sym running)
          (does_itself d x.scratches e s (outcome_of t.rtl e.operands (e.next 0) s)),
      λ k below. absurd (omega (arith, below)),
    ) in
    subst (λ lines. Holds lines (transfers_from d t e 0 lines)) (sym is)
    (subst (Holds (line ∷ [])) (sym (line_does d t line row (length x.instances) x.scratches e same operands setting)) alone)

-- ---- accesses

inside_itself : (a : Access) → is_inside a a ≡ true
inside_itself a = grind arith

among : (a : Access) (xs ys : List Access) → list_any (is_inside a) (xs ++ a ∷ ys) ≡ true
among a [] ys = rw (inside_itself a) refl
among a (x ∷ xs) ys = rw (among a xs ys) (or-true (is_inside a x))

-- of two lists one after the other, each of the second is inside one of both
all_inside : (xs ys : List Access) → are_inside (xs ++ ys) ys ≡ true
all_inside xs [] = refl
all_inside xs (a ∷ ys) =
    rw (among a xs ys)
    (subst (λ whole. are_inside whole ys ≡ true) (append_assoc xs (a ∷ []) ys) (all_inside (xs ++ a ∷ []) ys))

pub one_line_accesses : (d : Description) (t : Tile) (x : Template) (line : Line) → x.instances ≡ line ∷ [] → line_rtl d line ≡ t.rtl →
    HasTileOperands d t line → AccessesAsTile d t x
one_line_accesses d t x line is same operands row e s setting wide running =
    let tiles : Transfer = record { rtl = t.rtl; operands = e.operands; after = e.next 0 } in
    let Inside : List Line → List Transfer → Type 0 = λ lines ts.
    are_inside (accesses_of t.rtl.effects e.operands (e.next (length lines - 1)) s) (accesses_of_run ts (begun s)) ≡ true in
    let whole : List Access = accesses_of t.rtl.effects e.operands (e.next 0) s in
    let alone : Inside (line ∷ []) (tiles ∷ []) =
    subst (λ ending. are_inside whole (accesses_from ending tiles (begun s) ++ []) ≡ true) (sym running)
    (subst (λ accesses. are_inside whole accesses ≡ true) (sym (append-nil whole)) (all_inside [] whole)) in
    subst (λ lines. Inside lines (transfers_from d t e 0 lines)) (sym is)
    (subst (Inside (line ∷ [])) (sym (line_does d t line row (length x.instances) x.scratches e same operands setting)) alone)
