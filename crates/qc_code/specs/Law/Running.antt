-- Runs of register transfer lists one after another.
use Rattle.std.proofs.Common.{◌≡◌, ◌∙◌, ℕ, suc, ◌+◌, List, [], ◌∷◌, ◌++◌, length, Some, refl, ap, arith}
use Rattle.qc_terms.specs.declared.state.Event.{Event}
use Rattle.qc_descr.specs.declared.description.Description.{Description}
use Rattle.qc_descr.specs.Step.{Progress}
use Rattle.qc_tiles.specs.declared.tile.Tile.{Tile}
use Rattle.qc_code.specs.Running.{Transfer, goes_on, run_of}
use Rattle.qc_code.specs.Setting.{Line, Setting, transfer_of, transfers_from}

pub run_of-append : (xs ys : List Transfer) (p : Progress) → run_of (xs ++ ys) p ≡ run_of ys (run_of xs p)
run_of-append [] ys p = refl
run_of-append (x ∷ xs) ys p = run_of-append xs ys (goes_on p.state.ending x p)

-- a run that has ended stays
pub run_of-ended : (xs : List Transfer) (p : Progress) (event : Event) → p.state.ending ≡ Some event → run_of xs p ≡ p
run_of-ended [] p event ended = refl
run_of-ended (x ∷ xs) p event ended =
    ap (λ ending. run_of xs (goes_on ending x p)) ended ∙ run_of-ended xs p event ended

pub transfers_from-append : (d : Description) (t : Tile) (e : Setting) (k : ℕ) (xs ys : List Line) →
    transfers_from d t e k (xs ++ ys) ≡ transfers_from d t e k xs ++ transfers_from d t e (k + length xs) ys
transfers_from-append d t e k [] ys = ap (λ n. transfers_from d t e n ys) (omega arith)
transfers_from-append d t e k (x ∷ xs) ys =
    ap (λ rest. transfer_of d t e (e.next k) x ∷ rest)
    (transfers_from-append d t e (suc k) xs ys
    ∙ ap (λ n. transfers_from d t e (suc k) xs ++ transfers_from d t e n ys) (let same : suc k + length xs ≡ k + length (x ∷ xs) = omega arith in same))
