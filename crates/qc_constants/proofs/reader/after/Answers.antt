use Rattle.std.proofs.Common.{◌≡◌, ◌++◌, List, ℕ, false, true, drop, length, take, ap, sym, ◌∙◌, Bor, nat_eq, ◌+◌}
use Rattle.std.specs.Prelude.{Option, None, Some, IfSome, IsNone, MatchOption}
use lib.Pointwise.{pointwise}
use Rattle.qc_constants.proofs.Fronts.{strips, begins}
use Rattle.qc_constants.proofs.reader.after.Goals as goal

-- what `strip_prefix` tells of a front
stripped : (bytes front : List ℕ) (r : Option (Bor (List ℕ))) → MatchOption r (pointwise nat_eq (take (length front) bytes) front ≡ false) (λ x. (pointwise nat_eq (take (length front) bytes) front ≡ true) × (x.now ≡ drop (length front) bytes) × (length x.now + length front ≡ length bytes)) → IfSome r (λ x. bytes ≡ front ++ x.now)
stripped bytes front None h = tt
stripped bytes front (Some x) h = strips bytes front h.0 ∙ ap (λ rest. front ++ rest) (sym h.1)

refused : (bytes front : List ℕ) (r : Option (Bor (List ℕ))) → MatchOption r (pointwise nat_eq (take (length front) bytes) front ≡ false) (λ x. (pointwise nat_eq (take (length front) bytes) front ≡ true) × (x.now ≡ drop (length front) bytes) × (length x.now + length front ≡ length bytes)) → IsNone r → (rest : List ℕ) → bytes ≡ front ++ rest → ⊥
refused bytes front None h none rest e = cc (h, begins front rest, ap (λ xs. pointwise nat_eq (take (length front) xs) front) e)
refused bytes front (Some x) h none rest e = cc none

pub returns-clause-some : goal.returns-clause-some
returns-clause-some c = stripped _ _ _ c.strip_prefix.ensures.cases

pub returns-clause-none : goal.returns-clause-none
returns-clause-none c = refused _ _ _ c.strip_prefix.ensures.cases
