-- Lists of entries without a template.
use Rattle.std.proofs.Common.{◌≡◌, ℕ, zero, suc, List, [], ◌∷◌, ◌++◌, slice_get, Option, None, Some}
use Rattle.qc_code.specs.declared.template.Template.{Template}

abbrev pub AreNone : List (Option Template) → Type 0
AreNone xs = (place : ℕ) (x : Template) → slice_get xs place ≡ Some (Some x) → ⊥

pub none_at_first : AreNone []
none_at_first place x e = absurd (let no : None ≡ Some (Some x) = e in cc no)

pub one_more : (xs : List (Option Template)) → AreNone xs → AreNone (xs ++ None ∷ [])
one_more [] none zero x e = absurd (let no : Some None ≡ Some (Some x) = e in cc no)
one_more [] none (suc place) x e = absurd (let no : None ≡ Some (Some x) = e in cc no)
one_more (y ∷ ys) none zero x e = none zero x e
one_more (y ∷ ys) none (suc place) x e = one_more ys (λ p. none (suc p)) place x e
