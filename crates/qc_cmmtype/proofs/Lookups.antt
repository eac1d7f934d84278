-- A loop that looks for the first pair of a name.
use Rattle.std.specs.Prelude.{ℕ, ◌+◌, ◌≡◌, ◌<◌, true, false, cond, List, ◌∷◌, length, drop, map, Option, Some}
use Rattle.std.specs.Str.{bytes_eq}
use Rattle.std.proofs.Common.{sym, ap, ◌∙◌, get_or}
use Rattle.std.proofs.lemmas.List.{at_drop_more}
use Rattle.qc_names.specs.Tables.{named}

-- what the rest of the pairs tells, by the next one
pub named_next : {A B : Type 0} (f : A → List ℕ × B) (xs : List A) (i : ℕ) (x : A) (name : List ℕ) → i < length xs
    → x ≡ get_or xs i x
    → named (map f (drop i xs)) name
    ≡ cond (bytes_eq name (f x).0) (Some (f x).1) (named (map f (drop (i + 1) xs)) name)
named_next f xs i x name within is =
    at_drop_more (λ ys. named (map f ys) name) xs i x within
    ∙ ap (λ y. named (map f (y ∷ drop (i + 1) xs)) name) (sym is)

-- the next one has the name
pub named_here : {A B : Type 0} (f : A → List ℕ × B) (xs : List A) (i : ℕ) (x : A) (name : List ℕ) (whole : Option B)
    → i < length xs → x ≡ get_or xs i x → named (map f (drop i xs)) name ≡ whole → bytes_eq name (f x).0 ≡ true
    → Some (f x).1 ≡ whole
named_here f xs i x name whole within is before same =
    sym (ap (λ b. cond b (Some (f x).1) (named (map f (drop (i + 1) xs)) name)) same)
    ∙ sym (named_next f xs i x name within is) ∙ before

-- the next one has another name
pub named_later : {A B : Type 0} (f : A → List ℕ × B) (xs : List A) (i : ℕ) (x : A) (name : List ℕ) (whole : Option B)
    → i < length xs → x ≡ get_or xs i x → named (map f (drop i xs)) name ≡ whole → bytes_eq name (f x).0 ≡ false
    → named (map f (drop (i + 1) xs)) name ≡ whole
named_later f xs i x name whole within is before other =
    sym (ap (λ b. cond b (Some (f x).1) (named (map f (drop (i + 1) xs)) name)) other)
    ∙ sym (named_next f xs i x name within is) ∙ before
