-- What is added to a form while an expression is weighed.
use Rattle.std.specs.Prelude.{ℕ, ◌≡◌, ◌+◌, List}
use Rattle.qc_bodies.specs.declared.sizes.Form.{Form}
use Rattle.qc_bodies.specs.Meanings.{Meaning}
use Rattle.qc_bodies.specs.Sizes.{AreForms, size_at, stopped}

-- The size at any arguments grows by so much, up to the limit.
abbrev pub Grows : List Form → Form → Form → (List (Meaning ℕ) → List ℕ → ℕ) → Type 0
Grows forms old new by = (ms : List (Meaning ℕ)) → AreForms forms ms → (ns : List ℕ)
    → stopped (size_at new ns) ≡ stopped (size_at old ns + by ms ns)
