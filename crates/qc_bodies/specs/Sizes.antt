-- How many nodes an expression has once it is written out, as numbers that stop above the limit of a register transfer list.
use Rattle.std.specs.Prelude.{ℕ, ◌≡◌, ◌+◌, ◌*◌, min, List, [], ◌∷◌}
use Rattle.std.specs.List.{AllZip}
use Rattle.qc_bodies.specs.declared.sizes.Form.{Form}
use Rattle.qc_bodies.specs.Meanings.{Algebra, Meaning}

abbrev pub added : List ℕ → ℕ
added [] = 0
added (n ∷ ns) = n + added ns

-- an expression as the number of its nodes
abbrev pub sizes : Algebra ℕ
sizes = record {
  leaf = λ token leaf width. 1;
  absent = λ token. 1;
  wrap = λ token wrap width n. 1 + n;
  operate = λ token op ns. 1 + added ns;
}

-- all numbers above 4,096 are told as 4,097
abbrev pub stopped : ℕ → ℕ
stopped n = min n 4097

-- What so many of each argument come to; an argument that is wanting is one node.
abbrev pub weighed : List ℕ → List ℕ → ℕ
weighed [] ns = 0
weighed (count ∷ counts) [] = count + weighed counts []
weighed (count ∷ counts) (n ∷ ns) = count * n + weighed counts ns

-- the size at arguments of these sizes
abbrev pub size_at : Form → List ℕ → ℕ
size_at form ns = form.base + weighed form.counts ns

-- a form tells the size of a use
abbrev pub IsForm : Form → Meaning ℕ → Type 0
IsForm form m = (ns : List ℕ) → stopped (m.value [] ns) ≡ stopped (size_at form ns)

abbrev pub AreForms : List Form → List (Meaning ℕ) → Type 0
AreForms forms ms = AllZip IsForm forms ms
