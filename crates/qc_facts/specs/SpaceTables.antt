-- Symbol tables of spaces.
use Rattle.std.specs.Prelude.{ℕ, ◌<◌, ◌≤◌, ◌^◌, All, List, length, map}
use Rattle.qc_names.specs.Tables.{IsIndexOf}
use Rattle.qc_facts.specs.declared.facts.SpaceFacts.{SpaceFacts}

-- The spaces have their places in a table. The place of each and the number of each of its cells fit their types.
pub record HasTable (spaces : List SpaceFacts) (es : List (List ℕ × ℕ)) : Type 0 where
  pub index : IsIndexOf (map (λ s. s.name) spaces) es
  pub few : length spaces < 2 ^ 32
  pub small : All (λ s. s.cells ≤ 2 ^ 64) spaces
