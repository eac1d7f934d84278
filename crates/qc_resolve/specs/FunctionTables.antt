-- Symbol tables of functions and named effects.
use Rattle.std.specs.Prelude.{ℕ, ◌≡◌, List, map, slice_get, Some}
use Rattle.qc_names.specs.Tables.{number_at}
use Rattle.qc_lrtl.specs.declared.syntax.Item.{Item}
use Rattle.qc_resolve.specs.declared.functions.Functions.{Functions}
use Rattle.qc_resolve.specs.Declarations.{function_items, place_of_function}

-- The table has the functions and named effects that these items declare, in order, and of each name the first.
pub record IsTableOf (items : List Item) (functions : Functions) : Type 0 where
  pub declared : map (slice_get items) functions.declared ≡ map Some (function_items items)
  pub places : (name : List ℕ) → number_at functions.numbers name ≡ place_of_function items name
