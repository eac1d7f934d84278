-- Symbol tables of functions and named effects while they are declared.
use Rattle.std.specs.Prelude.{ℕ, ◌≡◌, List, length, map, take, slice_get, Some}
use Rattle.std.specs.List.{flat_map}
use Rattle.qc_names.specs.Tables.{IsIndexOf}
use Rattle.qc_lrtl.specs.declared.syntax.Item.{Item}
use Rattle.qc_resolve.specs.Declarations.{function_name, function_items}

-- The functions and named effects have their numbers in a table.
pub record AreNumbered (items : List Item) (es : List (List ℕ × ℕ)) : Type 0 where
  pub index : IsIndexOf (map (λ n. n.text) (flat_map function_name items)) es
  pub count : length (flat_map function_name items) ≡ length items

-- The first items, so many, have their functions and named effects at these places, and their names in a table.
pub record HasFirst (items : List Item) (count : ℕ) (places : List ℕ) (es : List (List ℕ × ℕ)) : Type 0 where
  pub at : map (slice_get items) places ≡ map Some (function_items (take count items))
  pub numbered : AreNumbered (function_items (take count items)) es
