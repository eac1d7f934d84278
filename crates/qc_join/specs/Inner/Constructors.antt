-- Where the constructors stand among items, and what the tables of a text have.
use Rattle.std.specs.Prelude.{ℕ, suc, List, [], ◌∷◌, Option, None, Some}
use Rattle.qc_sled.specs.declared.syntax.Item.{Item}
use Rattle.qc_sled.specs.declared.syntax.Item.TheVariants.{Fields, Pattern, Constructor}
use Rattle.qc_join.specs.declared.sketches.ItemTables.{ItemTables}
use Rattle.qc_names.specs.ValueTables.{IsTableOf}
use Rattle.qc_join.specs.Expansion.{fields_of, patterns_of}
use Rattle.qc_join.specs.Joining.{ConstructorOf}

-- the places of the constructors among items, of which the first has this number
abbrev pub constructor_places : ℕ → List Item → List (List ℕ × ℕ)
constructor_places number [] = []
constructor_places number (Fields token name bits fields ∷ items) = constructor_places (suc number) items
constructor_places number (Pattern token name body ∷ items) = constructor_places (suc number) items
constructor_places number (Constructor token name params body ∷ items) =
    (name.text, number) ∷ constructor_places (suc number) items

-- the constructor that an item is, if there is one
abbrev pub constructor_of : Option Item → Option ConstructorOf
constructor_of None = None
constructor_of (Some (Fields token name bits fields)) = None
constructor_of (Some (Pattern token name body)) = None
constructor_of (Some (Constructor token name params body)) = Some (record { params = params; body = body })

-- The tables are those of the items' fields, patterns and constructors.
pub record AreTablesOf (tables : ItemTables) (items : List Item) : Type 0 where
  pub fields : IsTableOf (fields_of items) tables.fields.values tables.fields.numbers
  pub patterns : IsTableOf (patterns_of items) tables.patterns.values tables.patterns.numbers
  pub constructors : IsTableOf (constructor_places 0 items) tables.constructors.values tables.constructors.numbers
