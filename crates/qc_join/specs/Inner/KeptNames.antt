-- The names of each kind, and those that a pattern may use by the tables in which they are kept.
use Rattle.std.specs.Prelude.{ℕ, List, [], ◌++◌, map}
use Rattle.qc_grammar.specs.declared.cursor.Ident.{Ident}
use Rattle.qc_sled.specs.declared.syntax.Item.{Item}
use Rattle.qc_sled.specs.declared.syntax.Param.{Param}
use Rattle.qc_sled.specs.declared.syntax.Pattern as tree
use Rattle.qc_names.specs.declared.seen.Seen.{Seen}
use Rattle.qc_names.specs.Seen as seen
use Rattle.qc_names.specs.Tables.{is_among, names_in}
use Rattle.qc_join.specs.declared.faults.NameFault.{NameFault}
use Rattle.qc_join.specs.declared.faults.NameFault.TheVariants.{Twice}
use Rattle.qc_join.specs.declared.names.Tables as tables
use Rattle.qc_join.specs.declared.seen.Kind.{Kind}
use Rattle.qc_join.specs.declared.seen.Kind.TheVariants.{Token, Field, Pattern, Constructor}
use Rattle.qc_join.specs.Faults.{token_of, rank_of}
use Rattle.qc_join.specs.Names.{Names, unknown_unless, second_names, pattern_faults, token_names, field_names, pattern_names, constructor_names}

-- the names that a pattern may use, by the tables in which they are looked up
abbrev pub names_at : tables.Tables → Names
names_at t = record {
  fields = names_in t.fields.now;
  patterns = names_in t.patterns.now;
  operands = names_in t.operands.now;
}

-- the names of one kind that an item declares
abbrev pub names_of : Kind → Item → List Ident
names_of Token = token_names
names_of Field = field_names
names_of Pattern = pattern_names
names_of Constructor = constructor_names

-- what was seen after more names
abbrev pub noted_all : Seen NameFault → List Ident → Seen NameFault
noted_all = seen.noted_all token_of rank_of Twice

-- the faults of a constructor whose body may use these names, which is to have an operation's name
abbrev pub constructor_faults : List (List ℕ) → Names → Ident → List Param → tree.Pattern → List NameFault
constructor_faults operations names name params body =
    unknown_unless (is_among operations name.text) name.token
    ++ (second_names [] (map (λ p. p.name) params) ++ pattern_faults body names)
