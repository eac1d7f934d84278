-- The tables of a procedure say what its names stand for.
use Rattle.std.specs.Prelude.{ℕ, ◌≡◌, List, is_some}
use Rattle.std.proofs.Common.{◌∙◌}
use Rattle.qc_cmm.specs.declared.syntax.Procedure.{Procedure}
use Rattle.qc_names.specs.Tables.{number_at, HasNames}
use Rattle.qc_names.specs.Seen.{texts_of}
use Rattle.qc_names.specs.ValueTables.{IsTableOf}
use Rattle.qc_names.specs.Law.Tables.{names-any}
use Rattle.qc_cmmtype.specs.Endings.{results_of}
use Rattle.qc_cmmtype.specs.Scopes.{Globals, named_widths, locals_of, label_names, scope_in}
use Rattle.qc_cmmtype.specs.Tables.{looked_up}
use Rattle.qc_cmmtype.proofs.LocalTables.{table_tells}

pub tables_tell : (g : Globals) (p : Procedure) (values : List ℕ) (numbers labels : List (List ℕ × ℕ))
    → IsTableOf (named_widths (locals_of p)) values numbers → HasNames labels (texts_of (label_names p))
    → record {
      globals = g;
      variable = looked_up values numbers;
      is_label = λ name. is_some (number_at labels name);
      results = results_of p.body;
    } ≡ scope_in g p
tables_tell g p values numbers labels is has = λ i. record {
  globals = g;
  variable = λ name. table_tells (named_widths (locals_of p)) values numbers name is i;
  is_label = λ name. (names-any labels name ∙ has.same name) i;
  results = results_of p.body;
}
