-- What is reported of a procedure, by what is reported of its parts.
use Rattle.std.specs.Prelude.{ℕ, ◌≡◌, List, [], ◌++◌, is_some, Option}
use Rattle.std.specs.List.{flat_map, fold}
use Rattle.std.proofs.Common.{◌∙◌, ap, sym, subst}
use Rattle.qc_cmm.specs.declared.syntax.Procedure.{Procedure}
use Rattle.qc_cmm.specs.declared.syntax.BodyItem.{BodyItem}
use Rattle.qc_names.specs.declared.seen.Seen.{Seen}
use Rattle.qc_names.specs.Seen.{noted_all, none_seen, texts_of}
use Rattle.qc_names.specs.Tables.{number_at, HasNames}
use Rattle.qc_names.specs.Law.Seen.{has_seen, seen_fault}
use Rattle.qc_names.specs.Law.Reported.{reported_three}
use Rattle.qc_cmmtype.specs.declared.faults.ProgramFault.{ProgramFault}
use Rattle.qc_cmmtype.specs.declared.faults.ProgramFault.TheVariants.{TwiceNamed}
use Rattle.qc_cmmtype.specs.declared.procedures.Locals.{Locals}
use Rattle.qc_cmmtype.specs.Faults.{token_of, rank_of, reported, reported_of_both}
use Rattle.qc_cmmtype.specs.Endings.{results_of}
use Rattle.qc_cmmtype.specs.Scopes.{Globals, Scope, label_of, label_names, locals_of, scope_in}
use Rattle.qc_cmmtype.specs.Statements.{body_faults}
use Rattle.qc_cmmtype.specs.Procedures.{declared_type_faults, end_faults, label_faults, local_faults, main_faults, procedure_faults}
use Rattle.qc_cmmtype.specs.Inner.Locals.{HasLocals, added, no_locals}
use Rattle.qc_cmmtype.specs.Tables.{looked_up}
use Rattle.qc_cmmtype.proofs.LocalTables.{locals_hold}
use Rattle.qc_cmmtype.proofs.ScopeTables.{tables_tell}

-- the names that tables tell
abbrev told_by : Globals → Locals → Seen ProgramFault → ℕ → Scope
told_by g l s results = record {
  globals = g;
  variable = looked_up l.variables.values l.variables.numbers;
  is_label = λ name. is_some (number_at s.names name);
  results = results;
}

pub procedure_told : (g : Globals) (p : Procedure) (l : Locals) (s : Seen ProgramFault) (results : ℕ) (items : List BodyItem)
    (body own : Option ProgramFault)
    → l ≡ fold (added g) no_locals (locals_of p) → s ≡ noted_all token_of rank_of TwiceNamed none_seen (flat_map label_of p.body)
    → items ≡ p.body → results ≡ results_of p.body → body ≡ reported (body_faults (told_by g l s results) items)
    → ((faults : List ProgramFault) → body ≡ reported faults
    → own ≡ reported (declared_type_faults g.word p ++ (main_faults p ++ (end_faults p ++ faults))))
    → reported_of_both l.fault (reported_of_both s.fault own) ≡ reported (procedure_faults g p)
unfolding procedure_faults
procedure_told g p l s results items body own l_is s_is items_are results_are body_is own_is =
    reported_three token_of rank_of (local_faults g [] (locals_of p)) (label_faults p)
    (declared_type_faults g.word p ++ (main_faults p ++ (end_faults p ++ body_faults (scope_in g p) p.body)))
    l.fault s.fault own held.fault
    (ap (λ seen. seen.fault) s_is ∙ seen_fault token_of rank_of TwiceNamed (label_names p))
    (own_is (body_faults (scope_in g p) p.body) body_told)
  where
    held : HasLocals g (locals_of p) l
    held = subst (HasLocals g (locals_of p)) (sym l_is) (locals_hold g (locals_of p))

    labels_held : HasNames s.names (texts_of (label_names p))
    labels_held = subst (λ seen. HasNames seen.names (texts_of (label_names p))) (sym s_is)
        (has_seen token_of rank_of TwiceNamed (label_names p))

    body_told : body ≡ reported (body_faults (scope_in g p) p.body)
    body_told =
        body_is ∙ ap (λ xs. reported (body_faults (told_by g l s results) xs)) items_are
        ∙ ap (λ r. reported (body_faults (told_by g l s r) p.body)) results_are
        ∙ ap (λ scope. reported (body_faults scope p.body))
        (tables_tell g p l.variables.values l.variables.numbers s.names held.table labels_held)
