use Rattle.std.specs.Prelude.{[]}
use Rattle.std.specs.List.{flat_map}
use Rattle.std.proofs.Common.{ap, sym, ◌∙◌, subst}
use Rattle.qc_names.specs.Seen.{texts_of}
use Rattle.qc_names.specs.Law.Tables.{same_names}
use Rattle.qc_names.specs.Law.Seen.{has_seen, seen_fault}
use Rattle.qc_join.specs.declared.faults.NameFault.TheVariants.{Twice}
use Rattle.qc_names.specs.Tables.{names_in, HasNames}
use Rattle.qc_join.specs.Faults.{reported, token_of, rank_of}
use Rattle.qc_join.specs.Names.{field_names}
use Rattle.qc_names.specs.Law.Reported.{reported_two}
use Rattle.qc_join.proofs.SameFaults.{items_same}
use Rattle.qc_join.proofs.name_faults.fault_of_items.Goals as goal

pub repeat_fault-requires : goal.repeat_fault-requires
repeat_fault-requires c =
    ap (λ s. s.fault) c.in_ok-fields.ensures ∙ seen_fault token_of rank_of Twice (flat_map field_names c.args.items.now)

pub returns : goal.returns
returns c =
    let fields : HasNames c.in_ok-fields.fields.names (texts_of (flat_map field_names c.args.items.now)) =
    subst (λ s. HasNames s.names (texts_of (flat_map field_names c.args.items.now))) (sym c.in_ok-fields.ensures)
    (has_seen token_of rank_of Twice (flat_map field_names c.args.items.now)) in
    c.earlier.ensures
    ∙ reported_two token_of rank_of _ _ c.in_ok-repeated.repeated c.in_ok-uses.uses c.in_ok-repeated.ensures
    (c.in_ok-uses.ensures
    ∙ ap reported (items_same (names_in c.args.operations.now) (names_in c.args.operations.now)
    (names_in c.in_ok-fields.fields.names) (texts_of (flat_map field_names c.args.items.now))
    (same_names (names_in c.args.operations.now)) fields [] [] (same_names []) c.args.items.now))
