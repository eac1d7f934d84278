use Rattle.std.specs.Prelude.{[], map, ◌++◌}
use Rattle.std.specs.Str.{bytes_eq}
use Rattle.std.specs.List.{flat_map}
use Rattle.std.proofs.Common.{ap, ◌∙◌}
use Rattle.qc_names.specs.Seen.{texts_of}
use Rattle.qc_names.specs.Law.Tables.{same_names}
use Rattle.qc_names.specs.Tables.{names_in}
use Rattle.qc_join.specs.Faults.{reported, token_of, rank_of}
use Rattle.qc_join.specs.Names.{field_names, repeats, items_faults, unknown_unless}
use Rattle.qc_names.specs.Law.Reported.{reported_two}
use Rattle.qc_join.proofs.SameFaults.{items_same}
use Rattle.qc_join.proofs.name_faults.name_fault.Goals as goal

pub returns : goal.returns
returns c =
    let items = c.args.raw.now.items in
    let fields = texts_of (flat_map field_names items) in
    c.earlier.ensures
    ∙ reported_two token_of rank_of _ _ c.known_or-own.result c.in_ok-items.items
    (c.known_or-own.ensures ∙ ap (λ b. reported (unknown_unless b c.args.raw.now.name.token))
    (c.eq.ensures ∙ ap (λ t. bytes_eq t c.args.machine.now) c.as_slice-2.ensures))
    (c.in_ok-items.ensures
    ∙ ap (λ xs. reported (repeats xs
    ++ items_faults (names_in c.in_ok-known.known) (texts_of (flat_map field_names xs)) [] xs)) c.as_slice.ensures
    ∙ ap (λ fs. reported (repeats items ++ fs)) (items_same (names_in c.in_ok-known.known)
    (map (λ o. o.name) c.args.operations.now) fields fields c.in_ok-known.ensures (same_names fields)
    [] [] (same_names []) items))
