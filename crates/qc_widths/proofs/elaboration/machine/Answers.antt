use Rattle.std.specs.Prelude.{◌≡◌, List, map}
use Rattle.std.specs.List.{flat_map, list_all}
use Rattle.std.proofs.Common.{refl, ap, ◌∙◌}
use Rattle.qc_widths.specs.GivenFacts.{given_in}
use Rattle.qc_lrtl.specs.declared.syntax.Item.{Item}
use Rattle.qc_widths.specs.declared.machine.Machine.{Machine}
use Rattle.qc_facts.specs.Facts.{facts_in}
use Rattle.qc_resolve.specs.Declarations.{meanings_in}
use Rattle.qc_widths.specs.Machine.{space_of, operation_of_item}
use Rattle.qc_widths.specs.Inner.Elaboration.{operations_in}
use Rattle.qc_widths.specs.Inner.Given.{has_small_cells, is_small_space}
use Rattle.qc_widths.proofs.NoFault.{no-fault, cells-fit, spaces-fit}
use Rattle.qc_widths.proofs.elaboration.machine.Goals as goal

pub given-requires-clause-cells : goal.given-requires-clause-cells
given-requires-clause-cells c =
    ap (list_all has_small_cells) c.as_slice-2.ensures
    ∙ cells-fit c.args.raw.now.items (no-fault c.args.raw.now c.requires.fault)

pub spaces_given-requires : goal.spaces_given-requires
spaces_given-requires c =
    ap (λ f. list_all is_small_space f.spaces) c.requires.facts
    ∙ spaces-fit c.args.raw.now.items (no-fault c.args.raw.now c.requires.fault)

same_machine : (m n : Machine) → m.name ≡ n.name → m.given ≡ n.given → m.spaces ≡ n.spaces →
    m.operations ≡ n.operations → m ≡ n
same_machine m n name given spaces operations =
    λ i. record { name = name i; given = given i; spaces = spaces i; operations = operations i }

machine_operations : (items : List Item) → operations_in items
    ≡ flat_map (operation_of_item (facts_in items) (meanings_in (facts_in items) items)) items
unfolding operations_in
machine_operations items = refl

pub returns : goal.returns
returns c =
    same_machine _ _ (c.in_ok-new.ensures ∙ c.as_slice.ensures) (c.given.ensures ∙ ap given_in c.as_slice-2.ensures)
    (c.in_ok-spaces_given.ensures ∙ ap (λ f. map space_of f.spaces) c.requires.facts)
    (c.requires.operations ∙ machine_operations c.args.raw.now.items)
