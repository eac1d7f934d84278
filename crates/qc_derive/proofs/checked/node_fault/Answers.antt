use Rattle.std.proofs.Common.{subst, sym}
use Rattle.qc_descr.specs.Description.{context_of_description}
use Rattle.qc_nodes.specs.Needs.{NeedHasWidths}
use Rattle.qc_derive.proofs.Tiles.{typed_fits}
use Rattle.qc_derive.proofs.checked.node_fault.Goals as goal

pub tree-requires : goal.tree-requires
tree-requires c =
    subst NeedHasWidths (sym c.in_ok-need.ensures)
    (typed_fits (context_of_description c.args.descr.now) c.args.tile.now.rtl.effects c.requires.typed)
