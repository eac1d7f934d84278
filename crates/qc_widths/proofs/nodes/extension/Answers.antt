use Rattle.std.proofs.Common.{refl}
use Rattle.qc_facts.specs.Values as values
use Rattle.qc_widths.proofs.Building.{at_place}
use Rattle.qc_widths.proofs.nodes.extension.Goals as goal

pub returns : goal.returns
returns c = λ spec is.
    let to = c.width_in-to.result in
    let node = c.made.ensures spec to (values.excess spec.token spec.width to) is
    (λ small. (refl, at_place (λ t w. values.excess t w to) _ _ _ _ _ (c.place_of-start.ensures spec is small) c.excess.ensures)) in
    rw (c.extension_to-op.ensures, c.bits_of.ensures, c.has_width.ensures, c.width_in-to.ensures) at node
