use Rattle.std.proofs.Common.{arith, ◌∙◌, ◌+◌, ◌*◌, List, ap, length, map, subst, sym}
use Rattle.qc_derivations.specs.declared.derivation.Binding.{Binding}
use Rattle.qc_derivations.specs.declared.derivation.Derivation.{out-Derivation}
use Rattle.qc_derivations.specs.Forest.{bound_by, children_in, children_under}
use Rattle.qc_derivations.specs.Machine.{machine_of}
use Rattle.qc_sequences.specs.declared.homes.Home.{Home}
use Rattle.qc_sequences.specs.Inner.Homes.{IsMade, home_slots, trees_in}
use Rattle.qc_sequences.specs.Law.Weights.{tree_weight, weight}
use Rattle.qc_sequences.proofs.Made.{homes_suffice, made_tree}
use Rattle.qc_sequences.proofs.lines.+lines.Goals as goal

pub tree_lines-trees_lines-requires : goal.tree_lines-trees_lines-requires
tree_lines-trees_lines-requires t c =
    let d = c.args.derivation.now in
    let flag = (out-Derivation d).flag in
    let whole = tree_weight d in
    let same = ap (λ (bs : List Binding). 5 * weight (children_in bs flag) + (length bs + 4)) c.as_slice-bindings.ensures in
    let enough =
    homes_suffice c.args.own flag (map bound_by (out-Derivation d).bindings) c.in_ok-row.row.homes c.in_ok-homes.homes
    c.in_ok-row.ensures.trees c.in_ok-homes.ensures in (
      omega (arith, c.decreases, whole, same),
      ap (λ (hs : List Home). length hs) c.as_slice-homes.ensures ∙ enough
          ∙ sym (ap (λ (bs : List Binding). trees_in (children_in bs flag)) c.as_slice-bindings.ensures),
    )

pub tree_lines-returns : goal.tree_lines-returns
tree_lines-returns t c =
    let m = machine_of c.args.descr.now in
    let d = c.args.derivation.now in
    let row = c.in_ok-row.row in
    let made = c.in_ok-made.made in
    let slice = c.as_slice-homes.result.now in
    let one =
    subst (λ (bs : List Binding). IsMade m (children_in bs (out-Derivation d).flag) (home_slots slice) row.next made)
    c.as_slice-bindings.ensures c.in_ok-made.ensures in
    let below =
    subst (λ (hs : List Home). IsMade m (children_under d) (home_slots hs) row.next made) c.as_slice-homes.ensures one in
    let both =
    made_tree m d c.args.own c.args.scratch (map bound_by (out-Derivation d).bindings) row c.in_ok-homes.homes made c.in_ok-row.ensures
    c.in_ok-homes.ensures below in
    record { lines = c.in_ok-push.ensures.ok ∙ both.0; next = both.1 }
