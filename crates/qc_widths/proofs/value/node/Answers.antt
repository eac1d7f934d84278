use Rattle.std.proofs.Common.{ap, sym, ◌∙◌, ◌≡◌, ◌≤◌, false, ◌&&◌}
use Rattle.qc_terms.specs.Tree.{tree_of, nodes_of}
use Rattle.qc_facts.specs.Numbers.{is_empty}
use Rattle.qc_widths.proofs.Seen.{sound_node, faulty_node, unsound}
use Rattle.qc_widths.proofs.value.node.Goals as goal
use Rattle.qc_widths.proofs.value.node.Goals.{in_default-via-in-None+else-sound, in_default-via-in_default}

pub returns-in-None : goal.returns-in-None
returns-in-None c = λ inner own counted bounded i o.
    let b = c.args.built in
    let small : nodes_of (tree_of b.term) ≤ 4096 = rw (← counted) bounded in
    let k = sound_node b.token b.term b.width b.sound inner own small c.if-sound.true (sym c.in-None.is ∙ o) in
    cc

pub returns-in_default : goal.returns-in_default
returns-in_default c = λ inner own counted bounded i o.
    let b = c.args.built in
    let small : nodes_of (tree_of b.term) ≤ 4096 = rw (← counted) bounded in
    let e : (b.sound && is_empty own) ≡ false = elim c.in_default.branch [
      | in_default-via-in-None+else-sound w ↦ ap (λ s. s && is_empty own) w.if-sound.false
      | in_default-via-in_default w ↦ unsound b.sound own w.in_default.field-0 (sym w.in_default.is ∙ o)
    ] in
    let k = faulty_node b.token b.term b.width b.sound inner own small e in
    cc
