-- A write to the row's Vec is a write to the list of rows that contracts see.
use Rattle.std.proofs.Common.{◌≡◌, ◌<◌, ◌∙◌, ℕ, length, List, [], slice_index_or, slice_set, sym, ap, arith, Vec, Global}
use Rattle.std.proofs.lemmas.List.{map-set, get_or-map, length-map}
use Rattle.std.specs.Vec.{with_item}
use Rattle.qc_terms.proofs.cells.Cells.write.Goals as goal

pub returns : goal.returns
returns c =
    let items : Vec ℕ Global → List ℕ = λ r. r.items in
    let rows = c.self.inside.rows.items in
    let row = c.index_mut-row.result.now in
    let within : c.args.space < length rows = omega (arith, length-map rows items, ap length c.self.view_is, c.requires.0) in
    let read : row.items ≡ slice_index_or c.args.self.now c.args.space [] =
    ap items c.index_mut-row.ensures.value ∙ sym (get_or-map items rows c.args.space row [] within)
    ∙ ap (λ xs. slice_index_or xs c.args.space []) c.self.view_is in
    map-set items rows c.args.space (with_item row c.args.index c.args.word)
    ∙ ap (λ xs. slice_set xs c.args.space (slice_set row.items c.args.index c.args.word)) c.self.view_is
    ∙ ap (λ xs. slice_set c.args.self.now c.args.space (slice_set xs c.args.index c.args.word)) read
