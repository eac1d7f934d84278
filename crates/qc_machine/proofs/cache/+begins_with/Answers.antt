use Rattle.std.proofs.Common.{◌≡◌, ◌++◌, [], ap, sym, arith}
use Rattle.std.proofs.lemmas.List.{nil_from_length}
use Rattle.qc_machine.proofs.cache.+begins_with.Goals as goal

pub returns-in-empty : goal.returns-in-empty
returns-in-empty t c = λ _.
    let none : c.args.bytes.now ≡ [] = nil_from_length c.args.bytes.now (omega (arith, c.in-empty.len_below)) in
    (c.args.memory.now, sym (ap (λ bytes. bytes ++ c.args.memory.now) none))
