use Rattle.std.proofs.Common.{◌<◌, ◌^◌, arith}
use Rattle.std.proofs.lemmas.List.{length-drop, length-take}
use Rattle.qc_flat.proofs.Numbers.{room_for_byte}
use Rattle.qc_flat.proofs.words.+low_first.Goals as goal

pub overflow_mul-result : goal.overflow_mul-result
overflow_mul-result t c =
    let few : c.low_first.result < 2 ^ 56 =
    room_for_byte _ _ c.low_first.ensures.word (simp (length-take, length-drop) (omega (arith, c.requires, c.in-len1-up.len_at_least))) in
    omega (arith, few)

pub overflow_add-result : goal.overflow_add-result
overflow_add-result t c =
    let few : c.low_first.result < 2 ^ 56 =
    room_for_byte _ _ c.low_first.ensures.word (simp (length-take, length-drop) (omega (arith, c.requires, c.in-len1-up.len_at_least))) in
    omega (arith, few, c.from.ensures, c.type_inv.bytes 0)
