use Rattle.std.proofs.Common.{◌++◌, ◌∷◌, [], List, ℕ, Option, Some, length, slice_get, slice_set, sym, subst, ◌∙◌, ap}
use Rattle.std.proofs.lemmas.Result.{on_ok_weaker}
use Rattle.qc_bodies.specs.Inner.Marking.{IsMarked, Marked}
use Rattle.qc_bodies.proofs.Marking.{joined_some, new_has, new_keeps, new_ranks, room_keeps, room_ranks}
use Rattle.qc_bodies.proofs.marks.Marks.add.Goals as goal

pub returns-in-Some : goal.returns-in-Some
returns-in-Some c =
    let old = c.args.self.now.ranks in
    let room = c.make_room.new.ranks in
    let used = c.args.self.now.used in
    let same = c.in_ok-make_room.ensures.same in
    let are = room_ranks old room used same c.requires in
    let ranked = rw c.as_slice.ensures at c.in-Some.ensures in
    let has = joined_some (slice_get room c.args.number) c.in-Some.field-0 (sym ranked) in
    record {
      are = are;
      keeps = room_keeps old room used same;
      holds = record { rank = c.in-Some.field-0; has = has; is = are c.args.number c.in-Some.field-0 has };
    }

pub returns-in-None : goal.returns-in-None
returns-in-None c =
    let self = c.args.self.now in
    let room = c.make_room.new.ranks in
    let same = c.in_ok-make_room.ensures.same in
    let are = room_ranks self.ranks room self.used same c.requires in
    let unranked = sym (rw c.as_slice.ensures at c.in-None.ensures) in
    let number = c.args.number in
    let ranks = slice_set room number (Some (length self.used)) in
    let used = self.used ++ number ∷ [] in
    let within = c.in_ok-make_room.ensures.room in
    let P : List ℕ → Type 0 = λ u. Marked self (record { ranks = c.set.new.self; used = u }) (IsMarked (record { ranks = c.set.new.self; used = u }) number) in
    let Q : List (Option ℕ) → Type 0 = λ r. Marked self (record { ranks = r; used = used }) (IsMarked (record { ranks = r; used = used }) number) in
    on_ok_weaker c.push.result (λ u. subst P (sym u) (subst Q (sym (c.set.ensures ∙ ap (λ n. slice_set room number (Some n)) c.len.ensures)) (record {
      are = new_ranks room self.used number within unranked are;
      keeps = λ p h. new_keeps room self.used number within unranked p (room_keeps self.ranks room self.used same p h);
      holds = new_has room self.used number within unranked;
    }))) c.push.ensures.ok
