use Rattle.std.proofs.Common.{refl, sym, subst, ◌+◌, arith}
use Rattle.qc_equations.specs.Pattern.{Parts, A, B, C}
use Rattle.qc_laws.specs.declared.right.Part.TheVariants as part
use Rattle.qc_laws.specs.Inner.Ids.{parts_at}
use Rattle.qc_laws.specs.Inner.Spelling.{Spells}
use Rattle.qc_pool.specs.Law.Kept.{added_keeps, kept_on}
use Rattle.qc_laws.proofs.Making.{Makes, advances, bin_fits, is_first, is_second, is_third, left_spelled, made_bin, made_leaf, made_number, made_un, number_stands, right_spelled, same_parts, spelled_within, still_there, un_fits, un_spelled, un_words}
use Rattle.qc_laws.proofs.right.+make.Goals as goal

pub returns-in-First-clause-made : goal.returns-in-First-clause-made
returns-in-First-clause-made t c =
    made_leaf c.args.pool.now (parts_at c.args.pool.now c.args.ids.now) c.args.list.now c.args.at _ part.First A c.args.ids.now.a
    is_first (record { there = c.requires.there.a; term = refl }) c.requires.within c.in-First.is

pub returns-in-Second-clause-made : goal.returns-in-Second-clause-made
returns-in-Second-clause-made t c =
    made_leaf c.args.pool.now (parts_at c.args.pool.now c.args.ids.now) c.args.list.now c.args.at _ part.Second B c.args.ids.now.b
    is_second (record { there = c.requires.there.b; term = refl }) c.requires.within c.in-Second.is

pub returns-in-Third-clause-made : goal.returns-in-Third-clause-made
returns-in-Third-clause-made t c =
    made_leaf c.args.pool.now (parts_at c.args.pool.now c.args.ids.now) c.args.list.now c.args.at _ part.Third C c.args.ids.now.c
    is_third (record { there = c.requires.there.c; term = refl }) c.requires.within c.in-Third.is

pub literal_bits-width-requires : goal.literal_bits-width-requires
literal_bits-width-requires t c =
    (number_stands c.args.list.now c.args.at _ c.in-Number.literal (parts_at c.args.pool.now c.args.ids.now) c.args.ids.now.word
    c.requires.within c.in-Number.is c.requires.spelled c.requires.there.word).0

pub add-requires : goal.add-requires
add-requires t c =
    rw (c.literal_number-value.ensures, c.literal_bits-width.ensures)
    (number_stands c.args.list.now c.args.at _ c.in-Number.literal (parts_at c.args.pool.now c.args.ids.now) c.args.ids.now.word
    c.requires.within c.in-Number.is c.requires.spelled c.requires.there.word).1

pub returns-in_ok-id-in-Number-clause-made : goal.returns-in_ok-id-in-Number-clause-made
returns-in_ok-id-in-Number-clause-made t c =
    made_number c.args.pool.now c.add.new.self c.args.list.now c.args.at _ c.in-Number.literal
    (parts_at c.args.pool.now c.args.ids.now) c.args.ids.now.word c.literal_number-value.result c.literal_bits-width.result
    c.in_ok-id-in-Number.id c.requires.within c.in-Number.is c.requires.there.word c.literal_number-value.ensures
    c.literal_bits-width.ensures c.in_ok-id-in-Number.ensures.added

pub make-requires : goal.make-requires
make-requires t c =
    let spelled = un_spelled c.args.list.now c.args.at _ c.in-Un.operator (parts_at c.args.pool.now c.args.ids.now) c.requires.within
    c.in-Un.is c.requires.spelled in
    let within = spelled_within c.args.list.now (c.args.at + 1) (parts_at c.args.pool.now c.args.ids.now) spelled in
    (omega (arith, c.decreases, within), (c.requires.there, (within, spelled)))

pub operator_of-op-requires : goal.operator_of-op-requires
operator_of-op-requires t c =
    un_words c.args.list.now c.args.at _ c.in-Un.operator (parts_at c.args.pool.now c.args.ids.now) c.args.ids.now.word
    c.requires.within c.in-Un.is c.requires.spelled c.requires.there.word

pub add-requires-in-Un : goal.add-requires-in-Un
add-requires-in-Un t c =
    un_fits c.make.new.pool c.args.list.now c.args.at _ c.in-Un.operator (parts_at c.args.pool.now c.args.ids.now)
    c.args.ids.now.word c.operator_of-op.result c.in_ok-arg-in-Un.arg.id c.in_ok-arg-in-Un.arg.next c.requires.within c.in-Un.is
    c.requires.spelled c.requires.there.word c.operator_of-op.ensures c.in_ok-arg-in-Un.ensures.made

pub returns-in_ok-id-in-Un-clause-made : goal.returns-in_ok-id-in-Un-clause-made
returns-in_ok-id-in-Un-clause-made t c =
    made_un c.make.new.pool c.add-in-Un.new.self c.args.list.now c.args.at _ c.in-Un.operator
    (parts_at c.args.pool.now c.args.ids.now) c.args.ids.now.word c.operator_of-op.result c.in_ok-arg-in-Un.arg.id
    c.in_ok-arg-in-Un.arg.next c.in_ok-id-in-Un.id c.requires.within c.in-Un.is c.requires.there.word c.operator_of-op.ensures
    c.in_ok-arg-in-Un.ensures.made c.in_ok-id-in-Un.ensures.added

pub returns-in_ok-id-in-Un-clause-kept : goal.returns-in_ok-id-in-Un-clause-kept
returns-in_ok-id-in-Un-clause-kept t c =
    kept_on c.args.pool.now c.make.new.pool c.add-in-Un.new.self c.in_ok-arg-in-Un.ensures.kept
    (added_keeps c.make.new.pool c.add-in-Un.new.self _ c.in_ok-id-in-Un.id c.in_ok-id-in-Un.ensures.added)

pub make-requires-in-Bin : goal.make-requires-in-Bin
make-requires-in-Bin t c =
    let spelled = left_spelled c.args.list.now c.args.at _ c.in-Bin.op (parts_at c.args.pool.now c.args.ids.now) c.requires.within
    c.in-Bin.is c.requires.spelled in
    let within = spelled_within c.args.list.now (c.args.at + 1) (parts_at c.args.pool.now c.args.ids.now) spelled in
    (omega (arith, c.decreases, within), (c.requires.there, (within, spelled)))

pub make-requires-in-Bin-2 : goal.make-requires-in-Bin-2
make-requires-in-Bin-2 t c =
    let kept = c.in_ok-left-in-Bin.ensures.kept in
    let old = c.args.pool.now in
    let mid = c.make-in-Bin.new.pool in
    let spelled = right_spelled mid c.args.list.now c.args.at _ c.in-Bin.op (parts_at old c.args.ids.now) c.in_ok-left-in-Bin.left.id
    c.in_ok-left-in-Bin.left.next c.requires.within c.in-Bin.is c.requires.spelled c.in_ok-left-in-Bin.ensures.made in
    let within = spelled_within c.args.list.now c.in_ok-left-in-Bin.left.next (parts_at old c.args.ids.now) spelled in
    let P : Parts → Type 0 = λ parts. Spells c.args.list.now c.in_ok-left-in-Bin.left.next parts in
    let further = advances mid c.args.list.now c.args.at _ c.in-Bin.op (parts_at old c.args.ids.now) c.in_ok-left-in-Bin.left.id
    c.in_ok-left-in-Bin.left.next c.requires.within c.in-Bin.is c.requires.spelled c.in_ok-left-in-Bin.ensures.made in
    (omega (arith, c.decreases, within, further), (still_there old mid c.args.ids.now c.requires.there kept, (within, subst P (sym (same_parts old mid c.args.ids.now c.requires.there kept)) spelled)))

pub add-requires-in-Bin : goal.add-requires-in-Bin
add-requires-in-Bin t c =
    let old = c.args.pool.now in
    let mid = c.make-in-Bin.new.pool in
    let last = c.make-in-Bin-2.new.pool in
    let left = c.in_ok-left-in-Bin in
    let right = c.in_ok-right-in-Bin in
    let same = same_parts old mid c.args.ids.now c.requires.there left.ensures.kept in
    let P : Parts → Type 0 = λ parts. Makes last c.args.list.now left.left.next parts right.right.id right.right.next in
    bin_fits mid last c.args.list.now c.args.at _ c.in-Bin.op (parts_at old c.args.ids.now) left.left.id right.right.id left.left.next
    right.right.next c.requires.within c.in-Bin.is c.requires.spelled left.ensures.made right.ensures.kept
    (subst P same right.ensures.made)

pub returns-in_ok-id-in-Bin-clause-made : goal.returns-in_ok-id-in-Bin-clause-made
returns-in_ok-id-in-Bin-clause-made t c =
    let old = c.args.pool.now in
    let mid = c.make-in-Bin.new.pool in
    let last = c.make-in-Bin-2.new.pool in
    let left = c.in_ok-left-in-Bin in
    let right = c.in_ok-right-in-Bin in
    let same = same_parts old mid c.args.ids.now c.requires.there left.ensures.kept in
    let P : Parts → Type 0 = λ parts. Makes last c.args.list.now left.left.next parts right.right.id right.right.next in
    made_bin mid last c.add-in-Bin.new.self c.args.list.now c.args.at _ c.in-Bin.op (parts_at old c.args.ids.now) left.left.id
    right.right.id left.left.next right.right.next c.in_ok-id-in-Bin.id c.requires.within c.in-Bin.is left.ensures.made
    right.ensures.kept (subst P same right.ensures.made) c.in_ok-id-in-Bin.ensures.added

pub returns-in_ok-id-in-Bin-clause-kept : goal.returns-in_ok-id-in-Bin-clause-kept
returns-in_ok-id-in-Bin-clause-kept t c =
    kept_on c.args.pool.now c.make-in-Bin-2.new.pool c.add-in-Bin.new.self
    (kept_on c.args.pool.now c.make-in-Bin.new.pool c.make-in-Bin-2.new.pool c.in_ok-left-in-Bin.ensures.kept c.in_ok-right-in-Bin.ensures.kept)
    (added_keeps c.make-in-Bin-2.new.pool c.add-in-Bin.new.self _ c.in_ok-id-in-Bin.id c.in_ok-id-in-Bin.ensures.added)
