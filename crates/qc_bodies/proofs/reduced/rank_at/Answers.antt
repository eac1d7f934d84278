use Rattle.std.proofs.Common.{sym, ◌∙◌, ap, slice_get}
use Rattle.qc_bodies.specs.Meanings.{joined_option}
use Rattle.qc_bodies.proofs.Shaping.{rank_found}
use Rattle.qc_bodies.proofs.reduced.rank_at.Goals as goal

pub returns-in-Param : goal.returns-in-Param
returns-in-Param c =
    rank_found c.rank_of.result c.args.marks.now.ranks c.args.marks.now.used c.requires c.in-Param.number
    (c.rank_of.ensures ∙ ap (λ l. joined_option (slice_get l c.in-Param.number)) c.as_slice.ensures)
    c.args.args.now c.args.place c.in-Some.arg.now (sym c.in-Some.ensures) c.in-Param.is
