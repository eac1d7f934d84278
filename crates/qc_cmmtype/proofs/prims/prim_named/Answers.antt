use Rattle.std.proofs.Common.{sym, ap, ◌∙◌}
use Rattle.std.specs.Option.{option_or}
use Rattle.qc_names.specs.Tables.{named}
use Rattle.qc_cmmtype.specs.Prims.{prims, prims_of, prim_named}
use Rattle.qc_cmmtype.proofs.prims.prim_named.Goals as goal

pub returns-in-Some : goal.returns-in-Some
unfolding prims prim_named
returns-in-Some c =
    ap (λ o. option_or o (named (prims_of c.args.word) c.args.name.now))
    (sym c.in-Some.is ∙ c.paired_prim.ensures)

pub returns-in-None : goal.returns-in-None
unfolding prims prim_named
returns-in-None c =
    c.prim_of_word.ensures
    ∙ ap (λ o. option_or o (named (prims_of c.args.word) c.args.name.now))
    (sym c.in-None.is ∙ c.paired_prim.ensures)
