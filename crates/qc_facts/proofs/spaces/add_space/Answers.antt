use Rattle.std.proofs.Common.{arith, sym, subst, ap, ◌∙◌, ◌++◌, ◌∷◌, []}
use Rattle.std.proofs.lemmas.Result.{on_ok_weaker}
use Rattle.qc_names.specs.Tables.{entered}
use Rattle.qc_facts.specs.SpaceTables.{HasTable}
use Rattle.qc_facts.specs.Law.Places.{table-entered}
use Rattle.qc_facts.proofs.spaces.add_space.Goals as goal

pub returns-clause-table : goal.returns-clause-table
returns-clause-table c =
    on_ok_weaker c.push.result
    (λ pushed. subst (λ s. HasTable s c.enter.new.self) (sym pushed)
    (subst (λ t. HasTable (c.args.spaces.now ++ c.args.space ∷ []) t)
    (sym (c.in_ok-enter.ensures.after ∙ ap (λ n. entered c.args.table.now n c.len-place.result) c.bytes.ensures))
    (table-entered c.args.spaces.now c.args.table.now c.args.space c.len-place.result c.requires
    c.len-place.ensures (omega arith) (omega arith))))
    c.push.ensures.ok
