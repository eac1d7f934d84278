use Rattle.std.proofs.Common.{refl, ap, ◌∙◌}
use Rattle.std.specs.FinMap.{insert}
use Rattle.qc_outside.specs.MemoryFiles.{files_from}
use Rattle.qc_outside.proofs.MemoryFiles.{bound_read, bound_last}
use Rattle.qc_outside.proofs.memory_files.bind.Goals as goal

pub returns-in-Some-clause-ok : goal.returns-in-Some-clause-ok
returns-in-Some-clause-ok c =
    bound_read _ _ c.in-Some.place c.in_ok-copy.copy c.in-Some.ensures.some c.index_mut.result.now c.index_mut.ensures.value
    ∙ ap (insert _ _) c.in_ok-copy.ensures.items

pub returns-in_ok-push-in-None-clause-ok : goal.returns-in_ok-push-in-None-clause-ok
returns-in_ok-push-in-None-clause-ok c =
    ap files_from c.in_ok-push-in-None.ensures.items
    ∙ bound_last _ _ _ c.in_ok-copy.copy (c.in-None.ensures.none refl) c.in_ok-clone-in-None.ensures.cases
    ∙ ap (insert _ _) c.in_ok-copy.ensures.items
