use Rattle.std.proofs.Common.{refl, sym, ap, ◌∙◌, Some}
use Rattle.qc_outside.proofs.MemoryFiles.{get_none, get_read}
use Rattle.qc_outside.proofs.memory_files.content.Goals as goal

pub returns-in-Some : goal.returns-in-Some
returns-in-Some c = ap Some c.as_slice.ensures.value ∙ get_read _ _ c.in-Some.place c.in-Some.ensures.some c.index.result.now c.index.ensures

pub returns-in-None : goal.returns-in-None
returns-in-None c = sym (get_none _ _ (c.in-None.ensures.none refl))
