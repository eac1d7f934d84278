use Rattle.std.proofs.Common.{ap, ◌∙◌}
use Rattle.std.specs.FinMap.{get}
use Rattle.qc_outside.specs.MemoryFiles.{files_of}
use Rattle.qc_outside.proofs.MemoryFiles.{get_other}
use Rattle.qc_outside.proofs.memory_files.MemShelfShelf.write.Goals as goal

pub returns-in-Ok-clause-others : goal.returns-in-Ok-clause-others
returns-in-Ok-clause-others c other h =
    ap (λ m. get m other) c.in-Ok.ensures.ok ∙ get_other (files_of c.args.self.now) _ _ other h
