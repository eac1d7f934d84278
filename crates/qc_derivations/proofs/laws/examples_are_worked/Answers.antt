use Rattle.std.proofs.Common.{refl}
use Rattle.qc_words.specs.Words.{signed_of, word_of}
use Rattle.qc_descr.specs.CodingFaults.{missing_from}
use Rattle.qc_derivations.specs.Nodes.{children_for}
use Rattle.qc_derivations.proofs.laws.examples_are_worked.Goals as goal

pub returns-clause-on_risc : goal.returns-clause-on_risc
unfolding children_for missing_from signed_of word_of
returns-clause-on_risc c =
    ((refl, refl, (refl, refl, (refl, refl, (refl, refl, (refl, refl, (refl, refl, (refl, refl, tt))))))))

pub returns-clause-on_flags : goal.returns-clause-on_flags
unfolding children_for missing_from
returns-clause-on_flags c = (refl, refl, (refl, refl, (refl, refl, (refl, refl, (refl, refl, (refl, refl, tt))))))
