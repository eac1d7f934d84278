use Rattle.std.proofs.Common.{◌<◌, IfSome, subst}
use Rattle.qc_flat.proofs.Numbers.{byte_bits}
use Rattle.qc_flat.proofs.chain.word_of_link.Goals as goal

pub returns-in-Load-clause-word : goal.returns-in-Load-clause-word
returns-in-Load-clause-word c =
    rw c.in-Load.is (subst (λ n. IfSome c.load.result (λ v. v < n)) (byte_bits c.in-Load.count) c.load.ensures.word)
