use Rattle.std.specs.Int.Bits.{xor_assoc}
use Rattle.std.proofs.lemmas.Nat.{and_assoc}
use Rattle.qc_words.proofs.AlgebraLemmas.{add_associates, mul_associates, or_associates}
use Rattle.qc_words.proofs.laws.operators_associate.Goals as goal

pub returns-clause-add : goal.returns-clause-add
returns-clause-add c = add_associates

pub returns-clause-mul : goal.returns-clause-mul
returns-clause-mul c = mul_associates

pub returns-clause-and : goal.returns-clause-and
returns-clause-and c w a b c' = and_assoc c' a b

pub returns-clause-or : goal.returns-clause-or
returns-clause-or c w = or_associates

pub returns-clause-xor : goal.returns-clause-xor
returns-clause-xor c w = xor_assoc
