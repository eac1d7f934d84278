use Rattle.std.proofs.Common.{◌%◌, ◌^◌, not, ap}
use Rattle.std.proofs.Math.Nat.{add_comm, mul_comm}
use Rattle.std.proofs.lemmas.Nat.{and_comm, or_comm, xor_comm}
use Rattle.qc_words.specs.Operators.{truth_of}
use Rattle.qc_words.proofs.AlgebraLemmas.{equal_commutes}
use Rattle.qc_words.proofs.laws.operators_commute.Goals as goal

pub returns-clause-add : goal.returns-clause-add
returns-clause-add c w a b = ap (λ v. v % 2 ^ w) (add_comm a b)

pub returns-clause-mul : goal.returns-clause-mul
returns-clause-mul c w a b = ap (λ v. v % 2 ^ w) (mul_comm a b)

pub returns-clause-and : goal.returns-clause-and
returns-clause-and c w = and_comm

pub returns-clause-or : goal.returns-clause-or
returns-clause-or c w = or_comm

pub returns-clause-xor : goal.returns-clause-xor
returns-clause-xor c w = xor_comm

pub returns-clause-equal : goal.returns-clause-equal
returns-clause-equal c w a b = ap truth_of (equal_commutes a b)

pub returns-clause-unequal : goal.returns-clause-unequal
returns-clause-unequal c w a b = ap (λ t. truth_of (not t)) (equal_commutes a b)
