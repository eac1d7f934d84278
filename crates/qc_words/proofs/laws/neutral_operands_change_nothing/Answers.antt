use Rattle.std.proofs.Common.{◌∙◌, add-zero}
use Rattle.std.specs.Int.Bits.{or_zero_r, xor_zero_r}
use Rattle.std.proofs.Math.Nat.{mod-eq_of_lt, zero-mod, mul-one}
use Rattle.std.proofs.lemmas.Nat.{and_mask}
use Rattle.qc_words.proofs.laws.neutral_operands_change_nothing.Goals as goal

pub returns-clause-add : goal.returns-clause-add
returns-clause-add c w a below = rw (add-zero a) (mod-eq_of_lt below)

pub returns-clause-or : goal.returns-clause-or
returns-clause-or c w = or_zero_r

pub returns-clause-xor : goal.returns-clause-xor
returns-clause-xor c w = xor_zero_r

pub returns-clause-shl : goal.returns-clause-shl
returns-clause-shl c w a below = rw (zero-mod w, mul-one a) (mod-eq_of_lt below)

pub returns-clause-and : goal.returns-clause-and
returns-clause-and c w a below = and_mask a w ∙ mod-eq_of_lt below
