use Rattle.qc_words.proofs.ArithmeticLemmas.{result_of-Add-signed, result_of-Sub-signed, result_of-Mul-signed, result_of-Neg-signed}
use Rattle.qc_words.proofs.laws.arithmetic_agrees_on_signed_numbers.Goals as goal

pub returns-clause-add : goal.returns-clause-add
returns-clause-add c w a b width = result_of-Add-signed w a b width.0

pub returns-clause-sub : goal.returns-clause-sub
returns-clause-sub c w a b width = result_of-Sub-signed w a b width.0

pub returns-clause-mul : goal.returns-clause-mul
returns-clause-mul c w a b width = result_of-Mul-signed w a b width.0

pub returns-clause-neg : goal.returns-clause-neg
returns-clause-neg c w a b width = result_of-Neg-signed w a b width.0
