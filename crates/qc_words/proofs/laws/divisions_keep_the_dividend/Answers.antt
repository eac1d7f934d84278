use Rattle.qc_words.proofs.ArithmeticLemmas.{dividend_of-unsigned, dividend_of-signed}
use Rattle.qc_words.proofs.laws.divisions_keep_the_dividend.Goals as goal

pub returns-clause-unsigned : goal.returns-clause-unsigned
returns-clause-unsigned c = dividend_of-unsigned

pub returns-clause-signed : goal.returns-clause-signed
returns-clause-signed c w a b width = dividend_of-signed w a b width.0
