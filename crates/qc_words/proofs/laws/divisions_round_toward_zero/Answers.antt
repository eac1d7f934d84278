use Rattle.qc_words.proofs.DivisionLemmas.{quotient_of-unsigned, remainder_of-unsigned, quotient_of-signed, remainder_of-small, remainder_of-sign, quotient_of-least, remainder_of-least}
use Rattle.qc_words.proofs.laws.divisions_round_toward_zero.Goals as goal

pub returns-clause-unsigned : goal.returns-clause-unsigned
returns-clause-unsigned c = quotient_of-unsigned

pub returns-clause-unsigned_rest : goal.returns-clause-unsigned_rest
returns-clause-unsigned_rest c = remainder_of-unsigned

pub returns-clause-signed : goal.returns-clause-signed
returns-clause-signed c w a b width = quotient_of-signed w a b width.0

pub returns-clause-signed_rest : goal.returns-clause-signed_rest
returns-clause-signed_rest c w a b width = remainder_of-small w a b width.0

pub returns-clause-sign : goal.returns-clause-sign
returns-clause-sign c w a b width = remainder_of-sign w a b width.0

pub returns-clause-least : goal.returns-clause-least
returns-clause-least c w width = (quotient_of-least w width.0, remainder_of-least w width.0)
