use Rattle.qc_grammar.proofs.Decimals.{as_text_respells}
use Rattle.qc_grammar.proofs.laws.printed_tokens_are_tokens.Goals as goal

pub returns : goal.returns
returns c = as_text_respells
