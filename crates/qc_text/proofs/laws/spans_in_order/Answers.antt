use Rattle.qc_text.proofs.Spans.{inside, in_order}
use Rattle.qc_text.proofs.laws.spans_in_order.Goals as goal

pub returns-clause-inside : goal.returns-clause-inside
returns-clause-inside c = inside

pub returns-clause-order : goal.returns-clause-order
returns-clause-order c = in_order
