use Rattle.qc_descr.proofs.Operands
use Rattle.qc_descr.proofs.laws.pieces_stand.Goals as goal

pub returns : goal.returns
returns c = Operands.pieces_stand
