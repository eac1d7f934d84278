use Rattle.qc_encode.proofs.Read.{is_read}
use Rattle.qc_encode.proofs.encoding.instruction_of.Goals as goal

pub returns : goal.returns
returns c = is_read _ _ _ _ _ c.requires.valid c.requires.instance c.as_slice.ensures c.index-as_slice-instance.is
