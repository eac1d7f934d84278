use Rattle.std.proofs.Common.{◌≡◌, ◌++◌, length, take}
use Rattle.std.specs.List.{flat_map}
use Rattle.qc_descr.specs.Encoding.{code_bytes}
use Rattle.qc_constants.specs.Code.{output_of}
use Rattle.qc_constants.proofs.code.push_outputs.Given as goal

-- the code of the outputs so far
abbrev pub invariant-loop-word : goal.invariant-loop-word
invariant-loop-word l =
    l.code.items ≡ l.fn.code.items ++ code_bytes l.descr (length l.fn.code.items) (flat_map output_of (take l.word-index l.words))
