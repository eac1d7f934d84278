use Rattle.std.proofs.Common.{◌≡◌, All, map, take}
use Rattle.qc_machine.specs.InputFile.{IsWordToken, number_in}
use Rattle.qc_machine.proofs.input_file.words_in.Given as goal

abbrev pub invariant-loop-token : goal.invariant-loop-token
invariant-loop-token l = record {
  values : l.words.items ≡ map (number_in l.bytes) (take l.token-index l.front);
  numbers : All (IsWordToken l.word l.bytes) (take l.token-index l.front);
}
