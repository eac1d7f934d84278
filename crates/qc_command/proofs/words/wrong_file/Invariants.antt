use Rattle.std.proofs.Common.{◌≡◌, ◌≤◌, true, take}
use Rattle.std.specs.List.{list_all}
use Rattle.qc_command.specs.Command.{texts_of, is_file_word}
use Rattle.qc_command.proofs.words.wrong_file.Given as goal

-- the file words before the place are right, and few enough
abbrev pub invariant-loop-place : goal.invariant-loop-place
invariant-loop-place l = (l.place ≤ l.count) × (list_all is_file_word (take l.place (texts_of l.files)) ≡ true)
