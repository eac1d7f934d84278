use Rattle.std.proofs.Common.{◌≡◌, ◌<◌, [], length, arith, rules, string_bytes, true}
use Rattle.std.proofs.lemmas.List.{get_or-map, length-map}
use Rattle.std.specs.List.{slice_index_or}
use Rattle.qc_command.specs.Command.{is_file_word, texts_of}
use Rattle.qc_command.proofs.UsageLemmas.{one_more}
use Rattle.qc_command.proofs.words.wrong_file.Goals as goal

pub loop-place-preserved : goal.loop-place-preserved
loop-place-preserved c =
    let word = string_bytes c.index-files-place.result in
    let inside : c.loop-place.place < length c.args.files.now = search rules in
    let within : c.loop-place.place < length (texts_of c.args.files.now) = omega (arith, inside, length-map c.args.files.now string_bytes) in
    let at : slice_index_or (texts_of c.args.files.now) c.loop-place.place [] ≡ word = search (rules, get_or-map) in
    let right : is_file_word word ≡ true = search rules in
    (omega (arith, c.loop-place.invariant.0, c.if-place-count.false), one_more (texts_of c.args.files.now) c.loop-place.place word within at c.loop-place.invariant.1 right)
