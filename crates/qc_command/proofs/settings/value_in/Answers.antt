use Rattle.std.proofs.Common.{◌≡◌, ◌<◌, ◌∙◌, [], length, arith, rules, string_bytes, sym}
use Rattle.std.proofs.lemmas.List.{get_or-map, length-map}
use Rattle.std.specs.List.{slice_index_or}
use Rattle.qc_command.specs.Command.{texts_of}
use Rattle.qc_command.specs.Inner.CommandWords.{option_of}
use Rattle.qc_command.proofs.Readings.{set_at, unset_more}
use Rattle.qc_command.proofs.settings.value_in.Goals as goal

pub returns-in-Some : goal.returns-in-Some
returns-in-Some c =
    let inside : c.loop-word.word-index < length c.args.words.now = search rules in
    let within : c.loop-word.word-index < length (texts_of c.args.words.now) = omega (arith, inside, length-map c.args.words.now string_bytes) in
    let at : slice_index_or (texts_of c.args.words.now) c.loop-word.word-index [] ≡ string_bytes c.word-item.result = search (rules, get_or-map) in
    set_at (option_of c.args.rule.now) (texts_of c.args.words.now) c.loop-word.word-index _ c.in-Some.value within (at ∙ sym c.deref.ensures) c.in-Some.ensures

pub loop-word-preserved : goal.loop-word-preserved
loop-word-preserved c =
    let inside : c.loop-word.word-index < length c.args.words.now = search rules in
    let within : c.loop-word.word-index < length (texts_of c.args.words.now) = omega (arith, inside, length-map c.args.words.now string_bytes) in
    let at : slice_index_or (texts_of c.args.words.now) c.loop-word.word-index [] ≡ string_bytes c.word-item.result = search (rules, get_or-map) in
    unset_more (option_of c.args.rule.now) (texts_of c.args.words.now) c.loop-word.word-index _ within (at ∙ sym c.deref.ensures) c.loop-word.invariant c.in_default.ensures
