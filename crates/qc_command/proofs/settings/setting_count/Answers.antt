use Rattle.std.proofs.Common.{◌≡◌, ◌<◌, ◌∙◌, [], length, arith, map, rules, string_bytes, sym, take}
use Rattle.std.proofs.lemmas.List.{get_or-map, length-map, take-map}
use Rattle.std.specs.List.{slice_index_or}
use Rattle.qc_command.specs.Command.{texts_of}
use Rattle.qc_command.specs.Inner.CommandWords.{option_of}
use Rattle.qc_command.proofs.Readings.{count_at, count_more, none_given}
use Rattle.qc_command.proofs.settings.setting_count.Goals as goal

pub loop-place-init : goal.loop-place-init
loop-place-init c = none_given (map option_of c.args.rules.now)

pub returns-then-not-sets_new : goal.returns-then-not-sets_new
returns-then-not-sets_new c =
    let words = c.args.words.now in
    let place = c.loop-place.place in
    let inside : place < length words = search rules in
    let within : place < length (texts_of words) = omega (arith, inside, length-map words string_bytes) in
    let at : slice_index_or (texts_of words) place [] ≡ string_bytes c.index-words-place.result = search (rules, get_or-map) in
    count_at (map option_of c.args.rules.now) (texts_of words) (texts_of (take place words)) place _ c.requires within (at ∙ sym c.deref.ensures) (sym (take-map string_bytes place words)) c.loop-place.invariant c.if-not-sets_new.ensures

pub loop-place-preserved : goal.loop-place-preserved
loop-place-preserved c =
    let words = c.args.words.now in
    let place = c.loop-place.place in
    let inside : place < length words = search rules in
    let within : place < length (texts_of words) = omega (arith, inside, length-map words string_bytes) in
    let at : slice_index_or (texts_of words) place [] ≡ string_bytes c.index-words-place.result = search (rules, get_or-map) in
    count_more (map option_of c.args.rules.now) (texts_of words) (texts_of (take place words)) place _ within (at ∙ sym c.deref.ensures) (sym (take-map string_bytes place words)) c.loop-place.invariant c.if-not-sets_new.ensures
