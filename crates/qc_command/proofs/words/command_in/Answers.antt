use Rattle.std.proofs.Common.{◌≡◌, ◌∷◌, ◌∙◌, ◌+◌, arith, drop, length, ap, refl, sym, rules, string_bytes, take}
use Rattle.std.specs.List.{drop-map}
use Rattle.std.proofs.lemmas.List.{length-map, take-map}
use Rattle.qc_command.specs.Command.{command_name, file_count, options_of, texts_of}
use Rattle.qc_command.specs.Inner.CommandWords.{AreFiles, IsSetBy, IsSettingCount, IsWrongFile}
use Rattle.qc_command.proofs.Apart.{apart}
use Rattle.qc_command.proofs.UsageLemmas.{line_of_words, usage_of_command, usage_of_nothing, usage_of_words}
use Rattle.qc_command.proofs.words.command_in.Goals as goal

pub returns-in_default-clause-usage : goal.returns-in_default-clause-usage
returns-in_default-clause-usage c =
    usage_of_nothing _ (length-map c.args.words.now.items string_bytes ∙ ap length (sym c.as_slice.ensures.value) ∙ c.in_default.ensures.cases)

pub returns-in_default-command_named-clause-usage : goal.returns-in_default-command_named-clause-usage
returns-in_default-command_named-clause-usage c =
    let words : texts_of c.args.words.now.items ≡ string_bytes c.in-Some.name.now ∷ texts_of c.in-Some.more.now = search rules in
    rw words (usage_of_command _ _ (λ command named. c.in_default-command_named.ensures.none refl command (c.deref.ensures ∙ named)))

pub setting_count-count-requires : goal.setting_count-count-requires
setting_count-count-requires c =
    rw c.rules_of.ensures (apart c.in-Some-command_named.command)

pub returns-in-Some-wrong_file-clause-usage : goal.returns-in-Some-wrong_file-clause-usage
returns-in-Some-wrong_file-clause-usage c =
    let words : texts_of c.args.words.now.items ≡ string_bytes c.in-Some.name.now ∷ texts_of c.in-Some.more.now = search rules in
    let command = c.in-Some-command_named.command in
    let count = c.setting_count-count.result in
    let more = texts_of c.in-Some.more.now in
    let named : string_bytes c.in-Some.name.now ≡ command_name command = sym c.deref.ensures ∙ c.in-Some-command_named.ensures.some in
    let counted : IsSettingCount (options_of command) more count = rw c.rules_of.ensures at c.setting_count-count.ensures in
    let files : texts_of c.split_at.result.1.now ≡ drop count more = ap texts_of c.split_at.ensures.back ∙ sym (drop-map string_bytes count c.in-Some.more.now) in
    let wrong : IsWrongFile (file_count command) (drop count more) c.in-Some-wrong_file.place = rw (c.file_count.ensures, files) at c.in-Some-wrong_file.ensures.wrong in
    rw (words, named) (usage_of_words command more count c.in-Some-wrong_file.place counted wrong)

pub returns-in-None-clause-command : goal.returns-in-None-clause-command
returns-in-None-clause-command c =
    let words : texts_of c.args.words.now.items ≡ string_bytes c.in-Some.name.now ∷ texts_of c.in-Some.more.now = search rules in
    let command = c.in-Some-command_named.command in
    let count = c.setting_count-count.result in
    let more = texts_of c.in-Some.more.now in
    let named : string_bytes c.in-Some.name.now ≡ command_name command = sym c.deref.ensures ∙ c.in-Some-command_named.ensures.some in
    let given : texts_of c.split_at.result.0.now ≡ take count more = ap texts_of c.split_at.ensures.front ∙ sym (take-map string_bytes count c.in-Some.more.now) in
    let files : texts_of c.split_at.result.1.now ≡ drop count more = ap texts_of c.split_at.ensures.back ∙ sym (drop-map string_bytes count c.in-Some.more.now) in
    let set : IsSetBy c.set_by.result (take count more) = rw given at c.set_by.ensures.options in
    let right : AreFiles (file_count command) (drop count more) = rw (c.file_count.ensures, files) at (c.in-None.ensures.right refl) in
    rw (words, named) (line_of_words command c.set_by.result more count (1 + count) (omega arith) c.set_by.ensures.kind set right)
