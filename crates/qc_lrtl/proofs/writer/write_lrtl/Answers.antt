use Rattle.qc_grammar.specs.Law.ReadAgain.{file_tree, read_again, reserving_respelled, words_alone}
use Rattle.qc_grammar.specs.Printing.{as_text}
use Rattle.qc_lrtl.specs.LambdaRtl.{lambda_rtl, machine, reserved, vocabulary}
use Rattle.qc_lrtl.specs.Printed.{machine_words, machine_texts}
use Rattle.qc_lrtl.proofs.writer.write_lrtl.Goals as goal

pub returns-clause-words : goal.returns-clause-words
returns-clause-words c = words_alone lambda_rtl machine vocabulary as_text machine_words machine_texts c.args.raw.now
    c.new-out.result.items c.write_machine.new.out.items c.new-out.ensures.items c.in_ok-write_machine.ensures

pub returns-clause-again : goal.returns-clause-again
returns-clause-again c = λ is. read_again lambda_rtl machine vocabulary as_text c.printed_tokens_are_tokens.ensures
    (reserving_respelled reserved as_text c.printed_tokens_are_tokens.ensures) c.words_are_tokens.ensures c.args.raw.now is
    c.write_machine.new.out.items (returns-clause-words c)

pub returns-clause-file_again : goal.returns-clause-file_again
returns-clause-file_again c = λ bytes text. returns-clause-again c
    (file_tree lambda_rtl machine vocabulary as_text c.texts_of_their_kinds.ensures c.one_end.ensures bytes c.args.raw.now text)
