use Rattle.qc_grammar.specs.Law.ReadAgain.{file_tree, read_again, words_alone}
use Rattle.qc_grammar.specs.Printing.{as_text}
use Rattle.qc_cmm.specs.Cmm.{cmm, program}
use Rattle.qc_cmm.specs.Vocabulary.{vocabulary}
use Rattle.qc_cmm.specs.Printed.{program_words}
use Rattle.qc_cmm.specs.Law.Respelled.{vocabulary_respelled}
use Rattle.qc_cmm.specs.Law.Texts.{program_texts}
use Rattle.qc_cmm.proofs.writer.write_cmm.Goals as goal

pub returns-clause-words : goal.returns-clause-words
returns-clause-words c = words_alone cmm program vocabulary as_text program_words program_texts c.args.p.now
    c.new-out.result.items c.write_program.new.out.items c.new-out.ensures.items c.in_ok-write_program.ensures

pub returns-clause-again : goal.returns-clause-again
returns-clause-again c = λ is. read_again cmm program vocabulary as_text c.printed_tokens_are_tokens.ensures
    (vocabulary_respelled as_text c.printed_tokens_are_tokens.ensures) c.words_are_tokens.ensures c.args.p.now is
    c.write_program.new.out.items (returns-clause-words c)

pub returns-clause-file_again : goal.returns-clause-file_again
returns-clause-file_again c = λ bytes text. returns-clause-again c
    (file_tree cmm program vocabulary as_text c.texts_of_their_kinds.ensures c.one_end.ensures bytes c.args.p.now text)
