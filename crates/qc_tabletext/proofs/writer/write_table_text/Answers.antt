use Rattle.qc_grammar.specs.Law.ReadAgain.{file_tree, read_again, words_alone}
use Rattle.qc_grammar.specs.Printing.{as_text}
use Rattle.qc_tabletext.specs.TableText.{table_text, tables}
use Rattle.qc_tabletext.specs.Vocabulary.{vocabulary}
use Rattle.qc_tabletext.specs.Printed.{tables_words, tables_texts}
use Rattle.qc_tabletext.proofs.RespelledTexts.{vocabulary_respelled}
use Rattle.qc_tabletext.proofs.writer.write_table_text.Goals as goal

pub returns-clause-words : goal.returns-clause-words
returns-clause-words c = words_alone table_text tables vocabulary as_text tables_words tables_texts c.args.raw.now
    c.new-out.result.items c.write_tables.new.out.items c.new-out.ensures.items c.in_ok-write_tables.ensures

pub returns-clause-again : goal.returns-clause-again
returns-clause-again c = λ is. read_again table_text tables vocabulary as_text c.printed_tokens_are_tokens.ensures
    (vocabulary_respelled as_text c.printed_tokens_are_tokens.ensures) c.words_are_tokens.ensures c.args.raw.now is
    c.write_tables.new.out.items (returns-clause-words c)

pub returns-clause-file_again : goal.returns-clause-file_again
returns-clause-file_again c = λ bytes text. returns-clause-again c
    (file_tree table_text tables vocabulary as_text c.texts_of_their_kinds.ensures c.one_end.ensures bytes c.args.raw.now text)
