use Rattle.qc_grammar.specs.Law.ReadAgain.{file_tree, read_again, reserving_respelled, words_alone}
use Rattle.qc_grammar.specs.Printing.{as_text}
use Rattle.qc_sample.specs.Sample.{reserved, vocabulary}
use Rattle.qc_sample.specs.Blocks.{blocks, block}
use Rattle.qc_sample.specs.PrintedBlocks.{block_words, block_texts}
use Rattle.qc_sample.proofs.block_writer.write_block.Goals as goal

pub returns-clause-words : goal.returns-clause-words
returns-clause-words c = words_alone blocks block vocabulary as_text block_words block_texts c.args.b.now
    c.new-out.result.items c.write_words.new.out.items c.new-out.ensures.items c.in_ok-write_words.ensures

pub returns-clause-again : goal.returns-clause-again
returns-clause-again c = λ is. read_again blocks block vocabulary as_text c.printed_tokens_are_tokens.ensures
    (reserving_respelled reserved as_text c.printed_tokens_are_tokens.ensures) c.words_are_tokens.ensures c.args.b.now is
    c.write_words.new.out.items (returns-clause-words c)

pub returns-clause-file_again : goal.returns-clause-file_again
returns-clause-file_again c = λ bytes text. returns-clause-again c
    (file_tree blocks block vocabulary as_text c.texts_of_their_kinds.ensures c.one_end.ensures bytes c.args.b.now text)
