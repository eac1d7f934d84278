use Rattle.qc_grammar.specs.Law.Spelling.{same_words}
use Rattle.qc_grammar.specs.Printing.{as_text}
use Rattle.qc_sample.specs.Blocks.{blocks, block}
use Rattle.qc_sample.specs.PrintedBlocks.{block_words, block_texts}
use Rattle.qc_sample.proofs.laws.same_blocks_have_the_same_words.Goals as goal

pub returns : goal.returns
returns c = same_words as_text blocks block block_words block_texts
