use Rattle.qc_grammar.specs.Lexeme.{lexemes_from}
use Rattle.qc_grammar.specs.Law.Ended.{ended}
use Rattle.qc_grammar.specs.Law.OneAnswer.{answered}
use Rattle.qc_tabletext.specs.TableText.{table_text, tables, table_text_is_readable}
use Rattle.qc_tabletext.proofs.reader.read_tokens.Goals as goal

pub returns : goal.returns
returns c = answered table_text tables table_text_is_readable
    (lexemes_from c.args.source.now 0 c.args.tokens.now)
    (ended c.args.source.now c.args.tokens.now c.requires.ended)
    c.begin-cursor.result.1 c.begin-cursor.ensures.deep c.begin-cursor.result.0 c.begin-cursor.ensures.given
    c.read_whole-read.result c.read_whole-read.new.cursor c.read_whole-read.ensures
    c.left-given.result c.left.result c.left-given.ensures c.left.ensures c.settle.result c.settle.ensures
