use Rattle.std.proofs.Common.{◌∙◌, sym, ap, length}
use Rattle.qc_grammar.proofs.Lexemes.{length-lexemes}
use Rattle.qc_grammar.proofs.cursor.Cursor.left.Goals as goal

pub returns : goal.returns
returns c = sym (length-lexemes _ _ _) ∙ ap length c.self.view_is
