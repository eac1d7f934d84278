use Rattle.std.proofs.Common.{◌∙◌, sym, ap, length}
use Rattle.qc_grammar.specs.declared.cursor.Stop.TheVariants.{At}
use Rattle.qc_grammar.proofs.Lexemes.{length-lexemes}
use Rattle.qc_grammar.proofs.cursor.Cursor.stop.Goals as goal

pub returns : goal.returns
returns c = ap At (sym (length-lexemes _ _ _) ∙ ap length c.self.view_is)
