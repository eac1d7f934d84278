use Rattle.std.proofs.Common.{◌∙◌}
use Rattle.std.specs.Str.{bytes_eq}
use Rattle.qc_grammar.proofs.Names.{any_behind}
use Rattle.qc_grammar.proofs.classes.is_one_of.Goals as goal

pub returns : goal.returns
returns c = c.contains.ensures.value ∙ any_behind (λ word. bytes_eq word c.args.text.now) c.args.names.now
