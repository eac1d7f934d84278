use Rattle.std.proofs.Common.{ap, sym, subst, ◌∙◌, length}
use Rattle.qc_grammar.specs.TokenSpans.{InSource}
use Rattle.qc_grammar.specs.Lexeme.{lexemes_from}
use Rattle.qc_grammar.proofs.Lexemes.{lexemes-cut, in_source_cut, deep_within}
use Rattle.qc_grammar.proofs.brackets.begin.Goals as goal

pub front-given-requires : goal.front-given-requires
front-given-requires c =
    deep_within c.args.source.now c.first_too_deep-deep.result c.args.tokens.now
    c.first_too_deep-deep.ensures

pub new-requires : goal.new-requires
new-requires c =
    subst (InSource (length c.args.source.now)) (sym c.front-given.ensures)
    (in_source_cut (length c.args.source.now) c.first_too_deep-deep.result c.args.tokens.now c.requires)

pub returns-clause-given : goal.returns-clause-given
returns-clause-given c =
    c.new.ensures ∙ ap (lexemes_from c.args.source.now 0) c.front-given.ensures
    ∙ lexemes-cut c.args.source.now c.first_too_deep-deep.result
    c.args.tokens.now
