use Rattle.std.proofs.Common.{refl, rules}
use Rattle.qc_grammar.specs.Grammar.{nonterminal}
use Rattle.qc_grammar.specs.Lists.{Shortens}
use Rattle.qc_grammar.specs.Law.Lists.{shortens_of}
use Rattle.qc_grammar.specs.Law.Loops.{gives_alike}
use Rattle.qc_grammar.specs.Reading.{first, reads}
use Rattle.qc_cmm.specs.Cmm.{cmm, cmm_is_readable, any_statement, statement, statement_unrolls, statements}
use Rattle.qc_cmm.proofs.statements.+statements.Goals as goal

pub read_any_statement-returns : goal.read_any_statement-returns
read_any_statement-returns t c =
    gives_alike c.read_statement.result c.args.cursor.now c.read_statement.new.cursor (reads cmm statement) _
    statement_unrolls c.read_statement.ensures

-- a statement has a token
shortens : Shortens (reads cmm (nonterminal any_statement))
shortens = shortens_of cmm cmm_is_readable.rules (nonterminal any_statement) refl refl

pub read_statements-read_many_by-requires : goal.read_statements-read_many_by-requires
read_statements-read_many_by-requires t c κs = (
  search rules,
  (search rules, (search rules, λ next item after given. shortens next.now (item, after.now) given.0)),
)

pub read_statements-returns : goal.read_statements-returns
unfolding statements
read_statements-returns t c =
    c.read_many_by.ensures (reads cmm (nonterminal any_statement)) (first cmm (nonterminal any_statement)) shortens
    (λ old result new given. given) (λ next comes is. is)
