use Rattle.std.proofs.Common.{rules}
use Rattle.qc_grammar.proofs.lists.read_many.Goals as goal

pub read_many_by-requires : goal.read_many_by-requires
read_many_by-requires g c κs = (
  search rules,
  (
    search rules,
    (search rules, λ next item after given. g.met.T.Phrase.shortens next.now (item, after.now) given.0),
  ),
)
