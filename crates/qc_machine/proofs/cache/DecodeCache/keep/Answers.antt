use Rattle.std.proofs.lemmas.List.Elements.{All-set}
use Rattle.qc_machine.specs.Cache.{IsKeptOf}
use Rattle.qc_machine.proofs.cache.DecodeCache.keep.Goals as goal

pub returns-then-number-count : goal.returns-then-number-count
returns-then-number-count c = λ d of is.
    All-set (IsKeptOf d) c.args.self.now.instances.items _ c.args.kept is of
