use Rattle.std.specs.Result.{is_ok}
use Rattle.qc_machine.specs.Cache.{IsKeptOf}
use Rattle.qc_machine.proofs.Kept.{pushed}
use Rattle.qc_machine.proofs.cache.add.Goals as goal

pub returns : goal.returns
returns c = λ d of is.
    pushed (IsKeptOf d) (is_ok c.push.result) c.args.instances.now.items c.push.new.self.items c.args.kept c.push.ensures.items of is
