use Rattle.std.proofs.Common.{◌∙◌, sym, ap, subst, length}
use Rattle.qc_pool.specs.Regions.{IsRegion}
use Rattle.qc_pool.proofs.Sound.{length-terms_of}
use Rattle.qc_pool.proofs.Added.{region}
use Rattle.qc_pool.proofs.region.Pool.len.Goals as goal

pub returns-clause-len : goal.returns-clause-len
returns-clause-len c =
    c.len.ensures.len ∙ sym (length-terms_of c.self.inside.entries.keys) ∙ ap length c.self.view_is

pub returns-clause-region : goal.returns-clause-region
returns-clause-region c = subst IsRegion c.self.view_is (region c.self.inside.entries.keys c.self.invariant)
