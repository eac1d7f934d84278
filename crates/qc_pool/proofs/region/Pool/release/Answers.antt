use Rattle.std.proofs.Common.{◌∙◌, ap, [], take}
use Rattle.qc_pool.specs.Entries.{terms_of}
use Rattle.qc_pool.proofs.Sound.{sound-take, terms_of-take}
use Rattle.qc_pool.proofs.Apart.{apart}
use Rattle.qc_pool.proofs.region.Pool.release.Goals as goal

pub invariant_of-self : goal.invariant_of-self
invariant_of-self c = record {
  sound = rw c.truncate.ensures.keys (sound-take [] c.mark.inside.0 c.self.inside.entries.keys c.self.invariant.sound);
  apart = apart c.truncate.new.self.keys c.truncate.ensures.unique;
}

pub returns : goal.returns
returns c =
    ap terms_of c.truncate.ensures.keys ∙ terms_of-take c.mark.inside.0 c.self.inside.entries.keys
    ∙ ap (λ m. take m (terms_of c.self.inside.entries.keys)) c.mark.view_is
    ∙ ap (λ ts. take c.args.mark ts) c.self.view_is
