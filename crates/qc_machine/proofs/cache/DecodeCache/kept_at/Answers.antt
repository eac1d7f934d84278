use Rattle.std.proofs.Common.{◌∙◌, ◌++◌, ap, refl}
use Rattle.qc_machine.specs.Cache.{IsKeptOf}
use Rattle.qc_machine.proofs.Kept.{read_holds}
use Rattle.qc_machine.proofs.cache.DecodeCache.kept_at.Goals as goal

pub returns-then-stand_at : goal.returns-then-stand_at
returns-then-stand_at c = λ d of.
    let found = c.in-Some.ensures.lookup in
    let stands = c.stand_at.ensures c.if-stand_at.true in
    record {
      is = read_holds (IsKeptOf d) c.args.self.now.instances.items c.as_slice.result.now _
          c.in-Some.kept.now c.in-Some.kept.now of c.as_slice.ensures.value found.3.0 found.1 refl;
      there = c.if-kept-at.true;
      more = stands.0;
      prefix = stands.1 ∙ ap (λ bytes. bytes ++ stands.0) c.as_slice-then-kept-at.ensures.value;
    }
