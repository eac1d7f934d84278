use Rattle.std.proofs.Common.{nat_eq, refl}
use Rattle.std.specs.List.{list_any}
use Rattle.qc_rewrite.proofs.Noted.{noted}
use Rattle.qc_rewrite.proofs.table.note.Goals as goal

pub returns-in-Ok : goal.returns-in-Ok
returns-in-Ok c =
    noted c.args.seen.now.keys c.insert_full.new.self.keys c.args.number (list_any (nat_eq c.args.number) c.args.seen.now.keys)
    c.in-Ok.fresh refl c.in-Ok.ensures.added c.in-Ok.ensures.keys
