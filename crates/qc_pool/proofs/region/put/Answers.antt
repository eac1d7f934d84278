use Rattle.qc_pool.proofs.Apart.{apart, is_put}
use Rattle.qc_pool.proofs.region.put.Goals as goal

pub returns-in-Ok-clause-put : goal.returns-in-Ok-clause-put
returns-in-Ok-clause-put c =
    is_put c.args.entries.now.keys c.insert_full.new.self.keys (record { node = c.args.node; width = c.args.width; constant = c.args.constant }) c.in-Ok.id
    c.in-Ok.ensures.keys c.in-Ok.ensures.stored

pub returns-in-Ok-clause-apart : goal.returns-in-Ok-clause-apart
returns-in-Ok-clause-apart c = apart c.insert_full.new.self.keys c.in-Ok.ensures.unique

pub returns-in-Err-clause-apart : goal.returns-in-Err-clause-apart
returns-in-Err-clause-apart c = apart c.insert_full.new.self.keys c.in-Err.ensures.unique
