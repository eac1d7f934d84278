use Rattle.std.proofs.Common.{◌∙◌, sym, ap}
use Rattle.std.proofs.lemmas.Result.{IfOk-weaker}
use Rattle.qc_terms.specs.Tree.{Unary, Binary, Load, tree_of, tree_of-un, tree_of-bin, tree_of-mem}
use Rattle.qc_pool.specs.Nodes.{term_at}
use Rattle.qc_pool.specs.Regions.{IsAdded, IsInterned}
use Rattle.qc_pool.specs.Law.Kept.{at_id}
use Rattle.qc_pool.proofs.Interned.{un_fits, un_interned, bin_fits, bin_interned, mem_interned}
use Rattle.qc_pool.proofs.region.Pool.+intern_parts.Goals as goal

pub add-requires-in-Un : goal.add-requires-in-Un
add-requires-in-Un t c =
    un_fits c.args.self.now c.intern_parts.new.self c.in-Un.op (tree_of c.get.result.now) (tree_of c.args.term.now) c.in_ok-arg-in-Un.arg
    (ap tree_of c.in-Un.is ∙ tree_of-un c.in-Un.op c.in-Un.arg ∙ ap (λ u. Unary c.in-Un.op (tree_of u)) (sym c.get.ensures))
    c.requires c.in_ok-arg-in-Un.ensures.interned

pub add-requires-in-Bin : goal.add-requires-in-Bin
add-requires-in-Bin t c =
    bin_fits c.args.self.now c.intern_parts-in-Bin.new.self c.intern_parts-in-Bin-2.new.self c.in-Bin.op
    (tree_of c.get-in-Bin.result.now) (tree_of c.get-in-Bin-2.result.now) (tree_of c.args.term.now)
    c.in_ok-left-in-Bin.left c.in_ok-right-in-Bin.right
    (ap tree_of c.in-Bin.is ∙ tree_of-bin c.in-Bin.op c.in-Bin.left c.in-Bin.right
    ∙ ap (λ u. Binary c.in-Bin.op (tree_of u) (tree_of c.in-Bin.right)) (sym c.get-in-Bin.ensures)
    ∙ ap (λ u. Binary c.in-Bin.op (tree_of c.get-in-Bin.result.now) (tree_of u)) (sym c.get-in-Bin-2.ensures))
    c.requires c.in_ok-left-in-Bin.ensures.interned c.in_ok-right-in-Bin.ensures.interned

pub add-requires-in-Mem : goal.add-requires-in-Mem
add-requires-in-Mem t c =
    (at_id c.intern_parts-in-Mem.new.self c.in_ok-address-in-Mem.address (tree_of c.get-in-Mem.result.now)
    c.in_ok-address-in-Mem.ensures.interned.at).0

pub returns-in_ok-arg-in-Un-clause-interned : goal.returns-in_ok-arg-in-Un-clause-interned
returns-in_ok-arg-in-Un-clause-interned t c =
    let mid = c.intern_parts.new.self in
    let new = c.add-in-Un.new.self in
    let x = c.in_ok-arg-in-Un.arg in
    IfOk-weaker c.add-in-Un.result (λ id. IsAdded mid new (Unary c.in-Un.op (term_at mid x)) id)
    (λ id. IsInterned c.args.self.now new (tree_of c.args.term.now) id)
    (λ id added. un_interned c.args.self.now mid new c.in-Un.op (tree_of c.get.result.now) (tree_of c.args.term.now) x id
    (ap tree_of c.in-Un.is ∙ tree_of-un c.in-Un.op c.in-Un.arg ∙ ap (λ u. Unary c.in-Un.op (tree_of u)) (sym c.get.ensures))
    c.in_ok-arg-in-Un.ensures.interned added)
    c.add-in-Un.ensures.added

pub returns-in_ok-right-in-Bin-clause-interned : goal.returns-in_ok-right-in-Bin-clause-interned
returns-in_ok-right-in-Bin-clause-interned t c =
    let mid = c.intern_parts-in-Bin.new.self in
    let last = c.intern_parts-in-Bin-2.new.self in
    let new = c.add-in-Bin.new.self in
    let x = c.in_ok-left-in-Bin.left in
    let y = c.in_ok-right-in-Bin.right in
    IfOk-weaker c.add-in-Bin.result (λ id. IsAdded last new (Binary c.in-Bin.op (term_at last x) (term_at last y)) id)
    (λ id. IsInterned c.args.self.now new (tree_of c.args.term.now) id)
    (λ id added. bin_interned c.args.self.now mid last new c.in-Bin.op (tree_of c.get-in-Bin.result.now)
    (tree_of c.get-in-Bin-2.result.now) (tree_of c.args.term.now) x y id
    (ap tree_of c.in-Bin.is ∙ tree_of-bin c.in-Bin.op c.in-Bin.left c.in-Bin.right
    ∙ ap (λ u. Binary c.in-Bin.op (tree_of u) (tree_of c.in-Bin.right)) (sym c.get-in-Bin.ensures)
    ∙ ap (λ u. Binary c.in-Bin.op (tree_of c.get-in-Bin.result.now) (tree_of u)) (sym c.get-in-Bin-2.ensures))
    c.in_ok-left-in-Bin.ensures.interned c.in_ok-right-in-Bin.ensures.interned added)
    c.add-in-Bin.ensures.added

pub returns-in_ok-address-in-Mem-clause-interned : goal.returns-in_ok-address-in-Mem-clause-interned
returns-in_ok-address-in-Mem-clause-interned t c =
    let mid = c.intern_parts-in-Mem.new.self in
    let new = c.add-in-Mem.new.self in
    let x = c.in_ok-address-in-Mem.address in
    IfOk-weaker c.add-in-Mem.result (λ id. IsAdded mid new (Load c.in-Mem.width (term_at mid x)) id)
    (λ id. IsInterned c.args.self.now new (tree_of c.args.term.now) id)
    (λ id added. mem_interned c.args.self.now mid new c.in-Mem.width (tree_of c.get-in-Mem.result.now) (tree_of c.args.term.now) x id
    (ap tree_of c.in-Mem.is ∙ tree_of-mem c.in-Mem.width c.in-Mem.address
    ∙ ap (λ u. Load c.in-Mem.width (tree_of u)) (sym c.get-in-Mem.ensures))
    c.in_ok-address-in-Mem.ensures.interned added)
    c.add-in-Mem.ensures.added
