use Rattle.std.proofs.Common.{◌∙◌, sym, ap, [], Some, append-nil, length, take}
use Rattle.std.proofs.Math.Seq.{take-append_seam}
use Rattle.std.proofs.lemmas.Option.{slice_get-get_or}
use Rattle.std.specs.Option.{option_map}
use Rattle.qc_terms.specs.Tree.{Number}
use Rattle.qc_pool.specs.Nodes.{term_at}
use Rattle.qc_equations.specs.declared.form.Left.{Left}
use Rattle.qc_equations.specs.Matching.{parts_of}
use Rattle.qc_equations.specs.Pattern.{fill}
use Rattle.qc_equations.specs.Table.{equation_of}
use Rattle.qc_laws.specs.Inner.Ids.{parts_at}
use Rattle.qc_laws.specs.Inner.Spelling.{spell}
use Rattle.qc_laws.proofs.Standing.{can_stand}
use Rattle.qc_laws.proofs.law.law_gives.Goals as goal

pub make-requires-clause-spelled : goal.make-requires-clause-spelled
make-requires-clause-spelled c =
    let right = (equation_of c.args.law).right in
    let t = term_at c.args.pool.now c.args.id in
    let parts = parts_at c.args.pool.now c.in-Some.ids in
    let widths = c.len-count.ensures.region.widths c.args.id t (slice_get-get_or c.args.pool.now c.args.id (Number 0 1) c.requires) in
    let found = sym (ap (λ (l : Left). parts_of l t) c.left_of.ensures.left) ∙ sym c.in-Some.ensures.parts in
    (right, [], c.as_slice.ensures.value ∙ c.right_of.ensures ∙ sym (append-nil (spell right)), can_stand c.args.law t parts widths c.in-Some.ensures.there.size found)

pub returns-in-Ok-clause-given : goal.returns-in-Ok-clause-given
returns-in-Ok-clause-given c =
    let right = (equation_of c.args.law).right in
    let t = term_at c.args.pool.now c.args.id in
    let list = c.as_slice.ensures.value ∙ c.right_of.ensures ∙ sym (append-nil (spell right)) in
    let made = c.in-Ok.ensures.made right [] list in
    let found = c.in-Some.ensures.parts ∙ ap (λ (l : Left). parts_of l t) c.left_of.ensures.left in
    record {
      there = made.0.there;
      term = ap (λ u. Some u) made.0.term ∙ ap (option_map (fill right)) found;
    }

pub returns-in-Err-clause-kept : goal.returns-in-Err-clause-kept
returns-in-Err-clause-kept c =
    let old = c.args.pool.now in
    let kept = c.in-Err.ensures.kept in
    let same = c.release.ensures ∙ ap (λ m. take m c.make.new.pool) c.mark-mark.ensures ∙ ap (λ ts. take (length old) ts) kept.1
    ∙ take-append_seam old kept.0 in
    ([], same ∙ sym (append-nil old))
