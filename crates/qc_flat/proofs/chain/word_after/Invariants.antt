use Rattle.std.proofs.Common.{◌≡◌, ◌<◌, ◌^◌, drop}
use Rattle.qc_terms.specs.State.{context_of}
use Rattle.qc_flat.specs.Chain.{AreTypedLinks, after_links, width_before}
use Rattle.qc_flat.proofs.chain.word_after.Given as goal

abbrev pub invariant-loop-link : goal.invariant-loop-link
invariant-loop-link l = record {
  value : after_links (drop l.link-index l.links) l.made l.state ≡ after_links l.links l.fn.word l.state;
  typed : AreTypedLinks (context_of l.state) l.fn.width (drop l.link-index l.links);
  fits : l.made < 2 ^ width_before l.fn.width (drop l.link-index l.links);
}
