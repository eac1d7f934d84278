use Rattle.std.proofs.Common.{refl, subst, sym, slice_get, ◌≡◌, ◌∙◌, ap, length}
use Rattle.qc_grammar.specs.Lexeme.{classed}
use Rattle.qc_grammar.specs.TokenSpans.{InSource, IsEnded}
use Rattle.qc_grammar.proofs.Scanned.{all_inside, ends}
use Rattle.qc_grammar.proofs.answers.scan.Goals as goal

pub classify-requires : goal.classify-requires
classify-requires g c = λ i token e. c.in-Ok.ensures.inside i token
    (ap (λ tokens. slice_get tokens i) (sym c.as_slice.ensures.value) ∙ e)

pub returns-in-Ok-classify : goal.returns-in-Ok-classify
returns-in-Ok-classify g c =
    let tokens = c.in-Ok.found.items in
    let v = g.V.Vocabulary.vocabulary in
    let bytes = c.args.bytes.now in
    let same : c.in-Ok-classify.classed.items ≡ classed v bytes tokens =
    c.in-Ok-classify.ensures ∙ ap (classed v bytes) c.as_slice.ensures.value in
    record {
      tokens = tokens;
      by_vocabulary = same;
      are = c.in-Ok.ensures.are;
      only = c.in-Ok.ensures.only;
      whole = c.in-Ok.ensures.whole;
      inside = subst (InSource (length bytes)) (sym same)
          (all_inside v bytes _ (length bytes) tokens c.in-Ok.ensures.inside);
      ended = subst IsEnded (sym same) (ends v bytes tokens c.in-Ok.ensures.front _ refl c.in-Ok.ensures.ended);
    }
