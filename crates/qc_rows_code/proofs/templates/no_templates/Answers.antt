use Rattle.std.proofs.Common.{◌≡◌, ◌∙◌, List, [], ◌∷◌, ◌++◌, length, Option, None, sym, ap, subst, arith}
use Rattle.std.proofs.lemmas.List.{length-append}
use Rattle.qc_tiles.specs.Sound.{facts_of}
use Rattle.qc_tiles.specs.Tiles.{tiles_of}
use Rattle.qc_code.specs.declared.template.Template.{Template}
use Rattle.qc_rows_code.proofs.Nones.{AreNone, one_more}
use Rattle.qc_rows_code.proofs.templates.no_templates.Goals as goal

pub loop-tile-preserved : goal.loop-tile-preserved
loop-tile-preserved c =
    let before : List (Option Template) = c.loop-tile.list.items in
    let pushed : c.push.new.self.items ≡ before ++ None ∷ [] = c.in_ok-push.ensures.items in
    record {
      count = ap length pushed ∙ omega (arith, length-append before (None ∷ []), c.loop-tile.invariant.count);
      none = subst AreNone (sym pushed) (one_more before c.loop-tile.invariant.none);
    }

pub returns : goal.returns
returns c =
    let listed : c.in_ok-tiles.tiles.items ≡ tiles_of (facts_of c.args.machine.now) =
    c.in_ok-tiles.ensures ∙ ap tiles_of c.of.ensures in
    record {
      entries = omega (
        arith,
        c.loop-tile.invariant.count,
        c.loop-tile-test.false,
        c.loop-tile.auto._tile-index-end,
        ap (λ ts. length ts) (c.deref-tile-items.ensures.value ∙ listed),
      );
      each = λ place t x tile stands. absurd (c.loop-tile.invariant.none place x stands);
    }
