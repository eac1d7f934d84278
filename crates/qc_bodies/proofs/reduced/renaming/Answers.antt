use Rattle.std.proofs.Common.{◌≡◌, [], map, sym, ◌∙◌, ap, arith}
use Rattle.qc_bodies.specs.Meanings.{value}
use Rattle.qc_bodies.specs.Normals.{at_places, normal_of, normal-use}
use Rattle.qc_bodies.specs.Written.{written}
use Rattle.qc_bodies.proofs.Shaping.{get_within, renamed}
use Rattle.qc_bodies.proofs.reduced.renaming.Goals as goal

pub returns-in_ok-needed-in-Some : goal.returns-in_ok-needed-in-Some
returns-in_ok-needed-in-Some c = λ own m count comes.
    let number = c.in-Use.number in
    let w = get_within own number (omega arith) in
    let found = rw (c.in-Some.is, c.as_slice.ensures, c.as_slice-in-Use.ensures) at c.in_ok-chosen-in-Use.ensures in
    record {
      function = w.0;
      is = w.1;
      same = λ es.
          let here : c.in_ok-needed-in-Some.needed ≡ c.args.marks.now.used = c.in_ok-needed-in-Some.ensures ∙ c.as_slice-in-Some.ensures in
          (comes es ∙ ap (value written own [] es) (ap normal_of c.in-Use.is ∙ normal-use c.in-Use.token number c.in-Use.args c.in-Use.chosen))
          ∙ (renamed own c.in-Use.token number w.0 (map normal_of c.in-Use.args) c.in-Use.chosen c.in-Some.chosen c.args.marks.now.used es w.1 (found own es)
          ∙ ap (λ l. w.0.value [] (at_places (at_places es l) c.in-Some.chosen)) (sym here));
    }
