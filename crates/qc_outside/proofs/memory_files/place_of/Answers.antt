use Rattle.std.proofs.Common.{◌≡◌, sym, ◌∙◌, string_bytes, below_more}
use Rattle.std.proofs.lemmas.Slice.Eq.{bytes_eq-Decides}
use Rattle.qc_outside.proofs.MemoryFiles.{file_here}
use Rattle.qc_outside.proofs.memory_files.place_of.Goals as goal

pub returns-then-eq-clause-some : goal.returns-then-eq-clause-some
returns-then-eq-clause-some c = record {
  file = c.file-item.result;
  here = file_here _ _ c.loop-place.place c.file-item.result c.deref-file-items.ensures.value c.loop-place-test.true c.file-item.is;
  named = (bytes_eq-Decides _ _).0 (sym c.eq.ensures ∙ c.if-eq.true);
  before = c.loop-place.invariant;
}

pub loop-place-preserved : goal.loop-place-preserved
loop-place-preserved c = below_more _ _ c.loop-place.invariant (λ file is named.
    let here = file_here _ _ c.loop-place.place c.file-item.result c.deref-file-items.ensures.value c.loop-place-test.true c.file-item.is in
    let e : file ≡ c.file-item.result = cc in
    let yes = (bytes_eq-Decides (string_bytes c.file-item.result.0) (string_bytes c.args.name.now)).1 (let same : string_bytes c.file-item.result.0 ≡ string_bytes c.args.name.now = cc in same) in
    cc)
