use Rattle.std.proofs.Common.{◌≡◌, ◌∙◌, ◌<◌, ◌+◌, ◌++◌, ℕ, take, drop, get_or, slice_set, length, All, subst, sym, ap, arith}
use Rattle.std.proofs.lemmas.List.Elements.{All-append, All-drop, All-from_get_or, All-take}
use Rattle.std.proofs.lemmas.List.{length-take-le, take-append-drop, take_all}
use Rattle.qc_terms.specs.Memory.{with_bytes}
use Rattle.qc_terms.proofs.Bytes.{with-more, with_bytes-length}
use Rattle.qc_terms.proofs.memory.set_bytes.Goals as goal

pub loop-place-init : goal.loop-place-init
loop-place-init c =
    let start : c.args.address + 0 ≡ c.args.address = omega arith in
    sym (ap (λ n. take c.args.address c.args.memory.now ++ drop n c.args.memory.now) start
    ∙ take-append-drop c.args.address c.args.memory.now)

pub overflow_add-address : goal.overflow_add-address
overflow_add-address c = omega (arith, c.loop-place-test.true, c.requires, c.len-size.type_inv, c.len-size.ensures)

pub set-requires : goal.set-requires
set-requires c =
    let place = c.loop-place.place in
    let bytes = c.args.bytes.now in
    let size : length (take place bytes) ≡ place = length-take-le place bytes (omega (arith, c.loop-place-test.true)) in
    omega (
      arith,
      ap length c.loop-place.invariant,
      size,
      c.requires,
      c.loop-place-test.true,
      with_bytes-length c.args.memory.now c.args.address (take place bytes) (omega (arith, size, c.requires, c.loop-place-test.true)),
    )

pub loop-place-preserved : goal.loop-place-preserved
loop-place-preserved c =
    c.set.ensures
    ∙ ap (λ m. slice_set m (c.args.address + c.loop-place.place) (get_or c.args.bytes.now c.loop-place.place 0)) c.loop-place.invariant
    ∙ with-more c.args.memory.now c.args.address c.args.bytes.now c.loop-place.place c.requires c.loop-place-test.true

pub returns-clause-value : goal.returns-clause-value
returns-clause-value c =
    let end : c.loop-place.place ≡ length c.args.bytes.now = omega (arith, c.loop-place-test.false, c.loop-place.auto.place-end) in
    c.loop-place.invariant ∙ ap (λ n. with_bytes c.args.memory.now c.args.address (take n c.args.bytes.now)) end
    ∙ ap (λ bs. with_bytes c.args.memory.now c.args.address bs) (take_all (length c.args.bytes.now) c.args.bytes.now (omega arith))

pub returns-clause-size : goal.returns-clause-size
returns-clause-size c =
    ap length (returns-clause-value c) ∙ with_bytes-length c.args.memory.now c.args.address c.args.bytes.now c.requires

pub returns-clause-bytes : goal.returns-clause-bytes
returns-clause-bytes c old =
    let P : ℕ → Type 0 = λ byte. byte < 256 in
    let end = c.args.address + length c.args.bytes.now in
    let new : All P c.args.bytes.now = All-from_get_or P c.args.bytes.now 0 (λ i h. omega (arith, c.type_inv.bytes i)) in
    subst (All P) (sym (returns-clause-value c))
    (All-append P (take c.args.address c.args.memory.now) (c.args.bytes.now ++ drop end c.args.memory.now)
    (All-take P c.args.address c.args.memory.now old)
    (All-append P c.args.bytes.now (drop end c.args.memory.now) new (All-drop P end c.args.memory.now old)))
