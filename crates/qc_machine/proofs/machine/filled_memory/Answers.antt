use Rattle.std.proofs.Common.{◌≡◌, ◌<◌, ◌-◌, ◌++◌, ℕ, All, length, replicate, subst, sym, arith}
use Rattle.std.proofs.lemmas.Grind.{common_steps}
use Rattle.std.proofs.lemmas.List.Elements.{All-from_get_or}
use Rattle.qc_machine.proofs.Loaded.{filled_bytes}
use Rattle.qc_machine.proofs.machine.filled_memory.Goals as goal

pub returns-clause-bytes : goal.returns-clause-bytes
returns-clause-bytes c =
    let P : ℕ → Type 0 = λ byte. byte < 256 in
    let code = c.args.code.now in
    let initial = c.args.initial.now in
    let gap = c.args.start - length code in
    let rest = c.args.size - c.args.start - length initial in
    let value : c.from_vec.result ≡ code ++ (replicate gap 0 ++ (initial ++ replicate rest 0)) = grind (arith, common_steps) in
    subst (All P) (sym value) (filled_bytes code initial gap rest
    (All-from_get_or P code 0 (λ i h. omega (arith, c.type_inv.code i)))
    (All-from_get_or P initial 0 (λ i h. omega (arith, c.type_inv.initial i))))
