use Rattle.std.proofs.Common.{ap}
use Rattle.std.specs.Option.{option_map}
use Rattle.std.proofs.lemmas.Result.{on_ok_weaker}
use Rattle.qc_named.proofs.bodies.add_param.Goals as goal

pub returns-in-None : goal.returns-in-None
returns-in-None c =
    on_ok_weaker c.add_value.result (λ h params before. h params (ap (option_map (λ n. n.value)) c.in-None.is) before) c.add_value.ensures

pub returns-in-Some : goal.returns-in-Some
returns-in-Some c =
    on_ok_weaker c.add_function.result (λ h params before. h params (ap (option_map (λ n. n.value)) c.in-Some.is) before) c.add_function.ensures
