-- The description of the shipped texts of tin32.
use Rattle.std.proofs.Common.{◌≡◌, subst, Bool, false}
use Rattle.std.specs.Prelude.{IsTrue, ◌↔◌}
use Rattle.qc_constants.specs.Constants.{HasConstants}
use Rattle.qc_descr.specs.declared.description.Description.{Description}
use Rattle.qc_shipped.specs.declared.tin32.TheConstants.{TIN32_LRTL, TIN32_SLED}
use Rattle.qc_widths.specs.declared.machine.Machine.{Machine}
use Rattle.qc_core.specs.declared.answer.Fault.{Fault}
use Rattle.qc_core.specs.Compilation.{IsShipped, IsTin32}
use Rattle.qc_core.specs.Inner.LowerLaws.{TokenLaws}
use Rattle.qc_core.specs.Texts.{IsCodingFault, IsMachineFault, MeansDescription, MeansMachine}
use Rattle.qc_core.proofs.Checks.{described_not_faulty, machine_not_faulty, one_described, one_machine}

-- there is none where a text is refused
pub no_machine : TokenLaws → (fault : Fault) → IsMachineFault 1 TIN32_LRTL.now fault → (d : Description) → IsShipped d → ⊥
no_machine laws fault p d shipped = machine_not_faulty laws 1 TIN32_LRTL.now shipped.machine fault shipped.means p

pub no_coding : TokenLaws → (machine : Machine) (fault : Fault) → MeansMachine TIN32_LRTL.now machine → IsCodingFault machine 2 TIN32_SLED.now fault → (d : Description) → IsShipped d → ⊥
no_coding laws machine fault means p d shipped =
    let same : shipped.machine ≡ machine = one_machine laws TIN32_LRTL.now shipped.machine machine shipped.means means in
    described_not_faulty laws machine 2 TIN32_SLED.now d fault (subst (λ m. MeansDescription m TIN32_SLED.now d) same shipped.makes) p

-- there is one
pub one_shipped : TokenLaws → (d e : Description) → IsShipped d → IsShipped e → d ≡ e
one_shipped laws d e p q =
    let same : q.machine ≡ p.machine = one_machine laws TIN32_LRTL.now q.machine p.machine q.means p.means in
    one_described laws p.machine TIN32_SLED.now d e p.makes (subst (λ m. MeansDescription m TIN32_SLED.now e) same q.makes)

false_true : (b : Bool) → b ≡ false → IsTrue b → ⊥
false_true b is holds = cc

-- no description, or another one, is not that of tin32
pub not_tin32 : (d : Description) (test : Bool) → test ≡ false → (IsTin32 d → ⊥) → IsTrue test ↔ IsTin32 d
not_tin32 d test is never = (λ yes. absurd cc, λ tin32. absurd (never tin32))

pub is_tin32 : (d e : Description) (test : Bool) → IsShipped e → e ≡ d → (IsTrue test ↔ HasConstants d) → IsTrue test ↔ IsTin32 d
is_tin32 d e test shipped same has =
    (λ yes. record { shipped = subst IsShipped same shipped; constants = has.0 yes }, λ tin32. has.1 tin32.constants)

-- another description than the shipped one
pub other_tin32 : TokenLaws → (d e : Description) (test same : Bool) → test ≡ false → same ≡ false → IsShipped e → (IsTrue same ↔ (e ≡ d)) → IsTrue test ↔ IsTin32 d
other_tin32 laws d e test same none is shipped shows =
    not_tin32 d test none (λ tin32. false_true same is (shows.1 (one_shipped laws e d shipped tin32.shipped)))

-- what a test that fails stands for isn't so
pub test_fails : {P : Type 0} (test : Bool) → test ≡ false → (IsTrue test ↔ P) → P → ⊥
test_fails test is shows p = false_true test is (shows.1 p)
