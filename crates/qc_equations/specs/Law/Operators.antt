-- The test of operators holds exactly of equal ones.
use Rattle.std.proofs.Common.{◌≡◌, ◌∙◌, ap, eq-eqb, eqb-true, refl, true, nat_eq}
use Rattle.std.proofs.lemmas.Bool.{and_from, and_parts}
use Rattle.qc_words.specs.declared.operator.Op.{Op}
use Rattle.qc_words.specs.declared.operator.Op.TheVariants.{Add, Sub, Mul, Divu, Modu, Quot, Rem, And, Or, Xor, Com, Neg, Shl, Shrl, Shra, Eq, Ne, Lt, Ge, Ltu, Geu, Zx, Sx, Slice}
use Rattle.qc_equations.specs.Matching.{same_op}

pub same-op : (op other : Op) → same_op op other ≡ true → op ≡ other
same-op Add Add e = refl
same-op Sub Sub e = refl
same-op Mul Mul e = refl
same-op Divu Divu e = refl
same-op Modu Modu e = refl
same-op Quot Quot e = refl
same-op Rem Rem e = refl
same-op And And e = refl
same-op Or Or e = refl
same-op Xor Xor e = refl
same-op Com Com e = refl
same-op Neg Neg e = refl
same-op Shl Shl e = refl
same-op Shrl Shrl e = refl
same-op Shra Shra e = refl
same-op Eq Eq e = refl
same-op Ne Ne e = refl
same-op Lt Lt e = refl
same-op Ge Ge e = refl
same-op Ltu Ltu e = refl
same-op Geu Geu e = refl
same-op (Zx to) (Zx other) e = ap Zx (eqb-true to other e)
same-op (Sx to) (Sx other) e = ap Sx (eqb-true to other e)
same-op (Slice low to) (Slice start other) e =
    let parts = and_parts (nat_eq low start) (nat_eq to other) e in
    ap (λ n. Slice n to) (eqb-true low start parts.0) ∙ ap (Slice start) (eqb-true to other parts.1)
same-op _ _ e = cc

pub op-same : (op : Op) → same_op op op ≡ true
op-same (Zx to) = eq-eqb to to refl
op-same (Sx to) = eq-eqb to to refl
op-same (Slice low to) = and_from (nat_eq low low) (nat_eq to to) (eq-eqb low low refl) (eq-eqb to to refl)
op-same _ = refl
