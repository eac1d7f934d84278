-- A law gives for a term exactly what the two sides of its row say.
use Rattle.std.proofs.Common.{◌≡◌, ◌∙◌, ℕ, ◌-◌, ◌^◌, Bool, true, ◌&&◌, refl, ap, sym, subst, arith, Option, None, Some, eq-eqb, le-leb, lt-ltb, nat_eq, nat_lt, nat_le, cond, ◌↔◌}
use Rattle.std.specs.Int.Count.{ones-ones}
use Rattle.std.specs.Option.{option_map}
use Rattle.std.proofs.lemmas.Bool.{and_from}
use Rattle.qc_words.specs.declared.operator.Op.{Op}
use Rattle.qc_words.specs.Width.{IsWidth}
use Rattle.qc_terms.specs.Tree.{Tree, width_of}
use Rattle.qc_equations.specs.declared.form.Left.{Left}
use Rattle.qc_equations.specs.declared.form.Left.TheVariants.{Whole, Constant, OneOperand, TwoOperands, WithLiteral, LeftNested, RightNested, WideComplement, LowBits, Masked}
use Rattle.qc_equations.specs.declared.form.Literal.{Literal}
use Rattle.qc_equations.specs.declared.form.Literal.TheVariants.{LowMask}
use Rattle.qc_equations.specs.declared.names.Law.{Law}
use Rattle.qc_equations.specs.declared.names.Law.TheVariants.{AddZero, AddZeroDrop, OrZeroDrop, XorZeroDrop, ShlZeroDrop, AndOnesDrop, NegSub, NegCom, ComXor, ComSub, ComNeg}
use Rattle.qc_equations.specs.Law.Operators.{op-same}
use Rattle.qc_equations.specs.Matching.{is_constant, is_literal, is_width, part, parts_if, parts_of, same_op}
use Rattle.qc_equations.specs.Pattern.{Parts, fill, literal_value, literal_width, op_of}
use Rattle.qc_equations.specs.Table.{equation_of, gives}
use Rattle.qc_equations.specs.Turning.{Suits, TurnsInto, left_pattern}
use Rattle.qc_equations.specs.Law.Found.{found}

matched : (test : Bool) (given : Parts) → IsWidth (width_of given.a) → test ≡ true → parts_if test given ≡ Some given
matched test given word holds =
    let wide = and_from (nat_le 1 (width_of given.a)) (nat_le (width_of given.a) 64) (le-leb _ _ word.0) (le-leb _ _ word.1) in
    ap (λ b. cond b (Some given) None) (and_from (is_width (width_of given.a)) test wide holds)

-- the parts that the search finds: those that the form uses
abbrev kept : Left → Parts → Parts
kept Whole parts = part parts.a 0
kept (OneOperand operator) parts = part parts.a 0
kept (WithLiteral op literal) parts = part parts.a 0
kept (TwoOperands op) parts = record { a = parts.a; b = parts.b; c = parts.a; size = 0 }
kept (LeftNested op) parts = record { a = parts.a; b = parts.b; c = parts.c; size = 0 }
kept (RightNested op) parts = record { a = parts.a; b = parts.b; c = parts.c; size = 0 }
kept _ parts = part parts.a parts.size

-- the size is no part of these forms
abbrev IsPlain : Left → Type 0
IsPlain (OneOperand operator) = (w m : ℕ) → op_of operator w m ≡ op_of operator w 0
IsPlain (WithLiteral op literal) =
    (w m : ℕ) → (literal_value literal w m ≡ literal_value literal w 0) × (literal_width literal w m ≡ literal_width literal w 0)
IsPlain _ = Unit {0}

plain : (law : Law) → IsPlain (equation_of law).left
plain AddZeroDrop = λ w m. (refl, refl)
plain OrZeroDrop = λ w m. (refl, refl)
plain XorZeroDrop = λ w m. (refl, refl)
plain ShlZeroDrop = λ w m. (refl, refl)
plain AndOnesDrop = λ w m. (refl, refl)
plain NegSub = λ w m. refl
plain NegCom = λ w m. refl
plain ComXor = λ w m. refl
plain ComSub = λ w m. refl
plain ComNeg = λ w m. refl
plain _ = tt

same_operator : (op other : Op) → op ≡ other → same_op op other ≡ true
same_operator op other e = subst (λ (o : Op). same_op op o ≡ true) e (op-same op)

same_literal : (literal : Literal) (given : Parts) (value width : ℕ) → value ≡ literal_value literal (width_of given.a) given.size →
    width ≡ literal_width literal (width_of given.a) given.size → is_literal literal given value width ≡ true
same_literal literal given value width values widths =
    and_from (nat_eq value (literal_value literal (width_of given.a) given.size))
    (nat_eq width (literal_width literal (width_of given.a) given.size)) (eq-eqb _ _ values) (eq-eqb _ _ widths)

masked_parts : (parts : Parts) → IsWidth (width_of parts.a) → Suits Masked parts →
    parts_of Masked (fill (left_pattern Masked) parts) ≡ Some (part parts.a parts.size)
masked_parts parts word suits =
    let w = width_of parts.a in
    let mask = 2 ^ parts.size - 1 in
    rw (ones-ones parts.size)
    (matched (nat_le 1 parts.size && (nat_lt parts.size w && is_literal LowMask (part parts.a parts.size) mask w)) (part parts.a parts.size) word
    (and_from (nat_le 1 parts.size) (nat_lt parts.size w && is_literal LowMask (part parts.a parts.size) mask w) (le-leb _ _ suits.0)
    (and_from (nat_lt parts.size w) (is_literal LowMask (part parts.a parts.size) mask w) (lt-ltb _ _ suits.1)
    (same_literal LowMask (part parts.a parts.size) mask w refl refl))))

matches : (left : Left) (parts : Parts) → IsPlain left → IsWidth (width_of parts.a) → Suits left parts →
    parts_of left (fill (left_pattern left) parts) ≡ Some (kept left parts)
matches Whole parts is_plain word suits = matched true (part parts.a 0) word refl
matches (Constant bits) parts is_plain word suits =
    subst (λ (n : ℕ). parts_of (Constant n) parts.a ≡ Some (part parts.a parts.size)) suits.1
    (matched (is_constant parts.a && nat_lt parts.size (width_of parts.a)) (part parts.a parts.size) word
    (and_from (is_constant parts.a) (nat_lt parts.size (width_of parts.a)) suits.0
    (lt-ltb parts.size (width_of parts.a) (omega (arith, suits.1, suits.2)))))
matches (OneOperand operator) parts is_plain word suits =
    matched (same_op (op_of operator (width_of parts.a) parts.size) (op_of operator (width_of parts.a) 0)) (part parts.a 0) word
    (same_operator _ _ (is_plain (width_of parts.a) parts.size))
matches (TwoOperands op) parts is_plain word suits = matched (same_op op op) (kept (TwoOperands op) parts) word (op-same op)
matches (WithLiteral op literal) parts is_plain word suits =
    let w = width_of parts.a in
    let value = literal_value literal w parts.size in
    let width = literal_width literal w parts.size in
    let same = is_plain w parts.size in
    matched (same_op op op && is_literal literal (part parts.a 0) value width) (part parts.a 0) word
    (and_from (same_op op op) (is_literal literal (part parts.a 0) value width) (op-same op)
    (same_literal literal (part parts.a 0) value width same.0 same.1))
matches (LeftNested op) parts is_plain word suits =
    matched (same_op op op && same_op op op) (kept (LeftNested op) parts) word
    (and_from (same_op op op) (same_op op op) (op-same op) (op-same op))
matches (RightNested op) parts is_plain word suits =
    matched (same_op op op && same_op op op) (kept (RightNested op) parts) word
    (and_from (same_op op op) (same_op op op) (op-same op) (op-same op))
matches WideComplement parts is_plain word suits =
    matched (nat_eq (width_of parts.a) 1) (part parts.a parts.size) word (eq-eqb (width_of parts.a) 1 suits)
matches (LowBits extension) parts is_plain word suits =
    let op = op_of extension (width_of parts.a) parts.size in
    matched (same_op op op && (nat_eq 0 0 && nat_le 1 parts.size)) (part parts.a parts.size) word
    (and_from (same_op op op) (nat_eq 0 0 && nat_le 1 parts.size) (op-same op)
    (and_from (nat_eq 0 0) (nat_le 1 parts.size) refl (le-leb 1 parts.size suits)))
matches Masked parts is_plain word suits = masked_parts parts word suits

-- the right side is the same over the parts that the form uses
same_right : (law : Law) (parts : Parts) → fill (equation_of law).right (kept (equation_of law).left parts) ≡ fill (equation_of law).right parts
same_right AddZero parts = refl
same_right _ parts = refl

pub turns : (law : Law) (t u : Tree) → (gives law t ≡ Some u) ↔ TurnsInto law t u
turns law t u = (forth, back)
  where
    back : TurnsInto law t u → gives law t ≡ Some u
    back it =
        ap (gives law) it.left
        ∙ ap (option_map (fill (equation_of law).right)) (matches (equation_of law).left it.parts (plain law) it.word it.suits)
        ∙ ap Some (same_right law it.parts ∙ sym it.right)

    from : (it : Option Parts) → parts_of (equation_of law).left t ≡ it → option_map (fill (equation_of law).right) it ≡ Some u →
        TurnsInto law t u
    from None is given = cc
    from (Some parts) is given =
        let it = found (equation_of law).left t parts is in
        record { parts = parts; word = it.width; suits = it.suits; left = sym it.whole; right = cc }

    forth : gives law t ≡ Some u → TurnsInto law t u
    forth given = from (parts_of (equation_of law).left t) refl given
