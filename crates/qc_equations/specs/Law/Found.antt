-- A term that has the form of a law's left side is the tree of that side over its parts.
use Rattle.std.proofs.Common.{◌≡◌, ◌∙◌, ℕ, ◌<◌, ◌≤◌, Bool, true, false, ◌&&◌, refl, ap, sym, subst, None, Some, eqb-true, ltb-true, leb-true, nat_eq, nat_lt, nat_le, cond}
use Rattle.std.specs.Prelude.{count_ones}
use Rattle.std.proofs.lemmas.Bool.{and_parts}
use Rattle.qc_words.specs.declared.operator.Op.{Op}
use Rattle.qc_words.specs.declared.operator.Op.TheVariants.{And, Com, Zx, Slice}
use Rattle.qc_words.specs.Operators.{result_width_of}
use Rattle.qc_words.specs.Width.{IsWidth}
use Rattle.qc_terms.specs.Tree.{Tree, Number, Unary, Binary, width_of}
use Rattle.qc_equations.specs.declared.form.Left.{Left}
use Rattle.qc_equations.specs.declared.form.Left.TheVariants.{Whole, Constant, OneOperand, TwoOperands, WithLiteral, LeftNested, RightNested, WideComplement, LowBits, Masked}
use Rattle.qc_equations.specs.declared.form.Literal.{Literal}
use Rattle.qc_equations.specs.declared.form.Literal.TheVariants.{LowMask}
use Rattle.qc_equations.specs.declared.form.Operator.{Operator}
use Rattle.qc_equations.specs.Law.Operators.{same-op}
use Rattle.qc_equations.specs.Matching.{is_constant, is_literal, is_width, left_nested, low_bits, masked, one_operand, part, parts_if, parts_of, right_nested, same_op, two_operands, wide_complement, with_literal}
use Rattle.qc_equations.specs.Pattern.{Parts, fill, literal_of, literal_value, literal_width, op_of}
use Rattle.qc_equations.specs.Turning.{Suits, left_pattern}
use Rattle.qc_equations.specs.Law.Fill.{GoesByWidths, HaveOneWidth}

-- what a form asks of the word's width and the size
abbrev pub Within : Left → (word size : ℕ) → Type 0
Within (Constant bits) word size = (size ≡ bits) × (bits < word)
Within WideComplement word size = word ≡ 1
Within (LowBits extension) word size = 1 ≤ size
Within Masked word size = (1 ≤ size) × (size < word)
Within _ word size = Unit {0}

pub suits-within : (left : Left) (parts : Parts) → Suits left parts → Within left (width_of parts.a) parts.size
suits-within (Constant bits) parts suits = (suits.1, suits.2)
suits-within WideComplement parts suits = suits
suits-within (LowBits extension) parts suits = suits
suits-within Masked parts suits = suits
suits-within _ parts suits = tt

-- the operators of nested forms keep the width
abbrev pub Nests : Left → Type 0
Nests (LeftNested op) = (w : ℕ) → result_width_of op w ≡ w
Nests (RightNested op) = (w : ℕ) → result_width_of op w ≡ w
Nests _ = Unit {0}

-- the two operands of each operator that is not under a load have one width
abbrev pub Agrees : Tree → Type 0
Agrees (Unary op arg) = Agrees arg
Agrees (Binary op left right) = (width_of left ≡ width_of right) × Agrees left × Agrees right
Agrees _ = Unit {0}

pub agrees : (Holds : Tree → Type 0) → GoesByWidths Holds → (t : Tree) → Holds t → Agrees t
agrees Holds by (Unary op arg) holds = agrees Holds by arg (by.unary_parts op arg holds).2
agrees Holds by (Binary op left right) holds =
    let it = by.binary_parts op left right holds in (it.2, agrees Holds by left it.3, agrees Holds by right it.4)
agrees Holds by _ holds = tt

pub record IsFound (left : Left) (t : Tree) (parts : Parts) : Type 0 where
  pub whole : fill (left_pattern left) parts ≡ t
  pub width : IsWidth (width_of parts.a)
  pub suits : Suits left parts
  pub widths : Nests left → Agrees t → HaveOneWidth parts

-- what the test of a form says of the parts
record IsTested (test : Bool) (given parts : Parts) : Type 0 where
  holds : test ≡ true
  width : IsWidth (width_of given.a)
  same : given ≡ parts

tested : (test : Bool) (given parts : Parts) → parts_if test given ≡ Some parts → IsTested test given parts
tested test given parts e = go (is_width (width_of given.a)) test refl refl e
  where
    go : (wide holds : Bool) → is_width (width_of given.a) ≡ wide → test ≡ holds →
        cond (wide && holds) (Some given) None ≡ Some parts → IsTested test given parts
    go true true is_wide is_true e =
        let both = and_parts (nat_le 1 (width_of given.a)) (nat_le (width_of given.a) 64) is_wide in
        record { holds = is_true; width = (leb-true _ _ both.0, leb-true _ _ both.1); same = cc }
    go true false is_wide is_true e = cc
    go false holds is_wide is_true e = cc

alone : (a : Tree) (size : ℕ) → HaveOneWidth (part a size)
alone a size = record { b = refl; c = refl }

-- a literal that passes the test is the literal's tree
the_literal : (literal : Literal) (given : Parts) (value width : ℕ) → is_literal literal given value width ≡ true →
    literal_of literal given ≡ Number value width
the_literal literal given value width e =
    let v = literal_value literal (width_of given.a) given.size in
    let w = literal_width literal (width_of given.a) given.size in
    let both = and_parts (nat_eq value v) (nat_eq width w) e in
    sym (ap (λ n. Number n width) (eqb-true value v both.0) ∙ ap (Number v) (eqb-true width w both.1))

found_whole : (t : Tree) (parts : Parts) → parts_of Whole t ≡ Some parts → IsFound Whole t parts
found_whole t parts e =
    let it = tested true (part t 0) parts e in
    subst (λ (p : Parts). IsFound Whole t p) it.same
    (record { whole = refl; width = it.width; suits = tt; widths = λ nests agree. alone t 0 })

found_constant : (bits : ℕ) (t : Tree) (parts : Parts) → parts_of (Constant bits) t ≡ Some parts → IsFound (Constant bits) t parts
found_constant bits t parts e =
    let it = tested (is_constant t && nat_lt bits (width_of t)) (part t bits) parts e in
    let both = and_parts (is_constant t) (nat_lt bits (width_of t)) it.holds in
    subst (λ (p : Parts). IsFound (Constant bits) t p) it.same
    (record {
      whole = refl;
      width = it.width;
      suits = (both.0, refl, ltb-true bits (width_of t) both.1);
      widths = λ nests agree. alone t bits;
    })

found_one : (operator : Operator) (t : Tree) (parts : Parts) → one_operand operator t ≡ Some parts →
    IsFound (OneOperand operator) t parts
found_one operator (Unary op a) parts e =
    let it = tested (same_op op (op_of operator (width_of a) 0)) (part a 0) parts e in
    subst (λ (p : Parts). IsFound (OneOperand operator) (Unary op a) p) it.same
    (record {
      whole = sym (ap (λ o. Unary o a) (same-op op (op_of operator (width_of a) 0) it.holds));
      width = it.width;
      suits = tt;
      widths = λ nests agree. alone a 0;
    })
found_one operator _ parts e = cc

found_two : (op : Op) (t : Tree) (parts : Parts) → two_operands op t ≡ Some parts → IsFound (TwoOperands op) t parts
found_two op (Binary outer a b) parts e =
    let given : Parts = record { a = a; b = b; c = a; size = 0 } in
    let it = tested (same_op outer op) given parts e in
    subst (λ (p : Parts). IsFound (TwoOperands op) (Binary outer a b) p) it.same
    (record {
      whole = sym (ap (λ o. Binary o a b) (same-op outer op it.holds));
      width = it.width;
      suits = tt;
      widths = λ nests agree. record { b = sym agree.0; c = refl };
    })
found_two op _ parts e = cc

found_literal : (op : Op) (literal : Literal) (t : Tree) (parts : Parts) → with_literal op literal t ≡ Some parts →
    IsFound (WithLiteral op literal) t parts
found_literal op literal (Binary outer a (Number value width)) parts e =
    let it = tested (same_op outer op && is_literal literal (part a 0) value width) (part a 0) parts e in
    let both = and_parts (same_op outer op) (is_literal literal (part a 0) value width) it.holds in
    subst (λ (p : Parts). IsFound (WithLiteral op literal) (Binary outer a (Number value width)) p) it.same
    (record {
      whole =
          sym (ap (λ o. Binary o a (literal_of literal (part a 0))) (same-op outer op both.0))
          ∙ ap (Binary outer a) (the_literal literal (part a 0) value width both.1);
      width = it.width;
      suits = tt;
      widths = λ nests agree. alone a 0;
    })
found_literal op literal _ parts e = cc

both_ops : (op outer inner : Op) (f : Op → Op → Tree) → (same_op outer op && same_op inner op) ≡ true → f op op ≡ f outer inner
both_ops op outer inner f e =
    let both = and_parts (same_op outer op) (same_op inner op) e in
    sym (ap (λ o. f o inner) (same-op outer op both.0) ∙ ap (f op) (same-op inner op both.1))

found_left : (op : Op) (t : Tree) (parts : Parts) → left_nested op t ≡ Some parts → IsFound (LeftNested op) t parts
found_left op (Binary outer (Binary inner a b) c) parts e =
    let given : Parts = record { a = a; b = b; c = c; size = 0 } in
    let it = tested (same_op outer op && same_op inner op) given parts e in
    let inner_op = same-op inner op (and_parts (same_op outer op) (same_op inner op) it.holds).1 in
    subst (λ (p : Parts). IsFound (LeftNested op) (Binary outer (Binary inner a b) c) p) it.same
    (record {
      whole = both_ops op outer inner (λ x y. Binary x (Binary y a b) c) it.holds;
      width = it.width;
      suits = tt;
      widths = λ nests agree.
          record {
            b = sym agree.1.0;
            c = sym agree.0 ∙ ap (λ o. result_width_of o (width_of a)) inner_op ∙ nests (width_of a);
          };
    })
found_left op _ parts e = cc

found_right : (op : Op) (t : Tree) (parts : Parts) → right_nested op t ≡ Some parts → IsFound (RightNested op) t parts
found_right op (Binary outer a (Binary inner b c)) parts e =
    let given : Parts = record { a = a; b = b; c = c; size = 0 } in
    let it = tested (same_op outer op && same_op inner op) given parts e in
    let inner_op = same-op inner op (and_parts (same_op outer op) (same_op inner op) it.holds).1 in
    subst (λ (p : Parts). IsFound (RightNested op) (Binary outer a (Binary inner b c)) p) it.same
    (record {
      whole = both_ops op outer inner (λ x y. Binary x a (Binary y b c)) it.holds;
      width = it.width;
      suits = tt;
      widths = λ nests agree.
          let same : width_of b ≡ width_of a =
          sym (nests (width_of b)) ∙ sym (ap (λ o. result_width_of o (width_of b)) inner_op) ∙ sym agree.0 in
          record { b = same; c = sym agree.2.0 ∙ same };
    })
found_right op _ parts e = cc

found_wide : (t : Tree) (parts : Parts) → wide_complement t ≡ Some parts → IsFound WideComplement t parts
found_wide (Unary (Zx to) (Unary Com a)) parts e =
    let it = tested (nat_eq (width_of a) 1) (part a to) parts e in
    subst (λ (p : Parts). IsFound WideComplement (Unary (Zx to) (Unary Com a)) p) it.same
    (record {
      whole = refl;
      width = it.width;
      suits = eqb-true (width_of a) 1 it.holds;
      widths = λ nests agree. alone a to;
    })
found_wide _ parts e = cc

found_low : (extension : Operator) (t : Tree) (parts : Parts) → low_bits extension t ≡ Some parts → IsFound (LowBits extension) t parts
found_low extension (Unary op (Unary (Slice low size) a)) parts e =
    let given = part a size in
    let fits = op_of extension (width_of a) size in
    let it = tested (same_op op fits && (nat_eq low 0 && nat_le 1 size)) given parts e in
    let both = and_parts (same_op op fits) (nat_eq low 0 && nat_le 1 size) it.holds in
    let more = and_parts (nat_eq low 0) (nat_le 1 size) both.1 in
    subst (λ (p : Parts). IsFound (LowBits extension) (Unary op (Unary (Slice low size) a)) p) it.same
    (record {
      whole =
          sym (
          ap (λ o. Unary o (Unary (Slice low size) a)) (same-op op fits both.0)
          ∙ ap (λ n. Unary fits (Unary (Slice n size) a)) (eqb-true low 0 more.0));
      width = it.width;
      suits = leb-true 1 size more.1;
      widths = λ nests agree. alone a size;
    })
found_low extension _ parts e = cc

found_masked : (t : Tree) (parts : Parts) → masked t ≡ Some parts → IsFound Masked t parts
found_masked (Binary And a (Number value width)) parts e =
    let size = count_ones value in
    let given = part a size in
    let mask = is_literal LowMask given value width in
    let it = tested (nat_le 1 size && (nat_lt size (width_of a) && mask)) given parts e in
    let both = and_parts (nat_le 1 size) (nat_lt size (width_of a) && mask) it.holds in
    let more = and_parts (nat_lt size (width_of a)) mask both.1 in
    subst (λ (p : Parts). IsFound Masked (Binary And a (Number value width)) p) it.same
    (record {
      whole = ap (Binary And a) (the_literal LowMask given value width more.1);
      width = it.width;
      suits = (leb-true 1 size both.0, ltb-true size (width_of a) more.0);
      widths = λ nests agree. alone a size;
    })
found_masked _ parts e = cc

pub found : (left : Left) (t : Tree) (parts : Parts) → parts_of left t ≡ Some parts → IsFound left t parts
found Whole t parts e = found_whole t parts e
found (Constant size) t parts e = found_constant size t parts e
found (OneOperand operator) t parts e = found_one operator t parts e
found (TwoOperands op) t parts e = found_two op t parts e
found (WithLiteral op literal) t parts e = found_literal op literal t parts e
found (LeftNested op) t parts e = found_left op t parts e
found (RightNested op) t parts e = found_right op t parts e
found WideComplement t parts e = found_wide t parts e
found (LowBits extension) t parts e = found_low extension t parts e
found Masked t parts e = found_masked t parts e
