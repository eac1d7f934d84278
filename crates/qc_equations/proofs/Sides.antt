-- Both sides of a law are alike.
use Rattle.std.proofs.Common.{◌≡◌, ◌∙◌, ℕ, ◌<◌, ◌^◌, List, Bool, true, false, refl, ap, sym, subst, Option, None, Some, IfSome, option_and_then}
use Rattle.std.specs.Option.{option_map}
use Rattle.std.proofs.lemmas.Bool.{or_from, or_parts}
use Rattle.std.proofs.lemmas.Nat.{pow_pos}
use Rattle.qc_words.specs.declared.operator.Op.{Op}
use Rattle.qc_words.specs.Operators.{result_of}
use Rattle.qc_words.specs.Width.{IsWidth}
use Rattle.qc_terms.specs.declared.state.State.{State}
use Rattle.qc_terms.specs.State.{Context, IsState, context_of}
use Rattle.qc_terms.specs.Tree.{Tree, has_input, width_of}
use Rattle.qc_terms.specs.Typing.{IsTyped, OperandsFit}
use Rattle.qc_terms.specs.Value.{value_of}
use Rattle.qc_equations.specs.declared.names.Law.{Law}
use Rattle.qc_equations.specs.Alike.{AllNodes, AreAlike, IsOfLeaves}
use Rattle.qc_equations.specs.Inner.WordLaws.{WordLaws}
use Rattle.qc_equations.specs.Law.Alike.{alike-refl, alike-trans}
use Rattle.qc_equations.specs.Law.Carried.{carried, carried_back}
use Rattle.qc_equations.specs.Law.Places.{alike-at_places, at-place, at-steps}
use Rattle.qc_equations.specs.Matching.{parts_of}
use Rattle.qc_equations.specs.Pattern.{Parts, fill}
use Rattle.qc_equations.specs.Steps.{after_steps, rewritten}
use Rattle.qc_equations.specs.Table.{equation_of, gives}
use Rattle.qc_equations.specs.Law.Fill.{First, GoesDown, GoesUp, HaveOneWidth, Second, Third, Which, fill-value, part_at, pattern-typed, to_parts, uses, widths_down, word_at}
use Rattle.qc_equations.specs.Law.Found.{Within, agrees, found, suits-within}
use Rattle.qc_equations.specs.Law.Widths.{sides-hold, sides-width, typed_by_widths}
use Rattle.qc_equations.proofs.RowValues.{row_value}
use Rattle.qc_equations.specs.Law.Rows.{left_side, nests, right_side, same_parts}

-- the value of a typed term is a word
abbrev pub TypedValues : Type 0
TypedValues =
    (s : State) (operands : List ℕ) (after : ℕ) → IsState s → after < 2 ^ s.facts.word → (t : Tree) → IsTyped (context_of s) t →
    OperandsFit (context_of s) operands t → IfSome (value_of t operands after s) (λ v. v < 2 ^ width_of t)

-- ---- facts that go between a term and its parts

fits_down : (context : Context) (operands : List ℕ) → GoesDown (OperandsFit context operands)
fits_down context operands = record {
  arg = λ op arg fits. fits;
  left = λ op left right fits. fits.0;
  right = λ op left right fits. fits.1;
}

fits_up : (context : Context) (operands : List ℕ) → GoesUp (OperandsFit context operands)
fits_up context operands = record {
  number = λ value width. tt;
  unary = λ op arg fits. fits;
  binary = λ op left right fits more. (fits, more);
}

nodes_down : (test : Tree → Bool) → GoesDown (AllNodes test)
nodes_down test = record {
  arg = λ op arg all. all.1;
  left = λ op left right all. all.1;
  right = λ op left right all. all.2;
}

nodes_up : (test : Tree → Bool) → IsOfLeaves test → GoesUp (AllNodes test)
nodes_up test of_leaves = record {
  number = of_leaves.numbers;
  unary = λ op arg all. (of_leaves.unary op arg, all);
  binary = λ op left right all more. (of_leaves.binary op left right, all, more);
}

abbrev NoInput : Tree → Type 0
NoInput t = has_input t ≡ false

input_down : GoesDown NoInput
input_down = record {
  arg = λ op arg none. none;
  left = λ op left right none. (or_parts (has_input left) (has_input right) none).0;
  right = λ op left right none. (or_parts (has_input left) (has_input right) none).1;
}

input_up : GoesUp NoInput
input_up = record {
  number = λ value width. refl;
  unary = λ op arg none. none;
  binary = λ op left right none more. or_from (has_input left) (has_input right) none more;
}

-- the term has a value
abbrev HasValue : List ℕ → ℕ → State → Tree → Type 0
HasValue operands after s t = (v : ℕ) × (value_of t operands after s ≡ Some v)

mapped_from : {X Y : Type 0} (f : X → Y) (x : Option X) (y : Y) → option_map f x ≡ Some y → (v : X) × (x ≡ Some v)
mapped_from f None y e = cc
mapped_from f (Some v) y e = (v, refl)

value_down : (operands : List ℕ) (after : ℕ) (s : State) → GoesDown (HasValue operands after s)
value_down operands after s = record {
  arg = λ op arg has. mapped_from _ (value_of arg operands after s) has.0 has.1;
  left = λ op left right has. first_value op (width_of left) _ _ has.0 has.1;
  right = λ op left right has. second_value op (width_of left) _ _ has.0 has.1;
}
  where
    first_value : (op : Op) (w : ℕ) (x y : Option ℕ) (v : ℕ) →
        option_and_then (λ a. option_map (λ b. result_of op w a b) y) x ≡ Some v → (n : ℕ) × (x ≡ Some n)
    first_value op w None y v e = cc
    first_value op w (Some n) y v e = (n, refl)

    second_value : (op : Op) (w : ℕ) (x y : Option ℕ) (v : ℕ) →
        option_and_then (λ a. option_map (λ b. result_of op w a b) y) x ≡ Some v → (n : ℕ) × (y ≡ Some n)
    second_value op w None y v e = cc
    second_value op w (Some n) y v e = mapped_from _ y v e

value_up : (operands : List ℕ) (after : ℕ) (s : State) → GoesUp (HasValue operands after s)
value_up operands after s = record {
  number = λ value width. (value, refl);
  unary = λ op arg has. (result_of op (width_of arg) has.0 0, ap (option_map (λ a. result_of op (width_of arg) a 0)) has.1);
  binary = λ op left right has more. (
    result_of op (width_of left) has.0 more.0,
    ap (option_and_then (λ a. option_map (λ b. result_of op (width_of left) a b) (value_of right operands after s))) has.1
        ∙ ap (option_map (λ b. result_of op (width_of left) has.0 b)) more.1,
  );
}

both_or_none : (x y : Bool) → (x ≡ false → y ≡ false) → (y ≡ false → x ≡ false) → y ≡ x
both_or_none true true there back = refl
both_or_none true false there back = sym (back refl)
both_or_none false true there back = there refl
both_or_none false false there back = refl

-- ---- values

-- the value of a part, or 0 where the part stands in neither side
record PartValue (operands : List ℕ) (after : ℕ) (s : State) (law : Law) (parts : Parts) (x : Which) : Type 0 where
  word : ℕ
  fits : word < 2 ^ width_of parts.a
  is : uses x (left_side law) ≡ true → value_of (part_at x parts) operands after s ≡ Some word

part_width : (parts : Parts) → HaveOneWidth parts → (x : Which) → width_of (part_at x parts) ≡ width_of parts.a
part_width parts one First = refl
part_width parts one Second = one.b
part_width parts one Third = one.c

part_value : (operands : List ℕ) (after : ℕ) (s : State) (law : Law) (parts : Parts) → TypedValues → IsState s →
    after < 2 ^ s.facts.word → HaveOneWidth parts → IsTyped (context_of s) (fill (left_side law) parts) →
    OperandsFit (context_of s) operands (fill (left_side law) parts) →
    HasValue operands after s (fill (left_side law) parts) → (x : Which) → PartValue operands after s law parts x
part_value operands after s law parts words state small one typed fits has x = go (uses x (left_side law)) refl
  where
    go : (used : Bool) → uses x (left_side law) ≡ used → PartValue operands after s law parts x
    go false unused = record { word = 0; fits = pow_pos (width_of parts.a); is = λ used. cc }
    go true used =
        let t = part_at x parts in
        let side = left_side law in
        let its = to_parts (HasValue operands after s) (value_down operands after s) side parts has x used in
        let is_typed = to_parts (IsTyped (context_of s)) (widths_down (IsTyped (context_of s)) (typed_by_widths (context_of s))) side parts typed x used in
        let they_fit = to_parts (OperandsFit (context_of s) operands) (fits_down (context_of s) operands) side parts fits x used in
        let word : its.0 < 2 ^ width_of t =
        subst (λ (v : Option ℕ). IfSome v (λ n. n < 2 ^ width_of t)) its.1 (words s operands after state small t is_typed they_fit) in
        record {
          word = its.0;
          fits = subst (λ (w : ℕ). its.0 < 2 ^ w) (part_width parts one x) word;
          is = λ again. its.1;
        }

same_value : (operands : List ℕ) (after : ℕ) (s : State) (law : Law) (parts : Parts) → WordLaws → TypedValues → IsState s →
    after < 2 ^ s.facts.word → IsWidth (width_of parts.a) → Within (equation_of law).left (width_of parts.a) parts.size →
    HaveOneWidth parts → IsTyped (context_of s) (fill (left_side law) parts) →
    OperandsFit (context_of s) operands (fill (left_side law) parts) →
    HasValue operands after s (fill (left_side law) parts) →
    value_of (fill (right_side law) parts) operands after s ≡ value_of (fill (left_side law) parts) operands after s
same_value operands after s law parts laws words state small width suits one typed fits has =
    fill-value operands after s (right_side law) parts first.word second.word third.word one
    (λ x used. each x (sym (same_parts law x) ∙ used))
    ∙ ap Some
    (row_value laws law (width_of parts.a) parts.size first.word second.word third.word width suits
    (pattern-typed (IsTyped (context_of s)) (typed_by_widths (context_of s)) (left_side law) parts one typed) first.fits second.fits third.fits)
    ∙ sym (fill-value operands after s (left_side law) parts first.word second.word third.word one each)
  where
    at : (x : Which) → PartValue operands after s law parts x
    at = part_value operands after s law parts words state small one typed fits has

    first : PartValue operands after s law parts First
    first = at First

    second : PartValue operands after s law parts Second
    second = at Second

    third : PartValue operands after s law parts Third
    third = at Third

    each : (x : Which) → uses x (left_side law) ≡ true →
        value_of (part_at x parts) operands after s ≡ Some (word_at x first.word second.word third.word)
    each First used = first.is used
    each Second used = second.is used
    each Third used = third.is used

-- ---- both sides are alike

sides_alike : (law : Law) (parts : Parts) → WordLaws → TypedValues → IsWidth (width_of parts.a) →
    Within (equation_of law).left (width_of parts.a) parts.size →
    ((context : Context) → IsTyped context (fill (left_side law) parts) → HaveOneWidth parts) →
    AreAlike (fill (left_side law) parts) (fill (right_side law) parts)
sides_alike law parts laws words width suits widths = record {
  typed = λ context typed.
      sides-hold (IsTyped context) (typed_by_widths context) law parts width suits (widths context typed) typed;
  width = λ context typed.
      sides-width law parts (widths context typed);
  value = λ context operands after s typed state same fits small.
      subst (λ (k : Context). IsTyped k left → OperandsFit k operands left → after < 2 ^ k.word →
      value_of right operands after s ≡ value_of left operands after s)
      same (λ typed fits small. value_alike operands after s typed state fits small) typed fits small;
  fits = λ context operands fits.
      carried (OperandsFit context operands) (fits_down context operands) (fits_up context operands) law parts fits;
  leaves = λ test of_leaves all. carried (AllNodes test) (nodes_down test) (nodes_up test of_leaves) law parts all;
  input = both_or_none (has_input left) (has_input right)
      (λ none. carried NoInput input_down input_up law parts none)
      (λ none. carried_back NoInput input_down input_up law parts none);
}
  where
    left : Tree
    left = fill (left_side law) parts

    right : Tree
    right = fill (right_side law) parts

    value_alike : (operands : List ℕ) (after : ℕ) (s : State) → IsTyped (context_of s) left → IsState s →
        OperandsFit (context_of s) operands left → after < 2 ^ s.facts.word →
        value_of right operands after s ≡ value_of left operands after s
    value_alike operands after s typed state fits small =
        go (value_of left operands after s) (value_of right operands after s) refl refl
      where
        Has : Tree → Type 0
        Has = HasValue operands after s

        go : (x y : Option ℕ) → value_of left operands after s ≡ x → value_of right operands after s ≡ y →
            value_of right operands after s ≡ value_of left operands after s
        go (Some x) y is_x is_y =
            same_value operands after s law parts laws words state small width suits (widths (context_of s) typed) typed fits (x, is_x)
        go None None is_x is_y = is_y ∙ sym is_x
        go None (Some y) is_x is_y =
            let has = carried_back Has (value_down operands after s) (value_up operands after s) law parts (y, is_y) in
            absurd (let e : None ≡ Some has.0 = sym is_x ∙ has.1 in cc)

pub laws_alike : WordLaws → TypedValues → (law : Law) (t u : Tree) → gives law t ≡ Some u → AreAlike t u
laws_alike laws words law t u given = go (parts_of (equation_of law).left t) refl given
  where
    go : (it : Option Parts) → parts_of (equation_of law).left t ≡ it → option_map (fill (right_side law)) it ≡ Some u →
        AreAlike t u
    go None is given = cc
    go (Some parts) is given =
        let it = found (equation_of law).left t parts is in
        let e : fill (right_side law) parts ≡ u = cc in
        subst (λ (v : Tree). AreAlike t v) e
        (subst (λ (v : Tree). AreAlike v (fill (right_side law) parts)) it.whole
        (sides_alike law parts laws words it.width (suits-within (equation_of law).left parts it.suits)
        (λ context typed. it.widths (nests law)
        (agrees (IsTyped context) (typed_by_widths context) t (subst (λ (v : Tree). IsTyped context v) it.whole typed)))))

-- ---- at places, and one after another

pub rewritten_alike : WordLaws → TypedValues → (law : Law) (place : List ℕ) (t u : Tree) → rewritten law place t ≡ Some u →
    AreAlike t u
rewritten_alike laws words law = at-place AreAlike alike-at_places (gives law) (laws_alike laws words law)

pub steps_alike : WordLaws → TypedValues → (steps : List (Law × List ℕ)) (t u : Tree) → after_steps steps t ≡ Some u → AreAlike t u
steps_alike laws words = at-steps AreAlike alike-at_places alike-refl alike-trans (laws_alike laws words)
