-- What an instruction without faults does is well typed, shows one thing at most, and names operands as what they are.
use Rattle.std.specs.Prelude.{ℕ, suc, ◌≡◌, ◌≤◌, ◌+◌, true, cond, List, [], ◌∷◌, ◌++◌, length, map, drop, slice_get, slice_index, ◌⊎◌, count_by, All, Option, None, Some, IfSome, is_some}
use Rattle.std.specs.List.{AllByRecursion, flat_map}
use Rattle.std.proofs.Common.{refl, ap, sym, ◌∙◌, subst, arith, inl, inr, append_assoc}
use Rattle.std.specs.Str.{bytes_eq}
use Rattle.std.proofs.lemmas.List.Sums.{sum_by-append}
use Rattle.std.proofs.lemmas.List.Elements.{All-from_recursion}
use Rattle.qc_widths.specs.TextFaults.{repeated, acts_of_instruction, rtl_of, limit_faults, clashes_within, instruction_faults}
use Rattle.qc_facts.specs.Facts.{kind_faults, Facts, named, space_named, facts_of_operand, register_of}
use Rattle.qc_facts.specs.Faults.{unknown_unless}
use Rattle.qc_terms.specs.State.{Context}
use Rattle.qc_terms.specs.Tree.{width_of, tree_of-imm}
use Rattle.qc_terms.specs.Typing.{IsTyped, IsTypedEffect, IsTypedRtl, HasOneEvent, is_event}
use Rattle.qc_terms.specs.declared.term.Effect as terms
use Rattle.qc_terms.specs.declared.term.Place.TheVariants as place
use Rattle.qc_terms.specs.declared.term.Term.TheVariants as term
use Rattle.qc_descr.specs.declared.description.OperandKind.{OperandKind}
use Rattle.qc_descr.specs.declared.description.OperandKind.TheVariants as kind
use Rattle.qc_lists.specs.Law.Lists.{slice_get-append_right}
use Rattle.qc_descr.specs.Valid.{NamesOperands, EffectNames}
use Rattle.qc_lrtl.specs.declared.syntax.Effect.{Effect}
use Rattle.qc_lrtl.specs.declared.syntax.Operand.{Operand}
use Rattle.qc_lrtl.specs.declared.syntax.OperandKind as raw
use Rattle.qc_lrtl.specs.declared.syntax.OperandKind.TheVariants.{Register, Immediate as RawImmediate, Address}
use Rattle.qc_facts.specs.declared.facts.SpaceFacts.{SpaceFacts}
use Rattle.qc_facts.specs.declared.facts.Target.{Target}
use Rattle.qc_facts.specs.declared.faults.WidthFault.{WidthFault}
use Rattle.qc_facts.specs.declared.faults.WidthFault.TheVariants.{TwiceNamed}
use Rattle.qc_facts.specs.Numbers.{width_in}
use Rattle.qc_facts.specs.Values.{bits_of, leaf}
use Rattle.qc_resolve.specs.Scopes.{Act, operand, Meaning, Scope, Names, local_bound, target_of_operand}
use Rattle.qc_resolve.specs.Effects.{effect_of, clashes_of_act, effect_faults, effect_events}
use Rattle.qc_resolve.specs.Declarations.{fits_as_target, locals_of_operands, bound_operands, names_for, scope_for, signatures_of}
use Rattle.qc_widths.specs.Machine.{kind_of}
use Rattle.qc_widths.proofs.Typed.{IsComplete, IsTypedValue, IsTypedTarget, IsGoodBound, IsGoodAct, IsGoodScope, MatchLocals, Matches}
use Rattle.qc_widths.proofs.TypedNodes.{none_of, by_cond, is_width}
use Rattle.qc_widths.proofs.TypedRegisters.{IsSpace, found_space, typed_read}
use Rattle.qc_widths.proofs.TypedActs.{IsThere, good_effects}
use Rattle.qc_widths.proofs.Events.{SameNames, shown_among, shown_effects}
use Rattle.qc_widths.proofs.GoodTable.{IsSettled, good_scope, tells_of}

-- the kinds of an instruction's operands
abbrev pub kinds_in : Facts → List Operand → List OperandKind
kinds_in facts operands = map (λ o. kind_of (facts_of_operand facts o.kind)) operands

module _ (context : Context) (facts : Facts) (complete : IsComplete facts context) (kinds : List OperandKind) where
  -- what an operand of a kind without faults is
  register_case : (number token : ℕ) (o : Option (ℕ × SpaceFacts))
      → ((i : ℕ) (s : SpaceFacts) → o ≡ Some (i, s) → IsSpace context i s) → unknown_unless (is_some o) token ≡ []
      → slice_get kinds number ≡ Some (kind_of (register_of o))
      → IsGoodBound context kinds (operand number (register_of o))
  register_case number token None space e at = cc e
  register_case number token (Some (i, s)) space e at =
      let is : IsSpace context i s = space i s refl in
      let t : Target = record { place = place.Operand i number; width = s.width } in
      let typed : IsTypedTarget context kinds t = record {
        bits = slice_index context.widths i;
        width = is.width;
        register = (is.within, refl);
        names = at;
      } in (
        (λ at_token. typed_read context kinds t typed (subst (λ w. IfSome w (λ n. n ≤ 64)) (sym is.width) is.most) at_token),
        typed,
      )

  typed_immediate : (number bits token : ℕ) → bits ≤ 64
      → ((slice_get kinds number ≡ Some (kind.Imm bits))
      ⊎ ((slice_get kinds number ≡ Some kind.Addr) × (bits ≡ context.word)))
      → IsTypedValue context kinds (leaf token (term.Imm number bits) (Some bits))
  typed_immediate number bits token small names = record {
    sound = refl;
    width = ap (λ t. Some (width_of t)) (sym (tree_of-imm number bits));
    most = subst (λ t. width_of t ≤ 64) (sym (tree_of-imm number bits)) small;
    typed = subst (IsTyped context) (sym (tree_of-imm number bits)) tt;
    names = subst (NamesOperands context.word kinds) (sym (tree_of-imm number bits)) names;
  }

  good_operand : (number : ℕ) (k : raw.OperandKind) → kind_faults facts k ≡ []
      → slice_get kinds number ≡ Some (kind_of (facts_of_operand facts k))
      → IsGoodBound context kinds (operand number (facts_of_operand facts k))
  good_operand number (Register space) e at =
      register_case number space.token (space_named facts space.text) (found_space context facts complete space.text) e at
  good_operand number (RawImmediate token bits) e at =
      let width : (width_in bits ≡ Some bits.value) × (1 ≤ bits.value) × (bits.value ≤ 64) = is_width bits e in (
        (λ at_token. subst (λ w. IsTypedValue context kinds (leaf at_token (term.Imm number (bits_of w)) w)) (sym width.0)
            (typed_immediate number bits.value at_token width.2
            (inl (subst (λ w. slice_get kinds number ≡ Some (kind.Imm (bits_of w))) width.0 at)))),
        tt,
      )
  good_operand number (Address token) e at =
      ((λ at_token. typed_immediate number context.word at_token complete.most (inr (at, refl))), tt)

  good_operands : (front : List OperandKind) (operands : List Operand) → front ++ kinds_in facts operands ≡ kinds
      → flat_map (λ o. kind_faults facts o.kind) operands ≡ []
      → AllByRecursion (λ l. IsGoodBound context kinds l.1) (bound_operands facts (length front) operands)
  good_operands front [] e none = tt
  good_operands front (o ∷ operands) e none =
      let parts : (kind_faults facts o.kind ≡ []) × (flat_map (λ x. kind_faults facts x.kind) operands ≡ []) =
      none_of (kind_faults facts o.kind) (flat_map (λ x. kind_faults facts x.kind) operands) none in
      let here : OperandKind = kind_of (facts_of_operand facts o.kind) in
      let place : length front + 0 ≡ length front = omega arith in
      let at : slice_get kinds (length front) ≡ Some here =
      ap (λ ks. slice_get ks (length front)) (sym e)
      ∙ ap (slice_get (front ++ here ∷ kinds_in facts operands)) (sym place)
      ∙ slice_get-append_right front (here ∷ kinds_in facts operands) 0 in
      let next : length (front ++ here ∷ []) ≡ suc (length front) = longer front here in (
        good_operand (length front) o.kind parts.0 at,
        subst (λ n. AllByRecursion (λ l. IsGoodBound context kinds l.1) (bound_operands facts n operands)) next
            (good_operands (front ++ here ∷ []) operands
            (append_assoc front (here ∷ []) (kinds_in facts operands) ∙ e) parts.1),
      )
    where
      longer : (xs : List OperandKind) (x : OperandKind) → length (xs ++ x ∷ []) ≡ suc (length xs)
      longer [] x = refl
      longer (y ∷ xs) x = ap suc (longer xs x)

  match_operand : (number : ℕ) (k : raw.OperandKind)
      → fits_as_target k ≡ is_some (target_of_operand number (facts_of_operand facts k))
  match_operand number (Register space) = by_space (space_named facts space.text)
    where
      by_space : (o : Option (ℕ × SpaceFacts)) → true ≡ is_some (target_of_operand number (register_of o))
      by_space None = refl
      by_space (Some s) = refl
  match_operand number (RawImmediate token bits) = refl
  match_operand number (Address token) = refl

  match_operands : (number : ℕ) (operands : List Operand)
      → MatchLocals (locals_of_operands operands) (bound_operands facts number operands)
  match_operands number [] = tt
  match_operands number (o ∷ operands) = (refl, match_operand number o.kind, match_operands (suc number) operands)

  same_operands : (number : ℕ) (operands : List Operand)
      → SameNames (locals_of_operands operands) (bound_operands facts number operands)
  same_operands number [] = tt
  same_operands number (o ∷ operands) = (refl, same_operands (suc number) operands)

  -- no target stands for an argument where there are operands only
  no_argument : (number : ℕ) (operands : List Operand) (name : List ℕ)
      → IsThere (local_bound (named (λ p. p.0) (bound_operands facts number operands) name))
  no_argument number [] name = tt
  no_argument number (o ∷ operands) name =
      by_cond (λ x. IsThere (local_bound x)) (bytes_eq o.name.text name)
      (Some (o.name.text, operand number (facts_of_operand facts o.kind)))
      (named (λ p. p.0) (bound_operands facts (suc number) operands) name) tt (no_argument (suc number) operands name)

-- no clash in a list is one in none of its effects
typed_acts : (context : Context) (kinds : List OperandKind) (acts : List Act)
    → AllByRecursion (IsGoodAct context kinds) acts → flat_map clashes_of_act acts ≡ []
    → AllByRecursion (IsTypedEffect context) (map effect_of acts)
    × AllByRecursion (EffectNames context.word kinds) (map effect_of acts)
typed_acts context kinds [] all none = (tt, tt)
typed_acts context kinds (act ∷ acts) all none =
    let parts : (clashes_of_act act ≡ []) × (flat_map clashes_of_act acts ≡ []) =
    none_of (clashes_of_act act) (flat_map clashes_of_act acts) none in
    let here = all.0 parts.0 in
    let more = typed_acts context kinds acts all.1 parts.1 in
    ((here.0, more.0), (here.1, more.1))

within_clashes : (limits : List WidthFault) (acts : List Act) → limits ≡ [] → clashes_within limits acts ≡ []
    → flat_map clashes_of_act acts ≡ []
within_clashes [] acts e none = none
within_clashes (f ∷ limits) acts e none = cc e

count_effects : (acts : List Act) → count_by (λ e. is_event e.to) (map effect_of acts) ≡ shown_among acts
count_effects [] = refl
count_effects (act ∷ acts) =
    let shows : terms.Effect → ℕ = λ e. cond (is_event e.to) 1 0 in
    let split : count_by (λ e. is_event e.to) (map effect_of (act ∷ acts))
    ≡ count_by (λ e. is_event e.to) (effect_of act ∷ []) + count_by (λ e. is_event e.to) (map effect_of acts) =
    sum_by-append shows (effect_of act ∷ []) (map effect_of acts) in
    let one : count_by (λ e. is_event e.to) (effect_of act ∷ []) ≡ cond (is_event act.to) 1 0 = omega arith in
    omega (arith, split, one, count_effects acts)

one_at_most : (tokens : List ℕ) → map TwiceNamed (drop 1 tokens) ≡ [] → length tokens ≤ 1
one_at_most [] e = omega arith
one_at_most (t ∷ []) e = omega arith
one_at_most (t ∷ u ∷ tokens) e = cc e

-- what an instruction does is typed, shows one thing at most, and names operands as what they are
pub record IsTypedOperation (context : Context) (kinds : List OperandKind) (acts : List Act) : Type 0 where
  pub typed : IsTypedRtl context (rtl_of acts)
  pub event : HasOneEvent (rtl_of acts)
  pub names : All (EffectNames context.word kinds) (rtl_of acts).effects

pub typed_operation : (context : Context) (facts : Facts) → IsComplete facts context → (ms : List Meaning)
    → AllByRecursion (IsSettled context) ms → (number token : ℕ) (operands : List Operand) (body : List Effect)
    → instruction_faults facts ms number token operands body ≡ []
    → IsTypedOperation context (kinds_in facts operands) (acts_of_instruction facts ms operands body)
typed_operation context facts complete ms all number token operands body none =
    let kinds : List OperandKind = kinds_in facts operands in
    let names : Names = names_for facts (signatures_of ms) (locals_of_operands operands) in
    let scope : Scope = scope_for facts ms (bound_operands facts 0 operands) in
    let acts : List Act = acts_of_instruction facts ms operands body in
    let limits : List WidthFault = limit_faults number token operands acts in
    let events : List WidthFault = map TwiceNamed (drop 1 (flat_map (effect_events names) body)) in
    let a : (flat_map (λ o. kind_faults facts o.kind) operands ≡ []) × (repeated (map (λ o. o.name) operands)
    ++ (flat_map (effect_faults names) body ++ (events ++ (limits ++ clashes_within limits acts))) ≡ []) =
    none_of (flat_map (λ o. kind_faults facts o.kind) operands) (repeated (map (λ o. o.name) operands)
    ++ (flat_map (effect_faults names) body ++ (events ++ (limits ++ clashes_within limits acts)))) none in
    let b : (repeated (map (λ o. o.name) operands) ≡ [])
    × (flat_map (effect_faults names) body ++ (events ++ (limits ++ clashes_within limits acts)) ≡ []) =
    none_of (repeated (map (λ o. o.name) operands))
    (flat_map (effect_faults names) body ++ (events ++ (limits ++ clashes_within limits acts))) a.1 in
    let c : (flat_map (effect_faults names) body ≡ []) × (events ++ (limits ++ clashes_within limits acts) ≡ []) =
    none_of (flat_map (effect_faults names) body) (events ++ (limits ++ clashes_within limits acts)) b.1 in
    let d : (events ≡ []) × (limits ++ clashes_within limits acts ≡ []) =
    none_of events (limits ++ clashes_within limits acts) c.1 in
    let e : (limits ≡ []) × (clashes_within limits acts ≡ []) = none_of limits (clashes_within limits acts) d.1 in
    let good : IsGoodScope context kinds scope =
    good_scope context kinds facts complete ms all (bound_operands facts 0 operands)
    (good_operands context facts complete kinds [] operands refl a.0) in
    let matches : Matches names scope = record {
      facts = refl;
      locals = match_operands context facts complete kinds 0 operands;
      functions = refl;
    } in
    let goods : AllByRecursion (IsGoodAct context kinds) acts =
    good_effects context kinds names scope matches good body c.0
    (λ name some. no_argument context facts complete kinds 0 operands name) in
    let typed = typed_acts context kinds acts goods (within_clashes limits acts e.0 e.1) in
    let shown : shown_among acts ≡ length (flat_map (effect_events names) body) =
    shown_effects names scope (same_operands context facts complete kinds 0 operands) refl (tells_of context ms all) body in
    record {
      typed = All-from_recursion (IsTypedEffect context) (map effect_of acts) typed.0;
      event = omega (arith, count_effects acts, shown, one_at_most (flat_map (effect_events names) body) d.0);
      names = All-from_recursion (EffectNames context.word kinds) (map effect_of acts) typed.1;
    }
