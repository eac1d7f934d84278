-- Flat effects do what the effects do that they stand for.
use Rattle.std.proofs.Common.{◌≡◌, ◌∙◌, ℕ, List, [], ◌∷◌, ◌++◌, Option, None, Some, All, option_and_then, if◌then◌else◌, nat_eq, refl, sym, ap, subst, false}
use Rattle.std.specs.Option.{option_map}
use Rattle.std.proofs.lemmas.List.Elements.{All-nil, All-cons}
use Rattle.qc_terms.specs.declared.state.State.{State}
use Rattle.qc_terms.specs.declared.term.Effect.{Effect}
use Rattle.qc_terms.specs.declared.term.Rtl.{Rtl}
use Rattle.qc_terms.specs.Effects.{outcome_of_writes, rtl_has_input, write_of, writes_of, writes_of_effect}
use Rattle.qc_terms.specs.State.{Context}
use Rattle.qc_terms.specs.Tree.{tree_of}
use Rattle.qc_terms.specs.Typing.{IsTypedEffect, TakesWidth}
use Rattle.qc_terms.specs.Value.{value_of}
use Rattle.qc_flat.specs.declared.effect.FlatEffect.{FlatEffect}
use Rattle.qc_flat.specs.Chain.{IsChainOf, value_of_chain}
use Rattle.qc_flat.specs.Flat.{AreFlatOf, IsFlatListOf, IsFlatOf, IsTypedFlatEffect, flat_guard_of, flat_write_of, writes_of_flat, writes_of_flat_effect}
use Rattle.qc_flat.specs.Inner.Parts.{IsDestOf, IsGuardOf}

same_then : {X Y : Type 0} (f g : X → Option Y) (r : Option X) → ((x : X) → f x ≡ g x) → option_and_then f r ≡ option_and_then g r
same_then f g None same = refl
same_then f g (Some x) same = same x

pub flat_is : (context : Context) (zero : Option (ℕ × ℕ)) (operands : List ℕ) (after : ℕ) (e : Effect) (f : FlatEffect) → IsTypedEffect context e →
    IsGuardOf context zero operands after e.guard f.guard → IsDestOf context zero operands after e.to f.to →
    IsChainOf context zero operands after (tree_of e.value) f.value → IsFlatOf context zero operands after e f
unfolding writes_of_flat_effect writes_of_effect
flat_is context zero operands after e f typed guard to value = record {
  typed = record {
    guard = guard.typed;
    value = value.typed;
    to = to.typed f.value.width (subst (TakesWidth context e.to) (sym value.width) typed.to);
  };
  writes = λ s here.
      let write : option_and_then (flat_write_of f.to s) (value_of_chain f.value s)
      ≡ option_and_then (write_of e.to operands after s) (value_of (tree_of e.value) operands after s) =
      ap (option_and_then (flat_write_of f.to s)) (value.value s here)
      ∙ same_then (flat_write_of f.to s) (write_of e.to operands after s) (value_of (tree_of e.value) operands after s)
      (λ word. to.write s word here) in
      ap (λ write. option_and_then (λ guard. if nat_eq guard 0 then Some [] else option_map (λ w. w ∷ []) write) (flat_guard_of f.guard s)) write
      ∙ ap (option_and_then (λ guard. if nat_eq guard 0 then Some [] else
      option_map (λ w. w ∷ []) (option_and_then (write_of e.to operands after s) (value_of (tree_of e.value) operands after s)))) (guard.value s here);
}

pub flat_push : (context : Context) (zero : Option (ℕ × ℕ)) (operands : List ℕ) (after : ℕ) (es : List Effect) (fs : List FlatEffect) (e : Effect)
    (f : FlatEffect) → AreFlatOf context zero operands after es fs → IsFlatOf context zero operands after e f →
    AreFlatOf context zero operands after (es ++ e ∷ []) (fs ++ f ∷ [])
flat_push context zero operands after [] [] e f are last = (last, tt)
flat_push context zero operands after (x ∷ es) (y ∷ fs) e f are last =
    (are.0, flat_push context zero operands after es fs e f are.1 last)
flat_push context zero operands after [] (y ∷ fs) e f are last = absurd are
flat_push context zero operands after (x ∷ es) [] e f are last = absurd are

all_typed : (context : Context) (zero : Option (ℕ × ℕ)) (operands : List ℕ) (after : ℕ) (es : List Effect) (fs : List FlatEffect) →
    AreFlatOf context zero operands after es fs → All (IsTypedFlatEffect context) fs
all_typed context zero operands after [] [] are = All-nil (IsTypedFlatEffect context)
all_typed context zero operands after (x ∷ es) (y ∷ fs) are =
    All-cons (IsTypedFlatEffect context) y fs are.0.typed (all_typed context zero operands after es fs are.1)
all_typed context zero operands after [] (y ∷ fs) are = absurd are
all_typed context zero operands after (x ∷ es) [] are = absurd are

same_writes : (context : Context) (zero : Option (ℕ × ℕ)) (operands : List ℕ) (after : ℕ) (es : List Effect) (fs : List FlatEffect) (s : State) →
    AreFlatOf context zero operands after es fs → s.facts.zero ≡ zero → writes_of_flat fs s ≡ writes_of es operands after s
same_writes context zero operands after [] [] s are here = refl
same_writes context zero operands after (x ∷ es) (y ∷ fs) s are here =
    ap (λ others. option_and_then (λ first. option_map (λ rest. first ++ rest) others) (writes_of_flat_effect y s))
    (same_writes context zero operands after es fs s are.1 here)
    ∙ ap (option_and_then (λ first. option_map (λ rest. first ++ rest) (writes_of es operands after s))) (are.0.writes s here)
same_writes context zero operands after [] (y ∷ fs) s are here = absurd are
same_writes context zero operands after (x ∷ es) [] s are here = absurd are

-- a list that reads no input is what its flat effects are
pub flat_list : (context : Context) (zero : Option (ℕ × ℕ)) (operands : List ℕ) (after : ℕ) (rtl : Rtl) (fs : List FlatEffect) →
    rtl_has_input rtl ≡ false → AreFlatOf context zero operands after rtl.effects fs → IsFlatListOf context zero rtl operands after fs
flat_list context zero operands after rtl fs quiet are = record {
  typed = all_typed context zero operands after rtl.effects fs are;
  outcome = λ s here.
      rw quiet (ap (λ ws. outcome_of_writes ws false after s) (same_writes context zero operands after rtl.effects fs s are here));
}
