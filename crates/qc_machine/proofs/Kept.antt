-- Instances that were kept, and the steps of a machine that stands at one.
use Rattle.std.proofs.Common.{◌≡◌, ◌∙◌, ℕ, ◌+◌, ◌%◌, ◌^◌, ◌<◌, Bool, true, false, if◌then◌else◌, List, [], ◌∷◌, ◌++◌, Some, None, All, IfSome, length, take, drop, get_or, ap, sym, subst}
use Rattle.std.specs.List.{slice_get}
use Rattle.std.proofs.lemmas.List.Elements.{All-push}
use Rattle.std.proofs.lemmas.Option.{IfSome_then, same_Some}
use Rattle.arrayvec.specs.ArrayVec.{ArrayVec}
use Rattle.qc_terms.specs.declared.state.Facts.{Facts}
use Rattle.qc_terms.specs.declared.state.State.{State}
use Rattle.qc_terms.specs.declared.term.Rtl.{Rtl}
use Rattle.qc_terms.specs.Effects.{Outcome, outcome_of}
use Rattle.qc_terms.specs.State.{context_of}
use Rattle.qc_descr.specs.declared.description.Description.{Description}
use Rattle.qc_descr.specs.declared.description.Instruction.{Instruction}
use Rattle.qc_descr.specs.Description.{context_of_description}
use Rattle.qc_descr.specs.Encoding.{Encodes}
use Rattle.qc_descr.specs.Machine.{IsMachineOf}
use Rattle.qc_descr.specs.Step.{EncodesAt, Steps, address_after}
use Rattle.qc_flat.specs.declared.effect.FlatEffect.{FlatEffect}
use Rattle.qc_flat.specs.Flat.{IsFlatListOf, outcome_of_flat}
use Rattle.qc_machine.specs.declared.cache.Kept.{Kept}
use Rattle.qc_machine.specs.Cache.{StandsAt}
use Rattle.qc_machine.proofs.Steps.{context_is, facts_kept, machine_kept, steps_by}

-- what holds of each element holds of one that is read
pub read_holds : {X : Type 0} (P : X → Type 0) (xs ys : List X) (i : ℕ) (x y : X) → All P xs → ys ≡ xs → i < length ys → y ≡ get_or ys i y →
    y ≡ x → P x
read_holds P xs ys i x y all same inside read is =
    subst P (sym read ∙ is) (subst (All P) (sym same) all i y inside)

-- what holds of each element holds of each where one more was to be added
pub pushed : {X : Type 0} (P : X → Type 0) (ok : Bool) (xs ys : List X) (x : X) → ys ≡ (if ok then xs ++ x ∷ [] else xs) → All P xs → P x →
    All P ys
pushed P true xs ys x is all one = subst (All P) (sym is) (All-push P xs x all one)
pushed P false xs ys x is all one = subst (All P) (sym is) all

-- the facts of a machine are its description's
zero_is : (d : Description) (s : State) → IsMachineOf d s → s.facts.zero ≡ d.facts.zero
zero_is d s made = ap (λ (f : Facts). f.zero) made.facts

word_is : (d : Description) (s : State) → IsMachineOf d s → s.facts.word ≡ d.facts.word
word_is d s made = ap (λ (f : Facts). f.word) made.facts

-- the flat effects in the terms of the machine, and in those of its description
flat_of_description : (d : Description) (s : State) (i j : Instruction) (xs : List ℕ) (after : ℕ) (fs : List FlatEffect) → IsMachineOf d s → i ≡ j →
    IsFlatListOf (context_of s) s.facts.zero i.rtl xs after fs → IsFlatListOf (context_of_description d) d.facts.zero j.rtl xs after fs
flat_of_description d s i j xs after fs made same flat =
    let first = subst (λ context. IsFlatListOf context s.facts.zero i.rtl xs after fs) (sym (context_is d s made)) flat in
    let second = subst (λ zero. IsFlatListOf (context_of_description d) zero i.rtl xs after fs) (zero_is d s made) first in
    subst (λ (x : Instruction). IsFlatListOf (context_of_description d) d.facts.zero x.rtl xs after fs) same second

-- what is kept of an instance that was decoded at the program counter
pub kept_made : (d : Description) (s : State) (kept : Kept) (i : Instruction) (size : ℕ) → IsMachineOf d s →
    EncodesAt d s.memory s.pc kept.instance.instruction kept.instance.operands.items (take size (drop s.pc s.memory)) →
    length (take size (drop s.pc s.memory)) ≡ size → slice_get d.instructions kept.instance.instruction ≡ Some i →
    kept.at ≡ s.pc → kept.bytes.items ≡ take size (drop s.pc s.memory) → kept.after ≡ (s.pc + size) % 2 ^ s.facts.word →
    IfSome kept.flat (λ flat. IsFlatListOf (context_of s) s.facts.zero i.rtl kept.instance.operands.items kept.after flat.items) →
    StandsAt d s.memory s.pc kept
kept_made d s kept i size made found count is there bytes_are after flat =
    let number = kept.instance.instruction in
    let xs = kept.instance.operands.items in
    let bytes = take size (drop s.pc s.memory) in
    let here : Encodes d kept.at number xs bytes = subst (λ at. Encodes d at number xs bytes) (sym there) found.encodes in
    let encodes : Encodes d kept.at number xs kept.bytes.items = subst (Encodes d kept.at number xs) (sym bytes_are) here in
    let same : i ≡ encodes.instruction = same_Some _ _ (sym is ∙ encodes.is) in
    let sizes : length kept.bytes.items ≡ size = ap length bytes_are ∙ count in
    record {
      is = record {
        encodes = encodes;
        after = after ∙ ap (λ n. (s.pc + n) % 2 ^ s.facts.word) (sym sizes)
            ∙ ap (λ at. (at + length kept.bytes.items) % 2 ^ s.facts.word) (sym there)
            ∙ ap (λ n. (kept.at + length kept.bytes.items) % 2 ^ n) (word_is d s made);
        flat = IfSome_then kept.flat flat
            (λ fs is_flat. flat_of_description d s i encodes.instruction xs kept.after fs.items made same is_flat);
      };
      there = there;
      more = found.more;
      prefix = found.prefix ∙ ap (λ bs. bs ++ found.more) (sym bytes_are);
    }

-- the outcome of the instruction's register transfer list is that of a step
pub kept_steps : (d : Description) (s : State) (kept : Kept) (i : Instruction) (o : Outcome) → s.ending ≡ None → IsMachineOf d s →
    StandsAt d s.memory s.pc kept → slice_get d.instructions kept.instance.instruction ≡ Some i →
    o ≡ outcome_of i.rtl kept.instance.operands.items kept.after s → Steps d s o
kept_steps d s kept i o running made stands is outcome =
    let number = kept.instance.instruction in
    let xs = kept.instance.operands.items in
    let bytes = kept.bytes.items in
    let encodes : Encodes d s.pc number xs bytes = subst (λ at. Encodes d at number xs bytes) stands.there stands.is.encodes in
    let same : i ≡ encodes.instruction = same_Some _ _ (sym is ∙ encodes.is) in
    let after : kept.after ≡ address_after s bytes =
    stands.is.after ∙ ap (λ at. (at + length bytes) % 2 ^ d.facts.word) stands.there
    ∙ ap (λ n. (s.pc + length bytes) % 2 ^ n) (sym (word_is d s made)) in
    steps_by d s o running (record {
      number = number;
      operands = xs;
      bytes = bytes;
      stands = record { encodes = encodes; more = stands.more; prefix = stands.prefix };
      is = outcome ∙ ap (λ (x : Instruction). outcome_of x.rtl xs kept.after s) same ∙ ap (λ a. outcome_of encodes.instruction.rtl xs a s) after;
    })

-- what flat effects do is what the list does
pub flat_outcome : (d : Description) (s : State) (kept : Kept) (flat : ArrayVec FlatEffect) (stands : StandsAt d s.memory s.pc kept) → IsMachineOf d s →
    kept.flat ≡ Some flat →
    outcome_of_flat flat.items kept.after s ≡ outcome_of stands.is.encodes.instruction.rtl kept.instance.operands.items kept.after s
flat_outcome d s kept flat stands made is =
    let found = subst (λ f. IfSome f (λ fs. IsFlatListOf (context_of_description d) d.facts.zero stands.is.encodes.instruction.rtl
    kept.instance.operands.items kept.after fs.items)) is stands.is.flat in
    found.outcome s (zero_is d s made)

-- the machine stays one of its description
pub kept_machine : (d : Description) (s t : State) (rtl : Rtl) (xs : List ℕ) (after : ℕ) → IsMachineOf d s → t ≡ (outcome_of rtl xs after s).state →
    context_of t ≡ context_of s → IsMachineOf d t
kept_machine d s t rtl xs after made is context =
    machine_kept d s t made (ap (λ (x : State). x.facts) is ∙ facts_kept rtl xs after s) context
