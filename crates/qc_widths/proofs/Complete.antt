-- The facts of a text without faults are complete, and all that its functions and instructions come to is well typed.
use Rattle.std.specs.Prelude.{ℕ, ◌≡◌, ◌≤◌, ◌+◌, List, [], ◌∷◌, ◌++◌, length, map, Option, None, Some}
use Rattle.std.specs.List.{AllByRecursion}
use Rattle.std.proofs.Common.{refl, ap, sym, ◌∙◌, subst, arith}
use Rattle.std.proofs.lemmas.List.Elements.{All-from_recursion}
use Rattle.qc_widths.specs.TextFaults.{second_declarations, acts_of_instruction, item_faults, faults_after, faults_of}
use Rattle.qc_terms.specs.State.{Context}
use Rattle.qc_lists.specs.Law.Lists.{each_append}
use Rattle.qc_lrtl.specs.declared.syntax.Item.{Item}
use Rattle.qc_lrtl.specs.declared.syntax.Item.TheVariants as fact
use Rattle.qc_lrtl.specs.declared.syntax.RawMachine.{RawMachine}
use Rattle.qc_facts.specs.declared.facts.SpaceFacts.{SpaceFacts}
use Rattle.qc_facts.specs.declared.faults.WidthFault.{WidthFault}
use Rattle.qc_facts.specs.Faults.{reported}
use Rattle.qc_facts.specs.Numbers.{width_in, width_faults}
use Rattle.qc_facts.specs.Values.{bits_of}
use Rattle.qc_facts.specs.Facts.{Facts, word_in, space_of_item, spaces_in, facts_in}
use Rattle.qc_resolve.specs.Scopes.{Signature, Meaning}
use Rattle.qc_resolve.specs.Declarations.{signature_of_item, meanings_in, instruction_name, space_name}
use Rattle.qc_widths.proofs.Typed.{IsComplete}
use Rattle.qc_widths.proofs.TypedNodes.{none_of, is_width}
use Rattle.qc_widths.proofs.GoodTable.{IsSettled, settled}
use Rattle.qc_widths.proofs.TypedOperations.{IsTypedOperation, kinds_in, typed_operation}

-- what is reported of no fault is that there is none
pub nothing_reported : (fs : List WidthFault) → reported fs ≡ None → fs ≡ []
nothing_reported [] e = refl
nothing_reported (f ∷ fs) e = cc e

-- an item without faults, wherever it stands
pub record IsFaultless (facts : Facts) (whole : List Meaning) (item : Item) : Type 0 where
  pub earlier : List Signature
  pub instructions : ℕ
  pub spaces : ℕ
  pub none : item_faults facts earlier whole instructions spaces item ≡ []

pub faultless : (facts : Facts) (whole : List Meaning) (earlier : List Signature) (instructions spaces : ℕ)
    (items : List Item) → faults_after facts whole earlier instructions spaces items ≡ []
    → AllByRecursion (IsFaultless facts whole) items
faultless facts whole earlier instructions spaces [] none = tt
faultless facts whole earlier instructions spaces (item ∷ items) none =
    let next : List Signature = earlier ++ signature_of_item facts earlier item in
    let parts : (item_faults facts earlier whole instructions spaces item ≡ [])
    × (faults_after facts whole next (instructions + length (instruction_name item)) (spaces + length (space_name item))
    items ≡ []) =
    none_of (item_faults facts earlier whole instructions spaces item)
    (faults_after facts whole next (instructions + length (instruction_name item)) (spaces + length (space_name item))
    items) none in (
      record { earlier = earlier; instructions = instructions; spaces = spaces; none = parts.0 },
      faultless facts whole next (instructions + length (instruction_name item)) (spaces + length (space_name item)) items
          parts.1,
    )

-- the word has a width
record IsWordWidth (word : Option ℕ) : Type 0 where
  is : word ≡ Some (bits_of word)
  most : bits_of word ≤ 64

word_width : (facts : Facts) (whole : List Meaning) (items : List Item) → AllByRecursion (IsFaultless facts whole) items
    → IsWordWidth (word_in items)
word_width facts whole [] all = record { is = refl; most = omega arith }
word_width facts whole (fact.Word token bits ∷ items) all =
    let width : (width_in bits ≡ Some bits.value) × (1 ≤ bits.value) × (bits.value ≤ 64) = is_width bits all.0.none in
    subst IsWordWidth (sym width.0) (record { is = refl; most = width.2 })
word_width facts whole (_ ∷ items) all = word_width facts whole items all.1

-- a space whose cells have a width
IsWide : SpaceFacts → Type 0
IsWide s = (s.width ≡ Some (bits_of s.width)) × (bits_of s.width ≤ 64)

wide_item : (facts : Facts) (whole : List Meaning) (item : Item) → IsFaultless facts whole item
    → AllByRecursion IsWide (space_of_item item)
unfolding IsWide
wide_item facts whole (fact.Space token name cells bits flags) is =
    let width : (width_in bits ≡ Some bits.value) × (1 ≤ bits.value) × (bits.value ≤ 64) =
    is_width bits (none_of (width_faults bits) _ is.none).0 in
    ((width.0 ∙ ap (λ w. Some (bits_of w)) (sym width.0), subst (λ w. bits_of w ≤ 64) (sym width.0) width.2), tt)
wide_item facts whole _ is = tt

wide_spaces : (facts : Facts) (whole : List Meaning) (items : List Item) → AllByRecursion (IsFaultless facts whole) items
    → AllByRecursion IsWide (spaces_in items)
wide_spaces facts whole [] all = tt
wide_spaces facts whole (item ∷ items) all =
    each_append IsWide (space_of_item item) (spaces_in items) (wide_item facts whole item all.0)
    (wide_spaces facts whole items all.1)

widths_are : (spaces : List SpaceFacts) → AllByRecursion IsWide spaces
    → map (λ s. s.width) spaces ≡ map Some (map (λ s. bits_of s.width) spaces)
unfolding IsWide
widths_are [] all = refl
widths_are (s ∷ spaces) all =
    ap (λ w. w ∷ map (λ x. x.width) spaces) all.0.0
    ∙ ap (λ ws. Some (bits_of s.width) ∷ ws) (widths_are spaces all.1)

widths_small : (spaces : List SpaceFacts) → AllByRecursion IsWide spaces
    → AllByRecursion (λ w. w ≤ 64) (map (λ s. bits_of s.width) spaces)
unfolding IsWide
widths_small [] all = tt
widths_small (s ∷ spaces) all = (all.0.1, widths_small spaces all.1)

-- what register transfer lists of a text are typed for
abbrev pub context_in : Facts → Context
context_in facts = record {
  word = bits_of facts.word;
  widths = map (λ s. bits_of s.width) facts.spaces;
  counts = map (λ s. s.cells) facts.spaces;
}

pub complete : (whole : List Meaning) (items : List Item) → AllByRecursion (IsFaultless (facts_in items) whole) items
    → IsComplete (facts_in items) (context_in (facts_in items))
complete whole items all =
    let word : IsWordWidth (word_in items) = word_width (facts_in items) whole items all in
    let wide : AllByRecursion IsWide (spaces_in items) = wide_spaces (facts_in items) whole items all in
    record {
      word = word.is;
      most = word.most;
      widths = widths_are (spaces_in items) wide;
      counts = refl;
      bits = All-from_recursion (λ w. w ≤ 64) (map (λ s. bits_of s.width) (spaces_in items))
          (widths_small (spaces_in items) wide);
    }

-- each instruction of a text does what is well typed
abbrev pub IsTypedItem : Facts → List Meaning → Item → Type 0
IsTypedItem facts ms (fact.Instruction token name operands body) =
    IsTypedOperation (context_in facts) (kinds_in facts operands) (acts_of_instruction facts ms operands body)
IsTypedItem facts ms _ = Unit {0}

typed_item : (facts : Facts) → IsComplete facts (context_in facts) → (ms : List Meaning)
    → AllByRecursion (IsSettled (context_in facts)) ms → (item : Item) → IsFaultless facts ms item
    → IsTypedItem facts ms item
typed_item facts whole ms all (fact.Instruction token name operands body) is =
    typed_operation (context_in facts) facts whole ms all is.instructions token operands body is.none
typed_item facts whole ms all _ is = tt

typed_items : (facts : Facts) → IsComplete facts (context_in facts) → (ms : List Meaning)
    → AllByRecursion (IsSettled (context_in facts)) ms → (items : List Item) → AllByRecursion (IsFaultless facts ms) items
    → AllByRecursion (IsTypedItem facts ms) items
typed_items facts whole ms all [] is = tt
typed_items facts whole ms all (item ∷ items) is =
    (typed_item facts whole ms all item is.0, typed_items facts whole ms all items is.1)

-- All instructions of a text without faults are well typed.
pub typed_text : (raw : RawMachine) → reported (faults_of raw) ≡ None
    → AllByRecursion (IsTypedItem (facts_in raw.items) (meanings_in (facts_in raw.items) raw.items)) raw.items
typed_text raw e =
    let facts : Facts = facts_in raw.items in
    let ms : List Meaning = meanings_in facts raw.items in
    let parts : (second_declarations raw.items ≡ []) × (faults_after facts ms [] 0 0 raw.items ≡ []) =
    none_of (second_declarations raw.items) (faults_after facts ms [] 0 0 raw.items) (nothing_reported (faults_of raw) e) in
    let all : AllByRecursion (IsFaultless facts ms) raw.items = faultless facts ms [] 0 0 raw.items parts.1 in
    let whole : IsComplete facts (context_in facts) = complete ms raw.items all in
    typed_items facts whole ms (settled (context_in facts) facts whole ms raw.items [] 0 0 tt parts.1) raw.items all
