-- The facts that the items of a machine's text give.
use Rattle.std.specs.Prelude.{ℕ, ◌-◌, ◌^◌, min, List, [], ◌∷◌, Option, None, Some}
use Rattle.std.specs.Option.{option_flatten, option_or}
use Rattle.qc_terms.specs.declared.state.Order.{Order}
use Rattle.qc_terms.specs.declared.state.Order.TheVariants as order
use Rattle.qc_descr.specs.declared.parts.Given.{Given}
use Rattle.qc_grammar.specs.declared.cursor.Ident.{Ident}
use Rattle.qc_grammar.specs.declared.cursor.Number.{Number}
use Rattle.qc_lrtl.specs.declared.syntax.ByteOrder.{ByteOrder}
use Rattle.qc_lrtl.specs.declared.syntax.ByteOrder.TheVariants.{Little, Big}
use Rattle.qc_lrtl.specs.declared.syntax.Item.{Item}
use Rattle.qc_lrtl.specs.declared.syntax.Item.TheVariants as fact
use Rattle.qc_facts.specs.Numbers.{width_in}
use Rattle.qc_facts.specs.declared.facts.SpaceFacts.{SpaceFacts}
use Rattle.qc_facts.specs.Facts.{Facts, space_named, facts_in}

-- the first of what the items give
abbrev pub first_given : {A : Type 0} → (Item → Option A) → List Item → Option A
first_given f [] = None
first_given f (item ∷ items) = option_or (f item) (first_given f items)

-- numbers as far as 2^64 - 1
abbrev pub given_number : Number → ℕ
given_number n = min n.value (2 ^ 64 - 1)

abbrev pub space_index : Option (ℕ × SpaceFacts) → ℕ
space_index None = 0
space_index (Some s) = s.0

abbrev pub given_cell : Facts → Ident → Number → ℕ × ℕ
given_cell facts space cell = (space_index (space_named facts space.text), cell.value)

abbrev pub word_given : Item → Option (Option ℕ)
word_given (fact.Word token bits) = Some (width_in bits)
word_given _ = None

abbrev pub order_of : ByteOrder → Order
order_of Little = order.Little
order_of Big = order.Big

abbrev pub order_given : Item → Option Order
order_given (fact.ByteOrder token o) = Some (order_of o)
order_given _ = None

abbrev pub align_given : Item → Option ℕ
align_given (fact.Align token bytes) = Some (given_number bytes)
align_given _ = None

abbrev pub slot_bits_given : Item → Option ℕ
slot_bits_given (fact.SlotBits token bits) = Some (given_number bits)
slot_bits_given _ = None

abbrev pub memory_given : Item → Option ℕ
memory_given (fact.Memory token bytes) = Some (given_number bytes)
memory_given _ = None

abbrev pub code_given : Item → Option ℕ
code_given (fact.Code token end) = Some (given_number end)
code_given _ = None

abbrev pub data_given : Item → Option ℕ
data_given (fact.Data token end) = Some (given_number end)
data_given _ = None

abbrev pub zero_given : Facts → Item → Option (ℕ × ℕ)
zero_given facts (fact.Zero token space cell) = Some (given_cell facts space cell)
zero_given facts _ = None

abbrev pub frame_given : Facts → Item → Option (ℕ × ℕ)
frame_given facts (fact.Frame token space cell) = Some (given_cell facts space cell)
frame_given facts _ = None

abbrev pub link_given : Facts → Item → Option (ℕ × ℕ)
link_given facts (fact.Link token space cell) = Some (given_cell facts space cell)
link_given facts _ = None

abbrev pub allocatable_given : Facts → Item → Option (ℕ × ℕ × ℕ)
allocatable_given facts (fact.Allocatable token space first last) =
    Some (space_index (space_named facts space.text), first.value, last.value)
allocatable_given facts _ = None

abbrev pub given_in : List Item → Given
given_in items = record {
  word = option_flatten (first_given word_given items);
  order = first_given order_given items;
  align = first_given align_given items;
  slot_bits = first_given slot_bits_given items;
  frame = first_given (frame_given (facts_in items)) items;
  link = first_given (link_given (facts_in items)) items;
  zero = first_given (zero_given (facts_in items)) items;
  allocatable = first_given (allocatable_given (facts_in items)) items;
  memory = first_given memory_given items;
  code_end = first_given code_given items;
  data_end = first_given data_given items;
}
