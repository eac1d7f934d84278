-- A text without faults means what a description can be made of.
use Rattle.std.specs.Prelude.{ℕ, suc, ◌≡◌, ◌≤◌, ◌<◌, ◌+◌, nat_lt, if◌then◌else◌, List, [], ◌∷◌, ◌++◌, length, map, drop, slice_index, All, Option, None, Some, IfSome, is_some}
use Rattle.std.specs.List.{AllByRecursion, flat_map}
use Rattle.std.proofs.Common.{refl, ap, sym, ◌∙◌, subst, arith}
use Rattle.std.proofs.lemmas.Option.{IfSome_then}
use Rattle.std.proofs.lemmas.Grind.{common_steps}
use Rattle.std.proofs.lemmas.List.{length-append, length-map, map-append}
use Rattle.std.proofs.lemmas.List.Elements.{All-from_recursion, recursion_from_All}
use Rattle.qc_widths.specs.TextFaults.{more_than, repeated_after, repeated, single_item, second_singles, second_declarations, acts_of_instruction, rtl_of, limit_faults, clashes_within, instruction_faults, item_faults, faults_after, faults_of}
use Rattle.qc_facts.specs.Facts.{kind_faults, Facts, space_named, number_faults, cell_faults, operators, word_in, space_of_item, spaces_in, facts_in, facts_of_operand, register_of}
use Rattle.qc_widths.specs.GivenFacts.{first_given, space_index, given_cell, word_given, zero_given, frame_given, link_given, allocatable_given, given_in}
use Rattle.std.specs.Option.{option_or, option_flatten}
use Rattle.qc_terms.specs.State.{Context}
use Rattle.qc_descr.specs.declared.description.Space.{Space}
use Rattle.qc_lists.specs.Law.Lists.{each_append}
use Rattle.qc_descr.specs.Names.{AreDistinct, IsName}
use Rattle.qc_descr.specs.Parts.{width_or_32, word_of, context_of_parts, IsCellOf, HasSpace, IsOperation, AreParts}
use Rattle.qc_grammar.specs.declared.cursor.Ident.{Ident}
use Rattle.qc_grammar.specs.declared.cursor.Number.{Number}
use Rattle.qc_lrtl.specs.declared.syntax.Effect.{Effect}
use Rattle.qc_lrtl.specs.declared.syntax.Operand.{Operand}
use Rattle.qc_lrtl.specs.declared.syntax.OperandKind as raw
use Rattle.qc_lrtl.specs.declared.syntax.OperandKind.TheVariants.{Register, Immediate, Address}
use Rattle.qc_lrtl.specs.declared.syntax.Item.{Item}
use Rattle.qc_lrtl.specs.declared.syntax.Item.TheVariants as fact
use Rattle.qc_lrtl.specs.declared.syntax.RawMachine.{RawMachine}
use Rattle.qc_facts.specs.declared.facts.SpaceFacts.{SpaceFacts}
use Rattle.qc_facts.specs.declared.faults.WidthFault.{WidthFault}
use Rattle.qc_facts.specs.declared.faults.WidthFault.TheVariants.{TwiceNamed, UnknownName}
use Rattle.qc_facts.specs.Faults.{reported, unknown_unless}
use Rattle.qc_facts.specs.Numbers.{width_in, width_faults}
use Rattle.qc_facts.specs.Values.{bits_of}
use Rattle.qc_resolve.specs.Scopes.{Signature, Meaning, Act, Names}
use Rattle.qc_resolve.specs.Effects.{effect_of, effect_faults, effect_events}
use Rattle.qc_descr.specs.Valid.{EffectNames, nodes_of_rtl}
use Rattle.qc_terms.specs.Typing.{IsTypedRtl}
use Rattle.qc_resolve.specs.Declarations.{locals_of_operands, names_for, signatures_of, signature_of_item, meanings_in, instruction_name, space_name, function_name}
use Rattle.qc_widths.specs.Machine.{kind_of, space_of, operation_of_item, machine_of}
use Rattle.qc_widths.proofs.Typed.{IsComplete}
use Rattle.qc_widths.proofs.TypedNodes.{none_of, is_width}
use Rattle.qc_widths.proofs.TypedRegisters.{IsSpace, found_space}
use Rattle.qc_widths.proofs.TypedOperations.{IsTypedOperation, kinds_in}
use Rattle.qc_widths.proofs.Complete.{nothing_reported, IsFaultless, faultless, context_in, complete, IsTypedItem, typed_text}
use Rattle.qc_lrtl.specs.Named.{AreNamed, IsNamedItem}
use Rattle.qc_widths.proofs.Naming.{is_name, named_operands, named_spaces, operand_of}
use Rattle.qc_widths.proofs.Counts.{within_limit, distinct, texts, names_of_spaces}

-- what an instruction without faults keeps of its limits, its operands' kinds and their names
pub limits_of : (facts : Facts) (ms : List Meaning) (number token : ℕ) (operands : List Operand) (body : List Effect)
    → instruction_faults facts ms number token operands body ≡ []
    → (more_than 256 token (suc number) ≡ []) × (more_than 8 token (length operands) ≡ [])
    × (more_than 4096 token (nodes_of_rtl (rtl_of (acts_of_instruction facts ms operands body))) ≡ [])
    × (more_than 16 token (length (acts_of_instruction facts ms operands body)) ≡ [])
    × (flat_map (λ o. kind_faults facts o.kind) operands ≡ []) × (repeated (map (λ o. o.name) operands) ≡ [])
limits_of facts ms number token operands body none =
    let names : Names = names_for facts (signatures_of ms) (locals_of_operands operands) in
    let acts : List Act = acts_of_instruction facts ms operands body in
    let limits : List WidthFault = limit_faults number token operands acts in
    let events : List WidthFault = map TwiceNamed (drop 1 (flat_map (effect_events names) body)) in
    let a = none_of (flat_map (λ o. kind_faults facts o.kind) operands) (repeated (map (λ o. o.name) operands)
    ++ (flat_map (effect_faults names) body ++ (events ++ (limits ++ clashes_within limits acts)))) none in
    let b = none_of (repeated (map (λ o. o.name) operands))
    (flat_map (effect_faults names) body ++ (events ++ (limits ++ clashes_within limits acts))) a.1 in
    let c = none_of (flat_map (effect_faults names) body) (events ++ (limits ++ clashes_within limits acts)) b.1 in
    let d = none_of events (limits ++ clashes_within limits acts) c.1 in
    let e = none_of limits (clashes_within limits acts) d.1 in
    let f = none_of (more_than 256 token (suc number)) (more_than 8 token (length operands)
    ++ (more_than 4096 token (nodes_of_rtl (rtl_of acts)) ++ more_than 16 token (length acts))) e.0 in
    let g = none_of (more_than 8 token (length operands))
    (more_than 4096 token (nodes_of_rtl (rtl_of acts)) ++ more_than 16 token (length acts)) f.1 in
    let h = none_of (more_than 4096 token (nodes_of_rtl (rtl_of acts))) (more_than 16 token (length acts)) g.1 in
    (f.0, g.0, h.0, h.1, a.0, b.0)

-- the numbers of instructions and of spaces
pub few_items : (facts : Facts) (whole : List Meaning) (items : List Item) (earlier : List Signature)
    (instructions spaces : ℕ) → faults_after facts whole earlier instructions spaces items ≡ []
    → instructions ≤ 256 → spaces ≤ 8
    → (instructions + length (flat_map instruction_name items) ≤ 256) × (spaces + length (flat_map space_name items) ≤ 8)
few_items facts whole [] earlier instructions spaces none i s = (omega (arith, i), omega (arith, s))
few_items facts whole (item ∷ items) earlier instructions spaces none i s =
    let next : List Signature = earlier ++ signature_of_item facts earlier item in
    let parts : (item_faults facts earlier whole instructions spaces item ≡ [])
    × (faults_after facts whole next (instructions + length (instruction_name item)) (spaces + length (space_name item))
    items ≡ []) =
    none_of (item_faults facts earlier whole instructions spaces item)
    (faults_after facts whole next (instructions + length (instruction_name item)) (spaces + length (space_name item))
    items) none in
    let here = of_item item parts.0 i s in
    let more : (instructions + length (instruction_name item) + length (flat_map instruction_name items) ≤ 256)
    × (spaces + length (space_name item) + length (flat_map space_name items) ≤ 8) =
    few_items facts whole items next (instructions + length (instruction_name item)) (spaces + length (space_name item))
    parts.1 here.0 here.1 in (
      omega (arith, more.0, length-append (instruction_name item) (flat_map instruction_name items)),
      omega (arith, more.1, length-append (space_name item) (flat_map space_name items)),
    )
  where
    of_item : (x : Item) → item_faults facts earlier whole instructions spaces x ≡ [] → instructions ≤ 256 → spaces ≤ 8
        → (instructions + length (instruction_name x) ≤ 256) × (spaces + length (space_name x) ≤ 8)
    of_item (fact.Space token name cells bits flags) e i s =
        let a = none_of (width_faults bits) (more_than 8 token (suc spaces) ++ more_than 64 token cells.value) e in
        let b = none_of (more_than 8 token (suc spaces)) (more_than 64 token cells.value) a.1 in
        (omega (arith, i), omega (arith, within_limit 8 token (suc spaces) b.0))
    of_item (fact.Instruction token name operands body) e i s =
        let limits = limits_of facts whole instructions token operands body e in
        (omega (arith, within_limit 256 token (suc instructions) limits.0), omega (arith, s))
    of_item _ e i s = (omega (arith, i), omega (arith, s))

-- the width that is given, or 32, is that of words
word_is : (facts : Facts) (whole : List Meaning) (items : List Item) → AllByRecursion (IsFaultless facts whole) items
    → width_or_32 (option_flatten (first_given word_given items)) ≡ bits_of (word_in items)
word_is facts whole [] all = refl
word_is facts whole (fact.Word token bits ∷ items) all =
    let width : (width_in bits ≡ Some bits.value) × (1 ≤ bits.value) × (bits.value ≤ 64) = is_width bits all.0.none in
    ap width_or_32 width.0 ∙ sym (ap bits_of width.0)
word_is facts whole (_ ∷ items) all = word_is facts whole items all.1

-- what the spaces of facts are
abbrev pub spaces_of : Facts → List Space
spaces_of facts = map space_of facts.spaces

map_twice : {A B C : Type 0} (f : B → C) (g : A → B) (xs : List A) → map f (map g xs) ≡ map (λ x. f (g x)) xs
map_twice f g [] = refl
map_twice f g (x ∷ xs) = ap (λ ys. f (g x) ∷ ys) (map_twice f g xs)

-- a cell of facts without faults is one of the spaces
cell_case : (context : Context) (facts : Facts) → IsComplete facts context
    → context.counts ≡ map (λ s. s.cells) (spaces_of facts) → length context.widths ≡ length (spaces_of facts)
    → (cell : Number) (token : ℕ) (o : Option (ℕ × SpaceFacts))
    → ((i : ℕ) (s : SpaceFacts) → o ≡ Some (i, s) → IsSpace context i s) → number_faults cell o token ≡ []
    → IsCellOf (spaces_of facts) (space_index o, cell.value)
cell_case context facts whole counts many cell token None space e = cc e
cell_case context facts whole counts many cell token (Some (i, s)) space e =
    let is : IsSpace context i s = space i s refl in
    let below : cell.value < s.cells = within cell s.cells e in (
      subst (λ n. i < n) many is.within,
      subst (λ cs. cell.value < slice_index cs i) counts (subst (λ n. cell.value < n) is.cells below),
    )
  where
    within : (n : Number) (cells : ℕ) → (if nat_lt n.value cells then [] else UnknownName n.token ∷ []) ≡ []
        → n.value < cells
    within n cells none = grind (arith, common_steps)

module _ (items : List Item) (whole : List Meaning) (all : AllByRecursion (IsFaultless (facts_in items) whole) items) where
  complete_here : IsComplete (facts_in items) (context_in (facts_in items))
  complete_here = complete whole items all

  counts_are : (context_in (facts_in items)).counts ≡ map (λ s. s.cells) (spaces_of (facts_in items))
  counts_are = sym (map_twice (λ s. s.cells) space_of (facts_in items).spaces)

  many_are : length (context_in (facts_in items)).widths ≡ length (spaces_of (facts_in items))
  many_are = length-map (facts_in items).spaces (λ s. bits_of s.width) ∙ sym (length-map (facts_in items).spaces space_of)

  cell_of : (space : Ident) (cell : Number) → cell_faults (facts_in items) space cell ≡ []
      → IsCellOf (spaces_of (facts_in items)) (given_cell (facts_in items) space cell)
  cell_of space cell e =
      cell_case (context_in (facts_in items)) (facts_in items) complete_here counts_are many_are cell space.token
      (space_named (facts_in items) space.text)
      (found_space (context_in (facts_in items)) (facts_in items) complete_here space.text) e

  -- what is given first is so, if it is so of each item
  first_is : {A : Type 0} (f : Item → Option A) (P : A → Type 0) (rest : List Item)
      → AllByRecursion (IsFaultless (facts_in items) whole) rest
      → ((item : Item) → IsFaultless (facts_in items) whole item → IfSome (f item) P) → IfSome (first_given f rest) P
  first_is f P [] rest_all each = tt
  first_is {A = A} f P (item ∷ rest) rest_all each =
      or_else (f item) (first_given f rest) (each item rest_all.0) (first_is f P rest rest_all.1 each)
    where
      or_else : (o other : Option A) → IfSome o P → IfSome other P → IfSome (option_or o other) P
      or_else None other p q = q
      or_else (Some x) other p q = p

  frame_is : (item : Item) → IsFaultless (facts_in items) whole item
      → IfSome (frame_given (facts_in items) item) (IsCellOf (spaces_of (facts_in items)))
  frame_is (fact.Frame token space cell) is = cell_of space cell is.none
  frame_is _ is = tt

  link_is : (item : Item) → IsFaultless (facts_in items) whole item
      → IfSome (link_given (facts_in items) item) (IsCellOf (spaces_of (facts_in items)))
  link_is (fact.Link token space cell) is = cell_of space cell is.none
  link_is _ is = tt

  zero_is : (item : Item) → IsFaultless (facts_in items) whole item
      → IfSome (zero_given (facts_in items) item) (IsCellOf (spaces_of (facts_in items)))
  zero_is (fact.Zero token space cell) is = cell_of space cell is.none
  zero_is _ is = tt

  allocatable_is : (item : Item) → IsFaultless (facts_in items) whole item
      → IfSome (allocatable_given (facts_in items) item)
      (λ a. IsCellOf (spaces_of (facts_in items)) (a.0, a.1) × IsCellOf (spaces_of (facts_in items)) (a.0, a.2))
  allocatable_is (fact.Allocatable token space first last) is =
      let parts : (cell_faults (facts_in items) space first ≡ []) × (cell_faults (facts_in items) space last ≡ []) =
      none_of (cell_faults (facts_in items) space first) (cell_faults (facts_in items) space last) is.none in
      (cell_of space first parts.0, cell_of space last parts.1)
  allocatable_is _ is = tt

  few_cells_item : (item : Item) → IsFaultless (facts_in items) whole item
      → AllByRecursion (λ s. s.cells ≤ 64) (map space_of (space_of_item item))
  few_cells_item (fact.Space token name cells bits flags) is =
      let a = none_of (width_faults bits) (more_than 8 token (suc is.spaces) ++ more_than 64 token cells.value) is.none in
      let b = none_of (more_than 8 token (suc is.spaces)) (more_than 64 token cells.value) a.1 in
      (within_limit 64 token cells.value b.1, tt)
  few_cells_item _ is = tt

  few_cells : (rest : List Item) → AllByRecursion (IsFaultless (facts_in items) whole) rest
      → AllByRecursion (λ s. s.cells ≤ 64) (map space_of (spaces_in rest))
  few_cells [] rest_all = tt
  few_cells (item ∷ rest) rest_all =
      subst (AllByRecursion (λ s. s.cells ≤ 64)) (sym (map-append space_of (space_of_item item) (spaces_in rest)))
      (each_append (λ s. s.cells ≤ 64) (map space_of (space_of_item item)) (map space_of (spaces_in rest))
      (few_cells_item item rest_all.0) (few_cells rest rest_all.1))

  -- the spaces of register operands are there
  place_case : (token : ℕ) (o : Option (ℕ × SpaceFacts))
      → ((i : ℕ) (s : SpaceFacts) → o ≡ Some (i, s) → IsSpace (context_in (facts_in items)) i s) → unknown_unless (is_some o) token ≡ []
      → HasSpace (spaces_of (facts_in items)) (kind_of (register_of o))
  place_case token None space e = cc e
  place_case token (Some (i, s)) space e =
      let is : IsSpace (context_in (facts_in items)) i s = space i s refl in
      subst (λ n. i < n) many_are is.within

  place_is : (k : raw.OperandKind) → kind_faults (facts_in items) k ≡ []
      → HasSpace (spaces_of (facts_in items)) (kind_of (facts_of_operand (facts_in items) k))
  place_is (Register space) e =
      place_case space.token (space_named (facts_in items) space.text)
      (found_space (context_in (facts_in items)) (facts_in items) complete_here space.text) e
  place_is (Immediate token bits) e = tt
  place_is (Address token) e = tt

  places_are : (operands : List Operand) → flat_map (λ o. kind_faults (facts_in items) o.kind) operands ≡ []
      → AllByRecursion (λ o. HasSpace (spaces_of (facts_in items)) o.1) (map (operand_of (facts_in items)) operands)
  places_are [] e = tt
  places_are (o ∷ operands) e =
      let parts : (kind_faults (facts_in items) o.kind ≡ [])
      × (flat_map (λ x. kind_faults (facts_in items) x.kind) operands ≡ []) =
      none_of (kind_faults (facts_in items) o.kind) (flat_map (λ x. kind_faults (facts_in items) x.kind) operands) e in
      (place_is o.kind parts.0, places_are operands parts.1)

  same_context : context_in (facts_in items) ≡ context_of_parts (given_in items) (spaces_of (facts_in items))
  same_context =
      ap (λ w. record { word = w; widths = (context_in (facts_in items)).widths; counts = (context_in (facts_in items)).counts })
      (sym (word_is (facts_in items) whole items all))
      ∙ ap (λ ws. record { word = word_of (given_in items); widths = ws; counts = (context_in (facts_in items)).counts })
      (sym (map_twice (λ s. s.width) space_of (facts_in items).spaces))
      ∙ ap (λ cs. record {
        word = word_of (given_in items);
        widths = map (λ s. s.width) (spaces_of (facts_in items));
        counts = cs;
      }) counts_are

  operation_of : (token : ℕ) (name : Ident) (operands : List Operand) (body : List Effect)
      → IsFaultless (facts_in items) whole (fact.Instruction token name operands body)
      → IsNamedItem (fact.Instruction token name operands body)
      → IsTypedOperation (context_in (facts_in items)) (kinds_in (facts_in items) operands)
      (acts_of_instruction (facts_in items) whole operands body)
      → IsOperation (given_in items) (spaces_of (facts_in items)) (record {
        name = name.text;
        operands = map (operand_of (facts_in items)) operands;
        rtl = rtl_of (acts_of_instruction (facts_in items) whole operands body);
      })
  operation_of token name operands body is named typed =
      let limits = limits_of (facts_in items) whole is.instructions token operands body is.none in
      let kinds : map (λ o. o.1) (map (operand_of (facts_in items)) operands) ≡ kinds_in (facts_in items) operands =
      map_twice (λ o. o.1) (operand_of (facts_in items)) operands in
      let word : bits_of (word_in items) ≡ word_of (given_in items) = sym (word_is (facts_in items) whole items all) in
      record {
        name = is_name name.text named.0;
        operand_names = named_operands (facts_in items) operands named.1;
        operands = subst (λ n. n ≤ 8) (sym (length-map operands (operand_of (facts_in items))))
            (within_limit 8 token (length operands) limits.1);
        places = All-from_recursion (λ o. HasSpace (spaces_of (facts_in items)) o.1) (map (operand_of (facts_in items)) operands)
            (places_are operands limits.4);
        distinct = subst AreDistinct
            (map_twice (λ n. n.text) (λ o. o.name) operands ∙ sym (map_twice (λ o. o.0) (operand_of (facts_in items)) operands))
            (distinct (map (λ o. o.name) operands) [] limits.5);
        effects = subst (λ n. n ≤ 16)
            (sym (length-map (acts_of_instruction (facts_in items) whole operands body) effect_of))
            (within_limit 16 token (length (acts_of_instruction (facts_in items) whole operands body)) limits.3);
        nodes = within_limit 4096 token
            (nodes_of_rtl (rtl_of (acts_of_instruction (facts_in items) whole operands body))) limits.2;
        typed = subst (λ c. IsTypedRtl c (rtl_of (acts_of_instruction (facts_in items) whole operands body))) same_context
            typed.typed;
        event = typed.event;
        names = subst (λ w. All (EffectNames w (map (λ o. o.1) (map (operand_of (facts_in items)) operands)))
            (rtl_of (acts_of_instruction (facts_in items) whole operands body)).effects) word
            (subst (λ ks. All (EffectNames (bits_of (word_in items)) ks)
            (rtl_of (acts_of_instruction (facts_in items) whole operands body)).effects) (sym kinds) typed.names);
      }

  operation_item : (item : Item) → IsFaultless (facts_in items) whole item → IsNamedItem item
      → IsTypedItem (facts_in items) whole item
      → AllByRecursion (IsOperation (given_in items) (spaces_of (facts_in items)))
      (operation_of_item (facts_in items) whole item)
  operation_item (fact.Instruction token name operands body) is named typed =
      (operation_of token name operands body is named typed, tt)
  operation_item _ is named typed = tt

  operations_are : (rest : List Item) → AllByRecursion (IsFaultless (facts_in items) whole) rest
      → AllByRecursion IsNamedItem rest
      → AllByRecursion (IsTypedItem (facts_in items) whole) rest
      → AllByRecursion (IsOperation (given_in items) (spaces_of (facts_in items)))
      (flat_map (operation_of_item (facts_in items) whole) rest)
  operations_are [] rest_all named typed = tt
  operations_are (item ∷ rest) rest_all named typed =
      each_append (IsOperation (given_in items) (spaces_of (facts_in items)))
      (operation_of_item (facts_in items) whole item) (flat_map (operation_of_item (facts_in items) whole) rest)
      (operation_item item rest_all.0 named.0 typed.0) (operations_are rest rest_all.1 named.1 typed.1)

  -- the names of operations are those of the instructions
  names_of_item : (item : Item)
      → map (λ o. o.name) (operation_of_item (facts_in items) whole item) ≡ texts (instruction_name item)
  names_of_item (fact.Instruction token name operands body) = refl
  names_of_item _ = refl

  names_of_operations : (rest : List Item)
      → map (λ o. o.name) (flat_map (operation_of_item (facts_in items) whole) rest) ≡ texts (flat_map instruction_name rest)
  names_of_operations [] = refl
  names_of_operations (item ∷ rest) =
      map-append (λ o. o.name) (operation_of_item (facts_in items) whole item)
      (flat_map (operation_of_item (facts_in items) whole) rest)
      ∙ ap (λ xs. xs ++ map (λ o. o.name) (flat_map (operation_of_item (facts_in items) whole) rest)) (names_of_item item)
      ∙ ap (λ xs. texts (instruction_name item) ++ xs) (names_of_operations rest)
      ∙ sym (map-append (λ n. n.text) (instruction_name item) (flat_map instruction_name rest))

-- What a text without faults means is what a description can be made of.
pub keeps : (raw : RawMachine) → AreNamed raw → reported (faults_of raw) ≡ None
    → AreParts (machine_of raw).name (machine_of raw).given (machine_of raw).spaces (machine_of raw).operations
keeps raw named e =
    let items : List Item = raw.items in
    let names : AllByRecursion IsNamedItem items = recursion_from_All IsNamedItem items named.items in
    let facts : Facts = facts_in items in
    let ms : List Meaning = meanings_in facts items in
    let parts : (second_declarations items ≡ []) × (faults_after facts ms [] 0 0 items ≡ []) =
    none_of (second_declarations items) (faults_after facts ms [] 0 0 items) (nothing_reported (faults_of raw) e) in
    let all : AllByRecursion (IsFaultless facts ms) items = faultless facts ms [] 0 0 items parts.1 in
    let few : (0 + length (flat_map instruction_name items) ≤ 256) × (0 + length (flat_map space_name items) ≤ 8) =
    few_items facts ms items [] 0 0 parts.1 (omega arith) (omega arith) in
    let a = none_of (second_singles [] (flat_map single_item items)) (repeated (flat_map space_name items)
    ++ (repeated_after (map (λ p. p.0) operators) (flat_map function_name items)
    ++ repeated (flat_map instruction_name items))) parts.0 in
    let b = none_of (repeated (flat_map space_name items))
    (repeated_after (map (λ p. p.0) operators) (flat_map function_name items)
    ++ repeated (flat_map instruction_name items)) a.1 in
    let c = none_of (repeated_after (map (λ p. p.0) operators) (flat_map function_name items))
    (repeated (flat_map instruction_name items)) b.1 in
    let space_names : map (λ s. s.name) (spaces_of facts) ≡ texts (flat_map space_name items) =
    map_twice (λ s. s.name) space_of facts.spaces ∙ names_of_spaces items in
    let operations = flat_map (operation_of_item facts ms) items in
    let operation_names : map (λ o. o.name) operations ≡ texts (flat_map instruction_name items) =
    names_of_operations items ms all items in
    let many_spaces : length (spaces_of facts) ≡ length (flat_map space_name items) =
    sym (length-map (spaces_of facts) (λ s. s.name)) ∙ ap length space_names
    ∙ length-map (flat_map space_name items) (λ n. n.text) in
    let many_operations : length operations ≡ length (flat_map instruction_name items) =
    sym (length-map operations (λ o. o.name)) ∙ ap length operation_names
    ∙ length-map (flat_map instruction_name items) (λ n. n.text) in
    let allocatable : IfSome (first_given (allocatable_given facts) items)
    (λ x. IsCellOf (spaces_of facts) (x.0, x.1) × IsCellOf (spaces_of facts) (x.0, x.2)) =
    first_is items ms all (allocatable_given facts)
    (λ x. IsCellOf (spaces_of facts) (x.0, x.1) × IsCellOf (spaces_of facts) (x.0, x.2)) items all
    (allocatable_is items ms all) in
    record {
      is_name = is_name raw.name.text named.name;
      space_names = All-from_recursion (λ s. IsName s.name) (spaces_of facts) (named_spaces items names);
      few_spaces = omega (arith, many_spaces, few.1);
      few_cells = All-from_recursion (λ s. s.cells ≤ 64) (spaces_of facts) (few_cells items ms all items all);
      distinct_spaces = subst AreDistinct (sym space_names) (distinct (flat_map space_name items) [] b.0);
      frame = first_is items ms all (frame_given facts) (IsCellOf (spaces_of facts)) items all (frame_is items ms all);
      link = first_is items ms all (link_given facts) (IsCellOf (spaces_of facts)) items all (link_is items ms all);
      «zero» = first_is items ms all (zero_given facts) (IsCellOf (spaces_of facts)) items all (zero_is items ms all);
      first = IfSome_then (first_given (allocatable_given facts) items) allocatable (λ x p. p.0);
      last = IfSome_then (first_given (allocatable_given facts) items) allocatable (λ x p. p.1);
      few_operations = omega (arith, many_operations, few.0);
      distinct_operations = subst AreDistinct (sym operation_names) (distinct (flat_map instruction_name items) [] c.1);
      each = All-from_recursion (IsOperation (given_in items) (spaces_of facts)) operations
          (operations_are items ms all items all names (typed_text raw e));
    }
