-- The names of a machine's text are names of what it means.
use Rattle.std.specs.Prelude.{ℕ, ◌≡◌, false, List, [], ◌∷◌, map, All}
use Rattle.std.specs.List.{AllByRecursion, list_any}
use Rattle.std.specs.Str.{bytes_eq}
use Rattle.std.proofs.Common.{refl, sym, subst}
use Rattle.std.proofs.lemmas.List.{map-append}
use Rattle.std.proofs.lemmas.List.Elements.{All-from_recursion, recursion_from_All}
use Rattle.qc_lists.specs.Law.Lists.{each_append}
use Rattle.qc_descr.specs.declared.description.OperandKind.{OperandKind}
use Rattle.qc_descr.specs.Names.{IsName, machine_words}
use Rattle.qc_lrtl.specs.declared.syntax.Operand.{Operand}
use Rattle.qc_lrtl.specs.declared.syntax.Item.{Item}
use Rattle.qc_lrtl.specs.declared.syntax.Item.TheVariants as fact
use Rattle.qc_lrtl.specs.LambdaRtl.{reserved}
use Rattle.qc_lrtl.specs.Named.{IsName as IsTextName, IsNamedItem, IsNamedOperand}
use Rattle.qc_facts.specs.Facts.{space_of_item, spaces_in, facts_of_operand, Facts}
use Rattle.qc_widths.specs.Machine.{kind_of, space_of}

-- what the grammar reserves are the words that names of descriptions may not be
same_words : reserved ≡ machine_words
same_words = refl

-- a name of machine texts is one of descriptions
pub is_name : (text : List ℕ) → IsTextName text → IsName text
is_name text named = record {
  form = named.form;
  free = subst (λ words. list_any (λ word. bytes_eq word text) words ≡ false) same_words named.free;
}

-- the spaces have names
pub named_spaces : (items : List Item) → AllByRecursion IsNamedItem items
    → AllByRecursion (λ s. IsName s.name) (map space_of (spaces_in items))
named_spaces [] named = tt
named_spaces (item ∷ items) named =
    subst (AllByRecursion (λ s. IsName s.name)) (sym (map-append space_of (space_of_item item) (spaces_in items)))
    (each_append (λ s. IsName s.name) (map space_of (space_of_item item)) (map space_of (spaces_in items))
    (of_item item named.0) (named_spaces items named.1))
  where
    of_item : (x : Item) → IsNamedItem x → AllByRecursion (λ s. IsName s.name) (map space_of (space_of_item x))
    of_item (fact.Space token name cells bits flags) is = (is_name name.text is, tt)
    of_item _ is = tt

-- what an operand is named, and what it is
abbrev pub operand_of : Facts → Operand → List ℕ × OperandKind
operand_of facts o = (o.name.text, kind_of (facts_of_operand facts o.kind))

-- the operands of an instruction have names
pub named_operands : (facts : Facts) (operands : List Operand) → All IsNamedOperand operands
    → All (λ (o : List ℕ × OperandKind). IsName o.0) (map (operand_of facts) operands)
named_operands facts operands named =
    All-from_recursion (λ (o : List ℕ × OperandKind). IsName o.0) (map (operand_of facts) operands)
    (of_each operands (recursion_from_All IsNamedOperand operands named))
  where
    of_each : (rest : List Operand) → AllByRecursion IsNamedOperand rest
        → AllByRecursion (λ (o : List ℕ × OperandKind). IsName o.0) (map (operand_of facts) rest)
    of_each [] all = tt
    of_each (o ∷ rest) all = (is_name o.name.text all.0, of_each rest all.1)
