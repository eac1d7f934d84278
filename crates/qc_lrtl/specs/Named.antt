-- The names that a machine's text declares: texts of names, none of them a reserved word.
use Rattle.std.specs.Prelude.{ℕ, ◌≡◌, false, List, All}
use Rattle.std.specs.List.{list_any}
use Rattle.std.specs.Str.{bytes_eq}
use Rattle.qc_text.specs.declared.token.Kind.TheVariants as kind
use Rattle.qc_text.specs.Tokens.{IsTokenText}
use Rattle.qc_lrtl.specs.declared.syntax.Operand.{Operand}
use Rattle.qc_lrtl.specs.declared.syntax.Item.{Item}
use Rattle.qc_lrtl.specs.declared.syntax.Item.TheVariants as fact
use Rattle.qc_lrtl.specs.declared.syntax.RawMachine.{RawMachine}
use Rattle.qc_lrtl.specs.LambdaRtl.{reserved}

-- a name of machine texts
pub record IsName (text : List ℕ) : Type 0 where
  pub form : IsTokenText kind.Name text
  pub free : list_any (λ word. bytes_eq word text) reserved ≡ false

abbrev pub IsNamedOperand : Operand → Type 0
IsNamedOperand operand = IsName operand.name.text

-- What the item declares has names: a space, or an instruction and each of its operands.
abbrev pub IsNamedItem : Item → Type 0
IsNamedItem (fact.Space token name cells bits flags) = IsName name.text
IsNamedItem (fact.Instruction token name operands body) = IsName name.text × All IsNamedOperand operands
IsNamedItem _ = Unit {0}

-- the names of a machine's text
pub record AreNamed (raw : RawMachine) : Type 0 where
  pub name : IsName raw.name.text
  pub items : All IsNamedItem raw.items
