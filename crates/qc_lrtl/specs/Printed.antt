-- What is printed for a tree, and that each text of the tree spells it.
use Rattle.std.specs.Prelude.{ℕ, Bool, true, false, List, [], ◌∷◌, ◌++◌, Option, None, Some, codes, ◌≡◌}
use Rattle.std.specs.List.{flat_map}
use Rattle.std.proofs.Common.{refl, ap, sym, ◌∙◌}
use Rattle.qc_grammar.specs.declared.cursor.Ident.{Ident}
use Rattle.qc_grammar.specs.Lexeme.{number_in}
use Rattle.qc_grammar.specs.Lexeme.{Lexeme, ident_of}
use Rattle.qc_grammar.specs.Grammar.{Grammar}
use Rattle.qc_grammar.specs.Language.{IsPhrase}
use Rattle.qc_grammar.specs.Spelled.{spellings}
use Rattle.qc_grammar.specs.Law.SeparatedWords.{joined_words}
use Rattle.qc_grammar.specs.Law.Spelling as spell
use Rattle.qc_text.specs.PrintedWords.{Words, joined}
use Rattle.qc_grammar.specs.Printing.{as_text, digits, next_words, separated_words}
use Rattle.qc_grammar.specs.declared.cursor.Number.{Number}
use Rattle.qc_lrtl.specs.declared.syntax.Expr.{Expr, fold-Expr, fold-roll-Expr}
use Rattle.qc_lrtl.specs.declared.syntax.Expr.TheVariants as expr
use Rattle.qc_lrtl.specs.declared.syntax.Expr.TheOpen.{Expr-F, Literal, Input, After, Mem, Zx, Sx, Slice, Name, Call, Cell}
use Rattle.qc_lrtl.specs.declared.syntax.Simple.{Simple}
use Rattle.qc_lrtl.specs.declared.syntax.Simple.TheVariants as target
use Rattle.qc_lrtl.specs.declared.syntax.Guard.{Guard}
use Rattle.qc_lrtl.specs.declared.syntax.Effect.{Effect}
use Rattle.qc_lrtl.specs.declared.syntax.Param.{Param}
use Rattle.qc_lrtl.specs.declared.syntax.Operand.{Operand}
use Rattle.qc_lrtl.specs.declared.syntax.OperandKind.{OperandKind}
use Rattle.qc_lrtl.specs.declared.syntax.OperandKind.TheVariants.{Register, Immediate, Address}
use Rattle.qc_lrtl.specs.declared.syntax.ByteOrder.{ByteOrder}
use Rattle.qc_lrtl.specs.declared.syntax.ByteOrder.TheVariants.{Little, Big}
use Rattle.qc_lrtl.specs.declared.syntax.Item.{Item}
use Rattle.qc_lrtl.specs.declared.syntax.Item.TheVariants as fact
use Rattle.qc_lrtl.specs.declared.syntax.RawMachine.{RawMachine}
use Rattle.qc_lrtl.specs.LambdaRtl as grammar
use Rattle.qc_lrtl.specs.LambdaRtl.{Rule, TreeOf, any_expr, lambda_rtl, machine}

abbrev pub expr_layer : Expr-F Words → Words
expr_layer (Literal value bits) = digits value ∷ codes "'" ∷ digits bits ∷ []
expr_layer (Input token) = codes "input" ∷ []
expr_layer (After token) = codes "after" ∷ []
expr_layer (Mem token bits address) = codes "mem" ∷ digits bits ∷ codes "[" ∷ (address ++ codes "]" ∷ [])
expr_layer (Zx token bits arg) = codes "zx" ∷ digits bits ∷ codes "(" ∷ (arg ++ codes ")" ∷ [])
expr_layer (Sx token bits arg) = codes "sx" ∷ digits bits ∷ codes "(" ∷ (arg ++ codes ")" ∷ [])
expr_layer (Slice token low bits arg) = codes "slice" ∷ digits low ∷ digits bits ∷ codes "(" ∷ (arg ++ codes ")" ∷ [])
expr_layer (Name name) = name.text ∷ []
expr_layer (Call name args) = name.text ∷ codes "(" ∷ (joined (codes ",") args ++ codes ")" ∷ [])
expr_layer (Cell space cell) = space.text ∷ codes "[" ∷ digits cell ∷ codes "]" ∷ []

-- the words of an expression
unfoldable pub expr_words : Expr → Words
expr_words = fold-Expr Words expr_layer

pub expr_words-literal : (value bits : Number)
    → expr_words (expr.Literal value bits) ≡ digits value ∷ codes "'" ∷ digits bits ∷ []
unfolding expr_words
expr_words-literal value bits = ap expr_words (sym (expr.rolls-Literal value bits))
    ∙ fold-roll-Expr Words expr_layer (Literal value bits)

pub expr_words-input : (token : ℕ) → expr_words (expr.Input token) ≡ codes "input" ∷ []
unfolding expr_words
expr_words-input token = ap expr_words (sym (expr.rolls-Input token)) ∙ fold-roll-Expr Words expr_layer (Input token)

pub expr_words-after : (token : ℕ) → expr_words (expr.After token) ≡ codes "after" ∷ []
unfolding expr_words
expr_words-after token = ap expr_words (sym (expr.rolls-After token)) ∙ fold-roll-Expr Words expr_layer (After token)

pub expr_words-mem : (token : ℕ) (bits : Number) (address : Expr)
    → expr_words (expr.Mem token bits address) ≡ codes "mem" ∷ digits bits
    ∷ codes "[" ∷ (expr_words address ++ codes "]" ∷ [])
unfolding expr_words
expr_words-mem token bits address = ap expr_words (sym (expr.rolls-Mem token bits address))
    ∙ fold-roll-Expr Words expr_layer (Mem token bits address)

pub expr_words-zx : (token : ℕ) (bits : Number) (arg : Expr)
    → expr_words (expr.Zx token bits arg) ≡ codes "zx" ∷ digits bits ∷ codes "(" ∷ (expr_words arg ++ codes ")" ∷ [])
unfolding expr_words
expr_words-zx token bits arg = ap expr_words (sym (expr.rolls-Zx token bits arg))
    ∙ fold-roll-Expr Words expr_layer (Zx token bits arg)

pub expr_words-sx : (token : ℕ) (bits : Number) (arg : Expr)
    → expr_words (expr.Sx token bits arg) ≡ codes "sx" ∷ digits bits ∷ codes "(" ∷ (expr_words arg ++ codes ")" ∷ [])
unfolding expr_words
expr_words-sx token bits arg = ap expr_words (sym (expr.rolls-Sx token bits arg))
    ∙ fold-roll-Expr Words expr_layer (Sx token bits arg)

pub expr_words-slice : (token : ℕ) (low bits : Number) (arg : Expr)
    → expr_words (expr.Slice token low bits arg) ≡ codes "slice" ∷ digits low ∷ digits bits
    ∷ codes "(" ∷ (expr_words arg ++ codes ")" ∷ [])
unfolding expr_words
expr_words-slice token low bits arg = ap expr_words (sym (expr.rolls-Slice token low bits arg))
    ∙ fold-roll-Expr Words expr_layer (Slice token low bits arg)

pub expr_words-name : (name : Ident) → expr_words (expr.Name name) ≡ name.text ∷ []
unfolding expr_words
expr_words-name name = ap expr_words (sym (expr.rolls-Name name)) ∙ fold-roll-Expr Words expr_layer (Name name)

pub expr_words-call : (name : Ident) (args : List Expr)
    → expr_words (expr.Call name args) ≡ name.text ∷ codes "(" ∷ (separated_words (codes ",") expr_words args ++ codes ")" ∷ [])
unfolding expr_words
expr_words-call name args =
    ap expr_words (sym (expr.rolls-Call name args)) ∙ fold-roll-Expr Words expr_layer (Call name args)
    ∙ ap (λ ws. name.text ∷ codes "(" ∷ (ws ++ codes ")" ∷ [])) (joined_words (codes ",") expr_words args)

pub expr_words-cell : (space : Ident) (cell : Number)
    → expr_words (expr.Cell space cell) ≡ space.text ∷ codes "[" ∷ digits cell ∷ codes "]" ∷ []
unfolding expr_words
expr_words-cell space cell = ap expr_words (sym (expr.rolls-Cell space cell))
    ∙ fold-roll-Expr Words expr_layer (Cell space cell)

abbrev pub assigned_words : Expr → Words
assigned_words value = codes ":=" ∷ expr_words value

abbrev pub simple_words : Simple → Words
simple_words (target.Pc token value) = codes "pc" ∷ assigned_words value
simple_words (target.Out token value) = codes "out" ∷ assigned_words value
simple_words (target.Halt token value) = codes "halt" ∷ assigned_words value
simple_words (target.Trap token value) = codes "trap" ∷ assigned_words value
simple_words (target.Mem token bits address value) =
    codes "mem" ∷ digits bits ∷ codes "[" ∷ ((expr_words address ++ codes "]" ∷ []) ++ assigned_words value)
simple_words (target.Name name value) = name.text ∷ assigned_words value
simple_words (target.Cell space cell value) = space.text ∷ codes "[" ∷ digits cell ∷ codes "]" ∷ assigned_words value
simple_words (target.Use name args) = name.text ∷ codes "(" ∷ (separated_words (codes ",") expr_words args ++ codes ")" ∷ [])

abbrev pub guard_words : Option Guard → Words
guard_words None = []
guard_words (Some guard) = codes "when" ∷ (expr_words guard.condition ++ codes "=>" ∷ [])

-- the words of an effect
unfoldable pub effect_words : Effect → Words
effect_words e = guard_words e.guard ++ simple_words e.simple

-- effects with a bar between them
abbrev pub rtl_words : List Effect → Words
rtl_words = separated_words (codes "|") effect_words

abbrev pub arity_words : Option Number → Words
arity_words None = []
arity_words (Some arity) = codes "/" ∷ digits arity ∷ []

unfoldable pub param_words : Param → Words
param_words p = p.name.text ∷ arity_words p.arity

abbrev pub params_words : List Param → Words
params_words params = codes "(" ∷ (separated_words (codes ",") param_words params ++ codes ")" ∷ [])

abbrev pub operand_kind_words : OperandKind → Words
operand_kind_words (Register space) = space.text ∷ []
operand_kind_words (Immediate token bits) = codes "imm" ∷ digits bits ∷ []
operand_kind_words (Address token) = codes "addr" ∷ []

unfoldable pub operand_words : Operand → Words
operand_words o = o.name.text ∷ codes ":" ∷ operand_kind_words o.kind

abbrev pub operands_words : List Operand → Words
operands_words operands = codes "(" ∷ (separated_words (codes ",") operand_words operands ++ codes ")" ∷ [])

abbrev pub order_words : ByteOrder → Words
order_words Little = codes "little" ∷ []
order_words Big = codes "big" ∷ []

abbrev pub flags_words : Bool → Words
flags_words true = codes "flags" ∷ []
flags_words false = []

-- the words of an item, with those of a body after those of its head
unfoldable pub item_words : Item → Words
item_words (fact.Word token bits) = codes "word" ∷ digits bits ∷ []
item_words (fact.ByteOrder token order) = codes "byteorder" ∷ order_words order
item_words (fact.Align token bytes) = codes "align" ∷ digits bytes ∷ []
item_words (fact.SlotBits token bits) = codes "slotbits" ∷ digits bits ∷ []
item_words (fact.Memory token bytes) = codes "memory" ∷ digits bytes ∷ []
item_words (fact.Code token end) = codes "code" ∷ digits end ∷ []
item_words (fact.Data token end) = codes "data" ∷ digits end ∷ []
item_words (fact.Space token name cells bits flags) =
    codes "space" ∷ name.text ∷ digits cells ∷ codes "cells" ∷ digits bits ∷ codes "bits" ∷ flags_words flags
item_words (fact.Zero token space cell) = codes "zero" ∷ space.text ∷ digits cell ∷ []
item_words (fact.Frame token space cell) = codes "frame" ∷ space.text ∷ digits cell ∷ []
item_words (fact.Link token space cell) = codes "link" ∷ space.text ∷ digits cell ∷ []
item_words (fact.Allocatable token space first last) =
    codes "allocatable" ∷ space.text ∷ digits first ∷ codes ".." ∷ digits last ∷ []
item_words (fact.Function token name params body) =
    codes "fun" ∷ name.text ∷ ((params_words params ++ codes "=" ∷ []) ++ expr_words body)
item_words (fact.Effects token name params body) =
    codes "eff" ∷ name.text ∷ ((params_words params ++ codes "=" ∷ []) ++ rtl_words body)
item_words (fact.Instruction token name operands body) =
    codes "instr" ∷ name.text ∷ ((operands_words operands ++ codes "=" ∷ []) ++ rtl_words body)

-- a function, an effect or an instruction
abbrev pub IsDeclaration : Item → Type 0
IsDeclaration (fact.Function token name params body) = Unit {0}
IsDeclaration (fact.Effects token name params body) = Unit {0}
IsDeclaration (fact.Instruction token name operands body) = Unit {0}
IsDeclaration (fact.Word token bits) = ⊥
IsDeclaration (fact.ByteOrder token order) = ⊥
IsDeclaration (fact.Align token bytes) = ⊥
IsDeclaration (fact.SlotBits token bits) = ⊥
IsDeclaration (fact.Memory token bytes) = ⊥
IsDeclaration (fact.Code token end) = ⊥
IsDeclaration (fact.Data token end) = ⊥
IsDeclaration (fact.Space token name cells bits flags) = ⊥
IsDeclaration (fact.Zero token space cell) = ⊥
IsDeclaration (fact.Frame token space cell) = ⊥
IsDeclaration (fact.Link token space cell) = ⊥
IsDeclaration (fact.Allocatable token space first last) = ⊥

-- an item and a semicolon
unfoldable pub ended_words : Item → Words
ended_words item = item_words item ++ codes ";" ∷ []

-- the words of a machine
abbrev pub machine_words : RawMachine → Words
machine_words raw = codes "machine" ∷ raw.name.text ∷ codes ";" ∷ flat_map ended_words raw.items

abbrev pub rule_words : (r : Rule) → TreeOf r → Words
rule_words any_expr = expr_words

-- each rule spells its tree's words
abbrev Spells : {A : Type 0} → Grammar Rule TreeOf A → (A → Words) → Type 0
Spells g words_of = spell.EachSpells as_text rule_words g (λ words x. words ≡ words_of x)

expr_spells : Spells grammar.expr expr_words
unfolding grammar.expr grammar.after_name grammar.arguments grammar.exprs grammar.cell
    grammar.built grammar.resized grammar.address grammar.argument next_words
expr_spells = (
  (λ t q u. sym (expr_words-literal (number_in t) (number_in u))),
  (
    (λ n. (
      (λ t. (
        (λ u. sym (expr_words-call (ident_of n) [])),
        (λ x. (next_words (codes ",") expr_words, (λ u y. refl), λ xs u. sym (expr_words-call (ident_of n) (x ∷ xs)))),
      )),
      (
        (λ t k u. sym (expr_words-cell (ident_of n) (number_in k))),
        sym (expr_words-name (ident_of n)),
      ),
    )),
    (
      (λ t. sym (expr_words-input t.number)),
      (
        (λ t. sym (expr_words-after t.number)),
        (
          (λ t k u x v. sym (expr_words-mem t.number (number_in k) x)),
          (
            (λ t k u x v. sym (expr_words-zx t.number (number_in k) x)),
            (
              (λ t k u x v. sym (expr_words-sx t.number (number_in k) x)),
              (λ t l k u x v. sym (expr_words-slice t.number (number_in l) (number_in k) x)),
            ),
          ),
        ),
      ),
    ),
  ),
)

simple_spells : Spells grammar.simple simple_words
unfolding grammar.simple grammar.address grammar.assigned grammar.after_target grammar.cell
    grammar.arguments grammar.exprs next_words
simple_spells = (
  (λ n. (
    (λ t x. refl),
    (
      (λ t k u v x. refl),
      (λ t. ((λ u. refl), (λ x. (next_words (codes ",") expr_words, (λ u y. refl), λ xs u. refl)))),
    ),
  )),
  (
    (λ t k u x v w y. refl),
    ((λ t u x. refl), ((λ t u x. refl), ((λ t u x. refl), (λ t u x. refl)))),
  ),
)

effect_spells : Spells grammar.effect effect_words
unfolding grammar.effect grammar.guard effect_words
effect_spells = (
  (λ t x u. spell.spelled as_text rule_words grammar.simple simple_words simple_spells _ (λ y. refl)),
  spell.spelled as_text rule_words grammar.simple simple_words simple_spells _ (λ y. refl),
)

rtl_spells : Spells grammar.rtl rtl_words
unfolding grammar.rtl next_words
rtl_spells =
    spell.spelled as_text rule_words grammar.effect effect_words effect_spells _
    (λ x. (
      next_words (codes "|") effect_words,
      (λ t. spell.spelled as_text rule_words grammar.effect effect_words effect_spells _ (λ y. refl)),
      λ xs. refl,
    ))

param_spells : Spells grammar.param param_words
unfolding grammar.param grammar.arity param_words
param_spells = λ n. ((λ t k. refl), refl)

params_spells : Spells grammar.params params_words
unfolding grammar.params next_words
params_spells = λ t. (
  (λ u. refl),
  spell.spelled as_text rule_words grammar.param param_words param_spells _
      (λ x. (
        next_words (codes ",") param_words,
        (λ u. spell.spelled as_text rule_words grammar.param param_words param_spells _
            (λ y. refl)),
        λ xs u. refl,
      )),
)

operand_spells : Spells grammar.operand operand_words
unfolding grammar.operand grammar.operand_kind operand_words
operand_spells = λ n t. ((λ m. refl), ((λ u k. refl), (λ u. refl)))

operands_spells : Spells grammar.operands operands_words
unfolding grammar.operands next_words
operands_spells = λ t. (
  (λ u. refl),
  spell.spelled as_text rule_words grammar.operand operand_words operand_spells _
      (λ x. (
        next_words (codes ",") operand_words,
        (λ u. spell.spelled as_text rule_words grammar.operand operand_words operand_spells _
            (λ y. refl)),
        λ xs u. refl,
      )),
)

item_spells : Spells grammar.item item_words
unfolding grammar.item grammar.single grammar.order grammar.region grammar.of_cells grammar.role grammar.flags
    grammar.declaration grammar.instruction item_words
item_spells = (
  ((λ t k. refl), ((λ t. ((λ u. refl), (λ u. refl))), ((λ t k. refl), (λ t k. refl)))),
  (
    ((λ t k. refl), ((λ t k. refl), (λ t k. refl))),
    (
      (
        (λ t n k u l v. ((λ w. refl), refl)),
        ((λ t n k. refl), ((λ t n k. refl), ((λ t n k. refl), (λ t n k u l. refl)))),
      ),
      (
        (λ t n. spell.spelled as_text rule_words grammar.params params_words params_spells _ (λ ps u x. refl)),
        (
          (λ t n. spell.spelled as_text rule_words grammar.params params_words params_spells _
              (λ ps u. spell.spelled as_text rule_words grammar.rtl rtl_words rtl_spells _ (λ r. refl))),
          (λ t n. spell.spelled as_text rule_words grammar.operands operands_words operands_spells _
              (λ os u. spell.spelled as_text rule_words grammar.rtl rtl_words rtl_spells _ (λ r. refl))),
        ),
      ),
    ),
  ),
)

machine_spells : Spells machine machine_words
unfolding machine grammar.items grammar.ended_item ended_words
machine_spells = λ t n u. (
  ended_words,
  spell.spelled as_text rule_words grammar.item item_words item_spells _ (λ x v. refl),
  λ xs. refl,
)

-- each text of a machine spells its words
pub machine_texts : (tokens : List Lexeme) (raw : RawMachine) → IsPhrase lambda_rtl machine tokens raw
    → spellings as_text tokens ≡ machine_words raw
machine_texts tokens raw phrase =
    spell.texts_spell as_text lambda_rtl rule_words (elim [ any_expr ↦ expr_spells ]) machine machine_words
    machine_spells tokens raw phrase
