-- The width of an expression, the width that its place wants, and the faults of expressions.
use Rattle.std.specs.Prelude.{ℕ, ◌/◌, nat_eq, nat_lt, not, false, if◌then◌else◌, List, [], ◌∷◌, ◌++◌, Bool, Option, None, Some}
use Rattle.std.specs.Option.{option_or}
use Rattle.qc_grammar.specs.declared.cursor.Ident.{Ident}
use Rattle.qc_cmm.specs.declared.syntax.Expr.{Expr, fold-Expr}
use Rattle.qc_cmm.specs.declared.syntax.Expr.TheOpen as layer
use Rattle.qc_cmm.specs.declared.syntax.Expr.TheOpen.{Expr-F}
use Rattle.qc_cmmtype.specs.declared.faults.ProgramFault.{ProgramFault}
use Rattle.qc_cmmtype.specs.declared.faults.ProgramFault.TheVariants.{UnknownName, WidthClash}
use Rattle.qc_cmmtype.specs.declared.prims.Prim.{Prim}
use Rattle.qc_cmmtype.specs.declared.prims.Prim.TheVariants.{Operation, Comparison, ZeroExtension, SignExtension, LowBits8, LowBits16, LowBits32}
use Rattle.qc_cmmtype.specs.Faults.{unless, arity}
use Rattle.qc_cmmtype.specs.Types.{width_of_type, token_of_type, token_of_literal, literal_faults}
use Rattle.qc_cmmtype.specs.Prims.{prim_named, operands_of}
use Rattle.qc_cmmtype.specs.Scopes.{Scope}

-- The width of a name: that of the variable, or the word's for a label of data.
abbrev pub width_of_data : ℕ → Bool → Option ℕ
width_of_data word is_data = if is_data then Some word else None

abbrev pub width_of_name : Scope → List ℕ → Option ℕ
width_of_name scope name =
    option_or (scope.variable name) (width_of_data scope.globals.word (scope.globals.is_data name))

-- The width that a Prim has whatever its operands are: the word's for a comparison and for an extension.
abbrev pub fixed_width : ℕ → Option Prim → Option ℕ
fixed_width word None = None
fixed_width word (Some (Operation op)) = None
fixed_width word (Some (Comparison op)) = Some word
fixed_width word (Some ZeroExtension) = Some word
fixed_width word (Some SignExtension) = Some word
fixed_width word (Some LowBits8) = Some 8
fixed_width word (Some LowBits16) = Some 16
fixed_width word (Some LowBits32) = Some 32

-- The own width of a Prim. An operation has that of its first operand that has one, and so has an unknown Prim.
abbrev pub width_of_prim : ℕ → Option Prim → Option ℕ → Option ℕ
width_of_prim word prim operands = option_or (fixed_width word prim) operands

-- The width that a Prim at a place wants its operands to have: the place's for an operation, the operands' own or the
-- word's for a comparison, the operand's own for an extension, and the word's for the lowest bits.
abbrev pub or_word : ℕ → Option ℕ → Option ℕ
or_word word None = Some word
or_word word (Some width) = Some width

abbrev pub wanted_inside : ℕ → Option Prim → Option ℕ → Option ℕ → Option ℕ
wanted_inside word None wanted operands = wanted
wanted_inside word (Some (Operation op)) wanted operands = wanted
wanted_inside word (Some (Comparison op)) wanted operands = or_word word operands
wanted_inside word (Some ZeroExtension) wanted operands = operands
wanted_inside word (Some SignExtension) wanted operands = operands
wanted_inside word (Some LowBits8) wanted operands = Some word
wanted_inside word (Some LowBits16) wanted operands = Some word
wanted_inside word (Some LowBits32) wanted operands = Some word

-- An expression at a token has the width that its place wants, if that wants one.
abbrev pub place_faults : ℕ → ℕ → Option ℕ → List ProgramFault
place_faults token own None = []
place_faults token own (Some wanted) = unless (nat_eq own wanted) (WidthClash token own wanted)

-- A name in an expression is a variable or a label of data.
abbrev pub name_faults : ℕ → Option ℕ → Option ℕ → List ProgramFault
name_faults token None wanted = UnknownName token ∷ []
name_faults token (Some own) wanted = place_faults token own wanted

-- A load whose type is wider than the word has this one clash.
abbrev pub load_faults : ℕ → ℕ → ℕ → Option ℕ → List ProgramFault
load_faults word token own wanted = if nat_lt word own then WidthClash token own word ∷ [] else place_faults token own wanted

-- A Prim that has a width of its own has the wanted one. A Prim is known, has the number of its operands, and the lowest
-- bits are fewer than the word's.
abbrev pub own_place_faults : ℕ → Option ℕ → Option ℕ → List ProgramFault
own_place_faults token None wanted = []
own_place_faults token (Some own) wanted = place_faults token own wanted

abbrev pub low_faults : ℕ → ℕ → ℕ → List ProgramFault
low_faults word token bits = unless (nat_lt bits word) (WidthClash token bits (word / 2))

abbrev pub low_bits_faults : ℕ → ℕ → Option Prim → List ProgramFault
low_bits_faults word token (Some LowBits8) = low_faults word token 8
low_bits_faults word token (Some LowBits16) = low_faults word token 16
low_bits_faults word token (Some LowBits32) = low_faults word token 32
low_bits_faults word token _ = []

abbrev pub operand_count_faults : ℕ → Option Prim → ℕ → List ProgramFault
operand_count_faults token None count = UnknownName token ∷ []
operand_count_faults token (Some prim) count =
    unless (nat_eq count (operands_of prim)) (arity token count (operands_of prim))

abbrev pub prim_faults : ℕ → ℕ → Option Prim → ℕ → Option ℕ → List ProgramFault
prim_faults word token prim count wanted =
    own_place_faults token (fixed_width word prim) wanted
    ++ (low_bits_faults word token prim ++ operand_count_faults token prim count)

-- The operand of an extension is narrower than the word. One without a width counts as one of the word's.
abbrev pub is_narrow : ℕ → Option ℕ → Bool
is_narrow word None = false
is_narrow word (Some width) = not (nat_eq width word)

abbrev pub extended_faults : ℕ → ℕ → Option ℕ → List ProgramFault
extended_faults word first own = unless (is_narrow word own) (WidthClash first word (word / 2))

abbrev pub extension_faults : ℕ → Option Prim → ℕ → Option ℕ → List ProgramFault
extension_faults word (Some ZeroExtension) first own = extended_faults word first own
extension_faults word (Some SignExtension) first own = extended_faults word first own
extension_faults word _ first own = []

-- What an expression is where it stands: the number of its first token, its own width, if it has one, and its faults at a
-- place that wants a width, or none.
pub record Expression : Type 0 where
  pub first : ℕ
  pub own : Scope → Option ℕ
  pub faults : Scope → Option ℕ → List ProgramFault

abbrev pub operand_faults : Scope → Option Prim → Option ℕ → Expression → List ProgramFault
operand_faults scope prim wanted e =
    extension_faults scope.globals.word prim e.first (e.own scope) ++ e.faults scope wanted

abbrev pub unary_faults : Scope → Ident → Option Prim → Expression → Option ℕ → List ProgramFault
unary_faults scope name prim arg wanted =
    prim_faults scope.globals.word name.token prim 1 wanted
    ++ operand_faults scope prim (wanted_inside scope.globals.word prim wanted (arg.own scope)) arg

abbrev pub binary_faults : Scope → Ident → Option Prim → Expression → Expression → Option ℕ → Option ℕ → List ProgramFault
binary_faults scope name prim left right wanted inside =
    prim_faults scope.globals.word name.token prim 2 wanted
    ++ (operand_faults scope prim inside left ++ operand_faults scope prim inside right)

abbrev pub expression_layer : Expr-F Expression → Expression
expression_layer (layer.Literal value) = record {
  first = token_of_literal value;
  own = λ scope. None;
  faults = λ scope wanted. literal_faults value wanted;
}
expression_layer (layer.Name name) = record {
  first = name.token;
  own = λ scope. width_of_name scope name.text;
  faults = λ scope wanted. name_faults name.token (width_of_name scope name.text) wanted;
}
expression_layer (layer.Load t address) = record {
  first = token_of_type t;
  own = λ scope. Some (width_of_type t);
  faults = λ scope wanted. load_faults scope.globals.word (token_of_type t) (width_of_type t) wanted
      ++ address.faults scope (Some scope.globals.word);
}
expression_layer (layer.Unary name arg) = record {
  first = name.token;
  own = λ scope. width_of_prim scope.globals.word (prim_named scope.globals.word name.text) (arg.own scope);
  faults = λ scope wanted. unary_faults scope name (prim_named scope.globals.word name.text) arg wanted;
}
expression_layer (layer.Binary name left right) = record {
  first = name.token;
  own = λ scope. width_of_prim scope.globals.word (prim_named scope.globals.word name.text)
      (option_or (left.own scope) (right.own scope));
  faults = λ scope wanted. binary_faults scope name (prim_named scope.globals.word name.text) left right wanted
      (wanted_inside scope.globals.word (prim_named scope.globals.word name.text) wanted
      (option_or (left.own scope) (right.own scope)));
}

unfoldable pub expression_of : Expr → Expression
expression_of = fold-Expr Expression expression_layer

abbrev pub first_token : Expr → ℕ
first_token e = (expression_of e).first

abbrev pub own_width : Scope → Expr → Option ℕ
own_width scope e = (expression_of e).own scope

-- the faults of an expression at a place that wants a width, or none
abbrev pub expression_faults : Scope → Option ℕ → Expr → List ProgramFault
expression_faults scope wanted e = (expression_of e).faults scope wanted
