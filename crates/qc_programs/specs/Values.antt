-- Expressions whose names are numbers, and what they come to: a word, or the code of a trap.
use Rattle.std.specs.Prelude.{ℕ, ◌-◌, nat_eq, nat_lt, if◌then◌else◌, Bool, true, false, ◌&&◌, List, [], ◌∷◌, Option, None, Some, slice_index}
use Rattle.qc_words.specs.declared.operator.Op.{Op}
use Rattle.qc_words.specs.declared.operator.Op.TheVariants.{Divu, Modu, Quot, Rem}
use Rattle.qc_words.specs.Operators.{result_of}
use Rattle.qc_terms.specs.Memory.{load_of}
use Rattle.qc_cmmtype.specs.declared.scope.Ground.{Ground}

-- A variable is named by its place in its procedure, parameters first. An operator is applied to words of a width, a load
-- takes so many bytes.
pub data Expression : Type 0 where
  Constant : (word : ℕ) → Expression
  Variable : (number : ℕ) → Expression
  Load : (count : ℕ) (address : Expression) → Expression
  Unary : (op : Op) (width : ℕ) (arg : Expression) → Expression
  Binary : (op : Op) (width : ℕ) (left right : Expression) → Expression

pub data Value : Type 0 where
  Word : (word : ℕ) → Value
  Traps : (code : ℕ) → Value

-- the first trap counts
abbrev pub with_word : Value → (ℕ → Value) → Value
with_word (Word word) f = f word
with_word (Traps code) f = Traps code

-- the words of several expressions, or the first trap
pub data Values : Type 0 where
  Words : (words : List ℕ) → Values
  TrapsFirst : (code : ℕ) → Values

abbrev pub with_words : Values → (List ℕ → Values) → Values
with_words (Words words) f = f words
with_words (TrapsFirst code) f = TrapsFirst code

abbrev pub first_word : Value → (ℕ → Values) → Values
first_word (Word word) f = f word
first_word (Traps code) f = TrapsFirst code

-- the word of so many bytes at an address; none unless all of them are inside the data region
abbrev pub load_in : Ground → (bytes : List ℕ) → (count address : ℕ) → Option ℕ
load_in g bytes count address =
    if nat_lt address g.data_start then None else load_of g.order bytes count (address - g.data_start)

abbrev pub loaded : Option ℕ → Value
loaded None = Traps 1
loaded (Some word) = Word word

abbrev pub is_division : Op → Bool
is_division Divu = true
is_division Modu = true
is_division Quot = true
is_division Rem = true
is_division _ = false

-- the value of an operator, which traps where a divisor is 0
abbrev pub operated : Op → (width left right : ℕ) → Value
operated op width left right =
    if is_division op && nat_eq right 0 then Traps 2 else Word (result_of op width left right)

-- What an expression comes to, by the words of the variables and the bytes of the data region. Operands are evaluated from
-- left to right.
abbrev pub value_of : Ground → (variables bytes : List ℕ) → Expression → Value
value_of g variables bytes (Constant word) = Word word
value_of g variables bytes (Variable number) = Word (slice_index variables number)
value_of g variables bytes (Load count address) =
    with_word (value_of g variables bytes address) (λ at. loaded (load_in g bytes count at))
value_of g variables bytes (Unary op width arg) =
    with_word (value_of g variables bytes arg) (λ word. Word (result_of op width word 0))
value_of g variables bytes (Binary op width left right) =
    with_word (value_of g variables bytes left) (λ x. with_word (value_of g variables bytes right) (λ y. operated op width x y))

-- what several expressions come to, from left to right
abbrev pub values_of : Ground → (variables bytes : List ℕ) → List Expression → Values
values_of g variables bytes [] = Words []
values_of g variables bytes (e ∷ es) =
    first_word (value_of g variables bytes e) (λ word. with_words (values_of g variables bytes es) (λ words. Words (word ∷ words)))
