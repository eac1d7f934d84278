-- How many brackets are open.
use Rattle.std.specs.Prelude.{ℕ, suc, pred, Bool, true, cond, ◌&&◌, ◌||◌, List, [], ◌∷◌, nat_le, codes, Option, Some, None}
use Rattle.std.specs.Str.{bytes_eq}
use Rattle.std.specs.Option.{option_map}
use Rattle.qc_grammar.specs.Lexeme.{Class, Word, Value, Any, Lexeme}

abbrev pub opens : Class → Bool
opens (Word text) = bytes_eq text (codes "(") || (bytes_eq text (codes "[") || bytes_eq text (codes "{"))
opens (Value number) = Bool.false
opens (Any kind) = Bool.false

abbrev pub closes : Class → Bool
closes (Word text) = bytes_eq text (codes ")") || (bytes_eq text (codes "]") || bytes_eq text (codes "}"))
closes (Value number) = Bool.false
closes (Any kind) = Bool.false

-- the next token opens a bracket, or closes one
abbrev pub next_opens : List Lexeme → Bool
next_opens [] = Bool.false
next_opens (token ∷ tokens) = opens token.class

abbrev pub next_closes : List Lexeme → Bool
next_closes [] = Bool.false
next_closes (token ∷ tokens) = closes token.class

-- how many are open after a token, where so many are before it; a closing one without an opening one closes none
abbrev pub open_after : ℕ → Lexeme → ℕ
open_after n token = cond (opens token.class) (suc n) (cond (closes token.class) (pred n) n)

-- how many brackets may be open
abbrev pub most_open : ℕ
most_open = 200

-- after each of the tokens no more are open than may be, where so many are before them
abbrev pub is_shallow : ℕ → List Lexeme → Bool
is_shallow n [] = true
is_shallow n (token ∷ tokens) = nat_le (open_after n token) most_open && is_shallow (open_after n token) tokens

-- the number of tokens before the first after which more are open than may be
abbrev pub first_too_deep : ℕ → List Lexeme → Option ℕ
first_too_deep n [] = None
first_too_deep n (token ∷ tokens) =
    cond (nat_le (open_after n token) most_open) (option_map suc (first_too_deep (open_after n token) tokens)) (Some 0)

abbrev pub next_open : ℕ → List Lexeme → ℕ
next_open n [] = n
next_open n (token ∷ tokens) = open_after n token
