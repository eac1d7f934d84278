-- What a function of a reader returns and leaves, by the reading of its rule.
use Rattle.std.specs.Prelude.{◌≡◌, ◌≤◌, List, ◌∷◌, length, Result, Ok, Err}
use Rattle.qc_grammar.specs.declared.cursor.Stop.{Stop}
use Rattle.qc_grammar.specs.declared.cursor.Stop.TheVariants.{NoMemory, At}
use Rattle.qc_grammar.specs.Lexeme.{Lexeme}
use Rattle.qc_grammar.specs.Reading.{Read}

-- `result` is what `read` gives for the tokens `old`, and `new` are the tokens that are left; or memory ran out.
abbrev pub Gives : {A : Type 0} → Result A Stop → List Lexeme → List Lexeme → (List Lexeme → Read A) → Type 0
Gives (Ok x) old new read = (read old ≡ Ok (x, new)) × (length new ≤ length old)
Gives (Err (At left)) old new read = read old ≡ Err left
Gives (Err NoMemory) old new read = Unit {0}

-- the same of a list, after whose first `read` gives the others
abbrev pub GivesAfter : {A : Type 0} → A → Result (List A) Stop → List Lexeme → List Lexeme
    → (List Lexeme → Read (List A)) → Type 0
GivesAfter {A} first (Ok xs) old new read = (others : List A) × (xs ≡ first ∷ others) × Gives (Ok others) old new read
GivesAfter first (Err why) old new read = Gives (Err why) old new read

-- Each call of a function, by what holds of its calls, gives what `read` gives for the tokens that are left before it.
abbrev pub IsReadBy : {A C : Type 0} → (C → Result A Stop → C → Type 0) → (C → List Lexeme) → (List Lexeme → Read A)
    → Type 0
IsReadBy {A} {C} calls left read = (old : C) (result : Result A Stop) (new : C) → calls old result new
    → Gives result (left old) (left new) read
