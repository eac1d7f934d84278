-- Which bytes of memory register transfer lists read and write.
use Rattle.std.specs.Prelude.{ℕ, ◌≡◌, ◌+◌, ◌-◌, ◌/◌, List, [], ◌∷◌, ◌++◌, length, Option, None, Some, Bool, ◌&&◌, if◌then◌else◌, nat_eq, nat_le, IsTrue}
use Rattle.std.specs.List.{flat_map, list_all, list_any}
use Rattle.qc_terms.specs.declared.state.Event.{Event}
use Rattle.qc_terms.specs.declared.state.State.{State}
use Rattle.qc_terms.specs.declared.term.Dest.{Dest}
use Rattle.qc_terms.specs.declared.term.Dest.TheVariants as dest
use Rattle.qc_terms.specs.declared.term.Effect.{Effect}
use Rattle.qc_terms.specs.declared.term.Term.{Term}
use Rattle.qc_terms.specs.Effects.{guard_of}
use Rattle.qc_terms.specs.Tree.{Tree, Number, Unary, Binary, Register, Immediate, Load, NextInput, AddressAfter, tree_of}
use Rattle.qc_terms.specs.Value.{value_of}
use Rattle.qc_descr.specs.declared.description.Description.{Description}
use Rattle.qc_descr.specs.Step.{Progress}
use Rattle.qc_tiles.specs.declared.tile.Tile.{Tile}
use Rattle.qc_code.specs.declared.template.Template.{Template}
use Rattle.qc_code.specs.Running.{Transfer, goes_on}
use Rattle.qc_code.specs.Setting.{IsSetting, Setting, transfers_from}
use Rattle.qc_code.specs.TileHolds.{IsWideState}

-- ---- accesses

-- so many bytes from an address on
pub record Access : Type 0 where
  pub address : ℕ
  pub count : ℕ

abbrev pub access_at : ℕ → Option ℕ → List Access
access_at count None = []
access_at count (Some address) = record { address = address; count = count } ∷ []

-- the accesses of a term
abbrev pub loads_of : Tree → List ℕ → ℕ → State → List Access
loads_of (Number value width) operands after s = []
loads_of (Unary op arg) operands after s = loads_of arg operands after s
loads_of (Binary op left right) operands after s = loads_of left operands after s ++ loads_of right operands after s
loads_of (Register place width) operands after s = []
loads_of (Immediate operand width) operands after s = []
loads_of (Load width address) operands after s =
    loads_of address operands after s ++ access_at (width / 8) (value_of address operands after s)
loads_of (NextInput width) operands after s = []
loads_of (AddressAfter width) operands after s = []

abbrev pub loads_of_guard : Option Term → List ℕ → ℕ → State → List Access
loads_of_guard None operands after s = []
loads_of_guard (Some guard) operands after s = loads_of (tree_of guard) operands after s

abbrev pub accesses_of_dest : Dest → List ℕ → ℕ → State → List Access
accesses_of_dest (dest.Mem width address) operands after s =
    loads_of (tree_of address) operands after s ++ access_at (width / 8) (value_of (tree_of address) operands after s)
accesses_of_dest _ operands after s = []

-- what comes about if the guard is true
abbrev pub accesses_if : Option ℕ → List Access → List Access
accesses_if None accesses = []
accesses_if (Some guard) accesses = if nat_eq guard 0 then [] else accesses

abbrev pub accesses_of_effect : List ℕ → ℕ → State → Effect → List Access
accesses_of_effect operands after s e =
    loads_of_guard e.guard operands after s
    ++ accesses_if (guard_of e.guard operands after s)
    (accesses_of_dest e.to operands after s ++ loads_of (tree_of e.value) operands after s)

-- the accesses of a list of effects: all loads of guards, and of each effect whose guard is true its loads and its store
abbrev pub accesses_of : List Effect → List ℕ → ℕ → State → List Access
accesses_of effects operands after s = flat_map (accesses_of_effect operands after s) effects

-- ---- runs

abbrev pub accesses_from : Option Event → Transfer → Progress → List Access
accesses_from (Some event) x p = []
accesses_from None x p = accesses_of x.rtl.effects x.operands x.after p.state

-- the accesses of a run that goes on by these lists
abbrev pub accesses_of_run : List Transfer → Progress → List Access
accesses_of_run [] p = []
accesses_of_run (x ∷ xs) p = accesses_from p.state.ending x p ++ accesses_of_run xs (goes_on p.state.ending x p)

-- ---- templates

-- the bytes are among those of an access
abbrev pub is_inside : Access → Access → Bool
is_inside a whole = nat_le whole.address a.address && nat_le (a.address + a.count) (whole.address + whole.count)

abbrev pub are_inside : List Access → List Access → Bool
are_inside wholes accesses = list_all (λ a. list_any (is_inside a) wholes) accesses

-- Wherever the template is used, its lines access memory only where the tile's register transfer list does.
abbrev pub AccessesAsTile : Description → Tile → Template → Type 0
AccessesAsTile d t x =
    (row : ℕ) (e : Setting) (s : State) → IsSetting d t x.scratches (length x.instances) row e → IsWideState d row s →
    s.ending ≡ None →
    IsTrue (are_inside (accesses_of t.rtl.effects e.operands (e.next (length x.instances - 1)) s)
    (accesses_of_run (transfers_from d t e 0 x.instances) (record { state = s; output = [] })))
