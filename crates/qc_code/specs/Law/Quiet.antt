-- Lists that write registers alone: they keep all but registers, and go on behind themselves.
use Rattle.std.proofs.Common.{◌≡◌, ◌∙◌, ℕ, List, [], ◌∷◌, ◌++◌, Bool, true, false, ◌&&◌, nat_eq, if◌then◌else◌, Option, None, Some, IfSome, option_and_then, ◌⊎◌, inl, inr, refl, sym, subst}
use Rattle.std.specs.Option.{option_map}
use Rattle.std.proofs.lemmas.Bool.{cases_Bool}
use Rattle.qc_terms.specs.declared.state.Event.TheVariants.{Quiet}
use Rattle.qc_terms.specs.declared.state.State.{State}
use Rattle.qc_terms.specs.declared.term.Dest.{Dest}
use Rattle.qc_terms.specs.declared.term.Dest.TheVariants as dest
use Rattle.qc_terms.specs.declared.term.Effect.{Effect}
use Rattle.qc_terms.specs.declared.term.Rtl.{Rtl}
use Rattle.qc_terms.specs.Effects.{Outcome, ToCell, ToCounter, ToHalt, ToMemory, ToOutput, ToTrap, Write, after_write, after_writes, before_writes, event_of, guard_of, input_is_over, outcome_of, outcome_of_event, outcome_of_trap, outcome_of_writes, rtl_has_input, write_of, writes_of, writes_of_effect}
use Rattle.qc_terms.specs.State.{is_zero_cell}
use Rattle.qc_terms.specs.Tree.{tree_of}
use Rattle.qc_terms.specs.Value.{value_of}

abbrev pub is_register : Dest → Bool
is_register (dest.Reg place) = true
is_register _ = false

-- each effect goes to a register
abbrev pub WritesRegisters : List Effect → Type 0
WritesRegisters [] = Unit {0}
WritesRegisters (e ∷ es) = (is_register e.to ≡ true) × WritesRegisters es

-- each write is one to a cell
abbrev pub AreCells : List Write → Type 0
AreCells [] = Unit {0}
AreCells (ToCell space index word ∷ ws) = AreCells ws
AreCells (ToMemory address count word ∷ ws) = ⊥
AreCells (ToCounter word ∷ ws) = ⊥
AreCells (ToOutput word ∷ ws) = ⊥
AreCells (ToHalt code ∷ ws) = ⊥
AreCells (ToTrap code ∷ ws) = ⊥

cells-append : (xs ys : List Write) → AreCells xs → AreCells ys → AreCells (xs ++ ys)
cells-append [] ys first second = second
cells-append (ToCell space index word ∷ xs) ys first second = cells-append xs ys first second
cells-append (ToMemory address count word ∷ xs) ys first second = absurd first
cells-append (ToCounter word ∷ xs) ys first second = absurd first
cells-append (ToOutput word ∷ xs) ys first second = absurd first
cells-append (ToHalt code ∷ xs) ys first second = absurd first
cells-append (ToTrap code ∷ xs) ys first second = absurd first

-- the write of a value to a register, if there is one
write_is_cell : (to : Dest) (operands : List ℕ) (after : ℕ) (s : State) (value : Option ℕ) → is_register to ≡ true →
    IfSome (option_map (λ write. write ∷ []) (option_and_then (write_of to operands after s) value)) AreCells
write_is_cell to operands after s None is = tt
write_is_cell (dest.Reg place) operands after s (Some word) is = tt
write_is_cell (dest.Mem width address) operands after s (Some word) is = absurd (cc is)
write_is_cell dest.Pc operands after s (Some word) is = absurd (cc is)
write_is_cell dest.Out operands after s (Some word) is = absurd (cc is)
write_is_cell dest.Halt operands after s (Some word) is = absurd (cc is)
write_is_cell dest.Trap operands after s (Some word) is = absurd (cc is)

guarded_is_cell : (guard : Option ℕ) (writes : Option (List Write)) → IfSome writes AreCells →
    IfSome (option_and_then (λ g. if nat_eq g 0 then Some [] else writes) guard) AreCells
guarded_is_cell None writes are = tt
guarded_is_cell (Some g) writes are = elim (cases_Bool (nat_eq g 0)) [ inl e ↦ rw e tt | inr e ↦ rw e are ]

effect_is_cell : (e : Effect) (operands : List ℕ) (after : ℕ) (s : State) → is_register e.to ≡ true → IfSome (writes_of_effect e operands after s) AreCells
unfolding writes_of_effect
effect_is_cell e operands after s is =
    guarded_is_cell (guard_of e.guard operands after s)
    (option_map (λ write. write ∷ []) (option_and_then (write_of e.to operands after s) (value_of (tree_of e.value) operands after s)))
    (write_is_cell e.to operands after s (value_of (tree_of e.value) operands after s) is)

both_are_cells : (first rest : Option (List Write)) → IfSome first AreCells → IfSome rest AreCells →
    IfSome (option_and_then (λ xs. option_map (λ ys. xs ++ ys) rest) first) AreCells
both_are_cells None rest a b = tt
both_are_cells (Some xs) None a b = tt
both_are_cells (Some xs) (Some ys) a b = cells-append xs ys a b

pub writes_are_cells : (es : List Effect) (operands : List ℕ) (after : ℕ) (s : State) → WritesRegisters es → IfSome (writes_of es operands after s) AreCells
writes_are_cells [] operands after s are = tt
writes_are_cells (e ∷ es) operands after s are =
    both_are_cells (writes_of_effect e operands after s) (writes_of es operands after s) (effect_is_cell e operands after s are.0)
    (writes_are_cells es operands after s are.1)

-- ---- what is kept

-- all but the cells is the same
pub record KeepsRest (s t : State) : Type 0 where
  pub facts : t.facts ≡ s.facts
  pub widths : t.widths ≡ s.widths
  pub memory : t.memory ≡ s.memory
  pub pc : t.pc ≡ s.pc
  pub input : t.input ≡ s.input
  pub taken : t.taken ≡ s.taken
  pub ending : t.ending ≡ s.ending

keeps-same : (s : State) → KeepsRest s s
keeps-same s = record { facts = refl; widths = refl; memory = refl; pc = refl; input = refl; taken = refl; ending = refl }

keeps-then : (s t u : State) → KeepsRest s t → KeepsRest t u → KeepsRest s u
keeps-then s t u a b = record {
  facts = b.facts ∙ a.facts;
  widths = b.widths ∙ a.widths;
  memory = b.memory ∙ a.memory;
  pc = b.pc ∙ a.pc;
  input = b.input ∙ a.input;
  taken = b.taken ∙ a.taken;
  ending = b.ending ∙ a.ending;
}

cell_keeps : (space index word : ℕ) (s : State) → KeepsRest s (after_write (ToCell space index word) s)
cell_keeps space index word s =
    elim (cases_Bool (is_zero_cell s.facts.zero space index)) [
      | inl e ↦ rw e (keeps-same s)
      | inr e ↦ rw e (record { facts = refl; widths = refl; memory = refl; pc = refl; input = refl; taken = refl; ending = refl })
    ]

pub cells_keep : (ws : List Write) (s : State) → AreCells ws → KeepsRest s (after_writes ws s)
cells_keep [] s are = keeps-same s
cells_keep (ToCell space index word ∷ ws) s are =
    let next : State = after_write (ToCell space index word) s in
    keeps-then s next (after_writes ws next) (cell_keeps space index word s) (cells_keep ws next are)
cells_keep (ToMemory address count word ∷ ws) s are = absurd are
cells_keep (ToCounter word ∷ ws) s are = absurd are
cells_keep (ToOutput word ∷ ws) s are = absurd are
cells_keep (ToHalt code ∷ ws) s are = absurd are
cells_keep (ToTrap code ∷ ws) s are = absurd are

pub cells_are_quiet : (ws : List Write) → AreCells ws → event_of ws ≡ Quiet
cells_are_quiet [] are = refl
cells_are_quiet (ToCell space index word ∷ ws) are = cells_are_quiet ws are
cells_are_quiet (ToMemory address count word ∷ ws) are = absurd are
cells_are_quiet (ToCounter word ∷ ws) are = absurd are
cells_are_quiet (ToOutput word ∷ ws) are = absurd are
cells_are_quiet (ToHalt code ∷ ws) are = absurd are
cells_are_quiet (ToTrap code ∷ ws) are = absurd are

-- A list that writes registers alone traps, or it shows nothing, goes on behind itself and keeps all but cells, where a word
-- of the input may have been taken.
pub record Passes (takes : Bool) (after : ℕ) (s : State) (o : Outcome) : Type 0 where
  pub event : o.event ≡ Quiet
  pub state : KeepsRest (before_writes takes after s) o.state

passes : (takes : Bool) (after : ℕ) (s : State) (ws : Option (List Write)) → IfSome ws AreCells →
    (outcome_of_writes ws takes after s ≡ outcome_of_trap 1 s) ⊎ Passes takes after s (outcome_of_writes ws takes after s)
passes takes after s None are = inl refl
passes takes after s (Some ws) are =
    inr (subst (λ event. Passes takes after s (outcome_of_event event ws takes after s)) (sym (cells_are_quiet ws are))
    (record { event = refl; state = cells_keep ws (before_writes takes after s) are }))

pub registers_pass : (rtl : Rtl) (operands : List ℕ) (after : ℕ) (s : State) → WritesRegisters rtl.effects →
    ((code : ℕ) × (outcome_of rtl operands after s ≡ outcome_of_trap code s))
    ⊎ Passes (rtl_has_input rtl) after s (outcome_of rtl operands after s)
registers_pass rtl operands after s are =
    elim (cases_Bool (rtl_has_input rtl && input_is_over s)) [
      | inl e ↦ inl (5, rw e refl)
      | inr e ↦ rw e (elim (passes (rtl_has_input rtl) after s (writes_of rtl.effects operands after s) (writes_are_cells rtl.effects operands after s are)) [
        | inl trap ↦ inl (1, trap)
        | inr pass ↦ inr pass
      ])
    ]
