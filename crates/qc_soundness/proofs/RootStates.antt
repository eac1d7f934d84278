-- Two states that are the same but for flags and scratches stay so under the same writes, and under writes to free cells.
use Rattle.std.proofs.Common.{◌≡◌, ◌∙◌, ℕ, zero, suc, List, [], ◌∷◌, ◌++◌, length, map, drop, get_or, Bool, true, false, slice_index, slice_set, inl, inr, refl, sym, ap, subst, arith}
use Rattle.std.proofs.lemmas.Bool.{cases_lt}
use Rattle.std.proofs.lemmas.List.{get_or-set_same, get_or_past, length-set}
use Rattle.qc_terms.specs.declared.state.State.{State}
use Rattle.qc_terms.specs.Cells.{cell_of, with_cell}
use Rattle.qc_terms.specs.Effects.{ToCell, ToCounter, ToHalt, ToMemory, ToOutput, ToTrap, Write, after_write, after_writes, event_of}
use Rattle.qc_terms.specs.Memory.{store_of}
use Rattle.qc_terms.specs.State.{is_zero_cell}
use Rattle.qc_code.specs.Law.Quiet.{KeepsRest, cells_are_quiet, cells_keep}
use Rattle.qc_soundness.proofs.ChildStep.{same_or_other}
use Rattle.qc_soundness.proofs.Writes.{AreFree, AreKept, IsSpared, cell_other, free_are_cells, free_keeps, kept-trans, lengths-with_cell}

row_same : (xs ys : List ℕ) (i word : ℕ) → length ys ≡ length xs → slice_index (slice_set ys i word) i ≡ slice_index (slice_set xs i word) i
row_same xs ys i word lengths = elim (cases_lt i (length xs)) [
  | inl inside ↦ get_or-set_same ys i word 0 (omega (arith, lengths, inside)) ∙ sym (get_or-set_same xs i word 0 inside)
  | inr outside ↦
      get_or_past (slice_set ys i word) i 0 (omega (arith, length-set ys i word, lengths, outside))
      ∙ sym (get_or_past (slice_set xs i word) i 0 (omega (arith, length-set xs i word, outside)))
]

heads : (x y : ℕ) (xs ys : List ℕ) → y ∷ ys ≡ x ∷ xs → (y ≡ x) × (ys ≡ xs)
heads x y xs ys same = (ap (λ l. get_or l 0 0) same, ap (drop 1) same)

-- in cells of one shape the written word is the same, or there is none in both
same_cell : (xs ys : List (List ℕ)) (space index word : ℕ) → map length ys ≡ map length xs →
    cell_of (with_cell ys space index word) space index ≡ cell_of (with_cell xs space index word) space index
same_cell [] [] space index word lengths = refl
same_cell [] (y ∷ ys) space index word lengths = absurd (cc lengths)
same_cell (x ∷ xs) [] space index word lengths = absurd (cc lengths)
same_cell (x ∷ xs) (y ∷ ys) zero index word lengths = row_same x y index word (heads (length x) (length y) (map length xs) (map length ys) lengths).0
same_cell (x ∷ xs) (y ∷ ys) (suc space) index word lengths =
    same_cell xs ys space index word (heads (length x) (length y) (map length xs) (map length ys) lengths).1

-- the states are the same, but for cells that aren't kept
pub record AreNear (P : ℕ → ℕ → Type 0) (s u : State) : Type 0 where
  pub kept : AreKept P s u
  pub pc : u.pc ≡ s.pc
  pub taken : u.taken ≡ s.taken
  pub ending : u.ending ≡ s.ending

-- after the same write
pub write_near : (P : ℕ → ℕ → Type 0) (w : Write) (s u : State) → AreNear P s u → AreNear P (after_write w s) (after_write w u)
write_near P (ToCell a b word) s u near = go (is_zero_cell s.facts.zero a b) refl (ap (λ f. is_zero_cell f.«zero» a b) near.kept.facts)
  where
    go : (z : Bool) → is_zero_cell s.facts.zero a b ≡ z → is_zero_cell u.facts.zero a b ≡ is_zero_cell s.facts.zero a b → AreNear P (after_write (ToCell a b word) s) (after_write (ToCell a b word) u)
    go true is same = rw (same) (rw is near)
    go false is same = rw (same) (rw is (record {
      kept = record {
        facts = near.kept.facts;
        widths = near.kept.widths;
        rows = lengths-with_cell u.cells a b word ∙ near.kept.rows ∙ sym (lengths-with_cell s.cells a b word);
        cells = λ space index kept. elim (same_or_other space a) [
          | inr other ↦ cell_other u.cells a b space index word (inl other) ∙ near.kept.cells space index kept ∙ sym (cell_other s.cells a b space index word (inl other))
          | inl here ↦ elim (same_or_other index b) [
            | inr other ↦ cell_other u.cells a b space index word (inr other) ∙ near.kept.cells space index kept ∙ sym (cell_other s.cells a b space index word (inr other))
            | inl there ↦ subst (λ x. cell_of (with_cell u.cells a b word) x index ≡ cell_of (with_cell s.cells a b word) x index) (sym here)
                (subst (λ y. cell_of (with_cell u.cells a b word) a y ≡ cell_of (with_cell s.cells a b word) a y) (sym there) (same_cell s.cells u.cells a b word near.kept.rows))
          ]
        ];
        memory = near.kept.memory;
        input = near.kept.input;
      };
      pc = near.pc;
      taken = near.taken;
      ending = near.ending;
    }))
write_near P (ToMemory address count word) s u near = record {
  kept = record {
    facts = near.kept.facts;
    widths = near.kept.widths;
    rows = near.kept.rows;
    cells = near.kept.cells;
    memory = ap (λ f. store_of f.order u.memory count address word) near.kept.facts ∙ ap (λ m. store_of s.facts.order m count address word) near.kept.memory;
    input = near.kept.input;
  };
  pc = near.pc;
  taken = near.taken;
  ending = near.ending;
}
write_near P (ToCounter word) s u near = record {
  kept = record {
    facts = near.kept.facts;
    widths = near.kept.widths;
    rows = near.kept.rows;
    cells = near.kept.cells;
    memory = near.kept.memory;
    input = near.kept.input;
  };
  pc = refl;
  taken = near.taken;
  ending = near.ending;
}
write_near P (ToOutput word) s u near = near
write_near P (ToHalt code) s u near = record {
  kept = record {
    facts = near.kept.facts;
    widths = near.kept.widths;
    rows = near.kept.rows;
    cells = near.kept.cells;
    memory = near.kept.memory;
    input = near.kept.input;
  };
  pc = near.pc;
  taken = near.taken;
  ending = refl;
}
write_near P (ToTrap code) s u near = near

pub writes_near : (P : ℕ → ℕ → Type 0) (ws : List Write) (s u : State) → AreNear P s u → AreNear P (after_writes ws s) (after_writes ws u)
writes_near P [] s u near = near
writes_near P (w ∷ ws) s u near = writes_near P ws (after_write w s) (after_write w u) (write_near P w s u near)

-- after writes to free cells
pub free_near : (P F : ℕ → ℕ → Type 0) (ws : List Write) (s u : State) → ((space index other number : ℕ) → P space index → F other number → IsSpared u space index other number) → AreFree F ws →
    AreNear P s u → AreNear P s (after_writes ws u)
free_near P F ws s u spared free near =
    let rest : KeepsRest u (after_writes ws u) = cells_keep ws u (free_are_cells F ws free) in
    record {
      kept = kept-trans P s u (after_writes ws u) near.kept (free_keeps P F u ws spared free);
      pc = rest.pc ∙ near.pc;
      taken = rest.taken ∙ near.taken;
      ending = rest.ending ∙ near.ending;
    }

pub after-append : (xs ys : List Write) (s : State) → after_writes (xs ++ ys) s ≡ after_writes ys (after_writes xs s)
after-append [] ys s = refl
after-append (x ∷ xs) ys s = after-append xs ys (after_write x s)

-- writes to cells show nothing
pub event-before : (F : ℕ → ℕ → Type 0) (xs ys : List Write) → AreFree F xs → event_of (xs ++ ys) ≡ event_of ys
event-before F [] ys free = refl
event-before F (ToCell a b word ∷ xs) ys free = event-before F xs ys free.1
event-before F (ToMemory address count word ∷ xs) ys free = absurd free
event-before F (ToCounter word ∷ xs) ys free = absurd free
event-before F (ToOutput word ∷ xs) ys free = absurd free
event-before F (ToHalt code ∷ xs) ys free = absurd free
event-before F (ToTrap code ∷ xs) ys free = absurd free

pub event-behind : (F : ℕ → ℕ → Type 0) (xs ys : List Write) → AreFree F ys → event_of (xs ++ ys) ≡ event_of xs
event-behind F [] ys free = cells_are_quiet ys (free_are_cells F ys free)
event-behind F (ToCell a b word ∷ xs) ys free = event-behind F xs ys free
event-behind F (ToMemory address count word ∷ xs) ys free = event-behind F xs ys free
event-behind F (ToCounter word ∷ xs) ys free = event-behind F xs ys free
event-behind F (ToOutput word ∷ xs) ys free = refl
event-behind F (ToHalt code ∷ xs) ys free = refl
event-behind F (ToTrap code ∷ xs) ys free = refl
