-- What writes to cells change, where one of them is told and the others go to cells that are free.
use Rattle.std.proofs.Common.{◌≡◌, ◌≢◌, ◌∙◌, ◌⊎◌, ◌<◌, ℕ, zero, suc, List, [], ◌∷◌, ◌++◌, length, map, true, false, inl, inr, refl, sym, ap, subst, arith}
use Rattle.std.specs.Prelude.{slice_index}
use Rattle.std.proofs.lemmas.Bool.{cases_Bool}
use Rattle.std.proofs.lemmas.List.{get_or-set_other, get_or-set_same, length-set}
use Rattle.qc_terms.specs.declared.state.State.{State}
use Rattle.qc_terms.specs.Cells.{HasCell, cell_of, with_cell}
use Rattle.qc_terms.specs.Effects.{ToCell, ToCounter, ToHalt, ToMemory, ToOutput, ToTrap, Write, after_write, after_writes}
use Rattle.qc_terms.specs.State.{is_zero_cell}
use Rattle.qc_code.specs.Law.Quiet.{AreCells}

-- ---- one cell

pub cell_same : (xs : List (List ℕ)) (space index word : ℕ) → HasCell xs space index → cell_of (with_cell xs space index word) space index ≡ word
cell_same [] space index word has = absurd (omega (arith, has.0))
cell_same (x ∷ xs) zero index word has = get_or-set_same x index word 0 has.1
cell_same (x ∷ xs) (suc space) index word has = cell_same xs space index word (omega (arith, has.0), has.1)

pub cell_other : (xs : List (List ℕ)) (space index other number word : ℕ) → (other ≢ space) ⊎ (number ≢ index) →
    cell_of (with_cell xs space index word) other number ≡ cell_of xs other number
cell_other [] space index other number word apart = refl
cell_other (x ∷ xs) zero index zero number word (inl apart) = absurd (apart refl)
cell_other (x ∷ xs) zero index zero number word (inr apart) = get_or-set_other x index number word 0 apart
cell_other (x ∷ xs) zero index (suc other) number word apart = refl
cell_other (x ∷ xs) (suc space) index zero number word apart = refl
cell_other (x ∷ xs) (suc space) index (suc other) number word apart =
    cell_other xs space index other number word (elim apart [ inl spaces ↦ inl (λ same. spaces (ap suc same)) | inr cells ↦ inr cells ])

pub lengths-with_cell : (cells : List (List ℕ)) (space index word : ℕ) → map length (with_cell cells space index word) ≡ map length cells
lengths-with_cell [] space index word = refl
lengths-with_cell (row ∷ rows) zero index word = ap (λ n. n ∷ map length rows) (length-set row index word)
lengths-with_cell (row ∷ rows) (suc space) index word = ap (λ ns. length row ∷ ns) (lengths-with_cell rows space index word)

-- there is a cell by the number of cells of each space
pub has_cell : (cells : List (List ℕ)) (space index : ℕ) → index < slice_index (map length cells) space → HasCell cells space index
has_cell [] space index below = absurd (omega (arith, below))
has_cell (row ∷ rows) zero index below = (omega arith, below)
has_cell (row ∷ rows) (suc space) index below = let deep = has_cell rows space index below in (omega (arith, deep.0), deep.1)

-- ---- what is kept

-- The states are the same in all but cells that aren't kept, the program counter, the words taken and the ending.
pub record AreKept (P : ℕ → ℕ → Type 0) (s u : State) : Type 0 where
  pub facts : u.facts ≡ s.facts
  pub widths : u.widths ≡ s.widths
  pub rows : map length u.cells ≡ map length s.cells
  pub cells : (space index : ℕ) → P space index → cell_of u.cells space index ≡ cell_of s.cells space index
  pub memory : u.memory ≡ s.memory
  pub input : u.input ≡ s.input

pub kept-refl : (P : ℕ → ℕ → Type 0) (s : State) → AreKept P s s
kept-refl P s = record { facts = refl; widths = refl; rows = refl; cells = λ space index kept. refl; memory = refl; input = refl }

pub kept-trans : (P : ℕ → ℕ → Type 0) (s t u : State) → AreKept P s t → AreKept P t u → AreKept P s u
kept-trans P s t u first second = record {
  facts = second.facts ∙ first.facts;
  widths = second.widths ∙ first.widths;
  rows = second.rows ∙ first.rows;
  cells = λ space index kept. second.cells space index kept ∙ first.cells space index kept;
  memory = second.memory ∙ first.memory;
  input = second.input ∙ first.input;
}

pub kept-less : (P Q : ℕ → ℕ → Type 0) (s t : State) → ((space index : ℕ) → Q space index → P space index) → AreKept P s t → AreKept Q s t
kept-less P Q s t less same = record {
  facts = same.facts;
  widths = same.widths;
  rows = same.rows;
  cells = λ space index kept. same.cells space index (less space index kept);
  memory = same.memory;
  input = same.input;
}

-- ---- writes

-- the cell is the zero cell of the state, or another one
abbrev pub IsSpared : State → ℕ → ℕ → ℕ → ℕ → Type 0
IsSpared s space index other number = (is_zero_cell s.facts.zero other number ≡ true) ⊎ ((space ≢ other) ⊎ (index ≢ number))

pub write_keeps : (P : ℕ → ℕ → Type 0) (s : State) (other number word : ℕ) →
    ((space index : ℕ) → P space index → IsSpared s space index other number) → AreKept P s (after_write (ToCell other number word) s)
write_keeps P s other number word spared = elim (cases_Bool (is_zero_cell s.facts.zero other number)) [
  | inl is ↦ rw is (kept-refl P s)
  | inr is ↦ rw is (record {
    facts = refl;
    widths = refl;
    rows = lengths-with_cell s.cells other number word;
    cells = λ space index kept. elim (spared space index kept) [
      | inl same ↦ absurd (let no : true ≡ false = sym same ∙ is in cc no)
      | inr apart ↦ cell_other s.cells other number space index word apart
    ];
    memory = refl;
    input = refl;
  })
]

-- each write goes to a free cell
abbrev pub AreFree : (ℕ → ℕ → Type 0) → List Write → Type 0
AreFree F [] = Unit {0}
AreFree F (ToCell space index word ∷ ws) = F space index × AreFree F ws
AreFree F (w ∷ ws) = ⊥

pub free-append : (F : ℕ → ℕ → Type 0) (xs ys : List Write) → AreFree F xs → AreFree F ys → AreFree F (xs ++ ys)
free-append F [] ys one two = two
free-append F (ToCell space index word ∷ xs) ys one two = (one.0, free-append F xs ys one.1 two)
free-append F (ToMemory address count word ∷ xs) ys one two = absurd one
free-append F (ToCounter word ∷ xs) ys one two = absurd one
free-append F (ToOutput word ∷ xs) ys one two = absurd one
free-append F (ToHalt code ∷ xs) ys one two = absurd one
free-append F (ToTrap code ∷ xs) ys one two = absurd one

pub free_are_cells : (F : ℕ → ℕ → Type 0) (ws : List Write) → AreFree F ws → AreCells ws
free_are_cells F [] are = tt
free_are_cells F (ToCell space index word ∷ ws) are = free_are_cells F ws are.1
free_are_cells F (ToMemory address count word ∷ ws) are = absurd are
free_are_cells F (ToCounter word ∷ ws) are = absurd are
free_are_cells F (ToOutput word ∷ ws) are = absurd are
free_are_cells F (ToHalt code ∷ ws) are = absurd are
free_are_cells F (ToTrap code ∷ ws) are = absurd are

-- what is spared by all free cells is kept
pub free_keeps : (P F : ℕ → ℕ → Type 0) (s : State) (ws : List Write) →
    ((space index other number : ℕ) → P space index → F other number → IsSpared s space index other number) → AreFree F ws →
    AreKept P s (after_writes ws s)
free_keeps P F s [] spared are = kept-refl P s
free_keeps P F s (ToCell other number word ∷ ws) spared are =
    let one : AreKept P s (after_write (ToCell other number word) s) =
    write_keeps P s other number word (λ space index kept. spared space index other number kept are.0) in
    let next : State = after_write (ToCell other number word) s in
    kept-trans P s next (after_writes ws next) one
    (free_keeps P F next ws
    (λ space index a b kept free. subst (λ z. (is_zero_cell z a b ≡ true) ⊎ ((space ≢ a) ⊎ (index ≢ b))) (sym (ap (λ f. f.«zero») one.facts))
    (spared space index a b kept free)) are.1)
free_keeps P F s (ToMemory address count word ∷ ws) spared are = absurd are
free_keeps P F s (ToCounter word ∷ ws) spared are = absurd are
free_keeps P F s (ToOutput word ∷ ws) spared are = absurd are
free_keeps P F s (ToHalt code ∷ ws) spared are = absurd are
free_keeps P F s (ToTrap code ∷ ws) spared are = absurd are

-- one write gives a word to a cell, and the others go to free cells
abbrev pub SetsOne : (ℕ → ℕ → Type 0) → ℕ → ℕ → ℕ → List Write → Type 0
SetsOne F space index word [] = ⊥
SetsOne F space index word (w ∷ ws) =
    ((w ≡ ToCell space index word) × AreFree F ws) ⊎ (AreFree F (w ∷ []) × SetsOne F space index word ws)

pub sets-after_free : (F : ℕ → ℕ → Type 0) (space index word : ℕ) (xs ys : List Write) → AreFree F xs → SetsOne F space index word ys →
    SetsOne F space index word (xs ++ ys)
sets-after_free F space index word [] ys one two = two
sets-after_free F space index word (ToCell a b w ∷ xs) ys one two = inr ((one.0, tt), sets-after_free F space index word xs ys one.1 two)
sets-after_free F space index word (ToMemory address count w ∷ xs) ys one two = absurd one
sets-after_free F space index word (ToCounter w ∷ xs) ys one two = absurd one
sets-after_free F space index word (ToOutput w ∷ xs) ys one two = absurd one
sets-after_free F space index word (ToHalt code ∷ xs) ys one two = absurd one
sets-after_free F space index word (ToTrap code ∷ xs) ys one two = absurd one

pub sets_are_cells : (F : ℕ → ℕ → Type 0) (space index word : ℕ) (ws : List Write) → SetsOne F space index word ws → AreCells ws
sets_are_cells F space index word [] sets = absurd sets
sets_are_cells F space index word (w ∷ ws) (inl here) = subst (λ x. AreCells (x ∷ ws)) (sym here.0) (free_are_cells F ws here.1)
sets_are_cells F space index word (ToCell a b x ∷ ws) (inr there) = sets_are_cells F space index word ws there.1
sets_are_cells F space index word (ToMemory address count x ∷ ws) (inr there) = absurd there.0
sets_are_cells F space index word (ToCounter x ∷ ws) (inr there) = absurd there.0
sets_are_cells F space index word (ToOutput x ∷ ws) (inr there) = absurd there.0
sets_are_cells F space index word (ToHalt code ∷ ws) (inr there) = absurd there.0
sets_are_cells F space index word (ToTrap code ∷ ws) (inr there) = absurd there.0

-- the cell, which is there and is neither the zero cell nor free, and what is kept beside it
pub record IsOwn (P F : ℕ → ℕ → Type 0) (s : State) (space index : ℕ) : Type 0 where
  pub there : HasCell s.cells space index
  pub usual : is_zero_cell s.facts.zero space index ≡ false
  pub apart : (a b : ℕ) → P a b → (a ≢ space) ⊎ (b ≢ index)
  pub unfree : (a b : ℕ) → F a b → IsSpared s space index a b
  pub spared : (x y a b : ℕ) → P x y → F a b → IsSpared s x y a b

own_stays : (P F : ℕ → ℕ → Type 0) (s u : State) (space index : ℕ) → map length u.cells ≡ map length s.cells → u.facts ≡ s.facts →
    HasCell u.cells space index → IsOwn P F s space index → IsOwn P F u space index
own_stays P F s u space index rows facts there own =
    let zeros = ap (λ f. f.«zero») facts in
    record {
      there = there;
      usual = ap (λ z. is_zero_cell z space index) zeros ∙ own.usual;
      apart = own.apart;
      unfree = λ a b free. subst (λ z. (is_zero_cell z a b ≡ true) ⊎ ((space ≢ a) ⊎ (index ≢ b))) (sym zeros) (own.unfree a b free);
      spared = λ x y a b kept free.
          subst (λ z. (is_zero_cell z a b ≡ true) ⊎ ((x ≢ a) ⊎ (y ≢ b))) (sym zeros) (own.spared x y a b kept free);
    }

pub record HasSet (P : ℕ → ℕ → Type 0) (s u : State) (space index word : ℕ) : Type 0 where
  pub kept : AreKept P s u
  pub set : cell_of u.cells space index ≡ word

abbrev IsThis : ℕ → ℕ → ℕ → ℕ → Type 0
IsThis space index a b = (a ≡ space) × (b ≡ index)

pub sets_one : (P F : ℕ → ℕ → Type 0) (s : State) (space index word : ℕ) (ws : List Write) → index < slice_index (map length s.cells) space →
    IsOwn P F s space index → SetsOne F space index word ws → HasSet P s (after_writes ws s) space index word
sets_one P F s space index word [] inside own sets = absurd sets
sets_one P F s space index word (w ∷ ws) inside own (inl here) =
    let first : Write = ToCell space index word in
    let next : State = after_write first s in
    let cells : next ≡ record s { cells = with_cell s.cells space index word } = rw (own.usual) refl in
    let kept : AreKept P s next = write_keeps P s space index word (λ a b is. inr (own.apart a b is)) in
    let has : HasCell next.cells space index = has_cell next.cells space index (subst (λ ns. index < slice_index ns space) (sym kept.rows) inside) in
    let mine : IsOwn P F next space index = own_stays P F s next space index kept.rows kept.facts has own in
    let rest : AreKept P next (after_writes ws next) = free_keeps P F next ws mine.spared here.1 in
    let stays : AreKept (IsThis space index) next (after_writes ws next) =
    free_keeps (IsThis space index) F next ws
    (λ x y a b this free.
    subst (λ n. IsSpared next n y a b) (sym this.0) (subst (λ n. IsSpared next space n a b) (sym this.1) (mine.unfree a b free))) here.1 in
    subst (λ x. HasSet P s (after_writes (x ∷ ws) s) space index word) (sym here.0)
    (record {
      kept = kept-trans P s next (after_writes ws next) kept rest;
      set = stays.cells space index (refl, refl) ∙ ap (λ (u : State). cell_of u.cells space index) cells
          ∙ cell_same s.cells space index word own.there;
    })
sets_one P F s space index word (ToCell a b x ∷ ws) inside own (inr there) =
    let next : State = after_write (ToCell a b x) s in
    let kept : AreKept P s next = write_keeps P s a b x (λ y z is. own.spared y z a b is there.0.0) in
    let below : index < slice_index (map length next.cells) space = subst (λ ns. index < slice_index ns space) (sym kept.rows) inside in
    let mine : IsOwn P F next space index = own_stays P F s next space index kept.rows kept.facts (has_cell next.cells space index below) own in
    let rest : HasSet P next (after_writes ws next) space index word = sets_one P F next space index word ws below mine there.1 in
    record { kept = kept-trans P s next (after_writes ws next) kept rest.kept; set = rest.set }
sets_one P F s space index word (ToMemory address count x ∷ ws) inside own (inr there) = absurd there.0
sets_one P F s space index word (ToCounter x ∷ ws) inside own (inr there) = absurd there.0
sets_one P F s space index word (ToOutput x ∷ ws) inside own (inr there) = absurd there.0
sets_one P F s space index word (ToHalt code ∷ ws) inside own (inr there) = absurd there.0
sets_one P F s space index word (ToTrap code ∷ ws) inside own (inr there) = absurd there.0
