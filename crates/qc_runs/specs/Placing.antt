-- Lines at addresses: what a placing is, to which line a word leads, and lines between which there are only labels.
use Rattle.std.specs.Prelude.{ℕ, ◌≡◌, ◌≢◌, ◌<◌, ◌≤◌, ◌⊎◌, Bool, true, false}
use Rattle.qc_runs.specs.LineMachine.{Going, LineMachine, arrival, is_done}

-- What of some lines counts for their addresses: how many they are, and which of them are no labels, are the first ones of
-- procedures, and are entries, to which words may lead: labels, first lines and lines after calls.
pub record Lines : Type 0 where
  pub count : ℕ
  pub solid : ℕ → Bool
  pub first : ℕ → Bool
  pub entry : ℕ → Bool

-- first lines are entries
pub record AreLines (x : Lines) : Type 0 where
  pub first : (j : ℕ) → x.first j ≡ true → x.entry j ≡ true

-- Addresses of lines never fall, and that of an entry is above that of each earlier line that is no label.
pub record IsPlacing (x : Lines) (at : ℕ → ℕ) : Type 0 where
  pub rises : (i j : ℕ) → i ≤ j → j < x.count → at i ≤ at j
  pub above : (i j : ℕ) → i < j → j < x.count → x.entry j ≡ true → x.solid i ≡ true → at i < at j

-- Lines that stand in groups, one for each of some other lines: an entry's group begins with an entry, and from the front of
-- the group of a line that is no label to that of a later entry there is a line that is none.
pub record AreGroups (x y : Lines) (start : ℕ → ℕ) : Type 0 where
  pub rises : (i j : ℕ) → i ≤ j → start i ≤ start j
  pub known : (j : ℕ) → j < x.count → start j < y.count
  pub entries : (j : ℕ) → j < x.count → x.entry j ≡ true → y.entry (start j) ≡ true
  pub solids : (i j : ℕ) → i < j → j < x.count → x.entry j ≡ true → x.solid i ≡ true →
      (k : ℕ) × (start i ≤ k) × (k < start j) × (y.solid k ≡ true)

-- A word leads to the first line of the last procedure that begins at that address, and where none does, to the first line
-- that has it.
pub record Leads (x : Lines) (at : ℕ → ℕ) (word place : ℕ) : Type 0 where
  pub known : place < x.count
  pub is : at place ≡ word
  pub chosen :
      ((x.first place ≡ true) × ((j : ℕ) → place < j → j < x.count → x.first j ≡ true → at j ≢ word))
      ⊎ (((j : ℕ) → j < x.count → x.first j ≡ true → at j ≢ word) × ((j : ℕ) → j < place → at j ≢ word))

-- the lines from one place to another, whichever is first, are labels; the later one needn't be
pub record OnlyLabels (solid : ℕ → Bool) (j k : ℕ) : Type 0 where
  pub up : (i : ℕ) → j ≤ i → i < k → solid i ≡ false
  pub down : (i : ℕ) → k ≤ i → i < j → solid i ≡ false

-- Where the line at a place goes on by one way of going, and where it goes on by another, there are only labels between.
abbrev pub Lands : {D : Type 0} → LineMachine D → (goes : ℕ → D → Going) → (Fine : ℕ × D → Type 0) → Type 0
Lands {D = D} m goes Fine =
    (k : ℕ) (d : D) → Fine (k, d) → is_done m d ≡ false → OnlyLabels m.solid (arrival k (goes k d)) (arrival k (m.goes k d))

-- equal data, and only labels between the places of runs that go on
pub record AtSame {D : Type 0} (m : LineMachine D) (s u : ℕ × D) : Type 0 where
  pub equal : u.1 ≡ s.1
  pub place : is_done m s.1 ≡ false → OnlyLabels m.solid u.0 s.0
