-- What holds where no fault is reported.
use Rattle.std.specs.Prelude.{ℕ, suc, ◌≡◌, ◌<◌, ◌≤◌, ◌+◌, ◌^◌, Bool, true, false, nat_lt, ◌&&◌, if◌then◌else◌, List, [], ◌∷◌, ◌++◌, length, All, Option, None, Some}
use Rattle.std.specs.List.{list_all}
use Rattle.std.proofs.Common.{refl, ap, sym, ◌∙◌, arith, subst}
use Rattle.std.proofs.lemmas.Bool.{ltb-true, lt-ltb}
use Rattle.std.proofs.lemmas.Bool.Decides.{Decides-ltb}
use Rattle.std.proofs.lemmas.List.Elements.{All-nil, All-cons, All-head, All-tail, All-append, All-get_or}
use Rattle.std.proofs.lemmas.Option.{get_or_from_slice_get}
use Rattle.qc_widths.specs.TextFaults.{more_than, second_declarations, item_faults, faults_after, faults_of}
use Rattle.qc_grammar.specs.declared.cursor.Ident.{Ident}
use Rattle.qc_grammar.specs.declared.cursor.Number.{Number}
use Rattle.qc_lrtl.specs.declared.syntax.Item.{Item}
use Rattle.qc_lrtl.specs.declared.syntax.Item.TheVariants as fact
use Rattle.qc_lrtl.specs.declared.syntax.RawMachine.{RawMachine}
use Rattle.qc_facts.specs.declared.facts.SpaceFacts.{SpaceFacts}
use Rattle.qc_facts.specs.declared.faults.WidthFault.{WidthFault}
use Rattle.qc_facts.specs.declared.faults.WidthFault.TheVariants.{UnknownName, TooMany}
use Rattle.qc_facts.specs.Faults.{reported}
use Rattle.qc_facts.specs.Facts.{Facts, space_named, number_faults, cell_faults, place_of, space_of_item, spaces_in, facts_in}
use Rattle.qc_resolve.specs.Scopes.{Signature, Meaning}
use Rattle.qc_resolve.specs.Declarations.{meanings_in, instruction_name, space_name, signature_of_item}
use Rattle.qc_widths.specs.Inner.Given.{has_small_cells, is_small_space}
use Rattle.qc_facts.specs.Numbers.{width_faults}
use Rattle.qc_facts.specs.Law.Places.{StandsAt, placed-stands}

pub reported-none : (faults : List WidthFault) → reported faults ≡ None → faults ≡ []
reported-none [] h = refl
reported-none (f ∷ fs) h = cc

pub append-none : {A : Type 0} (xs ys : List A) → xs ++ ys ≡ [] → (xs ≡ []) × (ys ≡ [])
append-none [] ys h = (refl, h)
append-none (x ∷ xs) ys h = cc

pub lt_false : (a b : ℕ) → nat_lt a b ≡ false → b ≤ a
lt_false a b h = grind (arith, Decides-ltb a b)

-- no more than so many
pub at-most : (limit token count : ℕ) → more_than limit token count ≡ [] → count ≤ limit
at-most limit token count none = by (nat_lt limit count) refl none
  where
    by : (b : Bool) → nat_lt limit count ≡ b → (if b then TooMany token limit ∷ [] else []) ≡ [] → count ≤ limit
    by true is none = cc
    by false is none = lt_false limit count is

-- A cell that is named is one of its space.
pub record KnownCell (facts : Facts) (space : Ident) (cell : Number) : Type 0 where
  pub place : ℕ
  pub found : SpaceFacts
  pub is : space_named facts space.text ≡ Some (place, found)
  pub stands : StandsAt facts.spaces 0 place found
  pub within : cell.value < found.cells

known-number : (facts : Facts) (space : Ident) (cell : Number) (o : Option (ℕ × SpaceFacts)) →
    space_named facts space.text ≡ o →
    number_faults cell o space.token ≡ [] → KnownCell facts space cell
known-number facts space cell None is none = cc
known-number facts space cell (Some s) is none = by (nat_lt cell.value s.1.cells) refl none
  where
    by : (b : Bool) → nat_lt cell.value s.1.cells ≡ b → (if b then [] else UnknownName cell.token ∷ []) ≡ [] →
        KnownCell facts space cell
    by true less none =
        let p = placed-stands 0 (λ s. s.name) facts.spaces space.text s.0 (ap place_of is) in
        let same : Some (s.0, p.0) ≡ Some s = sym p.1 ∙ is in
        let found : p.0 ≡ s.1 = cc in
        record {
          place = s.0;
          found = s.1;
          is = is;
          stands = subst (StandsAt facts.spaces 0 s.0) found p.2;
          within = ltb-true cell.value s.1.cells less;
        }
    by false less none = cc

pub known-cell : (facts : Facts) (space : Ident) (cell : Number) → cell_faults facts space cell ≡ [] →
    KnownCell facts space cell
known-cell facts space cell none = known-number facts space cell (space_named facts space.text) refl none

-- the spaces have at most 64 cells
abbrev pub HaveFewCells : List SpaceFacts → Type 0
HaveFewCells spaces = All (λ s. s.cells ≤ 64) spaces

few-cells-of-item : (facts : Facts) (earlier : List Signature) (meanings : List Meaning) (i n : ℕ) (item : Item) →
    item_faults facts earlier meanings i n item ≡ [] → HaveFewCells (space_of_item item)
few-cells-of-item facts earlier meanings i n (fact.Space token name cells bits flags) h =
    let counts = (append-none (width_faults bits) (more_than 8 token (suc n) ++ more_than 64 token cells.value) h).1 in
    let few = (append-none (more_than 8 token (suc n)) (more_than 64 token cells.value) counts).1 in
    All-cons (λ s. s.cells ≤ 64) _ [] (at-most 64 token cells.value few) (All-nil _)
few-cells-of-item facts earlier meanings i n _ h = All-nil _

pub few-cells : (facts : Facts) (meanings : List Meaning) (earlier : List Signature) (i n : ℕ) (items : List Item) →
    faults_after facts meanings earlier i n items ≡ [] → HaveFewCells (spaces_in items)
few-cells facts meanings earlier i n [] h = All-nil _
few-cells facts meanings earlier i n (item ∷ items) h =
    let parts = append-none (item_faults facts earlier meanings i n item)
    (faults_after facts meanings (earlier ++ signature_of_item facts earlier item)
    (i + length (instruction_name item)) (n + length (space_name item)) items) h in
    All-append (λ s. s.cells ≤ 64) (space_of_item item) (spaces_in items)
    (few-cells-of-item facts earlier meanings i n item parts.0)
    (few-cells facts meanings (earlier ++ signature_of_item facts earlier item)
    (i + length (instruction_name item)) (n + length (space_name item)) items parts.1)

-- a cell of such a space has a small number
small-cell : (facts : Facts) (space : Ident) (cell : Number) → HaveFewCells facts.spaces →
    cell_faults facts space cell ≡ [] →
    nat_lt cell.value (2 ^ 32) ≡ true
small-cell facts space cell few none =
    let known = known-cell facts space cell none in
    let at = known.stands in
    let cells : known.found.cells ≤ 64 =
    subst (λ s. s.cells ≤ 64) (get_or_from_slice_get facts.spaces at.index known.found known.found at.is)
    (All-get_or (λ s. s.cells ≤ 64) facts.spaces at.index known.found at.within few) in
    lt-ltb cell.value (2 ^ 32) (omega (arith, cells, known.within))

small-cells-of-item : (facts : Facts) (earlier : List Signature) (meanings : List Meaning) (i n : ℕ) (item : Item) →
    HaveFewCells facts.spaces → item_faults facts earlier meanings i n item ≡ [] → has_small_cells item ≡ true
small-cells-of-item facts earlier meanings i n (fact.Zero token space cell) few h = small-cell facts space cell few h
small-cells-of-item facts earlier meanings i n (fact.Frame token space cell) few h = small-cell facts space cell few h
small-cells-of-item facts earlier meanings i n (fact.Link token space cell) few h = small-cell facts space cell few h
small-cells-of-item facts earlier meanings i n (fact.Allocatable token space first last) few h =
    let parts = append-none (cell_faults facts space first) (cell_faults facts space last) h in
    ap (λ b. b && nat_lt last.value (2 ^ 32)) (small-cell facts space first few parts.0)
    ∙ small-cell facts space last few parts.1
small-cells-of-item facts earlier meanings i n _ few h = refl

small-cells : (facts : Facts) (meanings : List Meaning) (earlier : List Signature) (i n : ℕ) (items : List Item) →
    HaveFewCells facts.spaces → faults_after facts meanings earlier i n items ≡ [] →
    list_all has_small_cells items ≡ true
small-cells facts meanings earlier i n [] few h = refl
small-cells facts meanings earlier i n (item ∷ items) few h =
    let parts = append-none (item_faults facts earlier meanings i n item)
    (faults_after facts meanings (earlier ++ signature_of_item facts earlier item)
    (i + length (instruction_name item)) (n + length (space_name item)) items) h in
    ap (λ b. b && list_all has_small_cells items) (small-cells-of-item facts earlier meanings i n item few parts.0)
    ∙ small-cells facts meanings (earlier ++ signature_of_item facts earlier item)
    (i + length (instruction_name item)) (n + length (space_name item)) items few parts.1

small-spaces : (spaces : List SpaceFacts) → HaveFewCells spaces → list_all is_small_space spaces ≡ true
small-spaces [] few = refl
small-spaces (s ∷ spaces) few =
    ap (λ b. b && list_all is_small_space spaces)
    (lt-ltb s.cells (2 ^ 32) (omega (arith, All-head (λ s. s.cells ≤ 64) s spaces few)))
    ∙ small-spaces spaces (All-tail (λ s. s.cells ≤ 64) s spaces few)

-- no fault of a machine's items
pub record HasNoFault (items : List Item) : Type 0 where
  pub second : second_declarations items ≡ []
  pub items_after : faults_after (facts_in items) (meanings_in (facts_in items) items) [] 0 0 items ≡ []
  pub few_cells : HaveFewCells (spaces_in items)

pub no-fault : (raw : RawMachine) → reported (faults_of raw) ≡ None → HasNoFault raw.items
no-fault raw none =
    let parts = append-none (second_declarations raw.items)
    (faults_after (facts_in raw.items) (meanings_in (facts_in raw.items) raw.items) [] 0 0 raw.items)
    (reported-none (faults_of raw) none) in
    record {
      second = parts.0;
      items_after = parts.1;
      few_cells = few-cells (facts_in raw.items) (meanings_in (facts_in raw.items) raw.items) [] 0 0 raw.items parts.1;
    }

pub cells-fit : (items : List Item) → HasNoFault items → list_all has_small_cells items ≡ true
cells-fit items none =
    small-cells (facts_in items) (meanings_in (facts_in items) items) [] 0 0 items none.few_cells none.items_after

pub spaces-fit : (items : List Item) → HasNoFault items → list_all is_small_space (facts_in items).spaces ≡ true
spaces-fit items none = small-spaces (spaces_in items) none.few_cells
