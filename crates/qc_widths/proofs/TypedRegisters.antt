-- Registers of spaces that are found are well typed.
use Rattle.std.specs.Prelude.{ℕ, suc, ◌≡◌, ◌≤◌, ◌<◌, ◌-◌, nat_lt, if◌then◌else◌, List, [], ◌∷◌, length, slice_get, slice_index, Option, None, Some, IfSome}
use Rattle.std.specs.Option.{option_map}
use Rattle.std.specs.Str.{bytes_eq}
use Rattle.std.proofs.Common.{refl, ap, sym, ◌∙◌, subst, arith}
use Rattle.std.proofs.lemmas.Grind.{common_steps}
use Rattle.std.proofs.lemmas.Option.{slice_get-map, get_or_from_slice_get, slice_get_within}
use Rattle.qc_terms.specs.State.{Context}
use Rattle.qc_terms.specs.declared.term.Place.{Place}
use Rattle.qc_terms.specs.declared.term.Place.TheVariants as place
use Rattle.qc_terms.specs.declared.term.Term.TheVariants as term
use Rattle.qc_terms.specs.Tree.{width_of, tree_of-reg}
use Rattle.qc_terms.specs.Typing.{IsTyped, IsRegister}
use Rattle.qc_descr.specs.declared.description.OperandKind.{OperandKind}
use Rattle.qc_descr.specs.Valid.{NamesOperands, NamesPlace}
use Rattle.qc_grammar.specs.declared.cursor.Ident.{Ident}
use Rattle.qc_grammar.specs.declared.cursor.Number.{Number}
use Rattle.qc_facts.specs.declared.facts.SpaceFacts.{SpaceFacts}
use Rattle.qc_facts.specs.declared.facts.Target.{Target}
use Rattle.qc_facts.specs.declared.faults.WidthFault.TheVariants.{UnknownName}
use Rattle.qc_facts.specs.Values.{bits_of, leaf}
use Rattle.qc_facts.specs.Facts.{Facts, placed_from, space_named, cell_in, cell_named, number_faults, cell_faults}
use Rattle.qc_widths.proofs.Typed.{IsComplete, IsTypedValue, IsTypedTarget}
use Rattle.qc_widths.proofs.TypedNodes.{by_cond}

-- what is found with its place stands there
abbrev IsPlaced : {A : Type 0} → ℕ → List A → Option (ℕ × A) → Type 0
IsPlaced at xs None = Unit {0}
IsPlaced at xs (Some p) = (at ≤ p.0) × (slice_get xs (p.0 - at) ≡ Some p.1)

next : {A : Type 0} (at : ℕ) (x : A) (xs : List A) (o : Option (ℕ × A)) → IsPlaced (suc at) xs o → IsPlaced at (x ∷ xs) o
next at x xs None p = tt
next at x xs (Some (i, y)) p =
    let place : suc (i - suc at) ≡ i - at = omega (arith, p.0) in
    let later : slice_get (x ∷ xs) (suc (i - suc at)) ≡ Some y = p.1 in
    (omega (arith, p.0), subst (λ k. slice_get (x ∷ xs) k ≡ Some y) place later)

is_placed : {A : Type 0} (at : ℕ) (name_of : A → List ℕ) (xs : List A) (name : List ℕ)
    → IsPlaced at xs (placed_from at name_of xs name)
is_placed at name_of [] name = tt
is_placed at name_of (x ∷ xs) name =
    let place : 0 ≡ at - at = omega arith in
    by_cond (IsPlaced at (x ∷ xs)) (bytes_eq (name_of x) name) (Some (at, x)) (placed_from (suc at) name_of xs name)
    (omega arith, subst (λ k. slice_get (x ∷ xs) k ≡ Some x) place refl)
    (next at x xs (placed_from (suc at) name_of xs name) (is_placed (suc at) name_of xs name))

-- a space of complete facts: its place, its width and its number of cells
pub record IsSpace (context : Context) (i : ℕ) (s : SpaceFacts) : Type 0 where
  pub within : i < length context.widths
  pub width : s.width ≡ Some (slice_index context.widths i)
  pub most : slice_index context.widths i ≤ 64
  pub cells : s.cells ≡ slice_index context.counts i

some_is : {A B : Type 0} (f : A → B) (o : Option A) (b : B) → option_map f o ≡ Some b → (a : A) × (o ≡ Some a) × (f a ≡ b)
some_is f None b e = cc e
some_is f (Some a) b e = (a, refl, cc e)

pub is_space : (context : Context) (facts : Facts) → IsComplete facts context → (i : ℕ) (s : SpaceFacts)
    → slice_get facts.spaces i ≡ Some s → IsSpace context i s
is_space context facts complete i s e =
    let width : (w : ℕ) × (slice_get context.widths i ≡ Some w) × (Some w ≡ s.width) =
    some_is Some (slice_get context.widths i) s.width
    (sym (slice_get-map Some context.widths i) ∙ ap (λ xs. slice_get xs i) (sym complete.widths)
    ∙ slice_get-map (λ x. x.width) facts.spaces i ∙ ap (option_map (λ x. x.width)) e) in
    let cells : slice_get context.counts i ≡ Some s.cells =
    ap (λ xs. slice_get xs i) (sym complete.counts) ∙ slice_get-map (λ x. x.cells) facts.spaces i
    ∙ ap (option_map (λ x. x.cells)) e in
    let is : slice_index context.widths i ≡ width.0 = get_or_from_slice_get context.widths i width.0 0 width.1 in
    record {
      within = slice_get_within context.widths i width.0 width.1;
      width = sym width.2 ∙ ap Some (sym is);
      most = complete.bits i 0 (slice_get_within context.widths i width.0 width.1);
      cells = sym (get_or_from_slice_get context.counts i s.cells 0 cells);
    }

pub found_space : (context : Context) (facts : Facts) → IsComplete facts context → (name : List ℕ) (i : ℕ) (s : SpaceFacts)
    → space_named facts name ≡ Some (i, s) → IsSpace context i s
found_space context facts complete name i s e =
    let p : IsPlaced 0 facts.spaces (Some (i, s)) =
    subst (IsPlaced 0 facts.spaces) e (is_placed 0 (λ x. x.name) facts.spaces name) in
    let place : i - 0 ≡ i = omega arith in
    is_space context facts complete i s (subst (λ k. slice_get facts.spaces k ≡ Some s) place p.1)

module _ (context : Context) (kinds : List OperandKind) where
  -- a register that is read
  pub typed_register : (p : Place) (bits token : ℕ) → bits ≤ 64 → IsRegister context p bits → NamesPlace kinds p
      → IsTypedValue context kinds (leaf token (term.Reg p bits) (Some bits))
  typed_register p bits token small is names = record {
    sound = refl;
    width = ap (λ t. Some (width_of t)) (sym (tree_of-reg p bits));
    most = subst (λ t. width_of t ≤ 64) (sym (tree_of-reg p bits)) small;
    typed = subst (IsTyped context) (sym (tree_of-reg p bits)) is;
    names = subst (NamesOperands context.word kinds) (sym (tree_of-reg p bits)) names;
  }

  -- a target that is there, with its width
  cell_case : (facts : Facts) → IsComplete facts context → (cell : Number) (token : ℕ) (o : Option (ℕ × SpaceFacts))
      → ((i : ℕ) (s : SpaceFacts) → o ≡ Some (i, s) → IsSpace context i s) → number_faults cell o token ≡ []
      → (t : Target) × (cell_in cell o ≡ Some t) × IsTypedTarget context kinds t × IfSome t.width (λ w. w ≤ 64)
  cell_case facts complete cell token None space e = cc e
  cell_case facts complete cell token (Some (i, s)) space e =
      let is : IsSpace context i s = space i s refl in
      let below : cell.value < s.cells = within cell s.cells e in
      let target : Target = record { place = place.Cell i cell.value; width = s.width } in (
        target,
        found below,
        record {
          bits = slice_index context.widths i;
          width = is.width;
          register = (is.within, refl, subst (λ n. cell.value < n) is.cells below);
          names = tt;
        },
        subst (λ w. IfSome w (λ n. n ≤ 64)) (sym is.width) is.most,
      )
    where
      within : (n : Number) (cells : ℕ) → (if nat_lt n.value cells then [] else UnknownName n.token ∷ []) ≡ []
          → n.value < cells
      within n cells none = grind (arith, common_steps)

      found : cell.value < s.cells
          → cell_in cell (Some (i, s)) ≡ Some (record { place = place.Cell i cell.value; width = s.width })
      found below = grind (arith, common_steps)

  -- a cell that is named is a typed target
  pub fine_cell : (facts : Facts) → IsComplete facts context → (space : Ident) (cell : Number)
      → cell_faults facts space cell ≡ []
      → (t : Target) × (cell_named facts space cell ≡ Some t) × IsTypedTarget context kinds t
      × IfSome t.width (λ w. w ≤ 64)
  fine_cell facts complete space cell e =
      cell_case facts complete cell space.token (space_named facts space.text)
      (found_space context facts complete space.text) e

  -- reading such a target
  pub typed_read : (t : Target) → IsTypedTarget context kinds t → IfSome t.width (λ w. w ≤ 64) → (token : ℕ)
      → IsTypedValue context kinds (leaf token (term.Reg t.place (bits_of t.width)) t.width)
  typed_read t is small token =
      subst (λ w. IsTypedValue context kinds (leaf token (term.Reg t.place (bits_of w)) w)) (sym is.width)
      (typed_register t.place is.bits token (subst (λ w. IfSome w (λ n. n ≤ 64)) is.width small) is.register is.names)
