-- Lookups by name.
use Rattle.std.specs.Prelude.{ℕ, zero, suc, ◌≡◌, ◌+◌, ◌<◌, ◌≤◌, Bool, true, false, cond, List, [], ◌∷◌, length, map, take, slice_get, unwrap_or, Option, None, Some}
use Rattle.std.specs.Str.{bytes_eq}
use Rattle.std.proofs.Common.{refl, ap, sym, ◌∙◌, arith, get_or}
use Rattle.std.proofs.lemmas.Option.{unwrap_or-slice_get}
use Rattle.qc_lrtl.specs.declared.syntax.Param.{Param}
use Rattle.qc_lrtl.specs.declared.syntax.Operand.{Operand}
use Rattle.qc_resolve.specs.Scopes.{Bound, operand}
use Rattle.qc_facts.specs.Facts.{Facts, named, placed_from, facts_of_operand, place_of}
use Rattle.qc_resolve.specs.Declarations.{bound_params, bound_operands}

-- an element by its index
pub got : {A : Type 0} (xs : List A) (i j : ℕ) (d x : A) → slice_get xs i ≡ Some x → j ≡ i → get_or xs j d ≡ x
got xs i j d x e h = ap (λ k. get_or xs k d) h ∙ sym (unwrap_or-slice_get xs i d) ∙ ap (λ o. unwrap_or o d) e

-- one step of a lookup
pub placed_on : {A : Type 0} (f : A → List ℕ) (at : ℕ) (x : A) (xs : List A) (name : List ℕ) → bytes_eq (f x) name ≡ false
    → placed_from at f (x ∷ xs) name ≡ placed_from (at + 1) f xs name
placed_on f at x xs name e = rw e (ap (λ n. placed_from n f xs name) (omega arith))

pub placed_here : {A : Type 0} (f : A → List ℕ) (at : ℕ) (x : A) (xs : List A) (name : List ℕ) → bytes_eq (f x) name ≡ true
    → placed_from at f (x ∷ xs) name ≡ Some (at, x)
placed_here f at x xs name e = rw e refl

-- where a place was found
pub record Named (A : Type 0) (f : A → List ℕ) (from place : ℕ) (xs : List A) (name : List ℕ) : Type 0 where
  pub index : ℕ
  pub item : A
  pub at : place ≡ from + index
  pub gets : slice_get xs index ≡ Some item
  pub within : index < length xs
  pub is : named f xs name ≡ Some item

some_place : (a b : ℕ) → Some a ≡ Some b → a ≡ b
some_place a b e = cc

named_later : {A : Type 0} (f : A → List ℕ) (from place : ℕ) (x : A) (xs : List A) (name : List ℕ) → bytes_eq (f x) name ≡ false
    → Named A f (from + 1) place xs name → Named A f from place (x ∷ xs) name
named_later f from place x xs name h r = record {
  index = suc r.index;
  item = r.item;
  at = omega (arith, r.at);
  gets = r.gets;
  within = omega (arith, r.within);
  is = rw h r.is;
}

named_first : {A : Type 0} (f : A → List ℕ) (from place : ℕ) (x : A) (xs : List A) (name : List ℕ) → bytes_eq (f x) name ≡ true
    → from ≡ place → Named A f from place (x ∷ xs) name
named_first f from place x xs name h e = record {
  index = 0;
  item = x;
  at = omega arith;
  gets = refl;
  within = omega arith;
  is = rw h refl;
}

named_case : {A : Type 0} (f : A → List ℕ) (from place : ℕ) (x : A) (xs : List A) (name : List ℕ) (b : Bool) → bytes_eq (f x) name ≡ b
    → place_of (placed_from from f (x ∷ xs) name) ≡ Some place
    → (place_of (placed_from (from + 1) f xs name) ≡ Some place → Named A f (from + 1) place xs name)
    → Named A f from place (x ∷ xs) name
named_case f from place x xs name true h e later = named_first f from place x xs name h
    (some_place from place (ap place_of (sym (placed_here f from x xs name h)) ∙ e))
named_case f from place x xs name false h e later = named_later f from place x xs name h
    (later (ap place_of (sym (placed_on f from x xs name h)) ∙ e))

pub placed_named : {A : Type 0} (f : A → List ℕ) (from place : ℕ) (xs : List A) (name : List ℕ)
    → place_of (placed_from from f xs name) ≡ Some place → Named A f from place xs name
placed_named f from place [] name e = absurd (cc)
placed_named f from place (x ∷ xs) name e = named_case f from place x xs name (bytes_eq (f x) name) refl e
    (placed_named f (from + 1) place xs name)

none_place : (a : ℕ) → Some a ≡ None → ⊥
none_place a e = cc

unnamed_case : {A : Type 0} (f : A → List ℕ) (from : ℕ) (x : A) (xs : List A) (name : List ℕ) (b : Bool) → bytes_eq (f x) name ≡ b
    → place_of (placed_from from f (x ∷ xs) name) ≡ None
    → (place_of (placed_from (from + 1) f xs name) ≡ None → named f xs name ≡ None)
    → named f (x ∷ xs) name ≡ None
unnamed_case f from x xs name true h e later =
    absurd (none_place from (ap place_of (sym (placed_here f from x xs name h)) ∙ e))
unnamed_case f from x xs name false h e later = rw h (later (ap place_of (sym (placed_on f from x xs name h)) ∙ e))

pub unplaced_named : {A : Type 0} (f : A → List ℕ) (from : ℕ) (xs : List A) (name : List ℕ)
    → place_of (placed_from from f xs name) ≡ None → named f xs name ≡ None
unplaced_named f from [] name e = refl
unplaced_named f from (x ∷ xs) name e = unnamed_case f from x xs name (bytes_eq (f x) name) refl e
    (unplaced_named f (from + 1) xs name)

-- parameters that are bound in order
abbrev pub param_name : Param → List ℕ
param_name p = p.name.text

abbrev pub bound_name : List ℕ × Bound → List ℕ
bound_name p = p.0

-- what is bound to the name of a parameter
pub record BoundAt (params : List Param) (bounds : List Bound) (from place : ℕ) (name : List ℕ) : Type 0 where
  pub index : ℕ
  pub spelled : List ℕ
  pub spec : Bound
  pub at : place ≡ from + index
  pub within : index < length params
  pub gets : slice_get bounds index ≡ Some spec
  pub is : named bound_name (bound_params params bounds) name ≡ Some (spelled, spec)

bound_later : (from place : ℕ) (p : Param) (params : List Param) (b : Bound) (bounds : List Bound) (name : List ℕ)
    → bytes_eq (param_name p) name ≡ false → BoundAt params bounds (from + 1) place name
    → BoundAt (p ∷ params) (b ∷ bounds) from place name
bound_later from place p params b bounds name h r = record {
  index = suc r.index;
  spelled = r.spelled;
  spec = r.spec;
  at = omega (arith, r.at);
  within = omega (arith, r.within);
  gets = r.gets;
  is = rw h r.is;
}

bound_case : (from place : ℕ) (p : Param) (params : List Param) (b : Bound) (bounds : List Bound) (name : List ℕ) (t : Bool)
    → bytes_eq (param_name p) name ≡ t → place_of (placed_from from param_name (p ∷ params) name) ≡ Some place
    → (place_of (placed_from (from + 1) param_name params name) ≡ Some place → BoundAt params bounds (from + 1) place name)
    → BoundAt (p ∷ params) (b ∷ bounds) from place name
bound_case from place p params b bounds name true h e later =
    let k : from ≡ place = some_place from place (ap place_of (sym (placed_here param_name from p params name h)) ∙ e) in
    record {
      index = 0;
      spelled = param_name p;
      spec = b;
      at = omega arith;
      within = omega arith;
      gets = refl;
      is = rw h refl;
    }
bound_case from place p params b bounds name false h e later =
    bound_later from place p params b bounds name h (later (ap place_of (sym (placed_on param_name from p params name h)) ∙ e))

pub placed_bound : (params : List Param) (bounds : List Bound) (from place : ℕ) (name : List ℕ)
    → length bounds ≡ length params → place_of (placed_from from param_name params name) ≡ Some place
    → BoundAt params bounds from place name
placed_bound [] bounds from place name n e = absurd (cc)
placed_bound (p ∷ params) [] from place name n e = absurd (omega (arith, n))
placed_bound (p ∷ params) (b ∷ bounds) from place name n e =
    bound_case from place p params b bounds name (bytes_eq (param_name p) name) refl e
    (placed_bound params bounds (from + 1) place name (omega (arith, n)))

unbound_case : (from : ℕ) (p : Param) (params : List Param) (b : Bound) (bounds : List Bound) (name : List ℕ) (t : Bool)
    → bytes_eq (param_name p) name ≡ t → place_of (placed_from from param_name (p ∷ params) name) ≡ None
    → (place_of (placed_from (from + 1) param_name params name) ≡ None → named bound_name (bound_params params bounds) name ≡ None)
    → named bound_name (bound_params (p ∷ params) (b ∷ bounds)) name ≡ None
unbound_case from p params b bounds name true h e later =
    absurd (none_place from (ap place_of (sym (placed_here param_name from p params name h)) ∙ e))
unbound_case from p params b bounds name false h e later =
    rw h (later (ap place_of (sym (placed_on param_name from p params name h)) ∙ e))

pub unplaced_bound : (params : List Param) (bounds : List Bound) (from : ℕ) (name : List ℕ)
    → place_of (placed_from from param_name params name) ≡ None → named bound_name (bound_params params bounds) name ≡ None
unplaced_bound [] bounds from name e = refl
unplaced_bound (p ∷ params) [] from name e = refl
unplaced_bound (p ∷ params) (b ∷ bounds) from name e =
    unbound_case from p params b bounds name (bytes_eq (param_name p) name) refl e
    (unplaced_bound params bounds (from + 1) name)

-- operands with their numbers
abbrev pub operand_name : Operand → List ℕ
operand_name o = o.name.text

pub record OperandAt (facts : Facts) (operands : List Operand) (from place : ℕ) (name : List ℕ) : Type 0 where
  pub index : ℕ
  pub item : Operand
  pub spelled : List ℕ
  pub at : place ≡ from + index
  pub within : index < length operands
  pub gets : slice_get operands index ≡ Some item
  pub is : named bound_name (bound_operands facts from operands) name ≡ Some (spelled, operand place (facts_of_operand facts item.kind))

operand_later : (facts : Facts) (from place : ℕ) (o : Operand) (operands : List Operand) (name : List ℕ)
    → bytes_eq (operand_name o) name ≡ false → OperandAt facts operands (from + 1) place name
    → OperandAt facts (o ∷ operands) from place name
operand_later facts from place o operands name h r = record {
  index = suc r.index;
  item = r.item;
  spelled = r.spelled;
  at = omega (arith, r.at);
  within = omega (arith, r.within);
  gets = r.gets;
  is = rw h (ap (λ n. named bound_name (bound_operands facts n operands) name) (omega arith) ∙ r.is);
}

operand_case : (facts : Facts) (from place : ℕ) (o : Operand) (operands : List Operand) (name : List ℕ) (t : Bool)
    → bytes_eq (operand_name o) name ≡ t → place_of (placed_from from operand_name (o ∷ operands) name) ≡ Some place
    → (place_of (placed_from (from + 1) operand_name operands name) ≡ Some place → OperandAt facts operands (from + 1) place name)
    → OperandAt facts (o ∷ operands) from place name
operand_case facts from place o operands name true h e later =
    let k : from ≡ place = some_place from place (ap place_of (sym (placed_here operand_name from o operands name h)) ∙ e) in
    record {
      index = 0;
      item = o;
      spelled = operand_name o;
      at = omega arith;
      within = omega arith;
      gets = refl;
      is = rw h (ap (λ n. Some (operand_name o, operand n (facts_of_operand facts o.kind))) k);
    }
operand_case facts from place o operands name false h e later =
    operand_later facts from place o operands name h
    (later (ap place_of (sym (placed_on operand_name from o operands name h)) ∙ e))

pub placed_operand : (facts : Facts) (operands : List Operand) (from place : ℕ) (name : List ℕ)
    → place_of (placed_from from operand_name operands name) ≡ Some place → OperandAt facts operands from place name
placed_operand facts [] from place name e = absurd (cc)
placed_operand facts (o ∷ operands) from place name e =
    operand_case facts from place o operands name (bytes_eq (operand_name o) name) refl e
    (placed_operand facts operands (from + 1) place name)

unoperand_case : (facts : Facts) (from : ℕ) (o : Operand) (operands : List Operand) (name : List ℕ) (t : Bool)
    → bytes_eq (operand_name o) name ≡ t → place_of (placed_from from operand_name (o ∷ operands) name) ≡ None
    → (place_of (placed_from (from + 1) operand_name operands name) ≡ None
    → named bound_name (bound_operands facts (from + 1) operands) name ≡ None)
    → named bound_name (bound_operands facts from (o ∷ operands)) name ≡ None
unoperand_case facts from o operands name true h e later =
    absurd (none_place from (ap place_of (sym (placed_here operand_name from o operands name h)) ∙ e))
unoperand_case facts from o operands name false h e later =
    rw h (ap (λ n. named bound_name (bound_operands facts n operands) name) (omega arith)
    ∙ later (ap place_of (sym (placed_on operand_name from o operands name h)) ∙ e))

pub unplaced_operand : (facts : Facts) (operands : List Operand) (from : ℕ) (name : List ℕ)
    → place_of (placed_from from operand_name operands name) ≡ None
    → named bound_name (bound_operands facts from operands) name ≡ None
unplaced_operand facts [] from name e = refl
unplaced_operand facts (o ∷ operands) from name e =
    unoperand_case facts from o operands name (bytes_eq (operand_name o) name) refl e
    (unplaced_operand facts operands (from + 1) name)

-- a lookup goes by names alone
place_case : {A : Type 0} (at : ℕ) (x : A) (n : List ℕ) (b : Bool) (p : Option (ℕ × A)) (q : Option (ℕ × List ℕ))
    → place_of p ≡ place_of q → place_of (cond b (Some (at, x)) p) ≡ place_of (cond b (Some (at, n)) q)
place_case at x n true p q e = refl
place_case at x n false p q e = e

pub placed_map : {A : Type 0} (f : A → List ℕ) (at : ℕ) (xs : List A) (name : List ℕ)
    → place_of (placed_from at f xs name) ≡ place_of (placed_from at (λ n. n) (map f xs) name)
placed_map f at [] name = refl
placed_map f at (x ∷ xs) name =
    place_case at x (f x) (bytes_eq (f x) name) (placed_from (suc at) f xs name)
    (placed_from (suc at) (λ n. n) (map f xs) name) (placed_map f (suc at) xs name)

-- a lookup among the first so many
taken_case : {A : Type 0} (f : A → List ℕ) (from level place : ℕ) (x : A) (xs : List A) (name : List ℕ) (b : Bool)
    → bytes_eq (f x) name ≡ b → place_of (placed_from from f (x ∷ xs) name) ≡ Some place
    → (place_of (placed_from (from + 1) f xs name) ≡ Some place → place_of (placed_from (from + 1) f (take level xs) name) ≡ Some place)
    → place_of (placed_from from f (x ∷ take level xs) name) ≡ Some place
taken_case f from level place x xs name true h e later =
    ap place_of (placed_here f from x (take level xs) name h) ∙ (ap place_of (sym (placed_here f from x xs name h)) ∙ e)
taken_case f from level place x xs name false h e later =
    ap place_of (placed_on f from x (take level xs) name h) ∙ later (ap place_of (sym (placed_on f from x xs name h)) ∙ e)

place_from : {A : Type 0} (f : A → List ℕ) (from place : ℕ) (xs : List A) (name : List ℕ)
    → place_of (placed_from from f xs name) ≡ Some place → from ≤ place
place_from f from place xs name e = let r = placed_named f from place xs name e in omega (arith, r.at)

pub placed_taken : {A : Type 0} (f : A → List ℕ) (from level place : ℕ) (xs : List A) (name : List ℕ)
    → place_of (placed_from from f xs name) ≡ Some place → place < from + level
    → place_of (placed_from from f (take level xs) name) ≡ Some place
placed_taken f from zero place xs name e h = absurd (omega (arith, place_from f from place xs name e))
placed_taken f from (suc level) place [] name e h = e
placed_taken f from (suc level) place (x ∷ xs) name e h =
    taken_case f from level place x xs name (bytes_eq (f x) name) refl e
    (λ k. placed_taken f (from + 1) level place xs name k (omega arith))

late_case : {A : Type 0} (f : A → List ℕ) (from level : ℕ) (x : A) (xs : List A) (name : List ℕ) (b : Bool)
    → bytes_eq (f x) name ≡ b
    → ((place : ℕ) → place_of (placed_from from f (x ∷ xs) name) ≡ Some place → suc from ≤ place)
    → (((place : ℕ) → place_of (placed_from (from + 1) f xs name) ≡ Some place → from + suc level ≤ place)
    → place_of (placed_from (from + 1) f (take level xs) name) ≡ None)
    → ((place : ℕ) → place_of (placed_from from f (x ∷ xs) name) ≡ Some place → from + suc level ≤ place)
    → place_of (placed_from from f (x ∷ take level xs) name) ≡ None
late_case f from level x xs name true h not later all =
    absurd (omega (arith, not from (ap place_of (placed_here f from x xs name h))))
late_case f from level x xs name false h not later all =
    ap place_of (placed_on f from x (take level xs) name h)
    ∙ later (λ place e. all place (ap place_of (placed_on f from x xs name h) ∙ e))

pub placed_late : {A : Type 0} (f : A → List ℕ) (from level : ℕ) (xs : List A) (name : List ℕ)
    → ((place : ℕ) → place_of (placed_from from f xs name) ≡ Some place → from + level ≤ place)
    → place_of (placed_from from f (take level xs) name) ≡ None
placed_late f from zero xs name all = refl
placed_late f from (suc level) [] name all = refl
placed_late f from (suc level) (x ∷ xs) name all =
    late_case f from level x xs name (bytes_eq (f x) name) refl (λ place e. omega (arith, all place e))
    (λ later. placed_late f (from + 1) level xs name (λ place e. omega (arith, later place e))) all
