-- What is known where no fault is found.
use Rattle.std.proofs.Common.{◌≡◌, ℕ, suc, List, [], ◌∷◌, Bool, true, false, cond, Option, None, Some, refl}
use Rattle.std.specs.List.{list_all, list_any}
use Rattle.std.specs.Option.{option_map, option_or}
use Rattle.std.proofs.lemmas.Bool.{and_from, not-false}
use Rattle.qc_terms.specs.declared.state.Order.{Order}
use Rattle.qc_descr.specs.declared.coding.Coding.{Coding}
use Rattle.qc_descr.specs.declared.sketch.Sketch.{Sketch}
use Rattle.qc_descr.specs.Coding.{bytes_differ, memory_bytes}
use Rattle.qc_descr.specs.CodingFaults.{Operands, first_overlap, is_covering, is_several, overlap_with, sketch_fault, sketches_fault}
use Rattle.qc_descr.specs.Valid.{all_differ}

-- a test that passes, where its failure would give something
pub none_if : {A : Type 0} (test : Bool) (more : Option A) (found : A) → cond test more (Some found) ≡ None → (test ≡ true) × (more ≡ None)
none_if true more found h = (refl, h)
none_if false more found h = let some : Some found ≡ None = h in absurd cc

-- a test that fails, where its success would give something
pub none_unless : {A : Type 0} (test : Bool) (more : Option A) (found : A) → cond test (Some found) more ≡ None → (test ≡ false) × (more ≡ None)
none_unless true more found h = let some : Some found ≡ None = h in absurd cc
none_unless false more found h = (refl, h)

-- neither of two is there
pub neither : {A : Type 0} (first second : Option A) → option_or first second ≡ None → (first ≡ None) × (second ≡ None)
neither None second h = (refl, h)
neither (Some found) second h = let some : Some found ≡ None = h in absurd cc

-- no value comes from none
pub none_mapped : {A B : Type 0} (f : A → B) (given : Option A) → option_map f given ≡ None → given ≡ None
none_mapped f None h = refl
none_mapped f (Some found) h = let some : Some (f found) ≡ None = h in absurd cc

-- an alternative without a fault
pub record IsFaultless (o : Operands) (s : Sketch) : Type 0 where
  pub fit : s.misfit ≡ false
  pub covering : is_covering o s ≡ true
  pub once : list_any is_several s.claims ≡ false

-- an alternative in which no fault is found
pub faultless_sketch : (o : Operands) (number : ℕ) (s : Sketch) → sketch_fault o number s ≡ None → IsFaultless o s
unfolding sketch_fault
faultless_sketch o number s h =
    let suits = none_unless _ _ _ h in
    let fits = none_unless _ _ _ suits.1 in
    let covers = none_unless _ _ _ fits.1 in
    let twice = none_unless _ _ _ covers.1 in
    record { fit = fits.0; covering = not-false _ covers.0; once = twice.0 }

-- an operation has just one alternative, without a fault
pub record HasOne (o : Operands) (ss : List Sketch) : Type 0 where
  pub one : Sketch
  pub only : ss ≡ one ∷ []
  pub faultless : IsFaultless o one

-- an operation in which no fault is found
pub one_sketch : (o : Operands) (number : ℕ) (ss : List Sketch) → sketches_fault o number ss ≡ None → HasOne o ss
one_sketch o number [] h = absurd cc
one_sketch o number (s ∷ []) h = record { one = s; only = refl; faultless = faultless_sketch o number s h }
one_sketch o number (s ∷ t ∷ more) h = absurd cc

-- codings of which none overlaps with this one
no_overlap_with : (order : Order) (a b : ℕ) (c : Coding) (cs : List Coding) → overlap_with order a c b cs ≡ None →
    list_all (λ other. bytes_differ (memory_bytes order c) (memory_bytes order other)) cs ≡ true
no_overlap_with order a b c [] h = refl
no_overlap_with order a b c (x ∷ cs) h =
    let parts = none_if _ _ _ h in
    and_from _ _ parts.0 (no_overlap_with order a (suc b) c cs parts.1)

-- codings without an overlap differ
pub no_overlap : (order : Order) (a : ℕ) (cs : List Coding) → first_overlap order a cs ≡ None → all_differ order cs ≡ true
no_overlap order a [] h = refl
no_overlap order a (c ∷ cs) h =
    let parts = neither _ _ h in
    and_from _ _ (no_overlap_with order a (suc a) c cs parts.0) (no_overlap order (suc a) cs parts.1)
