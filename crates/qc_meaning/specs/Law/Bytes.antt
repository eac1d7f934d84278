-- Memory after a store: its bytes stand at their addresses, and all others are as before.
use Rattle.std.proofs.Common.{◌≡◌, ◌∙◌, ◌+◌, ◌-◌, ◌/◌, ◌<◌, ◌≤◌, ◌⊎◌, ℕ, zero, suc, List, ◌++◌, length, take, drop, slice_index, inl, inr, refl, ap, sym, arith, length-append, length-drop, length-take}
use Rattle.std.proofs.lemmas.List.{get_or-append-add, get_or-drop, get_or-take, get_or_append_left, length-reverse}
use Rattle.qc_terms.specs.declared.state.Order.{Order}
use Rattle.qc_terms.specs.declared.state.Order.TheVariants.{Big, Little}
use Rattle.qc_terms.specs.Memory.{digits_of, in_order, store_of, with_bytes}

digits-length : (count n : ℕ) → length (digits_of count n) ≡ count
unfolding digits_of
digits-length zero n = refl
digits-length (suc count) n = ap suc (digits-length count (n / 256))

stored-length : (order : Order) (count word : ℕ) → length (in_order order (digits_of count word)) ≡ count
stored-length Little count word = digits-length count word
stored-length Big count word = length-reverse (digits_of count word) ∙ digits-length count word

front-length : (m : List ℕ) (address : ℕ) → address ≤ length m → length (take address m) ≡ address
front-length m address inside = omega (arith, inside, length-take address m)

-- ---- bytes put into memory

put-length : (m bs : List ℕ) (address : ℕ) → address + length bs ≤ length m → length (with_bytes m address bs) ≡ length m
put-length m bs address inside =
    omega (
      arith,
      length-append (take address m) (bs ++ drop (address + length bs) m),
      length-append bs (drop (address + length bs) m),
      front-length m address (omega (arith, inside)),
      length-drop (address + length bs) m,
      inside,
    )

before_put : (m bs : List ℕ) (address a : ℕ) → address + length bs ≤ length m → a < address → slice_index (with_bytes m address bs) a ≡ slice_index m a
before_put m bs address a inside less =
    get_or_append_left (take address m) (bs ++ drop (address + length bs) m) 0 a
    (omega (arith, less, front-length m address (omega (arith, inside))))
    ∙ get_or-take address m a 0 less

-- a place behind the front
behind : (m bs : List ℕ) (address n : ℕ) → address + length bs ≤ length m →
    slice_index (with_bytes m address bs) (address + n) ≡ slice_index (bs ++ drop (address + length bs) m) n
behind m bs address n inside =
    ap (λ k. slice_index (with_bytes m address bs) (k + n)) (sym (front-length m address (near address (length bs) (length m) inside)))
    ∙ get_or-append-add (take address m) (bs ++ drop (address + length bs) m) n 0
  where
    near : (a b c : ℕ) → a + b ≤ c → a ≤ c
    near a b c most = omega (arith, most)

inside_put : (m bs : List ℕ) (address n : ℕ) → address + length bs ≤ length m → n < length bs →
    slice_index (with_bytes m address bs) (address + n) ≡ slice_index bs n
inside_put m bs address n inside less =
    behind m bs address n inside ∙ get_or_append_left bs (drop (address + length bs) m) 0 n less

after_put : (m bs : List ℕ) (address n : ℕ) → address + length bs ≤ length m →
    slice_index (with_bytes m address bs) (address + (length bs + n)) ≡ slice_index m (address + (length bs + n))
after_put m bs address n inside =
    behind m bs address (length bs + n) inside
    ∙ get_or-append-add bs (drop (address + length bs) m) n 0
    ∙ get_or-drop (address + length bs) m n 0
    ∙ ap (slice_index m) (sum address (length bs) n)
  where
    sum : (a b c : ℕ) → (a + b) + c ≡ a + (b + c)
    sum a b c = omega arith

-- ---- stores

pub store-length : (order : Order) (m : List ℕ) (count address word : ℕ) → address + count ≤ length m →
    length (store_of order m count address word) ≡ length m
store-length order m count address word inside =
    put-length m (in_order order (digits_of count word)) address (omega (arith, inside, stored-length order count word))

-- a byte that isn't stored stays
pub store_other : (order : Order) (m : List ℕ) (count address word a : ℕ) → address + count ≤ length m → (a < address) ⊎ (address + count ≤ a) →
    slice_index (store_of order m count address word) a ≡ slice_index m a
store_other order m count address word a inside (inl before) =
    before_put m (in_order order (digits_of count word)) address a (omega (arith, inside, stored-length order count word)) before
store_other order m count address word a inside (inr later) =
    let bs = in_order order (digits_of count word) in
    let size : length bs ≡ count = stored-length order count word in
    let place : address + (length bs + (a - (address + count))) ≡ a = omega (arith, later, size) in
    ap (slice_index (store_of order m count address word)) (sym place)
    ∙ after_put m bs address (a - (address + count)) (omega (arith, inside, size))
    ∙ ap (slice_index m) place

-- a byte that is stored is one of the word's
pub store_inside : (order : Order) (m n : List ℕ) (count address word a : ℕ) → address + count ≤ length m → address + count ≤ length n →
    address ≤ a → a < address + count →
    slice_index (store_of order n count address word) a ≡ slice_index (store_of order m count address word) a
store_inside order m n count address word a in_m in_n least less =
    let bs = in_order order (digits_of count word) in
    let size : length bs ≡ count = stored-length order count word in
    let place : address + (a - address) ≡ a = omega (arith, least) in
    ap (slice_index (store_of order n count address word)) (sym place)
    ∙ inside_put n bs address (a - address) (omega (arith, in_n, size)) (omega (arith, least, less, size))
    ∙ sym (inside_put m bs address (a - address) (omega (arith, in_m, size)) (omega (arith, least, less, size)))
    ∙ ap (slice_index (store_of order m count address word)) place
