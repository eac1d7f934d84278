-- Writes of a word to a cell and of a word to the program counter, in either order, among writes to free cells.
use Rattle.std.proofs.Common.{◌≡◌, ◌∙◌, ◌⊎◌, ◌||◌, ℕ, List, [], ◌∷◌, ◌++◌, Bool, true, false, Option, Some, option_and_then, inl, inr, refl, sym, ap, subst}
use Rattle.std.specs.List.{list_any}
use Rattle.std.specs.Option.{option_map}
use Rattle.qc_terms.specs.declared.state.Event.TheVariants.{Quiet}
use Rattle.qc_terms.specs.declared.state.State.{State}
use Rattle.qc_terms.specs.declared.term.Effect.{Effect}
use Rattle.qc_terms.specs.Effects.{ToCell, ToCounter, ToHalt, ToMemory, ToOutput, ToTrap, Write, after_write, after_writes, effect_has_input, event_of, writes_of, writes_of_effect}
use Rattle.qc_terms.specs.State.{is_zero_cell}
use Rattle.qc_soundness.proofs.LineEffects.{WritesFree}
use Rattle.qc_soundness.proofs.Patterns.{Reading}
use Rattle.qc_soundness.proofs.RootRuns.{facts_stay}
use Rattle.qc_soundness.proofs.RootStates.{AreNear, free_near, write_near}
use Rattle.qc_soundness.proofs.Writes.{AreFree, IsSpared}

-- a cell gets a word, and the program counter another
pub record Call : Type 0 where
  pub space : ℕ
  pub index : ℕ
  pub word : ℕ
  pub target : ℕ

-- the writes, of which the link's and the counter's may be there
abbrev pub CallWrites : (ℕ → ℕ → Type 0) → Call → Bool → Bool → List Write → Type 0
CallWrites F c link counter [] = (link ≡ false) × (counter ≡ false)
CallWrites F c link counter (ToCell x y v ∷ ws) =
    (F x y × CallWrites F c link counter ws) ⊎ ((link ≡ true) × (ToCell x y v ≡ ToCell c.space c.index c.word) × CallWrites F c false counter ws)
CallWrites F c link counter (ToCounter v ∷ ws) = (counter ≡ true) × (v ≡ c.target) × CallWrites F c link false ws
CallWrites F c link counter (w ∷ ws) = ⊥

pub call_quiet : (F : ℕ → ℕ → Type 0) (c : Call) (link counter : Bool) (ws : List Write) → CallWrites F c link counter ws → event_of ws ≡ Quiet
call_quiet F c link counter [] are = refl
call_quiet F c link counter (ToCell x y v ∷ ws) (inl free) = call_quiet F c link counter ws free.1
call_quiet F c link counter (ToCell x y v ∷ ws) (inr mine) = call_quiet F c false counter ws mine.2
call_quiet F c link counter (ToCounter v ∷ ws) are = call_quiet F c link false ws are.2
call_quiet F c link counter (ToMemory address count v ∷ ws) are = absurd are
call_quiet F c link counter (ToOutput v ∷ ws) are = absurd are
call_quiet F c link counter (ToHalt v ∷ ws) are = absurd are
call_quiet F c link counter (ToTrap v ∷ ws) are = absurd are

-- what the tile does of it
abbrev pub linked : Call → Bool → State → State
linked c true s = after_write (ToCell c.space c.index c.word) s
linked c false s = s

abbrev pub counted : Call → Bool → State → State
counted c true s = record s { pc = c.target }
counted c false s = s

swapped : (c : Call) (link : Bool) (s : State) → linked c link (record s { pc = c.target }) ≡ record (linked c link s) { pc = c.target }
swapped c false s = refl
swapped c true s = go (is_zero_cell s.facts.zero c.space c.index) refl
  where
    go : (z : Bool) → is_zero_cell s.facts.zero c.space c.index ≡ z →
        after_write (ToCell c.space c.index c.word) (record s { pc = c.target }) ≡ record (after_write (ToCell c.space c.index c.word) s) { pc = c.target }
    go true e = rw e refl
    go false e = rw e refl

pub call_near : (P F : ℕ → ℕ → Type 0) (c : Call) (link counter : Bool) (ws : List Write) (s u : State) →
    ((v : State) → v.facts ≡ u.facts → (space index other number : ℕ) → P space index → F other number → IsSpared v space index other number) → CallWrites F c link counter ws →
    AreNear P s u → AreNear P (counted c counter (linked c link s)) (after_writes ws u)
call_near P F c link counter [] s u spared are near =
    subst (λ l. AreNear P (counted c counter (linked c l s)) u) (sym are.0) (subst (λ k. AreNear P (counted c k s) u) (sym are.1) near)
call_near P F c link counter (ToCell x y v ∷ ws) s u spared (inl free) near =
    let next : State = after_write (ToCell x y v) u in
    call_near P F c link counter ws s next
    (λ w facts. spared w (facts ∙ facts_stay (ToCell x y v ∷ []) u)) free.1
    (free_near P F (ToCell x y v ∷ []) s u (spared u refl) (free.0, tt) near)
call_near P F c link counter (ToCell x y v ∷ ws) s u spared (inr mine) near =
    let next : State = after_write (ToCell x y v) u in
    let one : AreNear P (after_write (ToCell c.space c.index c.word) s) next =
    subst (λ (w : Write). AreNear P (after_write w s) next) mine.1 (write_near P (ToCell x y v) s u near) in
    subst (λ l. AreNear P (counted c counter (linked c l s)) (after_writes ws next)) (sym mine.0)
    (call_near P F c false counter ws (after_write (ToCell c.space c.index c.word) s) next (λ w facts. spared w (facts ∙ facts_stay (ToCell x y v ∷ []) u)) mine.2 one)
call_near P F c link counter (ToCounter v ∷ ws) s u spared are near =
    let next : State = after_write (ToCounter v) u in
    let one : AreNear P (record s { pc = c.target }) next = subst (λ n. AreNear P (record s { pc = n }) next) are.1 (write_near P (ToCounter v) s u near) in
    let rest : AreNear P (linked c link (record s { pc = c.target })) (after_writes ws next) =
    call_near P F c link false ws (record s { pc = c.target }) next (λ w facts. spared w facts) are.2 one in
    subst (λ k. AreNear P (counted c k (linked c link s)) (after_writes ws next)) (sym are.0)
    (subst (λ (x : State). AreNear P x (after_writes ws next)) (swapped c link s) rest)
call_near P F c link counter (ToMemory address count v ∷ ws) s u spared are near = absurd are
call_near P F c link counter (ToOutput v ∷ ws) s u spared are near = absurd are
call_near P F c link counter (ToHalt v ∷ ws) s u spared are near = absurd are
call_near P F c link counter (ToTrap v ∷ ws) s u spared are near = absurd are

-- ---- effects

-- the effects write so, and read no input
pub record CallEffects (F : ℕ → ℕ → Type 0) (c : Call) (link counter : Bool) (es : List Effect) (r : Reading) : Type 0 where
  pub writes : List Write
  pub are : writes_of es r.operands r.after r.state ≡ Some writes
  pub call : CallWrites F c link counter writes
  pub quiet : list_any effect_has_input es ≡ false

free_before : (F : ℕ → ℕ → Type 0) (c : Call) (link counter : Bool) (ws us : List Write) → AreFree F ws → CallWrites F c link counter us → CallWrites F c link counter (ws ++ us)
free_before F c link counter [] us free call = call
free_before F c link counter (ToCell x y v ∷ ws) us free call = inl (free.0, free_before F c link counter ws us free.1 call)
free_before F c link counter (ToCounter v ∷ ws) us free call = absurd free
free_before F c link counter (ToMemory address count v ∷ ws) us free call = absurd free
free_before F c link counter (ToOutput v ∷ ws) us free call = absurd free
free_before F c link counter (ToHalt v ∷ ws) us free call = absurd free
free_before F c link counter (ToTrap v ∷ ws) us free call = absurd free

-- one effect more, with these writes
one_more : (F : ℕ → ℕ → Type 0) (c : Call) (link counter more further : Bool) (e : Effect) (es : List Effect) (r : Reading) (ws : List Write) → writes_of_effect e r.operands r.after r.state ≡ Some ws →
    effect_has_input e ≡ false → (rest : CallEffects F c link counter es r) → CallWrites F c more further (ws ++ rest.writes) → CallEffects F c more further (e ∷ es) r
one_more F c link counter more further e es r ws are quiet rest call = record {
  writes = ws ++ rest.writes;
  are = ap (λ (o : Option (List Write)). option_and_then (λ (first : List Write). option_map (λ (others : List Write). first ++ others) (writes_of es r.operands r.after r.state)) o) are
      ∙ ap (λ (o : Option (List Write)). option_map (λ (others : List Write). ws ++ others) o) rest.are;
  call = call;
  quiet = ap (λ b. b || list_any effect_has_input es) quiet ∙ rest.quiet;
}

pub free_effect_more : (F : ℕ → ℕ → Type 0) (c : Call) (link counter : Bool) (e : Effect) (es : List Effect) (r : Reading) → WritesFree F e r → CallEffects F c link counter es r → CallEffects F c link counter (e ∷ es) r
free_effect_more F c link counter e es r free rest =
    one_more F c link counter link counter e es r free.writes free.are free.quiet rest (free_before F c link counter free.writes rest.writes free.free rest.call)

pub link_effect_more : (F : ℕ → ℕ → Type 0) (c : Call) (counter : Bool) (e : Effect) (es : List Effect) (r : Reading) → writes_of_effect e r.operands r.after r.state ≡ Some (ToCell c.space c.index c.word ∷ []) →
    effect_has_input e ≡ false → CallEffects F c false counter es r → CallEffects F c true counter (e ∷ es) r
link_effect_more F c counter e es r are quiet rest = one_more F c false counter true counter e es r (ToCell c.space c.index c.word ∷ []) are quiet rest (inr (refl, refl, rest.call))

pub counter_effect_more : (F : ℕ → ℕ → Type 0) (c : Call) (link : Bool) (e : Effect) (es : List Effect) (r : Reading) → writes_of_effect e r.operands r.after r.state ≡ Some (ToCounter c.target ∷ []) →
    effect_has_input e ≡ false → CallEffects F c link false es r → CallEffects F c link true (e ∷ es) r
counter_effect_more F c link e es r are quiet rest = one_more F c link false link true e es r (ToCounter c.target ∷ []) are quiet rest (refl, refl, rest.call)
