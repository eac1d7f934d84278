-- What a run shows grows with its steps.
use Rattle.std.proofs.Common.{◌≡◌, ◌+◌, ◌-◌, ◌≤◌, ◌&&◌, ℕ, zero, suc, Bool, true, false, if◌then◌else◌, List, [], ◌∷◌, ◌++◌, length, Option, None, Some, slice_get, nat_le, refl, ap, sym, subst, arith, append-nil}
use Rattle.qc_terms.specs.declared.state.Event.{Event}
use Rattle.qc_terms.specs.Observation.{Below, SameEnding}
use Rattle.qc_terms.specs.Law.Runs.{below_itself, below_trans}
use Rattle.qc_cmmtype.specs.declared.scope.Ground.{Ground}
use Rattle.qc_programs.specs.Values.{Value, Values, Word, Traps, Words, TrapsFirst}
use Rattle.qc_programs.specs.Todo.{Action, Todo, Assign, Input, Output, Store, Label, Goto, Call, Return, Nothing, Do, If}
use Rattle.qc_programs.specs.Steps.{Activation, Bodies, Standing, does, enters, returns_to, seen_of, shown_after, state_after, step, step_from, stores, takes_from, takes_up, traps, values_in, value_in, with_value, with_values}

pub ended_stays : (g : Ground) (program : Bodies) (depth : ℕ) (s : Standing) (event : Event) → s.ending ≡ Some event →
    step g program depth s ≡ s
ended_stays g program depth s event ended = ap (λ e. step_from e g program depth s) ended

-- the output of a later state goes on with that of an earlier one
abbrev GoesOn : Standing → Standing → Type 0
GoesOn s t = (more : List ℕ) × (t.output ≡ s.output ++ more)

same : (s : Standing) → GoesOn s s
same s = ([], sym (append-nil s.output))

either : (s t u : Standing) (b : Bool) → GoesOn s t → GoesOn s u → GoesOn s (if b then t else u)
either s t u true first second = first
either s t u false first second = second

on_value : (s : Standing) (v : Value) (f : ℕ → Standing) → ((word : ℕ) → GoesOn s (f word)) → GoesOn s (with_value s v f)
on_value s (Word word) f goes = goes word
on_value s (Traps code) f goes = same s

on_values : (s : Standing) (vs : Values) (f : List ℕ → Standing) → ((words : List ℕ) → GoesOn s (f words)) → GoesOn s (with_values s vs f)
on_values s (Words words) f goes = goes words
on_values s (TrapsFirst code) f goes = same s

stored : (g : Ground) (s : Standing) (count address word : ℕ) (rest : Todo) → GoesOn s (stores g s count address word rest)
stored g s count address word rest =
    either s _ (traps s 1) (nat_le g.data_start address && nat_le (address + count) g.data_end) (same s) (same s)

taken : (s : Standing) (target : ℕ) (rest : Todo) (next : Option ℕ) → GoesOn s (takes_from s target rest next)
taken s target rest None = same s
taken s target rest (Some word) = same s

entering : (program : Bodies) (depth : ℕ) (s : Standing) (targets : List ℕ) (callee : ℕ) (rest : Todo) (words : List ℕ) →
    GoesOn s (enters program depth s targets callee rest words)
entering program depth s targets callee rest words =
    either s (traps s 3) _ (nat_le depth (suc (length s.waiting))) (same s) (same s)

returning : (s : Standing) (words : List ℕ) (waiting : List Activation) → GoesOn s (returns_to s words waiting)
returning s words [] = same s
returning s words (caller ∷ waiting) = same s

doing : (g : Ground) (program : Bodies) (depth : ℕ) (s : Standing) (action : Action) (rest : Todo) → GoesOn s (does g program depth s action rest)
doing g program depth s (Assign target value) rest = on_value s (value_in g s value) _ (λ word. same s)
doing g program depth s (Input target) rest = taken s target rest (slice_get s.input s.taken)
doing g program depth s (Output value) rest = on_value s (value_in g s value) _ (λ word. (word ∷ [], refl))
doing g program depth s (Store count address value) rest =
    on_value s (value_in g s address) _ (λ at. on_value s (value_in g s value) _ (λ word. stored g s count at word rest))
doing g program depth s (Label number) rest = same s
doing g program depth s (Goto label) rest = same s
doing g program depth s (Call targets callee args) rest =
    on_values s (values_in g s args) _ (entering program depth s targets callee rest)
doing g program depth s (Return results) rest = on_values s (values_in g s results) _ (λ words. returning s words s.waiting)

taking_up : (g : Ground) (program : Bodies) (depth : ℕ) (s : Standing) (todo : Todo) → GoesOn s (takes_up g program depth s todo)
taking_up g program depth s Nothing = same s
taking_up g program depth s (Do action rest) = doing g program depth s action rest
taking_up g program depth s (If condition block otherwise rest) = on_value s (value_in g s condition) _ (λ word. same s)

running_below : (s t : Standing) → s.ending ≡ None → GoesOn s t → Below (seen_of s) (seen_of t)
running_below s t running goes =
    record { output = goes; ending = subst (λ e. SameEnding e (seen_of s) (seen_of t)) (sym running) tt }

one_step : (g : Ground) (program : Bodies) (depth : ℕ) (s : Standing) → Below (seen_of s) (seen_of (step g program depth s))
one_step g program depth s = go s.ending refl
  where
    go : (ending : Option Event) → s.ending ≡ ending → Below (seen_of s) (seen_of (step_from ending g program depth s))
    go (Some event) is = below_itself (seen_of s)
    go None is = running_below s (takes_up g program depth s s.now.rest) is (taking_up g program depth s s.now.rest)

more_steps : (g : Ground) (program : Bodies) (depth : ℕ) (input : List ℕ) (m n : ℕ) →
    Below (shown_after g program depth input m) (shown_after g program depth input (m + n))
more_steps g program depth input m zero =
    subst (λ k. Below (shown_after g program depth input m) (shown_after g program depth input k)) (plus_zero m)
    (below_itself (shown_after g program depth input m))
  where
    plus_zero : (m : ℕ) → m ≡ m + 0
    plus_zero m = omega arith
more_steps g program depth input m (suc n) =
    subst (λ k. Below (shown_after g program depth input m) (shown_after g program depth input k)) (plus_suc m n)
    (below_trans (shown_after g program depth input m) (shown_after g program depth input (m + n))
    (shown_after g program depth input (suc (m + n))) (more_steps g program depth input m n)
    (one_step g program depth (state_after g program depth input (m + n))))
  where
    plus_suc : (m n : ℕ) → suc (m + n) ≡ m + suc n
    plus_suc m n = omega arith

pub shows_more : (g : Ground) (program : Bodies) (depth : ℕ) (input : List ℕ) (m n : ℕ) → m ≤ n →
    Below (shown_after g program depth input m) (shown_after g program depth input n)
shows_more g program depth input m n most =
    subst (λ k. Below (shown_after g program depth input m) (shown_after g program depth input k)) (the_sum m n most)
    (more_steps g program depth input m (n - m))
  where
    the_sum : (m n : ℕ) → m ≤ n → m + (n - m) ≡ n
    the_sum m n most = omega (arith, most)
