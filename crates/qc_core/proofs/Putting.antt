-- Lines that are put one by one.
use Rattle.std.proofs.Common.{◌≡◌, inl, inr, ℕ, List, [], ◌∷◌, ◌++◌, refl, sym, ap, subst, ◌∙◌, arith, append_assoc, append-nil, ⊎_elim}
use Rattle.std.specs.Prelude.{Option, None, Some}
use Rattle.std.specs.Option.{option_map}
use Rattle.qc_outside.specs.FaultCounts.{Rose}
use Rattle.qc_outside.specs.OutputPieces.{AddsPart}
use Rattle.qc_core.specs.declared.answer.Status.{Status}
use Rattle.qc_core.specs.declared.answer.Status.TheVariants.{OutFault, NoMemory}
use Rattle.qc_core.specs.Inner.Reading.{Puts, StopsToPut}
use Rattle.qc_core.specs.Puts.{ArePut, FailsToPut, Output, StopsPutting}

-- two lists of pieces, one after the other
options_twice : (a b : List (List ℕ)) (old mid new : Option (List (List ℕ))) → mid ≡ option_map (λ xs. xs ++ a) old → new ≡ option_map (λ xs. xs ++ b) mid → new ≡ option_map (λ xs. xs ++ (a ++ b)) old
options_twice a b None mid new p q = q ∙ ap (λ o. option_map (λ xs. xs ++ b) o) p
options_twice a b (Some pieces) mid new p q = q ∙ ap (λ o. option_map (λ xs. xs ++ b) o) p ∙ ap (λ xs. Some xs) (append_assoc pieces a b)

pub put_twice : (a b : List (List ℕ)) (old mid new : Output) → ArePut a old mid → ArePut b mid new → ArePut (a ++ b) old new
put_twice a b old mid new p q = options_twice a b old.pieces mid.pieces new.pieces p q

pub option_same : (o : Option (List (List ℕ))) → o ≡ option_map (λ xs. xs ++ []) o
option_same None = refl
option_same (Some pieces) = ap (λ xs. Some xs) (sym (append-nil pieces))

-- lines that aren't all put, after others and before others
pub stops_after : (a b : List (List ℕ)) (old mid new : Output) (status : Status) → ArePut a old mid → mid.faults ≡ old.faults → StopsToPut b mid new status → StopsToPut (a ++ b) old new status
stops_after a b old mid new OutFault p same stops = record {
  rose = omega (arith, stops.rose, same);
  before = a ++ stops.before;
  front = stops.front;
  rest = stops.rest;
  after = stops.after;
  lines_are = ap (λ xs. a ++ xs) stops.lines_are ∙ sym (append_assoc a stops.before ((stops.front ++ stops.rest) ∷ stops.after));
  put = ⊎_elim
      (λ q. inl (put_twice a stops.before old mid new p q))
      (λ q. inr (subst (λ ls. ArePut ls old new) (sym (append_assoc a stops.before (stops.front ∷ []))) (put_twice a (stops.before ++ stops.front ∷ []) old mid new p q)))
      stops.put;
}
stops_after a b old mid new NoMemory p same stops = record {
  before = a ++ stops.before;
  line = stops.line;
  after = stops.after;
  lines_are = ap (λ xs. a ++ xs) stops.lines_are ∙ sym (append_assoc a stops.before (stops.line ∷ stops.after));
  put = put_twice a stops.before old mid new p stops.put;
}
stops_after a b old mid new status p same stops = absurd stops

pub stops_before : (a b : List (List ℕ)) (old new : Output) (status : Status) → StopsToPut a old new status → StopsToPut (a ++ b) old new status
stops_before a b old new OutFault stops = record {
  rose = stops.rose;
  before = stops.before;
  front = stops.front;
  rest = stops.rest;
  after = stops.after ++ b;
  lines_are = ap (λ xs. xs ++ b) stops.lines_are ∙ append_assoc stops.before ((stops.front ++ stops.rest) ∷ stops.after) b;
  put = stops.put;
}
stops_before a b old new NoMemory stops = record {
  before = stops.before;
  line = stops.line;
  after = stops.after ++ b;
  lines_are = ap (λ xs. xs ++ b) stops.lines_are ∙ append_assoc stops.before (stops.line ∷ stops.after) b;
  put = stops.put;
}
stops_before a b old new status stops = absurd stops

pub stop_puts : (lines : List (List ℕ)) (old new : Output) (status : Status) → StopsToPut lines old new status → Puts lines old new status
stop_puts lines old new OutFault stops = stops
stop_puts lines old new NoMemory stops = stops
stop_puts lines old new status stops = absurd stops

-- nothing of some lines is put, where memory is wanting for the first one
pub none_put : (line : List ℕ) (lines : List (List ℕ)) (old : Output) → StopsPutting (line ∷ lines) old old
none_put line lines old = record { before = []; line = line; after = lines; lines_are = refl; put = option_same old.pieces }

pub none_of_run : (lines : List (List ℕ)) (last : List ℕ) (old : Output) → StopsPutting (lines ++ last ∷ []) old old
none_of_run [] last old = none_put last [] old
none_of_run (line ∷ lines) last old = none_put line (lines ++ last ∷ []) old

-- one put that failed, or for which memory was wanting
pub put_failed : (line : List ℕ) (old new : Output) → Rose old.faults new.faults → AddsPart line old.pieces new.pieces → FailsToPut (line ∷ []) old new
put_failed line old new rose (inl same) = record {
  rose = rose;
  before = [];
  front = [];
  rest = line;
  after = [];
  lines_are = refl;
  put = inl (same ∙ option_same old.pieces);
}
put_failed line old new rose (inr (part, more, is, adds)) = record {
  rose = rose;
  before = [];
  front = part;
  rest = more;
  after = [];
  lines_are = ap (λ l. l ∷ []) is;
  put = inr adds;
}

pub put_unput : (line : List ℕ) (old new : Output) → new.pieces ≡ old.pieces → StopsPutting (line ∷ []) old new
put_unput line old new same =
    record { before = []; line = line; after = []; lines_are = refl; put = same ∙ option_same old.pieces }
