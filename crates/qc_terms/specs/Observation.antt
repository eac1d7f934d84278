-- What can be seen of a run, and when a run has shown no more than another.
use Rattle.std.specs.Prelude.{ℕ, ◌≡◌, List, [], ◌∷◌, ◌++◌, Option, None, Some}
use Rattle.qc_terms.specs.declared.state.Event.{Event}
use Rattle.qc_terms.specs.declared.state.Event.TheVariants.{Quiet, Out, Ended, Trapped}

-- the words put out so far, and the event with which the run ended, or none while it goes on
pub record Observation : Type 0 where
  pub output : List ℕ
  pub ending : Option Event

-- what an event adds to the output
abbrev pub words_of : Event → List ℕ
words_of Quiet = []
words_of (Out word) = word ∷ []
words_of (Ended code) = []
words_of (Trapped code) = []

-- the ending of a run that shows an event, if it ends with it
abbrev pub ending_of : Event → Option Event
ending_of Quiet = None
ending_of (Out word) = None
ending_of (Ended code) = Some (Ended code)
ending_of (Trapped code) = Some (Trapped code)

-- a run that has ended is matched by one with the same ending; one that goes on, by any
abbrev pub SameEnding : Option Event → Observation → Observation → Type 0
SameEnding None x y = Unit {0}
SameEnding (Some event) x y = (y.output ≡ x.output) × (y.ending ≡ x.ending)

-- y goes on with what x has put out; where x is over, y has put out no more, and is over in the same way.
pub record Below (x y : Observation) : Type 0 where
  pub output : (more : List ℕ) × (y.output ≡ x.output ++ more)
  pub ending : SameEnding x.ending x y
