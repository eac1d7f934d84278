-- What is kept of signatures: of tokens the least, and of events the first and the least of those after it.
use Rattle.std.specs.Prelude.{ℕ, min, true, false, List, [], ◌∷◌, map, Option, None, Some}
use Rattle.std.specs.List.{flat_map}
use Rattle.qc_lrtl.specs.declared.syntax.Effect.{Effect}
use Rattle.qc_lrtl.specs.declared.syntax.Param.{Param}
use Rattle.qc_resolve.specs.declared.signatures.Events.{Events}
use Rattle.qc_resolve.specs.declared.signatures.Signature as kept
use Rattle.qc_resolve.specs.Scopes.{Signature, Names}
use Rattle.qc_resolve.specs.Effects.{effect_events}
use Rattle.qc_resolve.specs.Declarations.{arity_of, targets_of_param}

-- the lesser of two numbers that may be there
abbrev pub lesser : Option ℕ → Option ℕ → Option ℕ
lesser None b = b
lesser (Some a) None = Some a
lesser (Some a) (Some b) = Some (min a b)

-- the least number of a list
unfoldable pub least : List ℕ → Option ℕ
least [] = None
least (x ∷ xs) = lesser (Some x) (least xs)

-- the first token of a list, and the least of those after it
unfoldable pub events_in : List ℕ → Events
events_in [] = record { first = None; later = None }
events_in (token ∷ tokens) = record { first = Some token; later = least tokens }

-- those of two lists, one after the other
abbrev pub events_of_both : Option ℕ → Events → Events → Events
events_of_both None events more = more
events_of_both (Some token) events more =
    record { first = Some token; later = lesser events.later (lesser more.first more.later) }

abbrev pub joined_events : Events → Events → Events
joined_events events more = events_of_both events.first events more

-- what is kept of a signature
abbrev pub summary : Signature → kept.Signature
summary s = record {
  params = s.params;
  effects = s.effects;
  targets = map least s.targets;
  events = events_in s.events;
}

-- a token, if there is one, as a list
abbrev pub at_most_one : Option ℕ → List ℕ
at_most_one None = []
at_most_one (Some token) = token ∷ []

-- a signature of which this is kept, but for its name and its events
abbrev pub signature_like : kept.Signature → Signature
signature_like s = record {
  name = [];
  params = s.params;
  effects = s.effects;
  targets = map at_most_one s.targets;
  events = [];
}

-- what is kept of the signature of a function with these parameters, and of named effects
abbrev pub kept_of_function : List Param → kept.Signature
kept_of_function params = record {
  params = map arity_of params;
  effects = false;
  targets = [];
  events = events_in [];
}

abbrev pub kept_of_effects : Names → List Param → List Effect → kept.Signature
kept_of_effects names params body = record {
  params = map arity_of params;
  effects = true;
  targets = map least (map (targets_of_param names body) params);
  events = events_in (flat_map (effect_events names) body);
}
