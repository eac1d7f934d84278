use Rattle.qc_names.specs.Law.Tables.{index-any, index-within, index-is, index-first}
use Rattle.qc_names.proofs.laws.first_places_are_first.Goals as goal

pub returns-clause-found : goal.returns-clause-found
returns-clause-found c = index-any

pub returns-clause-within : goal.returns-clause-within
returns-clause-within c = index-within

pub returns-clause-stands : goal.returns-clause-stands
returns-clause-stands c = index-is

pub returns-clause-first : goal.returns-clause-first
returns-clause-first c = index-first
