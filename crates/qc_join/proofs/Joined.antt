-- Answers to a machine and a text.
use Rattle.std.specs.Prelude.{ℕ, ◌≡◌, List, map, Option, None, Some}
use Rattle.std.specs.Option.{option_map}
use Rattle.std.specs.declared.result.Result.{Result}
use Rattle.std.specs.declared.result.Result.TheVariants.{Ok, Err}
use Rattle.std.proofs.Common.{ap, sym, ◌∙◌}
use Rattle.qc_descr.specs.declared.description.Description.{Description}
use Rattle.qc_descr.specs.declared.parts.Operation.{Operation}
use Rattle.qc_sled.specs.declared.syntax.RawCoding.{RawCoding}
use Rattle.qc_join.specs.declared.faults.JoinEnd.{JoinEnd}
use Rattle.qc_join.specs.declared.faults.JoinEnd.TheVariants.{Fault, NoMemory}
use Rattle.qc_join.specs.declared.faults.JoinFault.TheVariants.{UnknownName, TwiceNamed, Descr}
use Rattle.qc_join.specs.declared.faults.NameFault.{NameFault}
use Rattle.qc_join.specs.declared.faults.NameFault.TheVariants.{Unknown, Twice}
use Rattle.qc_widths.specs.declared.machine.Machine.{Machine}
use Rattle.qc_join.specs.Faults.{fault_of_name, reported}
use Rattle.qc_join.specs.Joining.{Joins, JoinsParts, name_fault, parts_of}
use Rattle.qc_join.specs.Names.{name_faults}

-- where no name is at fault the answer is that to the parts
pub joined : (machine : Machine) (raw : RawCoding) (answer : Result Description JoinEnd) →
    name_fault machine raw ≡ None → JoinsParts (parts_of machine raw.items) answer → Joins machine raw answer
joined machine raw (Ok description) none h = (none, h.0, h.1)
joined machine raw (Err (Fault (Descr fault))) none h = (none, h)
joined machine raw (Err (Fault (UnknownName token))) none h = absurd h
joined machine raw (Err (Fault (TwiceNamed token))) none h = absurd h
joined machine raw (Err NoMemory) none h = tt

-- a fault among names is the answer
pub refused : (machine : Machine) (raw : RawCoding) (found : NameFault) →
    name_fault machine raw ≡ Some (fault_of_name found) → Joins machine raw (Err (Fault (fault_of_name found)))
refused machine raw (Unknown token) h = h
refused machine raw (Twice token) h = h
