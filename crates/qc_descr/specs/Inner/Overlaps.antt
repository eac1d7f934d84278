-- What is wrong with parts before overlaps are looked for, and what codings have then: bytes in memory.
use Rattle.std.specs.Prelude.{◌≡◌, ◌≤◌, length, sum, IsTrue, Option}
use Rattle.std.specs.List.{list_all}
use Rattle.std.specs.Option.{option_map, option_or}
use Rattle.qc_descr.specs.declared.coding.Coding.{Coding}
use Rattle.qc_descr.specs.declared.faults.DescrFault.{DescrFault}
use Rattle.qc_descr.specs.declared.faults.DescrFault.TheVariants.{BadLayout}
use Rattle.qc_descr.specs.declared.sketch.Parts.{Parts}
use Rattle.qc_descr.specs.CodingFaults.{operations_fault}
use Rattle.qc_descr.specs.Layout.{unfit_part}
use Rattle.qc_descr.specs.Parts.{word_of}
use Rattle.qc_descr.specs.Valid.{is_token}

-- at most 4 tokens of fitting sizes, with each of their bits
pub record HasBytes (c : Coding) : Type 0 where
  pub few : length c.tokens ≤ 4
  pub tokens : IsTrue (list_all is_token c.tokens)
  pub bits : length c.bits ≡ sum c.tokens

-- the fault of the layout, or else that of the first operation that isn't well coded
abbrev pub own_fault : Parts → Option DescrFault
own_fault p =
    option_or (option_map BadLayout (unfit_part p)) (operations_fault (word_of p.given) p.spaces 0 p.operations p.sketches)
