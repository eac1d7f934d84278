-- The measures of a program: the slots of a procedure, and the bytes of a frame.
use Rattle.std.specs.Prelude.{ℕ, ◌+◌, ◌*◌, ◌/◌, max, if◌then◌else◌, List, [], ◌∷◌, length, map}
use Rattle.std.specs.List.{flat_map}
use Rattle.qc_cmm.specs.declared.syntax.BodyItem.{BodyItem}
use Rattle.qc_cmm.specs.declared.syntax.BodyItem.TheVariants as line
use Rattle.qc_cmm.specs.declared.syntax.Procedure.{Procedure}
use Rattle.qc_cmm.specs.declared.syntax.Part.{Part}
use Rattle.qc_cmm.specs.declared.syntax.Part.TheVariants as part_of
use Rattle.qc_cmm.specs.declared.syntax.Program.{Program}
use Rattle.qc_cmm.specs.Weight.{statement_weights}
use Rattle.qc_cmmtype.specs.Endings.{results_of}
use Rattle.qc_cmmtype.specs.Procedures.{is_main}
use Rattle.qc_cmmtype.specs.Scopes.{locals_of}

-- the greatest of some numbers, or 0
abbrev pub greatest : List ℕ → ℕ
greatest [] = 0
greatest (n ∷ ns) = max n (greatest ns)

abbrev pub item_weights : BodyItem → List ℕ
item_weights (line.Label name) = []
item_weights (line.Statement statement) = statement_weights statement

-- the weight of the heaviest statement of a procedure
abbrev pub heaviest : Procedure → ℕ
heaviest p = greatest (flat_map item_weights p.body)

-- A procedure has 8 slots, one for each parameter and variable, and 4 times the weight of its heaviest statement.
abbrev pub slots_of : Procedure → ℕ
slots_of p = 8 + length (locals_of p) + 4 * heaviest p

-- The words that go from a caller to a procedure or back are no more than its parameters or its results. Nobody's frame
-- has room for those of `main`.
abbrev pub passed : Procedure → ℕ
passed p = if is_main p then 0 else max (length p.params) (results_of p.body)

abbrev pub procedures_of_part : Part → List Procedure
procedures_of_part (part_of.Section token name data_of) = []
procedures_of_part (part_of.Procedure p) = p ∷ []

abbrev pub procedures_of : Program → List Procedure
procedures_of program = flat_map procedures_of_part program.parts

-- A frame has the greatest number of slots of a procedure, and the greatest number of words that are passed.
abbrev pub frame_bytes_of : ℕ → Program → ℕ
frame_bytes_of word program =
    word / 8 * (greatest (map slots_of (procedures_of program)) + greatest (map passed (procedures_of program)))
