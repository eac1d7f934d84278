-- The lines that the program puts.
use Rattle.std.specs.Prelude.{ℕ, List, [], ◌∷◌, ◌++◌, length, map, codes, Option, Some}
use Rattle.std.specs.Fmt.{decimal}
use Rattle.qc_terms.specs.declared.image.Image.{Image}
use Rattle.qc_terms.specs.declared.state.Event.{Event}
use Rattle.qc_terms.specs.declared.state.Event.TheVariants.{Ended, Trapped}
use Rattle.qc_terms.specs.Observation.{Observation}
use Rattle.qc_descr.specs.declared.description.Description.{Description}
use Rattle.qc_descr.specs.declared.faults.DescrFault.{DescrFault}
use Rattle.qc_descr.specs.declared.faults.DescrFault.TheVariants.{Uncovered, Overlap, FieldRange, BadLayout}
use Rattle.qc_descr.specs.declared.faults.Part.{Part}
use Rattle.qc_descr.specs.declared.faults.Part.TheVariants as part
use Rattle.qc_facts.specs.declared.faults.WidthFault.{WidthFault}
use Rattle.qc_facts.specs.declared.faults.WidthFault.TheVariants as width
use Rattle.qc_join.specs.declared.faults.JoinFault.{JoinFault}
use Rattle.qc_join.specs.declared.faults.JoinFault.TheVariants as join
use Rattle.qc_core.specs.declared.answer.Fault.{Fault}
use Rattle.qc_core.specs.declared.answer.Fault.TheVariants.{TooLong, BadByte, Syntax, TooDeep, Names, Join, BadImage, BadInput, NotYet}

-- the line of an image that was compiled
abbrev pub compiled_line : Image → List ℕ
compiled_line image =
    codes "compiled " ++ (decimal (length image.code) ++ (codes " bytes of code, "
    ++ (decimal (length image.initial) ++ (codes " bytes of data" ++ 10 ∷ []))))

-- the line of a description that was checked
abbrev pub checked_line : Description → List ℕ
checked_line d = d.name ++ (codes ": " ++ (decimal (length d.instructions) ++ (codes " instructions" ++ 10 ∷ [])))

-- a line of a text and one, two or three numbers, with a blank before each
abbrev pub line_of_one : List ℕ → ℕ → List ℕ
line_of_one text a = text ++ (codes " " ++ (decimal a ++ 10 ∷ []))

abbrev pub line_of_two : List ℕ → ℕ → ℕ → List ℕ
line_of_two text a b = text ++ (codes " " ++ (decimal a ++ (codes " " ++ (decimal b ++ 10 ∷ []))))

abbrev pub line_of_three : List ℕ → ℕ → ℕ → ℕ → List ℕ
line_of_three text a b c =
    text ++ (codes " " ++ (decimal a ++ (codes " " ++ (decimal b ++ (codes " " ++ (decimal c ++ 10 ∷ []))))))

abbrev pub part_name : Part → List ℕ
part_name part.Word = codes "Word"
part_name part.Memory = codes "Memory"
part_name part.Code = codes "Code"
part_name part.Data = codes "Data"
part_name part.Align = codes "Align"
part_name part.SlotBits = codes "SlotBits"
part_name part.Frame = codes "Frame"
part_name part.Link = codes "Link"
part_name part.Zero = codes "Zero"
part_name part.Allocatable = codes "Allocatable"
part_name part.Flags = codes "Flags"

-- the line of a fault of a machine's names and widths
abbrev pub names_line : WidthFault → List ℕ
names_line (width.UnknownName token) = line_of_one (codes "refused: UnknownName") token
names_line (width.TwiceNamed token) = line_of_one (codes "refused: TwiceNamed") token
names_line (width.WidthClash token found wanted) = line_of_three (codes "refused: WidthClash") token found wanted
names_line (width.TooMany token limit) = line_of_two (codes "refused: TooMany") token limit

-- the line of a fault of a description
abbrev pub description_line : DescrFault → List ℕ
description_line (Uncovered instruction) = line_of_one (codes "refused: Uncovered") instruction
description_line (Overlap a b) = line_of_two (codes "refused: Overlap") a b
description_line (FieldRange instruction) = line_of_one (codes "refused: FieldRange") instruction
description_line (BadLayout p) = codes "refused: BadLayout " ++ (part_name p ++ 10 ∷ [])

-- the line of a fault of a coding and its machine
abbrev pub join_line : JoinFault → List ℕ
join_line (join.UnknownName token) = line_of_one (codes "refused: UnknownName") token
join_line (join.TwiceNamed token) = line_of_one (codes "refused: TwiceNamed") token
join_line (join.Descr fault) = description_line fault

-- the line of a refusal names the innermost fault, and what it keeps
abbrev pub refusal_line : Fault → List ℕ
refusal_line (TooLong file) = line_of_one (codes "refused: TooLong") file
refusal_line (BadByte file at) = line_of_two (codes "refused: BadByte") file at
refusal_line (Syntax file token) = line_of_two (codes "refused: Syntax") file token
refusal_line (TooDeep file token) = line_of_two (codes "refused: TooDeep") file token
refusal_line (Names fault) = names_line fault
refusal_line (Join fault) = join_line fault
refusal_line (BadImage at) = line_of_one (codes "refused: BadImage") at
refusal_line (BadInput at) = line_of_one (codes "refused: BadInput") at
refusal_line (NotYet form) = line_of_one (codes "refused: NotYet") form

-- the line of a word that was put out
abbrev pub word_line : ℕ → List ℕ
word_line word = decimal word ++ 10 ∷ []

-- the line of the end of a run, or of one that goes on
abbrev pub ending_line : Option Event → List ℕ
ending_line (Some (Ended code)) = codes "ended " ++ (decimal code ++ 10 ∷ [])
ending_line (Some (Trapped code)) = codes "trapped " ++ (decimal code ++ 10 ∷ [])
ending_line _ = codes "running" ++ 10 ∷ []

-- the lines of words that were put out
abbrev pub word_lines : List ℕ → List (List ℕ)
word_lines words = map word_line words

-- the lines of what a run has shown: one for each word, and then one that tells how it stands
abbrev pub run_lines : Observation → List (List ℕ)
run_lines seen = word_lines seen.output ++ ending_line seen.ending ∷ []
