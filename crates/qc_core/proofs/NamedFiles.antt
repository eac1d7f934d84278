-- Which of the files that a command names it reads, and that it writes the one that is left.
use Rattle.std.proofs.Common.{arith, ◌≡◌, ◌∙◌, ap, sym, subst, refl, ℕ, ◌≤◌, List, Some, IfSome}
use Rattle.qc_command.specs.Command.{file_count}
use Rattle.qc_command.specs.declared.words.Command.{Command}
use Rattle.qc_command.specs.declared.words.Command.TheVariants.{Check, Compile, Run}
use Rattle.qc_constants.specs.Code.{image_of}
use Rattle.qc_layout.specs.ImageFile.{image_bytes}
use Rattle.qc_outside.specs.Files.{name_of}
use Rattle.qc_core.specs.declared.answer.Fault.{Fault}
use Rattle.qc_core.specs.Answer.{NamesUnread, task_of}
use Rattle.qc_core.specs.Task.{Product}

pub reads_named : (command : Command) (names : List (List ℕ)) (file : ℕ) → (task_of command names).reading.Reads file →
    (1 ≤ file) × (file ≤ file_count command)
reads_named Check names file reads = grind arith
reads_named Compile names file reads = grind arith
reads_named (Run steps) names file reads = grind arith

-- of the five files of `compile` the last one is left
fifth : (names : List (List ℕ)) (file : ℕ) → NamesUnread Compile names file → file ≡ 5
fifth names file unread = grind (arith, unread.0, unread.1, unread.2)

pub unread_is_written : (command : Command) (names : List (List ℕ)) (file : ℕ) (x : (task_of command names).Input) (product : Product) →
    NamesUnread command names file → (task_of command names).Makes x product →
    (bytes : List ℕ) × (product.file ≡ Some (name_of names file, bytes))
unread_is_written Check names file x product unread makes = absurd (grind (arith, unread.0, unread.1, unread.2))
unread_is_written Compile names file x product unread makes =
    let bytes = image_bytes (image_of x.0 x.1) in
    (bytes, ap (λ (p : Product). p.file) makes.is ∙ ap (λ (n : ℕ). Some (name_of names n, bytes)) (sym (fifth names file unread)))
unread_is_written (Run steps) names file x product unread makes = absurd (grind (arith, unread.0, unread.1, unread.2))

-- a file that a product has is one that is named, and not read
abbrev WritesUnread : Command → List (List ℕ) → Product → Type 0
WritesUnread command names product =
    IfSome product.file (λ written. (file : ℕ) × NamesUnread command names file × (written.0 ≡ name_of names file))

pub written_is_unread : (command : Command) (names : List (List ℕ)) (x : (task_of command names).Input) (product : Product) →
    (task_of command names).Makes x product → WritesUnread command names product
written_is_unread Check names x product makes = subst (WritesUnread Check names) (sym makes.1) tt
written_is_unread Compile names x product makes =
    let unread : (task_of Compile names).reading.Reads 5 → ⊥ = λ reads. grind (arith, reads) in
    subst (WritesUnread Compile names) (sym makes.is) (5, (omega arith, omega arith, unread), refl)
written_is_unread (Run steps) names x product makes = subst (WritesUnread (Run steps) names) (sym makes.2) tt

pub made_not_refused : (command : Command) (names : List (List ℕ)) (x : (task_of command names).Input) (product : Product) (fault : Fault) →
    (task_of command names).Makes x product → (task_of command names).MayRefuse x fault → ⊥
made_not_refused Check names x product fault makes refuses = refuses
made_not_refused Compile names x product fault makes refuses = refuses
made_not_refused (Run steps) names x product fault makes refuses = refuses
