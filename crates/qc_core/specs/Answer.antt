-- The answers of the program: which one the words and the files ask for, and what each leaves.
use Rattle.std.specs.Prelude.{ℕ, ◌≡◌, ◌≤◌, ◌⊎◌, List}
use Rattle.qc_outside.specs.Files.{Files}
use Rattle.qc_command.specs.declared.words.Command.{Command}
use Rattle.qc_command.specs.declared.words.Command.TheVariants.{Check, Compile, Run}
use Rattle.qc_command.specs.Command.{IsCommandLine, IsUsage, file_count}
use Rattle.qc_core.specs.declared.answer.Fault.{Fault}
use Rattle.qc_core.specs.declared.answer.Status.{Status}
use Rattle.qc_core.specs.declared.answer.Status.TheVariants.{Usage}
use Rattle.qc_core.specs.Compilation.{compile_task}
use Rattle.qc_core.specs.Leaves.{IsUntouched, Leaves, Outside}
use Rattle.qc_core.specs.Runs.{run_task}
use Rattle.qc_core.specs.Task.{Task}
use Rattle.qc_core.specs.Texts.{check_task}

-- what a command means whose files have these names
abbrev pub task_of : Command → List (List ℕ) → Task
task_of Check names = check_task names
task_of Compile names = compile_task names
task_of (Run steps) names = run_task names steps

-- the command names the file of this number, and doesn't read it
abbrev pub NamesUnread : Command → List (List ℕ) → ℕ → Type 0
NamesUnread command names file =
    (1 ≤ file) × (file ≤ file_count command) × ((task_of command names).reading.Reads file → ⊥)

-- what the answer to a command leaves
abbrev pub CommandLeaves : Command → List (List ℕ) → Outside → Outside → Status → Type 0
CommandLeaves command names old new status = Leaves (task_of command names) old new status

-- of the files that a command reads the one of this number is refused for this fault
abbrev pub IsCommandRefused : Command → List (List ℕ) → Files → ℕ → Fault → Type 0
IsCommandRefused command names files file fault = (task_of command names).reading.Refused files file fault

-- they are good
abbrev pub IsCommandRead : Command → List (List ℕ) → Files → Type 0
IsCommandRead command names files =
    (input : (task_of command names).Input) × (task_of command names).reading.Means files input

-- Words that are no command are a usage, which changes nothing. All other answers are those of a command.
abbrev pub IsAnswer : List (List ℕ) → Outside → Outside → Status → Type 0
IsAnswer words old new status =
    ((word : ℕ) × (status ≡ Usage word) × IsUsage words word × IsUntouched old new)
    ⊎ ((command : Command) × (names : List (List ℕ)) × IsCommandLine words command names
    × CommandLeaves command names old new status)
