-- What `quick` promises, from what its command leaves.
use Rattle.std.proofs.Common.{◌≡◌, ℕ, List, sym, ap, subst, ◌∙◌}
use Rattle.std.specs.Prelude.{Option, None, Some, [], unwrap_or, cond, drop, String, string_bytes}
use Rattle.std.specs.declared.alloc.Global.{Global}
use Rattle.std.proofs.lemmas.List.{drop-map}
use Rattle.std.specs.Cmp.{eq_by_cmp_equiv}
use Rattle.std.specs.Cmp.Lexicographic.{nat_list_cmp_total}
use Rattle.std.specs.FinMap.{get, insert, get-insert}
use Rattle.qc_descr.specs.declared.description.Description.{Description}
use Rattle.qc_descr.specs.Loading.{FitsMachine}
use Rattle.qc_descr.specs.Valid.{IsValid}
use Rattle.qc_constants.specs.declared.program.ConstantProgram.{ConstantProgram}
use Rattle.qc_constants.specs.Agreement.{Agrees}
use Rattle.qc_constants.specs.Code.{image_of}
use Rattle.qc_constants.specs.Constants.{HasConstants}
use Rattle.qc_constants.specs.ConstantProgram.{IsConstantProgram}
use Rattle.qc_command.specs.declared.words.Command.{Command}
use Rattle.qc_command.specs.declared.words.Command.TheVariants.{Compile}
use Rattle.qc_command.specs.Command.{IsCommandLine, texts_of}
use Rattle.qc_layout.specs.ImageFile.{image_bytes}
use Rattle.qc_outside.specs.Files.{Files, content_of, name_of}
use Rattle.qc_core.specs.declared.answer.Status.{Status}
use Rattle.qc_core.specs.declared.answer.Status.TheVariants.{Done}
use Rattle.qc_core.specs.Answer.{CommandLeaves}
use Rattle.qc_core.specs.Compilation.{compile_task, image_and_line}
use Rattle.qc_core.specs.Headline.{IsKnownCompiled}
use Rattle.qc_core.specs.Leaves.{IsStored, Leaves, Outside}
use Rattle.qc_core.specs.Task.{IsMade, Product}

-- a name that was bound has what it was bound to
content_of_bound : (files : Files) (name bytes : List ℕ) → content_of (insert files name bytes) name ≡ bytes
content_of_bound files name bytes =
    ap (λ o. unwrap_or o []) (get-insert nat_list_cmp_total files name bytes name
    ∙ ap (λ b. cond b (Some bytes) (get files name)) ((eq_by_cmp_equiv nat_list_cmp_total).refl name))

-- the image of each program fits the machine, and agrees with the program
abbrev pub ImagesAgree : Type 0
ImagesAgree = (d : Description) (p : ConstantProgram) → IsValid d → HasConstants d → IsConstantProgram p → FitsMachine d (image_of d p) × Agrees d p (image_of d p)

-- the file of an image that was written is the image's, which agrees with its program
pub compiled : ImagesAgree → (names : List (List ℕ)) (product : Product) (old new : Option Files) → IsMade (compile_task names) old product → IsStored product.file old new → IsKnownCompiled names old new
compiled agree names product None new made stored = tt
compiled agree names product (Some before) new made stored =
    let image = image_of made.input.0 made.input.1 in
    let is = made.makes in
    let both = agree made.input.0 made.input.1 is.valid is.constants is.small in
    let here : IsStored (image_and_line (name_of names 5) image).file (Some before) new =
    subst (λ (p : Product). IsStored p.file (Some before) new) is.is stored in
    rw here (record {
      description = made.input.0;
      program = made.input.1;
      read = made.read;
      valid = is.valid;
      image = image;
      fits = both.0;
      file = content_of_bound before (name_of names 5) (image_bytes image);
      agrees = both.1;
    })

-- words are one command line
abbrev pub OneCommand : Type 0
OneCommand = (words fs gs : List (List ℕ)) (c d : Command) → IsCommandLine words c fs → IsCommandLine words d gs → (c ≡ d) × (fs ≡ gs)

-- what is said of the tasks of all commands holds of the one that the words are
pub command_of : OneCommand → (words : List (List ℕ)) (c d : Command) (names others : List (List ℕ)) (old new : Outside) (status : Status) → IsCommandLine words c names → IsCommandLine words d others → CommandLeaves c names old new status → CommandLeaves d others old new status
command_of one words c d names others old new status line other leaves =
    let same = one words names others c d line other in
    subst (λ ns. CommandLeaves d ns old new status) same.1 (subst (λ x. CommandLeaves x names old new status) same.0 leaves)

-- a compilation that is done
pub command_compiled : ImagesAgree → (names : List (List ℕ)) (old new : Outside) (status : Status) → status ≡ Done → CommandLeaves Compile names old new status → IsKnownCompiled names old.files new.files
command_compiled agree names old new status done leaves =
    let here : Leaves (compile_task names) old new Done = subst (λ s. Leaves (compile_task names) old new s) done leaves in
    compiled agree names here.0 old.files new.files here.1 here.2.0

-- the names of a command's files are its words from one on
pub leaves_of_words : (command : Command) (n : ℕ) (names slice words : List (String Global)) (old new : Outside) (status : Status) → names ≡ drop n slice → slice ≡ words → CommandLeaves command (texts_of names) old new status → CommandLeaves command (drop n (texts_of words)) old new status
leaves_of_words command n names slice words old new status are same leaves =
    subst (λ texts. CommandLeaves command texts old new status) (sym (drop-map string_bytes n words))
    (subst (λ xs. CommandLeaves command (texts_of xs) old new status) (are ∙ ap (drop n) same) leaves)
