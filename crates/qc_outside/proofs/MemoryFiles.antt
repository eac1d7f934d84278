-- Looking up and changing files that lie in memory.
use Rattle.std.proofs.Common.{◌≡◌, ℕ, suc, zero, ◌<◌, Bool, true, false, cond, List, [], ◌∷◌, ◌++◌, Some, None, length, refl, sym, ap, subst, ◌∙◌, arith, string_bytes, String, Vec, get_or}
use Rattle.std.proofs.Math.ListN.{set}
use Rattle.std.specs.Prelude.{◌≢◌}
use Rattle.std.specs.Bool.{Decides}
use Rattle.std.specs.Str.{bytes_eq}
use Rattle.std.specs.List.{slice_get}
use Rattle.std.specs.Ordering.{nat_cmp, eq_by_cmp}
use Rattle.std.specs.declared.cmp.Ordering.{Ordering}
use Rattle.std.specs.Cmp.Lexicographic.{slice_cmp, nat_list_cmp_total}
use Rattle.std.specs.FinMap.{find, get, insert, from_entries, get-from_entries, get-insert, same_map, from_entries_push, IsAntisymmetric, slice_cmp-IsAntisymmetric, nat_cmp-IsAntisymmetric}
use Rattle.std.specs.declared.alloc.Global.{Global}
use Rattle.std.proofs.lemmas.Slice.Eq.{bytes_eq-Decides}
use Rattle.std.proofs.lemmas.Map.Text.{is_eq-slice_cmp}
use Rattle.std.proofs.lemmas.Option.{slice_get_read, get_or_from_slice_get}
use Rattle.std.proofs.lemmas.List.{map-append}
use Rattle.qc_outside.specs.Files.{Files}
use Rattle.qc_outside.specs.MemoryFiles.{File, entries_of, files_from, NoneBefore, IsFirst}

abbrev text_cmp : List ℕ → List ℕ → Ordering
text_cmp = slice_cmp nat_cmp

abbrev is_text : List ℕ → List ℕ → Bool
is_text = eq_by_cmp text_cmp

apart : IsAntisymmetric text_cmp
apart = slice_cmp-IsAntisymmetric nat_cmp-IsAntisymmetric

swapped : {A : Type 0} (a b : Bool) (x y z : A) → (a ≡ true → b ≡ true → ⊥) → cond a x (cond b y z) ≡ cond b y (cond a x z)
swapped true true x y z h = absurd (h refl refl)
swapped true false x y z h = refl
swapped false b x y z h = refl

shadowed : {A : Type 0} (b : Bool) (x y z : A) → cond b x z ≡ cond b x (cond b y z)
shadowed true x y z = refl
shadowed false x y z = refl

not_true : {P : Type 0} (r : Bool) → Decides r P → (P → ⊥) → r ≡ false
not_true true d h = absurd (h (d.0 refl))
not_true false d h = refl

same : (a b : List ℕ) → is_text a b ≡ true → a ≡ b
same a b e = (bytes_eq-Decides a b).0 (sym (is_eq-slice_cmp a b) ∙ e)

is_same : (a b : List ℕ) → a ≡ b → is_text a b ≡ true
is_same a b e = is_eq-slice_cmp a b ∙ (bytes_eq-Decides a b).1 e

is_other : (a b : List ℕ) → a ≢ b → is_text a b ≡ false
is_other a b h = is_eq-slice_cmp a b ∙ not_true (bytes_eq a b) (bytes_eq-Decides a b) h

-- the file at the place that a loop has come to
pub file_here : (files read : List File) (place : ℕ) (file : File) → read ≡ files → place < length read → file ≡ get_or read place file → slice_get files place ≡ Some file
file_here files read place file e within is =
    subst (λ fs. slice_get fs place ≡ Some file) e (slice_get_read read (length read) place file refl within is)

none_found : (files : List File) (name : List ℕ) → NoneBefore files name (length files) → find text_cmp name (entries_of files) ≡ None
none_found [] name h = refl
none_found (f ∷ fs) name h =
    ap (λ b. cond b (Some f.1.items) (find text_cmp name (entries_of fs))) (is_other name (string_bytes f.0) (λ e. h 0 (omega arith) f refl (sym e)))
    ∙ none_found fs name (λ k lt file is. h (suc k) (omega arith) file is)

first_found : (files : List File) (name : List ℕ) (place : ℕ) (file : File) → slice_get files place ≡ Some file → string_bytes file.0 ≡ name → NoneBefore files name place → find text_cmp name (entries_of files) ≡ Some file.1.items
first_found [] name place file is named h = absurd (cc)
first_found (f ∷ fs) name zero file is named h =
    let e : f ≡ file = cc in
    ap (λ b. cond b (Some f.1.items) (find text_cmp name (entries_of fs))) (is_same name (string_bytes f.0) (sym named ∙ ap (λ (g : File). string_bytes g.0) (sym e)))
    ∙ ap (λ (g : File). Some g.1.items) e
first_found (f ∷ fs) name (suc n) file is named h =
    ap (λ b. cond b (Some f.1.items) (find text_cmp name (entries_of fs))) (is_other name (string_bytes f.0) (λ e. h 0 (omega arith) f refl (sym e)))
    ∙ first_found fs name n file is named (λ k lt g at. h (suc k) (omega arith) g at)

set_found : (files : List File) (name : List ℕ) (place : ℕ) (file : File) (content : Vec ℕ Global) (q : List ℕ) → slice_get files place ≡ Some file → string_bytes file.0 ≡ name → NoneBefore files name place → find text_cmp q (entries_of (set files place (file.0, content))) ≡ cond (is_text q name) (Some content.items) (find text_cmp q (entries_of files))
set_found [] name place file content q is named h = absurd (cc)
set_found (f ∷ fs) name zero file content q is named h =
    let e : string_bytes f.0 ≡ name = ap (λ (g : File). string_bytes g.0) (let same_file : f ≡ file = cc in same_file) ∙ named in
    let rest = find text_cmp q (entries_of fs) in
    ap (λ n. cond (is_text q n) (Some content.items) rest) named
    ∙ shadowed (is_text q name) (Some content.items) (Some f.1.items) rest
    ∙ ap (λ n. cond (is_text q name) (Some content.items) (cond (is_text q n) (Some f.1.items) rest)) (sym e)
set_found (f ∷ fs) name (suc n) file content q is named h =
    ap (cond (is_text q (string_bytes f.0)) (Some f.1.items)) (set_found fs name n file content q is named (λ k lt g at. h (suc k) (omega arith) g at))
    ∙ swapped (is_text q (string_bytes f.0)) (is_text q name) _ _ _ (λ a b. h 0 (omega arith) f refl (sym (same _ _ a) ∙ same _ _ b))

get_files : (files : List File) (q : List ℕ) → get (files_from files) q ≡ find text_cmp q (entries_of files)
get_files files q = get-from_entries nat_list_cmp_total (entries_of files) q

-- no file has the name
pub get_none : (files : List File) (name : List ℕ) → NoneBefore files name (length files) → get (files_from files) name ≡ None
get_none files name h = get_files files name ∙ none_found files name h

-- the file of the name is the first
get_first : (files : List File) (name : List ℕ) (place : ℕ) (first : IsFirst files name place) → get (files_from files) name ≡ Some first.file.1.items
get_first files name place first = get_files files name ∙ first_found files name place first.file first.here first.named first.before

-- a new content of the first file of the name
bound_first : (files : List File) (name : List ℕ) (place : ℕ) (content : Vec ℕ Global) (first : IsFirst files name place) → files_from (set files place (first.file.0, content)) ≡ insert (files_from files) name content.items
bound_first files name place content first =
    same_map nat_list_cmp_total apart _ _ (λ q.
    get_files _ q ∙ set_found files name place first.file content q first.here first.named first.before
    ∙ sym (get-insert nat_list_cmp_total (files_from files) name content.items q ∙ ap (cond (is_text q name) (Some content.items)) (get_files files q)))

-- a new file at the end
pub bound_last : (files : List File) (name : List ℕ) (named : String Global) (content : Vec ℕ Global) → NoneBefore files name (length files) → string_bytes named ≡ name → files_from (files ++ (named, content) ∷ []) ≡ insert (files_from files) name content.items
bound_last files name named content h e =
    ap from_entries (map-append _ files ((named, content) ∷ []))
    ∙ ap (λ n. from_entries (entries_of files ++ (n, content.items) ∷ [])) e
    ∙ from_entries_push nat_list_cmp_total apart (entries_of files) name content.items (none_found files name h)

-- every other file is as before
pub get_other : (files : Files) (name content other : List ℕ) → other ≢ name → get (insert files name content) other ≡ get files other
get_other files name content other h =
    get-insert nat_list_cmp_total files name content other ∙ ap (λ b. cond b (Some content) (get files other)) (is_other other name h)

-- what is read at the place is the file
read_first : (files : List File) (name : List ℕ) (place : ℕ) (first : IsFirst files name place) (file : File) → file ≡ get_or files place file → file ≡ first.file
read_first files name place first file is = is ∙ get_or_from_slice_get files place first.file file first.here

pub get_read : (files : List File) (name : List ℕ) (place : ℕ) (first : IsFirst files name place) (file : File) → file ≡ get_or files place file → Some file.1.items ≡ get (files_from files) name
get_read files name place first file is =
    ap (λ (g : File). Some g.1.items) (read_first files name place first file is) ∙ sym (get_first files name place first)

pub bound_read : (files : List File) (name : List ℕ) (place : ℕ) (content : Vec ℕ Global) (first : IsFirst files name place) (file : File) → file ≡ get_or files place file → files_from (set files place (file.0, content)) ≡ insert (files_from files) name content.items
bound_read files name place content first file is =
    ap (λ (g : File). files_from (set files place (g.0, content))) (read_first files name place first file is) ∙ bound_first files name place content first
