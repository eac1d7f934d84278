-- Each line of code does what an instruction of the description does.
use Rattle.std.proofs.Common.{◌≡◌, ◌++◌, ℕ, zero, suc, List, [], ◌∷◌, map, Some, All, Bool, true, false, slice_get, ap, subst}
use Rattle.std.proofs.lemmas.List.Elements.{All-head, All-tail}
use Rattle.qc_descr.specs.declared.description.Description.{Description}
use Rattle.qc_meaning.specs.declared.lines.Line.{Line}
use Rattle.qc_meaning.specs.declared.lines.Line.TheVariants as line
use Rattle.qc_meaning.specs.Code.{Standing, stood, stood_from}
use Rattle.qc_meaning.specs.Kept.{DoesOne, IsCodeLine}
use Rattle.qc_meaning.specs.Kinds.{line_of_instance, rtl_at}

line_does_one : (d : Description) (virtual : Bool) (l : Line) → IsCodeLine d virtual l → DoesOne d (line_of_instance d l)
line_does_one d virtual (line.Label number) is = tt
line_does_one d virtual (line.Inst instance target) is =
    record { number = instance.instruction; instruction = is.instruction; is = is.is; rtl = ap rtl_at is.is }

-- ---- lines of procedures

abbrev EachDoes : Description → List Standing → Type 0
EachDoes d xs = (k : ℕ) (s : Standing) → slice_get xs k ≡ Some s → DoesOne d s.line

each-append : (d : Description) (xs ys : List Standing) → EachDoes d xs → EachDoes d ys → EachDoes d (xs ++ ys)
each-append d [] ys first second k s is = second k s is
each-append d (x ∷ xs) ys first second zero s is = first zero s is
each-append d (x ∷ xs) ys first second (suc k) s is = each-append d xs ys (λ j t. first (suc j) t) second k s is

some_is : (x s : Standing) → Some x ≡ Some s → x ≡ s
some_is x s same = cc

stood_does : (d : Description) (virtual : Bool) (p : ℕ) (first : Bool) (lines : List Line) → All (IsCodeLine d virtual) lines →
    EachDoes d (stood p first (map (line_of_instance d) lines))
stood_does d virtual p first [] are k s is = cc
stood_does d virtual p first (l ∷ lines) are zero s is =
    subst (λ t. DoesOne d t.line) (some_is (record { procedure = p; first = first; line = line_of_instance d l }) s is)
    (line_does_one d virtual l (All-head (IsCodeLine d virtual) l lines are))
stood_does d virtual p first (l ∷ lines) are (suc k) s is =
    stood_does d virtual p false lines (All-tail (IsCodeLine d virtual) l lines are) k s is

nothing_stands : (d : Description) → EachDoes d []
nothing_stands d k s is = cc

pub procedures_do : (d : Description) (virtual : Bool) (p : ℕ) (procedures : List (List Line)) → All (λ ls. All (IsCodeLine d virtual) ls) procedures →
    EachDoes d (stood_from p (map (λ ls. map (line_of_instance d) ls) procedures))
procedures_do d virtual p [] are = nothing_stands d
procedures_do d virtual p (lines ∷ procedures) are =
    each-append d (stood p true (map (line_of_instance d) lines)) (stood_from (suc p) (map (λ ls. map (line_of_instance d) ls) procedures))
    (stood_does d virtual p true lines (All-head (λ ls. All (IsCodeLine d virtual) ls) lines procedures are))
    (procedures_do d virtual (suc p) procedures (All-tail (λ ls. All (IsCodeLine d virtual) ls) lines procedures are))

-- what holds of each element holds of the one at a place
pub element_of : {X : Type 0} (P : X → Type 0) (xs : List X) (i : ℕ) (x : X) → All P xs → slice_get xs i ≡ Some x → P x
element_of P [] i x all is = cc
element_of P (y ∷ ys) zero x all is = subst P (only y x is) (All-head P y ys all)
  where
    only : {X : Type 0} (y x : X) → Some y ≡ Some x → y ≡ x
    only y x same = cc
element_of P (y ∷ ys) (suc i) x all is = element_of P ys i x (All-tail P y ys all) is
