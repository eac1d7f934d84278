-- Texts of programs of constants.
use Rattle.std.proofs.Common.{◌≡◌, ◌<◌, ◌^◌, ℕ, List, [], ◌∷◌, ◌++◌, length, get_or, refl, sym, ap, ap₂, ◌∙◌, subst, arith, append_assoc, append-nil, length-append}
use Rattle.std.specs.Prelude.{All, codes}
use Rattle.std.specs.List.{AllByRecursion, flat_map}
use Rattle.std.proofs.lemmas.List.{append_cancel_left}
use Rattle.std.proofs.lemmas.List.Concat.{flat_map-append}
use Rattle.std.proofs.lemmas.List.Elements.{All-append, All-from_recursion, recursion_from_All}
use Rattle.qc_constants.specs.declared.program.ConstantProgram.{ConstantProgram}
use Rattle.qc_constants.specs.ConstantProgram.{output_text, return_text, program_text, IsTextOf, IsReturn, HasManyOutputs, HasNoOutput, StartsWithOutputs}
use Rattle.qc_constants.proofs.Fronts.{one_between}

-- one more output than a program has
pub many_outputs : (bytes words rest : List ℕ) (word : ℕ) (more : List ℕ) → length words ≡ 1000 → All (λ w. w < 2 ^ 32) words → word < 2 ^ 32 → bytes ≡ flat_map output_text words ++ rest → rest ≡ output_text word ++ more → HasManyOutputs bytes
many_outputs bytes words rest word more full small small_too split next = (
  words ++ word ∷ [],
  more,
  omega (arith, length-append words (word ∷ [])),
  All-append (λ w. w < 2 ^ 32) words (word ∷ []) small (All-from_recursion (λ w. w < 2 ^ 32) (word ∷ []) (small_too, tt)),
  split ∙ ap (λ xs. flat_map output_text words ++ xs) next ∙ sym (append_assoc (flat_map output_text words) (output_text word) more)
      ∙ ap (λ xs. flat_map output_text words ++ xs ++ more) (sym (append-nil (output_text word)))
      ∙ ap (λ xs. xs ++ more) (sym (flat_map-append output_text words (word ∷ []))),
)

-- an output is told from any other
one_output : (m n : ℕ) (x y : List ℕ) → m < 2 ^ 32 → n < 2 ^ 32 → output_text m ++ x ≡ output_text n ++ y → (m ≡ n) × (x ≡ y)
one_output m n x y small small_too e = one_between (codes "%out(") (codes "); ") m n x y (λ rest. refl) small small_too e

-- a return is told from any other
one_return : (m n : ℕ) (x y : List ℕ) → m < 2 ^ 32 → n < 2 ^ 32 → return_text m ++ x ≡ return_text n ++ y → (m ≡ n) × (x ≡ y)
one_return m n x y small small_too e = one_between (codes "return(") (codes "); }") m n x y (λ rest. refl) small small_too e

-- a return is no output
return_is_no_output : (returned : ℕ) (last : List ℕ) → HasNoOutput (return_text returned ++ last)
return_is_no_output returned last word rest small e =
    let first : 114 ≡ 37 = ap (λ xs. get_or xs 0 0) e in omega (arith, first)

-- the outputs in front of what has no output in front are all others' and more
peel : (ps qs end rest : List ℕ) → AllByRecursion (λ w. w < 2 ^ 32) ps → AllByRecursion (λ w. w < 2 ^ 32) qs → HasNoOutput end → flat_map output_text ps ++ end ≡ flat_map output_text qs ++ rest → (more : List ℕ) × (ps ≡ qs ++ more) × AllByRecursion (λ w. w < 2 ^ 32) more × (flat_map output_text more ++ end ≡ rest)
peel ps [] end rest small small_too none e = (ps, refl, small, e)
peel [] (q ∷ qs) end rest small small_too none e =
    absurd (none q (flat_map output_text qs ++ rest) small_too.0 (e ∙ append_assoc (output_text q) (flat_map output_text qs) rest))
peel (p ∷ ps) (q ∷ qs) end rest small small_too none e =
    let split : output_text p ++ (flat_map output_text ps ++ end) ≡ output_text q ++ (flat_map output_text qs ++ rest) =
    sym (append_assoc (output_text p) (flat_map output_text ps) end) ∙ e ∙ append_assoc (output_text q) (flat_map output_text qs) rest in
    let same = one_output p q (flat_map output_text ps ++ end) (flat_map output_text qs ++ rest) small.0 small_too.0 split in
    let found = peel ps qs end rest small.1 small_too.1 none same.1 in
    (found.0, ap₂ (λ x xs. x ∷ xs) same.0 found.1, found.2, found.3)

-- what follows the head of a program's text
abbrev pub program_head : List ℕ
program_head = codes "target byteorder little wordsize 32; main() { "

pub body_of : (bytes : List ℕ) (p : ConstantProgram) (spells : IsTextOf bytes p) → bytes ≡ program_head ++ (flat_map output_text p.outputs ++ (return_text p.returned ++ spells.text.0))
unfolding program_text
body_of bytes p spells =
    spells.text.2 ∙ append_assoc program_head (flat_map output_text p.outputs ++ return_text p.returned) spells.text.0
    ∙ ap (λ xs. program_head ++ xs) (append_assoc (flat_map output_text p.outputs) (return_text p.returned) spells.text.0)

module _ (body : List ℕ) (p : ConstantProgram) (spells : IsTextOf (program_head ++ body) p) where
  -- the text after the head
  body_is : flat_map output_text p.outputs ++ (return_text p.returned ++ spells.text.0) ≡ body
  body_is = sym (append_cancel_left program_head body _ (body_of (program_head ++ body) p spells))

  -- a program hasn't so many outputs
  pub not_many : HasManyOutputs body → ⊥
  not_many (words, rest, full, small, split) =
      let found = peel p.outputs words (return_text p.returned ++ spells.text.0) rest
      (recursion_from_All _ p.outputs spells.program.outputs) (recursion_from_All _ words small)
      (return_is_no_output p.returned spells.text.0) (body_is ∙ split) in
      omega (arith, spells.program.few, ap length found.1, length-append words found.0)

  -- a program's outputs are those in front, and its return follows
  pub outputs_are : (words rest : List ℕ) → StartsWithOutputs body words rest → (p.outputs ≡ words) × (return_text p.returned ++ spells.text.0 ≡ rest)
  outputs_are words rest starts =
      let found = peel p.outputs words (return_text p.returned ++ spells.text.0) rest
      (recursion_from_All _ p.outputs spells.program.outputs) (recursion_from_All _ words starts.small)
      (return_is_no_output p.returned spells.text.0) (body_is ∙ starts.split) in
      elim found.0 as (λ more. p.outputs ≡ words ++ more → AllByRecursion (λ w. w < 2 ^ 32) more → flat_map output_text more ++ (return_text p.returned ++ spells.text.0) ≡ rest → (p.outputs ≡ words) × (return_text p.returned ++ spells.text.0 ≡ rest)) [
        | [] ↦ λ outputs small e. (outputs ∙ append-nil words, e)
        | w ∷ ws ↦ λ outputs small e. absurd (starts.no_more w _ small.0 (sym e ∙ append_assoc (output_text w) (flat_map output_text ws) _))
      ] found.1 found.2 found.3

-- the head, the outputs and a return spell a program
pub spelled : (bytes body words rest : List ℕ) (returned : ℕ) → bytes ≡ program_head ++ body → StartsWithOutputs body words rest → IsReturn rest returned → returned < 2 ^ 32 → IsTextOf bytes (record { outputs = words; returned = returned })
unfolding program_text
spelled bytes body words rest returned head starts returns small = record {
  program = record { few = starts.few; outputs = starts.small; returned = small };
  text = (
    returns.0,
    returns.1,
    head ∙ ap (λ xs. program_head ++ xs) (starts.split ∙ ap (λ xs. flat_map output_text words ++ xs) returns.2 ∙ sym (append_assoc (flat_map output_text words) (return_text returned) returns.0))
        ∙ sym (append_assoc program_head (flat_map output_text words ++ return_text returned) returns.0),
  );
}

-- without the head, with too many outputs, or without a return nothing is spelled
pub no_head : (bytes : List ℕ) → ((rest : List ℕ) → bytes ≡ program_head ++ rest → ⊥) → (p : ConstantProgram) → IsTextOf bytes p → ⊥
no_head bytes none p spells = none _ (body_of bytes p spells)

pub too_many_outputs : (bytes body : List ℕ) → bytes ≡ program_head ++ body → HasManyOutputs body → (p : ConstantProgram) → IsTextOf bytes p → ⊥
too_many_outputs bytes body head many p spells = not_many body p (subst (λ bs. IsTextOf bs p) head spells) many

pub no_return : (bytes body words rest : List ℕ) → bytes ≡ program_head ++ body → StartsWithOutputs body words rest → ((n : ℕ) → n < 2 ^ 32 → IsReturn rest n → ⊥) → (p : ConstantProgram) → IsTextOf bytes p → ⊥
no_return bytes body words rest head starts none p spells =
    let again = subst (λ bs. IsTextOf bs p) head spells in
    none p.returned again.program.returned (again.text.0, again.text.1, sym (outputs_are body p again words rest starts).1)

-- a text spells one program
pub one_program : (bytes : List ℕ) (p q : ConstantProgram) → IsTextOf bytes p → IsTextOf bytes q → p ≡ q
one_program bytes p q spells spells_too =
    let rest = return_text q.returned ++ spells_too.text.0 in
    let body = flat_map output_text q.outputs ++ rest in
    let split : bytes ≡ program_head ++ body = body_of bytes q spells_too in
    let again : IsTextOf (program_head ++ body) p = subst (λ bs. IsTextOf bs p) split spells in
    let starts : StartsWithOutputs body q.outputs rest = record {
      few = spells_too.program.few;
      small = spells_too.program.outputs;
      split = refl;
      no_more = return_is_no_output q.returned spells_too.text.0;
    } in
    let found = outputs_are body p again q.outputs rest starts in
    let word = one_return p.returned q.returned _ _ again.program.returned spells_too.program.returned found.1 in
    ap₂ (λ outputs returned. record { outputs = outputs; returned = returned }) found.0 word.0
