-- Faults and signatures, item by item.
use Rattle.std.specs.Prelude.{ℕ, ◌≡◌, ◌+◌, ◌≤◌, List, [], ◌∷◌, ◌++◌, length, map, take, drop, Option, None, Some}
use Rattle.std.specs.List.{flat_map}
use Rattle.std.proofs.Common.{refl, ap, sym, ◌∙◌, arith, append_assoc, length-append, length-take-le}
use Rattle.std.proofs.Math.Seq.{take-append_seam}
use Rattle.std.proofs.lemmas.List.{append-nil}
use Rattle.qc_widths.specs.TextFaults.{repeated, acts_of_instruction, limit_faults, clashes_within, instruction_faults, faults_after}
use Rattle.qc_facts.specs.Facts.{kind_faults, Facts}
use Rattle.qc_lrtl.specs.declared.syntax.Item.{Item}
use Rattle.qc_lrtl.specs.declared.syntax.Item.TheVariants as fact
use Rattle.qc_lrtl.specs.declared.syntax.Effect.{Effect}
use Rattle.qc_lrtl.specs.declared.syntax.Operand.{Operand}
use Rattle.qc_descr.specs.declared.parts.Operation.{Operation}
use Rattle.qc_widths.specs.declared.context.Context.{Context}
use Rattle.qc_widths.specs.declared.progress.Progress.{Progress}
use Rattle.qc_facts.specs.declared.faults.WidthFault.{WidthFault}
use Rattle.qc_facts.specs.declared.faults.WidthFault.TheVariants.{TwiceNamed}
use Rattle.qc_facts.specs.Faults.{reported_of_two, reported_of_both, reported, token_of, rank_of}
use Rattle.qc_resolve.specs.Scopes.{Names, Signature}
use Rattle.qc_resolve.specs.Effects.{effect_faults, effect_events}
use Rattle.qc_resolve.specs.Declarations.{function_name, instruction_name, space_name, signature_of_item, signatures_after, meanings_in, locals_of_operands, names_for}
use Rattle.qc_widths.specs.Inner.Elaboration.{names_of_operands, all_signatures, counts_behind, faults_of_item, faults_behind, operations_of_item, OperationsUnless, IsBehind}
use Rattle.qc_resolve.specs.Law.Earlier.{signatures-length, signatures-of-meanings}
use Rattle.qc_names.specs.Law.Reported.{reported-append, both_assoc}

-- five lists, of which two are reported together
pub five_reported : (k r a b l : List WidthFault) (kinds names effects limit : Option WidthFault) → kinds ≡ reported k →
    names ≡ reported r → effects ≡ reported (a ++ b) → limit ≡ reported l →
    reported_of_both kinds (reported_of_both names (reported_of_both effects limit)) ≡ reported (k ++ (r ++ (a ++ (b ++ l))))
five_reported k r a b l kinds names effects limit ks rs es ls =
    ap (λ x. reported_of_both x (reported_of_both names (reported_of_both effects limit))) ks
    ∙ ap (λ x. reported_of_both (reported k) (reported_of_both x (reported_of_both effects limit))) rs
    ∙ ap (λ x. reported_of_both (reported k) (reported_of_both (reported r) (reported_of_both x limit))) es
    ∙ ap (λ x. reported_of_both (reported k) (reported_of_both (reported r) (reported_of_both (reported (a ++ b)) x))) ls
    ∙ ap (λ x. reported_of_both (reported k) (reported_of_both (reported r) x)) (sym (reported-append token_of rank_of (a ++ b) l)
    ∙ ap reported (append_assoc a b l))
    ∙ ap (reported_of_both (reported k)) (sym (reported-append token_of rank_of r (a ++ (b ++ l))))
    ∙ sym (reported-append token_of rank_of k (r ++ (a ++ (b ++ l))))

names_are : (t : Context) (operands : List Operand) → names_of_operands t operands
    ≡ names_for t.facts.now (map (λ m. m.signature) (meanings_in t.facts.now t.items.now)) (locals_of_operands operands)
unfolding names_of_operands all_signatures
names_are t operands =
    ap (λ s. names_for t.facts.now s (locals_of_operands operands))
    (sym (signatures-of-meanings t.facts.now t.items.now))

-- what is reported of an instruction, by its parts
pub instruction_reported : (t : Context) (number token : ℕ) (operands : List Operand) (body : List Effect)
    (kinds names effects limit : Option WidthFault) →
    kinds ≡ reported (flat_map (λ o. kind_faults t.facts.now o.kind) operands) →
    names ≡ reported (repeated (map (λ o. o.name) operands)) →
    effects ≡ reported (flat_map (effect_faults (names_of_operands t operands)) body
    ++ map TwiceNamed (drop 1 (flat_map (effect_events (names_of_operands t operands)) body))) →
    limit ≡ reported (limit_faults number token operands (acts_of_instruction t.facts.now (meanings_in t.facts.now
    t.items.now) operands body)
    ++ clashes_within (limit_faults number token operands (acts_of_instruction t.facts.now (meanings_in t.facts.now
    t.items.now) operands body))
    (acts_of_instruction t.facts.now (meanings_in t.facts.now t.items.now) operands body)) →
    reported_of_both kinds (reported_of_both names (reported_of_both effects limit))
    ≡ reported (instruction_faults t.facts.now (meanings_in t.facts.now t.items.now) number token operands body)
instruction_reported t number token operands body kinds names effects limit ks rs es ls =
    let declared : Names = names_for t.facts.now (map (λ m. m.signature) (meanings_in t.facts.now t.items.now))
    (locals_of_operands operands) in
    five_reported (flat_map (λ o. kind_faults t.facts.now o.kind) operands) (repeated (map (λ o. o.name) operands))
    (flat_map (effect_faults declared) body) (map TwiceNamed (drop 1 (flat_map (effect_events declared) body)))
    (limit_faults number token operands (acts_of_instruction t.facts.now (meanings_in t.facts.now t.items.now)
    operands body)
    ++ clashes_within (limit_faults number token operands (acts_of_instruction t.facts.now (meanings_in t.facts.now
    t.items.now) operands body))
    (acts_of_instruction t.facts.now (meanings_in t.facts.now t.items.now) operands body))
    kinds names effects limit ks rs
    (es ∙ ap (λ n. reported (flat_map (effect_faults n) body ++ map TwiceNamed (drop 1 (flat_map (effect_events n)
    body)))) (names_are t operands))
    ls

-- the same of a fault
pub instruction_fault_reported : (kinds names effects limit inner outer fault : Option WidthFault) →
    inner ≡ reported_of_both effects limit → outer ≡ reported_of_both names inner → fault ≡ reported_of_both kinds outer →
    fault ≡ reported_of_both kinds (reported_of_both names (reported_of_both effects limit))
instruction_fault_reported kinds names effects limit inner outer fault a b c =
    c ∙ ap (reported_of_both kinds) (b ∙ ap (reported_of_both names) a)

-- What is behind no item, and behind one more.
pub behind-none : (t : Context) (operations : List Operation) → operations ≡ [] →
    IsBehind t (record {
      counts = record { functions = 0; instructions = 0; spaces = 0 };
      fault = None;
      operations = operations;
    }) t.items.now
unfolding all_signatures
behind-none t operations none = record {
  level = omega arith;
  signatures = refl;
  fault = refl;
  operations = ap (λ ops. ops ++ flat_map (operations_of_item t) t.items.now) none;
}

length-signature : (facts : Facts) (earlier : List Signature) (item : Item) →
    length (signature_of_item facts earlier item) ≡ length (function_name item)
length-signature facts earlier item =
    let all = signatures-length facts earlier (item ∷ []) in
    omega (
      arith,
      all,
      length-append earlier (signature_of_item facts earlier item),
      ap length (append-nil (function_name item)),
    )

-- earlier signatures stand before those of the items
signatures-begin : (facts : Facts) (earlier : List Signature) (items : List Item) →
    (more : List Signature) × (signatures_after facts earlier items ≡ earlier ++ more)
signatures-begin facts earlier [] = ([], sym (append-nil earlier))
signatures-begin facts earlier (item ∷ items) =
    let s = signatures-begin facts (earlier ++ signature_of_item facts earlier item) items in
    (signature_of_item facts earlier item ++ s.0, s.1 ∙ append_assoc earlier (signature_of_item facts earlier item) s.0)

take-all : {A : Type 0} (xs ys : List A) (n : ℕ) → n ≡ length xs → take n (xs ++ ys) ≡ xs
take-all xs ys n is = ap (λ m. take m (xs ++ ys)) is ∙ take-append_seam xs ys

-- the signatures behind one more item
pub record NextLevel (facts : Facts) (all : List Signature) (level : ℕ) (item : Item) : Type 0 where
  pub within : level + length (function_name item) ≤ length all
  pub taken : take (level + length (function_name item)) all ≡ take level all
      ++ signature_of_item facts (take level all) item

pub next-level : (facts : Facts) (all : List Signature) (level : ℕ) (item : Item) (rest : List Item) →
    level ≤ length all →
    signatures_after facts (take level all) (item ∷ rest) ≡ all → NextLevel facts all level item
next-level facts all level item rest within is =
    let own : List Signature = signature_of_item facts (take level all) item in
    let s = signatures-begin facts (take level all ++ own) rest in
    let begins : all ≡ (take level all ++ own) ++ s.0 = sym is ∙ s.1 in
    let first : length (take level all) ≡ level = length-take-le level all within in
    let count : level + length (function_name item) ≡ length (take level all ++ own) =
    omega (arith, length-append (take level all) own, first, length-signature facts (take level all) item) in
    record {
      within = omega (arith, ap length begins, length-append (take level all ++ own) s.0, count);
      taken = ap (take (level + length (function_name item))) begins ∙ take-all (take level all ++ own) s.0 _ count;
    }

operations-next : (before after more : Option WidthFault) (kept left own rest all : List Operation) →
    after ≡ reported_of_both before more → OperationsUnless before (kept ++ (own ++ rest)) all →
    OperationsUnless after left (kept ++ own) → OperationsUnless after (left ++ rest) all
operations-next before (Some f) more kept left own rest all is old new = tt
operations-next None None more kept left own rest all is old new =
    ap (λ ops. ops ++ rest) new ∙ append_assoc kept own rest ∙ old
operations-next (Some g) None more kept left own rest all is old new = absurd (none_some is)
  where
    none_some : None ≡ Some (reported_of_two g more) → ⊥
    none_some h = cc

pub behind-next : (t : Context) (before after : Progress) (item : Item) (rest : List Item) →
    IsBehind t before (item ∷ rest) → after.counts ≡ counts_behind before.counts item →
    after.fault ≡ reported_of_both before.fault (reported (faults_of_item t before.counts item)) →
    OperationsUnless after.fault after.operations (before.operations ++ operations_of_item t item) →
    IsBehind t after rest
behind-next t before after item rest behind counts fault operations =
    let all : List Signature = all_signatures t in
    let next = next-level t.facts.now all before.counts.functions item rest behind.level behind.signatures in
    let level : after.counts.functions ≡ before.counts.functions + length (function_name item) = ap (λ c.
    c.functions) counts in
    record {
      level = omega (arith, level, next.within);
      signatures = ap (λ n. signatures_after t.facts.now (take n all) rest) level
          ∙ ap (λ s. signatures_after t.facts.now s rest) next.taken ∙ behind.signatures;
      fault =
          ap (λ c. reported_of_both after.fault (reported (faults_behind t c rest))) counts
          ∙ ap (λ f. reported_of_both f (reported (faults_behind t (counts_behind before.counts item) rest))) fault
          ∙ both_assoc token_of rank_of before.fault (reported (faults_of_item t before.counts item)) (reported (faults_behind t
          (counts_behind before.counts item) rest))
          ∙ ap (reported_of_both before.fault) (sym (reported-append token_of rank_of (faults_of_item t before.counts item)
          (faults_behind t (counts_behind before.counts item) rest)))
          ∙ ap (λ s. reported_of_both before.fault (reported (faults_of_item t before.counts item
          ++ faults_after t.facts.now (meanings_in t.facts.now t.items.now) s
          (before.counts.instructions + length (instruction_name item))
          (before.counts.spaces + length (space_name item)) rest))) next.taken
          ∙ behind.fault;
      operations = operations-next before.fault after.fault (reported (faults_of_item t before.counts item))
          before.operations
          after.operations (operations_of_item t item) (flat_map (operations_of_item t) rest)
          (flat_map (operations_of_item t) t.items.now) fault behind.operations operations;
    }

-- an item has at most one name of a kind
pub record OneName (item : Item) : Type 0 where
  pub functions : length (function_name item) ≤ 1
  pub instructions : length (instruction_name item) ≤ 1
  pub spaces : length (space_name item) ≤ 1

pub one-name : (item : Item) → OneName item
one-name (fact.Word token bits) = record { functions = omega arith; instructions = omega arith; spaces = omega arith }
one-name (fact.ByteOrder token order) = record {
  functions = omega arith;
  instructions = omega arith;
  spaces = omega arith;
}
one-name (fact.Align token bytes) = record { functions = omega arith; instructions = omega arith; spaces = omega arith }
one-name (fact.SlotBits token bits) = record {
  functions = omega arith;
  instructions = omega arith;
  spaces = omega arith;
}
one-name (fact.Memory token bytes) = record {
  functions = omega arith;
  instructions = omega arith;
  spaces = omega arith;
}
one-name (fact.Code token end) = record { functions = omega arith; instructions = omega arith; spaces = omega arith }
one-name (fact.Data token end) = record { functions = omega arith; instructions = omega arith; spaces = omega arith }
one-name (fact.Space token name cells bits flags) = record {
  functions = omega arith;
  instructions = omega arith;
  spaces = omega arith;
}
one-name (fact.Zero token space cell) = record {
  functions = omega arith;
  instructions = omega arith;
  spaces = omega arith;
}
one-name (fact.Frame token space cell) = record {
  functions = omega arith;
  instructions = omega arith;
  spaces = omega arith;
}
one-name (fact.Link token space cell) = record {
  functions = omega arith;
  instructions = omega arith;
  spaces = omega arith;
}
one-name (fact.Allocatable token space first last) = record {
  functions = omega arith;
  instructions = omega arith;
  spaces = omega arith;
}
one-name (fact.Function token name params body) = record {
  functions = omega arith;
  instructions = omega arith;
  spaces = omega arith;
}
one-name (fact.Effects token name params body) = record {
  functions = omega arith;
  instructions = omega arith;
  spaces = omega arith;
}
one-name (fact.Instruction token name operands body) = record {
  functions = omega arith;
  instructions = omega arith;
  spaces = omega arith;
}
