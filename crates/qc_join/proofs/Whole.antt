-- The parts that a machine and a text make are whole.
use Rattle.std.specs.Prelude.{ℕ, zero, suc, ◌≡◌, ◌<◌, true, false, ◌&&◌, List, [], ◌∷◌, length, map, drop}
use Rattle.std.specs.Prelude.{slice_index, ◌⊎◌, Option, None, Some, IfSome, is_some}
use Rattle.std.specs.List.{AllByRecursion, flat_map, list_all}
use Rattle.std.proofs.Common.{refl, sym, ◌∙◌, subst, arith, inl, inr}
use Rattle.std.proofs.lemmas.Bool.{and_from, cond_both}
use Rattle.std.proofs.lemmas.List.{length-map}
use Rattle.std.proofs.lemmas.List.Elements.{All-nil, All-cons}
use Rattle.std.proofs.lemmas.List.Folds.{list_all-append}
use Rattle.qc_names.specs.Tables.{named}
use Rattle.qc_sled.specs.declared.syntax.Item.{Item}
use Rattle.qc_descr.specs.declared.coding.Reach.{Reach}
use Rattle.qc_descr.specs.declared.coding.Bit.{Bit}
use Rattle.qc_descr.specs.declared.description.OperandKind.{OperandKind}
use Rattle.qc_descr.specs.declared.description.Space.{Space}
use Rattle.qc_descr.specs.declared.parts.Operation.{Operation}
use Rattle.qc_descr.specs.declared.sketch.Claim.{Claim}
use Rattle.qc_descr.specs.declared.sketch.Claim.TheVariants.{Free, Once}
use Rattle.qc_descr.specs.declared.sketch.Claim.TheVariants as claim
use Rattle.qc_descr.specs.declared.sketch.Sketch.{Sketch}
use Rattle.qc_descr.specs.CodingFaults.{Operands, bits_of_claims, before_sizes, claimed_bits, operand_size, operand_sizes, operands_of, operation_kinds}
use Rattle.qc_descr.specs.Making.{IsFit, AreSketches, AreSketched, AreWholeParts}
use Rattle.qc_descr.specs.Parts.{AreParts, word_of}
use Rattle.qc_descr.specs.Valid.{is_token, is_within}
use Rattle.qc_join.specs.declared.expanded.Expanded.{Expanded}
use Rattle.qc_join.specs.declared.expanded.Expanded.TheVariants.{Several, Unfit, Fit}
use Rattle.qc_join.specs.declared.expanded.TokenUse.{TokenUse}
use Rattle.qc_widths.specs.declared.machine.Machine.{Machine}
use Rattle.qc_join.specs.Expansion.{Scope, expanded, fields_of, patterns_of}
use Rattle.qc_join.specs.Joining.{ConstructorOf, constructors_in, are_operands, misfit_sketch, named_operands, parts_of, reaches_of, sketches_by, sketches_from, sketches_of, sketches_of_constructor}
use Rattle.qc_join.proofs.Sound.{AreSoundTokens, AreWithin, AreWithinClaims, IsSound, IsSoundFit, IsWithinClaim, sizes_of_tokens}
use Rattle.qc_join.proofs.SoundPatterns.{Agrees, AgreesSize, bits_declared, own_fields, sound_pattern, sound_patterns}

-- the first number of those that are left, and what is left behind it
dropped_first : (number : ℕ) (all : List ℕ) (n : ℕ) (ns : List ℕ) → drop number all ≡ n ∷ ns
    → (number < length all) × (slice_index all number ≡ n) × (drop (suc number) all ≡ ns)
dropped_first zero [] n ns e = absurd (cc e)
dropped_first zero (x ∷ xs) n ns e = (omega arith, cc e, cc e)
dropped_first (suc k) [] n ns e = absurd (cc e)
dropped_first (suc k) (x ∷ xs) n ns e =
    let rest = dropped_first k xs n ns e in
    (omega (arith, rest.0), rest.1, rest.2)

-- a number before others is there where all are
sizes_parts : (size : Option ℕ) (rest : Option (List ℕ)) (sizes : List ℕ) → before_sizes size rest ≡ Some sizes
    → (n : ℕ) × (ns : List ℕ) × (size ≡ Some n) × (rest ≡ Some ns) × (n ∷ ns ≡ sizes)
sizes_parts None rest sizes e = absurd (cc e)
sizes_parts (Some n) None sizes e = absurd (cc e)
sizes_parts (Some n) (Some ns) sizes e = (n, ns, refl, refl, cc e)

-- where all operands have sizes, each one's is the one of its number
agree : (word : ℕ) (spaces : List Space) (number : ℕ) (all : List ℕ) (os : List (List ℕ × OperandKind))
    (reaches : List Reach) (sizes : List ℕ) → operand_sizes word spaces (map (λ o. o.1) os) reaches ≡ Some sizes
    → drop number all ≡ sizes → AllByRecursion (λ e. Agrees all e.1) (named_operands word spaces number os reaches)
agree word spaces number all [] reaches sizes e d = tt
agree word spaces number all (o ∷ os) [] sizes e d = tt
agree word spaces number all (o ∷ os) (r ∷ reaches) sizes e d =
    let parts = sizes_parts (operand_size word spaces o.1 r) (operand_sizes word spaces (map (λ o. o.1) os) reaches) sizes e in
    let first = dropped_first number all parts.0 parts.1 (d ∙ sym parts.4) in (
      subst (AgreesSize all number) (sym parts.2) (first.0, first.1),
      agree word spaces (suc number) all os reaches parts.1 parts.3 first.2,
    )

-- the tokens have fitting sizes
tokens_fit : (declared : ℕ → ℕ) (tokens : List TokenUse) → AreSoundTokens declared tokens
    → list_all is_token (sizes_of_tokens tokens) ≡ true
tokens_fit declared [] h = refl
tokens_fit declared (t ∷ tokens) h =
    and_from (is_token t.bits) (list_all is_token (sizes_of_tokens tokens)) h.0.size (tokens_fit declared tokens h.1)

-- bits that operands have pass the test
bits_fit : (sizes : List ℕ) (bits : List Bit) → AreWithin sizes bits → list_all (is_within sizes) bits ≡ true
bits_fit sizes [] h = refl
bits_fit sizes (bit ∷ bits) h = and_from (is_within sizes bit) (list_all (is_within sizes) bits) h.0 (bits_fit sizes bits h.1)

-- the bits of claims are bits that operands have
claim_fits : (sizes : List ℕ) (c : Claim) → IsWithinClaim sizes c → list_all (is_within sizes) (claimed_bits c) ≡ true
claim_fits sizes Free h = refl
claim_fits sizes (Once bit) h = and_from (is_within sizes bit) true h refl
claim_fits sizes (claim.Several bits) h = bits_fit sizes bits h

-- the same of all claims
claims_fit : (sizes : List ℕ) (claims : List Claim) → AreWithinClaims sizes claims
    → list_all (is_within sizes) (bits_of_claims claims) ≡ true
claims_fit sizes [] h = refl
claims_fit sizes (c ∷ claims) h =
    list_all-append (is_within sizes) (claimed_bits c) (bits_of_claims claims)
    ∙ and_from (list_all (is_within sizes) (claimed_bits c)) (list_all (is_within sizes) (bits_of_claims claims))
    (claim_fits sizes c h.0) (claims_fit sizes claims h.1)

-- a pattern that fits makes an alternative that does
fit : (declared : ℕ → ℕ) (o : Operands) (reaches : List Reach) (sizes : List ℕ)
    → operand_sizes o.word o.spaces o.kinds reaches ≡ Some sizes → (tokens : List TokenUse) (claims : List Claim)
    → IsSoundFit declared sizes tokens claims
    → IsFit o (record { tokens = sizes_of_tokens tokens; claims = claims; reaches = reaches; misfit = false })
fit declared o reaches sizes e tokens claims h =
    let count : length (sizes_of_tokens tokens) ≡ length tokens = length-map tokens (λ (t : TokenUse). t.bits) in
    record {
      some_token = omega (arith, count, h.some_token);
      few_tokens = omega (arith, count, h.few_tokens);
      tokens = tokens_fit declared tokens h.each;
      claims = h.counts;
      sizes = sizes;
      sized = e;
      within = claims_fit sizes claims h.within;
    }

-- reported to be misfit, or fit
abbrev IsEither : Operands → Sketch → Type 0
IsEither o s = (s.misfit ≡ true) ⊎ IsFit o s

no_alternative : (o : Operands) → AreSketches o []
no_alternative o = All-nil (IsEither o)

one_alternative : (o : Operands) (s : Sketch) → IsEither o s → AreSketches o (s ∷ [])
one_alternative o s h = All-cons (IsEither o) s [] h (no_alternative o)

-- a sketch of what doesn't fit
misfit : (o : Operands) (reaches : List Reach) → AreSketches o (misfit_sketch reaches ∷ [])
misfit o reaches = one_alternative o (misfit_sketch reaches) (inl refl)

-- the alternatives of what a pattern comes to, sound where all operands have sizes
sketches_fit : (declared : ℕ → ℕ) (o : Operands) (reaches : List Reach) (sizes : Option (List ℕ))
    → operand_sizes o.word o.spaces o.kinds reaches ≡ sizes → (e : Expanded)
    → IfSome sizes (λ ns. IsSound declared ns e) → AreSketches o (sketches_from reaches (is_some sizes) e)
sketches_fit declared o reaches sizes same Several h = no_alternative o
sketches_fit declared o reaches sizes same Unfit h = misfit o reaches
sketches_fit declared o reaches None same (Fit tokens claims) h = misfit o reaches
sketches_fit declared o reaches (Some ns) same (Fit tokens claims) h =
    one_alternative o
    (record { tokens = sizes_of_tokens tokens; claims = claims; reaches = reaches; misfit = false })
    (inr (fit declared o reaches ns same tokens claims h))

-- what is such in each case that it is there
if_there : {A : Type 0} (P : A → Type 0) (x : Option A) → ((a : A) → x ≡ Some a → P a) → IfSome x P
if_there P None h = tt
if_there P (Some a) h = h a refl

-- the alternatives of an operation with a constructor
by_constructor : (machine : Machine) (items : List Item) (o : Operation) (c : ConstructorOf)
    → AreSketches (operands_of (word_of machine.given) machine.spaces o) (sketches_by machine items o c)
by_constructor machine items o c =
    let scope : Scope = record {
      fields = fields_of items;
      patterns = patterns_of items;
      operands = named_operands (word_of machine.given) machine.spaces 0 o.operands (reaches_of c.params);
    } in
    let sizes : Option (List ℕ) =
    operand_sizes (word_of machine.given) machine.spaces (operation_kinds o) (reaches_of c.params) in
    sketches_fit (bits_declared items) (operands_of (word_of machine.given) machine.spaces o) (reaches_of c.params) sizes refl
    (expanded c.body scope)
    (if_there (λ ns. IsSound (bits_declared items) ns (expanded c.body scope)) sizes
    (λ ns e. sound_pattern (bits_declared items) ns c.body scope (record {
      fields = own_fields items;
      patterns = sound_patterns ns items;
      operands =
          agree (word_of machine.given) machine.spaces 0 ns o.operands (reaches_of c.params) ns e refl;
    })))

-- the same where there may be none
of_constructor : (machine : Machine) (items : List Item) (o : Operation) (c : Option ConstructorOf)
    → AreSketches (operands_of (word_of machine.given) machine.spaces o) (sketches_of_constructor machine items o c)
of_constructor machine items o None = no_alternative (operands_of (word_of machine.given) machine.spaces o)
of_constructor machine items o (Some c) =
    cond_both (are_operands o.operands c.params) (sketches_by machine items o c) []
    (AreSketches (operands_of (word_of machine.given) machine.spaces o))
    (λ e. by_constructor machine items o c)
    (λ e. no_alternative (operands_of (word_of machine.given) machine.spaces o))

-- the alternatives of all operations
sketched : (machine : Machine) (items : List Item) (os : List Operation)
    → AreSketched (word_of machine.given) machine.spaces os (map (sketches_of machine items) os)
sketched machine items [] = tt
sketched machine items (o ∷ os) =
    (of_constructor machine items o (named (flat_map constructors_in items) o.name), sketched machine items os)

-- The parts of a machine with the codings of a text are whole.
pub whole : (machine : Machine) (items : List Item) → AreParts machine.name machine.given machine.spaces machine.operations
    → AreWholeParts (parts_of machine items)
whole machine items h = record { parts = h; sketched = sketched machine items machine.operations }
