-- What expressions and effects without faults come to is well typed.
use Rattle.std.specs.Prelude.{ℕ, ◌≡◌, ◌≢◌, ◌≤◌, true, false, List, [], ◌∷◌, length, map, count_by, All, Option, None, Some, IfSome, is_some}
use Rattle.qc_terms.specs.State.{Context}
use Rattle.qc_terms.specs.Tree.{tree_of, width_of}
use Rattle.qc_terms.specs.Typing.{IsTyped, IsTypedEffect, IsRegister, is_event}
use Rattle.qc_descr.specs.declared.description.OperandKind.{OperandKind}
use Rattle.qc_descr.specs.Valid.{NamesOperands, NamesPlace, EffectNames}
use Rattle.qc_facts.specs.declared.facts.Local.{Local}
use Rattle.qc_facts.specs.declared.facts.Local.TheVariants.{Plain as plain, Applied as applied}
use Rattle.qc_facts.specs.declared.facts.Target.{Target}
use Rattle.qc_facts.specs.Values.{Value}
use Rattle.qc_facts.specs.Facts.{Facts}
use Rattle.qc_resolve.specs.Scopes.{Bound, argument, operand, function, Act, Meaning, Scope, Names, operand_value, target_of_operand}
use Rattle.qc_resolve.specs.Effects.{effect_of, clashes_of_act}
use Rattle.qc_resolve.specs.Declarations.{signatures_of}

-- all numbers of the facts that should be widths are, and register transfer lists are typed for them
pub record IsComplete (facts : Facts) (context : Context) : Type 0 where
  pub word : facts.word ≡ Some context.word
  pub most : context.word ≤ 64
  pub widths : map (λ s. s.width) facts.spaces ≡ map Some context.widths
  pub counts : map (λ s. s.cells) facts.spaces ≡ context.counts
  pub bits : All (λ width. width ≤ 64) context.widths

module _ (context : Context) (kinds : List OperandKind) where
  -- the value has a width, which is its term's, and the term is well typed and names operands as what they are
  pub record IsTypedValue (v : Value) : Type 0 where
    pub sound : v.sound ≡ true
    pub width : v.width ≡ Some (width_of (tree_of v.term))
    pub most : width_of (tree_of v.term) ≤ 64
    pub typed : IsTyped context (tree_of v.term)
    pub names : NamesOperands context.word kinds (tree_of v.term)

  -- nothing is wrong with a value but clashes of widths
  abbrev pub IsGood : Value → Type 0
  IsGood v = v.clashes ≡ [] → IsTypedValue v

  pub record IsTypedTarget (target : Target) : Type 0 where
    pub bits : ℕ
    pub width : target.width ≡ Some bits
    pub register : IsRegister context target.place bits
    pub names : NamesPlace kinds target.place

  -- what a name stands for is good, for any good arguments if it is a function
  abbrev pub IsGoodBound : Bound → Type 0
  IsGoodBound (argument v target) = IsGood v × IfSome target IsTypedTarget
  IsGoodBound (operand number facts) =
      ((token : ℕ) → IsTypedValue (operand_value (Some context.word) number facts token))
      × IfSome (target_of_operand number facts) IsTypedTarget
  IsGoodBound (function arity apply) =
      (token : ℕ) (args : List Value) → length args ≡ arity → All IsGood args → IsGood (apply token args)

  -- One effect is good: without clashes it is typed.
  abbrev pub IsGoodAct : Act → Type 0
  IsGoodAct act =
      clashes_of_act act ≡ [] → IsTypedEffect context (effect_of act) × EffectNames context.word kinds (effect_of act)

  -- A parameter that is a function stands for one of as many arguments, and one that targets stand for stands for a
  -- register.
  abbrev pub SuitsParam : Option ℕ → List ℕ → Bound → Type 0
  SuitsParam None targets (argument v target) =
      IsGoodBound (argument v target) × (targets ≢ [] → is_some target ≡ true)
  SuitsParam None targets _ = ⊥
  SuitsParam (Some arity) targets (function n apply) = (n ≡ arity) × IsGoodBound (function n apply)
  SuitsParam (Some arity) targets _ = ⊥

  -- the same for each parameter; a function has no targets
  abbrev pub SuitParams : List (Option ℕ) → List (List ℕ) → List Bound → Type 0
  SuitParams [] targets [] = Unit {0}
  SuitParams [] targets (b ∷ bounds) = ⊥
  SuitParams (p ∷ params) targets [] = ⊥
  SuitParams (p ∷ params) [] (b ∷ bounds) = SuitsParam p [] b × SuitParams params [] bounds
  SuitParams (p ∷ params) (tokens ∷ targets) (b ∷ bounds) = SuitsParam p tokens b × SuitParams params targets bounds

  -- what a function comes to, and what named effects do, is good where the parameters stand for what suits them
  pub record IsGoodMeaning (m : Meaning) : Type 0 where
    pub untargeted : m.signature.effects ≡ false → m.signature.targets ≡ []
    pub value : m.signature.effects ≡ false → (token : ℕ) (bounds : List Bound)
        → SuitParams m.signature.params m.signature.targets bounds → IsGood (m.apply token bounds)
    pub acts : m.signature.effects ≡ true → (bounds : List Bound)
        → SuitParams m.signature.params m.signature.targets bounds → All IsGoodAct (m.acts bounds)

  abbrev pub AreGoodLocals : List (List ℕ × Bound) → Type 0
  AreGoodLocals locals = All (λ local. IsGoodBound local.1) locals

  -- everything that a scope has is good
  pub record IsGoodScope (scope : Scope) : Type 0 where
    pub facts : IsComplete scope.facts context
    pub locals : AreGoodLocals scope.locals
    pub functions : All IsGoodMeaning scope.functions

-- what is known of a parameter or an operand is so of what it stands for
abbrev pub MatchesLocal : Local → Bound → Type 0
MatchesLocal (plain fits) (argument v target) = Unit {0}
MatchesLocal (plain fits) (operand number facts) = fits ≡ is_some (target_of_operand number facts)
MatchesLocal (plain fits) (function arity apply) = ⊥
MatchesLocal (applied arity) (function n apply) = n ≡ arity
MatchesLocal (applied arity) _ = ⊥

abbrev pub MatchLocals : List (List ℕ × Local) → List (List ℕ × Bound) → Type 0
MatchLocals [] [] = Unit {0}
MatchLocals [] (b ∷ bounds) = ⊥
MatchLocals (l ∷ locals) [] = ⊥
MatchLocals (l ∷ locals) (b ∷ bounds) = (l.0 ≡ b.0) × MatchesLocal l.1 b.1 × MatchLocals locals bounds

-- What is known of names without uses is so in a scope.
pub record Matches (names : Names) (scope : Scope) : Type 0 where
  pub facts : names.facts ≡ scope.facts
  pub locals : MatchLocals names.locals scope.locals
  pub functions : names.functions ≡ signatures_of scope.functions

-- how many effects show something
abbrev pub count_events : List Act → ℕ
count_events acts = count_by (λ act. is_event act.to) acts

-- named effects show as many things as is known of them
pub record TellsEvents (m : Meaning) : Type 0 where
  pub count : (bounds : List Bound) → length bounds ≡ length m.signature.params
      → count_events (m.acts bounds) ≡ length m.signature.events
