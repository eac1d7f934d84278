-- What is said of each sort of statement.
use Rattle.std.specs.Prelude.{ℕ, ◌≡◌, Bool, List, map, Option}
use Rattle.std.proofs.Common.{ap, sym, ◌∙◌}
use Rattle.qc_grammar.specs.declared.cursor.Ident.{Ident}
use Rattle.qc_cmm.specs.declared.syntax.WordType.{WordType}
use Rattle.qc_cmm.specs.declared.syntax.Expr.{Expr}
use Rattle.qc_cmm.specs.declared.syntax.Source.{Source}
use Rattle.qc_cmm.specs.declared.syntax.Statement.{Statement, fold-roll-Statement}
use Rattle.qc_cmm.specs.declared.syntax.Statement.TheVariants as statement
use Rattle.qc_cmm.specs.declared.syntax.Statement.TheOpen as one
use Rattle.qc_names.specs.Law.Reported.{reported-append, both_assoc, both-none}
use Rattle.qc_cmmtype.specs.declared.faults.ProgramFault.{ProgramFault}
use Rattle.qc_cmmtype.specs.Scopes.{Scope}
use Rattle.qc_cmmtype.specs.Statements.{statement_layer, statement_faults_of}
use Rattle.qc_cmmtype.specs.Endings.{ends, ends_layer, first_return, returns_layer}

pub faults_of-goto : (token : ℕ) (label : Ident) → statement_faults_of (statement.Goto token label)
    ≡ statement_layer (one.Goto token label)
unfolding statement_faults_of
faults_of-goto token label = ap statement_faults_of (sym (statement.rolls-Goto token label))
    ∙ fold-roll-Statement (Scope → List ProgramFault) statement_layer (one.Goto token label)

pub faults_of-return : (token : ℕ) (results : List Expr) → statement_faults_of (statement.Return token results)
    ≡ statement_layer (one.Return token results)
unfolding statement_faults_of
faults_of-return token results = ap statement_faults_of (sym (statement.rolls-Return token results))
    ∙ fold-roll-Statement (Scope → List ProgramFault) statement_layer (one.Return token results)

pub faults_of-if : (token : ℕ) (condition : Expr) (body : List Statement) → statement_faults_of (statement.If token condition body)
    ≡ statement_layer (one.If token condition (map statement_faults_of body))
unfolding statement_faults_of
faults_of-if token condition body = ap statement_faults_of (sym (statement.rolls-If token condition body))
    ∙ fold-roll-Statement (Scope → List ProgramFault) statement_layer (one.If token condition body)

pub faults_of-if_else : (token : ℕ) (condition : Expr) (body otherwise : List Statement) → statement_faults_of (statement.IfElse token condition body otherwise)
    ≡ statement_layer (one.IfElse token condition (map statement_faults_of body) (map statement_faults_of otherwise))
unfolding statement_faults_of
faults_of-if_else token condition body otherwise = ap statement_faults_of (sym (statement.rolls-IfElse token condition body otherwise))
    ∙ fold-roll-Statement (Scope → List ProgramFault) statement_layer (one.IfElse token condition body otherwise)

pub faults_of-out : (token : ℕ) (value : Expr) → statement_faults_of (statement.Out token value)
    ≡ statement_layer (one.Out token value)
unfolding statement_faults_of
faults_of-out token value = ap statement_faults_of (sym (statement.rolls-Out token value))
    ∙ fold-roll-Statement (Scope → List ProgramFault) statement_layer (one.Out token value)

pub faults_of-store : (t : WordType) (address value : Expr) → statement_faults_of (statement.Store t address value)
    ≡ statement_layer (one.Store t address value)
unfolding statement_faults_of
faults_of-store t address value = ap statement_faults_of (sym (statement.rolls-Store t address value))
    ∙ fold-roll-Statement (Scope → List ProgramFault) statement_layer (one.Store t address value)

pub faults_of-call : (name : Ident) (args : List Expr) → statement_faults_of (statement.Call name args)
    ≡ statement_layer (one.Call name args)
unfolding statement_faults_of
faults_of-call name args = ap statement_faults_of (sym (statement.rolls-Call name args))
    ∙ fold-roll-Statement (Scope → List ProgramFault) statement_layer (one.Call name args)

pub faults_of-assign : (targets : List Ident) (source : Source) → statement_faults_of (statement.Assign targets source)
    ≡ statement_layer (one.Assign targets source)
unfolding statement_faults_of
faults_of-assign targets source = ap statement_faults_of (sym (statement.rolls-Assign targets source))
    ∙ fold-roll-Statement (Scope → List ProgramFault) statement_layer (one.Assign targets source)

pub faults-goto : (scope : Scope) (token : ℕ) (label : Ident) → statement_faults_of (statement.Goto token label) scope
    ≡ statement_layer (one.Goto token label) scope
faults-goto scope token label = ap (λ f. f scope) (faults_of-goto token label)

pub faults-return : (scope : Scope) (token : ℕ) (results : List Expr) → statement_faults_of (statement.Return token results) scope
    ≡ statement_layer (one.Return token results) scope
faults-return scope token results = ap (λ f. f scope) (faults_of-return token results)

pub faults-if : (scope : Scope) (token : ℕ) (condition : Expr) (body : List Statement) → statement_faults_of (statement.If token condition body) scope
    ≡ statement_layer (one.If token condition (map statement_faults_of body)) scope
faults-if scope token condition body = ap (λ f. f scope) (faults_of-if token condition body)

pub faults-if_else : (scope : Scope) (token : ℕ) (condition : Expr) (body otherwise : List Statement) → statement_faults_of (statement.IfElse token condition body otherwise) scope
    ≡ statement_layer (one.IfElse token condition (map statement_faults_of body) (map statement_faults_of otherwise)) scope
faults-if_else scope token condition body otherwise = ap (λ f. f scope) (faults_of-if_else token condition body otherwise)

pub faults-out : (scope : Scope) (token : ℕ) (value : Expr) → statement_faults_of (statement.Out token value) scope
    ≡ statement_layer (one.Out token value) scope
faults-out scope token value = ap (λ f. f scope) (faults_of-out token value)

pub faults-store : (scope : Scope) (t : WordType) (address value : Expr) → statement_faults_of (statement.Store t address value) scope
    ≡ statement_layer (one.Store t address value) scope
faults-store scope t address value = ap (λ f. f scope) (faults_of-store t address value)

pub faults-call : (scope : Scope) (name : Ident) (args : List Expr) → statement_faults_of (statement.Call name args) scope
    ≡ statement_layer (one.Call name args) scope
faults-call scope name args = ap (λ f. f scope) (faults_of-call name args)

pub faults-assign : (scope : Scope) (targets : List Ident) (source : Source) → statement_faults_of (statement.Assign targets source) scope
    ≡ statement_layer (one.Assign targets source) scope
faults-assign scope targets source = ap (λ f. f scope) (faults_of-assign targets source)

pub ruleset statements = (faults-goto, faults-return, faults-if, faults-if_else, faults-out, faults-store, faults-call, faults-assign, reported-append, both_assoc, both-none)

pub ends-goto : (token : ℕ) (label : Ident) → ends (statement.Goto token label)
    ≡ ends_layer (one.Goto token label)
unfolding ends
ends-goto token label = ap ends (sym (statement.rolls-Goto token label))
    ∙ fold-roll-Statement Bool ends_layer (one.Goto token label)

pub ends-return : (token : ℕ) (results : List Expr) → ends (statement.Return token results)
    ≡ ends_layer (one.Return token results)
unfolding ends
ends-return token results = ap ends (sym (statement.rolls-Return token results))
    ∙ fold-roll-Statement Bool ends_layer (one.Return token results)

pub ends-if : (token : ℕ) (condition : Expr) (body : List Statement) → ends (statement.If token condition body)
    ≡ ends_layer (one.If token condition (map ends body))
unfolding ends
ends-if token condition body = ap ends (sym (statement.rolls-If token condition body))
    ∙ fold-roll-Statement Bool ends_layer (one.If token condition body)

pub ends-if_else : (token : ℕ) (condition : Expr) (body otherwise : List Statement) → ends (statement.IfElse token condition body otherwise)
    ≡ ends_layer (one.IfElse token condition (map ends body) (map ends otherwise))
unfolding ends
ends-if_else token condition body otherwise = ap ends (sym (statement.rolls-IfElse token condition body otherwise))
    ∙ fold-roll-Statement Bool ends_layer (one.IfElse token condition body otherwise)

pub ends-out : (token : ℕ) (value : Expr) → ends (statement.Out token value)
    ≡ ends_layer (one.Out token value)
unfolding ends
ends-out token value = ap ends (sym (statement.rolls-Out token value))
    ∙ fold-roll-Statement Bool ends_layer (one.Out token value)

pub ends-store : (t : WordType) (address value : Expr) → ends (statement.Store t address value)
    ≡ ends_layer (one.Store t address value)
unfolding ends
ends-store t address value = ap ends (sym (statement.rolls-Store t address value))
    ∙ fold-roll-Statement Bool ends_layer (one.Store t address value)

pub ends-call : (name : Ident) (args : List Expr) → ends (statement.Call name args)
    ≡ ends_layer (one.Call name args)
unfolding ends
ends-call name args = ap ends (sym (statement.rolls-Call name args))
    ∙ fold-roll-Statement Bool ends_layer (one.Call name args)

pub ends-assign : (targets : List Ident) (source : Source) → ends (statement.Assign targets source)
    ≡ ends_layer (one.Assign targets source)
unfolding ends
ends-assign targets source = ap ends (sym (statement.rolls-Assign targets source))
    ∙ fold-roll-Statement Bool ends_layer (one.Assign targets source)

pub ruleset endings = (ends-goto, ends-return, ends-if, ends-if_else, ends-out, ends-store, ends-call, ends-assign)

pub return-goto : (token : ℕ) (label : Ident) → first_return (statement.Goto token label)
    ≡ returns_layer (one.Goto token label)
unfolding first_return
return-goto token label = ap first_return (sym (statement.rolls-Goto token label))
    ∙ fold-roll-Statement (Option ℕ) returns_layer (one.Goto token label)

pub return-return : (token : ℕ) (results : List Expr) → first_return (statement.Return token results)
    ≡ returns_layer (one.Return token results)
unfolding first_return
return-return token results = ap first_return (sym (statement.rolls-Return token results))
    ∙ fold-roll-Statement (Option ℕ) returns_layer (one.Return token results)

pub return-if : (token : ℕ) (condition : Expr) (body : List Statement) → first_return (statement.If token condition body)
    ≡ returns_layer (one.If token condition (map first_return body))
unfolding first_return
return-if token condition body = ap first_return (sym (statement.rolls-If token condition body))
    ∙ fold-roll-Statement (Option ℕ) returns_layer (one.If token condition body)

pub return-if_else : (token : ℕ) (condition : Expr) (body otherwise : List Statement) → first_return (statement.IfElse token condition body otherwise)
    ≡ returns_layer (one.IfElse token condition (map first_return body) (map first_return otherwise))
unfolding first_return
return-if_else token condition body otherwise = ap first_return (sym (statement.rolls-IfElse token condition body otherwise))
    ∙ fold-roll-Statement (Option ℕ) returns_layer (one.IfElse token condition body otherwise)

pub return-out : (token : ℕ) (value : Expr) → first_return (statement.Out token value)
    ≡ returns_layer (one.Out token value)
unfolding first_return
return-out token value = ap first_return (sym (statement.rolls-Out token value))
    ∙ fold-roll-Statement (Option ℕ) returns_layer (one.Out token value)

pub return-store : (t : WordType) (address value : Expr) → first_return (statement.Store t address value)
    ≡ returns_layer (one.Store t address value)
unfolding first_return
return-store t address value = ap first_return (sym (statement.rolls-Store t address value))
    ∙ fold-roll-Statement (Option ℕ) returns_layer (one.Store t address value)

pub return-call : (name : Ident) (args : List Expr) → first_return (statement.Call name args)
    ≡ returns_layer (one.Call name args)
unfolding first_return
return-call name args = ap first_return (sym (statement.rolls-Call name args))
    ∙ fold-roll-Statement (Option ℕ) returns_layer (one.Call name args)

pub return-assign : (targets : List Ident) (source : Source) → first_return (statement.Assign targets source)
    ≡ returns_layer (one.Assign targets source)
unfolding first_return
return-assign targets source = ap first_return (sym (statement.rolls-Assign targets source))
    ∙ fold-roll-Statement (Option ℕ) returns_layer (one.Assign targets source)

pub ruleset returns = (return-goto, return-return, return-if, return-if_else, return-out, return-store, return-call, return-assign)
