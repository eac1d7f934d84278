-- The parts of what each sort of expression comes to.
use Rattle.std.proofs.Common.{ℕ, ◌≡◌, ◌++◌, List, [], Some, None, map, ap}
use Rattle.qc_grammar.specs.declared.cursor.Ident.{Ident}
use Rattle.qc_grammar.specs.declared.cursor.Number.{Number}
use Rattle.qc_lrtl.specs.declared.syntax.Expr.{Expr}
use Rattle.qc_lrtl.specs.declared.syntax.Expr.TheVariants as expr
use Rattle.qc_resolve.specs.Scopes.{Names, local_in}
use Rattle.qc_facts.specs.Facts.{cell_faults}
use Rattle.qc_facts.specs.Numbers.{width_faults, literal_faults, access_faults}
use Rattle.qc_names.specs.Law.Reported.{reported-append, both_assoc, both-none}
use Rattle.qc_resolve.specs.Expressions.{faults_in, alone_faults, use_faults, expression_of, first_token, bare_name, expression-literal, expression-input, expression-after, expression-mem, expression-zx, expression-sx, expression-slice, expression-name, expression-call, expression-cell}

pub bare-literal : (value bits : Number) → bare_name (expr.Literal value bits) ≡ None
bare-literal value bits = ap (λ e. e.bare) (expression-literal value bits)

pub bare-input : (token : ℕ) → bare_name (expr.Input token) ≡ None
bare-input token = ap (λ e. e.bare) (expression-input token)

pub bare-after : (token : ℕ) → bare_name (expr.After token) ≡ None
bare-after token = ap (λ e. e.bare) (expression-after token)

pub bare-mem : (token : ℕ) (bits : Number) (address : Expr) → bare_name (expr.Mem token bits address) ≡ None
bare-mem token bits address = ap (λ e. e.bare) (expression-mem token bits address)

pub bare-zx : (token : ℕ) (bits : Number) (arg : Expr) → bare_name (expr.Zx token bits arg) ≡ None
bare-zx token bits arg = ap (λ e. e.bare) (expression-zx token bits arg)

pub bare-sx : (token : ℕ) (bits : Number) (arg : Expr) → bare_name (expr.Sx token bits arg) ≡ None
bare-sx token bits arg = ap (λ e. e.bare) (expression-sx token bits arg)

pub bare-slice : (token : ℕ) (low bits : Number) (arg : Expr) → bare_name (expr.Slice token low bits arg) ≡ None
bare-slice token low bits arg = ap (λ e. e.bare) (expression-slice token low bits arg)

pub bare-name : (name : Ident) → bare_name (expr.Name name) ≡ Some name
bare-name name = ap (λ e. e.bare) (expression-name name)

pub bare-call : (name : Ident) (args : List Expr) → bare_name (expr.Call name args) ≡ None
bare-call name args = ap (λ e. e.bare) (expression-call name args)

pub bare-cell : (space : Ident) (cell : Number) → bare_name (expr.Cell space cell) ≡ None
bare-cell space cell = ap (λ e. e.bare) (expression-cell space cell)

pub ruleset bare_names = (
  bare-literal,
  bare-input,
  bare-after,
  bare-mem,
  bare-zx,
  bare-sx,
  bare-slice,
  bare-name,
  bare-call,
  bare-cell,
)

pub first-literal : (value bits : Number) → first_token (expr.Literal value bits) ≡ value.token
first-literal value bits = ap (λ e. e.first) (expression-literal value bits)

pub first-input : (token : ℕ) → first_token (expr.Input token) ≡ token
first-input token = ap (λ e. e.first) (expression-input token)

pub first-after : (token : ℕ) → first_token (expr.After token) ≡ token
first-after token = ap (λ e. e.first) (expression-after token)

pub first-mem : (token : ℕ) (bits : Number) (address : Expr) → first_token (expr.Mem token bits address) ≡ token
first-mem token bits address = ap (λ e. e.first) (expression-mem token bits address)

pub first-zx : (token : ℕ) (bits : Number) (arg : Expr) → first_token (expr.Zx token bits arg) ≡ token
first-zx token bits arg = ap (λ e. e.first) (expression-zx token bits arg)

pub first-sx : (token : ℕ) (bits : Number) (arg : Expr) → first_token (expr.Sx token bits arg) ≡ token
first-sx token bits arg = ap (λ e. e.first) (expression-sx token bits arg)

pub first-slice : (token : ℕ) (low bits : Number) (arg : Expr) → first_token (expr.Slice token low bits arg) ≡ token
first-slice token low bits arg = ap (λ e. e.first) (expression-slice token low bits arg)

pub first-name : (name : Ident) → first_token (expr.Name name) ≡ name.token
first-name name = ap (λ e. e.first) (expression-name name)

pub first-call : (name : Ident) (args : List Expr) → first_token (expr.Call name args) ≡ name.token
first-call name args = ap (λ e. e.first) (expression-call name args)

pub first-cell : (space : Ident) (cell : Number) → first_token (expr.Cell space cell) ≡ space.token
first-cell space cell = ap (λ e. e.first) (expression-cell space cell)

pub ruleset first_tokens = (
  first-literal,
  first-input,
  first-after,
  first-mem,
  first-zx,
  first-sx,
  first-slice,
  first-name,
  first-call,
  first-cell,
)

-- the faults of each sort of expression
pub faults-literal : (names : Names) (value bits : Number)
    → faults_in names (expr.Literal value bits) ≡ literal_faults value bits
faults-literal names value bits = ap (λ e. e.faults names) (expression-literal value bits)

pub faults-input : (names : Names) (token : ℕ) → faults_in names (expr.Input token) ≡ []
faults-input names token = ap (λ e. e.faults names) (expression-input token)

pub faults-after : (names : Names) (token : ℕ) → faults_in names (expr.After token) ≡ []
faults-after names token = ap (λ e. e.faults names) (expression-after token)

pub faults-mem : (names : Names) (token : ℕ) (bits : Number) (address : Expr)
    → faults_in names (expr.Mem token bits address) ≡ access_faults names.facts.word bits ++ faults_in names address
faults-mem names token bits address = ap (λ e. e.faults names) (expression-mem token bits address)

pub faults-zx : (names : Names) (token : ℕ) (bits : Number) (arg : Expr)
    → faults_in names (expr.Zx token bits arg) ≡ width_faults bits ++ faults_in names arg
faults-zx names token bits arg = ap (λ e. e.faults names) (expression-zx token bits arg)

pub faults-sx : (names : Names) (token : ℕ) (bits : Number) (arg : Expr)
    → faults_in names (expr.Sx token bits arg) ≡ width_faults bits ++ faults_in names arg
faults-sx names token bits arg = ap (λ e. e.faults names) (expression-sx token bits arg)

pub faults-slice : (names : Names) (token : ℕ) (low bits : Number) (arg : Expr)
    → faults_in names (expr.Slice token low bits arg) ≡ width_faults bits ++ faults_in names arg
faults-slice names token low bits arg = ap (λ e. e.faults names) (expression-slice token low bits arg)

pub faults-name : (names : Names) (name : Ident)
    → faults_in names (expr.Name name) ≡ alone_faults (local_in names name.text) name.token
faults-name names name = ap (λ e. e.faults names) (expression-name name)

pub faults-call : (names : Names) (name : Ident) (args : List Expr)
    → faults_in names (expr.Call name args) ≡ use_faults names name (map expression_of args)
faults-call names name args = ap (λ e. e.faults names) (expression-call name args)

pub faults-cell : (names : Names) (space : Ident) (cell : Number)
    → faults_in names (expr.Cell space cell) ≡ cell_faults names.facts space cell
faults-cell names space cell = ap (λ e. e.faults names) (expression-cell space cell)

pub ruleset faults = (
  faults-literal,
  faults-input,
  faults-after,
  faults-mem,
  faults-zx,
  faults-sx,
  faults-slice,
  faults-name,
  faults-call,
  faults-cell,
  reported-append,
  both_assoc,
  both-none,
)
