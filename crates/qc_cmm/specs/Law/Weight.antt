-- A program weighs no more than its text has bytes.
use Rattle.std.specs.Prelude.{ℕ, suc, ◌≡◌, ◌≢◌, ◌≤◌, ◌+◌, List, [], ◌∷◌, ◌++◌, Option, None, Some, length, map, codes, Result, Ok, Err, IfOk}
use Rattle.std.specs.List.{flat_map, sum, sum_by}
use Rattle.std.proofs.Common.{refl, ap, sym, subst, arith}
use Rattle.std.proofs.lemmas.List.{length-append, length-map}
use Rattle.std.proofs.lemmas.List.Concat.{length-flat_map}
use Rattle.std.proofs.lemmas.List.Sums.{sum_by-cons, sum_by-append, sum_by-le-sum_by}
use Rattle.qc_text.specs.declared.token.Kind.{Kind}
use Rattle.qc_text.specs.declared.token.Token.{Token}
use Rattle.qc_text.specs.Pieces.{Piece, IsPieceText, AreCut, token_at, tokens_of}
use Rattle.qc_text.specs.Tokens.{token_text}
use Rattle.qc_text.specs.PrintedWords.{Words}
use Rattle.qc_grammar.specs.declared.answers.ReadTextEnd.{ReadTextEnd}
use Rattle.qc_grammar.specs.Lexeme.{Lexeme, Vocabulary, classed_from, lexemes, lexemes_from}
use Rattle.qc_grammar.specs.Spelled.{spelling}
use Rattle.qc_grammar.specs.TextAnswer.{IsTextAnswer, AnswersText}
use Rattle.qc_grammar.specs.Printing.{as_text, next_words, separated_words}
use Rattle.qc_grammar.specs.Law.ReadAgain.{Fronted, fronted}
use Rattle.qc_cmm.specs.declared.syntax.Literal.{Literal}
use Rattle.qc_cmm.specs.declared.syntax.Literal.TheVariants.{Plain, Negative}
use Rattle.qc_cmm.specs.declared.syntax.Expr.{Expr, roll-Expr, map-Expr, ind-Expr, fold-roll-Expr}
use Rattle.qc_cmm.specs.declared.syntax.Expr.TheOpen as layer
use Rattle.qc_cmm.specs.declared.syntax.Expr.TheOpen.{Expr-F}
use Rattle.qc_cmm.specs.declared.syntax.Source.TheVariants as assigned
use Rattle.qc_cmm.specs.declared.syntax.Statement.{Statement, roll-Statement, map-Statement, ind-Statement, fold-roll-Statement}
use Rattle.qc_cmm.specs.declared.syntax.Statement.TheOpen as one
use Rattle.qc_cmm.specs.declared.syntax.Statement.TheOpen.{Statement-F}
use Rattle.qc_cmm.specs.declared.syntax.BodyItem.TheVariants as line
use Rattle.qc_cmm.specs.declared.syntax.Part.TheVariants as part_of
use Rattle.qc_cmm.specs.declared.syntax.Program.{Program}
use Rattle.qc_cmm.specs.Cmm.{cmm, program}
use Rattle.qc_cmm.specs.Vocabulary.{vocabulary}
use Rattle.qc_cmm.specs.Law.Texts.{program_texts}
use Rattle.qc_cmm.specs.Printed.{literal_words, name_words, indexed, applied_to, expr_layer, expr_words, arguments_words, source_words, in_braces, statement_layer, statement_words, body_item_words, body_items_words, declaration_words, body_words, param_words, params_words, procedure_words, part_words, target_words, program_words}
use Rattle.qc_cmm.specs.Weight.{nodes_layer, nodes, source_nodes, weights_layer, statement_weights, body_item_weight, procedure_weight, part_weight, weight}

-- each weighs no more than it has words
abbrev IsLight : {X : Type 0} → (X → ℕ) → (X → Words) → Type 0
IsLight {X} weigh words = (x : X) → weigh x ≤ length (words x)

light_flat : {X : Type 0} (weigh : X → ℕ) (words : X → Words) → IsLight weigh words → (xs : List X)
    → sum_by weigh xs ≤ length (flat_map words xs)
light_flat weigh words light xs =
    subst (λ n. sum_by weigh xs ≤ n) (sym (length-flat_map words xs))
    (sum_by-le-sum_by weigh (λ x. length (words x)) xs light)

light_separated : {X : Type 0} (weigh : X → ℕ) (words : X → Words) → IsLight weigh words → (xs : List X)
    → sum_by weigh xs ≤ length (separated_words (codes ",") words xs)
unfolding next_words
light_separated weigh words light [] = omega arith
light_separated weigh words light (x ∷ xs) =
    omega (
      arith,
      light x,
      sum_by-cons weigh x xs,
      length-append (words x) (flat_map (next_words (codes ",") words) xs),
      light_flat weigh (next_words (codes ",") words) (λ y. omega (arith, light y)) xs,
    )

-- there are no more things than words of them
few_next : {X : Type 0} (words : X → Words) (xs : List X) → length xs ≤ length (flat_map (next_words (codes ",") words) xs)
unfolding next_words
few_next words [] = omega arith
few_next words (x ∷ xs) =
    omega (
      arith,
      few_next words xs,
      length-append (next_words (codes ",") words x) (flat_map (next_words (codes ",") words) xs),
    )

few : {X : Type 0} (words : X → Words) → ((x : X) → 1 ≤ length (words x)) → (xs : List X)
    → length xs ≤ length (separated_words (codes ",") words xs)
few words some [] = omega arith
few words some (x ∷ xs) =
    omega (arith, some x, few_next words xs, length-append (words x) (flat_map (next_words (codes ",") words) xs))

some_literal : (literal : Literal) → 1 ≤ length (literal_words literal)
some_literal (Plain value) = omega arith
some_literal (Negative token value) = omega arith

-- an expression
abbrev IsLightExpr : Expr → Type 0
IsLightExpr e = nodes e ≤ length (expr_words e)

expr_step : (y : Expr-F ((e : Expr) × IsLightExpr e))
    → nodes_layer (map-Expr Expr ℕ nodes (map-Expr ((e : Expr) × IsLightExpr e) Expr (λ a. a.0) y))
    ≤ length (expr_layer (map-Expr Expr Words expr_words (map-Expr ((e : Expr) × IsLightExpr e) Expr (λ a. a.0) y)))
expr_step (layer.Literal value) = some_literal value
expr_step (layer.Name name) = omega arith
expr_step (layer.Load t a) = omega (arith, a.1, length-append (expr_words a.0) (codes "]" ∷ []))
expr_step (layer.Unary prim a) = omega (arith, a.1, length-append (expr_words a.0) (codes ")" ∷ []))
expr_step (layer.Binary prim a b) =
    omega (
      arith,
      a.1,
      b.1,
      length-append (expr_words a.0) (codes "," ∷ (expr_words b.0 ++ codes ")" ∷ [])),
      length-append (expr_words b.0) (codes ")" ∷ []),
    )

light_exprs : IsLight nodes expr_words
unfolding nodes expr_words
light_exprs = ind-Expr IsLightExpr (λ x y is.
    subst (λ n. n ≤ length (expr_words (roll-Expr x))) (sym (fold-roll-Expr ℕ nodes_layer x))
    (subst (λ ws. nodes_layer (map-Expr Expr ℕ nodes x) ≤ length ws) (sym (fold-roll-Expr Words expr_layer x))
    (subst (λ z. nodes_layer (map-Expr Expr ℕ nodes z) ≤ length (expr_layer (map-Expr Expr Words expr_words z))) is
    (expr_step y))))

light_source : IsLight source_nodes source_words
unfolding source_words
light_source (assigned.Input token) = omega arith
light_source (assigned.Value value) = light_exprs value
light_source (assigned.Call name args) =
    omega (
      arith,
      light_separated nodes expr_words light_exprs args,
      length-append (separated_words (codes ",") expr_words args) (codes ")" ∷ []),
    )

-- a statement, with those in its blocks
abbrev IsLightStatement : Statement → Type 0
IsLightStatement s = sum (statement_weights s) ≤ length (statement_words s)

abbrev Light : Type 0
Light = (s : Statement) × IsLightStatement s

abbrev block_of : List Light → List Statement
block_of body = map (λ a. a.0) body

abbrev weights_in : List Light → List ℕ
weights_in body = flat_map (λ weights. weights) (map statement_weights (block_of body))

abbrev words_in_block : List Light → Words
words_in_block body = flat_map (λ words. words) (map statement_words (block_of body))

light_block : (body : List Light) → sum (weights_in body) ≤ length (words_in_block body)
light_block [] = omega arith
light_block (a ∷ body) =
    omega (
      arith,
      a.1,
      light_block body,
      sum_by-append (λ x. x) (statement_weights a.0) (weights_in body),
      length-append (statement_words a.0) (words_in_block body),
    )

statement_step : (y : Statement-F Light)
    → sum (weights_layer (map-Statement Statement (List ℕ) statement_weights
    (map-Statement Light Statement (λ a. a.0) y)))
    ≤ length (statement_layer (map-Statement Statement Words statement_words
    (map-Statement Light Statement (λ a. a.0) y)))
statement_step (one.Goto token label) = omega arith
statement_step (one.Return token results) =
    omega (
      arith,
      light_separated nodes expr_words light_exprs results,
      length-append (separated_words (codes ",") expr_words results) (codes ")" ∷ []),
      length-append (arguments_words results) (codes ";" ∷ []),
    )
statement_step (one.If token condition body) =
    omega (
      arith,
      light_exprs condition,
      light_block body,
      sum_by-cons (λ x. x) (1 + nodes condition) (weights_in body),
      length-append (expr_words condition) (in_braces (words_in_block body)),
      length-append (words_in_block body) (codes "}" ∷ []),
    )
statement_step (one.IfElse token condition body others) =
    omega (
      arith,
      light_exprs condition,
      light_block body,
      light_block others,
      sum_by-cons (λ x. x) (1 + nodes condition) (weights_in body ++ weights_in others),
      sum_by-append (λ x. x) (weights_in body) (weights_in others),
      length-append (expr_words condition)
          (in_braces (words_in_block body) ++ codes "else" ∷ in_braces (words_in_block others)),
      length-append (in_braces (words_in_block body)) (codes "else" ∷ in_braces (words_in_block others)),
      length-append (words_in_block body) (codes "}" ∷ []),
      length-append (words_in_block others) (codes "}" ∷ []),
    )
statement_step (one.Out token value) =
    omega (
      arith,
      light_exprs value,
      length-append (applied_to (expr_words value)) (codes ";" ∷ []),
      length-append (expr_words value) (codes ")" ∷ []),
    )
statement_step (one.Store t address value) =
    omega (
      arith,
      light_exprs address,
      light_exprs value,
      length-append (indexed (expr_words address)) (codes "=" ∷ (expr_words value ++ codes ";" ∷ [])),
      length-append (expr_words address) (codes "]" ∷ []),
      length-append (expr_words value) (codes ";" ∷ []),
    )
statement_step (one.Call name args) =
    omega (
      arith,
      light_separated nodes expr_words light_exprs args,
      length-append (separated_words (codes ",") expr_words args) (codes ")" ∷ []),
      length-append (arguments_words args) (codes ";" ∷ []),
    )
statement_step (one.Assign targets source) =
    omega (
      arith,
      light_source source,
      few name_words (λ n. omega arith) targets,
      length-append (separated_words (codes ",") name_words targets)
          (codes "=" ∷ (source_words source ++ codes ";" ∷ [])),
      length-append (source_words source) (codes ";" ∷ []),
    )

light_statements : (s : Statement) → IsLightStatement s
unfolding statement_weights statement_words
light_statements = ind-Statement IsLightStatement (λ x y is.
    subst (λ ns. sum ns ≤ length (statement_words (roll-Statement x))) (sym (fold-roll-Statement (List ℕ) weights_layer x))
    (subst (λ ws. sum (weights_layer (map-Statement Statement (List ℕ) statement_weights x)) ≤ length ws)
    (sym (fold-roll-Statement Words statement_layer x))
    (subst (λ z. sum (weights_layer (map-Statement Statement (List ℕ) statement_weights z))
    ≤ length (statement_layer (map-Statement Statement Words statement_words z))) is (statement_step y))))

light_body_items : IsLight body_item_weight body_item_words
unfolding body_item_words
light_body_items (line.Label name) = omega arith
light_body_items (line.Statement statement) = light_statements statement

light_declarations : IsLight (λ d. length d.names) declaration_words
unfolding declaration_words
light_declarations d =
    omega (
      arith,
      few name_words (λ n. omega arith) d.names,
      length-append (separated_words (codes ",") name_words d.names) (codes ";" ∷ []),
    )

light_procedure : IsLight procedure_weight procedure_words
unfolding param_words
light_procedure p =
    omega (
      arith,
      few param_words (λ n. omega arith) p.params,
      light_flat (λ d. length d.names) declaration_words light_declarations p.variables,
      light_flat body_item_weight body_item_words light_body_items p.body,
      length-append (params_words p.params) (codes "{" ∷ body_words p.variables p.body),
      length-append (separated_words (codes ",") param_words p.params) (codes ")" ∷ []),
      length-append (flat_map declaration_words p.variables) (body_items_words p.body),
      length-append (flat_map body_item_words p.body) (codes "}" ∷ []),
    )

light_parts : IsLight part_weight part_words
unfolding part_words
light_parts (part_of.Section token name data_of) = omega arith
light_parts (part_of.Procedure p) = light_procedure p

-- a program weighs no more than it has words
pub light_program : (p : Program) → weight p ≤ length (program_words p)
light_program p =
    omega (
      arith,
      light_flat part_weight part_words light_parts p.parts,
      length-append (target_words p.target) (flat_map part_words p.parts),
    )

-- A file has no more tokens than bytes, but for its end.
some_bytes : (given : List ℕ) → given ≢ [] → 1 ≤ length given
some_bytes [] some = absurd (some refl)
some_bytes (b ∷ bs) some = omega arith

few_at : (kind : Option Kind) (given : List ℕ) → IsPieceText kind given → (start end : ℕ)
    → length (token_at start kind end) ≤ length given
few_at None given is start end = omega arith
few_at (Some kind) given is start end = some_bytes given is.1

few_tokens : (bytes : List ℕ) (pieces : List Piece) (rest : List ℕ) (at : ℕ) → AreCut bytes pieces rest
    → length (tokens_of at pieces) ≤ suc (length bytes)
few_tokens bytes [] rest at cut = omega arith
few_tokens bytes (piece ∷ pieces) rest at cut =
    omega (
      arith,
      few_at piece.kind piece.text cut.1.is at (at + length piece.text),
      few_tokens cut.0 pieces rest (at + length piece.text) cut.2,
      length-append (token_at at piece.kind (at + length piece.text)) (tokens_of (at + length piece.text) pieces),
      ap length cut.1.split,
      length-append piece.text cut.0,
    )

as_many : (words : Vocabulary) (bytes : List ℕ) (n : ℕ) (before : List (Kind × List ℕ)) (tokens : List Token)
    → length (lexemes_from bytes n (classed_from words bytes before tokens)) ≡ length tokens
as_many words bytes n before [] = refl
as_many words bytes n before (token ∷ tokens) =
    ap suc (as_many words bytes (suc n) (before ++ (token.kind, token_text bytes token) ∷ []) tokens)

-- a file's program weighs no more than the file has bytes
pub light_file : (bytes : List ℕ) (p : Program) → IsTextAnswer cmm program vocabulary bytes (Ok p)
    → weight p ≤ length bytes
light_file bytes p answer =
    let found : List Lexeme = lexemes vocabulary bytes answer.tokens in
    let front : Fronted cmm program vocabulary as_text found p =
    fronted cmm program vocabulary as_text found p answer.is.phrase in
    omega (
      arith,
      light_program p,
      ap length (program_texts front.front p front.phrase),
      length-map front.front (spelling as_text),
      ap length front.split,
      length-append front.front (front.last ∷ []),
      as_many vocabulary bytes 0 [] answer.tokens,
      ap length answer.are.are,
      few_tokens bytes answer.are.pieces [] 0 answer.are.cut,
    )

pub light_answer : (bytes : List ℕ) (result : Result Program ReadTextEnd)
    → AnswersText cmm program vocabulary bytes result → IfOk result (λ p. weight p ≤ length bytes)
light_answer bytes (Ok p) answers = light_file bytes p answers.is
light_answer bytes (Err why) answers = tt
