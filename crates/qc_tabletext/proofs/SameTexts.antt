-- The grammar as one writes it down has the phrases of the grammar that is read.
use Rattle.std.proofs.Common.{ℕ, zero, suc, ◌∙◌, List, [], ◌∷◌, ◌++◌, ap, codes, refl, subst, sym, inl, inr}
use Rattle.std.proofs.lemmas.List.{append-nil}
use Rattle.qc_grammar.specs.declared.cursor.Ident.{Ident}
use Rattle.qc_grammar.specs.Lexeme.{Lexeme}
use Rattle.qc_grammar.specs.Grammar.{Grammar, empty, nonterminal, ◌*>◌, ◌<*◌, ◌<+>◌, ◌<|>◌, ◌<$>◌, headed, name, number, separated, word}
use Rattle.qc_grammar.specs.Language.{Phrases, PhraseBy, Derives, IsPhrase}
use Rattle.qc_grammar.specs.Law.Phrases.{more_phrases}
use Rattle.qc_lrtl.specs.declared.syntax.Expr.{Expr}
use Rattle.qc_lrtl.specs.declared.syntax.Expr.TheVariants as expression
use Rattle.qc_tabletext.specs.declared.syntax.RawBinding.{RawBinding}
use Rattle.qc_tabletext.specs.declared.syntax.RawBinding.TheVariants as bound
use Rattle.qc_tabletext.specs.TableText as grammar
use Rattle.qc_tabletext.specs.TableText.{Rule, TreeOf, any_expr, any_rest, cell, cell_of, child, child_of, derivation, instruction, reserved_name, table_text}
use Rattle.qc_tabletext.specs.Written as plain
use Rattle.qc_tabletext.specs.Written.{written}

module _ (R : (i : Rule) → List Lexeme → TreeOf i → Type 0) where
  -- each phrase of the one grammar is one of the other, with the same tree
  abbrev Within : {A : Type 0} → Grammar Rule TreeOf A → Grammar Rule TreeOf A → Type 0
  Within {A} g h = (tokens : List Lexeme) (tree : A) → PhraseBy R g tokens tree → PhraseBy R h tokens tree

  -- ---- a head and what comes after it

  split : {A B : Type 0} (head : Grammar Rule TreeOf A) (g h : Grammar Rule TreeOf (A → B))
      → Within (headed head (g <|> h)) (headed head g <|> headed head h)
  split head g h tokens tree p = elim p.1.4 [
    | inl q ↦ inl (p.0, (p.1.0, p.1.1, p.1.2, p.1.3, q), p.2)
    | inr q ↦ inr (p.0, (p.1.0, p.1.1, p.1.2, p.1.3, q), p.2)
  ]

  first_of : {A B : Type 0} (head : Grammar Rule TreeOf A) (g h : Grammar Rule TreeOf (A → B))
      → Within (headed head g) (headed head (g <|> h))
  first_of head g h tokens tree p = (p.0, (p.1.0, p.1.1, p.1.2, p.1.3, inl p.1.4), p.2)

  second_of : {A B : Type 0} (head : Grammar Rule TreeOf A) (g h : Grammar Rule TreeOf (A → B))
      → Within (headed head h) (headed head (g <|> h))
  second_of head g h tokens tree p = (p.0, (p.1.0, p.1.1, p.1.2, p.1.3, inr p.1.4), p.2)

  both_to : {A B C : Type 0} (f : A → B → C) (head : Grammar Rule TreeOf A) (tail : Grammar Rule TreeOf B)
      → Within (headed head ((λ y x. f x y) <$> tail)) ((λ p. f p.0 p.1) <$> head <+> tail)
  both_to f head tail tokens tree p =
      ((p.0.0, p.1.4.0), (p.1.0, p.1.1, p.1.2, p.1.3, p.1.4.1), p.2 ∙ ap (λ g. g p.0.0) p.1.4.2)

  both_from : {A B C : Type 0} (f : A → B → C) (head : Grammar Rule TreeOf A) (tail : Grammar Rule TreeOf B)
      → Within ((λ p. f p.0 p.1) <$> head <+> tail) (headed head ((λ y x. f x y) <$> tail))
  both_from f head tail tokens tree p =
      ((p.0.0, λ x. f x p.0.1), (p.1.0, p.1.1, p.1.2, p.1.3, (p.0.1, p.1.4, refl)), p.2)

  bare_to : {A B : Type 0} (f : A → B) (head : Grammar Rule TreeOf A) → Within (headed head (empty f)) (f <$> head)
  bare_to f head tokens tree p = (
    p.0.0,
    subst (λ ts. PhraseBy R head ts p.0.0) (sym (p.1.2 ∙ ap (λ ts. p.1.0 ++ ts) p.1.4.0 ∙ append-nil p.1.0)) p.1.3,
    p.2 ∙ ap (λ g. g p.0.0) p.1.4.1,
  )

  bare_from : {A B : Type 0} (f : A → B) (head : Grammar Rule TreeOf A) → Within (f <$> head) (headed head (empty f))
  bare_from f head tokens tree p =
      ((p.0, f), (tokens, [], sym (append-nil tokens), p.1, (refl, refl)), p.2)

  -- ---- cells, whose spaces may have reserved words as names

  abbrev cells : Grammar Rule TreeOf Expr
  cells = (λ p. expression.Cell p.0 p.1) <$> instruction <+> cell

  cells_to : (text : List ℕ) → Within (reserved_name text) instruction → Within (headed (word text) (cell_of text)) cells
  unfolding cell_of
  cells_to text inside tokens tree p =
      let space : Ident = record { token = p.0.0; text = text } in (
        (space, p.1.4.0),
        (p.1.0, p.1.1, p.1.2, inside p.1.0 space (p.0.0, p.1.3, refl), p.1.4.1),
        p.2 ∙ ap (λ g. g p.0.0) p.1.4.2,
      )

  cells_from : (text : List ℕ) → (tokens : List Lexeme) (tree : Expr)
      → PhraseBy R ((λ p. expression.Cell p.0 p.1) <$> reserved_name text <+> cell) tokens tree
      → PhraseBy R (headed (word text) (cell_of text)) tokens tree
  unfolding cell_of
  cells_from text tokens tree p = (
    (p.1.3.0, λ token. expression.Cell (record { token = token; text = text }) p.0.1),
    (p.1.0, p.1.1, p.1.2, p.1.3.1, (p.0.1, p.1.4, refl)),
    p.2 ∙ ap (λ i. expression.Cell i p.0.1) p.1.3.2,
  )

  -- a word behind which such a cell may come, or something else
  worded_to : (text : List ℕ) (other : Grammar Rule TreeOf (ℕ → Expr)) → Within (reserved_name text) instruction
      → Within (headed (word text) (cell_of text <|> other)) (headed (word text) other <|> cells)
  worded_to text other inside tokens tree p = elim (split (word text) (cell_of text) other tokens tree p) [
    | inl q ↦ inr (cells_to text inside tokens tree q)
    | inr q ↦ inl q
  ]

  term_inside : Within grammar.term_word instruction
  unfolding grammar.instruction grammar.plain_head
  term_inside tokens tree p = inl (inr (inr p))

  binding_inside : Within grammar.binding_word instruction
  unfolding grammar.instruction
  binding_inside tokens tree p = inr p

  -- ---- expressions

  at_cells : Within cells plain.expr
  unfolding plain.expr
  at_cells tokens tree p = inr (inr (inr (inr (inr (inr (inr (inr (inr p))))))))

  named_to : Within (headed name grammar.after_name) plain.expr
  unfolding grammar.after_name grammar.instruction grammar.plain_head plain.expr
  named_to tokens tree p = elim p.1.4 [
    | inl q ↦ inr (inr (inr (inr (inr (inr (inr (inr (inl (
        both_to (λ n args. expression.Call n args) name (word (codes "(") *> grammar.arguments) tokens tree
        (p.0, (p.1.0, p.1.1, p.1.2, p.1.3, q), p.2)
        )))))))))
    | inr (inl q) ↦ at_cells tokens tree (
      (p.0.0, q.0),
      (p.1.0, p.1.1, p.1.2, inl (inl p.1.3), q.1),
      p.2 ∙ ap (λ g. g p.0.0) q.2,
    )
    | inr (inr q) ↦ inr (inr (inr (inr (inr (inr (inr (inl (
        bare_to expression.Name name tokens tree (p.0, (p.1.0, p.1.1, p.1.2, p.1.3, q), p.2)
        ))))))))
  ]

  leaf_to : Within grammar.leaf plain.expr
  unfolding grammar.leaf grammar.term_word plain.expr
  leaf_to tokens tree (inl p) =
      elim (worded_to (codes "input") (empty expression.Input) (λ ts i q. term_inside ts i (inr (inl q))) tokens tree p) [
        | inl q ↦ inr (inl (bare_to expression.Input (word (codes "input")) tokens tree q))
        | inr q ↦ at_cells tokens tree q
      ]
  leaf_to tokens tree (inr p) =
      elim (worded_to (codes "after") (empty expression.After) (λ ts i q. term_inside ts i (inl q)) tokens tree p) [
        | inl q ↦ inr (inr (inl (bare_to expression.After (word (codes "after")) tokens tree q)))
        | inr q ↦ at_cells tokens tree q
      ]

  -- what comes behind a word that has a number behind it
  abbrev memory_tail : Grammar Rule TreeOf (ℕ → Expr)
  memory_tail = (λ p token. expression.Mem token p.0 p.1) <$> number <+> grammar.address

  abbrev zero_tail : Grammar Rule TreeOf (ℕ → Expr)
  zero_tail = (λ p token. expression.Zx token p.0 p.1) <$> number <+> grammar.argument

  abbrev sign_tail : Grammar Rule TreeOf (ℕ → Expr)
  sign_tail = (λ p token. expression.Sx token p.0 p.1) <$> number <+> grammar.argument

  abbrev slice_tail : Grammar Rule TreeOf (ℕ → Expr)
  slice_tail = (λ p token. expression.Slice token p.0 p.1.0 p.1.1) <$> number <+> number <+> grammar.argument

  sized_to : Within grammar.sized plain.expr
  unfolding grammar.sized grammar.loaded grammar.zero_extended grammar.sign_extended grammar.sliced grammar.term_word
      plain.expr
  sized_to tokens tree (inl p) =
      elim (worded_to (codes "mem") memory_tail (λ ts i q. term_inside ts i (inr (inr (inl q)))) tokens tree p) [
        | inl q ↦ inr (inr (inr (inl (
            both_to (λ token p. expression.Mem token p.0 p.1) (word (codes "mem")) (number <+> grammar.address) tokens tree q
            ))))
        | inr q ↦ at_cells tokens tree q
      ]
  sized_to tokens tree (inr (inl p)) =
      elim (worded_to (codes "zx") zero_tail (λ ts i q. term_inside ts i (inr (inr (inr (inl q))))) tokens tree p) [
        | inl q ↦ inr (inr (inr (inr (inl (
            both_to (λ token p. expression.Zx token p.0 p.1) (word (codes "zx")) (number <+> grammar.argument) tokens tree q
            )))))
        | inr q ↦ at_cells tokens tree q
      ]
  sized_to tokens tree (inr (inr (inl p))) =
      elim (worded_to (codes "sx") sign_tail (λ ts i q. term_inside ts i (inr (inr (inr (inr (inl q)))))) tokens tree p) [
        | inl q ↦ inr (inr (inr (inr (inr (inl (
            both_to (λ token p. expression.Sx token p.0 p.1) (word (codes "sx")) (number <+> grammar.argument) tokens tree q
            ))))))
        | inr q ↦ at_cells tokens tree q
      ]
  sized_to tokens tree (inr (inr (inr p))) =
      elim (worded_to (codes "slice") slice_tail (λ ts i q. term_inside ts i (inr (inr (inr (inr (inr q)))))) tokens tree p) [
        | inl q ↦ inr (inr (inr (inr (inr (inr (inl (
            both_to (λ token p. expression.Slice token p.0 p.1.0 p.1.1) (word (codes "slice"))
            (number <+> number <+> grammar.argument) tokens tree q
            )))))))
        | inr q ↦ at_cells tokens tree q
      ]

  expr_to : Within grammar.expr plain.expr
  unfolding grammar.expr grammar.space_cell grammar.space_word grammar.instruction grammar.plain_head plain.expr
  expr_to tokens tree (inl p) = inl p
  expr_to tokens tree (inr (inl p)) = named_to tokens tree p
  expr_to tokens tree (inr (inr (inl p))) = elim p.1.3 [
    | inl q ↦ at_cells tokens tree (p.0, (p.1.0, p.1.1, p.1.2, inl (inr (inl q)), p.1.4), p.2)
    | inr q ↦ at_cells tokens tree (p.0, (p.1.0, p.1.1, p.1.2, inr q, p.1.4), p.2)
  ]
  expr_to tokens tree (inr (inr (inr (inl p)))) = leaf_to tokens tree p
  expr_to tokens tree (inr (inr (inr (inr p)))) = sized_to tokens tree p

  -- a cell whose space has this reserved word as its name
  abbrev worded_cell : List ℕ → Grammar Rule TreeOf Expr
  worded_cell text = (λ p. expression.Cell p.0 p.1) <$> reserved_name text <+> cell

  -- the same, where something else may come behind the word
  worded_from : (text : List ℕ) (other : Grammar Rule TreeOf (ℕ → Expr))
      → Within (worded_cell text) (headed (word text) (cell_of text <|> other))
  worded_from text other tokens tree p =
      first_of (word text) (cell_of text) other tokens tree (cells_from text tokens tree p)

  terms_from : Within ((λ p. expression.Cell p.0 p.1) <$> grammar.term_word <+> cell) grammar.expr
  unfolding grammar.term_word grammar.expr grammar.leaf grammar.sized grammar.loaded grammar.zero_extended
      grammar.sign_extended grammar.sliced
  terms_from tokens tree p = elim p.1.3 [
    | inl q ↦ inr (inr (inr (inl (inr (
        worded_from (codes "after") (empty expression.After) tokens tree (p.0, (p.1.0, p.1.1, p.1.2, q, p.1.4), p.2)
        )))))
    | inr (inl q) ↦ inr (inr (inr (inl (inl (
        worded_from (codes "input") (empty expression.Input) tokens tree (p.0, (p.1.0, p.1.1, p.1.2, q, p.1.4), p.2)
        )))))
    | inr (inr (inl q)) ↦ inr (inr (inr (inr (inl (
        worded_from (codes "mem") memory_tail tokens tree (p.0, (p.1.0, p.1.1, p.1.2, q, p.1.4), p.2)
        )))))
    | inr (inr (inr (inl q))) ↦ inr (inr (inr (inr (inr (inl (
        worded_from (codes "zx") zero_tail tokens tree (p.0, (p.1.0, p.1.1, p.1.2, q, p.1.4), p.2)
        ))))))
    | inr (inr (inr (inr (inl q)))) ↦ inr (inr (inr (inr (inr (inr (inl (
        worded_from (codes "sx") sign_tail tokens tree (p.0, (p.1.0, p.1.1, p.1.2, q, p.1.4), p.2)
        )))))))
    | inr (inr (inr (inr (inr q)))) ↦ inr (inr (inr (inr (inr (inr (inr (
        worded_from (codes "slice") slice_tail tokens tree (p.0, (p.1.0, p.1.1, p.1.2, q, p.1.4), p.2)
        )))))))
  ]

  spaces_from : Within cells grammar.expr
  unfolding grammar.instruction grammar.plain_head grammar.expr grammar.after_name grammar.space_cell grammar.space_word
  spaces_from tokens tree p = elim p.1.3 [
    | inl (inl q) ↦ inr (inl (
      (p.0.0, λ n. expression.Cell n p.0.1),
      (p.1.0, p.1.1, p.1.2, q, inr (inl (p.0.1, p.1.4, refl))),
      p.2,
    ))
    | inl (inr (inl q)) ↦ inr (inr (inl (p.0, (p.1.0, p.1.1, p.1.2, inl q, p.1.4), p.2)))
    | inl (inr (inr q)) ↦ terms_from tokens tree (p.0, (p.1.0, p.1.1, p.1.2, q, p.1.4), p.2)
    | inr q ↦ inr (inr (inl (p.0, (p.1.0, p.1.1, p.1.2, inr q, p.1.4), p.2)))
  ]

  -- a word with something else behind it
  tailed_from : {B : Type 0} (text : List ℕ) (f : ℕ → B → Expr) (tail : Grammar Rule TreeOf B)
      → Within ((λ p. f p.0 p.1) <$> word text <+> tail) (headed (word text) (cell_of text <|> (λ y x. f x y) <$> tail))
  tailed_from text f tail tokens tree p =
      second_of (word text) (cell_of text) ((λ y x. f x y) <$> tail) tokens tree
      (both_from f (word text) tail tokens tree p)

  alone_from : (text : List ℕ) (f : ℕ → Expr)
      → Within (f <$> word text) (headed (word text) (cell_of text <|> empty f))
  alone_from text f tokens tree p =
      second_of (word text) (cell_of text) (empty f) tokens tree (bare_from f (word text) tokens tree p)

  expr_from : Within plain.expr grammar.expr
  unfolding plain.expr grammar.expr grammar.after_name grammar.leaf grammar.sized grammar.loaded grammar.zero_extended
      grammar.sign_extended grammar.sliced
  expr_from tokens tree (inl p) = inl p
  expr_from tokens tree (inr (inl p)) = inr (inr (inr (inl (inl (
      alone_from (codes "input") expression.Input tokens tree p
      )))))
  expr_from tokens tree (inr (inr (inl p))) = inr (inr (inr (inl (inr (
      alone_from (codes "after") expression.After tokens tree p
      )))))
  expr_from tokens tree (inr (inr (inr (inl p)))) = inr (inr (inr (inr (inl (
      tailed_from (codes "mem") (λ token p. expression.Mem token p.0 p.1) (number <+> grammar.address) tokens tree p
      )))))
  expr_from tokens tree (inr (inr (inr (inr (inl p))))) = inr (inr (inr (inr (inr (inl (
      tailed_from (codes "zx") (λ token p. expression.Zx token p.0 p.1) (number <+> grammar.argument) tokens tree p
      ))))))
  expr_from tokens tree (inr (inr (inr (inr (inr (inl p)))))) = inr (inr (inr (inr (inr (inr (inl (
      tailed_from (codes "sx") (λ token p. expression.Sx token p.0 p.1) (number <+> grammar.argument) tokens tree p
      )))))))
  expr_from tokens tree (inr (inr (inr (inr (inr (inr (inl p))))))) = inr (inr (inr (inr (inr (inr (inr (
      tailed_from (codes "slice") (λ token p. expression.Slice token p.0 p.1.0 p.1.1)
      (number <+> number <+> grammar.argument) tokens tree p
      )))))))
  expr_from tokens tree (inr (inr (inr (inr (inr (inr (inr (inl p)))))))) = inr (inl (
    (p.0, λ n. expression.Name n),
    (tokens, [], sym (append-nil tokens), p.1, inr (inr (refl, refl))),
    p.2,
  ))
  expr_from tokens tree (inr (inr (inr (inr (inr (inr (inr (inr (inl p))))))))) = inr (inl (
    (p.0.0, λ n. expression.Call n p.0.1),
    (p.1.0, p.1.1, p.1.2, p.1.3, inl (p.0.1, p.1.4, refl)),
    p.2,
  ))
  expr_from tokens tree (inr (inr (inr (inr (inr (inr (inr (inr (inr p))))))))) = spaces_from tokens tree p

  -- ---- bindings

  abbrev children : Grammar Rule TreeOf RawBinding
  children = bound.Child <$> derivation

  children_to : (text : List ℕ) → Within (reserved_name text) instruction
      → Within (headed (word text) (child_of text)) children
  unfolding child_of derivation
  children_to text inside tokens tree p =
      let name_of_it : Ident = record { token = p.0.0; text = text } in (
        p.1.4.0 name_of_it,
        (
          (name_of_it, p.1.4.0),
          (p.1.0, p.1.1, p.1.2, inside p.1.0 name_of_it (p.0.0, p.1.3, refl), p.1.4.1),
          refl,
        ),
        p.2 ∙ ap (λ g. g p.0.0) p.1.4.2,
      )

  -- a word behind which such a derivation may come, or something else
  bound_to : (text : List ℕ) (other : Grammar Rule TreeOf (ℕ → RawBinding)) → Within (reserved_name text) instruction
      → Within (headed (word text) (child_of text <|> other)) (headed (word text) other <|> children)
  bound_to text other inside tokens tree p = elim (split (word text) (child_of text) other tokens tree p) [
    | inl q ↦ inr (children_to text inside tokens tree q)
    | inr q ↦ inl q
  ]

  at_children : Within children plain.binding
  unfolding plain.binding
  at_children tokens tree p = inr (inr (inr (inr (inr p))))

  register_to : Within grammar.register plain.binding
  unfolding grammar.register grammar.binding_word plain.binding
  register_to tokens tree (inl p) =
      elim (bound_to (codes "own") (empty bound.Own) (λ ts i q. binding_inside ts i (inl q)) tokens tree p) [
        | inl q ↦ inl (bare_to bound.Own (word (codes "own")) tokens tree q)
        | inr q ↦ at_children tokens tree q
      ]
  register_to tokens tree (inr p) =
      elim (bound_to (codes "spare") (empty bound.Spare) (λ ts i q. binding_inside ts i (inr (inr (inr (inr q)))))
      tokens tree p) [
        | inl q ↦ inr (inr (inr (inr (inl (bare_to bound.Spare (word (codes "spare")) tokens tree q)))))
        | inr q ↦ at_children tokens tree q
      ]

  given_to : Within grammar.given plain.binding
  unfolding grammar.given grammar.parameter grammar.cell_bound grammar.constant grammar.binding_word plain.binding
  given_to tokens tree (inl p) =
      elim (bound_to (codes "par") ((λ n token. bound.Parameter token n) <$> number)
      (λ ts i q. binding_inside ts i (inr (inl q))) tokens tree p) [
        | inl q ↦ inr (inl (both_to (λ token n. bound.Parameter token n) (word (codes "par")) number tokens tree q))
        | inr q ↦ at_children tokens tree q
      ]
  given_to tokens tree (inr (inl p)) =
      elim (bound_to (codes "cell") ((λ p token. bound.Cell token p.0 p.1) <$> name <+> number)
      (λ ts i q. binding_inside ts i (inr (inr (inl q)))) tokens tree p) [
        | inl q ↦ inr (inr (inl (
            both_to (λ token p. bound.Cell token p.0 p.1) (word (codes "cell")) (name <+> number) tokens tree q
            )))
        | inr q ↦ at_children tokens tree q
      ]
  given_to tokens tree (inr (inr p)) =
      elim (bound_to (codes "const") ((λ x token. bound.Constant token x) <$> nonterminal any_expr)
      (λ ts i q. binding_inside ts i (inr (inr (inr (inl q))))) tokens tree p) [
        | inl q ↦ inr (inr (inr (inl (
            both_to (λ token x. bound.Constant token x) (word (codes "const")) (nonterminal any_expr) tokens tree q
            ))))
        | inr q ↦ at_children tokens tree q
      ]

  binding_to : Within grammar.binding plain.binding
  unfolding grammar.binding grammar.derived derivation grammar.instruction
  binding_to tokens tree (inl p) = at_children tokens tree (
    p.0.1 p.0.0,
    (p.0, (p.1.0, p.1.1, p.1.2, inl p.1.3, p.1.4), refl),
    p.2,
  )
  binding_to tokens tree (inr (inl p)) = register_to tokens tree p
  binding_to tokens tree (inr (inr p)) = given_to tokens tree p

  -- a derivation whose instruction has this reserved word as its name
  worded_child : (text : List ℕ) (other : Grammar Rule TreeOf (ℕ → RawBinding))
      → Within ((λ p. bound.Child (p.1 p.0)) <$> reserved_name text <+> child)
      (headed (word text) (child_of text <|> other))
  unfolding child_of
  worded_child text other tokens tree p = (
    (p.1.3.0, λ token. bound.Child (p.0.1 (record { token = token; text = text }))),
    (p.1.0, p.1.1, p.1.2, p.1.3.1, inl (p.0.1, p.1.4, refl)),
    p.2 ∙ ap (λ i. bound.Child (p.0.1 i)) p.1.3.2,
  )

  words_from : Within ((λ p. bound.Child (p.1 p.0)) <$> grammar.binding_word <+> child) grammar.binding
  unfolding grammar.binding_word grammar.binding grammar.register grammar.given grammar.parameter grammar.cell_bound
      grammar.constant
  words_from tokens tree p = elim p.1.3 [
    | inl q ↦ inr (inl (inl (
        worded_child (codes "own") (empty bound.Own) tokens tree (p.0, (p.1.0, p.1.1, p.1.2, q, p.1.4), p.2)
        )))
    | inr (inl q) ↦ inr (inr (inl (
        worded_child (codes "par") ((λ n token. bound.Parameter token n) <$> number) tokens tree
        (p.0, (p.1.0, p.1.1, p.1.2, q, p.1.4), p.2)
        )))
    | inr (inr (inl q)) ↦ inr (inr (inr (inl (
        worded_child (codes "cell") ((λ p token. bound.Cell token p.0 p.1) <$> name <+> number) tokens tree
        (p.0, (p.1.0, p.1.1, p.1.2, q, p.1.4), p.2)
        ))))
    | inr (inr (inr (inl q))) ↦ inr (inr (inr (inr (
        worded_child (codes "const") ((λ x token. bound.Constant token x) <$> nonterminal any_expr) tokens tree
        (p.0, (p.1.0, p.1.1, p.1.2, q, p.1.4), p.2)
        ))))
    | inr (inr (inr (inr q))) ↦ inr (inl (inr (
        worded_child (codes "spare") (empty bound.Spare) tokens tree (p.0, (p.1.0, p.1.1, p.1.2, q, p.1.4), p.2)
        )))
  ]

  children_from : Within children grammar.binding
  unfolding derivation grammar.instruction grammar.binding grammar.derived
  children_from tokens tree p = elim p.1.1.3 [
    | inl q ↦ inl (
      p.1.0,
      (p.1.1.0, p.1.1.1, p.1.1.2, q, p.1.1.4),
      p.2 ∙ ap bound.Child p.1.2,
    )
    | inr q ↦ words_from tokens tree (
      p.1.0,
      (p.1.1.0, p.1.1.1, p.1.1.2, q, p.1.1.4),
      p.2 ∙ ap bound.Child p.1.2,
    )
  ]

  binding_from : Within plain.binding grammar.binding
  unfolding plain.binding grammar.binding grammar.register grammar.given grammar.parameter grammar.cell_bound
      grammar.constant
  binding_from tokens tree (inl p) = inr (inl (inl (
      second_of (word (codes "own")) (child_of (codes "own")) (empty bound.Own) tokens tree
      (bare_from bound.Own (word (codes "own")) tokens tree p)
      )))
  binding_from tokens tree (inr (inl p)) = inr (inr (inl (
      second_of (word (codes "par")) (child_of (codes "par")) ((λ n token. bound.Parameter token n) <$> number) tokens tree
      (both_from (λ token n. bound.Parameter token n) (word (codes "par")) number tokens tree p)
      )))
  binding_from tokens tree (inr (inr (inl p))) = inr (inr (inr (inl (
      second_of (word (codes "cell")) (child_of (codes "cell"))
      ((λ p token. bound.Cell token p.0 p.1) <$> name <+> number) tokens tree
      (both_from (λ token p. bound.Cell token p.0 p.1) (word (codes "cell")) (name <+> number) tokens tree p)
      ))))
  binding_from tokens tree (inr (inr (inr (inl p)))) = inr (inr (inr (inr (
      second_of (word (codes "const")) (child_of (codes "const"))
      ((λ x token. bound.Constant token x) <$> nonterminal any_expr) tokens tree
      (both_from (λ token x. bound.Constant token x) (word (codes "const")) (nonterminal any_expr) tokens tree p)
      ))))
  binding_from tokens tree (inr (inr (inr (inr (inl p))))) = inr (inl (inr (
      second_of (word (codes "spare")) (child_of (codes "spare")) (empty bound.Spare) tokens tree
      (bare_from bound.Spare (word (codes "spare")) tokens tree p)
      )))
  binding_from tokens tree (inr (inr (inr (inr (inr p))))) = children_from tokens tree p

  -- ---- lists of bindings, and what comes after an instruction

  others_within : {A : Type 0} (g h : Grammar Rule TreeOf A) → Within g h → (xs : List A) (tokens : List Lexeme)
      → Phrases (PhraseBy R (word (codes ",") *> g)) tokens xs → Phrases (PhraseBy R (word (codes ",") *> h)) tokens xs
  others_within g h within [] tokens p = p
  others_within g h within (x ∷ xs) tokens p =
      let q = p.3 in (
        p.0,
        p.1,
        p.2,
        (q.0, (q.1.0, q.1.1, q.1.2, q.1.3, within q.1.1 q.0.1 q.1.4), q.2),
        others_within g h within xs p.1 p.4,
      )

  abbrev between : Grammar Rule TreeOf RawBinding → Grammar Rule TreeOf (List RawBinding)
  between g = word (codes "(") *> ((λ _. []) <$> word (codes ")") <|> separated g (codes ",") <* word (codes ")"))

  between_within : (g h : Grammar Rule TreeOf RawBinding) → Within g h → Within (between g) (between h)
  between_within g h within tokens tree p = elim p.1.4 [
    | inl q ↦ (p.0, (p.1.0, p.1.1, p.1.2, p.1.3, inl q), p.2)
    | inr q ↦
        let l = q.1.3 in (
          p.0,
          (
            p.1.0,
            p.1.1,
            p.1.2,
            p.1.3,
            inr (
              q.0,
              (
                q.1.0,
                q.1.1,
                q.1.2,
                (
                  l.0,
                  (
                    l.1.0,
                    l.1.1,
                    l.1.2,
                    within l.1.0 l.0.0 l.1.3,
                    others_within g h within l.0.1 l.1.1 l.1.4,
                  ),
                  l.2,
                ),
                q.1.4,
              ),
              q.2,
            ),
          ),
          p.2,
        )
  ]

  rest_to : Within grammar.rest plain.rest
  unfolding grammar.rest grammar.bindings grammar.several plain.rest plain.bindings
  rest_to tokens tree p =
      let b = p.1.4 in (
        p.0,
        (
          p.1.0,
          p.1.1,
          p.1.2,
          p.1.3,
          (b.0, b.1, b.2, between_within grammar.binding plain.binding binding_to b.0 p.0.1.0 b.3, b.4),
        ),
        p.2,
      )

  rest_from : Within plain.rest grammar.rest
  unfolding grammar.rest grammar.bindings grammar.several plain.rest plain.bindings
  rest_from tokens tree p =
      let b = p.1.4 in (
        p.0,
        (
          p.1.0,
          p.1.1,
          p.1.2,
          p.1.3,
          (b.0, b.1, b.2, between_within plain.binding grammar.binding binding_from b.0 p.0.1.0 b.3, b.4),
        ),
        p.2,
      )

to_written : (depth : ℕ) (i : Rule) (tokens : List Lexeme) (tree : TreeOf i) → Derives table_text depth i tokens tree
    → Derives written depth i tokens tree
to_written zero i tokens tree p = absurd p
to_written (suc depth) any_expr tokens tree p =
    expr_to (Derives written depth) tokens tree
    (more_phrases (Derives table_text depth) (Derives written depth) (to_written depth) grammar.expr tokens tree p)
to_written (suc depth) any_rest tokens tree p =
    rest_to (Derives written depth) tokens tree
    (more_phrases (Derives table_text depth) (Derives written depth) (to_written depth) grammar.rest tokens tree p)

from_written : (depth : ℕ) (i : Rule) (tokens : List Lexeme) (tree : TreeOf i) → Derives written depth i tokens tree
    → Derives table_text depth i tokens tree
from_written zero i tokens tree p = absurd p
from_written (suc depth) any_expr tokens tree p =
    expr_from (Derives table_text depth) tokens tree
    (more_phrases (Derives written depth) (Derives table_text depth) (from_written depth) plain.expr tokens tree p)
from_written (suc depth) any_rest tokens tree p =
    rest_from (Derives table_text depth) tokens tree
    (more_phrases (Derives written depth) (Derives table_text depth) (from_written depth) plain.rest tokens tree p)

-- A phrase of the rules is one as it is written, and the other way round.
pub is_written : {A : Type 0} (g : Grammar Rule TreeOf A) (tokens : List Lexeme) (tree : A)
    → IsPhrase table_text g tokens tree → IsPhrase written g tokens tree
is_written g tokens tree p =
    record {
      depth = p.depth;
      is = more_phrases (Derives table_text p.depth) (Derives written p.depth) (to_written p.depth) g tokens tree p.is;
    }

pub is_read : {A : Type 0} (g : Grammar Rule TreeOf A) (tokens : List Lexeme) (tree : A)
    → IsPhrase written g tokens tree → IsPhrase table_text g tokens tree
is_read g tokens tree p =
    record {
      depth = p.depth;
      is = more_phrases (Derives written p.depth) (Derives table_text p.depth) (from_written p.depth) g tokens tree p.is;
    }
