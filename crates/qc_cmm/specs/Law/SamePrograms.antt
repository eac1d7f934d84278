-- The grammar as one writes it down has the phrases of the grammar that is read.
use Rattle.std.specs.Prelude.{ℕ, zero, suc, ◌≡◌, ◌≤◌, ◌+◌, List, [], ◌∷◌, ◌++◌, codes}
use Rattle.std.proofs.Common.{refl, ap, sym, ◌∙◌, subst, inl, inr, append_assoc, arith}
use Rattle.std.proofs.lemmas.List.{append-nil}
use Rattle.qc_grammar.specs.declared.cursor.Ident.{Ident}
use Rattle.qc_grammar.specs.Lexeme.{Lexeme}
use Rattle.qc_grammar.specs.Grammar.{Grammar, terminal, empty, sequence, choice, action, repetition, nonterminal, Syntax, name, word}
use Rattle.qc_grammar.specs.Language.{Phrases, PhraseBy, Derives, IsPhrase}
use Rattle.qc_grammar.specs.Law.Phrases.{more_phrases, deeper}
use Rattle.qc_cmm.specs.declared.syntax.Expr.TheVariants as expression
use Rattle.qc_cmm.specs.declared.syntax.Source.TheVariants as assigned
use Rattle.qc_cmm.specs.declared.syntax.BodyItem.{BodyItem}
use Rattle.qc_cmm.specs.declared.syntax.BodyItem.TheVariants as line
use Rattle.qc_cmm.specs.declared.syntax.Declaration.{Declaration}
use Rattle.qc_cmm.specs.Cmm as grammar
use Rattle.qc_cmm.specs.Cmm.{Rule, TreeOf, any_expr, any_statement, any_body, cmm, program}
use Rattle.qc_cmm.specs.Written as plain
use Rattle.qc_cmm.specs.Written.{written}

module _ {I : Type 0} {E : I → Type 0} (R : (i : I) → List Lexeme → E i → Type 0) where
  -- each phrase of the one grammar is one of the other, with the same tree
  abbrev Within : {A : Type 0} → Grammar I E A → Grammar I E A → Type 0
  Within {A} g h = (tokens : List Lexeme) (tree : A) → PhraseBy R g tokens tree → PhraseBy R h tokens tree

module _ (R : (i : Rule) → List Lexeme → TreeOf i → Type 0) where
  -- so is each of several
  each_within : {A : Type 0} (g h : Grammar Rule TreeOf A) → Within R g h → (xs : List A) (tokens : List Lexeme)
      → Phrases (PhraseBy R g) tokens xs → Phrases (PhraseBy R h) tokens xs
  each_within g h within [] tokens p = p
  each_within g h within (x ∷ xs) tokens p =
      (p.0, p.1, p.2, within p.0 x p.3, each_within g h within xs p.1 p.4)

  source_to : Within R grammar.source plain.source
  unfolding grammar.source grammar.after_name grammar.from_input grammar.after_input grammar.input
      grammar.applied_input grammar.expr plain.source
  source_to tokens tree (inl p) = elim p.1.4 [
    | inl q ↦ inr (inr (
      (p.0.0, q.0),
      (p.1.0, p.1.1, p.1.2, p.1.3, q.1),
      p.2 ∙ ap (λ f. f p.0.0) q.2,
    ))
    | inr q ↦ inr (inl (
      expression.Name p.0.0,
      inl (
        p.0.0,
        subst (λ ts. PhraseBy R name ts p.0.0)
            (sym (p.1.2 ∙ ap (λ ts. p.1.0 ++ ts) q.0 ∙ append-nil p.1.0)) p.1.3,
        refl,
      ),
      p.2 ∙ ap (λ f. f p.0.0) q.1,
    ))
  ]
  source_to tokens tree (inr (inl p)) = elim p.1.4.1.4 [
    | inl q ↦ inl (
      p.1.3.0,
      (
        (p.1.3.0, q.0),
        (
          p.1.0 ++ p.1.4.1.0,
          p.1.4.1.1,
          p.1.2 ∙ ap (λ ts. p.1.0 ++ ts) p.1.4.1.2 ∙ sym (append_assoc p.1.0 p.1.4.1.0 p.1.4.1.1),
          (
            (p.1.3.0, p.1.4.0.0),
            (p.1.0, p.1.4.1.0, refl, p.1.3.1, p.1.4.1.3),
            refl,
          ),
          q.1,
        ),
        refl,
      ),
      p.2 ∙ ap (λ f. f p.0.0) (p.1.4.2 ∙ q.2) ∙ ap (λ n. assigned.Input n.token) p.1.3.2,
    )
    | inr q ↦ inr (inl (
      q.0 p.0.0,
      inr (inl (
        (p.0.0, q.0),
        (
          p.1.0,
          p.1.1,
          p.1.2,
          p.1.3,
          ((p.1.4.0.0, q.0), (p.1.4.1.0, p.1.4.1.1, p.1.4.1.2, p.1.4.1.3, q.1), refl),
        ),
        refl,
      )),
      p.2 ∙ ap (λ f. f p.0.0) (p.1.4.2 ∙ q.2),
    ))
  ]
  source_to tokens tree (inr (inr p)) = inr (inl (p.0, inr (inr p.1), p.2))

  source_from : Within R plain.source grammar.source
  unfolding grammar.source grammar.after_name grammar.from_input grammar.after_input grammar.input
      grammar.applied_input grammar.expr plain.source
  source_from tokens tree (inl p) =
      let n : ℕ = p.1.1.3.0.0 in
      let prim : Ident = record { token = n; text = codes "%in" } in
      inr (inl (
        (prim, λ x. assigned.Input x.token),
        (
          p.1.1.3.1.0,
          p.1.1.3.1.1 ++ p.1.1.1,
          p.1.1.2 ∙ ap (λ ts. ts ++ p.1.1.1) p.1.1.3.1.2 ∙ append_assoc p.1.1.3.1.0 p.1.1.3.1.1 p.1.1.1,
          (n, p.1.1.3.1.3, refl),
          (
            (p.1.1.3.0.1, λ x. assigned.Input x.token),
            (p.1.1.3.1.1, p.1.1.1, refl, p.1.1.3.1.4, inl (p.1.0.1, p.1.1.4, refl)),
            refl,
          ),
        ),
        p.2 ∙ ap assigned.Input (p.1.2 ∙ p.1.1.3.2),
      ))
  source_from tokens tree (inr (inl p)) = elim p.1 [
    | inl q ↦ inl (
      (q.0, λ n. assigned.Value (expression.Name n)),
      (tokens, [], sym (append-nil tokens), q.1, inr (refl, refl)),
      p.2 ∙ ap assigned.Value q.2,
    )
    | inr (inl q) ↦ inr (inl (
      (q.0.0, λ x. assigned.Value (q.1.4.0.1 x)),
      (
        q.1.0,
        q.1.1,
        q.1.2,
        q.1.3,
        (
          (q.1.4.0.0, λ x. assigned.Value (q.1.4.0.1 x)),
          (q.1.4.1.0, q.1.4.1.1, q.1.4.1.2, q.1.4.1.3, inr (q.1.4.0.1, q.1.4.1.4, refl)),
          refl,
        ),
      ),
      p.2 ∙ ap assigned.Value (q.2 ∙ ap (λ f. f q.0.0) q.1.4.2),
    ))
    | inr (inr q) ↦ inr (inr (p.0, q, p.2))
  ]
  source_from tokens tree (inr (inr p)) =
      inl ((p.0.0, λ n. assigned.Call n p.0.1), (p.1.0, p.1.1, p.1.2, p.1.3, inl (p.0.1, p.1.4, refl)), p.2)

  named_to : Within R grammar.named plain.named
  unfolding grammar.named plain.named
  named_to tokens tree (inl p) = inl p
  named_to tokens tree (inr p) =
      let t = p.1.4 in
      let u = t.1.4 in
      inr (
        p.0,
        (
          p.1.0,
          p.1.1,
          p.1.2,
          p.1.3,
          (
            t.0,
            (t.1.0, t.1.1, t.1.2, t.1.3, (u.0, (u.1.0, u.1.1, u.1.2, source_to u.1.0 u.0.0 u.1.3, u.1.4), u.2)),
            t.2,
          ),
        ),
        p.2,
      )

  named_from : Within R plain.named grammar.named
  unfolding grammar.named plain.named
  named_from tokens tree (inl p) = inl p
  named_from tokens tree (inr p) =
      let t = p.1.4 in
      let u = t.1.4 in
      inr (
        p.0,
        (
          p.1.0,
          p.1.1,
          p.1.2,
          p.1.3,
          (
            t.0,
            (t.1.0, t.1.1, t.1.2, t.1.3, (u.0, (u.1.0, u.1.1, u.1.2, source_from u.1.0 u.0.0 u.1.3, u.1.4), u.2)),
            t.2,
          ),
        ),
        p.2,
      )

  statement_to : Within R grammar.statement plain.statement
  unfolding grammar.statement plain.statement
  statement_to tokens tree (inl p) = inl (p.0, (p.1.0, p.1.1, p.1.2, p.1.3, named_to p.1.1 p.0.1 p.1.4), p.2)
  statement_to tokens tree (inr p) = inr p

  statement_from : Within R plain.statement grammar.statement
  unfolding grammar.statement plain.statement
  statement_from tokens tree (inl p) = inl (p.0, (p.1.0, p.1.1, p.1.2, p.1.3, named_from p.1.1 p.0.1 p.1.4), p.2)
  statement_from tokens tree (inr p) = inr p

  item_to : Within R grammar.body_item plain.body_item
  unfolding grammar.body_item grammar.untyped grammar.after_label plain.body_item plain.statement
  item_to tokens tree (inl (inl p)) = elim p.1.4 [
    | inl q ↦ inl (
      p.0.0,
      ((p.0.0, q.0), (p.1.0, p.1.1, p.1.2, p.1.3, q.1), refl),
      p.2 ∙ ap (λ f. f p.0.0) q.2,
    )
    | inr q ↦ inr (
      q.0 p.0.0,
      inl ((p.0.0, q.0), (p.1.0, p.1.1, p.1.2, p.1.3, named_to p.1.1 q.0 q.1), refl),
      p.2 ∙ ap (λ f. f p.0.0) q.2,
    )
  ]
  item_to tokens tree (inl (inr p)) = inr (p.0, inr (inl p.1), p.2)
  item_to tokens tree (inr p) = inr (p.0, inr (inr p.1), p.2)

  item_from : Within R plain.body_item grammar.body_item
  unfolding grammar.body_item grammar.untyped grammar.after_label plain.body_item plain.statement
  item_from tokens tree (inl p) = inl (inl (
    (p.1.0.0, λ n. line.Label n),
    (p.1.1.0, p.1.1.1, p.1.1.2, p.1.1.3, inl (p.1.0.1, p.1.1.4, refl)),
    p.2 ∙ ap line.Label p.1.2,
  ))
  item_from tokens tree (inr p) = elim p.1 [
    | inl q ↦ inl (inl (
      (q.0.0, λ n. line.Statement (q.0.1 n)),
      (q.1.0, q.1.1, q.1.2, q.1.3, inr (q.0.1, named_from q.1.1 q.0.1 q.1.4, refl)),
      p.2 ∙ ap line.Statement q.2,
    ))
    | inr (inl q) ↦ inl (inr (p.0, q, p.2))
    | inr (inr q) ↦ inr (p.0, q, p.2)
  ]

  items_to : Within R grammar.body_items plain.body_items
  unfolding grammar.body_items plain.body_items
  items_to tokens tree p = (
    p.0,
    (p.1.0, p.1.1, p.1.2, each_within grammar.body_item plain.body_item item_to p.0.0 p.1.0 p.1.3, p.1.4),
    p.2,
  )

  items_from : Within R plain.body_items grammar.body_items
  unfolding grammar.body_items plain.body_items
  items_from tokens tree p = (
    p.0,
    (p.1.0, p.1.1, p.1.2, each_within plain.body_item grammar.body_item item_from p.0.0 p.1.0 p.1.3, p.1.4),
    p.2,
  )

  -- an item before others
  one_more_item : (front rest : List Lexeme) (x : BodyItem) (xs : List BodyItem)
      → PhraseBy R plain.body_item front x → PhraseBy R plain.body_items rest xs
      → PhraseBy R plain.body_items (front ++ rest) (x ∷ xs)
  unfolding plain.body_items
  one_more_item front rest x xs p q = (
    (x ∷ q.0.0, q.0.1),
    (
      front ++ q.1.0,
      q.1.1,
      ap (λ ts. front ++ ts) q.1.2 ∙ sym (append_assoc front q.1.0 q.1.1),
      (front, q.1.0, refl, p, q.1.3),
      q.1.4,
    ),
    ap (λ ys. x ∷ ys) q.2,
  )

  -- items without declarations before them
  only_items : (tokens : List Lexeme) (xs : List BodyItem) (tree : List Declaration × List BodyItem) → tree ≡ ([], xs)
      → PhraseBy R plain.body_items tokens xs → PhraseBy R plain.body tokens tree
  unfolding plain.body
  only_items tokens xs tree e p =
      subst (λ t. PhraseBy R plain.body tokens t) (sym e) ([], tokens, refl, refl, p)

  no_items : (tokens : List Lexeme) (n : ℕ) → PhraseBy R (word (codes "}")) tokens n
      → PhraseBy R plain.body_items tokens []
  unfolding plain.body_items
  no_items tokens n q = (([], n), ([], tokens, refl, refl, q), refl)

  body_to : ((tokens : List Lexeme) (tree : List Declaration × List BodyItem) → R any_body tokens tree
      → PhraseBy R plain.body tokens tree) → Within R grammar.body plain.body
  unfolding grammar.body grammar.first_stored grammar.untyped_items grammar.untyped_first grammar.body_item
      grammar.store plain.body plain.declaration plain.body_item plain.statement
  body_to back tokens tree (inl p) = elim p.1.4 [
    | inl q ↦
        let more : PhraseBy R plain.body q.1.1 q.0.1 = back q.1.1 q.0.1 q.1.4 in
        subst (λ t. PhraseBy R plain.body tokens t) (sym (p.2 ∙ ap (λ f. f p.0.0) q.2)) (
          (p.1.0 ++ q.1.0) ++ more.0,
          more.1,
          p.1.2 ∙ ap (λ ts. p.1.0 ++ ts) (q.1.2 ∙ ap (λ ts. q.1.0 ++ ts) more.2)
              ∙ sym (append_assoc p.1.0 q.1.0 (more.0 ++ more.1))
              ∙ sym (append_assoc (p.1.0 ++ q.1.0) more.0 more.1),
          (
            p.1.0 ++ q.1.0,
            more.0,
            refl,
            ((p.0.0, q.0.0), (p.1.0, q.1.0, refl, p.1.3, q.1.3), refl),
            more.3,
          ),
          more.4,
        )
    | inr q ↦
        only_items tokens (line.Statement (q.1.0.0 p.0.0) ∷ q.1.0.1) tree
        (p.2 ∙ ap (λ f. f p.0.0) q.2 ∙ ap (λ g. ([], g p.0.0)) q.1.2)
        (subst (λ ts. PhraseBy R plain.body_items ts (line.Statement (q.1.0.0 p.0.0) ∷ q.1.0.1))
        (append_assoc p.1.0 q.1.1.0 q.1.1.1 ∙ ap (λ ts. p.1.0 ++ ts) (sym q.1.1.2) ∙ sym p.1.2)
        (one_more_item (p.1.0 ++ q.1.1.0) q.1.1.1 (line.Statement (q.1.0.0 p.0.0)) q.1.0.1
        (inr (
          q.1.0.0 p.0.0,
          inr (inr ((p.0.0, q.1.0.0), (p.1.0, q.1.1.0, refl, p.1.3, q.1.1.3), refl)),
          refl,
        ))
        (items_to q.1.1.1 q.1.0.1 q.1.1.4)))
  ]
  body_to back tokens tree (inr p) = elim p.1 [
    | inl q ↦
        only_items tokens (q.0.0 ∷ q.0.1) tree (p.2 ∙ ap (λ xs. ([], xs)) q.2)
        (subst (λ ts. PhraseBy R plain.body_items ts (q.0.0 ∷ q.0.1)) (sym q.1.2)
        (one_more_item q.1.0 q.1.1 q.0.0 q.0.1 (item_to q.1.0 q.0.0 (inl q.1.3)) (items_to q.1.1 q.0.1 q.1.4)))
    | inr q ↦
        only_items tokens [] tree (p.2 ∙ ap (λ xs. ([], xs)) q.2) (no_items tokens q.0 q.1)
  ]

  -- With a rule closed under its grammar, a body may be put together item by item.
  module _ (close : (tokens : List Lexeme) (tree : List Declaration × List BodyItem)
      → PhraseBy R grammar.body tokens tree → R any_body tokens tree) where
    items_alone : (xs : List BodyItem) (m : ℕ) (front rest : List Lexeme)
        → Phrases (PhraseBy R grammar.body_item) front xs → PhraseBy R (word (codes "}")) rest m
        → R any_body (front ++ rest) ([], xs)
    unfolding grammar.body grammar.first_stored grammar.untyped_items grammar.untyped_first grammar.body_items
        grammar.body_item grammar.store
    items_alone [] m front rest q w =
        close (front ++ rest) ([], [])
        (inr (
          [],
          inr (m, subst (λ ts. PhraseBy R (word (codes "}")) ts m) (sym (ap (λ ts. ts ++ rest) q)) w, refl),
          refl,
        ))
    items_alone (x ∷ xs) m front rest q w = elim q.3 [
      | inl u ↦
          close (front ++ rest) ([], x ∷ xs)
          (inr (
            x ∷ xs,
            inl (
              (x, xs),
              (
                q.0,
                q.1 ++ rest,
                ap (λ ts. ts ++ rest) q.2 ∙ append_assoc q.0 q.1 rest,
                u,
                ((xs, m), (q.1, rest, refl, q.4, w), refl),
              ),
              refl,
            ),
            refl,
          ))
      | inr u ↦
          close (front ++ rest) ([], x ∷ xs)
          (inl (
            (u.1.0.0, λ t. ([], line.Statement (u.1.0.1 t) ∷ xs)),
            (
              u.1.1.0,
              u.1.1.1 ++ (q.1 ++ rest),
              ap (λ ts. ts ++ rest) q.2 ∙ append_assoc q.0 q.1 rest ∙ ap (λ ts. ts ++ (q.1 ++ rest)) u.1.1.2
                  ∙ append_assoc u.1.1.0 u.1.1.1 (q.1 ++ rest),
              u.1.1.3,
              inr (
                (λ t. line.Statement (u.1.0.1 t) ∷ xs),
                (
                  (u.1.0.1, xs),
                  (u.1.1.1, q.1 ++ rest, refl, u.1.1.4, ((xs, m), (q.1, rest, refl, q.4, w), refl)),
                  refl,
                ),
                refl,
              ),
            ),
            ap (λ y. ([], y ∷ xs)) (u.2 ∙ ap line.Statement u.1.2),
          ))
    ]

    after_declarations : (ds : List Declaration) (xs : List BodyItem) (front rest : List Lexeme)
        → Phrases (PhraseBy R plain.declaration) front ds → PhraseBy R grammar.body_items rest xs
        → R any_body (front ++ rest) (ds, xs)
    unfolding grammar.body grammar.body_items plain.declaration
    after_declarations [] xs front rest q p =
        subst (λ ts. R any_body ts ([], xs)) (sym p.1.2 ∙ sym (ap (λ ts. ts ++ rest) q))
        (subst (λ ys. R any_body (p.1.0 ++ p.1.1) ([], ys)) (sym p.2)
        (items_alone p.0.0 p.0.1 p.1.0 p.1.1 p.1.3 p.1.4))
    after_declarations (d ∷ ds) xs front rest q p =
        close (front ++ rest) (d ∷ ds, xs)
        (inl (
          (q.3.0.0, λ t. (q.3.0.1 t ∷ ds, xs)),
          (
            q.3.1.0,
            q.3.1.1 ++ (q.1 ++ rest),
            ap (λ ts. ts ++ rest) q.2 ∙ append_assoc q.0 q.1 rest ∙ ap (λ ts. ts ++ (q.1 ++ rest)) q.3.1.2
                ∙ append_assoc q.3.1.0 q.3.1.1 (q.1 ++ rest),
            q.3.1.3,
            inl (
              (q.3.0.1, (ds, xs)),
              (q.3.1.1, q.1 ++ rest, refl, q.3.1.4, after_declarations ds xs q.1 rest q.4 p),
              refl,
            ),
          ),
          ap (λ e. (e ∷ ds, xs)) q.3.2,
        ))

    body_from : (tokens : List Lexeme) (tree : List Declaration × List BodyItem) → PhraseBy R plain.body tokens tree
        → R any_body tokens tree
    unfolding plain.body
    body_from tokens tree p =
        subst (λ ts. R any_body ts tree) (sym p.2)
        (after_declarations tree.0 tree.1 p.0 p.1 p.3 (items_from p.1 tree.1 p.4))

module _ {I : Type 0} {E : I → Type 0} (s : Syntax I E) where
  -- a phrase of a rule, however deep rules are nested in it
  abbrev AtSomeDepth : (i : I) → List Lexeme → E i → Type 0
  AtSomeDepth i tokens tree = (depth : ℕ) × Derives s depth i tokens tree

  lifted : (n m : ℕ) → n ≤ m → {A : Type 0} (g : Grammar I E A) (tokens : List Lexeme) (tree : A)
      → PhraseBy (Derives s n) g tokens tree → PhraseBy (Derives s m) g tokens tree
  lifted n m le g tokens tree p = more_phrases (Derives s n) (Derives s m) (deeper s n m le) g tokens tree p

  -- one depth is enough for all parts of a phrase
  one_depth : {A : Type 0} (g : Grammar I E A) (tokens : List Lexeme) (tree : A) → PhraseBy AtSomeDepth g tokens tree
      → (depth : ℕ) × PhraseBy (Derives s depth) g tokens tree
  one_depth (terminal c) tokens tree p = (0, p)
  one_depth (empty x) tokens tree p = (0, p)
  one_depth (sequence g h) tokens tree p =
      let a : (depth : ℕ) × PhraseBy (Derives s depth) g p.0 tree.0 = one_depth g p.0 tree.0 p.3 in
      let b : (depth : ℕ) × PhraseBy (Derives s depth) h p.1 tree.1 = one_depth h p.1 tree.1 p.4 in (
        a.0 + b.0,
        (
          p.0,
          p.1,
          p.2,
          lifted a.0 (a.0 + b.0) (omega arith) g p.0 tree.0 a.1,
          lifted b.0 (a.0 + b.0) (omega arith) h p.1 tree.1 b.1,
        ),
      )
  one_depth (choice g h) tokens tree p = elim p [
    | inl q ↦ let a : (depth : ℕ) × PhraseBy (Derives s depth) g tokens tree = one_depth g tokens tree q in (a.0, inl a.1)
    | inr q ↦ let a : (depth : ℕ) × PhraseBy (Derives s depth) h tokens tree = one_depth h tokens tree q in (a.0, inr a.1)
  ]
  one_depth (action f g) tokens tree p =
      let a : (depth : ℕ) × PhraseBy (Derives s depth) g tokens p.0 = one_depth g tokens p.0 p.1 in
      (a.0, (p.0, a.1, p.2))
  one_depth (repetition {A = X} g) tokens tree p = each (one_depth g) tree tokens p
    where
      each : ((front : List Lexeme) (x : X) → PhraseBy AtSomeDepth g front x
          → (depth : ℕ) × PhraseBy (Derives s depth) g front x) → (xs : List X) (rest : List Lexeme)
          → Phrases (PhraseBy AtSomeDepth g) rest xs → (depth : ℕ) × Phrases (PhraseBy (Derives s depth) g) rest xs
      each one [] rest q = (0, q)
      each one (x ∷ xs) rest q =
          let a : (depth : ℕ) × PhraseBy (Derives s depth) g q.0 x = one q.0 x q.3 in
          let b : (depth : ℕ) × Phrases (PhraseBy (Derives s depth) g) q.1 xs = each one xs q.1 q.4 in (
            a.0 + b.0,
            (
              q.0,
              q.1,
              q.2,
              lifted a.0 (a.0 + b.0) (omega arith) g q.0 x a.1,
              lifted b.0 (a.0 + b.0) (omega arith) (repetition g) q.1 xs b.1,
            ),
          )
  one_depth (nonterminal i) tokens tree p = p

-- a body as it is written, one rule less deep
unrolled : (depth : ℕ) (tokens : List Lexeme) (tree : TreeOf any_body) → Derives written depth any_body tokens tree
    → PhraseBy (Derives written depth) plain.body tokens tree
unrolled zero tokens tree p = absurd p
unrolled (suc depth) tokens tree p = lifted written depth (suc depth) (omega arith) plain.body tokens tree p

to_written : (depth : ℕ) (i : Rule) (tokens : List Lexeme) (tree : TreeOf i) → Derives cmm depth i tokens tree
    → Derives written depth i tokens tree
to_written zero i tokens tree p = absurd p
to_written (suc depth) any_expr tokens tree p =
    more_phrases (Derives cmm depth) (Derives written depth) (to_written depth) grammar.expr tokens tree p
to_written (suc depth) any_statement tokens tree p =
    statement_to (Derives written depth) tokens tree
    (more_phrases (Derives cmm depth) (Derives written depth) (to_written depth) grammar.statement tokens tree p)
to_written (suc depth) any_body tokens tree p =
    body_to (Derives written depth) (unrolled depth) tokens tree
    (more_phrases (Derives cmm depth) (Derives written depth) (to_written depth) grammar.body tokens tree p)

closed : (i : Rule) (tokens : List Lexeme) (tree : TreeOf i)
    → PhraseBy (AtSomeDepth cmm) (grammar.rule i) tokens tree → AtSomeDepth cmm i tokens tree
closed i tokens tree p =
    let a : (depth : ℕ) × PhraseBy (Derives cmm depth) (grammar.rule i) tokens tree =
    one_depth cmm (grammar.rule i) tokens tree p in
    (suc a.0, a.1)

from_written : (depth : ℕ) (i : Rule) (tokens : List Lexeme) (tree : TreeOf i) → Derives written depth i tokens tree
    → AtSomeDepth cmm i tokens tree
from_written zero i tokens tree p = absurd p
from_written (suc depth) any_expr tokens tree p =
    closed any_expr tokens tree
    (more_phrases (Derives written depth) (AtSomeDepth cmm) (from_written depth) grammar.expr tokens tree p)
from_written (suc depth) any_statement tokens tree p =
    closed any_statement tokens tree
    (statement_from (AtSomeDepth cmm) tokens tree
    (more_phrases (Derives written depth) (AtSomeDepth cmm) (from_written depth) plain.statement tokens tree p))
from_written (suc depth) any_body tokens tree p =
    body_from (AtSomeDepth cmm) (closed any_body) tokens tree
    (more_phrases (Derives written depth) (AtSomeDepth cmm) (from_written depth) plain.body tokens tree p)

-- A phrase of rules is one as it is written, and the other way round. So are programs, and their parts.
pub is_written : {A : Type 0} (g : Grammar Rule TreeOf A) (tokens : List Lexeme) (tree : A)
    → IsPhrase cmm g tokens tree → IsPhrase written g tokens tree
is_written g tokens tree p =
    record {
      depth = p.depth;
      is = more_phrases (Derives cmm p.depth) (Derives written p.depth) (to_written p.depth) g tokens tree p.is;
    }

pub is_read : {A : Type 0} (g : Grammar Rule TreeOf A) (tokens : List Lexeme) (tree : A)
    → IsPhrase written g tokens tree → IsPhrase cmm g tokens tree
is_read g tokens tree p =
    let a : (depth : ℕ) × PhraseBy (Derives cmm depth) g tokens tree =
    one_depth cmm g tokens tree
    (more_phrases (Derives written p.depth) (AtSomeDepth cmm) (from_written p.depth) g tokens tree p.is) in
    record { depth = a.0; is = a.1 }
