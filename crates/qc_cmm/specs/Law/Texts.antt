-- Each text of a program spells what is printed for it.
use Rattle.std.specs.Prelude.{ℕ, List, [], ◌∷◌, ◌++◌, codes, ◌≡◌}
use Rattle.std.specs.List.{flat_map}
use Rattle.std.proofs.Common.{refl, ap, sym, ◌∙◌, append_assoc}
use Rattle.std.proofs.lemmas.List.{append-nil}
use Rattle.qc_text.specs.PrintedWords.{Words}
use Rattle.qc_grammar.specs.declared.cursor.Ident.{Ident}
use Rattle.qc_grammar.specs.Lexeme.{Lexeme, ident_of}
use Rattle.qc_grammar.specs.Grammar.{Grammar}
use Rattle.qc_grammar.specs.Language.{IsPhrase}
use Rattle.qc_grammar.specs.Spelled.{spellings}
use Rattle.qc_grammar.specs.Law.Spelling as spell
use Rattle.qc_grammar.specs.Printing.{as_text, next_words}
use Rattle.qc_cmm.specs.declared.syntax.WordType.{WordType}
use Rattle.qc_cmm.specs.declared.syntax.BodyItem.TheVariants as line
use Rattle.qc_cmm.specs.declared.syntax.Program.{Program}
use Rattle.qc_cmm.specs.Cmm as grammar
use Rattle.qc_cmm.specs.Cmm.{Rule, TreeOf, any_expr, any_statement, any_body, cmm, program}
use Rattle.qc_cmm.specs.Printed.{type_words, literal_words, name_words, indexed, expr_words, expr_words-literal, expr_words-name, expr_words-load, expr_words-unary, expr_words-binary, arguments_words, source_words, statement_words, block_words, statement_words-goto, statement_words-return, statement_words-out, statement_words-store, statement_words-call, statement_words-assign, statement_words-if, statement_words-if_else, body_item_words, body_items_words, declaration_words, body_words, param_words, params_words, procedure_words, datum_words, part_words, target_words, program_words, rule_words}

-- each rule spells its tree's words
abbrev Spells : {A : Type 0} → Grammar Rule TreeOf A → (A → Words) → Type 0
Spells g words_of = spell.EachSpells as_text rule_words g (λ words x. words ≡ words_of x)

-- what comes after a head spells what the tree's words go on with
abbrev SpellsAfter : {A B : Type 0} → (A → Words) → Grammar Rule TreeOf (A → B) → (B → Words) → Type 0
SpellsAfter {A} head g words_of =
    spell.EachSpells as_text rule_words g (λ words f. (x : A) → head x ++ words ≡ words_of (f x))

-- a Prim and a bracket
abbrev opened : Ident → Words
opened prim = prim.text ∷ codes "(" ∷ []

-- the word that stands for the next word of the input, as the Prim that it is read as
abbrev input_prim : ℕ → Ident
input_prim token = record { token = token; text = codes "%in" }

type_spells : Spells grammar.type_of type_words
unfolding grammar.type_of
type_spells = ((λ t. refl), ((λ t. refl), ((λ t. refl), (λ t. refl))))

literal_spells : Spells grammar.literal literal_words
unfolding grammar.literal
literal_spells = ((λ t. refl), (λ t n. refl))

address_spells : Spells grammar.address (λ a. indexed (expr_words a))
unfolding grammar.address
address_spells = λ t a u. refl

operands_spells : SpellsAfter opened grammar.operands expr_words
unfolding grammar.operands grammar.after_operand
operands_spells = λ a. ((λ t b u p. sym (expr_words-binary p a b)), (λ t p. sym (expr_words-unary p a)))

load_spells : Spells grammar.load expr_words
unfolding grammar.load
load_spells = spell.spelled as_text rule_words grammar.type_of type_words type_spells _
    (λ t. spell.spelled as_text rule_words grammar.address (λ a. indexed (expr_words a)) address_spells _
    (λ a. sym (expr_words-load t a)))

applied_prim_spells : Spells grammar.applied_prim expr_words
unfolding grammar.applied_prim grammar.prim
applied_prim_spells = (
  (λ t u. spell.each_of as_text rule_words grammar.operands _ _ (λ words f q. q (ident_of t)) operands_spells),
  (λ t u. spell.each_of as_text rule_words grammar.operands _ _
      (λ words f q. q (record { token = t.number; text = codes "%out" })) operands_spells),
)

applied_input_spells : Spells grammar.applied_input expr_words
unfolding grammar.applied_input grammar.input
applied_input_spells = λ t u. spell.each_of as_text rule_words grammar.operands _ _
    (λ words f q. q (input_prim t.number)) operands_spells

plain_spells : Spells grammar.plain expr_words
unfolding grammar.plain
plain_spells = (
  spell.spelled as_text rule_words grammar.literal literal_words literal_spells _ (λ v. sym (expr_words-literal v)),
  (load_spells, applied_prim_spells),
)

expr_spells : Spells grammar.expr expr_words
unfolding grammar.expr
expr_spells = ((λ t. sym (expr_words-name (ident_of t))), (applied_input_spells, plain_spells))

arguments_spells : Spells grammar.arguments arguments_words
unfolding grammar.arguments next_words
arguments_spells = ((λ t. refl), (λ x. (next_words (codes ",") expr_words, (λ t y. refl), λ xs t. refl)))

after_name_spells : SpellsAfter name_words grammar.after_name source_words
unfolding grammar.after_name source_words
after_name_spells = (
  (λ t. spell.spelled as_text rule_words grammar.arguments arguments_words arguments_spells _ (λ args n. refl)),
  (λ n. sym (expr_words-name n)),
)

after_input_spells : spell.EachSpells as_text rule_words grammar.after_input
    (λ words f. (n : ℕ) → opened (input_prim n) ++ words ≡ source_words (f (input_prim n)))
unfolding grammar.after_input source_words
after_input_spells = (
  (λ t n. refl),
  spell.each_of as_text rule_words grammar.operands _ _ (λ words f q n. q (input_prim n)) operands_spells,
)

source_spells : Spells grammar.source source_words
unfolding grammar.source grammar.from_input grammar.input source_words
source_spells = (
  (λ n. spell.each_of as_text rule_words grammar.after_name _ _ (λ words f q. q (ident_of n)) after_name_spells),
  (
    (λ t u. spell.each_of as_text rule_words grammar.after_input _ _ (λ words f q. q t.number) after_input_spells),
    spell.spelled as_text rule_words grammar.plain expr_words plain_spells _ (λ a. refl),
  ),
)

named_spells : SpellsAfter name_words grammar.named statement_words
unfolding grammar.named next_words
named_spells = (
  (λ t. spell.spelled as_text rule_words grammar.arguments arguments_words arguments_spells _
      (λ args u n. sym (statement_words-call n args))),
  (
    next_words (codes ",") name_words,
    (λ t m. refl),
    λ ns t. spell.spelled as_text rule_words grammar.source source_words source_spells _
        (λ from u n. sym (statement_words-assign (n ∷ ns) from)),
  ),
)

stored_spells : SpellsAfter type_words grammar.stored statement_words
unfolding grammar.stored
stored_spells = spell.spelled as_text rule_words grammar.address (λ a. indexed (expr_words a)) address_spells _
    (λ a t v u type_of. sym (statement_words-store type_of a v))

store_spells : Spells grammar.store statement_words
unfolding grammar.store
store_spells = spell.spelled as_text rule_words grammar.type_of type_words type_spells _
    (λ t. spell.each_of as_text rule_words grammar.stored _ _ (λ words f q. q t) stored_spells)

block_spells : Spells grammar.block block_words
unfolding grammar.block grammar.statements
block_spells = λ t. (statement_words, (λ a. refl), λ xs u. refl)

conditional_spells : Spells grammar.conditional statement_words
unfolding grammar.conditional grammar.after_block
conditional_spells = λ t c. spell.spelled as_text rule_words grammar.block block_words block_spells _
    (λ b. (
      (λ u. spell.spelled as_text rule_words grammar.block block_words block_spells _
          (λ other. sym (statement_words-if_else t.number c b other))),
      ap (λ ws. codes "if" ∷ (expr_words c ++ ws)) (append-nil (block_words b))
          ∙ sym (statement_words-if t.number c b),
    ))

keyed_spells : Spells grammar.keyed statement_words
unfolding grammar.keyed
keyed_spells = (
  (λ t n u. sym (statement_words-goto t.number (ident_of n))),
  (
    (λ t u. spell.spelled as_text rule_words grammar.arguments arguments_words arguments_spells _
        (λ args v. sym (statement_words-return t.number args))),
    ((λ t u a v w. sym (statement_words-out t.number a)), conditional_spells),
  ),
)

statement_spells : Spells grammar.statement statement_words
unfolding grammar.statement
statement_spells = (
  (λ n. spell.each_of as_text rule_words grammar.named _ _ (λ words f q. q (ident_of n)) named_spells),
  (keyed_spells, store_spells),
)

after_label_spells : SpellsAfter name_words grammar.after_label body_item_words
unfolding grammar.after_label body_item_words
after_label_spells = (
  (λ t n. refl),
  spell.each_of as_text rule_words grammar.named _ _ (λ words f q n. q n) named_spells,
)

untyped_spells : Spells grammar.untyped body_item_words
unfolding grammar.untyped body_item_words
untyped_spells = (
  (λ n. spell.each_of as_text rule_words grammar.after_label _ _ (λ words f q. q (ident_of n)) after_label_spells),
  spell.spelled as_text rule_words grammar.keyed statement_words keyed_spells _ (λ a. refl),
)

body_item_spells : Spells grammar.body_item body_item_words
unfolding grammar.body_item body_item_words
body_item_spells = (
  untyped_spells,
  spell.spelled as_text rule_words grammar.store statement_words store_spells _ (λ a. refl),
)

body_items_spells : Spells grammar.body_items body_items_words
unfolding grammar.body_items
body_items_spells = (body_item_words, body_item_spells, λ xs t. refl)

declared_spells : SpellsAfter type_words grammar.declared declaration_words
unfolding grammar.declared declaration_words next_words
declared_spells = λ n. (next_words (codes ",") name_words, (λ u m. refl), λ ns u t. refl)

first_stored_spells : SpellsAfter type_words grammar.first_stored (body_words [])
unfolding grammar.first_stored body_item_words
first_stored_spells = spell.each_of as_text rule_words grammar.stored
    (λ words f. (t : WordType) → type_words t ++ words ≡ statement_words (f t))
    (λ words f. spell.EachSpells as_text rule_words grammar.body_items
    (λ rest xs. (t : WordType) → type_words t ++ (words ++ rest) ≡ body_words [] (line.Statement (f t) ∷ xs)))
    (λ words f q. spell.spelled as_text rule_words grammar.body_items body_items_words body_items_spells
    (λ rest xs. (t : WordType) → type_words t ++ (words ++ rest) ≡ body_words [] (line.Statement (f t) ∷ xs))
    (λ xs t. ap (λ ws. ws ++ body_items_words xs) (q t)
    ∙ sym (append_assoc (statement_words (f t)) (flat_map body_item_words xs) (codes "}" ∷ []))))
    stored_spells

untyped_first_spells : Spells grammar.untyped_first (body_words [])
unfolding grammar.untyped_items grammar.untyped_first
untyped_first_spells = (
  spell.spelled as_text rule_words grammar.untyped body_item_words untyped_spells _
      (λ x. spell.spelled as_text rule_words grammar.body_items body_items_words body_items_spells _
      (λ xs. sym (append_assoc (body_item_words x) (flat_map body_item_words xs) (codes "}" ∷ [])))),
  (λ t. refl),
)

body_spells : Spells grammar.body (rule_words any_body)
unfolding grammar.body
body_spells = (
  spell.spelled as_text rule_words grammar.type_of type_words type_spells _
      (λ t. (
        spell.each_of as_text rule_words grammar.declared _ _
            (λ words f q tree.
            ap (λ ws. ws ++ body_words tree.0 tree.1) (q t)
            ∙ sym (append_assoc (declaration_words (f t)) (flat_map declaration_words tree.0)
            (body_items_words tree.1)))
            declared_spells,
        spell.each_of as_text rule_words grammar.first_stored _ _ (λ words f q. q t) first_stored_spells,
      )),
  untyped_first_spells,
)

param_spells : Spells grammar.param param_words
unfolding grammar.param param_words
param_spells = spell.spelled as_text rule_words grammar.type_of type_words type_spells _ (λ t n. refl)

params_spells : Spells grammar.params params_words
unfolding grammar.params next_words
params_spells = λ t. (
  (λ u. refl),
  spell.spelled as_text rule_words grammar.param param_words param_spells _
      (λ x. (
        next_words (codes ",") param_words,
        (λ u. spell.spelled as_text rule_words grammar.param param_words param_spells _ (λ y. refl)),
        λ xs u. refl,
      )),
)

procedure_spells : Spells grammar.procedure procedure_words
unfolding grammar.procedure
procedure_spells = λ n. spell.spelled as_text rule_words grammar.params params_words params_spells _ (λ ps t tree. refl)

elements_spells : SpellsAfter type_words grammar.elements datum_words
unfolding grammar.elements datum_words next_words
elements_spells = (
  (λ t n u v type_of. refl),
  (λ t. spell.spelled as_text rule_words grammar.literal literal_words literal_spells _
      (λ x. (
        next_words (codes ",") literal_words,
        (λ u. spell.spelled as_text rule_words grammar.literal literal_words literal_spells _ (λ y. refl)),
        λ xs u v type_of. refl,
      ))),
)

datum_spells : Spells grammar.datum datum_words
unfolding grammar.datum grammar.typed_data datum_words
datum_spells = (
  (λ n t. refl),
  spell.spelled as_text rule_words grammar.type_of type_words type_spells _
      (λ t. spell.each_of as_text rule_words grammar.elements _ _ (λ words f q. q t) elements_spells),
)

section_spells : Spells grammar.section part_words
unfolding grammar.section part_words
section_spells = λ t n u. (datum_words, datum_spells, λ xs v. refl)

part_spells : Spells grammar.part part_words
unfolding grammar.part part_words
part_spells = (
  section_spells,
  spell.spelled as_text rule_words grammar.procedure procedure_words procedure_spells _ (λ p. refl),
)

target_spells : Spells grammar.target target_words
unfolding grammar.target grammar.order
target_spells = λ t u. ((λ v w n x. refl), (λ v w n x. refl))

program_spells : Spells program program_words
unfolding program grammar.parts
program_spells = spell.spelled as_text rule_words grammar.target target_words target_spells _
    (λ t. (part_words, part_spells, λ xs. refl))

-- each text of a program spells its words
pub program_texts : (tokens : List Lexeme) (p : Program) → IsPhrase cmm program tokens p
    → spellings as_text tokens ≡ program_words p
program_texts tokens p phrase =
    spell.texts_spell as_text cmm rule_words
    (elim [ any_expr ↦ expr_spells | any_statement ↦ statement_spells | any_body ↦ body_spells ]) program program_words
    program_spells tokens p phrase
