-- What is printed for a tree, and that each text of the tree spells it.
use Rattle.std.specs.Prelude.{ℕ, List, [], ◌∷◌, ◌++◌, Option, None, Some, codes, ◌≡◌}
use Rattle.std.specs.Fmt.{decimal}
use Rattle.std.specs.List.{flat_map}
use Rattle.std.specs.Option.{option_map}
use Rattle.std.proofs.Common.{refl, rules, ap, sym, ◌∙◌}
use Rattle.qc_text.specs.PrintedWords.{Words, joined}
use Rattle.qc_grammar.specs.declared.cursor.Ident.{Ident}
use Rattle.qc_grammar.specs.declared.cursor.Number.{Number}
use Rattle.qc_grammar.specs.Lexeme.{Lexeme, ident_of, number_in}
use Rattle.qc_grammar.specs.Grammar.{Grammar}
use Rattle.qc_grammar.specs.Language.{IsPhrase}
use Rattle.qc_grammar.specs.Spelled.{spellings}
use Rattle.qc_grammar.specs.Law.SeparatedWords.{joined_words}
use Rattle.qc_grammar.specs.Law.Spelling as spell
use Rattle.qc_grammar.specs.Printing.{as_text, digits, next_words, separated_words}
use Rattle.qc_lrtl.specs.declared.syntax.Expr.{Expr}
use Rattle.qc_lrtl.specs.Printed.{expr_words, expr_words-literal, expr_words-input, expr_words-after, expr_words-mem, expr_words-zx, expr_words-sx, expr_words-slice, expr_words-name, expr_words-call, expr_words-cell}
use Rattle.qc_tabletext.specs.declared.syntax.RawBinding.{RawBinding, fold-RawBinding, fold-roll-RawBinding}
use Rattle.qc_tabletext.specs.declared.syntax.RawBinding.TheVariants as bound
use Rattle.qc_tabletext.specs.declared.syntax.RawBinding.TheOpen as layer
use Rattle.qc_tabletext.specs.declared.syntax.RawBinding.TheOpen.{RawBinding-F}
use Rattle.qc_tabletext.specs.declared.syntax.RawDerivation.{RawDerivation, RawDerivation-F, fold-RawDerivation, fold-roll-RawDerivation, fold_out-RawDerivation, out-RawDerivation, the_lemmas}
use Rattle.qc_tabletext.specs.declared.syntax.RawStep.{RawStep}
use Rattle.qc_tabletext.specs.declared.syntax.StepPlace.{StepPlace}
use Rattle.qc_tabletext.specs.declared.syntax.StepPlace.TheVariants.{Whole, Part}
use Rattle.qc_tabletext.specs.declared.syntax.Rest.{Rest}
use Rattle.qc_tabletext.specs.declared.syntax.TileEntry.{TileEntry}
use Rattle.qc_tabletext.specs.declared.syntax.TileEntry.TheVariants.{Found, Missing}
use Rattle.qc_tabletext.specs.declared.syntax.Version.{Version}
use Rattle.qc_tabletext.specs.declared.syntax.Version.TheVariants.{First, Second}
use Rattle.qc_tabletext.specs.declared.syntax.RawTables.{RawTables}
use Rattle.qc_tabletext.specs.TableText as grammar
use Rattle.qc_tabletext.specs.TableText.{Rule, TreeOf, any_expr, any_rest, derivation_of, table_text, tables}

abbrev pub name_words : Ident → Words
name_words name = name.text ∷ []

abbrev pub number_words : Number → Words
number_words n = digits n ∷ []

abbrev pub path_words : List Number → Words
path_words path = separated_words (codes ".") number_words path

abbrev pub place_words : StepPlace → Words
place_words (Whole token) = codes "e" ∷ []
place_words (Part path) = path_words path

-- a law, and the place where it is used
unfoldable pub step_words : RawStep → Words
step_words step = step.law.text ∷ codes "@" ∷ place_words step.place

-- laws with commas between them, and the bracket that closes them
abbrev pub steps_words : List RawStep → Words
steps_words steps = separated_words (codes ",") step_words steps ++ codes "]" ∷ []

-- what is between parentheses
abbrev pub in_parentheses : Words → Words
in_parentheses words = codes "(" ∷ (words ++ codes ")" ∷ [])

abbrev pub flag_layer : Option Words → Words
flag_layer None = []
flag_layer (Some words) = codes "after" ∷ words

abbrev pub binding_layer : RawBinding-F Words Words → Words
binding_layer (layer.Own token) = codes "own" ∷ []
binding_layer (layer.Parameter token number) = codes "par" ∷ digits number ∷ []
binding_layer (layer.Cell token space cell) = codes "cell" ∷ space.text ∷ digits cell ∷ []
binding_layer (layer.Constant token value) = codes "const" ∷ expr_words value
binding_layer (layer.Spare token) = codes "spare" ∷ []
binding_layer (layer.Child node) = node

abbrev pub derivation_layer : RawDerivation-F Words Words → Words
derivation_layer d =
    d.instruction.text ∷ codes "["
    ∷ (steps_words d.steps ++ (in_parentheses (joined (codes ",") d.bindings) ++ flag_layer d.after))

-- the words of what stands for an operand
unfoldable pub binding_words : RawBinding → Words
binding_words = fold-RawBinding Words Words binding_layer derivation_layer

-- the words of a derivation
unfoldable pub derivation_words : RawDerivation → Words
derivation_words = fold-RawDerivation Words Words binding_layer derivation_layer

pub binding_words-own : (token : ℕ) → binding_words (bound.Own token) ≡ codes "own" ∷ []
unfolding binding_words
binding_words-own token = ap binding_words (sym (bound.rolls-Own token))
    ∙ fold-roll-RawBinding Words Words binding_layer derivation_layer (layer.Own token)

pub binding_words-parameter : (token : ℕ) (number : Number)
    → binding_words (bound.Parameter token number) ≡ codes "par" ∷ digits number ∷ []
unfolding binding_words
binding_words-parameter token number = ap binding_words (sym (bound.rolls-Parameter token number))
    ∙ fold-roll-RawBinding Words Words binding_layer derivation_layer (layer.Parameter token number)

pub binding_words-cell : (token : ℕ) (space : Ident) (cell : Number)
    → binding_words (bound.Cell token space cell) ≡ codes "cell" ∷ space.text ∷ digits cell ∷ []
unfolding binding_words
binding_words-cell token space cell = ap binding_words (sym (bound.rolls-Cell token space cell))
    ∙ fold-roll-RawBinding Words Words binding_layer derivation_layer (layer.Cell token space cell)

pub binding_words-constant : (token : ℕ) (value : Expr)
    → binding_words (bound.Constant token value) ≡ codes "const" ∷ expr_words value
unfolding binding_words
binding_words-constant token value = ap binding_words (sym (bound.rolls-Constant token value))
    ∙ fold-roll-RawBinding Words Words binding_layer derivation_layer (layer.Constant token value)

pub binding_words-spare : (token : ℕ) → binding_words (bound.Spare token) ≡ codes "spare" ∷ []
unfolding binding_words
binding_words-spare token = ap binding_words (sym (bound.rolls-Spare token))
    ∙ fold-roll-RawBinding Words Words binding_layer derivation_layer (layer.Spare token)

pub binding_words-child : (node : RawDerivation) → binding_words (bound.Child node) ≡ derivation_words node
unfolding binding_words derivation_words
binding_words-child node = ap binding_words (sym (bound.rolls-Child node))
    ∙ fold-roll-RawBinding Words Words binding_layer derivation_layer (layer.Child node)

abbrev pub flag_words : Option RawDerivation → Words
flag_words None = []
flag_words (Some d) = codes "after" ∷ derivation_words d

abbrev pub bindings_words : List RawBinding → Words
bindings_words bindings = in_parentheses (separated_words (codes ",") binding_words bindings)

-- what a derivation has after its instruction and the bracket behind that
abbrev pub rest_words : Rest → Words
rest_words rest = steps_words rest.steps ++ (bindings_words rest.bindings ++ flag_words rest.after)

flag_words-layer : (after : Option RawDerivation)
    → flag_layer (option_map (fold-RawDerivation Words Words binding_layer derivation_layer) after) ≡ flag_words after
unfolding derivation_words
flag_words-layer None = refl
flag_words-layer (Some d) = refl

pub derivation_words-of : (instruction : Ident) (rest : Rest)
    → derivation_words (derivation_of instruction rest) ≡ instruction.text ∷ codes "[" ∷ rest_words rest
unfolding derivation_words binding_words
derivation_words-of instruction rest =
    let rolled = fold-roll-RawDerivation Words Words binding_layer derivation_layer
    (record { instruction = instruction; steps = rest.steps; bindings = rest.bindings; after = rest.after }) in
    let between = joined_words (codes ",") binding_words rest.bindings in
    let behind = flag_words-layer rest.after in
    let goal : derivation_words (derivation_of instruction rest) ≡ instruction.text ∷ codes "[" ∷ rest_words rest =
    search (rules, the_lemmas) in goal

pub derivation_words-parts : (d : RawDerivation)
    → derivation_words d ≡ (out-RawDerivation d).instruction.text ∷ codes "["
    ∷ (steps_words (out-RawDerivation d).steps
    ++ (bindings_words (out-RawDerivation d).bindings ++ flag_words (out-RawDerivation d).after))
unfolding derivation_words binding_words
derivation_words-parts d =
    let opened = fold_out-RawDerivation Words Words binding_layer derivation_layer d in
    let between = joined_words (codes ",") binding_words (out-RawDerivation d).bindings in
    let behind = flag_words-layer (out-RawDerivation d).after in
    let goal : derivation_words d ≡ (out-RawDerivation d).instruction.text ∷ codes "["
    ∷ (steps_words (out-RawDerivation d).steps
    ++ (bindings_words (out-RawDerivation d).bindings ++ flag_words (out-RawDerivation d).after)) =
    search (rules, the_lemmas) in goal

abbrev pub version_words : Version → Words
version_words (First token) = decimal 1 ∷ []
version_words (Second token height laws) =
    decimal 2 ∷ codes "height" ∷ digits height ∷ codes "laws" ∷ digits laws ∷ []

-- what a text has for a tile
unfoldable pub entry_words : TileEntry → Words
entry_words (Found token tile d) = codes "tile" ∷ tile.text ∷ codes "=" ∷ (derivation_words d ++ codes ";" ∷ [])
entry_words (Missing token tile) = codes "tile" ∷ tile.text ∷ codes "missing" ∷ codes ";" ∷ []

-- the words of a text
abbrev pub tables_words : RawTables → Words
tables_words raw =
    codes "tables" ∷ raw.machine.text
    ∷ ((version_words raw.version ++ codes ";" ∷ []) ++ flat_map entry_words raw.entries)

abbrev pub rule_words : (r : Rule) → TreeOf r → Words
rule_words any_expr = expr_words
rule_words any_rest = rest_words

-- ---- each rule spells its tree's words

abbrev Spells : {A : Type 0} → Grammar Rule TreeOf A → (A → Words) → Type 0
Spells g words_of = spell.EachSpells as_text rule_words g (λ words x. words ≡ words_of x)

-- the same of a phrase that goes on from a head
abbrev SpellsAfter : {H A : Type 0} → (H → Words) → Grammar Rule TreeOf (H → A) → (A → Words) → Type 0
SpellsAfter {H} head g words_of =
    spell.EachSpells as_text rule_words g (λ words f. (h : H) → head h ++ words ≡ words_of (f h))

spelled : {A : Type 0} (g : Grammar Rule TreeOf A) (words_of : A → Words) → Spells g words_of
    → (P : Words → A → Type 0) → ((x : A) → P (words_of x) x) → spell.EachSpells as_text rule_words g P
spelled g words_of e P f = spell.spelled as_text rule_words g words_of e P f

table_word_spells : Spells grammar.table_word name_words
unfolding grammar.table_word
table_word_spells = ((λ t. refl), ((λ t. refl), ((λ t. refl), (λ t. refl))))

term_word_spells : Spells grammar.term_word name_words
unfolding grammar.term_word
term_word_spells =
    ((λ t. refl), ((λ t. refl), ((λ t. refl), ((λ t. refl), ((λ t. refl), (λ t. refl))))))

binding_word_spells : Spells grammar.binding_word name_words
unfolding grammar.binding_word
binding_word_spells = ((λ t. refl), ((λ t. refl), ((λ t. refl), ((λ t. refl), (λ t. refl)))))

space_word_spells : Spells grammar.space_word name_words
unfolding grammar.space_word
space_word_spells = (table_word_spells, binding_word_spells)

plain_head_spells : Spells grammar.plain_head name_words
unfolding grammar.plain_head
plain_head_spells = ((λ t. refl), (table_word_spells, term_word_spells))

instruction_spells : Spells grammar.instruction name_words
unfolding grammar.instruction
instruction_spells = (plain_head_spells, binding_word_spells)

-- a cell of a space that has a reserved word as its name
cell_of_spells : (text : List ℕ) → SpellsAfter (λ _. text ∷ []) (grammar.cell_of text) expr_words
unfolding grammar.cell_of grammar.cell
cell_of_spells text = λ t k u token. sym (expr_words-cell (record { token = token; text = text }) (number_in k))

-- what comes after a word is such a cell, or something else
after_word : (text : List ℕ) (token : ℕ) → spell.EachSpells as_text rule_words (grammar.cell_of text)
    (λ words f. text ∷ words ≡ expr_words (f token))
after_word text token =
    spell.each_of as_text rule_words (grammar.cell_of text) _ _ (λ words f q. q token) (cell_of_spells text)

leaf_spells : Spells grammar.leaf expr_words
unfolding grammar.leaf
leaf_spells = (
  (λ t. (after_word (codes "input") t.number, sym (expr_words-input t.number))),
  (λ t. (after_word (codes "after") t.number, sym (expr_words-after t.number))),
)

sized_spells : Spells grammar.sized expr_words
unfolding grammar.sized grammar.loaded grammar.zero_extended grammar.sign_extended grammar.sliced grammar.address
    grammar.argument
sized_spells = (
  (λ t. (after_word (codes "mem") t.number, (λ k u x v. sym (expr_words-mem t.number (number_in k) x)))),
  (
    (λ t. (after_word (codes "zx") t.number, (λ k u x v. sym (expr_words-zx t.number (number_in k) x)))),
    (
      (λ t. (after_word (codes "sx") t.number, (λ k u x v. sym (expr_words-sx t.number (number_in k) x)))),
      (λ t. (
        after_word (codes "slice") t.number,
        (λ l k u x v. sym (expr_words-slice t.number (number_in l) (number_in k) x)),
      )),
    ),
  ),
)

expr_spells : Spells grammar.expr expr_words
unfolding grammar.expr grammar.after_name grammar.arguments grammar.exprs grammar.cell grammar.space_cell next_words
expr_spells = (
  (λ t q u. sym (expr_words-literal (number_in t) (number_in u))),
  (
    (λ n. (
      (λ t. (
        (λ u. sym (expr_words-call (ident_of n) [])),
        (λ x. (next_words (codes ",") expr_words, (λ u y. refl), λ xs u. sym (expr_words-call (ident_of n) (x ∷ xs)))),
      )),
      (
        (λ t k u. sym (expr_words-cell (ident_of n) (number_in k))),
        sym (expr_words-name (ident_of n)),
      ),
    )),
    (
      spelled grammar.space_word name_words space_word_spells _ (λ n t k u. sym (expr_words-cell n (number_in k))),
      (leaf_spells, sized_spells),
    ),
  ),
)

step_spells : Spells grammar.step step_words
unfolding grammar.step grammar.place step_words next_words
step_spells = λ n t. ((λ u. refl), (λ k. (next_words (codes ".") number_words, (λ u l. refl), λ ks. refl)))

steps_spells : Spells grammar.steps steps_words
unfolding grammar.steps next_words
steps_spells = (
  (λ t. refl),
  spelled grammar.step step_words step_spells _
      (λ x. (
        next_words (codes ",") step_words,
        (λ u. spelled grammar.step step_words step_spells _ (λ y. refl)),
        λ xs u. refl,
      )),
)

child_spells : SpellsAfter name_words grammar.child derivation_words
unfolding grammar.child
child_spells = λ t rest n. sym (derivation_words-of n rest)

derivation_spells : Spells grammar.derivation derivation_words
unfolding grammar.derivation
derivation_spells = spelled grammar.instruction name_words instruction_spells _
    (λ n. spell.each_of as_text rule_words grammar.child _ _ (λ words f q. q n) child_spells)

-- a derivation whose instruction has a reserved word as its name
child_of_spells : (text : List ℕ) (token : ℕ) → spell.EachSpells as_text rule_words (grammar.child_of text)
    (λ words f. text ∷ words ≡ binding_words (f token))
unfolding grammar.child_of
child_of_spells text token = spell.each_of as_text rule_words grammar.child _ _
    (λ words f q. q (record { token = token; text = text })
    ∙ sym (binding_words-child (f (record { token = token; text = text }))))
    child_spells

register_spells : Spells grammar.register binding_words
unfolding grammar.register
register_spells = (
  (λ t. (child_of_spells (codes "own") t.number, sym (binding_words-own t.number))),
  (λ t. (child_of_spells (codes "spare") t.number, sym (binding_words-spare t.number))),
)

given_spells : Spells grammar.given binding_words
unfolding grammar.given grammar.parameter grammar.cell_bound grammar.constant
given_spells = (
  (λ t. (child_of_spells (codes "par") t.number, (λ n. sym (binding_words-parameter t.number (number_in n))))),
  (
    (λ t. (
      child_of_spells (codes "cell") t.number,
      (λ n k. sym (binding_words-cell t.number (ident_of n) (number_in k))),
    )),
    (λ t. (child_of_spells (codes "const") t.number, (λ x. sym (binding_words-constant t.number x)))),
  ),
)

binding_spells : Spells grammar.binding binding_words
unfolding grammar.binding grammar.derived
binding_spells = (
  spelled grammar.plain_head name_words plain_head_spells _
      (λ n. spell.each_of as_text rule_words grammar.child _ _ (λ words f q. q n ∙ sym (binding_words-child (f n)))
      child_spells),
  (register_spells, given_spells),
)

bindings_spells : Spells grammar.bindings bindings_words
unfolding grammar.bindings grammar.several next_words
bindings_spells = λ t. (
  (λ u. refl),
  spelled grammar.binding binding_words binding_spells _
      (λ x. (
        next_words (codes ",") binding_words,
        (λ u. spelled grammar.binding binding_words binding_spells _ (λ y. refl)),
        λ xs u. refl,
      )),
)

flag_spells : Spells grammar.flag flag_words
unfolding grammar.flag
flag_spells = ((λ t. spelled grammar.derivation derivation_words derivation_spells _ (λ d. refl)), refl)

rest_spells : Spells grammar.rest rest_words
unfolding grammar.rest
rest_spells = spelled grammar.steps steps_words steps_spells _
    (λ ss. spelled grammar.bindings bindings_words bindings_spells _
    (λ bs. spelled grammar.flag flag_words flag_spells _ (λ f. refl)))

height_spells : Spells grammar.height number_words
unfolding grammar.height
height_spells = ((λ t. refl), ((λ t. refl), ((λ t. refl), (λ t. refl))))

laws_spells : Spells grammar.laws number_words
unfolding grammar.laws
laws_spells = ((λ t. refl), ((λ t. refl), ((λ t. refl), (λ t. refl))))

version_spells : Spells grammar.version version_words
unfolding grammar.version
version_spells = (
  (λ t. refl),
  (λ t u. spelled grammar.height number_words height_spells _
      (λ h v. spelled grammar.laws number_words laws_spells _ (λ l. refl))),
)

entry_spells : Spells grammar.entry entry_words
unfolding grammar.entry grammar.after_tile entry_words
entry_spells = λ t n. (
  (λ u. spelled grammar.derivation derivation_words derivation_spells _ (λ d v. refl)),
  (λ u v. refl),
)

tables_spells : Spells tables tables_words
unfolding tables grammar.entries
tables_spells = λ t n. spelled grammar.version version_words version_spells _ (λ v u. (entry_words, entry_spells, λ xs. refl))

-- each text of a tree spells its words
pub tables_texts : (tokens : List Lexeme) (raw : RawTables) → IsPhrase table_text tables tokens raw
    → spellings as_text tokens ≡ tables_words raw
tables_texts tokens raw phrase =
    spell.texts_spell as_text table_text rule_words (elim [ any_expr ↦ expr_spells | any_rest ↦ rest_spells ]) tables
    tables_words tables_spells tokens raw phrase
