-- What is printed for a block, and that each text of the block spells it.
use Rattle.std.specs.Prelude.{List, [], ◌∷◌, ◌++◌, Option, None, Some, codes, ◌≡◌}
use Rattle.std.specs.List.{flat_map}
use Rattle.std.proofs.Common.{refl}
use Rattle.qc_grammar.specs.Lexeme.{Lexeme}
use Rattle.qc_grammar.specs.Language.{IsPhrase}
use Rattle.qc_grammar.specs.Spelled.{spellings}
use Rattle.qc_grammar.specs.Law.Spelling as spell
use Rattle.qc_grammar.specs.Printing.{as_text, digits}
use Rattle.qc_text.specs.PrintedWords.{Words}
use Rattle.qc_sample.specs.declared.blocks.Declaration.{Declaration}
use Rattle.qc_sample.specs.declared.blocks.Assignment.{Assignment}
use Rattle.qc_sample.specs.declared.blocks.Block.{Block}
use Rattle.qc_sample.specs.Blocks as grammar
use Rattle.qc_sample.specs.Blocks.{Rule, TreeOf, any_rest, blocks, block}

-- the words of a declaration
abbrev pub declaration_words : Declaration → Words
declaration_words d = d.name.text ∷ codes ":" ∷ d.type_of.text ∷ codes ";" ∷ []

-- the words of a result, and of the block's end
abbrev pub result_words : Option Assignment → Words
result_words None = codes "}" ∷ []
result_words (Some a) = a.name.text ∷ codes "=" ∷ digits a.value ∷ codes "}" ∷ []

-- the words of a block
abbrev pub block_words : Block → Words
block_words b = codes "{" ∷ (flat_map declaration_words b.declarations ++ result_words b.result)

abbrev rule_words : (r : Rule) → TreeOf r → Words
rule_words any_rest tree = flat_map declaration_words tree.0 ++ result_words tree.1

-- one line for each alternative
rest_spells : spell.EachSpells as_text rule_words grammar.rest (λ words tree. words ≡ rule_words any_rest tree)
unfolding grammar.rest grammar.declares grammar.assigns grammar.ends
rest_spells = ((λ n. ((λ u m v tree. refl), (λ u a v. refl))), (λ t. refl))

block_spells : spell.EachSpells as_text rule_words block (λ words b. words ≡ block_words b)
unfolding block
block_spells = λ t tree. refl

-- each text of a block spells its words
pub block_texts : (tokens : List Lexeme) (b : Block) → IsPhrase blocks block tokens b
    → spellings as_text tokens ≡ block_words b
block_texts tokens b phrase =
    spell.texts_spell as_text blocks rule_words (elim [ any_rest ↦ rest_spells ]) block block_words block_spells tokens b
    phrase
