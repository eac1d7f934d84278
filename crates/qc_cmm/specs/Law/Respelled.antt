-- The vocabulary tells the same of tokens that are printed.
use Rattle.std.specs.Prelude.{ℕ, ◌≡◌, ◌||◌, List, map}
use Rattle.std.specs.List.{list_any}
use Rattle.std.specs.Str.{bytes_eq}
use Rattle.std.proofs.Common.{refl, ap, ◌∙◌}
use Rattle.qc_text.specs.declared.token.Kind.{Kind}
use Rattle.qc_text.specs.declared.token.Kind.TheVariants.{Name, Prim, Number, Str, Punct, End}
use Rattle.qc_grammar.specs.Lexeme.{reserving}
use Rattle.qc_grammar.specs.Spelled.{Respells}
use Rattle.qc_grammar.specs.Law.ReadAgain.{KeepsWords, reserving_respelled}
use Rattle.qc_cmm.specs.Vocabulary.{reserved, reserved_prims, is_reserved_prim, vocabulary}

module _ (as_text : Kind → List ℕ → List ℕ) (respells : Respells as_text) where
  same_prims : (kind : Kind) (given : List ℕ) → is_reserved_prim kind (as_text kind given) ≡ is_reserved_prim kind given
  same_prims Name given = refl
  same_prims Prim given = ap (λ text. list_any (λ word. bytes_eq word text) reserved_prims) (respells.prim given)
  same_prims Number given = refl
  same_prims Str given = refl
  same_prims Punct given = refl
  same_prims End given = refl

  pub vocabulary_respelled : KeepsWords vocabulary as_text
  vocabulary_respelled =
      record {
        same = λ before kind given.
            ap (λ b. b || reserving reserved (map (λ word. (word.0, as_text word.0 word.1)) before) kind
            (as_text kind given)) (same_prims kind given)
            ∙ ap (λ b. is_reserved_prim kind given || b)
            ((reserving_respelled reserved as_text respells).same before kind given);
      }
