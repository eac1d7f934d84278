use Rattle.std.proofs.Common.{ℕ, ◌≡◌, ◌+◌, refl, ap, ◌∙◌, zero-add, length, arith}
use Rattle.std.specs.Prelude.{Option, Some, None}
use Rattle.std.specs.Option.{option_map}
use Rattle.qc_grammar.specs.Brackets.{first_too_deep}
use Rattle.qc_grammar.proofs.Lexemes.{length-lexemes}
use Rattle.qc_grammar.proofs.brackets.first_too_deep.Goals as goal

from_zero : (o : Option ℕ) → option_map (λ k. 0 + k) o ≡ o
from_zero None = refl
from_zero (Some k) = ap Some (zero-add k)

pub loop-cursor-init : goal.loop-cursor-init
loop-cursor-init c = record {
  found = from_zero _ ∙ ap (first_too_deep 0) c.new-cursor.ensures;
  few = omega arith;
  room = omega (
    arith,
    ap length c.new-cursor.ensures,
    length-lexemes c.args.source.now 0
        c.args.tokens.now,
  );
}
