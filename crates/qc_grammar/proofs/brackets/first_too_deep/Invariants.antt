use Rattle.std.proofs.Common.{◌≡◌, ◌+◌, ◌≤◌, length}
use Rattle.std.specs.Option.{option_map}
use Rattle.qc_grammar.specs.Lexeme.{lexemes_from}
use Rattle.qc_grammar.specs.Brackets.{first_too_deep}
use Rattle.qc_grammar.proofs.brackets.first_too_deep.Given as goal

-- the first bracket that is too deep among the tokens that are left is the first of all
abbrev pub invariant-loop-cursor : goal.invariant-loop-cursor
invariant-loop-cursor l = record {
  found : option_map (λ k. l.number + k) (first_too_deep l.open l.cursor)
      ≡ first_too_deep 0 (lexemes_from l.source 0 l.tokens);
  few : l.open ≤ 200;
  room : l.number + length l.cursor ≤ 18446744073709551615;
}

abbrev pub decreases-loop-cursor : goal.decreases-loop-cursor
decreases-loop-cursor l = length l.cursor
