use Rattle.std.proofs.Common.{ℕ, ◌≡◌, ◌+◌, List, ◌++◌, length}
use Rattle.qc_text.specs.declared.token.Token.{Token}
use Rattle.qc_text.specs.Pieces.{AreTokens, IsBadByte}
use Rattle.qc_text.proofs.Scans.{AreTokensFrom, IsBadFrom}
use Rattle.qc_text.proofs.scanner.tokens.Given as goal

-- the tokens so far and those of the rest are those of the file, and the rest's bad byte is the file's
abbrev pub invariant-loop-piece : goal.invariant-loop-piece
invariant-loop-piece l =
    record {
      places : l.at + length l.rest ≡ length l.fn.bytes;
      told : (tokens : List Token) → AreTokensFrom l.at l.rest tokens → AreTokens l.fn.bytes (l.found.items ++ tokens);
      bad : (place : ℕ) → IsBadFrom l.at l.rest place → IsBadByte l.fn.bytes place;
    }

abbrev pub decreases-loop-piece : goal.decreases-loop-piece
decreases-loop-piece l = length l.rest
