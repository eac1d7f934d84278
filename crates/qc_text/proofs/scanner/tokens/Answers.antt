use Rattle.std.proofs.Common.{ℕ, [], ◌++◌, ◌+◌, ◌≡◌, ◌≢◌, length, drop, ap, sym, subst, ◌∙◌, append_assoc, arith}
use Rattle.std.proofs.lemmas.Bool.{eqb-false}
use Rattle.qc_text.specs.Pieces.{AreTokens, token_at}
use Rattle.qc_text.proofs.Scans.{AreTokensFrom, IsBadFrom, front_size, more_tokens, bad_later, bad_here}
use Rattle.qc_text.proofs.scanner.tokens.Goals as goal

pub overflow_add-end : goal.overflow_add-end
overflow_add-end c =
    let size = front_size c.loop-piece.rest.now c.in-Some.piece c.in-Some.ensures in
    omega (arith, size.1, c.loop-piece.invariant.places)

pub split_at-requires : goal.split_at-requires
split_at-requires c = (front_size c.loop-piece.rest.now c.in-Some.piece c.in-Some.ensures).1

pub loop-piece-smaller : goal.loop-piece-smaller
loop-piece-smaller c =
    let size = front_size c.loop-piece.rest.now c.in-Some.piece c.in-Some.ensures in
    omega (arith, size.0, c.split_at.ensures.back_len)

pub loop-piece-preserved : goal.loop-piece-preserved
loop-piece-preserved c =
    let old = c.loop-piece.invariant in
    let piece = c.in-Some.piece in
    let front = c.in-Some.ensures in
    let end : ℕ = c.loop-piece.at + piece.length in
    let back = c.split_at.ensures.back in
    record {
      places = omega (arith, old.places, c.split_at.ensures.back_len);
      told = λ tokens from.
          let later : AreTokensFrom end (drop piece.length c.loop-piece.rest.now) tokens =
          subst (λ bytes. AreTokensFrom end bytes tokens) back from in
          let all =
          old.told (token_at c.loop-piece.at piece.kind end ++ tokens)
          (more_tokens c.loop-piece.at c.loop-piece.rest.now piece tokens front later) in
          let pushed : c.push_token.new.found.items ++ tokens ≡ c.loop-piece.found.items
          ++ (token_at c.loop-piece.at piece.kind end ++ tokens) =
          ap (λ xs. xs ++ tokens) c.in-Ok.ensures
          ∙ append_assoc c.loop-piece.found.items (token_at c.loop-piece.at piece.kind end) tokens in
          subst (AreTokens c.args.bytes.now) (sym pushed) all;
      bad = λ place from.
          old.bad place
          (bad_later c.loop-piece.at c.loop-piece.rest.now piece place front
          (subst (λ bytes. IsBadFrom end bytes place) back from));
    }

pub returns-then-not-is_empty : goal.returns-then-not-is_empty
returns-then-not-is_empty c =
    let some : c.loop-piece.rest.now ≢ [] =
    λ none. eqb-false (length c.loop-piece.rest.now) 0 (sym c.if-not-is_empty.ensures) (ap length none) in
    c.loop-piece.invariant.bad c.loop-piece.at
    (bad_here c.loop-piece.at c.loop-piece.rest.now some c.in_default.ensures)
