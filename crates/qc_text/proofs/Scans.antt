-- Scanning from a place on.
use Rattle.std.proofs.Common.{ℕ, ◌≡◌, ◌≢◌, ◌∙◌, ◌+◌, ◌≤◌, ◌<◌, List, [], ◌∷◌, ◌++◌, length, take, drop, refl, ap, sym}
use Rattle.std.proofs.lemmas.List.{length-take-le}
use Rattle.std.specs.Prelude.{None, Some}
use Rattle.qc_text.specs.declared.piece.Front.{Front}
use Rattle.qc_text.specs.declared.token.Token.{Token}
use Rattle.qc_text.specs.Inner.Scanning.{IsFront}
use Rattle.qc_text.specs.Pieces.{Piece, IsFirst, AreCut, place_after, token_at, tokens_of}

-- the bytes from a place on are whole pieces, and these are the tokens
pub record AreTokensFrom (at : ℕ) (bytes : List ℕ) (tokens : List Token) : Type 0 where
  pub pieces : List Piece
  pub cut : AreCut bytes pieces []
  pub are : tokens ≡ tokens_of at pieces

-- the bytes from a place on are whole pieces up to another place, where none begins
pub record IsBadFrom (at : ℕ) (bytes : List ℕ) (bad : ℕ) : Type 0 where
  pub pieces : List Piece
  pub rest : List ℕ
  pub cut : AreCut bytes pieces rest
  pub place : bad ≡ place_after at pieces
  pub some : rest ≢ []
  pub none : (piece : Piece) (after : List ℕ) → IsFirst rest piece after → ⊥

pub bad_here : (at : ℕ) (bytes : List ℕ) → bytes ≢ [] → IsFront bytes None → IsBadFrom at bytes at
unfolding IsFront
bad_here at bytes some none = record { pieces = []; rest = bytes; cut = refl; place = refl; some = some; none = none }

pub more_tokens : (at : ℕ) (bytes : List ℕ) (front : Front) (tokens : List Token) → IsFront bytes (Some front)
    → AreTokensFrom (at + front.length) (drop front.length bytes) tokens
    → AreTokensFrom at bytes (token_at at front.kind (at + front.length) ++ tokens)
unfolding IsFront
more_tokens at bytes front tokens first later =
    let size : length (take front.length bytes) ≡ front.length = length-take-le front.length bytes first.1 in
    record {
      pieces = record { kind = front.kind; text = take front.length bytes } ∷ later.pieces;
      cut = (drop front.length bytes, first.2, later.cut);
      are = ap (λ ts. token_at at front.kind (at + front.length) ++ ts) later.are
          ∙ ap (λ n. token_at at front.kind (at + n) ++ tokens_of (at + n) later.pieces) (sym size);
    }

pub bad_later : (at : ℕ) (bytes : List ℕ) (front : Front) (bad : ℕ) → IsFront bytes (Some front)
    → IsBadFrom (at + front.length) (drop front.length bytes) bad → IsBadFrom at bytes bad
unfolding IsFront
bad_later at bytes front bad first later =
    let size : length (take front.length bytes) ≡ front.length = length-take-le front.length bytes first.1 in
    record {
      pieces = record { kind = front.kind; text = take front.length bytes } ∷ later.pieces;
      rest = later.rest;
      cut = (drop front.length bytes, first.2, later.cut);
      place = later.place ∙ ap (λ n. place_after (at + n) later.pieces) (sym size);
      some = later.some;
      none = later.none;
    }

pub front_size : (bytes : List ℕ) (front : Front) → IsFront bytes (Some front)
    → (0 < front.length) × (front.length ≤ length bytes)
unfolding IsFront
front_size bytes front first = (first.0, first.1)
