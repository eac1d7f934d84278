-- A file is cut in one way.
use Rattle.std.proofs.Common.{ℕ, ◌≡◌, ◌∙◌, inl, inr, List, [], ◌∷◌, ◌++◌, length, refl, ap, sym, subst, arith}
use Rattle.std.specs.Prelude.{Option, None, Some}
use Rattle.qc_lists.specs.Law.Lists.{same_parts}
use Rattle.qc_text.specs.declared.token.Kind.{Kind}
use Rattle.qc_text.specs.declared.token.Kind.TheVariants.{Name, Prim, Number, Str, Punct}
use Rattle.qc_text.specs.declared.token.Token.{Token}
use Rattle.qc_text.specs.Pieces.{Piece, IsFirst, IsPieceText, AreCut, place_after, tokens_of, AreTokens, IsBadByte}
use Rattle.qc_text.specs.Inner.Scanning.{IsFront}
use Rattle.qc_text.specs.Tokens.{IsComment}
use Rattle.qc_text.proofs.Shapes.{Sort, names, numbers, prims, strings, slashes, blanks, marks, others, sort_of, Shape, a_name, a_number, a_prim, a_string, a_slash, a_comment, a_blank, a_mark, a_pair, shape}

-- the kind of a piece, by what begins with its first byte and what is behind that
kind_of : Sort → List ℕ → Option Kind
kind_of names bs = Some Name
kind_of numbers bs = Some Number
kind_of prims bs = Some Prim
kind_of strings bs = Some Str
kind_of slashes [] = Some Punct
kind_of slashes (b ∷ bs) = None
kind_of blanks bs = None
kind_of marks bs = Some Punct
kind_of others bs = None

comment_behind : (b : ℕ) (bs : List ℕ) → IsComment (b ∷ bs) → kind_of slashes bs ≡ None
unfolding kind_of
comment_behind b [] (inl line) = cc line.2
comment_behind b [] (inr block) = cc block.2
comment_behind b (c ∷ bs) is = refl

shape_kind : (kind : Option Kind) (b : ℕ) (bs : List ℕ) (s : Sort) → Shape kind b bs s → kind ≡ kind_of s bs
unfolding kind_of
shape_kind kind b bs names (a_name k e) = k
shape_kind kind b bs numbers (a_number k e) = k
shape_kind kind b bs prims (a_prim k e) = k
shape_kind kind b bs strings (a_string k e) = k
shape_kind kind b bs slashes (a_slash k e) = k ∙ sym (ap (kind_of slashes) e)
shape_kind kind b bs slashes (a_comment k is) = k ∙ sym (comment_behind b bs is)
shape_kind kind b bs blanks (a_blank k e) = k
shape_kind kind b bs marks (a_mark k e) = k
shape_kind kind b bs marks (a_pair k c e pair) = k
shape_kind kind b bs others s = elim s [ ]

pub some_text : (kind : Option Kind) → IsPieceText kind [] → ⊥
some_text None (inl blank) = cc blank.2
some_text None (inr (inl line)) = cc line.2
some_text None (inr (inr block)) = cc block.2
some_text (Some kind) is = is.1 refl

-- a text is of one kind
one_kind : (kind other : Option Kind) (text : List ℕ) → IsPieceText kind text → IsPieceText other text → kind ≡ other
one_kind kind other [] is also = absurd (some_text kind is)
one_kind kind other (b ∷ bs) is also =
    shape_kind kind b bs (sort_of b) (shape kind b bs is)
    ∙ sym (shape_kind other b bs (sort_of b) (shape other b bs also))

abbrev piece_of : Option Kind → List ℕ → Piece
piece_of kind text = record { kind = kind; text = text }

same_piece : (k l : Option Kind) (t u : List ℕ) → k ≡ l → t ≡ u → piece_of k t ≡ piece_of l u
same_piece k l t u e f = cc

-- one piece is at the front
pub one_first : (bytes : List ℕ) (p q : Piece) (r s : List ℕ) → IsFirst bytes p r → IsFirst bytes q s
    → (p ≡ q) × (r ≡ s)
one_first bytes p q r s first also =
    let size : length p.text ≡ length q.text =
    omega (arith, first.longest q.kind q.text s also.is also.split, also.longest p.kind p.text r first.is first.split)
    in
    let same = same_parts p.text q.text r s size (sym first.split ∙ also.split) in
    let kind : p.kind ≡ q.kind = one_kind p.kind q.kind q.text (subst (IsPieceText p.kind) same.0 first.is) also.is in
    let text : p.text ≡ q.text = same.0 in
    (same_piece p.kind q.kind p.text q.text kind text, same.1)

-- no piece begins the bytes
abbrev pub IsStuck : List ℕ → Type 0
IsStuck bytes = (piece : Piece) (after : List ℕ) → IsFirst bytes piece after → ⊥

begins_nothing : (kind : Option Kind) (text after : List ℕ) → IsPieceText kind text → [] ≡ text ++ after → ⊥
begins_nothing kind [] after is e = some_text kind is
begins_nothing kind (b ∷ text) after is e = cc e

pub end_is_stuck : IsStuck []
end_is_stuck piece after first = begins_nothing piece.kind piece.text after first.is first.split

pub one_cut : (pieces further : List Piece) (bytes r s : List ℕ) → AreCut bytes pieces r → AreCut bytes further s
    → IsStuck r → IsStuck s → (pieces ≡ further) × (r ≡ s)
one_cut [] [] bytes r s cut also stuck too = (refl, sym cut ∙ also)
one_cut [] (q ∷ further) bytes r s cut also stuck too =
    absurd (stuck q also.0 (subst (λ b. IsFirst b q also.0) cut also.1))
one_cut (p ∷ pieces) [] bytes r s cut also stuck too = absurd (too p cut.0 (subst (λ b. IsFirst b p cut.0) also cut.1))
one_cut (p ∷ pieces) (q ∷ further) bytes r s cut also stuck too =
    let first = one_first bytes p q cut.0 also.0 cut.1 also.1 in
    let rest = one_cut pieces further cut.0 r s cut.2 (subst (λ b. AreCut b further s) (sym first.1) also.2) stuck
    too in
    let piece : p ≡ q = first.0 in
    let tail : pieces ≡ further = rest.0 in
    (cc (piece, tail), rest.1)

pub one_token_list : (bytes : List ℕ) (tokens further : List Token) → AreTokens bytes tokens → AreTokens bytes further
    → tokens ≡ further
one_token_list bytes tokens further are also =
    let same = one_cut are.pieces also.pieces bytes [] [] are.cut also.cut end_is_stuck end_is_stuck in
    are.are ∙ ap (tokens_of 0) same.0 ∙ sym also.are

pub one_bad_byte : (bytes : List ℕ) (at place : ℕ) → IsBadByte bytes at → IsBadByte bytes place → at ≡ place
one_bad_byte bytes at place bad also =
    let same = one_cut bad.pieces also.pieces bytes bad.rest also.rest bad.cut also.cut bad.none also.none in
    bad.place ∙ ap (place_after 0) same.0 ∙ sym also.place

pub no_bad_byte : (bytes : List ℕ) (tokens : List Token) (at : ℕ) → AreTokens bytes tokens → IsBadByte bytes at → ⊥
no_bad_byte bytes tokens at are bad =
    let same = one_cut are.pieces bad.pieces bytes [] bad.rest are.cut bad.cut end_is_stuck bad.none in
    bad.some (sym same.1)

-- a file of no bytes
pub no_bytes : (bytes : List ℕ) → length bytes ≡ 0 → IsFront bytes None
unfolding IsFront
no_bytes [] size = end_is_stuck
no_bytes (b ∷ bytes) size = absurd (omega arith)
