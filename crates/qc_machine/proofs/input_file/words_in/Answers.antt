use Rattle.std.proofs.Common.{◌≡◌, ◌∙◌, All, ap, inr, map, subst, take}
use Rattle.std.proofs.lemmas.List.{take_all}
use Rattle.std.proofs.lemmas.List.Elements.{All-more}
use Rattle.qc_machine.specs.InputFile.{IsWordToken, number_in}
use Rattle.qc_machine.proofs.Inputs.{input_found, inside_at, one_more, small_words, some_tokens, wrong_found}
use Rattle.qc_machine.proofs.input_file.words_in.Goals as goal

pub unreachable-requires : goal.unreachable-requires
unreachable-requires c =
    some_tokens c.one_end.ensures c.args.bytes.now c.args.tokens.now c.requires c.in_default.ensures.cases

pub word_in-requires-clause-order : goal.word_in-requires-clause-order
word_in-requires-clause-order c =
    (inside_at c.spans_in_order.ensures.inside c.args.bytes.now c.args.tokens.now c.in-Some.front.now _ _ c.loop-token.token-index
    c.requires c.in-Some.ensures.cases.0 c.loop-token-test.true).0

pub word_in-requires-clause-inside : goal.word_in-requires-clause-inside
word_in-requires-clause-inside c =
    (inside_at c.spans_in_order.ensures.inside c.args.bytes.now c.args.tokens.now c.in-Some.front.now _ _ c.loop-token.token-index
    c.requires c.in-Some.ensures.cases.0 c.loop-token-test.true).1

pub returns-in_default-word_in-clause-bad : goal.returns-in_default-word_in-clause-bad
returns-in_default-word_in-clause-bad c =
    inr (wrong_found c.one_end.ensures c.args.word c.args.bytes.now c.args.tokens.now c.in-Some.front.now _ _ c.loop-token.token-index
    c.requires c.in-Some.ensures.cases.0 c.loop-token-test.true c.loop-token.invariant.numbers c.in_default-word_in.ensures.none)

pub loop-token-preserved : goal.loop-token-preserved
loop-token-preserved c = record {
  values = c.in-Ok.ensures.items ∙ one_more c.args.word c.args.bytes.now c.loop-token.words.items c.in-Some.front.now _ c.loop-token.token-index
      c.in-Some-word_in.number c.loop-token-test.true c.loop-token.invariant.values c.in-Some-word_in.ensures.some.0;
  numbers = All-more (IsWordToken c.args.word c.args.bytes.now) c.in-Some.front.now c.loop-token.token-index _ c.loop-token-test.true
      c.loop-token.invariant.numbers c.in-Some-word_in.ensures.some.1;
}

pub returns-clause-input : goal.returns-clause-input
returns-clause-input c =
    let front = c.in-Some.front.now in
    let whole : take c.loop-token.token-index front ≡ front = take_all c.loop-token.token-index front c.loop-token-test.false in
    input_found c.one_end.ensures c.args.word c.args.bytes.now c.loop-token.words.items c.args.tokens.now front _
    c.requires c.in-Some.ensures.cases.0
    (subst (All (IsWordToken c.args.word c.args.bytes.now)) whole c.loop-token.invariant.numbers)
    (c.loop-token.invariant.values ∙ ap (map (number_in c.args.bytes.now)) whole)

pub returns-clause-words : goal.returns-clause-words
returns-clause-words c =
    small_words c.args.word c.args.bytes.now c.loop-token.words.items (take c.loop-token.token-index c.in-Some.front.now)
    c.loop-token.invariant.numbers c.loop-token.invariant.values
