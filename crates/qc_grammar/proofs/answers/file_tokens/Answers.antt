use Rattle.std.proofs.Common.{subst}
use Rattle.qc_text.specs.Pieces.{IsBadByte, IsCause}
use Rattle.qc_grammar.proofs.answers.file_tokens.Goals as goal

pub returns-in-Ok : goal.returns-in-Ok
returns-in-Ok c =
    let end = c.one_end.ensures c.args.bytes.now c.in-Ok.found.items c.in-Ok.ensures in
    record {
      are = c.in-Ok.ensures;
      only = λ others are. c.one_token_list.ensures c.args.bytes.now c.in-Ok.found.items others c.in-Ok.ensures are;
      whole = λ at bad. c.one_bad_byte.ensures.none c.args.bytes.now c.in-Ok.found.items at c.in-Ok.ensures bad;
      inside = λ i token e.
          c.spans_in_order.ensures.inside c.args.bytes.now c.in-Ok.found.items i token c.in-Ok.ensures e;
      front = end.0;
      ended = end.1;
    }

pub returns-in-Err-BadByte : goal.returns-in-Err-BadByte
returns-in-Err-BadByte c =
    let bad : IsBadByte c.args.bytes.now c.in-Err-BadByte.at =
    subst (IsCause c.args.bytes.now) c.in-Err-BadByte.field-0-is c.in-Err-BadByte.ensures in
    record {
      is = bad;
      only = λ place other. c.one_bad_byte.ensures.one c.args.bytes.now c.in-Err-BadByte.at place bad other;
      none = λ tokens are. c.one_bad_byte.ensures.none c.args.bytes.now tokens c.in-Err-BadByte.at are bad;
    }
