use Rattle.qc_decode.proofs.laws.encoded_is_decoded.Goals as goal

pub returns-clause-there : goal.returns-clause-there
returns-clause-there c = λ d memory operands bytes more at number encodes prefix none.
    none number operands bytes (record { encodes = encodes; more = more; prefix = prefix })

pub returns-clause-only : goal.returns-clause-only
returns-clause-only c = λ d memory operands bytes more others found at number other valid encodes prefix stands.
    c.one_instance.ensures d memory at other number others operands found bytes valid stands
    (record { encodes = encodes; more = more; prefix = prefix })
