use Rattle.std.proofs.Common.{arith}
use Rattle.qc_layout.proofs.FoundImages.{found_bytes, found_fits, found_lengths, has_header, has_length, has_parts}
use Rattle.qc_layout.proofs.reading.image_in.Goals as goal

pub number_at-size-requires : goal.number_at-size-requires
number_at-size-requires c = omega (arith, has_header c.args.descr.now c.args.bytes.now c.requires)

pub split_at-requires : goal.split_at-requires
split_at-requires c = has_header c.args.descr.now c.args.bytes.now c.requires

pub split_at-requires-2 : goal.split_at-requires-2
split_at-requires-2 c = omega (arith, has_length c.args.descr.now c.args.bytes.now c.requires)

pub returns-clause-image : goal.returns-clause-image
returns-clause-image c =
    found_bytes c.args.descr.now c.args.bytes.now c.in_ok-from_slice.field-0 c.in_ok-from_slice-2.field-0 c.requires
    (has_parts c.args.bytes.now c.split_at.result.1.now _ _ c.number_at-size.result c.number_at-size.ensures
    c.split_at.ensures.back (cc c.in_ok-from_slice.ensures) (cc c.in_ok-from_slice-2.ensures))
    (λ i. omega (arith, c.type_inv.bytes i))

pub returns-clause-fits : goal.returns-clause-fits
returns-clause-fits c =
    found_fits c.args.descr.now c.args.bytes.now c.in_ok-from_slice.field-0 c.in_ok-from_slice-2.field-0 c.requires
    (has_parts c.args.bytes.now c.split_at.result.1.now _ _ c.number_at-size.result c.number_at-size.ensures
    c.split_at.ensures.back (cc c.in_ok-from_slice.ensures) (cc c.in_ok-from_slice-2.ensures))

pub returns-clause-lengths : goal.returns-clause-lengths
returns-clause-lengths c =
    found_lengths c.args.descr.now c.args.bytes.now c.in_ok-from_slice.field-0 c.in_ok-from_slice-2.field-0 c.requires
    (has_parts c.args.bytes.now c.split_at.result.1.now _ _ c.number_at-size.result c.number_at-size.ensures
    c.split_at.ensures.back (cc c.in_ok-from_slice.ensures) (cc c.in_ok-from_slice-2.ensures))
    (omega (arith, c.number_at-size.type_inv, c.number_at-size.ensures))
