use Rattle.qc_core.proofs.laws.lower_laws.Goals as goal

pub returns : goal.returns
returns c = record {
  tokens = record {
    one = c.one_token_list.ensures;
    bad = c.one_bad_byte.ensures.one;
    none = c.one_bad_byte.ensures.none;
    end = c.one_end.ensures;
  };
  images = record { one = c.one_image.ensures; bad = c.one_bad_image.ensures; none = c.image_files_are_read.ensures };
  inputs = record { one = c.one_input.ensures; bad = c.one_bad_input.ensures; none = c.input_is_not_bad.ensures };
  program = c.one_program.ensures;
}
