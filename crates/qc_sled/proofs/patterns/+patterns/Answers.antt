use Rattle.qc_grammar.specs.Law.Loops.{gives_alike}
use Rattle.qc_grammar.specs.Reading.{reads}
use Rattle.qc_sled.specs.Sled.{sled, pattern, pattern_unrolls, sequence, sequence_shortens, sequences, conjunction, conjunction_shortens, conjunctions, atom, atom_shortens, atoms}
use Rattle.qc_sled.proofs.patterns.+patterns.Goals as goal

pub read_any_pattern-returns : goal.read_any_pattern-returns
read_any_pattern-returns t c =
    gives_alike c.read_pattern.result c.args.cursor.now c.read_pattern.new.cursor (reads sled pattern) _ pattern_unrolls
    c.read_pattern.ensures

pub read_sequences-returns : goal.read_sequences-returns
unfolding sequences
read_sequences-returns t c = c.read_separated_by.ensures (reads sled sequence) sequence_shortens (λ old result new given. given)

pub read_conjunctions-returns : goal.read_conjunctions-returns
unfolding conjunctions
read_conjunctions-returns t c = c.read_separated_by.ensures (reads sled conjunction) conjunction_shortens (λ old result new given. given)

pub read_atoms-returns : goal.read_atoms-returns
unfolding atoms
read_atoms-returns t c = c.read_separated_by.ensures (reads sled atom) atom_shortens (λ old result new given. given)
