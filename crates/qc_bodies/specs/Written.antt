-- Expressions in which nothing is used, as values: what an expression comes to is then written out.
use Rattle.qc_bodies.specs.Trees.{Core, one, Leaf, Absent, Wrap, Operate, several}
use Rattle.qc_bodies.specs.Meanings.{Algebra}

abbrev pub written : Algebra (Core one)
written = record {
  leaf = λ token leaf width. Leaf token leaf width;
  absent = λ token. Absent token;
  wrap = λ token wrap width part. Wrap token wrap width part;
  operate = λ token op args. Operate token op (several args);
}
