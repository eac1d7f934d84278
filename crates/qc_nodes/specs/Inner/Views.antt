-- What definitions see in the lists that the code has: pairs, assignments, and what stands for operands.
use Rattle.std.specs.Prelude.{List, map}
use Rattle.qc_terms.specs.declared.term.Effect.{Effect}
use Rattle.qc_terms.specs.Tree.{tree_of}
use Rattle.qc_derivations.specs.declared.derivation.Binding.{Binding}
use Rattle.qc_derivations.specs.Forest.{Stand, stand_of}
use Rattle.qc_derivations.specs.Machine.{Assignment, assignment_of}
use Rattle.qc_derivations.specs.Matching as matching
use Rattle.qc_nodes.specs.declared.matching.Pair.{Pair}

abbrev pub pair_of : Pair → matching.Pair
pair_of p = record { leaf = p.leaf; part = tree_of p.part }

abbrev pub pairs_in : List Pair → List matching.Pair
pairs_in pairs = map pair_of pairs

abbrev pub assignments_in : List Effect → List Assignment
assignments_in effects = map assignment_of effects

abbrev pub stands_in : List Binding → List Stand
stands_in bindings = map stand_of bindings
