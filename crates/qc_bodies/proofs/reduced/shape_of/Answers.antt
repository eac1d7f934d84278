use Rattle.std.proofs.Common.{[], ◌∙◌, ap}
use Rattle.qc_bodies.specs.Meanings.{value}
use Rattle.qc_bodies.specs.Normals.{normal_of, normal-param}
use Rattle.qc_bodies.specs.Written.{written}
use Rattle.qc_bodies.specs.Inner.Expanding.{written_functions}
use Rattle.qc_bodies.proofs.reduced.shape_of.Goals as goal

pub returns-in-Param-clause-shape : goal.returns-in-Param-clause-shape
returns-in-Param-clause-shape c = λ m comes es.
    comes es ∙ ap (value written (written_functions c.args.normals.now) [] es) (ap normal_of c.in-Param.is ∙ normal-param c.in-Param.number)
