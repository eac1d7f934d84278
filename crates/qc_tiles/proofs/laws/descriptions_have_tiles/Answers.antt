use Rattle.qc_tiles.specs.Law.Descriptions.{description_cells, description_facts, description_tiles}
use Rattle.qc_tiles.proofs.laws.descriptions_have_tiles.Goals as goal

pub returns-clause-facts : goal.returns-clause-facts
returns-clause-facts c = description_facts

pub returns-clause-cells : goal.returns-clause-cells
returns-clause-cells c = description_cells

pub returns-clause-tiles : goal.returns-clause-tiles
returns-clause-tiles c = description_tiles
