use Rattle.std.proofs.Common.{rules}
use Rattle.qc_lrtl.specs.LambdaRtl.{single, region, role, of_cells, instruction, declaration, item, ended_item}
use Rattle.qc_lrtl.proofs.items.begins_item.Goals as goal

pub returns-then-begins_of_cells : goal.returns-then-begins_of_cells
unfolding single region role of_cells instruction declaration item ended_item
returns-then-begins_of_cells c = search rules

pub returns-else-begins_of_cells : goal.returns-else-begins_of_cells
unfolding single region role of_cells instruction declaration item ended_item
returns-else-begins_of_cells c = search rules
