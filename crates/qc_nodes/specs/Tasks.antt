-- What all nodes of a derivation have in common, as the code has it.
use Rattle.std.specs.Prelude.{ℕ}
use Rattle.qc_descr.specs.declared.description.Description.{Description}
use Rattle.qc_tiles.specs.declared.tile.Tile.{Tile}
use Rattle.qc_tiles.specs.Names.{shape_of}
use Rattle.qc_derivations.specs.Machine.{machine_of}
use Rattle.qc_derivations.specs.Nodes.{Task, is_bare, is_branch, is_single, target_of}
use Rattle.qc_nodes.specs.declared.job.Job.{Job}

-- the job of a tile's derivations
abbrev pub job_of : Tile → ℕ → Job
job_of t laws = record {
  target = target_of t;
  branch = is_branch (shape_of t.name);
  single = is_single (shape_of t.name);
  bare = is_bare (shape_of t.name);
  laws = laws;
}

-- a job on a machine
abbrev pub task_in : Description → Job → Task
task_in d job = record {
  machine = machine_of d;
  target = job.target;
  branch = job.branch;
  single = job.single;
  bare = job.bare;
  laws = job.laws;
}
