use Rattle.std.proofs.Common.{subst, sym, List, ◌<◌}
use Rattle.il_core.specs.Limits.{max_pids}
use Rattle.il_core.specs.Object.{ObjectParts}
use Rattle.std.specs.List.{AllByRecursion}
use Rattle.il_core.proofs.Programs.{objects_small}
use Rattle.il_run.proofs.tables.Tables.new.Goals as goal

pub sizes_of-requires : goal.sizes_of-requires
sizes_of-requires c = subst (λ (os : List ObjectParts). AllByRecursion (λ o. o.pid < max_pids) os) (sym c.as_slice.ensures)
    (objects_small c.args.p.now c.requires)
