use Rattle.std.proofs.Common.{◌≡◌, ℕ, List, [], drop, map}
use Rattle.clone_groups.specs.Grouping.{accepted}
use Rattle.clone_pools.specs.States.{GrowsOn, HoldsState, IsReady}
use Rattle.clone_pools.proofs.Left.{IsLeft}
use Rattle.plan_laws.specs.Groups.{Taken}
use Rattle.plan_laws.specs.Plan.{State, add_clones}
use Rattle.plan_pools.specs.Cloning.{CanAddAll}
use Rattle.clone_pools.proofs.adding.add_clones.Given as goal

abbrev pub invariant-loop-group : goal.invariant-loop-group
invariant-loop-group g l = record {
  ready : IsReady l.loader l.progress;
  grows : GrowsOn g.D.Disk.faults [] l.fn.loader l.fn.progress.next l.loader l.progress.next;
  left : (main : ℕ) (ts : List Taken) (st : State) → map accepted ts ≡ l.groups → CanAddAll l.names ts st
      → HoldsState g.D.Disk.reach g.D.Disk.honest g.D.Disk.faults main l.fn.loader l.fn.progress st
      → IsLeft g.D.Disk.reach g.D.Disk.honest g.D.Disk.faults main l.names l.loader l.progress (drop l.group-index l.groups) (add_clones l.names ts st);
}
