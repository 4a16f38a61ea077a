use Rattle.std.proofs.Common.{◌≤◌, length, subst, sym}
use Rattle.il_core.specs.Limits.{max_size}
use Rattle.call_graph.specs.declared.summary.Summary.{Summary}
use Rattle.inline_budget.proofs.Seen.{small_sites}
use Rattle.inline_budget.proofs.ranking.all_sites.Goals as goal

pub add_sites-requires : goal.add_sites-requires
add_sites-requires c =
    subst (λ (r : Summary). length r.sites ≤ max_size) (sym c.routine-item.is)
    (small_sites c.args.routines.now c.loop-routine.routine-index c.routine-item.result c.requires c.loop-routine-test.true)
