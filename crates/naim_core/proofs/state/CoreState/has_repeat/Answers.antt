use Rattle.std.proofs.Common.{◌≡◌, sym, subst, arith, false}
use Rattle.std.specs.Prelude.{is_none}
use Rattle.std.specs.List.{list_any}
use Rattle.naim_core.specs.Rows
use Rattle.naim_core.specs.State.{pool_at}
use Rattle.naim_core.specs.View.{core_of}
use Rattle.naim_core.proofs.Cuts.{repeat_of_many}
use Rattle.naim_core.proofs.state.CoreState.has_repeat.Goals as goal

pub returns-then-used-tasks-clause-value : goal.returns-then-used-tasks-clause-value
returns-then-used-tasks-clause-value c =
    let absent = subst (λ n. list_any (λ t. is_none (pool_at n.pools t)) c.args.tasks.now ≡ false) (sym c.self.view_is) c.requires in
    sym (repeat_of_many (core_of c.self.inside) c.args.tasks.now c.self.invariant.0 absent (let l = c.len-used.ensures in omega arith))
