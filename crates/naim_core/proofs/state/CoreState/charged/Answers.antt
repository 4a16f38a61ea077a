use Rattle.std.proofs.Common.{arith}
use Rattle.naim_core.specs.Rows
use Rattle.naim_core.specs.View.{core_of}
use Rattle.naim_core.proofs.Bounds.{held_total}
use Rattle.naim_core.proofs.state.CoreState.charged.Goals as goal

pub overflow_add-result : goal.overflow_add-result
overflow_add-result c = let h = held_total (core_of c.self.inside) c.self.invariant.0 in let u = c.self.invariant.0.under_fits in let l =
    c.self.invariant.1.small_limit in omega arith
