use Rattle.std.proofs.Common.{◌∷◌, length, sym, subst, ◌∙◌, refl}
use Rattle.std.specs.Prelude.{is_some}
use Rattle.std.specs.Vec.{vec_capacity}
use Rattle.naim_core.specs.Rows
use Rattle.naim_core.specs.Charges.{under_sum}
use Rattle.naim_core.specs.Sound.{IsSound}
use Rattle.naim_core.specs.State.{pool_at}
use Rattle.naim_core.specs.View.{core_of}
use Rattle.naim_core.proofs.Bounds.{sums_fit}
use Rattle.naim_core.proofs.Cuts.{kept_pools}
use Rattle.naim_core.proofs.Events.{insert_sound, permit_gives, permit_ok}
use Rattle.list_laws.proofs.Entries.{number_itself}
use Rattle.naim_core.proofs.state.CoreState.insert.Goals as goal

pub add-requires-clause-held_fits : goal.add-requires-clause-held_fits
add-requires-clause-held_fits c =
    let next = subst (λ z. IsSound (record (core_of c.self.inside) { pools = (c.args.pid, z) ∷ c.self.inside.pools }))
    (permit_gives (Rows.insert_row c.self.inside.limit (under_sum c.self.inside.pools) (is_some (pool_at c.self.inside.pools c.args.pid))
    (length c.self.inside.pools) c.args.form c.args.e c.args.c) (Rows.inserted c.args.form c.args.e c.args.c) c.in_ok-pool.pool
    (rw (c.under.ensures, c.len.ensures, c.is_some-present.ensures, c.get.ensures) at (sym c.insert.ensures ∙ c.in_ok-pool.was)))
    (insert_sound (core_of c.self.inside) c.args.pid c.args.form c.args.e c.args.c c.self.invariant.0
    (permit_ok (Rows.insert_row c.self.inside.limit (under_sum c.self.inside.pools) (is_some (pool_at c.self.inside.pools c.args.pid))
    (length c.self.inside.pools) c.args.form c.args.e c.args.c) (Rows.inserted c.args.form c.args.e c.args.c) c.in_ok-pool.pool
    (rw (c.under.ensures, c.len.ensures, c.is_some-present.ensures, c.get.ensures) at (sym c.insert.ensures ∙ c.in_ok-pool.was)))) in
    (sums_fit (core_of c.self.inside) (record (core_of c.self.inside) { pools = (c.args.pid, c.in_ok-pool.pool) ∷ c.self.inside.pools }) c.args.pid
    c.in_ok-pool.pool c.self.invariant.0 next c.self.invariant.1.small_limit (rw (number_itself c.args.pid) refl)).1

pub invariant_of-self : goal.invariant_of-self
invariant_of-self c =
    let next = subst (λ z. IsSound (record (core_of c.self.inside) { pools = (c.args.pid, z) ∷ c.self.inside.pools }))
    (permit_gives (Rows.insert_row c.self.inside.limit (under_sum c.self.inside.pools) (is_some (pool_at c.self.inside.pools c.args.pid))
    (length c.self.inside.pools) c.args.form c.args.e c.args.c) (Rows.inserted c.args.form c.args.e c.args.c) c.in_ok-pool.pool
    (rw (c.under.ensures, c.len.ensures, c.is_some-present.ensures, c.get.ensures) at (sym c.insert.ensures ∙ c.in_ok-pool.was)))
    (insert_sound (core_of c.self.inside) c.args.pid c.args.form c.args.e c.args.c c.self.invariant.0
    (permit_ok (Rows.insert_row c.self.inside.limit (under_sum c.self.inside.pools) (is_some (pool_at c.self.inside.pools c.args.pid))
    (length c.self.inside.pools) c.args.form c.args.e c.args.c) (Rows.inserted c.args.form c.args.e c.args.c) c.in_ok-pool.pool
    (rw (c.under.ensures, c.len.ensures, c.is_some-present.ensures, c.get.ensures) at (sym c.insert.ensures ∙ c.in_ok-pool.was)))) in
    (rw c.add.ensures next, kept_pools (core_of c.self.inside) c.self.inside.next (vec_capacity c.self.inside.done) c.add.new.self c.self.invariant.1)
