use Rattle.std.proofs.Common.{ℕ, List, subst}
use Rattle.c_module.specs.Taking.{IsTakeCause}
use Rattle.profile.specs.Counts.{counts_of}
use Rattle.hlo_cmd.specs.Pools.{GoesOn, IsReady, RefusesRoutine, inserted}
use Rattle.hlo_cmd.proofs.Stopping.{kept_told, taken_refused}
use Rattle.hlo_cmd.proofs.pools.take_files.Goals as goal

pub returns-in-Refused-clause-err : goal.returns-in-Refused-clause-err
returns-in-Refused-clause-err g c =
    let tells = g.S.Shelf.tells c.args.shelf.now in
    let files = c.args.settings.now.files in
    let counts = counts_of c.args.p.now in
    let cause = subst (λ (names : List (List ℕ)). IsTakeCause (λ p. inserted p.loader) (λ p. IsReady p.loader p.pids.items p.cost)
    (λ a b. GoesOn g.D.Disk.faults a.loader b.loader) (λ a b r. RefusesRoutine g.D.Disk.faults a.loader b.loader r) c.in-Err.fault counts names tells
    (g.S.Shelf.faults c.args.shelf.now) (g.S.Shelf.faults c.lowered_into.new.shelf) c.args.paging.now c.lowered_into.new.taker c.lowered_into.new.syms)
    c.as_slice.ensures c.in-Err.ensures.err in
    let refused = taken_refused (λ p. inserted p.loader) (λ p. IsReady p.loader p.pids.items p.cost) (λ a b. GoesOn g.D.Disk.faults a.loader b.loader)
    (λ a b r. RefusesRoutine g.D.Disk.faults a.loader b.loader r) counts files tells (g.S.Shelf.faults c.args.shelf.now)
    (g.S.Shelf.faults c.lowered_into.new.shelf) c.args.paging.now c.lowered_into.new.taker c.lowered_into.new.syms c.in-Err.fault c.in-Refused.is
    cause in
    kept_told (λ p. p.loader) (λ p. p.pids.items) (λ p. p.cost) g.D.Disk.faults tells c.args.settings.now counts c.args.paging.now c.lowered_into.new.taker
    c.lowered_into.new.syms refused c.requires.limit (g.S.Shelf.faults c.args.shelf.now) (g.S.Shelf.faults c.lowered_into.new.shelf)
    c.kept_refusal.result c.kept_refusal.ensures
