use Rattle.std.proofs.Common.{◌≡◌, ◌<◌, ℕ, suc, ◌+◌, ◌-◌, ◌/◌, subst, arith, take}
use Rattle.std.specs.List.{AllByRecursion}
use Rattle.call_graph.specs.declared.summary.Summary.{Summary}
use Rattle.call_graph.proofs.Placing.{rising_below, rising_above}
use Rattle.call_graph.proofs.graph.place.Goals as goal

pub loop-low-preserved-then-routines-middle : goal.loop-low-preserved-then-routines-middle
loop-low-preserved-then-routines-middle c =
    let m : ℕ = c.loop-low.low + (c.loop-low.high - c.loop-low.low) / 2 in
    let test = c.loop-low-test.true in
    let within = c.loop-low.invariant.within in
    let next : suc m ≡ m + 1 = omega arith in
    record {
      order = omega arith;
      within = within;
      before = subst (λ (n : ℕ). AllByRecursion (λ (s : Summary). s.pid < c.args.pid) (take n c.args.routines.now)) next
          (rising_below c.args.routines.now m c.args.pid c.index-routines-middle.result c.requires (omega arith) c.if-routines-middle.true);
      behind = c.loop-low.invariant.behind;
    }

pub loop-low-preserved : goal.loop-low-preserved
loop-low-preserved c =
    let m : ℕ = c.loop-low.low + (c.loop-low.high - c.loop-low.low) / 2 in
    let test = c.loop-low-test.true in
    let within = c.loop-low.invariant.within in
    record {
      order = omega arith;
      within = omega arith;
      before = c.loop-low.invariant.before;
      behind = rising_above c.args.routines.now m c.args.pid c.index-routines-middle.result c.requires c.if-routines-middle.false;
    }
