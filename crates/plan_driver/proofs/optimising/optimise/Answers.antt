use Rattle.std.proofs.Common.{subst, sym, ◌∙◌}
use Rattle.one_owner.proofs.Frames.{err_so, ok_so}
use Rattle.plan_laws.specs.Plan.{final, plan}
use Rattle.plan_pools.specs.Planning.{IsCost}
use Rattle.plan_driver.specs.Optimising.{Optimises, StopsOptimising}
use Rattle.plan_driver.proofs.First.{spends_all, spends_none}
use Rattle.plan_driver.proofs.Whole.{made_optimises, stops_optimising}
use Rattle.plan_driver.proofs.optimising.optimise.Goals as goal

pub optimise_within-requires-clause-names : goal.optimise_within-requires-clause-names
optimise_within-requires-clause-names g c = (spends_all c.args.shapes c.args.budget (sym c.spends.ensures ∙ c.if-spends.true)).names

pub optimise_within-requires-clause-some : goal.optimise_within-requires-clause-some
optimise_within-requires-clause-some g c = (spends_all c.args.shapes c.args.budget (sym c.spends.ensures ∙ c.if-spends.true)).some

pub returns-then-spends-clause-made : goal.returns-then-spends-clause-made
returns-then-spends-clause-made g c =
    let same = (spends_all c.args.shapes c.args.budget (sym c.spends.ensures ∙ c.if-spends.true)).same in
    ok_so _ _ c.optimise_within.result
    (λ x h. subst (λ n. Optimises g.D.Disk.reach g.D.Disk.honest g.D.Disk.faults (λ p. plan p n c.args.passes) (λ p. final p n c.args.passes)
    c.args.shapes c.args.main c.args.loader.now c.optimise_within.new.loader x.shapes) (sym same) h) c.optimise_within.ensures.made

pub returns-then-spends-clause-cost : goal.returns-then-spends-clause-cost
returns-then-spends-clause-cost g c = λ some p h.
    let same = (spends_all c.args.shapes c.args.budget (sym c.spends.ensures ∙ c.if-spends.true)).same in
    ok_so _ _ c.optimise_within.result
    (λ x k. subst (λ n. IsCost x.cost (final p n c.args.passes)) (sym same) k) (c.optimise_within.ensures.cost some p h)

pub returns-then-spends-clause-err : goal.returns-then-spends-clause-err
returns-then-spends-clause-err g c =
    let same = (spends_all c.args.shapes c.args.budget (sym c.spends.ensures ∙ c.if-spends.true)).same in
    err_so _ _ c.optimise_within.result
    (λ e h. subst (λ n. StopsOptimising g.D.Disk.reach g.D.Disk.honest g.D.Disk.faults (λ p. plan p n c.args.passes)
    c.args.shapes c.args.main c.args.loader.now c.optimise_within.new.loader e) (sym same) h) c.optimise_within.ensures.err

pub returns-else-spends-clause-made : goal.returns-else-spends-clause-made
returns-else-spends-clause-made g c =
    let none = spends_none c.args.shapes c.args.budget (sym c.spends.ensures ∙ c.if-spends.false) in
    ok_so _ _ c.optimise_at_zero.result
    (λ x h. subst (λ n. Optimises g.D.Disk.reach g.D.Disk.honest g.D.Disk.faults (λ p. plan p n c.args.passes) (λ p. final p n c.args.passes)
    c.args.shapes c.args.main c.args.loader.now c.optimise_at_zero.new.loader x.shapes) (sym none)
    (made_optimises g.D.Disk.reach g.D.Disk.honest g.D.Disk.faults c.args.shapes c.args.main c.args.loader.now (λ p. plan p 0 c.args.passes)
    (λ p. final p 0 c.args.passes) c.optimise_at_zero.new.loader x.shapes h)) c.optimise_at_zero.ensures.made

pub returns-else-spends-clause-cost : goal.returns-else-spends-clause-cost
returns-else-spends-clause-cost g c = λ some p h.
    let none = spends_none c.args.shapes c.args.budget (sym c.spends.ensures ∙ c.if-spends.false) in
    ok_so _ _ c.optimise_at_zero.result
    (λ x k. subst (λ n. IsCost x.cost (final p n c.args.passes)) (sym none) k) (c.optimise_at_zero.ensures.cost some p h)

pub returns-else-spends-clause-err : goal.returns-else-spends-clause-err
returns-else-spends-clause-err g c =
    let none = spends_none c.args.shapes c.args.budget (sym c.spends.ensures ∙ c.if-spends.false) in
    err_so _ _ c.optimise_at_zero.result
    (λ e h. subst (λ n. StopsOptimising g.D.Disk.reach g.D.Disk.honest g.D.Disk.faults (λ p. plan p n c.args.passes)
    c.args.shapes c.args.main c.args.loader.now c.optimise_at_zero.new.loader e) (sym none)
    (stops_optimising g.D.Disk.reach g.D.Disk.honest g.D.Disk.faults c.args.shapes c.args.main c.args.loader.now (λ p. plan p 0 c.args.passes)
    c.optimise_at_zero.new.loader e h)) c.optimise_at_zero.ensures.err
