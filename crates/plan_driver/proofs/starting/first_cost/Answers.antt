use Rattle.std.proofs.Common.{ap, subst, sym, ◌≤◌, ◌^◌, ◌∙◌}
use Rattle.inline_steps.proofs.Within.{held_within}
use Rattle.plan_laws.specs.Summary.{cost_of}
use Rattle.plan_laws.proofs.Spending.{summaries_cost}
use Rattle.plan_pools.proofs.Steps.{seen_made}
use Rattle.plan_driver.proofs.First.{cost_small}
use Rattle.plan_driver.proofs.starting.first_cost.Goals as goal

pub returns-in-Ok-clause-made : goal.returns-in-Ok-clause-made
returns-in-Ok-clause-made g c = λ main.
    seen_made g.D.Disk.reach g.D.Disk.honest g.D.Disk.faults c.args.shapes.now main c.args.loader.now c.summarise_linked.new.loader
    c.requires.pools c.in-Ok.ensures.ok

pub returns-in-Ok-clause-same : goal.returns-in-Ok-clause-same
returns-in-Ok-clause-same g c = λ main p h.
    let within = held_within g.D.Disk.reach g.D.Disk.honest g.D.Disk.bytes c.args.loader.now c.stands.ensures p h.valid h.contents in
    let same = ap cost_of (c.summaries.ensures ∙ c.in-Ok.ensures.graph p h.trusted h.valid h.shapes h.contents) ∙ summaries_cost p.routines in
    c.cost_within.ensures.same (subst (λ n. n ≤ 2 ^ 44) (sym same) (cost_small p h.valid within)) ∙ same

pub returns-in-Ok-clause-within : goal.returns-in-Ok-clause-within
returns-in-Ok-clause-within g c = λ main p h.
    held_within g.D.Disk.reach g.D.Disk.honest g.D.Disk.bytes c.args.loader.now c.stands.ensures p h.valid h.contents

pub returns-in-Err-clause-within : goal.returns-in-Err-clause-within
returns-in-Err-clause-within g c = λ main p h.
    held_within g.D.Disk.reach g.D.Disk.honest g.D.Disk.bytes c.args.loader.now c.stands.ensures p h.valid h.contents
