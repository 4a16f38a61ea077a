use Rattle.std.proofs.Common.{◌≡◌, ◌++◌, drop}
use Rattle.plan_pools.specs.Accepting.{is_accepted, sites_from}
use Rattle.plan_pools.proofs.sites.picked.Given as goal

abbrev pub invariant-loop-number : goal.invariant-loop-number
invariant-loop-number l =
    (l.sites.items ++ sites_from (is_accepted l.accepted l.caller) l.number (drop l.number l.callees)) ≡ sites_from
    (is_accepted l.accepted l.caller) 0 l.callees
