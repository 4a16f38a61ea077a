use Rattle.std.proofs.Common.{◌≡◌, List, Bool, ap, arith, length, map, nat_eq, ◌∙◌}
use Rattle.std.specs.Prelude.{◌||◌, ◌&&◌}
use Rattle.std.proofs.lemmas.List.{length-map}
use Rattle.plan_pools.specs.Accepting.{is_accepted}
use Rattle.plan_pools.proofs.Accepting.{row_set}
use Rattle.plan_pools.proofs.accepted.Accepted.accept.Goals as goal

pub returns-clause-calls : goal.returns-clause-calls
returns-clause-calls c = λ p k.
    let view : length (map (λ v. v.items) c.self.inside.rows.items) ≡ length c.args.self.now = ap (λ (rs : List (List Bool)). length rs) c.self.view_is in
    let long = length-map c.self.inside.rows.items (λ v. v.items) in
    let lt = c.requires in
    row_set (λ v. v.items) c.self.inside.rows.items c.args.call.now.caller c.index_mut.result.now c.set.new.row c.args.call.now.site (omega arith)
    c.index_mut.ensures.value c.in_ok-set.ensures p k
    ∙ ap (λ (rs : List (List Bool)). is_accepted rs p k || (nat_eq c.args.call.now.caller p && nat_eq c.args.call.now.site k)) c.self.view_is
