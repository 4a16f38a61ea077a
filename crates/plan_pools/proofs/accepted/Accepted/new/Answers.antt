use Rattle.std.proofs.Common.{List, Bool, ap, arith, length, refl, sym, ◌∙◌}
use Rattle.std.specs.Prelude.{◌||◌}
use Rattle.std.proofs.Math.Bool.{or-false}
use Rattle.std.proofs.lemmas.List.{drop_all, length-replicate}
use Rattle.inline_budget.specs.Calls.{calls_of}
use Rattle.inline_budget.specs.declared.choice.Choice.{Choice}
use Rattle.plan_laws.specs.Numbers.{is_chosen}
use Rattle.plan_pools.specs.Accepting.{is_accepted}
use Rattle.plan_pools.proofs.Accepting.{caller_below, next_accepted, no_row, none_accepted}
use Rattle.plan_pools.proofs.accepted.Accepted.new.Goals as goal

pub loop-call-init : goal.loop-call-init
loop-call-init c = record {
  rows = ap (λ (rs : List (List Bool)). length rs) c.in_ok-accepted.ensures ∙ length-replicate c.bound_of.result no_row ∙ c.bound_of.ensures;
  calls = λ p k. ap (λ (rs : List (List Bool)). is_accepted rs p k || is_chosen (calls_of c.args.calls.now) p k) c.in_ok-accepted.ensures
      ∙ ap (λ (b : Bool). b || is_chosen (calls_of c.args.calls.now) p k) (none_accepted c.bound_of.result p k);
}

pub accept-requires : goal.accept-requires
accept-requires c =
    let below = caller_below c.args.calls.now c.loop-call.call-index (record { caller = 0; site = 0; callee = 0 }) c.loop-call-test.true in
    omega (arith, below, c.loop-call.invariant.rows)

pub loop-call-preserved : goal.loop-call-preserved
loop-call-preserved c = record {
  rows = c.in_ok-accept.ensures.rows ∙ c.loop-call.invariant.rows;
  calls = next_accepted c.args.calls.now c.loop-call.call-index (record { caller = 0; site = 0; callee = 0 }) _ c.loop-call.accepted c.accept.new.self
      c.loop-call-test.true refl c.in_ok-accept.ensures.calls c.loop-call.invariant.calls;
}

pub returns : goal.returns
returns c = λ p k.
    sym (or-false (is_accepted c.loop-call.accepted p k))
    ∙ ap (λ (cs : List Choice). is_accepted c.loop-call.accepted p k || is_chosen (calls_of cs) p k)
    (sym (drop_all c.loop-call.call-index c.args.calls.now (omega (arith, c.loop-call-test.false))))
    ∙ c.loop-call.invariant.calls p k
