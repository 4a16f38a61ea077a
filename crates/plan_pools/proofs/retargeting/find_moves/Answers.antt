use Rattle.std.proofs.Common.{ap, rules, sym, ◌∙◌}
use Rattle.std.proofs.lemmas.List.Sorted.{answers_always}
use Rattle.clone_groups.specs.Moves.{moves_of}
use Rattle.plan_pools.proofs.CallersMoved.{found_at, found_none}
use Rattle.plan_pools.proofs.retargeting.find_moves.Goals as goal

pub returns-in-Ok-clause-are : goal.returns-in-Ok-clause-are
returns-in-Ok-clause-are c =
    ap moves_of c.as_slice.ensures
    ∙ sym (found_at c.args.callers.now c.requires.rising c.args.pid c.in-Ok.at _ c.in-Ok.ensures.bound
    (c.in-Ok.ensures.position (λ m. m.caller) (answers_always _ _ _ (λ f a r g called. search rules))))

pub returns-in-Err-clause-are : goal.returns-in-Err-clause-are
returns-in-Err-clause-are c =
    sym (found_none c.args.callers.now c.requires.rising c.args.pid c.in-Err.field-0 c.in-Err.ensures.bound
    (c.in-Err.ensures.position (λ m. m.caller) (answers_always _ _ _ (λ f a r g called. search rules))))
