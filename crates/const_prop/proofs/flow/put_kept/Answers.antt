use Rattle.std.proofs.Common.{subst, sym, List, ℕ}
use Rattle.std.specs.Prelude.{Option}
use Rattle.const_prop.specs.Carried.{Restores, RestoresIfSome}
use Rattle.const_prop.proofs.flow.put_kept.Goals as goal

pub returns-in-Some-clause-facts : goal.returns-in-Some-clause-facts
returns-in-Some-clause-facts c =
    subst (λ (o : Option (List (Option ℕ))). RestoresIfSome c.args.carried.now o c.restore.new.table) (sym c.in-Some.is)
    (subst (λ (kept : List (Option ℕ)). Restores c.args.carried.now kept c.restore.new.table) c.as_slice.ensures c.restore.ensures.facts)
