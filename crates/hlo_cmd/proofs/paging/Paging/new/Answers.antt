use Rattle.std.proofs.Common.{[], sym, subst}
use Rattle.hlo_cmd.specs.Pools.{IsReady}
use Rattle.hlo_cmd.proofs.Filling.{ready_for_first}
use Rattle.hlo_cmd.proofs.paging.Paging.new.Goals as goal

pub returns-clause-ready : goal.returns-clause-ready
returns-clause-ready g c =
    subst (λ v. IsReady c.args.loader v 0) (sym c.new.ensures.items)
    (subst (λ l. IsReady l [] 0) (sym c.requires.1.1) (ready_for_first c.requires.0 c.requires.1.0))
