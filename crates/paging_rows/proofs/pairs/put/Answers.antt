use Rattle.std.proofs.Common.{subst, sym}
use Rattle.paging_rows.specs.Pairs.{Stands}
use Rattle.paging_rows.proofs.Turns.{put_stands}
use Rattle.paging_rows.proofs.pairs.put.Goals as goal

pub returns-in-Done : goal.returns-in-Done
returns-in-Done g c = put_stands _ _ c.args.pools.now c.insert.new.self c.args.pid c.args.draft c.args.brief c.args.first.now c.args.second.now
    c.requires.stands c.requires.absent c.in-Done.ensures.answer

pub returns-in-NeedsRoom : goal.returns-in-NeedsRoom
returns-in-NeedsRoom g c = subst (λ z. Stands z 0 c.args.first.now c.args.second.now) (sym c.in-NeedsRoom.ensures.answer.0) c.requires.stands
