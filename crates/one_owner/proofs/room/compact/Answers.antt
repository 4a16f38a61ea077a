use Rattle.std.proofs.Common.{refl}
use Rattle.one_owner.proofs.Rounds.{compacted_turn}
use Rattle.one_owner.proofs.room.compact.Goals as goal

pub returns-in-Ok-clause-ok : goal.returns-in-Ok-clause-ok
returns-in-Ok-clause-ok g c = (
  refl,
  compacted_turn g.D.Disk.faults c.args.loader.now c.compact_end.new.self c.args.pid c.args.body c.requires.begun
      (c.compact_end.ensures.ends c.requires.begun.moves.running),
)
