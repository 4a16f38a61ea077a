use Rattle.std.proofs.Common.{arith, length, refl, ap}
use Rattle.one_owner.proofs.Rounds.{offloaded_turn}
use Rattle.one_owner.proofs.room.offload.Goals as goal

pub file-requires-clause-short : goal.file-requires-clause-short
file-requires-clause-short g c = let a = c.requires.begun.short in let b = c.requires.begun.small in let e = ap length c.as_slice.ensures.value in omega arith

pub returns-in-Ok-clause-ok : goal.returns-in-Ok-clause-ok
returns-in-Ok-clause-ok g c = (
  refl,
  offloaded_turn g.D.Disk.faults _ _ _ c.args.loader.now c.offload_end.new.self c.args.pid c.args.place c.args.bytes.items c.args.disk c.file.new.d
      c.requires.begun c.file.ensures.later (c.offload_end.ensures.ends c.requires.begun.moves.running),
)
