use Rattle.one_owner.proofs.Frames.{keeps_itself, keeps_on, written_on}
use Rattle.one_owner.proofs.Rounds.{works_on}
use Rattle.one_owner.proofs.room.make_room.Goals as goal

pub room-init : goal.room-init
room-init g c = record { works = c.requires.idle; keeps = keeps_itself _ _; written = λ q x at w. at }

pub room-preserved : goal.room-preserved
room-preserved g c = record {
  works = works_on g.D.Disk.faults c.args.loader.now c.room.loader c.evict_once.new.loader c.args.wanted c.in-Ok.fits c.room.invariant.works c.in-Ok.ensures.ok;
  keeps = keeps_on g.D.Disk.faults c.args.loader.now c.room.loader c.evict_once.new.loader c.room.invariant.keeps c.in-Ok.ensures.ok.keeps;
  written = written_on g.D.Disk.faults c.args.loader.now c.room.loader c.evict_once.new.loader c.room.invariant.written c.in-Ok.ensures.ok.written;
}
