use Rattle.std.proofs.Common.{ap, ◌∙◌}
use Rattle.repository.specs.Filing.{record_of}
use Rattle.paging_rows.proofs.Turns.{doubted, moving_worker, offload_stands}
use Rattle.paging_rows.proofs.pairs.offload.Goals as goal

pub offload_end-requires-clause-worker : goal.offload_end-requires-clause-worker
offload_end-requires-clause-worker g c = moving_worker _ _ _ _ _ _ _ _ c.requires.worker c.requires.moves

pub offload_end-requires-clause-ends : goal.offload_end-requires-clause-ends
offload_end-requires-clause-ends g c = (
  c.requires.moves.moving,
  c.requires.place,
  c.in-Ok.ensures.record ∙ ap (record_of c.args.place) c.as_slice.ensures.value,
  c.requires.content,
  λ t. absurd (doubted g.D.Disk.reach g.D.Disk.honest c.args.pools.now c.requires.lies t),
)

pub offload_end-requires-clause-disk : goal.offload_end-requires-clause-disk
offload_end-requires-clause-disk g c = (c.requires.moves.home, λ t. absurd (doubted g.D.Disk.reach g.D.Disk.honest c.args.pools.now c.requires.lies t))

pub returns : goal.returns
returns g c = offload_stands c.args.pools.now c.offload_end.new.self c.args.worker c.args.pid c.args.mine.now c.args.other.now _ c.requires.worker
    c.requires.moves (c.offload_end.ensures.ends c.requires.moves.works.running)
