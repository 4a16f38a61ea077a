use Rattle.paging_rows.proofs.Turns.{compact_stands, moving_worker}
use Rattle.paging_rows.proofs.pairs.compact.Goals as goal

pub compact_end-requires-clause-worker : goal.compact_end-requires-clause-worker
compact_end-requires-clause-worker g c = moving_worker _ _ _ _ _ _ _ _ c.requires.worker c.requires.moves

pub returns : goal.returns
returns g c = compact_stands c.args.pools.now c.compact_end.new.self c.args.worker c.args.pid c.args.mine.now c.args.other.now c.requires.worker
    c.requires.moves (c.compact_end.ensures.ends c.requires.moves.works.running)
