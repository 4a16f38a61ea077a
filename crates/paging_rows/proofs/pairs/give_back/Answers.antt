use Rattle.paging_rows.proofs.Turns.{pin_pool, unpin_stands}
use Rattle.paging_rows.proofs.pairs.give_back.Goals as goal

pub unpin_read-requires-clause-pool : goal.unpin_read-requires-clause-pool
unpin_read-requires-clause-pool g c = pin_pool c.args.pools.now c.args.worker c.args.pin c.args.other.now c.stands.ensures.sound c.requires.stands

pub returns-in-Ok : goal.returns-in-Ok
returns-in-Ok g c = unpin_stands c.args.pools.now c.unpin_read.new.self c.args.worker c.args.pin c.args.other.now _ c.requires.worker c.stands.ensures.sound
    c.requires.stands (c.in-Ok.ensures.answer c.requires.stands.works.running)
