use Rattle.one_owner.proofs.Frames.{err_so, ok_so, room_stops}
use Rattle.one_owner.proofs.Rounds.{begun, round_of, some_victim}
use Rattle.one_owner.proofs.room.evict_once.Goals as goal

pub end_move-requires : goal.end_move-requires
end_move-requires g c = record {
  begun = (begun g.D.Disk.faults _ _ _ _ _ _ c.args.loader.now c.evict_begin.new.self c.args.wanted c.in-Begun.m c.requires.idle c.stands.ensures
      c.evict_begin.ensures.sound c.in-Begun.ensures.answer).0;
}

pub unreachable-requires : goal.unreachable-requires
unreachable-requires g c =
    some_victim g.D.Disk.faults _ _ _ _ _ _ c.args.loader.now c.evict_begin.new.self c.args.wanted c.evict_begin.result c.requires.idle c.stands.ensures
    c.requires.wanted c.evict_begin.ensures.answer c.in_default.not-Fits c.in_default.not-Begun

pub returns-in-Begun-clause-ok : goal.returns-in-Begun-clause-ok
returns-in-Begun-clause-ok g c =
    let b = begun g.D.Disk.faults _ _ _ _ _ _ c.args.loader.now c.evict_begin.new.self c.args.wanted c.in-Begun.m c.requires.idle c.stands.ensures
    c.evict_begin.ensures.sound c.in-Begun.ensures.answer in
    ok_so _ _ c.end_move.result (λ fits h. round_of g.D.Disk.faults c.args.loader.now c.evict_begin.new.self c.end_move.new.loader c.args.wanted fits b.1 h.0
    h.1) c.end_move.ensures.ok

pub returns-in-Begun-clause-err : goal.returns-in-Begun-clause-err
returns-in-Begun-clause-err g c =
    let b = begun g.D.Disk.faults _ _ _ _ _ _ c.args.loader.now c.evict_begin.new.self c.args.wanted c.in-Begun.m c.requires.idle c.stands.ensures
    c.evict_begin.ensures.sound c.in-Begun.ensures.answer in
    err_so _ _ c.end_move.result (λ f h. room_stops g.D.Disk.faults c.args.loader.now c.evict_begin.new.self c.end_move.new.loader f b.1.keeps h)
    c.end_move.ensures.err
