use Rattle.naim_loader.specs.Drafts.{draft_value}
use Rattle.one_owner.proofs.Placing.{let_in, placed}
use Rattle.one_owner.proofs.places.put_in.Goals as goal

pub unreachable-requires : goal.unreachable-requires
unreachable-requires g c =
    let b = g.met.T.Poolable.bounds (draft_value c.args.draft) c.requires.value in
    let_in _ _ _ _ _ _ g.D.Disk.faults c.args.loader.now c.insert.new.self c.args.pid c.args.draft c.args.brief c.insert.result c.requires.rests
    c.stands.ensures c.requires.absent c.requires.room b.1 b.2 c.requires.fits c.insert.ensures.answer c.in_default.not-Done

pub returns : goal.returns
returns g c = placed _ _ _ _ _ _ g.D.Disk.faults c.args.loader.now c.insert.new.self c.args.pid c.args.draft c.args.brief c.requires.rests c.stands.ensures
    c.in-Done.ensures.answer
