use Rattle.profile.specs.Counts.{counts_of}
use Rattle.c_module.proofs.Lowered.{are_live, are_rising, is_program_of}
use Rattle.c_module.proofs.program.program_in_order.Goals as goal

pub assembled-requires-clause-live : goal.assembled-requires-clause-live
assembled-requires-clause-live g c =
    are_live (counts_of c.args.p.now) (g.S.Shelf.tells c.args.shelf.now) c.args.files.now c.into_in_order.new.taker.items c.into_in_order.new.syms
    c.in-Ok.ensures.ok
    c.typed_programs_are_whole.ensures

pub assembled-requires-clause-rising : goal.assembled-requires-clause-rising
assembled-requires-clause-rising g c =
    are_rising (counts_of c.args.p.now) (g.S.Shelf.tells c.args.shelf.now) c.args.files.now c.into_in_order.new.taker.items c.into_in_order.new.syms
    c.in-Ok.ensures.ok
    c.lowered_programs_are_right.ensures

pub returns-in-Ok-assembled-clause-ok : goal.returns-in-Ok-assembled-clause-ok
returns-in-Ok-assembled-clause-ok g c =
    is_program_of (counts_of c.args.p.now) (g.S.Shelf.tells c.args.shelf.now) c.args.files.now c.into_in_order.new.taker.items c.into_in_order.new.syms
    c.in-Ok.ensures.ok
    c.lowered_programs_are_right.ensures c.in-Ok-assembled.program c.in-Ok-assembled.ensures
