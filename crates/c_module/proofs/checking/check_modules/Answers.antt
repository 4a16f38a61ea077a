use Rattle.c_module.proofs.Going.{reads, refuses, wants}
use Rattle.c_module.proofs.Typings.{answers_well_typed}
use Rattle.c_module.proofs.checking.check_modules.Goals as goal

pub returns-clause-complete : goal.returns-clause-complete
returns-clause-complete g c = λ names told links quiet.
    wants (g.S.Shelf.tells c.args.shelf.now) (g.S.Shelf.faults c.args.shelf.now) (g.S.Shelf.faults c.check_in_order.new.shelf) c.args.files.now
    c.check_in_order.result c.check_in_order.new.syms c.check_in_order.ensures.err names told links quiet

pub returns-clause-refuses : goal.returns-clause-refuses
returns-clause-refuses g c = λ refused.
    refuses (g.S.Shelf.tells c.args.shelf.now) (g.S.Shelf.faults c.args.shelf.now) (g.S.Shelf.faults c.check_in_order.new.shelf) c.args.files.now
    c.check_in_order.result c.check_in_order.new.syms (λ x passes. passes) c.check_in_order.ensures.ok refused

pub returns-clause-reads : goal.returns-clause-reads
returns-clause-reads g c = λ quiet.
    reads (g.S.Shelf.tells c.args.shelf.now) (g.S.Shelf.faults c.args.shelf.now) (g.S.Shelf.faults c.check_in_order.new.shelf) c.args.files.now
    c.check_in_order.result c.check_in_order.new.syms c.check_in_order.ensures.err quiet

pub returns-clause-typed : goal.returns-clause-typed
returns-clause-typed g c =
    answers_well_typed c.typed_programs_are_well_typed.ensures c.linking_modules_run.ensures (g.S.Shelf.tells c.args.shelf.now) c.args.files.now
    c.check_in_order.new.syms c.check_in_order.result (λ x passes. passes) c.check_in_order.ensures.ok
