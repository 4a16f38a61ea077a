use Rattle.std.proofs.Common.{map, sym, subst}
use Rattle.std.specs.List.{AllByRecursion}
use Rattle.profile.specs.Counts.{counts_of}
use Rattle.c_typed.specs.Views.{function_of}
use Rattle.c_module.specs.Appending.{IsReady}
use Rattle.c_module.specs.Taking.{HasRoom}
use Rattle.c_module.proofs.Ready.{are_names, are_ready, where_ok}
use Rattle.c_module.proofs.Taken.{names_taken, room_for}
use Rattle.c_module.proofs.lowering.take_module.Goals as goal

pub take_routines-requires-clause-ready : goal.take_routines-requires-clause-ready
take_routines-requires-clause-ready g c =
    let names = names_taken (counts_of c.args.p.now) (g.R.RoutineTaker.taken c.args.taker.now) c.args.syms.now c.requires.taken in
    let ready = are_ready c.typed_modules_fit.ensures c.args.number c.args.syms.now _ c.in-Ok.typed c.typed_module.new.syms c.in-Ok.ensures.ok names in
    subst (λ l. AllByRecursion (IsReady c.typed_module.new.syms) (map function_of l)) (sym c.as_slice.ensures) ready

pub take_routines-requires-clause-room : goal.take_routines-requires-clause-room
take_routines-requires-clause-room g c =
    let room = room_for c.typed_modules_fit.ensures (counts_of c.args.p.now) (g.R.RoutineTaker.taken c.args.taker.now) c.args.number c.args.syms.now _
    c.in-Ok.typed c.typed_module.new.syms c.in-Ok.ensures.ok c.requires.taken in
    subst (λ l. HasRoom (g.R.RoutineTaker.taken c.args.taker.now) (map function_of l)) (sym c.as_slice.ensures) room

pub returns-in-Ok-clause-names : goal.returns-in-Ok-clause-names
returns-in-Ok-clause-names g c =
    let names = names_taken (counts_of c.args.p.now) (g.R.RoutineTaker.taken c.args.taker.now) c.args.syms.now c.requires.taken in
    where_ok c.take_routines.result (are_names c.typed_modules_fit.ensures c.args.number c.args.syms.now _ c.in-Ok.typed
    c.typed_module.new.syms c.in-Ok.ensures.ok names)
