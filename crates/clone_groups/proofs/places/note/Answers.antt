use Rattle.std.proofs.Common.{refl, length}
use Rattle.clone_groups.proofs.Noting.{all_noted, none_noted, noted_one, within}
use Rattle.clone_groups.proofs.places.note.Goals as goal

pub loop-routine-init : goal.loop-routine-init
loop-routine-init c = none_noted c.args.routines.now (length c.args.places.now) c.args.places.now refl c.requires.empty

pub bounds-places-routine : goal.bounds-places-routine
bounds-places-routine c =
    within c.args.routines.now c.loop-routine.left.now c.in-Some.before.now c.in-Some.routine.now (length c.args.places.now) c.loop-routine.places
    c.in-Some.ensures.cases.0 c.loop-routine.invariant c.requires.room

pub loop-routine-preserved : goal.loop-routine-preserved
loop-routine-preserved c =
    let lt = within c.args.routines.now c.loop-routine.left.now c.in-Some.before.now c.in-Some.routine.now (length c.args.places.now) c.loop-routine.places
    c.in-Some.ensures.cases.0 c.loop-routine.invariant c.requires.room in
    noted_one c.args.routines.now c.loop-routine.left.now c.in-Some.before.now c.in-Some.routine.now (length c.args.places.now) c.loop-routine.places
    c.in-Some.ensures.cases.0 c.loop-routine.invariant lt

pub returns : goal.returns
returns c =
    all_noted c.args.routines.now c.loop-routine.left.now (length c.args.places.now) c.loop-routine.places c.in_default.ensures.cases c.loop-routine.invariant
