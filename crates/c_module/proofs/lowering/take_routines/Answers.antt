use Rattle.std.proofs.Common.{◌≡◌, ◌∙◌, ◌+◌, None, ap, append-nil, arith, drop, map, refl, rules, subst, sym, take}
use Rattle.il_core.specs.Limits.{IsWithinLimits}
use Rattle.il_core.specs.Program.{routine_at}
use Rattle.il_core.specs.Routine.{RoutineParts}
use Rattle.c_typed.specs.Views.{function_of}
use Rattle.c_lower.specs.Lowering.{routine_of}
use Rattle.c_module.specs.Appending.{IsReady}
use Rattle.c_module.specs.Limits.{KeepsLimits}
use Rattle.c_module.specs.Taking.{HasRoom}
use Rattle.profile.specs.Counts.{counts_of}
use Rattle.c_module.proofs.Assembled.{same_pid}
use Rattle.c_module.proofs.Elements.{all_made, made_around}
use Rattle.c_module.proofs.Rooms.{limits_more, next_room, room_more, taken_more}
use Rattle.c_module.proofs.lowering.take_routines.Goals as goal

pub loop-f-init : goal.loop-f-init
loop-f-init g c = (sym (append-nil _), tt, c.requires.room, g.met.R.RoutineTaker.stays c.args.taker.now, c.requires.takes)

pub lower-requires-clause-live : goal.lower-requires-clause-live
lower-requires-clause-live g c =
    let ready = all_made (IsReady c.args.syms.now) function_of c.args.functions.now c.loop-f.f-index c.f-item.result c.loop-f-test.true c.f-item.is
    c.requires.ready in
    ready.live

pub lower-requires-clause-bound : goal.lower-requires-clause-bound
lower-requires-clause-bound g c =
    let ready = all_made (IsReady c.args.syms.now) function_of c.args.functions.now c.loop-f.f-index c.f-item.result c.loop-f-test.true c.f-item.is
    c.requires.ready in
    ready.bound

pub take-requires-clause-apart : goal.take-requires-clause-apart
take-requires-clause-apart g c =
    let f = c.f-item.result in
    let room = next_room (g.R.RoutineTaker.taken c.loop-f.taker) c.args.functions.now c.loop-f.f-index f c.loop-f-test.true c.f-item.is
    c.loop-f.invariant.2 in
    let same = ap (λ (r : RoutineParts). r.pid) c.in-Ok.ensures.routine ∙ same_pid c.args.syms.now (counts_of c.args.p.now) (function_of f) in
    subst (λ n. routine_at (g.R.RoutineTaker.taken c.loop-f.taker) n ≡ None) (sym same) room.apart.0

pub take-requires-clause-few : goal.take-requires-clause-few
take-requires-clause-few g c =
    let f = c.f-item.result in
    let room = next_room (g.R.RoutineTaker.taken c.loop-f.taker) c.args.functions.now c.loop-f.f-index f c.loop-f-test.true c.f-item.is
    c.loop-f.invariant.2 in
    let few = room.few in
    omega (arith, few)

pub returns-in_default-clause-err : goal.returns-in_default-clause-err
returns-in_default-clause-err g c =
    let f = c.f-item.result in
    let limits : IsWithinLimits c.in-Ok.routine = search rules in
    record {
      earlier = map function_of (take c.loop-f.f-index c.args.functions.now);
      function = function_of f;
      later = map function_of (drop (c.loop-f.f-index + 1) c.args.functions.now);
      whole = made_around function_of c.args.functions.now c.loop-f.f-index f c.loop-f-test.true c.f-item.is;
      kept = c.loop-f.invariant.1;
      within = (c.counts_are_no_limits.ensures c.args.syms.now (counts_of c.args.p.now) (function_of f)).1
          (subst IsWithinLimits c.in-Ok.ensures.routine limits);
      at = c.loop-f.taker;
      up_to = c.loop-f.invariant.0;
      same = c.loop-f.invariant.3;
      is_ready = c.loop-f.invariant.4;
      refused = subst (g.R.RoutineTaker.refuses c.loop-f.taker c.take.new.self) c.in-Ok.ensures.routine c.in_default.ensures.err;
    }

pub returns-in_default-clause-kept : goal.returns-in_default-clause-kept
returns-in_default-clause-kept g c =
    g.met.R.RoutineTaker.goes_on c.args.taker.now c.loop-f.taker c.take.new.self c.loop-f.invariant.3 c.in_default.ensures.kept

pub loop-f-preserved : goal.loop-f-preserved
loop-f-preserved g c =
    let known = c.loop-f.invariant in
    let f = c.f-item.result in
    let is = c.in-Ok.ensures.routine in
    let less = c.loop-f-test.true in
    let at = c.f-item.is in
    let room = next_room (g.R.RoutineTaker.taken c.loop-f.taker) c.args.functions.now c.loop-f.f-index f less at known.2 in
    let same = ap (λ (r : RoutineParts). r.pid) is ∙ same_pid c.args.syms.now (counts_of c.args.p.now) (function_of f) in
    let limits : IsWithinLimits c.in-Ok.routine = search rules in (
      taken_more (routine_of c.args.syms.now (counts_of c.args.p.now)) (g.R.RoutineTaker.taken c.args.taker.now) (g.R.RoutineTaker.taken c.loop-f.taker)
          (g.R.RoutineTaker.taken c.take.new.self) c.args.functions.now c.loop-f.f-index f c.in-Ok.routine less at known.0 c.in-Ok-take.ensures.ok is,
      limits_more KeepsLimits c.args.functions.now c.loop-f.f-index f less at known.1
          ((c.counts_are_no_limits.ensures c.args.syms.now (counts_of c.args.p.now) (function_of f)).1 (subst IsWithinLimits is limits)),
      subst (λ l. HasRoom l (map function_of (drop (c.loop-f.f-index + 1) c.args.functions.now))) (sym c.in-Ok-take.ensures.ok)
          (room_more (g.R.RoutineTaker.taken c.loop-f.taker) c.in-Ok.routine (function_of f)
          (map function_of (drop (c.loop-f.f-index + 1) c.args.functions.now)) same room),
      g.met.R.RoutineTaker.goes_on c.args.taker.now c.loop-f.taker c.take.new.self known.3 c.in-Ok-take.ensures.kept,
      c.in-Ok-take.ensures.still,
    )

pub returns-in-Err-TooLarge-clause-err : goal.returns-in-Err-TooLarge-clause-err
returns-in-Err-TooLarge-clause-err g c =
    let f = c.f-item.result in record {
      earlier = map function_of (take c.loop-f.f-index c.args.functions.now);
      large = function_of f;
      later = map function_of (drop (c.loop-f.f-index + 1) c.args.functions.now);
      whole = made_around function_of c.args.functions.now c.loop-f.f-index f c.loop-f-test.true c.f-item.is;
      kept = c.loop-f.invariant.1;
      past = λ keeps. c.in-Err-TooLarge.ensures.too_large c.in-Err-TooLarge.field-0-is
          ((c.counts_are_no_limits.ensures c.args.syms.now (counts_of c.args.p.now) (function_of f)).0 keeps);
      is = refl;
    }
