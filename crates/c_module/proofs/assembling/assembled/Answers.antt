use Rattle.std.proofs.Common.{◌<◌, ◌∙◌, ap, length, map, subst, sym}
use Rattle.std.specs.List.{AllByRecursion}
use Rattle.il_core.specs.Routine.{RoutineParts}
use Rattle.il_core.specs.Shapes.{IsRising}
use Rattle.il_core.specs.declared.shape.ShapeRow.{ShapeRow}
use Rattle.c_module.specs.Assembling.{present}
use Rattle.c_module.specs.Frames.{frame_rows}
use Rattle.c_module.proofs.Framed.{put_together}
use Rattle.c_module.proofs.Lowered.{live_pids}
use Rattle.c_module.proofs.assembling.assembled.Goals as goal

pub by_pid-requires : goal.by_pid-requires
by_pid-requires c =
    subst (λ n. AllByRecursion (λ (r : RoutineParts). r.pid < n) c.args.routines.items) (sym c.in_ok-shapes.ensures.names) c.requires.live

pub frame-requires-clause-live : goal.frame-requires-clause-live
frame-requires-clause-live c =
    let pids = c.as_slice-2.ensures.value ∙ c.in_ok-pids.ensures ∙ ap (map (λ (r : RoutineParts). r.pid)) c.as_slice.ensures.value in
    subst (AllByRecursion (λ pid. pid < length c.args.syms.now)) (sym pids) (live_pids (length c.args.syms.now) c.args.routines.items c.requires.live)

pub frame-requires-clause-rising : goal.frame-requires-clause-rising
frame-requires-clause-rising c =
    let pids = c.as_slice-2.ensures.value ∙ c.in_ok-pids.ensures ∙ ap (map (λ (r : RoutineParts). r.pid)) c.as_slice.ensures.value in
    subst (λ l. IsRising (λ (row : ShapeRow). row.pid) (frame_rows l c.args.syms.now)) (sym pids) c.requires.rising

pub returns : goal.returns
returns c =
    let pids = c.as_slice-2.ensures.value ∙ c.in_ok-pids.ensures ∙ ap (map (λ (r : RoutineParts). r.pid)) c.as_slice.ensures.value in
    put_together c.args.routines.items c.args.syms.now c.in_ok-shapes.names c.as_slice-2.result.now c.in_ok-shapes.shapes c.in_ok-shapes.objects
    c.from_vec.result c.in_ok-shapes.ensures.names pids c.in_ok-shapes.ensures.shapes c.in_ok-shapes.ensures.objects
    (c.from_vec.ensures ∙ c.in_ok-routines.ensures ∙ ap present c.in_ok-table.ensures)
