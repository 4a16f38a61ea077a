use Rattle.c_module.proofs.Lowered.{is_frame_of, pids_live, rows_rise}
use Rattle.c_module.proofs.frame.program_frame.Goals as goal

pub frame-requires-clause-live : goal.frame-requires-clause-live
frame-requires-clause-live c =
    let known = c.requires.taken in
    pids_live known.counts known.tells known.files known.rs c.args.syms.now known.routines c.typed_programs_are_whole.ensures c.args.pids.now known.are

pub frame-requires-clause-rising : goal.frame-requires-clause-rising
frame-requires-clause-rising c =
    let known = c.requires.taken in
    rows_rise known.counts known.tells known.files known.rs c.args.syms.now known.routines c.lowered_programs_are_right.ensures c.args.pids.now known.are

pub returns : goal.returns
returns c = record {
  program = λ counts tells files rs routines are.
      is_frame_of counts tells files rs c.args.syms.now routines c.lowered_programs_are_right.ensures c.typed_programs_are_whole.ensures c.args.pids.now
      c.in_ok-shapes.shapes c.in_ok-shapes.objects are c.in_ok-shapes.ensures.shapes c.in_ok-shapes.ensures.objects;
}
