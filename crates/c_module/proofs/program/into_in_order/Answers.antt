use Rattle.std.proofs.Common.{◌≡◌, arith, get_or, ◌+◌, ◌∙◌, subst, sym, refl, le_trans, take}
use Rattle.profile.specs.Counts.{counts_of}
use Rattle.c_module.specs.Taking.{IsStop}
use Rattle.c_module.proofs.Going.{ends_here}
use Rattle.c_module.proofs.Lowered.{lowered_more, none_lowered, passed_so_far}
use Rattle.c_module.proofs.Taken.{all_taken, refused_here}
use Rattle.c_module.proofs.program.into_in_order.Goals as goal

pub loop-file-init : goal.loop-file-init
loop-file-init g c = record {
  lowered = none_lowered _ _ _ c.args.syms.now c.requires.names c.requires.none;
  same = λ n. refl;
  counts = λ n. omega arith;
  number = refl;
  kept = g.met.R.RoutineTaker.stays c.args.taker.now;
  ready = c.requires.ready;
}

pub take_module-requires : goal.take_module-requires
take_module-requires g c = record {
  taken = all_taken c.typed_programs_are_whole.ensures (counts_of c.args.p.now) (g.S.Shelf.tells c.args.shelf.now)
      (take c.loop-file.file-index c.args.files.now) (g.R.RoutineTaker.taken c.loop-file.taker) c.loop-file.syms c.loop-file.invariant.lowered;
  takes = c.loop-file.invariant.ready;
}

pub returns-in-File-clause-err : goal.returns-in-File-clause-err
returns-in-File-clause-err g c =
    let known = c.loop-file.invariant in
    let name = c.as_str-name.result.now in
    let is = subst (λ n. n ≡ get_or c.args.files.now c.loop-file.file-index n) (sym c.as_str-name.ensures) c.file-item.is in
    let cause = subst (λ s. IsStop g.R.RoutineTaker.taken g.R.RoutineTaker.ready g.R.RoutineTaker.keeps g.R.RoutineTaker.refuses (c.loop-file.number + 1)
    c.loop-file.syms
    (counts_of c.args.p.now) s (g.S.Shelf.tells c.loop-file.shelf name) (g.S.Shelf.faults c.loop-file.shelf name)
    (g.S.Shelf.faults c.take_module.new.shelf name) c.loop-file.taker c.take_module.new.taker c.take_module.new.syms) c.in-File.is c.in-Err.ensures.err in
    ends_here (g.S.Shelf.tells c.args.shelf.now) c.args.files.now c.loop-file.file-index name c.loop-file-test.true is
    (g.S.Shelf.faults c.args.shelf.now) (g.S.Shelf.faults c.loop-file.shelf) (g.S.Shelf.faults c.take_module.new.shelf)
    (g.S.Shelf.tells c.loop-file.shelf name) c.loop-file.syms c.take_module.new.syms (c.loop-file.number + 1) c.in-File.fault
    (passed_so_far _ _ _ _ _ known.lowered) (omega (arith, known.number)) (known.same name) (known.counts name) cause

pub returns-in-Refused-clause-err : goal.returns-in-Refused-clause-err
returns-in-Refused-clause-err g c =
    let known = c.loop-file.invariant in
    let name = c.as_str-name.result.now in
    let is = subst (λ n. n ≡ get_or c.args.files.now c.loop-file.file-index n) (sym c.as_str-name.ensures) c.file-item.is in
    let refused = subst (λ s. IsStop g.R.RoutineTaker.taken g.R.RoutineTaker.ready g.R.RoutineTaker.keeps g.R.RoutineTaker.refuses (c.loop-file.number + 1)
    c.loop-file.syms
    (counts_of c.args.p.now) s (g.S.Shelf.tells c.loop-file.shelf name) (g.S.Shelf.faults c.loop-file.shelf name)
    (g.S.Shelf.faults c.take_module.new.shelf name) c.loop-file.taker c.take_module.new.taker c.take_module.new.syms) c.in-Refused.is c.in-Err.ensures.err in
    refused_here g.R.RoutineTaker.taken g.R.RoutineTaker.ready g.R.RoutineTaker.keeps g.R.RoutineTaker.refuses c.typed_modules_fit.ensures
    c.typed_programs_are_whole.ensures
    (counts_of c.args.p.now) (g.S.Shelf.tells c.args.shelf.now) c.args.files.now c.loop-file.file-index name c.loop-file-test.true is
    c.loop-file.syms c.take_module.new.syms (c.loop-file.number + 1) (g.S.Shelf.tells c.loop-file.shelf name) c.args.taker.now c.loop-file.taker
    c.take_module.new.taker known.lowered (omega (arith, known.number)) (known.same name) known.kept refused

pub loop-file-preserved : goal.loop-file-preserved
loop-file-preserved g c =
    let known = c.loop-file.invariant in
    let name = c.as_str-name.result.now in
    let is = subst (λ n. n ≡ get_or c.args.files.now c.loop-file.file-index n) (sym c.as_str-name.ensures) c.file-item.is in record {
      lowered = lowered_more c.typed_modules_fit.ensures c.typed_programs_are_whole.ensures (counts_of c.args.p.now)
          (g.S.Shelf.tells c.args.shelf.now) c.args.files.now
          c.loop-file.file-index name c.loop-file-test.true is c.loop-file.syms c.take_module.new.syms (c.loop-file.number + 1)
          (g.S.Shelf.tells c.loop-file.shelf name) (g.R.RoutineTaker.taken c.loop-file.taker) (g.R.RoutineTaker.taken c.take_module.new.taker)
          known.lowered (omega (arith, known.number)) (known.same name) c.in_default.ensures.ok;
      same = λ n. c.take_module.ensures.same n ∙ known.same n;
      counts = λ n. le_trans (known.counts n) (c.take_module.ensures.counts n);
      number = omega (arith, known.number);
      kept = g.met.R.RoutineTaker.goes_on c.args.taker.now c.loop-file.taker c.take_module.new.taker known.kept c.take_module.ensures.kept;
      ready = c.in_default.ensures.still;
    }
