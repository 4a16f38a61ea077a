use Rattle.std.proofs.Common.{◌≡◌, arith, get_or, ◌+◌, ◌∙◌, subst, sym, refl, le_trans}
use Rattle.c_module.proofs.Going.{ends_here, none_yet, up_to_next}
use Rattle.c_module.proofs.checking.check_in_order.Goals as goal

pub loop-file-init : goal.loop-file-init
loop-file-init g c = (none_yet _ c.args.syms.now c.requires, λ n. refl, λ n. omega arith, refl)

pub returns-in-Err-clause-err : goal.returns-in-Err-clause-err
returns-in-Err-clause-err g c =
    let known = c.loop-file.invariant in
    let name = c.as_str-name.result.now in
    let is = subst (λ n. n ≡ get_or c.args.files.now c.loop-file.file-index n) (sym c.as_str-name.ensures) c.file-item.is in
    ends_here (g.S.Shelf.tells c.args.shelf.now) c.args.files.now c.loop-file.file-index name c.loop-file-test.true is
    (g.S.Shelf.faults c.args.shelf.now) (g.S.Shelf.faults c.loop-file.shelf) (g.S.Shelf.faults c.lowered_module.new.shelf)
    (g.S.Shelf.tells c.loop-file.shelf name) c.loop-file.syms c.lowered_module.new.syms (c.loop-file.number + 1) c.in-Err.fault
    known.0 (omega (arith, known.3)) (known.1 name) (known.2 name) c.in-Err.ensures.err

pub loop-file-preserved : goal.loop-file-preserved
loop-file-preserved g c =
    let known = c.loop-file.invariant in
    let name = c.as_str-name.result.now in
    let is = subst (λ n. n ≡ get_or c.args.files.now c.loop-file.file-index n) (sym c.as_str-name.ensures) c.file-item.is in
    let held = c.in_default.ensures.ok in (
      up_to_next (g.S.Shelf.tells c.args.shelf.now) c.args.files.now c.loop-file.file-index name c.loop-file-test.true is
          c.loop-file.syms c.lowered_module.new.syms (c.loop-file.number + 1) (g.S.Shelf.tells c.loop-file.shelf name) held.typed_as
          known.0 (omega (arith, known.3)) (known.1 name) held.typed held.limits,
      λ n. c.lowered_module.ensures.same n ∙ known.1 n,
      λ n. le_trans (known.2 n) (c.lowered_module.ensures.counts n),
      omega (arith, known.3),
    )
