use Rattle.std.proofs.Common.{sym, ◌∙◌, ap, subst, refl, Ok, Err}
use Rattle.std.proofs.lemmas.Result.{err_from_is_err_and}
use Rattle.c_lex.specs.Machine.{close}
use Rattle.c_lex.specs.Reading.{open_bytes, left, Faults, Advances}
use Rattle.c_lex.proofs.ReaderLemmas.{goes_on, goes_wrong, ends_wrong, ends_right}
use Rattle.c_lex.proofs.scanner.advance.Goals as goal

pub returns-in-Ok-Some : goal.returns-in-Ok-Some
returns-in-Ok-Some c = goes_on c.args.b.now c.args.r c.requires.opened c.requires.more c.in-Ok-Some.phase c.behind.result c.args.out.now.items
    (sym c.step.ensures ∙ c.in-Ok-Some.is ∙ ap Ok c.in-Ok-Some.field-0-is) c.behind.ensures

pub returns-in-Err : goal.returns-in-Err
returns-in-Err c =
    subst (Faults (left c.args.b.now c.args.r)) (sym (c.fault.ensures (open_bytes c.args.b.now c.args.r) c.requires.opened.place))
    (goes_wrong c.args.b.now c.args.r c.requires.opened c.requires.more c.in-Err.kind (sym c.step.ensures ∙ c.in-Err.is))

pub returns-in_err-context-in-Ok-None : goal.returns-in_err-context-in-Ok-None
returns-in_err-context-in-Ok-None c =
    let p = err_from_is_err_and c.from_residual.result c.from_residual.ensures.1 in
    subst (Advances c.args.b.now c.args.r c.args.out.now.items c.end_piece.new.out.items) (sym (p.1 ∙ ap Err p.2))
    (ends_wrong c.args.b.now c.args.r c.requires.opened c.requires.more c.args.out.now.items c.end_piece.new.out.items
    (close c.args.r.context c.args.r.phase (open_bytes c.args.b.now c.args.r)) c.in_err-context-in-Ok-None.field-0.0
    (sym c.step.ensures ∙ c.in-Ok-None.is ∙ ap Ok c.in-Ok-None.field-0-is) refl c.in_err-context-in-Ok-None.ensures)

pub returns-in_ok-context-in-Ok-None : goal.returns-in_ok-context-in-Ok-None
returns-in_ok-context-in-Ok-None c =
    subst (Advances c.args.b.now c.args.r c.args.out.now.items c.end_piece.new.out.items) (sym c.open.ensures)
    (ends_right c.args.b.now c.args.r c.requires.opened c.requires.more c.args.out.now.items c.end_piece.new.out.items c.in_ok-context-in-Ok-None.context
    (close c.args.r.context c.args.r.phase (open_bytes c.args.b.now c.args.r)) (sym c.step.ensures ∙ c.in-Ok-None.is ∙ ap Ok c.in-Ok-None.field-0-is) refl
    c.in_ok-context-in-Ok-None.ensures)
