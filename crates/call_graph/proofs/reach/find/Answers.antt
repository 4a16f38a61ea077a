use Rattle.std.proofs.Common.{◌≡◌, ℕ, ◌∙◌, subst, sym, arith, length, set, true}
use Rattle.std.specs.Prelude.{OnOk}
use Rattle.call_graph.specs.Reach.{place_of, noted}
use Rattle.call_graph.proofs.Placing.{has_within}
use Rattle.call_graph.proofs.Reaching.{place_is, place_none, absent_marks, absent_notes}
use Rattle.call_graph.proofs.reach.find.Goals as goal

pub note-requires : goal.note-requires
note-requires c =
    let lt = has_within c.args.routines.now c.place-at.result c.args.pid (sym c.has.ensures ∙ c.if-has.true) in
    let size = c.requires.size in
    omega arith

pub returns-then-has-clause-marks : goal.returns-then-has-clause-marks
returns-then-has-clause-marks c =
    subst (λ (p : ℕ). OnOk c.note.result (c.note.new.marks ≡ set c.args.marks.now p true))
    (sym (place_is c.args.routines.now c.place-at.result c.args.pid c.place-at.ensures.before (sym c.has.ensures ∙ c.if-has.true))) c.note.ensures.marks

pub returns-then-has-clause-found : goal.returns-then-has-clause-found
returns-then-has-clause-found c =
    subst (λ (p : ℕ). OnOk c.note.result (c.note.new.found.items ≡ noted p c.args.marks.now c.args.found.now.items))
    (sym (place_is c.args.routines.now c.place-at.result c.args.pid c.place-at.ensures.before (sym c.has.ensures ∙ c.if-has.true))) c.note.ensures.found

pub returns-clause-marks : goal.returns-clause-marks
returns-clause-marks c =
    absent_marks c.args.marks.now (place_of c.args.routines.now c.args.pid) (length c.args.routines.now)
    (place_none c.args.routines.now c.place-at.result c.args.pid c.requires.rising c.place-at.ensures.before c.place-at.ensures.behind
    (sym c.has.ensures ∙ c.if-has.false)) c.requires.size

pub returns-clause-found : goal.returns-clause-found
returns-clause-found c =
    absent_notes c.args.marks.now c.args.found.now.items (place_of c.args.routines.now c.args.pid) (length c.args.routines.now)
    (place_none c.args.routines.now c.place-at.result c.args.pid c.requires.rising c.place-at.ensures.before c.place-at.ensures.behind
    (sym c.has.ensures ∙ c.if-has.false)) c.requires.size
