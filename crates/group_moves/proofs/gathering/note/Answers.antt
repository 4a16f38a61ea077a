use Rattle.std.proofs.Common.{◌≡◌, ◌+◌, ◌++◌, arith, get_or, length, subst, sym, take, ◌∙◌}
use Rattle.std.specs.Prelude.{slice_set}
use Rattle.std.proofs.Math.Seq.{take-length}
use Rattle.std.proofs.lemmas.List.{length-set}
use Rattle.group_moves.specs.Gathering.{IsTable, moves_to}
use Rattle.group_moves.proofs.Noting.{noted_next}
use Rattle.group_moves.proofs.gathering.note.Goals as goal

pub loop-caller-preserved : goal.loop-caller-preserved
loop-caller-preserved c = record {
  long = length-set c.loop-caller.table _ _ ∙ c.loop-caller.invariant.long;
  moves = λ had h.
      subst (λ ms. IsTable (length c.args.table.now) (λ q. had q ++ moves_to q c.args.clone (take (c.loop-caller.caller-index + 1) c.args.members.now))
      (slice_set c.loop-caller.table (get_or c.args.members.now c.loop-caller.caller-index (0, 0)).0
      (record (get_or c.loop-caller.table (get_or c.args.members.now c.loop-caller.caller-index (0, 0)).0 c.index-table-caller.result) { moves = ms })))
      (sym c.in_ok-push.ensures.ok)
      (noted_next (length c.args.table.now) c.args.clone had c.args.members.now c.loop-caller.caller-index c.loop-caller.table c.index-table-caller.result
      (c.loop-caller.invariant.moves had h) c.loop-caller-test.true c.requires);
}

pub returns-clause-moves : goal.returns-clause-moves
returns-clause-moves c = λ had h.
    let end : c.loop-caller.caller-index ≡ length c.args.members.now = omega (arith, c.loop-caller.auto.caller-index-end, c.loop-caller-test.false) in
    subst (λ ms. IsTable (length c.args.table.now) (λ q. had q ++ moves_to q c.args.clone ms) c.loop-caller.table) (take-length c.args.members.now)
    (subst (λ k. IsTable (length c.args.table.now) (λ q. had q ++ moves_to q c.args.clone (take k c.args.members.now)) c.loop-caller.table) end
    (c.loop-caller.invariant.moves had h))
