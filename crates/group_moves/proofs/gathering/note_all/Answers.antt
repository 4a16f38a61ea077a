use Rattle.std.proofs.Common.{◌≡◌, ◌++◌, arith, length, subst, take, ◌∙◌, sym}
use Rattle.std.proofs.Math.Seq.{take-length}
use Rattle.group_moves.specs.Gathering.{IsTable, all_moves, moves_to}
use Rattle.group_moves.proofs.Noting.{noted_group}
use Rattle.group_moves.proofs.gathering.note_all.Goals as goal

pub loop-group-preserved : goal.loop-group-preserved
loop-group-preserved c = record {
  long = c.note.ensures.long ∙ c.loop-group.invariant.long;
  moves = λ had h.
      let before = c.loop-group.invariant.moves had h in
      noted_group (length c.args.table.now) had c.args.groups.now c.loop-group.group-index c.group-item.result c.note.new.table c.loop-group-test.true
      c.group-item.is
      (subst (λ ms. IsTable (length c.args.table.now)
      (λ q. (had q ++ all_moves q (take c.loop-group.group-index c.args.groups.now)) ++ moves_to q c.group-item.result.clone ms) c.note.new.table)
      c.as_slice.ensures
      (subst (λ n. IsTable n (λ q. (had q ++ all_moves q (take c.loop-group.group-index c.args.groups.now)) ++ moves_to q c.group-item.result.clone
      c.as_slice.result.now) c.note.new.table) c.loop-group.invariant.long
      (c.in_ok-note.ensures.moves (λ q. had q ++ all_moves q (take c.loop-group.group-index c.args.groups.now))
      (subst (λ n. IsTable n (λ q. had q ++ all_moves q (take c.loop-group.group-index c.args.groups.now)) c.loop-group.table)
      (sym c.loop-group.invariant.long) before))));
}

pub returns : goal.returns
returns c = λ had h.
    let end : c.loop-group.group-index ≡ length c.args.groups.now = omega (arith, c.loop-group.auto.group-index-end, c.loop-group-test.false) in
    subst (λ gs. IsTable (length c.args.table.now) (λ q. had q ++ all_moves q gs) c.loop-group.table) (take-length c.args.groups.now)
    (subst (λ k. IsTable (length c.args.table.now) (λ q. had q ++ all_moves q (take k c.args.groups.now)) c.loop-group.table) end
    (c.loop-group.invariant.moves had h))
