use Rattle.std.proofs.Common.{arith, ap, sym, ◌∙◌}
use Rattle.named_lock.specs.Known.{note_of}
use Rattle.lock_join.proofs.Sums.{counted}
use Rattle.lock_join.proofs.Turns.{note_at_last}
use Rattle.lock_join.proofs.counting.count_in_order.Goals as goal

pub returns : goal.returns
returns g c =
    let done = c.work_after_another-p.ensures.amount in
    let left = note_at_last _ _ _ _ _ _ c.take-t.ensures.view c.work_after_another-p.ensures.pass.view (ap note_of c.in-Ok.ensures.view) in
    let number = counted _ _ _ _ left (omega arith) c.finish.ensures.rule in
    let handed = c.finish.ensures.state ∙ sym c.take-t.ensures.taken ∙ number in omega arith
