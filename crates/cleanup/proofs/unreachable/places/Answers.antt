use Rattle.std.proofs.Common.{ℕ, ◌+◌, ap, sym, arith, length, get_or, false}
use Rattle.std.proofs.lemmas.List.{get_or_default}
use Rattle.cleanup.proofs.Keeping.{place_few, place_zero, placing_more}
use Rattle.cleanup.proofs.unreachable.places.Goals as goal

pub overflow_add-next : goal.overflow_add-next
overflow_add-next c =
    let few = place_few c.args.marks.now c.loop-mark.mark-index in
    let next = c.loop-mark.invariant.next in
    let test = c.loop-mark-test.true in
    let most = c.requires in
    let one = c.one_if-next.ensures.bound in
    omega arith

pub loop-mark-init : goal.loop-mark-init
loop-mark-init c =
    record {
      next = sym (place_zero c.args.marks.now);
      size = ap length c.in_ok-places.ensures.items;
      at = λ t lt. absurd (omega arith);
    }

pub loop-mark-preserved : goal.loop-mark-preserved
loop-mark-preserved c =
    let k = c.loop-mark.mark-index in
    let ms = c.args.marks.now in
    placing_more ms k c.loop-mark.next (c.loop-mark.next + c.one_if-next.result) c.loop-mark.places.items c.push.new.self.items (get_or ms k false)
    c.loop-mark-test.true (get_or_default ms k false (get_or ms k false) c.loop-mark-test.true) c.loop-mark.invariant c.in_ok-push.ensures.items
    (ap (λ (n : ℕ). c.loop-mark.next + n) c.one_if-next.ensures.value)
