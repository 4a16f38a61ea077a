use Rattle.std.proofs.Common.{◌≡◌, Some, None, sym, ap, ◌∙◌}
use Rattle.std.specs.List.{slice_get}
use Rattle.std.proofs.lemmas.Option.{slice_get-get_or}
use Rattle.naim_core.proofs.Tables.{slot_pid}
use Rattle.naim_core.proofs.table.found_at.Goals as goal

pub returns-in_err-peek : goal.returns-in_err-peek
returns-in_err-peek c =
    let m : slice_get c.args.index.now c.args.pid ≡ Some (Some c.in_ok-slot.slot) = slice_get-get_or c.args.index.now c.args.pid None
    c.in-Some.ensures.lookup.3.0 ∙ ap (λ o. Some o) (sym (c.in-Some.ensures.lookup.3.1 None) ∙ c.in_ok-slot.was) in
    let pid = c.requires.indexed.found c.args.pid c.in_ok-slot.slot m in
    let none = rw c.in_err-peek.was at c.peek.ensures in
    let k = rw (sym none) at pid in cc

pub returns-in_err-pool : goal.returns-in_err-pool
returns-in_err-pool c =
    let m : slice_get c.args.index.now c.args.pid ≡ Some (Some c.in_ok-slot.slot) = slice_get-get_or c.args.index.now c.args.pid None
    c.in-Some.ensures.lookup.3.0 ∙ ap (λ o. Some o) (sym (c.in-Some.ensures.lookup.3.1 None) ∙ c.in_ok-slot.was) in
    let pid = c.requires.indexed.found c.args.pid c.in_ok-slot.slot m in
    let some = rw c.in_ok-peek.was at c.peek.ensures in
    let some' = rw c.in_err-pool.was at some in
    let k = rw (sym some') at pid in cc

pub returns-in-Some : goal.returns-in-Some
returns-in-Some c =
    let m : slice_get c.args.index.now c.args.pid ≡ Some (Some c.in_ok-slot.slot) = slice_get-get_or c.args.index.now c.args.pid None
    c.in-Some.ensures.lookup.3.0 ∙ ap (λ o. Some o) (sym (c.in-Some.ensures.lookup.3.1 None) ∙ c.in_ok-slot.was) in
    let pid = c.requires.indexed.found c.args.pid c.in_ok-slot.slot m in
    let some = rw c.in_ok-peek.was at c.peek.ensures in
    let some' = rw c.in_ok-pool.was at some in
    slot_pid c.args.order.now.entries c.in_ok-slot.slot c.args.pid c.in_ok-pool.field-0-0 c.in_ok-pool.pool (sym some') pid
