use Rattle.std.proofs.Common.{◌≡◌, ◌∙◌, ℕ, List, arith, ap, sym, length}
use Rattle.std.proofs.lemmas.List.{length-replicate, length-map}
use Rattle.inline_budget.specs.Calls.{calls_of}
use Rattle.inline_budget.specs.Levelling.{counted, filed, zeros}
use Rattle.inline_budget.proofs.Filed.{none}
use Rattle.inline_budget.proofs.Levelled.{callers_below, callees_below, counted_length, filed_length}
use Rattle.inline_budget.proofs.Turns.{first_as, turn_below, turn_levels, turn_small, turn_inside, turn_more, turn_less, turn_end}
use Rattle.inline_budget.proofs.levels.levels_of.Goals as goal

pub put_calls-requires-clause-callers : goal.put_calls-requires-clause-callers
put_calls-requires-clause-callers c =
    let long : length c.in_ok-found.found.left.items ≡ c.bound_of-bound.result
    = ap (λ (ts : List ℕ). length ts) c.in_ok-found.ensures.left ∙ length-replicate c.bound_of-bound.result 0 in
    let bound = c.bound_of-bound.ensures.bound in
    callers_below (length c.in_ok-found.found.left.items) c.args.calls.now (omega arith)

pub put_calls-requires-clause-callees : goal.put_calls-requires-clause-callees
put_calls-requires-clause-callees c =
    let long : length c.in_ok-callers.callers ≡ c.bound_of-bound.result
    = ap (λ (ls : List (List ℕ)). length ls) c.in_ok-callers.ensures ∙ length-replicate c.bound_of-bound.result none in
    let bound = c.bound_of-bound.ensures.bound in
    callees_below (length c.in_ok-callers.callers) c.args.calls.now (omega arith)

pub note_known-requires-clause-few : goal.note_known-requires-clause-few
note_known-requires-clause-few c =
    let long : length c.put_calls.new.left.items ≡ c.bound_of-bound.result
    = ap (λ (ts : List ℕ). length ts) c.in_ok-put_calls.ensures.left ∙ counted_length (calls_of c.args.calls.now) c.in_ok-found.found.left.items
    ∙ ap (λ (ts : List ℕ). length ts) c.in_ok-found.ensures.left ∙ length-replicate c.bound_of-bound.result 0 in
    let few = c.bound_of-bound.ensures.few in
    omega arith

pub loop-next-init : goal.loop-next-init
loop-next-init c =
    let cs = calls_of c.args.calls.now in
    record {
      finding = first_as c.bound_of-bound.result cs c.note_known.new.self.levels.items c.note_known.new.self.left.items c.note_known.new.self.known.items
          c.bound_of-bound.ensures.bound (c.note_known.ensures.levels ∙ c.in_ok-found.ensures.levels)
          (c.note_known.ensures.left ∙ c.in_ok-put_calls.ensures.left ∙ ap (λ (ts : List ℕ). counted ts cs) c.in_ok-found.ensures.left)
          (c.in_ok-note_known.ensures.known ∙ ap (zeros 0) (sym c.note_known.ensures.left));
      lists = c.callers-2.view_is ∙ c.in_ok-put_calls.ensures.callers ∙ ap (λ (ls : List (List ℕ)). filed ls cs) c.in_ok-callers.ensures;
      bound = c.bound_of-bound.ensures.bound;
    }

pub index-requires-in-loop-next : goal.index-requires-in-loop-next
index-requires-in-loop-next c =
    let f = c.loop-next.found in
    let inv = c.loop-next.invariant in
    let len : c.len.result ≡ length f.known.items = c.len.ensures ∙ f.known.ok.0 in
    let test = c.loop-next-test.true in
    let levels = f.levels.ok.0 in
    let less = turn_levels (calls_of c.args.calls.now) c.requires c.bound_of-bound.result inv.bound f.levels.items f.left.items f.known.items c.loop-next.next
    inv.finding c.index.result.now (omega arith) c.index.ensures in
    omega arith

pub overflow_add-level : goal.overflow_add-level
overflow_add-level c =
    let f = c.loop-next.found in
    let inv = c.loop-next.invariant in
    let len : c.len.result ≡ length f.known.items = c.len.ensures ∙ f.known.ok.0 in
    let test = c.loop-next-test.true in
    let small = turn_small (calls_of c.args.calls.now) c.requires c.bound_of-bound.result inv.bound f.levels.items f.left.items f.known.items c.loop-next.next
    inv.finding c.index.result.now (omega arith) c.index.ensures c.index-in-loop-next.result.now c.index-in-loop-next.ensures in
    let calls : length (calls_of c.args.calls.now) ≡ length c.args.calls.now = length-map c.args.calls.now _ in
    let few = c.bound_of-bound.ensures.calls in
    omega arith

pub list-requires : goal.list-requires
list-requires c =
    let f = c.loop-next.found in
    let inv = c.loop-next.invariant in
    let len : c.len.result ≡ length f.known.items = c.len.ensures ∙ f.known.ok.0 in
    let test = c.loop-next-test.true in
    let less = turn_below (calls_of c.args.calls.now) c.requires c.bound_of-bound.result inv.bound f.levels.items f.left.items f.known.items c.loop-next.next
    inv.finding c.index.result.now (omega arith) c.index.ensures in
    let long : length c.put_calls.new.callers ≡ c.bound_of-bound.result
    = ap (λ (ls : List (List ℕ)). length ls) c.in_ok-put_calls.ensures.callers ∙ filed_length (calls_of c.args.calls.now) c.in_ok-callers.callers
    ∙ ap (λ (ls : List (List ℕ)). length ls) c.in_ok-callers.ensures ∙ length-replicate c.bound_of-bound.result none in
    omega arith

pub pass_on-requires-clause-inside : goal.pass_on-requires-clause-inside
pass_on-requires-clause-inside c =
    let f = c.loop-next.found in
    let inv = c.loop-next.invariant in
    let len : c.len.result ≡ length f.known.items = c.len.ensures ∙ f.known.ok.0 in
    let test = c.loop-next-test.true in
    turn_inside (calls_of c.args.calls.now) c.requires c.bound_of-bound.result inv.bound f.levels.items f.left.items f.known.items c.loop-next.next
    inv.finding c.index.result.now (omega arith) c.index.ensures c.index-in-loop-next.result.now c.index-in-loop-next.ensures
    c.list.result.now c.put_calls.new.callers
    (c.in_ok-put_calls.ensures.callers ∙ ap (λ (ls : List (List ℕ)). filed ls (calls_of c.args.calls.now)) c.in_ok-callers.ensures) c.list.ensures

pub loop-next-smaller : goal.loop-next-smaller
loop-next-smaller c =
    let f = c.loop-next.found in
    let inv = c.loop-next.invariant in
    let len : c.len.result ≡ length f.known.items = c.len.ensures ∙ f.known.ok.0 in
    let test = c.loop-next-test.true in
    turn_less (calls_of c.args.calls.now) c.requires c.bound_of-bound.result inv.bound f.levels.items f.left.items f.known.items c.loop-next.next
    inv.finding c.index.result.now (omega arith) c.index.ensures c.index-in-loop-next.result.now c.index-in-loop-next.ensures
    c.list.result.now c.put_calls.new.callers
    (c.in_ok-put_calls.ensures.callers ∙ ap (λ (ls : List (List ℕ)). filed ls (calls_of c.args.calls.now)) c.in_ok-callers.ensures) c.list.ensures
    c.pass_on.new.self.levels.items c.pass_on.new.self.left.items c.pass_on.new.self.known.items c.in_ok-pass_on.ensures.levels c.in_ok-pass_on.ensures.left
    c.in_ok-pass_on.ensures.known

pub loop-next-preserved : goal.loop-next-preserved
loop-next-preserved c =
    let f = c.loop-next.found in
    let inv = c.loop-next.invariant in
    let len : c.len.result ≡ length f.known.items = c.len.ensures ∙ f.known.ok.0 in
    let test = c.loop-next-test.true in
    record {
      finding = turn_more (calls_of c.args.calls.now) c.requires c.bound_of-bound.result inv.bound f.levels.items f.left.items f.known.items c.loop-next.next
          inv.finding c.index.result.now (omega arith) c.index.ensures c.index-in-loop-next.result.now c.index-in-loop-next.ensures
          c.list.result.now c.put_calls.new.callers
          (c.in_ok-put_calls.ensures.callers ∙ ap (λ (ls : List (List ℕ)). filed ls (calls_of c.args.calls.now)) c.in_ok-callers.ensures) c.list.ensures
          c.pass_on.new.self.levels.items c.pass_on.new.self.left.items c.pass_on.new.self.known.items c.in_ok-pass_on.ensures.levels
          c.in_ok-pass_on.ensures.left c.in_ok-pass_on.ensures.known;
      lists = inv.lists;
      bound = inv.bound;
    }

pub returns-clause-levels : goal.returns-clause-levels
returns-clause-levels c =
    let f = c.loop-next.found in
    let inv = c.loop-next.invariant in
    let len : c.len.result ≡ length f.known.items = c.len.ensures ∙ f.known.ok.0 in
    let test = c.loop-next-test.false in
    turn_end (calls_of c.args.calls.now) c.requires c.bound_of-bound.result inv.bound f.levels.items f.left.items f.known.items c.loop-next.next inv.finding
    (omega arith)
