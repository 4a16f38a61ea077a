use Rattle.std.proofs.Common.{◌≡◌, ◌∙◌, arith, length}
use Rattle.call_graph.proofs.Reaching.{few, start_as, at_inside, step_as, spread_done}
use Rattle.call_graph.proofs.reach.spread.Goals as goal

pub loop-next-init : goal.loop-next-init
loop-next-init c =
    let both = start_as c.args.routines.now c.args.from c.args.marks.now c.find.new.marks c.in_ok-found.found.items c.find.new.found.items c.requires.marks
    c.in_ok-found.ensures.items c.in_ok-find.ensures.marks c.in_ok-find.ensures.found in
    record { state = both.0; first = both.1 }

pub sites_at-requires : goal.sites_at-requires
sites_at-requires c =
    let len : c.len.result ≡ length c.loop-next.found.items = c.len.ensures ∙ c.loop-next.found.ok.0 in
    let test = c.loop-next-test.true in
    at_inside c.args.routines.now c.requires.rising c.args.from c.loop-next.next c.loop-next.marks c.loop-next.found.items c.loop-next.invariant.state
    c.loop-next.invariant.first (omega arith) c.index-at.result.now c.index-at.ensures

pub loop-next-smaller : goal.loop-next-smaller
loop-next-smaller c =
    let len : c.len.result ≡ length c.loop-next.found.items = c.len.ensures ∙ c.loop-next.found.ok.0 in
    let test = c.loop-next-test.true in
    let most = few c.args.routines.now c.requires.rising c.args.from c.loop-next.next c.loop-next.marks c.loop-next.found.items c.loop-next.invariant.state in
    omega arith

pub loop-next-preserved : goal.loop-next-preserved
loop-next-preserved c =
    let len : c.len.result ≡ length c.loop-next.found.items = c.len.ensures ∙ c.loop-next.found.ok.0 in
    let test = c.loop-next-test.true in
    let both = step_as c.args.routines.now c.requires.rising c.args.from c.loop-next.next c.loop-next.marks c.loop-next.found.items
    c.loop-next.invariant.state
    c.loop-next.invariant.first (omega arith) c.index-at.result.now c.index-at.ensures c.sites_at.result.now c.find_callees.new.marks
    c.find_callees.new.found.items
    c.sites_at.ensures c.in_ok-find_callees.ensures.marks c.in_ok-find_callees.ensures.found in
    record { state = both.0; first = both.1 }

pub returns : goal.returns
returns c =
    let len : c.len.result ≡ length c.loop-next.found.items = c.len.ensures ∙ c.loop-next.found.ok.0 in
    let test = c.loop-next-test.false in
    spread_done c.args.routines.now c.requires.rising c.args.from c.loop-next.next c.loop-next.marks c.loop-next.found.items
    c.loop-next.invariant.state (omega arith)
    c.loop-next.invariant.first
