use Rattle.std.proofs.Common.{◌∙◌, sym}
use Rattle.std.proofs.lemmas.Bool.Decides.{nat_tests}
use Rattle.std.proofs.Common.{◌≡◌, arith, length, false}
use Rattle.std.specs.Prelude.{nat_lt}
use Rattle.call_graph.proofs.Placing.{has_is, has_past}
use Rattle.call_graph.proofs.graph.has.Goals as goal

pub returns-then-at-routines : goal.returns-then-at-routines
returns-then-at-routines c = has_is c.args.routines.now c.args.at c.args.pid c.index-routines-at.result c.if-at-routines.true

pub returns-else-at-routines : goal.returns-else-at-routines
returns-else-at-routines c =
    let past = c.if-at-routines.false in
    let no_more : nat_lt c.args.at (length c.args.routines.now) ≡ false = grind (arith, nat_tests) in
    no_more ∙ sym (has_past c.args.routines.now c.args.at c.args.pid past)
