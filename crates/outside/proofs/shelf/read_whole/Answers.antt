use Rattle.std.proofs.Common.{◌≡◌, ◌++◌, ◌+◌, length, take, drop, arith, rules, le_trans, ◌∙◌, ap, subst, sym}
use Rattle.outside.proofs.Fronts.{IsFront, IsFront-more, length-grown}
use Rattle.outside.proofs.shelf.read_whole.Goals as goal

pub rest-preserved : goal.rest-preserved
rest-preserved g c =
    let behind = drop c.if-left-lt-BLOCK.asked c.rest.block in
    let items : c.extend_from_slice.new.self.items ≡ c.rest.v.items ++ take c.in_ok-n.n (c.read.new.b ++ behind) = rw c.grow.ensures.items at
    c.in_ok-extend_from_slice.ensures.items in
    let grown : length c.extend_from_slice.new.self.items ≡ length c.rest.v.items + c.in_ok-n.n = ap length items ∙ length-grown c.rest.v.items c.read.new.b
    behind c.in_ok-n.n c.in_ok-n.ensures.bound in
    record {
      within = omega arith;
      front = subst (IsFront (g.S.Shelf.tells c.args.s.now c.args.name.now)) (sym items)
          (IsFront-more _ _ _ c.rest.v.items c.read.new.b behind c.len-in-rest.result c.in_ok-n.n (c.rest.invariant.same c.args.name.now) (search rules)
          c.rest.invariant.front c.in_ok-n.ensures.contents c.in_ok-n.ensures.bound);
      same = λ n. c.read.ensures.same n ∙ c.rest.invariant.same n;
      counts = λ n. le_trans (c.rest.invariant.counts n) (c.read.ensures.counts n);
    }
