use Rattle.std.proofs.Common.{arith}
use Rattle.const_prop.proofs.Following.{inside_as}
use Rattle.const_prop.proofs.flow.Flow.send.Goals as goal

pub picked-requires : goal.picked-requires
picked-requires c =
    record {
      inside = inside_as c.args.self.now c.args.t _ _ _ c.requires.sized c.requires.count
          (let past = c.if-t-len.false in let len = c.len.ensures in omega arith)
          c.as_slice-carried.ensures c.index-2.ensures;
    }
