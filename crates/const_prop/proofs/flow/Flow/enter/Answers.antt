use Rattle.const_prop.proofs.Following.{inside_as}
use Rattle.const_prop.proofs.flow.Flow.enter.Goals as goal

pub put_quiet-requires-clause-inside : goal.put_quiet-requires-clause-inside
put_quiet-requires-clause-inside c =
    inside_as c.args.self.now c.args.b _ _ _ c.requires.sized c.requires.count c.requires.within c.as_slice-carried.ensures c.index.ensures

pub put_zeros-requires : goal.put_zeros-requires
put_zeros-requires c =
    record { inside = inside_as c.args.self.now c.args.b _ _ _ c.requires.sized c.requires.count c.requires.within c.as_slice-carried.ensures c.index.ensures }

pub put_kept-requires-clause-inside : goal.put_kept-requires-clause-inside
put_kept-requires-clause-inside c =
    inside_as c.args.self.now c.args.b _ _ _ c.requires.sized c.requires.count c.requires.within c.as_slice-carried.ensures c.index.ensures
