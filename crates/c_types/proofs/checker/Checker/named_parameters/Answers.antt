use Rattle.std.proofs.Common.{sym, ◌∙◌}
use Rattle.std.proofs.lemmas.Slice.Zip.{either_empty_from_Zip}
use Rattle.std.specs.Iterator.Adapters.{zip_first, zip_second}
use Rattle.std.specs.Slice.Iter.{iter_rest}
use Rattle.c_types.proofs.FunctionParts.{finished}
use Rattle.c_types.proofs.checker.Checker.named_parameters.Goals as goal

pub returns : goal.returns
returns c =
    let left = c.loop-ty.ty-iterator in
    sym c.loop-ty.invariant.so_far ∙ finished c.loop-ty.named.items (iter_rest (zip_first left)) (iter_rest (zip_second left)) c.args.self.now
    (either_empty_from_Zip left c.next.new.self c.next.result c.in-None.is c.next.ensures.steps)
