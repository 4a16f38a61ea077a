use Rattle.std.proofs.Common.{◌≡◌, ◌++◌, drop}
use Rattle.clone_groups.specs.Keys.{fixed_in, pairs_of}
use Rattle.clone_groups.proofs.keys.words_of.Given as goal

abbrev pub invariant-loop-param : goal.invariant-loop-param
invariant-loop-param l = l.words.items ++ pairs_of (fixed_in (drop l.param-index l.fixed)) ≡ pairs_of (fixed_in l.fixed)
