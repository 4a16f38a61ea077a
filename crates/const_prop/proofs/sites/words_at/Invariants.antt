use Rattle.std.proofs.Common.{◌≡◌, map, take}
use Rattle.const_prop.specs.Tables.{facts_in}
use Rattle.const_prop.specs.Sites.{words_at}
use Rattle.const_prop.proofs.sites.words_at.Given as goal

abbrev pub invariant-loop-arg : goal.invariant-loop-arg
invariant-loop-arg l = words_at l.words.items ≡ map (facts_in l.table) (take l.arg-index l.args)
