-- Four rounds of all changes of one routine.
use Rattle.il_core.specs.Routine.{RoutineParts}
use Rattle.il_laws.specs.Propagate.{propagate, fold_branches}
use Rattle.il_laws.specs.Unreachable.{drop_unreachable}
use Rattle.il_laws.specs.Live.{drop_dead_writes}
use Rattle.il_laws.specs.Merge.{merge_blocks}

abbrev pub one_round : RoutineParts → RoutineParts
one_round r = merge_blocks (drop_dead_writes (drop_unreachable (fold_branches (propagate r))))

abbrev pub simplify : RoutineParts → RoutineParts
simplify r = one_round (one_round (one_round (one_round r)))
