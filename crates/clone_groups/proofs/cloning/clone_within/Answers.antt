use Rattle.std.proofs.Common.{sym, subst}
use Rattle.std.specs.List.{AllByRecursion}
use Rattle.il_core.specs.declared.instr.Block.{Block}
use Rattle.il_core.specs.contracts.routine.Routine.{the_view}
use Rattle.const_prop.specs.Tables.{IsValidRoutine}
use Rattle.inliner.specs.Copies.{NamesBlocks, few_blocks}
use Rattle.clone_groups.proofs.Cloned.{named_blocks}
use Rattle.clone_groups.proofs.cloning.clone_within.Goals as goal

pub begin-requires-clause-targets : goal.begin-requires-clause-targets
begin-requires-clause-targets c =
    subst (AllByRecursion (λ (x : Block). NamesBlocks few_blocks x.end)) (sym c.into_vec-blocks.ensures)
    (named_blocks (the_view c.r.inside) (subst IsValidRoutine (sym c.r.view_is) c.requires.routine) c.r.invariant)
