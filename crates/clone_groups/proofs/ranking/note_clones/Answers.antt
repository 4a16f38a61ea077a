use Rattle.std.proofs.Common.{◌∙◌, List, ap, map, take}
use Rattle.std.specs.Prelude.{reverse}
use Rattle.std.proofs.lemmas.List.{take_all}
use Rattle.il_laws.specs.Table.{Row}
use Rattle.clone_groups.specs.Ranking.{clone_for}
use Rattle.clone_groups.proofs.Clones.{rows_more}
use Rattle.clone_groups.proofs.ranking.note_clones.Goals as goal

pub loop-row-init : goal.loop-row-init
loop-row-init c = c.requires

pub loop-row-preserved : goal.loop-row-preserved
loop-row-preserved c =
    c.note_clone.ensures (reverse (take c.loop-row.row-index c.args.rows.now)) c.loop-row.invariant
    ∙ ap (λ (rs : List Row). map (clone_for rs) c.args.groups.now.entries)
    (rows_more c.args.rows.now c.loop-row.row-index c.row-item.result c.loop-row-test.true c.row-item.is)

pub returns : goal.returns
returns c =
    c.loop-row.invariant
    ∙ ap (λ (rs : List Row). map (clone_for (reverse rs)) c.args.groups.now.entries) (take_all c.loop-row.row-index c.args.rows.now c.loop-row-test.false)
