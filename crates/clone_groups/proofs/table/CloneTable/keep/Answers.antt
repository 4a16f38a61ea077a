use Rattle.std.proofs.Common.{◌∙◌, ap, filter, rules, List}
use Rattle.std.specs.Prelude.{reverse}
use Rattle.std.proofs.lemmas.Fn.{filter_same}
use Rattle.il_laws.specs.Reach.{is_in}
use Rattle.il_laws.specs.Table.{Row}
use Rattle.clone_groups.proofs.Tables.{reverse_kept}
use Rattle.clone_groups.proofs.table.CloneTable.keep.Goals as goal

pub returns : goal.returns
returns c =
    ap (λ (l : List Row). reverse l) (filter_same _ (λ row. is_in c.args.live.now row.clone) _ (λ x b q k. search rules) _ _ c.retain.ensures.filtered)
    ∙ reverse_kept (λ row. is_in c.args.live.now row.clone) c.self.inside.rows.items
    ∙ ap (filter (λ row. is_in c.args.live.now row.clone)) c.self.view_is
