use Rattle.std.proofs.Common.{sym, ◌∙◌, subst}
use Rattle.il_core.specs.Shapes.{IsRising}
use Rattle.sym_tables.proofs.Listings.{rising}
use Rattle.sym_tables.proofs.table.ProgramSyms.shapes.Goals as goal

pub invariant_of-result : goal.invariant_of-result
invariant_of-result c = subst (IsRising (λ row. row.pid)) (sym (c.from_vec.ensures ∙ c.in_ok-rows.ensures.rows)) (rising c.self.inside.symbols.entries)
