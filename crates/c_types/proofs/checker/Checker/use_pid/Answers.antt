use Rattle.std.proofs.Common.{◌≡◌, ◌∙◌, sym, subst}
use Rattle.sym_tables.specs.Table.{mark}
use Rattle.c_types.proofs.Marks.{no_entity, use_nothing}
use Rattle.c_types.proofs.checker.Checker.use_pid.Goals as goal

pub returns-else-is_some : goal.returns-else-is_some
returns-else-is_some c = subst (λ h. h ≡ record h { syms = mark h.syms c.args.pid }) c.self.view_is
    (use_nothing _ c.args.pid (no_entity c.entity.result _ c.entity.ensures (sym c.is_some.ensures ∙ c.if-is_some.false)))
