use Rattle.std.proofs.Common.{ap, ◌∙◌, ◌≤◌, sym, subst}
use Rattle.indexmap.specs.Layout.{set_value_at}
use Rattle.sym_tables.specs.Sound.{IsKept}
use Rattle.sym_tables.specs.Table.{initialised}
use Rattle.sym_tables.proofs.Changes.{kept_given}
use Rattle.sym_tables.proofs.Tables.{given_at, given_past, known_mut}
use Rattle.sym_tables.proofs.table.ProgramSyms.initialise.Goals as goal

pub invariant_of-self : goal.invariant_of-self
invariant_of-self c = subst (λ v. IsKept (set_value_at c.self.inside.symbols.entries c.args.pid v) c.self.inside.routines c.self.inside.elements
    c.self.inside.least) (sym c.initialise.ensures) (kept_given c.self.inside.symbols.entries c.args.pid _ _ _ c.unwrap-symbol.result.now c.args.init.items
    c.self.invariant (known_mut _ c.args.pid _ c.unwrap-symbol.result c.get_index_mut.ensures.value c.unwrap-symbol.ensures))

pub returns : goal.returns
returns c = ap (set_value_at c.self.inside.symbols.entries c.args.pid) c.initialise.ensures ∙ given_at c.self.inside.symbols.entries c.args.pid
    c.unwrap-symbol.result.now c.args.init.items (known_mut _ c.args.pid _ c.unwrap-symbol.result c.get_index_mut.ensures.value c.unwrap-symbol.ensures) ∙ ap
    (λ l. initialised l c.args.pid c.args.init.items) c.self.view_is

pub returns-then-at-len : goal.returns-then-at-len
returns-then-at-len c = sym (ap (λ l. initialised l c.args.pid c.args.init.items) (sym c.self.view_is) ∙ given_past c.self.inside.symbols.entries c.args.pid
    c.args.init.items (subst (λ n. n ≤ c.args.pid) c.len.ensures.len c.if-at-len.true) ∙ c.self.view_is)
