use Rattle.std.proofs.Common.{◌≤◌, sym, ap, ◌∙◌, subst}
use Rattle.sym_tables.specs.Table.{pid_of, same_name, symbol_of}
use Rattle.sym_tables.proofs.Finds.{found_pid, none_pid, none_symbol, other_more}
use Rattle.sym_tables.proofs.Tables.{found_at}
use Rattle.sym_tables.proofs.table.ProgramSyms.find.Goals as goal

pub returns-then-eq-clause-pid : goal.returns-then-eq-clause-pid
returns-then-eq-clause-pid c =
    sym (found_pid c.self.inside.symbols.entries c.args.bytes.now c.loop-at.at c.unwrap.result.0.now c.unwrap.result.1.now c.loop-at.invariant
    (found_at c.self.inside.symbols.entries c.loop-at.at _ c.unwrap.result c.get_index.ensures.entry c.unwrap.ensures)
    (sym (ap (same_name c.args.bytes.now) c.bytes.ensures.value) ∙ sym c.eq.ensures ∙ c.if-eq.true))
    ∙ ap (λ syms. pid_of syms c.args.bytes.now) c.self.view_is

pub loop-at-preserved : goal.loop-at-preserved
loop-at-preserved c =
    other_more c.self.inside.symbols.entries c.args.bytes.now c.loop-at.at c.unwrap.result.0.now c.unwrap.result.1.now c.loop-at.invariant
    (found_at c.self.inside.symbols.entries c.loop-at.at _ c.unwrap.result c.get_index.ensures.entry c.unwrap.ensures)
    (sym (ap (same_name c.args.bytes.now) c.bytes.ensures.value) ∙ sym c.eq.ensures ∙ c.if-eq.false)

pub returns-clause-pid : goal.returns-clause-pid
returns-clause-pid c =
    sym (none_pid c.self.inside.symbols.entries c.args.bytes.now c.loop-at.at c.loop-at.invariant
    (subst (λ n. n ≤ c.loop-at.at) c.len-at-end.ensures.len c.loop-at-test.false))
    ∙ ap (λ syms. pid_of syms c.args.bytes.now) c.self.view_is

pub returns-clause-symbol : goal.returns-clause-symbol
returns-clause-symbol c =
    sym (none_symbol c.self.inside.symbols.entries c.args.bytes.now c.loop-at.at c.loop-at.invariant
    (subst (λ n. n ≤ c.loop-at.at) c.len-at-end.ensures.len c.loop-at-test.false))
    ∙ ap (λ syms. symbol_of syms c.args.bytes.now) c.self.view_is
