use Rattle.std.proofs.Common.{sym, ap, ◌∙◌}
use Rattle.std.proofs.lemmas.Result.{IfErr-weaker, IfOk-weaker}
use Rattle.indexmap.proofs.MapLemmas.{Missing-position}
use Rattle.sym_tables.specs.Table.{pid_of, same_name}
use Rattle.sym_tables.proofs.Entries.{entered_there, told_there, entered_new, told_new}
use Rattle.sym_tables.proofs.table.ProgramSyms.enter.Goals as goal

pub returns-in-Some-clause-ok : goal.returns-in-Some-clause-ok
returns-in-Some-clause-ok c =
    let p = sym (c.in-Some.ensures.index ∙ ap (λ l. pid_of l c.args.name.now) c.self.view_is) in
    IfOk-weaker c.meet.result _ _ (λ pid h. entered_there c.args.standing c.args.name.now c.args.said c.args.init c.args.self.now c.in-Some.at p pid
    c.meet.new.self h) c.meet.ensures.ok

pub returns-in-Some-clause-err : goal.returns-in-Some-clause-err
returns-in-Some-clause-err c =
    let p = sym (c.in-Some.ensures.index ∙ ap (λ l. pid_of l c.args.name.now) c.self.view_is) in
    IfErr-weaker c.meet.result _ _ (λ fault h. told_there c.args.standing c.args.name.now c.args.said c.args.init c.args.self.now c.in-Some.at p fault
    c.meet.new.self h) c.meet.ensures.err

pub returns-in-None-clause-ok : goal.returns-in-None-clause-ok
returns-in-None-clause-ok c =
    let p = sym (c.in-None.ensures.index ∙ ap (λ l. pid_of l c.args.name.now) c.self.view_is) in
    IfOk-weaker c.add.result _ _ (λ pid h. entered_new c.args.standing c.args.name.now c.args.said c.args.init c.args.self.now
    (Missing-position (same_name c.args.name.now) c.args.self.now p).value pid c.add.new.self h) c.add.ensures.ok

pub returns-in-None-clause-err : goal.returns-in-None-clause-err
returns-in-None-clause-err c =
    let p = sym (c.in-None.ensures.index ∙ ap (λ l. pid_of l c.args.name.now) c.self.view_is) in
    IfErr-weaker c.add.result _ _ (λ fault h. told_new c.args.standing c.args.name.now c.args.said c.args.init c.args.self.now
    (Missing-position (same_name c.args.name.now) c.args.self.now p).value fault c.add.new.self h) c.add.ensures.err
