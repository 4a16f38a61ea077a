use Rattle.std.proofs.Common.{rules, ◌≡◌, List, [], ◌∷◌, ◌++◌, map, Result, sym, ap, ◌∙◌, subst}
use Rattle.std.proofs.lemmas.Result.{err_from_is_err_and}
use Rattle.c_types.specs.declared.fault.TypeFault.{TypeFault}
use Rattle.c_typed.specs.declared.statement.Label.TheVariants as label
use Rattle.c_typed.specs.declared.statement.Section.{Section}
use Rattle.c_typed.specs.declared.statement.TypedStmt.{TypedStmt}
use Rattle.c_types.specs.Follows.{Follows, Tells}
use Rattle.c_types.specs.Rules.{Gives}
use Rattle.c_types.specs.StatementRules as sr
use Rattle.c_types.proofs.StatementSteps.{statements_are, sections_are, both_give, second_tells, item_case, item_default, stmt_if, stmt_switch, stmt_while}
use Rattle.c_types.proofs.checker.Checker.+statements.Goals as goal

pub block_statements-returns : goal.block_statements-returns
block_statements-returns t c =
    let b = c.args.block.now in let a = c.args.around in let h = c.args.self.now in let h1 = c.declarations.new.self in
    let p = ap (λ l. sr.declarations l h) (sym c.as_slice.ensures) ∙ c.in_ok-out.ensures in
    let q = ap (λ l. sr.statements a (map sr.ruling l) h1) (sym c.as_slice-2.ensures) ∙ c.in_ok-rest.ensures in
    let k = c.from_vec.ensures ∙ c.in_ok-append.ensures.items in
    ap (λ f. f h) (statements_are b a) ∙ both_give (sr.declarations b.declarations) (sr.statements a (map sr.ruling b.statements)) (λ ds ss. ds ++ ss)
    c.in_ok-out.out.items c.in_ok-rest.rest.items h h1 c.statements.new.self p q ∙ ap (λ l. Gives l c.statements.new.self) (sym k)

pub block_statements-returns-in_err-rest : goal.block_statements-returns-in_err-rest
block_statements-returns-in_err-rest t c =
    let b = c.args.block.now in let a = c.args.around in let h = c.args.self.now in let h1 = c.declarations.new.self in let fault = c.in_err-rest.field-0.0 in
    let u = err_from_is_err_and c.from_residual-in_err-rest.result c.from_residual-in_err-rest.ensures.1 in
    let p = ap (λ l. sr.declarations l h) (sym c.as_slice.ensures) ∙ c.in_ok-out.ensures in
    let q = subst (λ l. Tells (sr.statements a (map sr.ruling l) h1) fault) c.as_slice-2.ensures c.in_err-rest.ensures in
    let m = second_tells (sr.declarations b.declarations) (sr.statements a (map sr.ruling b.statements)) (λ ds ss. ds ++ ss) c.in_ok-out.out.items h h1 fault p
    q in
    let k = subst (λ rule. Tells (rule h) fault) (sym (statements_are b a)) m in
    subst (λ (r : Result (List TypedStmt) TypeFault). Follows (λ ts. ts) ((sr.blocking b).statements a) h r c.statements.new.self) (sym u.1)
    (subst (λ x. Tells ((sr.blocking b).statements a h) x) (sym u.2) k)

pub block_sections-returns : goal.block_sections-returns
block_sections-returns t c =
    let b = c.args.block.now in let a = c.args.around in let ty = c.args.ty in let h = c.args.self.now in let h1 = c.declarations.new.self in
    let p = ap (λ l. sr.declarations l h) (sym c.as_slice.ensures) ∙ c.in_ok-declared.ensures in
    let q = ap (λ l. sr.sections a ty (map sr.ruling l) h1) (sym c.as_slice-2.ensures) ∙ c.in_ok-rest.ensures in
    let k = c.from_vec.ensures ∙ c.in_ok-append.ensures.items ∙ ap (λ l. l ++ c.in_ok-rest.rest.items) c.in_ok-out.ensures in
    ap (λ f. f h) (sections_are b a ty) ∙ both_give (sr.declarations b.declarations) (sr.sections a ty (map sr.ruling b.statements))
    (λ ds ss. map (λ s. sr.section (sr.unlabelled s)) ds ++ ss) c.in_ok-declared.declared.items c.in_ok-rest.rest.items h h1 c.sections.new.self p q ∙ ap
    (λ l. Gives l c.sections.new.self) (sym k)

pub block_sections-returns-in_err-rest : goal.block_sections-returns-in_err-rest
block_sections-returns-in_err-rest t c =
    let b = c.args.block.now in let a = c.args.around in let ty = c.args.ty in let h = c.args.self.now in let h1 = c.declarations.new.self in let fault =
    c.in_err-rest.field-0.0 in
    let u = err_from_is_err_and c.from_residual-in_err-rest.result c.from_residual-in_err-rest.ensures.1 in
    let p = ap (λ l. sr.declarations l h) (sym c.as_slice.ensures) ∙ c.in_ok-declared.ensures in
    let q = subst (λ l. Tells (sr.sections a ty (map sr.ruling l) h1) fault) c.as_slice-2.ensures c.in_err-rest.ensures in
    let m = second_tells (sr.declarations b.declarations) (sr.sections a ty (map sr.ruling b.statements))
    (λ ds ss. map (λ s. sr.section (sr.unlabelled s)) ds ++ ss) c.in_ok-declared.declared.items h h1 fault p q in
    let k = subst (λ rule. Tells (rule h) fault) (sym (sections_are b a ty)) m in
    subst (λ (r : Result (List Section) TypeFault). Follows (λ ts. ts) ((sr.blocking b).sections a ty) h r c.sections.new.self) (sym u.1)
    (subst (λ x. Tells ((sr.blocking b).sections a ty h) x) (sym u.2) k)

pub item-returns-in_ok-push-in-Case : goal.item-returns-in_ok-push-in-Case
item-returns-in_ok-push-in-Case t c =
    let k : c.push.new.self ≡ c.args.labels ++ label.Case c.convert-w.result ∷ [] = search rules in
    item_case c.args.labels c.push.new.self c.in-Case.line c.in-Case.value c.args.s.now c.in-Case.body c.get.result.now c.args.around c.args.ty
    c.in_ok-word-in-Case.word c.convert-w.result c.args.self.now c.constant_word.new.self c.new_case.new.self c.item.new.self c.item.result c.in-Case.is
    c.in_ok-word-in-Case.ensures c.convert-w.ensures c.in_ok-new_case-in-Case.ensures k c.get.ensures c.item.ensures

pub item-returns-in_ok-push-in-Default : goal.item-returns-in_ok-push-in-Default
item-returns-in_ok-push-in-Default t c =
    let k : c.push-in-Default.new.self ≡ c.args.labels ++ label.Default ∷ [] = search rules in
    item_default c.args.labels c.push-in-Default.new.self c.in-Default.line c.args.s.now c.in-Default.body c.get-in-Default.result.now c.args.around c.args.ty
    c.args.self.now c.new_default.new.self c.item-in-Default.new.self c.item-in-Default.result c.in-Default.is c.in_ok-new_default-in-Default.ensures k
    c.get-in-Default.ensures c.item-in-Default.ensures

pub statement-returns-in-If : goal.statement-returns-in-If
statement-returns-in-If t c = stmt_if c.args.s.now c.in-If.then c.get.result.now c.in-If.line c.in-If.condition c.args.around c.args.self.now c.if_then.new.self
    c.if_then.result c.in-If.is c.get.ensures c.if_then.ensures

pub statement-returns-in-Switch : goal.statement-returns-in-Switch
statement-returns-in-Switch t c = stmt_switch c.args.s.now c.in-Switch.body c.get-in-Switch.result.now c.in-Switch.line c.in-Switch.value c.args.around
    c.args.self.now c.switch.new.self c.switch.result c.in-Switch.is c.get-in-Switch.ensures c.switch.ensures

pub statement-returns-in-While : goal.statement-returns-in-While
statement-returns-in-While t c = stmt_while c.args.s.now c.in-While.body c.get-in-While.result.now c.in-While.line c.in-While.condition c.args.around
    c.args.self.now c.while_loop.new.self c.while_loop.result c.in-While.is c.get-in-While.ensures c.while_loop.ensures
