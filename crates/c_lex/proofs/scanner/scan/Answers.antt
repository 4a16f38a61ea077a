use Rattle.std.proofs.Common.{◌≡◌, sym, ◌∙◌, ap, subst, List, Err, Result, ℕ, Vec, Global}
use Rattle.std.specs.Result.{IfErr, MatchResult}
use Rattle.std.proofs.lemmas.Result.{err_from_is_err_and}
use Rattle.c_tree.specs.declared.token.Token.{Token}
use Rattle.c_lex.specs.declared.fault.LexFault.{LexFault}
use Rattle.c_lex.specs.declared.fault.LexFault.TheVariants.{Memory}
use Rattle.c_lex.specs.declared.phase.Context.TheVariants.{Fresh}
use Rattle.c_lex.specs.Text.{start, IsText, IsFaultOf}
use Rattle.c_lex.specs.Machine.{Tokens, before, read}
use Rattle.c_lex.specs.Reading.{left, Faults}
use Rattle.c_lex.proofs.Law.{tokens_right, one_list, fault_right, fault_only, before_faults, before_none}
use Rattle.c_lex.proofs.SpanLemmas.{spans}
use Rattle.c_lex.proofs.ReaderLemmas.{open_right, open_wrong, not_empty, nothing_left}
use Rattle.c_lex.proofs.scanner.scan.Goals as goal

-- a refusal
told : (bs : List ℕ) (x : Result (Vec Token Global) LexFault) (e : LexFault) → x ≡ Err e → Faults (read bs Fresh start) e → IfErr x (λ f. IsFaultOf bs f)
told bs x e q h = subst (λ z. IfErr z (λ f. IsFaultOf bs f)) (sym q) (fault_right bs e h)

told_only : (bs : List ℕ) (x : Result (Vec Token Global) LexFault) (e : LexFault) → x ≡ Err e → Faults (read bs Fresh start) e → (ts : List Token)
    → IsText ts bs → MatchResult x (λ v. v.items ≡ ts) (λ f. f ≡ Memory)
told_only bs x e q h ts t = subst (λ z. MatchResult z (λ v. v.items ≡ ts) (λ f. f ≡ Memory)) (sym q) (fault_only bs e h ts t)

pub returns-then-is_empty-clause-tokens : goal.returns-then-is_empty-clause-tokens
returns-then-is_empty-clause-tokens c = tokens_right c.args.b.now c.new-out.result.items
    (ap (λ z. read z Fresh start) (nothing_left c.args.b.now (sym c.is_empty.ensures ∙ c.if-is_empty.true)) ∙ ap Tokens (sym c.new-out.ensures.items))

pub returns-then-is_empty-clause-only : goal.returns-then-is_empty-clause-only
returns-then-is_empty-clause-only c ts t = one_list (tokens_right c.args.b.now c.new-out.result.items
    (ap (λ z. read z Fresh start) (nothing_left c.args.b.now (sym c.is_empty.ensures ∙ c.if-is_empty.true)) ∙ ap Tokens (sym c.new-out.ensures.items))) t

pub returns-in_err-r-clause-only : goal.returns-in_err-r-clause-only
returns-in_err-r-clause-only c =
    let p = err_from_is_err_and c.from_residual.result c.from_residual.ensures.1 in
    told_only c.args.b.now c.from_residual.result c.in_err-r.field-0.0 (p.1 ∙ ap Err p.2)
    (open_wrong c.args.b.now (not_empty c.args.b.now (sym c.is_empty.ensures ∙ c.if-is_empty.false)) c.in_err-r.field-0.0 (sym c.open.ensures ∙ c.in_err-r.was))

pub returns-in_err-r-clause-fault : goal.returns-in_err-r-clause-fault
returns-in_err-r-clause-fault c =
    let p = err_from_is_err_and c.from_residual.result c.from_residual.ensures.1 in
    told c.args.b.now c.from_residual.result c.in_err-r.field-0.0 (p.1 ∙ ap Err p.2)
    (open_wrong c.args.b.now (not_empty c.args.b.now (sym c.is_empty.ensures ∙ c.if-is_empty.false)) c.in_err-r.field-0.0 (sym c.open.ensures ∙ c.in_err-r.was))

pub loop-r-init : goal.loop-r-init
loop-r-init c =
    let k = open_right c.args.b.now (not_empty c.args.b.now (sym c.is_empty.ensures ∙ c.if-is_empty.false)) c.in_ok-r.r (sym c.open.ensures ∙ c.in_ok-r.was) in
    record {
      opened = k.0;
      said = ap (λ z. before z (left c.args.b.now c.in_ok-r.r)) c.new-out.ensures.items ∙ before_none (left c.args.b.now c.in_ok-r.r) ∙ k.1;
    }

pub returns-in_err-r-2-clause-only : goal.returns-in_err-r-2-clause-only
returns-in_err-r-2-clause-only c =
    let p = err_from_is_err_and c.from_residual-in_err-r-2.result c.from_residual-in_err-r-2.ensures.1 in
    told_only c.args.b.now c.from_residual-in_err-r-2.result c.in_err-r-2.field-0.0 (p.1 ∙ ap Err p.2)
    (before_faults c.loop-r.out.items (left c.args.b.now c.loop-r.r) (read c.args.b.now Fresh start) c.in_err-r-2.field-0.0 c.loop-r.invariant.said
    c.in_err-r-2.ensures)

pub returns-in_err-r-2-clause-fault : goal.returns-in_err-r-2-clause-fault
returns-in_err-r-2-clause-fault c =
    let p = err_from_is_err_and c.from_residual-in_err-r-2.result c.from_residual-in_err-r-2.ensures.1 in
    told c.args.b.now c.from_residual-in_err-r-2.result c.in_err-r-2.field-0.0 (p.1 ∙ ap Err p.2)
    (before_faults c.loop-r.out.items (left c.args.b.now c.loop-r.r) (read c.args.b.now Fresh start) c.in_err-r-2.field-0.0 c.loop-r.invariant.said
    c.in_err-r-2.ensures)

pub returns-in_err-finish-clause-only : goal.returns-in_err-finish-clause-only
returns-in_err-finish-clause-only c =
    let p = err_from_is_err_and c.from_residual-in_err-finish.result c.from_residual-in_err-finish.ensures.1 in
    told_only c.args.b.now c.from_residual-in_err-finish.result c.in_err-finish.field-0.0 (p.1 ∙ ap Err p.2)
    (before_faults c.loop-r.out.items (left c.args.b.now c.loop-r.r) (read c.args.b.now Fresh start) c.in_err-finish.field-0.0 c.loop-r.invariant.said
    c.in_err-finish.ensures)

pub returns-in_err-finish-clause-fault : goal.returns-in_err-finish-clause-fault
returns-in_err-finish-clause-fault c =
    let p = err_from_is_err_and c.from_residual-in_err-finish.result c.from_residual-in_err-finish.ensures.1 in
    told c.args.b.now c.from_residual-in_err-finish.result c.in_err-finish.field-0.0 (p.1 ∙ ap Err p.2)
    (before_faults c.loop-r.out.items (left c.args.b.now c.loop-r.r) (read c.args.b.now Fresh start) c.in_err-finish.field-0.0 c.loop-r.invariant.said
    c.in_err-finish.ensures)

pub returns-clause-tokens : goal.returns-clause-tokens
returns-clause-tokens c = tokens_right c.args.b.now c.finish.new.out.items (sym c.loop-r.invariant.said ∙ c.in_ok-finish.ensures)

pub returns-clause-only : goal.returns-clause-only
returns-clause-only c ts t = one_list (tokens_right c.args.b.now c.finish.new.out.items (sym c.loop-r.invariant.said ∙ c.in_ok-finish.ensures)) t

pub returns-then-is_empty-clause-spans : goal.returns-then-is_empty-clause-spans
returns-then-is_empty-clause-spans c = spans c.args.b.now c.new-out.result.items
    (tokens_right c.args.b.now c.new-out.result.items (ap (λ z. read z Fresh start) (nothing_left c.args.b.now (sym c.is_empty.ensures ∙ c.if-is_empty.true)) ∙
    ap Tokens (sym c.new-out.ensures.items)))

pub returns-clause-spans : goal.returns-clause-spans
returns-clause-spans c = spans c.args.b.now c.finish.new.out.items
    (tokens_right c.args.b.now c.finish.new.out.items (sym c.loop-r.invariant.said ∙ c.in_ok-finish.ensures))
