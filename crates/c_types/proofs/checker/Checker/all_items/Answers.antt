use Rattle.std.proofs.Common.{◌+◌, sym, ap, ◌∙◌, drop}
use Rattle.c_types.specs.Typing.{all_items}
use Rattle.c_types.proofs.ItemSteps.{kept, include_step, declaration_step, function_step}
use Rattle.c_types.proofs.Orders.{before}
use Rattle.c_types.proofs.checker.Checker.all_items.Goals.{in-Include+in_ok-include-in-Include, in-Declaration+in_ok-file_declaration-in-Declaration}
use Rattle.c_types.proofs.checker.Checker.all_items.Goals.{in-Function+in_ok-t-in-Function+in_ok-push-in-Function}
use Rattle.c_types.proofs.checker.Checker.all_items.Goals as goal

pub loop-item-preserved : goal.loop-item-preserved
loop-item-preserved c =
    let n = c.args.number in let xs = c.args.items.now in let i = c.loop-item.item-index in let rest = drop (i + 1) xs in
    let x = c.item-item.result in let old = c.loop-item.functions.items in let h = c.loop-item.self in
    let k = kept n xs i x old c.match-item.functions.items h c.match-item.self _ c.loop-item-test.true c.item-item.is in
    elim c.match-item.branch [
      | in-Include+in_ok-include-in-Include w ↦ k (include_step n old x rest w.in-Include.line w.in-Include.header h c.match-item.self w.in-Include.is
          (w.self-is ∙ w.in_ok-include-in-Include.ensures) ∙ ap (λ v. before v.items (all_items n rest c.match-item.self)) (sym w.functions-is))
          c.loop-item.invariant
      | in-Declaration+in_ok-file_declaration-in-Declaration w ↦ k (declaration_step n old x rest w.in-Declaration.d h w.file_declaration.new.self
          w.in-Declaration.is w.in_ok-file_declaration-in-Declaration.ensures ∙ ap (λ s. before old (all_items n rest s)) (sym w.self-is) ∙ ap
          (λ v. before v.items (all_items n rest c.match-item.self)) (sym w.functions-is)) c.loop-item.invariant
      | in-Function+in_ok-t-in-Function+in_ok-push-in-Function w ↦ k
          (function_step n old x rest w.in-Function.f w.in_ok-t-in-Function.t h w.function.new.self w.in-Function.is w.in_ok-t-in-Function.ensures ∙ ap
          (λ l. before l (all_items n rest w.function.new.self)) (sym w.in_ok-push-in-Function.ensures.items) ∙ ap
          (λ s. before w.push.new.self.items (all_items n rest s)) (sym w.self-is) ∙ ap (λ v. before v.items (all_items n rest c.match-item.self))
          (sym w.functions-is)) c.loop-item.invariant
    ]
