use Rattle.std.proofs.Common.{◌≡◌, ◌∙◌, ap, List, ℕ, arith, length, map}
use Rattle.std.proofs.lemmas.List.{length-map}
use Rattle.inline_budget.specs.Buckets.{put_in}
use Rattle.inline_budget.proofs.Filed.{put_view}
use Rattle.inline_budget.proofs.buckets.Buckets.put.Goals as goal

pub returns : goal.returns
returns c =
    let view : length (map (λ v. v.items) c.self.inside.lists.items) ≡ length c.args.self.now = ap (λ (ls : List (List ℕ)). length ls) c.self.view_is in
    let long = length-map c.self.inside.lists.items (λ v. v.items) in
    let lt = c.requires in
    put_view (λ v. v.items) c.self.inside.lists.items c.args.at c.args.number c.index_mut.result.now c.push.new.self (omega arith)
    c.index_mut.ensures.value c.in_ok-push.ensures.items
    ∙ ap (λ (ls : List (List ℕ)). put_in ls c.args.at c.args.number) c.self.view_is
