use Rattle.std.proofs.Common.{◌≡◌, ◌∙◌, ℕ, List, [], arith, ap, sym, length, replicate}
use Rattle.std.proofs.lemmas.List.{length-replicate}
use Rattle.plan_laws.specs.Orders.{greatest}
use Rattle.inline_budget.specs.Calls.{calls_of}
use Rattle.inline_budget.specs.Levelling.{levelled}
use Rattle.inline_budget.proofs.Filed.{none}
use Rattle.inline_budget.proofs.Waved.{numbers_most, waves_made}
use Rattle.inline_budget.proofs.wave.waves.Goals as goal

pub put_levels-requires-clause-levels : goal.put_levels-requires-clause-levels
put_levels-requires-clause-levels c =
    let high : c.highest.result ≡ greatest (λ l. l) c.as_slice-2.result.now
    = c.highest.ensures ∙ ap (λ (ls : List ℕ). greatest (λ l. l) ls) (c.as_slice.ensures.value ∙ sym c.as_slice-2.ensures.value) in
    let long : length c.in_ok-waves.waves ≡ c.highest.result
    = ap (λ (ls : List (List ℕ)). length ls) c.in_ok-waves.ensures ∙ length-replicate c.highest.result none in
    numbers_most (length c.in_ok-waves.waves) c.as_slice-2.result.now (omega arith)

pub returns : goal.returns
returns c =
    let high : c.highest.result ≡ greatest (λ l. l) c.as_slice-2.result.now
    = c.highest.ensures ∙ ap (λ (ls : List ℕ). greatest (λ l. l) ls) (c.as_slice.ensures.value ∙ sym c.as_slice-2.ensures.value) in
    c.into_lists.ensures ∙ c.in_ok-put_levels.ensures
    ∙ ap (λ (ws : List (List ℕ)). levelled ws 0 c.as_slice-2.result.now) c.in_ok-waves.ensures
    ∙ ap (λ (k : ℕ). levelled (replicate k []) 0 c.as_slice-2.result.now) high
    ∙ ap (λ (ls : List ℕ). levelled (replicate (greatest (λ l. l) ls) []) 0 ls) c.as_slice-2.ensures.value
    ∙ waves_made (calls_of c.args.calls.now) c.requires c.in_ok-levels.levels.items c.in_ok-levels.ensures.size c.in_ok-levels.ensures.levels
