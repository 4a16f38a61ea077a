use Rattle.std.proofs.Common.{◌≡◌, ℕ, ◌+◌, ◌-◌, ◌<◌, ◌≤◌, get_or, sym, ap, ◌∙◌, arith, ◌⊎◌, inl, inr}
use Rattle.std.proofs.lemmas.Bool.{cases_lt}
use Rattle.naim_core.proofs.Repeat.{repeat_found, no_repeat_sorted, any_default}
use Rattle.naim_core.proofs.scratch.has_equal_neighbours.Goals as goal

pub loop-i-init : goal.loop-i-init
loop-i-init c = λ k h. absurd (omega arith)

pub returns-then-sorted-i : goal.returns-then-sorted-i
returns-then-sorted-i c =
    let i = c.loop-i.i in let low = c.loop-i.auto.i in let e : (i - 1) + 1 ≡ i = omega arith in let within = c.loop-i-test.true in
    let same : get_or c.args.sorted.now (i - 1) 0 ≡ get_or c.args.sorted.now ((i - 1) + 1) 0 = c.if-sorted-i.true ∙ ap (λ n. get_or c.args.sorted.now n 0)
    (sym e) in
    sym (repeat_found c.args.sorted.now (i - 1) 0 (omega arith) same)

pub loop-i-preserved : goal.loop-i-preserved
loop-i-preserved c = λ k h. let low = c.loop-i.auto.i in elim (last_or_before k c.loop-i.i h low) [
  | inl below ↦ c.loop-i.invariant k below
  | inr at ↦ λ same. c.if-sorted-i.false (ap (λ n. get_or c.args.sorted.now n 0) (sym at.0) ∙ same ∙ ap (λ n. get_or c.args.sorted.now n 0) at.1)
]
  where
    last_or_before : (k i : ℕ) → k + 1 < i + 1 → 1 ≤ i → (k + 1 < i) ⊎ ((k ≡ i - 1) × (k + 1 ≡ i))
    last_or_before k i h low = elim (cases_lt (k + 1) i) [ inl a ↦ inl a | inr b ↦ inr (omega arith, omega arith) ]

pub returns : goal.returns
returns c = let over = c.loop-i-test.false in sym (no_repeat_sorted c.args.sorted.now c.requires (λ k d h same.
    c.loop-i.invariant k (omega arith) (any_default c.args.sorted.now k 0 d (omega arith) ∙ same ∙ sym (any_default c.args.sorted.now (k + 1) 0 d h))))
