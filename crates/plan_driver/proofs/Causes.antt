-- Why a step stopped, seen from before the steps in front of it.
use Rattle.std.proofs.Common.{ℕ, Bool, List}
use Rattle.compact_form.specs.declared.body.RoutineBody.{RoutineBody}
use Rattle.clone_pools.specs.States.{GrowsOn}
use Rattle.clone_steps.proofs.Composing.{cause_since, cause_so}
use Rattle.naim_core.specs.declared.event.Failure.{Failure}
use Rattle.naim_loader.specs.Paged.{Paged}
use Rattle.plan_pools.specs.Stopping.{InlineCause}

abbrev Pools : Type 0 → Type 0
Pools D = Paged RoutineBody (Unit {0}) D

module _ {D : Type 0} (reach : D → ℕ) (honest : D → Bool) (faults : D → ℕ) where
  -- of other premises, and of an earlier moment
  pub cause_before : (unfit unfit' : ℕ → Type 0) (needs needs' : ℕ → ℕ → Type 0) → ((q : ℕ) → unfit q → unfit' q)
      → ((q n : ℕ) → needs q n → needs' q n) → (xs : List (List (ℕ × RoutineBody))) (a b : Pools D) (n m : ℕ) → GrowsOn faults xs a n b m
      → (now : ℕ) (e : Failure) → InlineCause reach honest faults unfit needs b (faults b.disk) now e
      → InlineCause reach honest faults unfit' needs' a (faults a.disk) now e
  cause_before unfit unfit' needs needs' so more xs a b n m g now e c =
      cause_so reach honest faults unfit unfit' needs needs' so more a (faults a.disk) now e
      (cause_since reach honest faults unfit needs xs a b n m g now e c)
