-- Tests of lists, and what they say.
use Rattle.std.proofs.Common.{◌≡◌, ◌<◌, ℕ, Bool, true, false, List, [], ◌∷◌, IsSome, map, refl, ap, sym, lt-ltb, ltb-true, ◌∙◌}
use Rattle.std.specs.Prelude.{◌&&◌, is_some, nat_lt, Option, Some, None}
use Rattle.std.specs.List.{AllByRecursion, list_all}
use Rattle.list_laws.proofs.Tests.{and_first, and_second}
use Rattle.il_core.specs.Limits.{max_pids}
use Rattle.clone_groups.specs.Grouping.{accepted, pair_by}
use Rattle.clone_groups.specs.declared.groups.Group.{Group}
use Rattle.group_moves.specs.Gathering.{IsBelow}
use Rattle.plan_laws.specs.Groups.{Member, Taken}
use Rattle.naim_loader.specs.Paged.{Paged, kept_at}
use Rattle.plan_pools.specs.Retargeting.{callers_of}
use Rattle.plan_pools.specs.declared.moves.CallerMoves.{CallerMoves}
use Rattle.compact_form.specs.declared.body.RoutineBody.{RoutineBody}
use Rattle.clone_steps.specs.Sending.{have_pools, is_below}

all_tested : {X : Type 0} (t : X → Bool) (P : X → Type 0) → ((x : X) → t x ≡ true → P x) → (xs : List X) → list_all t xs ≡ true → AllByRecursion P xs
all_tested t P h [] e = tt
all_tested t P h (x ∷ xs) e = (h x (and_first (t x) (list_all t xs) e), all_tested t P h xs (and_second (t x) (list_all t xs) e))

both : (a b : Bool) → a ≡ true → b ≡ true → (a && b) ≡ true
both true true e g = refl
both true false e g = g
both false b e g = e

pub not_both : (b : Bool) → b ≡ true → b ≡ false → ⊥
not_both true e g = let bad : true ≡ false = g in absurd cc
not_both false e g = let bad : false ≡ true = e in absurd cc

one_below : (n : ℕ) (g : Group) → is_below n g ≡ true → IsBelow n g
one_below n g e = record {
  callers = all_tested (λ (m : ℕ × ℕ). nat_lt m.0 n) (λ m. m.0 < n) (λ m t. ltb-true m.0 n t) g.members
      (and_first (list_all (λ (m : ℕ × ℕ). nat_lt m.0 n) g.members) (nat_lt g.clone max_pids) e);
  clone = ltb-true g.clone max_pids (and_second (list_all (λ (m : ℕ × ℕ). nat_lt m.0 n) g.members) (nat_lt g.clone max_pids) e);
}

pub all_below : (n : ℕ) (gs : List Group) → list_all (is_below n) gs ≡ true → AllByRecursion (IsBelow n) gs
all_below n gs e = all_tested (is_below n) (IsBelow n) (one_below n) gs e

members_below : (n : ℕ) (ms : List Member) → AllByRecursion (λ m. m.caller < n) ms → list_all (λ (m : ℕ × ℕ). nat_lt m.0 n) (map pair_by ms) ≡ true
members_below n [] h = refl
members_below n (m ∷ ms) h =
    both (nat_lt m.caller n) (list_all (λ (x : ℕ × ℕ). nat_lt x.0 n) (map pair_by ms)) (lt-ltb m.caller n h.0) (members_below n ms h.1)

pub groups_below : (n : ℕ) (ts : List Taken) → AllByRecursion (λ t. AllByRecursion (λ m. m.caller < n) t.group.members) ts
    → AllByRecursion (λ t. t.clone < max_pids) ts → list_all (is_below n) (map accepted ts) ≡ true
groups_below n [] h k = refl
groups_below n (t ∷ ts) h k =
    both (is_below n (accepted t)) (list_all (is_below n) (map accepted ts))
    (both (list_all (λ (m : ℕ × ℕ). nat_lt m.0 n) (map pair_by t.group.members)) (nat_lt t.clone max_pids) (members_below n t.group.members h.0)
    (lt-ltb t.clone max_pids k.0))
    (groups_below n ts h.1 k.1)

module _ {D : Type 0} (l : Paged RoutineBody (Unit {0}) D) where
  pub all_present : (ms : List CallerMoves) → have_pools l ms ≡ true → AllByRecursion (λ p. IsSome (kept_at l p)) (callers_of ms)
  all_present [] e = tt
  all_present (m ∷ ms) e = (
    and_first (is_some (kept_at l m.caller)) (have_pools l ms) e,
    all_present ms (and_second (is_some (kept_at l m.caller)) (have_pools l ms) e),
  )

  pub present_all : (ms : List CallerMoves) → AllByRecursion (λ p. IsSome (kept_at l p)) (callers_of ms) → have_pools l ms ≡ true
  present_all [] h = refl
  present_all (m ∷ ms) h = both (is_some (kept_at l m.caller)) (have_pools l ms) h.0 (present_all ms h.1)
