-- The cost of routines, in whatever order they stand.
use Rattle.std.proofs.Common.{◌≡◌, ◌≤◌, ℕ, ◌+◌, Bool, true, false, nat_eq, List, [], ◌∷◌, Option, Some, None, refl, sym, ap, subst, arith, ◌∙◌, sum_by}
use Rattle.std.specs.Prelude.{if◌then◌else◌}
use Rattle.std.proofs.lemmas.List.Sums.{sum_by-cons}
use Rattle.std.proofs.lemmas.Option.{same_Some}
use Rattle.std.proofs.Math.Nat.{le_refl}
use Rattle.list_laws.proofs.Entries.{number_itself, other_number, same_number, apart_number}
use Rattle.il_core.proofs.Found.{found_there}
use Rattle.il_core.specs.Program.{routine_at}
use Rattle.il_core.specs.Routine.{RoutineParts}
use Rattle.il_core.specs.Shapes.{IsRising, IsRisingFrom}
use Rattle.hlo_cmd.specs.Pools.{HaveOwnPids}

-- routines by rising PID have their own

none_below : (m n : ℕ) (rs : List RoutineParts) → m ≤ n → IsRisingFrom (λ r. r.pid) n rs → routine_at rs m ≡ None
none_below m n [] le h = refl
none_below m n (r ∷ rs) le h =
    let above = h.0 in found_there (λ x. x.pid) m r rs (λ e. omega (arith, le, above, e)) ∙ none_below m r.pid rs (omega (arith, le, above)) h.1

own_from : (n : ℕ) (rs : List RoutineParts) → IsRisingFrom (λ r. r.pid) n rs → HaveOwnPids rs
own_from n [] h = tt
own_from n (r ∷ rs) h = (none_below r.pid r.pid rs (le_refl _) h.1, own_from r.pid rs h.1)

pub own_rising : (rs : List RoutineParts) → IsRising (λ r. r.pid) rs → HaveOwnPids rs
own_rising [] h = tt
own_rising (r ∷ rs) h = (none_below r.pid r.pid rs (le_refl _) h, own_from r.pid rs h)

-- ---- one routine less

-- the routines without the one that has this PID
abbrev without : ℕ → List RoutineParts → List RoutineParts
without n [] = []
without n (r ∷ rs) = if nat_eq r.pid n then rs else r ∷ without n rs

none_if : {X : Type 0} (b : Bool) (o : Option X) → o ≡ None → None ≡ (if b then None else o)
none_if true o e = refl
none_if false o e = sym e

sum_without : (f : RoutineParts → ℕ) (n : ℕ) (rs : List RoutineParts) (p : RoutineParts) → routine_at rs n ≡ Some p
    → sum_by f rs ≡ f p + sum_by f (without n rs)
sum_without f n [] p e = let bad : None ≡ Some p = e in absurd cc
sum_without f n (r ∷ rs) p e = by (sum_without f n rs p) (nat_eq r.pid n) e
  where
    by : (routine_at rs n ≡ Some p → sum_by f rs ≡ f p + sum_by f (without n rs)) → (b : Bool) → (if b then Some r else routine_at rs n) ≡ Some p
        → sum_by f (r ∷ rs) ≡ f p + sum_by f (if b then rs else r ∷ without n rs)
    by more true e = sum_by-cons f r rs ∙ ap (λ x. f x + sum_by f rs) (same_Some r p e)
    by more false e = let a = sum_by-cons f r rs in let b = sum_by-cons f r (without n rs) in let k = more e in omega (arith, a, b, k)

at_without : (n q : ℕ) (rs : List RoutineParts) → HaveOwnPids rs → routine_at (without n rs) q ≡ (if nat_eq n q then None else routine_at rs q)
at_without n q [] own = none_if (nat_eq n q) (routine_at [] q) refl
at_without n q (r ∷ rs) own = by (at_without n q rs own.1) (nat_eq r.pid n) refl
  where
    same : r.pid ≡ n → (b : Bool) → nat_eq n q ≡ b → routine_at rs q ≡ (if b then None else (if nat_eq r.pid q then Some r else routine_at rs q))
    same is true e = subst (λ m. routine_at rs m ≡ None) (is ∙ same_number n q e) own.0
    same is false e = rw (ap (λ m. nat_eq m q) is ∙ e) refl

    other : routine_at (without n rs) q ≡ (if nat_eq n q then None else routine_at rs q) → nat_eq r.pid n ≡ false → (b : Bool) → nat_eq r.pid q ≡ b
        → (if b then Some r else routine_at (without n rs) q) ≡ (if nat_eq n q then None else (if b then Some r else routine_at rs q))
    other more apart true e = rw (other_number n q (λ is. apart_number r.pid n apart (same_number r.pid q e ∙ sym is))) refl
    other more apart false e = more

    by : routine_at (without n rs) q ≡ (if nat_eq n q then None else routine_at rs q) → (b : Bool) → nat_eq r.pid n ≡ b
        → routine_at (if b then rs else r ∷ without n rs) q ≡ (if nat_eq n q then None else (if nat_eq r.pid q then Some r else routine_at rs q))
    by more true e = same (same_number r.pid n e) (nat_eq n q) refl
    by more false e = other more e (nat_eq r.pid q) refl

own_without : (n : ℕ) (rs : List RoutineParts) → HaveOwnPids rs → HaveOwnPids (without n rs)
own_without n [] own = tt
own_without n (r ∷ rs) own = by (own_without n rs own.1) (nat_eq r.pid n)
  where
    by : HaveOwnPids (without n rs) → (b : Bool) → HaveOwnPids (if b then rs else r ∷ without n rs)
    by more true = own.1
    by more false = (at_without n r.pid rs own.1 ∙ sym (none_if (nat_eq n r.pid) (routine_at rs r.pid) own.0), more)

-- ---- the same routines

pub same_sum : (f : RoutineParts → ℕ) (ps rs : List RoutineParts) → HaveOwnPids ps → HaveOwnPids rs → ((q : ℕ) → routine_at ps q ≡ routine_at rs q)
    → sum_by f ps ≡ sum_by f rs
same_sum f [] [] a b h = refl
same_sum f [] (r ∷ rs) a b h = let bad : None ≡ Some r = h r.pid ∙ rw (number_itself r.pid) refl in absurd cc
same_sum f (p ∷ ps) rs a b h =
    let here : routine_at rs p.pid ≡ Some p = sym (h p.pid) ∙ rw (number_itself p.pid) refl in
    sum_by-cons f p ps ∙ ap (λ n. f p + n) (same_sum f ps (without p.pid rs) a.1 (own_without p.pid rs b) (λ q. rest q (nat_eq p.pid q) refl (h q)))
    ∙ sym (sum_without f p.pid rs p here)
  where
    rest : (q : ℕ) (b : Bool) → nat_eq p.pid q ≡ b → (if nat_eq p.pid q then Some p else routine_at ps q) ≡ routine_at rs q
        → routine_at ps q ≡ routine_at (without p.pid rs) q
    rest q true e k = subst (λ m. routine_at ps m ≡ None) (same_number p.pid q e) a.0 ∙ sym (at_without p.pid q rs b ∙ rw e refl)
    rest q false e k = sym (rw e refl) ∙ k ∙ sym (at_without p.pid q rs b ∙ rw e refl)
