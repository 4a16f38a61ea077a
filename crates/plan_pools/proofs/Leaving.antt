-- Pools that go one after another, and the program that is left.
use Rattle.std.proofs.Common.{◌≡◌, ◌<◌, ◌+◌, ℕ, Bool, true, false, cond, not, nat_eq, List, [], ◌∷◌, ◌++◌, length, take, map, get_or, Option, Some}
use Rattle.std.proofs.Common.{None, IsSome, refl, sym, ap, subst, arith, length-append, ◌∙◌}
use Rattle.std.specs.Prelude.{filter, option_map, ◌||◌, if◌then◌else◌}
use Rattle.std.specs.List.{AllByRecursion, IsDistinct}
use Rattle.std.proofs.lemmas.List.{take_more}
use Rattle.list_laws.proofs.Entries.{same_number}
use Rattle.il_core.specs.declared.program.IlProgram.{IlProgram}
use Rattle.il_core.specs.Program.{routine_at}
use Rattle.il_core.specs.Routine.{RoutineParts}
use Rattle.il_core.proofs.Found.{all_at}
use Rattle.il_laws.specs.Reach.{is_in, is_live, pruned}
use Rattle.compact_form.specs.declared.body.RoutineBody.{RoutineBody}
use Rattle.naim_loader.specs.Paged.{Paged, kept_at}
use Rattle.one_owner.specs.Alone.{IsResting}
use Rattle.one_owner.specs.Answers.{TakesAway}
use Rattle.one_owner.proofs.Frames.{stays_itself, stays_on}
use Rattle.plan_pools.specs.Contents.{IsContents}
use Rattle.plan_pools.specs.Passes.{Drops}
use Rattle.plan_pools.proofs.Walking.{in_push, not_before}

module _ {T B D : Type 0} (faults : D → ℕ) where
  pub drops_itself : (l : Paged T B D) → IsResting l → Drops faults [] l l
  drops_itself l w = record { rests = w; stays = stays_itself faults l; kept = λ q. refl; used = omega arith; insertions = refl }

  -- the next of several
  module _ (old mid : Paged T B D) (ps : List ℕ) (k p : ℕ) (differ : IsDistinct nat_eq ps) (less : k < length ps) (is : p ≡ get_or ps k 0)
      (before : Drops faults (take k ps) old mid) where
    next : take (k + 1) ps ≡ take k ps ++ p ∷ []
    next = take_more ps k 0 less ∙ ap (λ y. take k ps ++ y ∷ []) (sym is)

    pub drops_next : (new : Paged T B D) → TakesAway faults mid new p → Drops faults (take (k + 1) ps) old new
    drops_next new t = subst (λ l. Drops faults l old new) (sym next) (record {
      rests = t.rests;
      stays = stays_on faults old mid new before.stays t.stays;
      kept = λ q. t.kept q ∙ by q (nat_eq p q) (before.kept q) ∙ sym (ap (λ b. if b then None else kept_at old q) (in_push (take k ps) p q));
      used = (let a = t.used in let b = before.used in let c = length-append (take k ps) (p ∷ []) in omega arith);
      insertions = t.insertions ∙ before.insertions;
    })
      where
        by : (q : ℕ) (v : Bool) → kept_at mid q ≡ (if is_in (take k ps) q then None else kept_at old q)
            → cond v None (kept_at mid q) ≡ (if is_in (take k ps) q || v then None else kept_at old q)
        by q true h = any (is_in (take k ps) q)
          where
            any : (b : Bool) → None ≡ (if b || true then None else kept_at old q)
            any true = refl
            any false = refl
        by q false h = h ∙ any (is_in (take k ps) q)
          where
            any : (b : Bool) → (if b then None else kept_at old q) ≡ (if b || false then None else kept_at old q)
            any true = refl
            any false = refl

    pub there_next : AllByRecursion (λ q. IsSome (kept_at old q)) ps → IsSome (kept_at mid p)
    there_next h =
        let there : IsSome (kept_at old p) = subst (λ q. IsSome (kept_at old q)) (sym is) (all_at (λ q. IsSome (kept_at old q)) ps k 0 h less) in
        let fresh : is_in (take k ps) p ≡ false = ap (is_in (take k ps)) is ∙ not_before ps k 0 differ less in
        subst IsSome (sym (before.kept p ∙ ap (λ b. if b then None else kept_at old p) fresh)) there

-- routines that are kept by their PIDs are found where they were
found_kept : (keep : ℕ → Bool) (rs : List RoutineParts) (q : ℕ)
    → routine_at (filter (λ r. keep r.pid) rs) q ≡ (if keep q then routine_at rs q else None)
found_kept keep [] q = by (keep q) None
  where
    by : (b : Bool) (o : Option RoutineParts) → o ≡ (if b then o else o)
    by true o = refl
    by false o = refl
found_kept keep (r ∷ rs) q = by (nat_eq r.pid q) refl (keep r.pid) refl (found_kept keep rs q)
  where
    rest : List RoutineParts
    rest = filter (λ r. keep r.pid) rs

    by : (a : Bool) → nat_eq r.pid q ≡ a → (b : Bool) → keep r.pid ≡ b → routine_at rest q ≡ (if keep q then routine_at rs q else None)
        → routine_at (if b then r ∷ rest else rest) q ≡ (if keep q then (if a then Some r else routine_at rs q) else None)
    by true e true k more =
        ap (λ v. if v then Some r else routine_at rest q) e
        ∙ sym (ap (λ v. if v then Some r else None) (ap keep (sym (same_number r.pid q e)) ∙ k))
    by true e false k more =
        let none : keep q ≡ false = ap keep (sym (same_number r.pid q e)) ∙ k in
        more ∙ ap (λ v. if v then routine_at rs q else None) none ∙ sym (ap (λ v. if v then Some r else None) none)
    by false e true k more = ap (λ v. if v then Some r else routine_at rest q) e ∙ more
    by false e false k more = more

-- the PIDs of the routines that aren't kept
abbrev gone : (ℕ → Bool) → List RoutineParts → List ℕ
gone keep rs = map (λ r. r.pid) (filter (λ r. not (keep r.pid)) rs)

not_gone : (keep : ℕ → Bool) (rs : List RoutineParts) (q : ℕ) → keep q ≡ true → is_in (gone keep rs) q ≡ false
not_gone keep [] q k = refl
not_gone keep (r ∷ rs) q k = by (keep r.pid) refl (nat_eq r.pid q) refl (not_gone keep rs q k)
  where
    by : (b : Bool) → keep r.pid ≡ b → (a : Bool) → nat_eq r.pid q ≡ a → is_in (gone keep rs) q ≡ false
        → is_in (map (λ r. r.pid) (if not b then r ∷ filter (λ r. not (keep r.pid)) rs else filter (λ r. not (keep r.pid)) rs)) q ≡ false
    by true e a h more = more
    by false e true h more = (let t : true ≡ false = sym k ∙ ap keep (sym (same_number r.pid q h)) ∙ e in absurd cc)
    by false e false h more = ap (λ v. v || is_in (gone keep rs) q) h ∙ more

none_gone : (keep : ℕ → Bool) (rs : List RoutineParts) (q : ℕ) → keep q ≡ false → is_in (gone keep rs) q ≡ false → routine_at rs q ≡ None
none_gone keep [] q k s = refl
none_gone keep (r ∷ rs) q k s = by (keep r.pid) refl (nat_eq r.pid q) refl s (none_gone keep rs q k)
  where
    by : (b : Bool) → keep r.pid ≡ b → (a : Bool) → nat_eq r.pid q ≡ a
        → is_in (map (λ r. r.pid) (if not b then r ∷ filter (λ r. not (keep r.pid)) rs else filter (λ r. not (keep r.pid)) rs)) q ≡ false
        → (is_in (gone keep rs) q ≡ false → routine_at rs q ≡ None) → (if a then Some r else routine_at rs q) ≡ None
    by true e true h s more = (let t : false ≡ true = sym k ∙ ap keep (sym (same_number r.pid q h)) ∙ e in absurd cc)
    by false e true h s more = (let t : true ≡ false = sym (ap (λ v. v || is_in (gone keep rs) q) h) ∙ s in absurd cc)
    by true e false h s more = more s
    by false e false h s more = more (sym (ap (λ v. v || is_in (gone keep rs) q) h) ∙ s)

-- without those what is found is what is kept
found_left : (keep : ℕ → Bool) (rs : List RoutineParts) (q : ℕ) (b : Bool) → keep q ≡ b
    → (if is_in (gone keep rs) q then None else routine_at rs q) ≡ (if b then routine_at rs q else None)
found_left keep rs q true k = ap (λ v. if v then None else routine_at rs q) (not_gone keep rs q k)
found_left keep rs q false k = by (is_in (gone keep rs) q) (none_gone keep rs q k)
  where
    by : (v : Bool) → (v ≡ false → routine_at rs q ≡ None) → (if v then None else routine_at rs q) ≡ None
    by true h = refl
    by false h = h refl

-- Where the pools hold a program, they hold the pruned one once its dead routines are gone.
pub held_pruned : {D : Type 0} (faults : D → ℕ) (old new : Paged RoutineBody (Unit {0}) D) (p : IlProgram) (ps : List ℕ) → IsContents old p
    → ps ≡ map (λ r. r.pid) (filter (λ r. not (is_live p r.pid)) p.routines) → Drops faults ps old new → IsContents new (pruned p)
held_pruned faults old new p ps held same d = record {
  by = λ q.
      ap (λ o. option_map (λ b. b.routine) (option_map (λ k. k.value) o)) (d.kept q ∙ ap (λ l. if is_in l q then None else kept_at old q) same)
      ∙ at q (is_in (gone (is_live p) p.routines) q) ∙ found_left (is_live p) p.routines q (is_live p q) refl ∙ sym (found_kept (is_live p) p.routines q);
}
  where
    at : (q : ℕ) (v : Bool) → option_map (λ b. b.routine) (option_map (λ k. k.value) (if v then None else kept_at old q)) ≡
        (if v then None else routine_at p.routines q)
    at q true = refl
    at q false = held.by q
