-- What `main` reaches stands, so that the rows of dead clones are those whose clones don't stand any more.
use mathlib.Core.Path.{fun_ext}
use Rattle.std.proofs.Common.{◌≡◌, ℕ, Bool, true, false, nat_eq, List, [], ◌∷◌, map, Some, refl, sym, ap, subst, ◌∙◌}
use Rattle.std.specs.Prelude.{filter, ◌&&◌, ◌||◌, if◌then◌else◌}
use Rattle.std.specs.List.{AllByRecursion}
use Rattle.list_laws.proofs.Entries.{same_number}
use Rattle.list_laws.proofs.Rising.{Above, Rises}
use Rattle.il_core.specs.Program.{main_pid, routine_at}
use Rattle.il_core.specs.Routine.{RoutineParts}
use Rattle.il_core.specs.Shapes.{IsRising, IsRisingFrom}
use Rattle.il_core.specs.Valid.{IsProgram, IsValid}
use Rattle.il_core.specs.declared.program.IlProgram.{IlProgram}
use Rattle.il_core.specs.declared.shape.ShapeRow.{ShapeRow}
use Rattle.il_laws.specs.Keeping.{Stands}
use Rattle.il_laws.specs.Known.{KnownSite, known_sites}
use Rattle.il_laws.specs.Reach.{Caller, caller_of, is_in, is_live, pruned}
use Rattle.il_laws.specs.Table.{Row}
use Rattle.il_laws.proofs.KeptPrograms.{pruned_follows}
use Rattle.il_laws.proofs.Main.{main_stands}
use Rattle.il_laws.proofs.Programs.{valid_calls}
use Rattle.il_laws.proofs.Retargeted.{all_stand}
use Rattle.call_graph.proofs.Reaching.{reached_in}
use Rattle.plan_laws.proofs.Sites.{known_callees}
use Rattle.plan_pools.specs.Contents.{routine_pids}
use Rattle.plan_pools.proofs.Programs.{pids_rise, program_pids}
use Rattle.plan_pools.proofs.Sorting.{live_in}

abbrev pids : List RoutineParts → List ℕ
pids rs = map (λ r. r.pid) rs

stands_in : (rs : List RoutineParts) (q : ℕ) (r : RoutineParts) → routine_at rs q ≡ Some r → is_in (pids rs) q ≡ true
stands_in [] q r e = cc
stands_in (x ∷ xs) q r e = by (nat_eq x.pid q) e (stands_in xs q r)
  where
    by : (b : Bool) → (if b then Some x else routine_at xs q) ≡ Some r → (routine_at xs q ≡ Some r → is_in (pids xs) q ≡ true)
        → (b || is_in (pids xs) q) ≡ true
    by true h more = refl
    by false h more = more h

sites_in : (p : IlProgram) (xs : List KnownSite) (q : ℕ) → AllByRecursion (λ s. Stands p s.callee) xs → is_in (map (λ s. s.callee) xs) q ≡ true
    → is_in (pids p.routines) q ≡ true
sites_in p [] q h e = cc
sites_in p (x ∷ xs) q h e = by (nat_eq x.callee q) refl e (sites_in p xs q h.1)
  where
    by : (b : Bool) → nat_eq x.callee q ≡ b → (b || is_in (map (λ s. s.callee) xs) q) ≡ true
        → (is_in (map (λ s. s.callee) xs) q ≡ true → is_in (pids p.routines) q ≡ true) → is_in (pids p.routines) q ≡ true
    by true at k more =
        subst (λ n. is_in (pids p.routines) n ≡ true) (same_number x.callee q at) (stands_in p.routines x.callee h.0.routine h.0.is)
    by false at k more = more k

module _ (p : IlProgram) (valid : IsProgram p) where
  closed : (rs : List RoutineParts) → AllByRecursion (IsValid p.shapes) rs
      → AllByRecursion (λ (c : Caller). is_in (pids p.routines) c.pid ≡ true → (q : ℕ) → is_in c.callees q ≡ true → is_in (pids p.routines) q ≡ true)
      (map caller_of rs)
  closed [] h = tt
  closed (r ∷ rs) h = (
    λ here q e. sites_in p (known_sites r) q (all_stand p r 0 r.blocks (valid_calls p valid r h.0)) (ap (λ l. is_in l q) (known_callees r) ∙ e),
    closed rs h.1,
  )

  live_stands : (q : ℕ) → is_live p q ≡ true → is_in (pids p.routines) q ≡ true
  live_stands q e =
      let m = main_stands p valid in
      reached_in (is_in (pids p.routines)) (map caller_of p.routines) (main_pid p.shapes) q (closed p.routines valid.each)
      (stands_in p.routines (main_pid p.shapes) m.routine m.is) e

  -- a PID is a routine's of the pruned program exactly where it is live
  live_left : (q : ℕ) → is_in (routine_pids (pruned p).shapes) q ≡ is_live p q
  live_left q =
      ap (λ l. is_in l q) (sym (program_pids (pruned p) (pruned_follows p valid).follows.valid)) ∙ live_in p q ∙ by (is_live p q) refl
    where
      by : (b : Bool) → is_live p q ≡ b → (b && is_in (pids p.routines) q) ≡ b
      by true e = live_stands q e
      by false e = refl

  -- so the rows of dead clones leave the table
  pub table_left : (rows : List Row) → filter (λ row. is_in (routine_pids (pruned p).shapes) row.clone) rows ≡ filter (λ row. is_live p row.clone) rows
  table_left rows = ap (λ (t : ℕ → Bool). filter (λ (row : Row). t row.clone) rows) (fun_ext live_left)

-- the PIDs of routines rise as those of their rows do

rising_above : (n : ℕ) (xs : List ℕ) → Above n xs → IsRisingFrom (λ p. p) n xs
rising_above n [] h = tt
rising_above n (x ∷ xs) h = (h.0, rising_above x xs h.1)

rising_is : (xs : List ℕ) → Rises xs → IsRising (λ p. p) xs
rising_is [] h = tt
rising_is (x ∷ xs) h = rising_above x xs h

pub rising_pids : (rows : List ShapeRow) → IsRising (λ row. row.pid) rows → IsRising (λ p. p) (routine_pids rows)
rising_pids rows h = rising_is (routine_pids rows) (pids_rise rows h)
