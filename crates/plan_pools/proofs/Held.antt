-- Programs that pools hold, and what a change of the pools makes of them.
use Rattle.std.proofs.Common.{◌≡◌, ℕ, Bool, true, false, nat_eq, List, [], ◌∷◌, map, Some, None, refl, sym, ap, ◌∙◌}
use Rattle.std.specs.Prelude.{option_map, ◌||◌, if◌then◌else◌}
use Rattle.std.specs.List.{AllByRecursion}
use Rattle.il_core.specs.declared.program.IlProgram.{IlProgram}
use Rattle.il_core.specs.Program.{routine_at}
use Rattle.il_core.specs.Routine.{RoutineParts}
use Rattle.il_core.specs.Valid.{IsProgram, IsValid}
use Rattle.il_laws.specs.Keeping.{with_each}
use Rattle.il_laws.specs.Reach.{is_in}
use Rattle.il_laws.specs.Simplify.{simplify}
use Rattle.il_core.proofs.Found.{found_number}
use Rattle.il_laws.proofs.Serving.{each_found}
use Rattle.il_laws.proofs.Simplified.{simplify_serves}
use Rattle.compact_form.specs.declared.body.RoutineBody.{RoutineBody}
use Rattle.naim_loader.specs.Paged.{Paged, IsTrusted}
use Rattle.plan_pools.specs.Contents.{HoldsProgram, IsContents, routine_in}
use Rattle.plan_pools.specs.Passes.{ChangesAll, changed_at}
use Rattle.plan_pools.proofs.Programs.{program_pids}

-- changed routines are found where the others were
pub found_changed : (f : RoutineParts → RoutineParts) (rs : List RoutineParts) (q : ℕ) → AllByRecursion (λ r. (f r).pid ≡ r.pid) rs
    → routine_at (map f rs) q ≡ option_map f (routine_at rs q)
found_changed f [] q h = refl
found_changed f (r ∷ rs) q h =
    ap (λ n. if nat_eq n q then Some (f r) else routine_at (map f rs) q) h.0 ∙ by (nat_eq r.pid q) (found_changed f rs q h.1)
  where
    by : (b : Bool) → routine_at (map f rs) q ≡ option_map f (routine_at rs q)
        → (if b then Some (f r) else routine_at (map f rs) q) ≡ option_map f (if b then Some r else routine_at rs q)
    by true e = refl
    by false e = e

-- a number that is no routine's finds none
found_none : (rs : List RoutineParts) (q : ℕ) → is_in (map (λ r. r.pid) rs) q ≡ false → routine_at rs q ≡ None
found_none [] q h = refl
found_none (r ∷ rs) q h = by (nat_eq r.pid q) h (found_none rs q)
  where
    by : (b : Bool) → (b || is_in (map (λ r. r.pid) rs) q) ≡ false → (is_in (map (λ r. r.pid) rs) q ≡ false → routine_at rs q ≡ None)
        → (if b then Some r else routine_at rs q) ≡ None
    by true h more = cc
    by false h more = more h

-- a change of all routines
held_changed : {B D : Type 0} (f : RoutineParts → RoutineParts) (old new : Paged RoutineBody B D) (p : IlProgram)
    → AllByRecursion (λ r. (f r).pid ≡ r.pid) p.routines → IsContents old p
    → ((q : ℕ) → routine_in new q ≡ changed_at f (is_in (map (λ r. r.pid) p.routines)) (routine_in old) q) → IsContents new (with_each p f)
held_changed f old new p pids held change =
    record { by = λ q. change q ∙ at q (is_in (map (λ r. r.pid) p.routines) q) refl ∙ sym (found_changed f p.routines q pids) }
  where
    at : (q : ℕ) (b : Bool) → is_in (map (λ r. r.pid) p.routines) q ≡ b
        → (if b then option_map f (routine_in old q) else routine_in old q) ≡ option_map f (routine_at p.routines q)
    at q true e = ap (option_map f) (held.by q)
    at q false e = held.by q ∙ found_none p.routines q e ∙ sym (ap (option_map f) (found_none p.routines q e))

pub simplified_pids : (p : IlProgram) (rs : List RoutineParts) → AllByRecursion (IsValid p.shapes) rs → AllByRecursion (λ r. (simplify r).pid ≡ r.pid) rs
simplified_pids p [] h = tt
simplified_pids p (r ∷ rs) h = ((simplify_serves p r h.0).pid, simplified_pids p rs h.1)

-- Where the pools hold a valid program, they hold its routines simplified once all are.
pub held_simplified : {D : Type 0} (reach : D → ℕ) (honest : D → Bool) (faults : D → ℕ) (old new : Paged RoutineBody (Unit {0}) D) (p : IlProgram) (ps : List ℕ)
    → IsProgram p → IsContents old p → ps ≡ map (λ r. r.pid) p.routines → ChangesAll reach honest faults simplify ps old new → IsTrusted reach honest old
    → IsContents new (with_each p simplify)
held_simplified reach honest faults old new p ps valid held same c g =
    held_changed simplify old new p (simplified_pids p p.routines valid.each) held
    (λ q. c.routines g q ∙ ap (λ l. changed_at simplify (is_in l) (routine_in old) q) same)

-- Pools that have a valid program's routines hold that program, with its shapes and objects.
pub contents_hold : {B D : Type 0} (l : Paged RoutineBody B D) (p : IlProgram) → IsProgram p → IsContents l p → HoldsProgram l p.shapes p.objects p
contents_hold l p valid held = record {
  shapes = refl;
  objects = refl;
  pids = program_pids p valid;
  routines = each_found (λ r. r.pid) (λ r. routine_in l r.pid ≡ Some r) p.routines valid.routines
      (λ q r e. held.by r.pid ∙ ap (routine_at p.routines) (found_number (λ r. r.pid) q p.routines r e) ∙ e);
}
