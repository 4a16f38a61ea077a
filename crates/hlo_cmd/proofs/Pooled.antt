-- A program whose routines went to the pools of a loader: it can be printed from there, and why it wasn't.
use Rattle.std.proofs.Common.{◌≡◌, ◌<◌, ◌^◌, ℕ, List, [], ◌∷◌, map, Option, Some, None, IsSome, refl, sym, ap, subst, arith, ◌∙◌}
use Rattle.std.specs.Prelude.{option_map}
use Rattle.std.specs.List.{AllByRecursion}
use Rattle.il_core.proofs.Found.{found_here, found_there}
use Rattle.il_core.specs.Object.{ObjectParts}
use Rattle.il_core.specs.Program.{routine_at}
use Rattle.il_core.specs.Routine.{RoutineParts}
use Rattle.il_core.specs.Shapes.{IsRising, IsRisingFrom}
use Rattle.il_core.specs.Size.{cost, size}
use Rattle.il_core.specs.declared.shape.ShapeRow.{ShapeRow}
use Rattle.compact_form.specs.declared.body.RoutineBody.{RoutineBody}
use Rattle.c_module.specs.Frames.{IsFrameOf}
use Rattle.naim_loader.specs.Paged.{Paged, kept_at}
use Rattle.naim_loader.specs.Rows.{Kept}
use Rattle.outside.specs.Told.{Told}
use Rattle.plan_pools.specs.Contents.{HavePools, HoldsProgram, routine_in, routine_pids}
use Rattle.plan_pools.proofs.Programs.{program_pids}
use Rattle.profile.specs.Counts.{Counts}
use Rattle.sym_tables.specs.Table.{Table}
use Rattle.hlo_cmd.proofs.Costs.{own_rising, same_sum}
use Rattle.hlo_cmd.specs.Pools.{IsFilled, inserted}

-- each of some routines by rising PID is found by its number
found_from : (all : List RoutineParts) (n : ℕ) (rs : List RoutineParts) → ((q : ℕ) → n < q → routine_at all q ≡ routine_at rs q)
    → IsRisingFrom (λ r. r.pid) n rs
    → AllByRecursion (λ r. routine_at all r.pid ≡ Some r) rs
found_from all n [] h rise = tt
found_from all n (r ∷ rs) h rise =
    let above = rise.0 in (
      h r.pid above ∙ found_here (λ x. x.pid) r.pid r rs refl,
      found_from all r.pid rs (λ q lt. h q (omega (arith, above, lt)) ∙ found_there (λ x. x.pid) q r rs (λ e. omega (arith, lt, e))) rise.1,
    )

pub all_found : (rs : List RoutineParts) → IsRising (λ r. r.pid) rs → AllByRecursion (λ r. routine_at rs r.pid ≡ Some r) rs
all_found [] rise = tt
all_found (r ∷ rs) rise = (
  found_here (λ x. x.pid) r.pid r rs refl,
  found_from (r ∷ rs) r.pid rs (λ q lt. found_there (λ x. x.pid) q r rs (λ e. omega (arith, lt, e))) rise,
)

module _ {B D : Type 0} (l : Paged RoutineBody B D) where
  pub found_in_pools : (all rs : List RoutineParts) → ((q : ℕ) → routine_in l q ≡ routine_at all q) → AllByRecursion (λ r. routine_at all r.pid ≡ Some r) rs
      → AllByRecursion (λ r. routine_in l r.pid ≡ Some r) rs
  found_in_pools all [] same h = tt
  found_in_pools all (r ∷ rs) same h = (same r.pid ∙ h.0, found_in_pools all rs same h.1)

  some_kept : (o : Option (Kept RoutineBody B)) (r : RoutineParts) → option_map (λ (b : RoutineBody). b.routine) (option_map (λ k. k.value) o) ≡ Some r
      → IsSome o
  some_kept None r e = let bad : None ≡ Some r = e in absurd cc
  some_kept (Some k) r e = refl

  pools_there : (rs : List RoutineParts) → AllByRecursion (λ r. routine_in l r.pid ≡ Some r) rs
      → AllByRecursion (λ p. IsSome (kept_at l p)) (map (λ (r : RoutineParts). r.pid) rs)
  pools_there [] h = tt
  pools_there (r ∷ rs) h = (some_kept (kept_at l r.pid) r h.0, pools_there rs h.1)

  module _ (counts : Counts) (tells : List ℕ → Told) (files : List (List ℕ)) (rows : List ShapeRow) (os : List ObjectParts) (syms : Table)
      (filled : IsFilled l) (frame : IsFrameOf counts tells files (inserted l) rows os syms) where
    -- the pools have the program of the frame
    pub held : HoldsProgram l rows os frame.program
    held = record {
      shapes = frame.shapes;
      objects = frame.objects;
      pids = program_pids frame.program frame.is.valid ∙ ap routine_pids frame.shapes;
      routines = found_in_pools frame.program.routines frame.program.routines (λ q. filled.same q ∙ sym (frame.routines q))
          (all_found frame.program.routines frame.is.valid.routines);
    }

    pub have_pools : HavePools l rows
    have_pools = subst (AllByRecursion (λ p. IsSome (kept_at l p))) held.pids (pools_there frame.program.routines held.routines)

    -- its cost is that of what was put in
    pub frame_cost : cost (inserted l) ≡ cost frame.program.routines
    frame_cost = sym (same_sum (λ r. size r ^ 2) frame.program.routines (inserted l) (own_rising frame.program.routines frame.is.valid.routines) filled.own
        frame.routines)
