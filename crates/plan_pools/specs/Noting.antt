-- Programs that the trail notes.
use Rattle.std.specs.Prelude.{◌≡◌, ◌≤◌, ◌++◌, ℕ, List, [], ◌∷◌, length, nat_eq, option_map, ⊤}
use Rattle.std.specs.List.{IsDistinct}
use Rattle.std.specs.Map.{keys_of, lookup}
use Rattle.il_core.specs.Program.{routine_at}
use Rattle.il_core.specs.declared.program.IlProgram.{IlProgram}
use Rattle.compact_form.specs.declared.body.RoutineBody.{RoutineBody}
use Rattle.naim_loader.specs.Paged.{Paged}

-- a note of what the pools have: the routines of the program, each under its PID, and no others
pub record Notes (xs : List (ℕ × RoutineBody)) (p : IlProgram) : Type 0 where
  pub by : (q : ℕ) → option_map (λ b. b.routine) (lookup (nat_eq q) xs) ≡ routine_at p.routines q
  pub differ : IsDistinct nat_eq (keys_of xs)

-- notes of these programs, one each, in order
abbrev pub AllNote : List (List (ℕ × RoutineBody)) → List IlProgram → Type 0
AllNote [] [] = ⊤
AllNote [] (p ∷ ps) = ⊥
AllNote (x ∷ xs) [] = ⊥
AllNote (x ∷ xs) (p ∷ ps) = Notes x p × AllNote xs ps

-- The limit, the number of workers, the disk that the loader was made with and the insertions are the same, the disk's count
-- of faults hasn't fallen, and the trail has these notes behind its own.
pub record GoesOn {T B D : Type 0} (faults : D → ℕ) (noted : List (List (ℕ × T))) (old new : Paged T B D) : Type 0 where
  pub limit : new.core.limit ≡ old.core.limit
  pub workers : length new.core.hands ≡ length old.core.hands
  pub first : new.first ≡ old.first
  pub later : faults old.disk ≤ faults new.disk
  pub insertions : new.trail.insertions ≡ old.trail.insertions
  pub programs : new.trail.programs ≡ old.trail.programs ++ noted
