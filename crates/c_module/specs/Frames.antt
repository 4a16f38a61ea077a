-- The frame of a program: of the names, the rows of those that are routines or objects of it, and the objects.
use Rattle.std.specs.Prelude.{◌≡◌, ℕ, zero, suc, Bool, false, ◌||◌, List, [], ◌∷◌, ◌++◌, map, length, nat_eq, if◌then◌else◌}
use Rattle.il_core.specs.declared.program.IlProgram.{IlProgram}
use Rattle.il_core.specs.declared.shape.ShapeRow.{ShapeRow}
use Rattle.il_core.specs.Object.{ObjectParts}
use Rattle.il_core.specs.Program.{routine_at}
use Rattle.il_core.specs.Routine.{RoutineParts}
use Rattle.outside.specs.Told.{Told}
use Rattle.profile.specs.Counts.{Counts}
use Rattle.sym_tables.specs.Listing as listing
use Rattle.sym_tables.specs.Table.{Table}
use Rattle.c_module.specs.Assembling.{AreRoutinesOf, by_pid}
use Rattle.c_module.specs.Programs.{IsProgramOf}

-- the PIDs are those of the routines of files that are accepted, in the order of their functions
pub record ArePidsOf (pids : List ℕ) (syms : Table) : Type 0 where
  pub counts : Counts
  pub tells : List ℕ → Told
  pub files : List (List ℕ)
  pub rs : List RoutineParts
  pub routines : AreRoutinesOf counts tells files rs syms
  pub are : pids ≡ map (λ (r : RoutineParts). r.pid) rs

-- The shapes and the objects are those of the lowered program of the files, which is valid and has the run of their modules.
-- Its routines, which are by rising PID as in every valid program, are these: by each PID the same is found.
pub record IsFrameOf (counts : Counts) (tells : List ℕ → Told) (files : List (List ℕ)) (rs : List RoutineParts) (rows : List ShapeRow)
    (os : List ObjectParts) (syms : Table) : Type 0 where
  pub program : IlProgram
  pub is : IsProgramOf counts tells files program syms
  pub shapes : program.shapes ≡ rows
  pub objects : program.objects ≡ os
  pub routines : (pid : ℕ) → routine_at program.routines pid ≡ routine_at rs pid

-- one of the PIDs is this one
abbrev pub among : List ℕ → ℕ → Bool
among [] pid = false
among (p ∷ pids) pid = nat_eq p pid || among pids pid

-- for each of so many PIDs from this one on whether it is among some
abbrev pub marks : List ℕ → ℕ → ℕ → List Bool
marks pids pid zero = []
marks pids pid (suc n) = among pids pid ∷ marks pids (suc pid) n

-- the first mark, and the others
abbrev pub first_mark : List Bool → Bool
first_mark [] = false
first_mark (b ∷ bs) = b

abbrev pub other_marks : List Bool → List Bool
other_marks [] = []
other_marks (b ∷ bs) = bs

-- whether the first object has a PID, and the objects without it
abbrev pub has_object : List ObjectParts → ℕ → Bool
has_object [] pid = false
has_object (o ∷ os) pid = nat_eq o.pid pid

abbrev pub other_objects : List ObjectParts → ℕ → List ObjectParts
other_objects [] pid = []
other_objects (o ∷ os) pid = if nat_eq o.pid pid then os else o ∷ os

-- a row that is kept, or none
abbrev pub row_if : Bool → ShapeRow → List ShapeRow
row_if kept row = if kept then row ∷ [] else []

-- Of rows by PID, those that have a mark or an object, where the marks are those of the rows and the objects rise by PID.
abbrev pub kept_rows : List Bool → List ObjectParts → List ShapeRow → List ShapeRow
kept_rows bs os [] = []
kept_rows bs os (row ∷ rows) =
    row_if (first_mark bs || has_object os row.pid) row ++ kept_rows (other_marks bs) (other_objects os row.pid) rows

-- the marks and the objects that are left behind some rows
abbrev pub marks_behind : List Bool → List ShapeRow → List Bool
marks_behind bs [] = bs
marks_behind bs (row ∷ rows) = marks_behind (other_marks bs) rows

abbrev pub objects_behind : List ObjectParts → List ShapeRow → List ObjectParts
objects_behind os [] = os
objects_behind os (row ∷ rows) = objects_behind (other_objects os row.pid) rows

-- the rows of the program whose routines have these PIDs
abbrev pub frame_rows : List ℕ → Table → List ShapeRow
frame_rows pids syms = kept_rows (marks pids 0 (length syms)) (listing.objects syms) (listing.shapes syms)

-- the program of some routines and the table of names
abbrev pub assembled : List RoutineParts → Table → IlProgram
assembled rs syms = record {
  shapes = frame_rows (map (λ (r : RoutineParts). r.pid) rs) syms;
  objects = listing.objects syms;
  routines = by_pid rs (length syms);
}
