-- Partials within the limits of the language.
use Rattle.std.specs.Prelude.{ℕ, ◌≡◌, ◌+◌, ◌<◌, ◌≤◌, List, [], length, ⊤}
use Rattle.std.specs.List.{AllByRecursion}
use Rattle.hlo_num.specs.Name.{IsName}
use Rattle.il_core.specs.declared.instr.Instr.{Instr}
use Rattle.il_core.specs.Limits.{IsWithinLimits, max_routines, max_size}
use Rattle.il_core.specs.Ranges.{IsRoutineOfWords}
use Rattle.il_core.specs.Size.{size}
use Rattle.il_text.specs.declared.partial.Partial.{Partial}
use Rattle.il_text.specs.declared.partial.Place.{Place}
use Rattle.il_text.specs.declared.partial.Place.TheVariants as place
use Rattle.il_text.specs.declared.line.NamedObject.{NamedObject}
use Rattle.il_text.specs.declared.line.NamedRoutine.{NamedRoutine}
use Rattle.il_text.specs.declared.statement.Statement.TheVariants as statement
use Rattle.il_text.specs.Lines.{IsFitObject, IsFitStatement}

pub record IsFitRoutine (r : NamedRoutine) : Type 0 where
  pub name : IsName r.name
  pub limits : IsWithinLimits r.routine
  pub range : IsRoutineOfWords r.routine

-- an open block's instructions, behind blocks of this size
pub record IsFitBlock (n : ℕ) (is : List Instr) : Type 0 where
  pub room : n + length is ≤ max_size
  pub instrs : AllByRecursion (λ i. IsFitStatement (statement.Instr i)) is

abbrev pub IsFitPlace : Place → Type 0
IsFitPlace place.Start = ⊤
IsFitPlace place.Outside = ⊤
IsFitPlace (place.InRoutine r n) = IsFitRoutine r × (n ≡ size r.routine)
IsFitPlace (place.InBlock r n is) = IsFitRoutine r × (n ≡ size r.routine) × IsFitBlock n is
IsFitPlace place.Done = ⊤

-- how many routines there may be before a place: an open one is one more; at the start there is nothing
abbrev pub IsRoomAt : Place → List NamedObject → List NamedRoutine → Type 0
IsRoomAt place.Start os rs = (os ≡ []) × (rs ≡ [])
IsRoomAt place.Outside os rs = length rs ≤ max_routines
IsRoomAt (place.InRoutine r n) os rs = length rs < max_routines
IsRoomAt (place.InBlock r n is) os rs = length rs < max_routines
IsRoomAt place.Done os rs = length rs ≤ max_routines

pub record IsFitPartial (f : Partial) : Type 0 where
  pub objects : AllByRecursion IsFitObject f.objects
  pub routines : AllByRecursion IsFitRoutine f.routines
  pub place : IsFitPlace f.place
  pub room : IsRoomAt f.place f.objects f.routines
