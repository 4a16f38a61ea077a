-- The lines of objects and the first lines of routines, behind their first word.
use Rattle.std.specs.Prelude.{ℕ, ◌≡◌, ◌<◌, ◌≤◌, ◌^◌, List, ◌∷◌, Option, codes, Some, None}
use Rattle.std.specs.Fmt.{decimal}
use Rattle.hlo_num.specs.Name.{IsName}
use Rattle.il_core.specs.Limits.{IsPid, max_parameters, max_registers}
use Rattle.il_core.specs.Text.{init_parts, arrays_parts, value_name}
use Rattle.il_text.specs.declared.header.ObjectHead.{ObjectHead}
use Rattle.il_text.specs.declared.header.RoutineHead.{RoutineHead}
use Rattle.il_text.specs.declared.line.NamedObject.{NamedObject}
use Rattle.il_text.specs.declared.line.NamedRoutine.{NamedRoutine}
use Rattle.text_lines.specs.declared.words.Words.{Words}
use Rattle.text_lines.specs.Words.{words_left}

abbrev pub object_tail : NamedObject → List (List ℕ)
object_tail x = decimal x.object.pid ∷ x.name ∷ decimal x.object.words ∷ init_parts x.object.init

-- what was read of an object, and that it stands in front of what is left of these words
pub record IsObjectHeadOf (h : ObjectHead) (words : List (List ℕ)) : Type 0 where
  pub read : words ≡ decimal h.pid ∷ h.name.now ∷ decimal h.words ∷ words_left h.rest
  pub pid : IsPid h.pid
  pub name : IsName h.name.now
  pub some : 0 < h.words
  pub range : h.words < 2 ^ 32

-- these things were read, and these words are left
abbrev pub IsObjectHead : Option ObjectHead → ℕ → List ℕ → ℕ → List (List ℕ) → Type 0
IsObjectHead None p name n ws = ⊥
IsObjectHead (Some h) p name n ws = (h.pid ≡ p) × (h.name.now ≡ name) × (h.words ≡ n) × (words_left h.rest ≡ ws)

-- two things were read, and these words are left
abbrev pub AreRead : {X Y : Type 0} → Option (X × Y × Words) → X → Y → List (List ℕ) → Type 0
AreRead None x y ws = ⊥
AreRead (Some r) x y ws = (r.0 ≡ x) × (r.1 ≡ y) × (words_left r.2 ≡ ws)

-- a routine's first line up to the elements of its arrays, in front of these words
abbrev pub routine_partial : NamedRoutine → List (List ℕ) → List (List ℕ)
routine_partial x ws =
    decimal x.routine.pid ∷ x.name ∷ codes "params" ∷ decimal x.routine.params ∷ value_name x.routine.value
    ∷ codes "regs" ∷ decimal x.routine.regs ∷ codes "entry" ∷ decimal x.routine.entry ∷ ws

abbrev pub routine_tail : NamedRoutine → List (List ℕ)
routine_tail x = routine_partial x (arrays_parts x.routine.arrays)

-- what was read of a routine, and that it stands in front of what is left of these words
pub record IsRoutineHeadOf (h : RoutineHead) (words : List (List ℕ)) : Type 0 where
  pub read : words ≡ decimal h.pid ∷ h.name.now ∷ codes "params" ∷ decimal h.params ∷ value_name h.value ∷ codes "regs" ∷ decimal h.regs ∷ codes "entry" ∷
      decimal h.entry ∷ words_left h.rest
  pub pid : IsPid h.pid
  pub name : IsName h.name.now
  pub params : h.params ≤ max_parameters
  pub regs : h.regs ≤ max_registers
  pub entry : h.entry < 2 ^ 32

-- this routine's head was read, and these words are left
pub record IsHeadOf (h : RoutineHead) (x : NamedRoutine) (ws : List (List ℕ)) : Type 0 where
  pub pid : h.pid ≡ x.routine.pid
  pub name : h.name.now ≡ x.name
  pub params : h.params ≡ x.routine.params
  pub value : h.value ≡ x.routine.value
  pub regs : h.regs ≡ x.routine.regs
  pub entry : h.entry ≡ x.routine.entry
  pub rest : words_left h.rest ≡ ws

abbrev pub IsRoutineHead : Option RoutineHead → NamedRoutine → List (List ℕ) → Type 0
IsRoutineHead None x ws = ⊥
IsRoutineHead (Some h) x ws = IsHeadOf h x ws
