-- A program as it starts.
use Rattle.std.specs.Prelude.{◌≡◌, ℕ, ◌+◌, ◌<◌, ◌≤◌, List, [], length, drop, map, slice_index}
use Rattle.hlo_num.specs.declared.word.Word.{Word}
use Rattle.il_core.specs.declared.program.IlProgram.{IlProgram}
use Rattle.il_core.specs.Object.{ObjectParts}
use Rattle.il_core.specs.Program.{object_at, word_at_start, main_pid}
use Rattle.il_core.specs.Meaning.{add_call, act_noting, at_start}
use Rattle.il_run.specs.declared.machine.Machine.{Machine}
use Rattle.il_run.specs.declared.tables.Tables.{Tables}
use Rattle.il_run.specs.Machine.{IsSound, to_come}
use Rattle.il_run.specs.Words.{arrays_in}

-- some words were put at the places from one on, and the others stayed
pub record Copies (old new : List ℕ) (at : ℕ) (init : List Word) : Type 0 where
  pub count : length new ≡ length old
  pub inside : (k : ℕ) → k < length init → slice_index new (at + k) ≡ slice_index (map (λ (w : Word). w.0) init) k
  pub before : (k : ℕ) → k < at → slice_index new k ≡ slice_index old k
  pub after : (k : ℕ) → at + length init ≤ k → slice_index new k ≡ slice_index old k

-- the objects from a number on have their initial words, and the others have none
pub record HasWords (os : List ObjectParts) (sizes : List ℕ) (i : ℕ) (words : List ℕ) : Type 0 where
  pub by : (g j : ℕ) → arrays_in words 0 sizes g j ≡ word_at_start (object_at (drop i os) g) j

-- what is to come is the call of `main`
pub record Starts (p : IlProgram) (t : Tables) (turns : ℕ) (m : Machine) : Type 0 where
  pub sound : IsSound p t m
  pub same : (input : List ℕ) → to_come p t m input [] [] ≡ act_noting add_call p (main_pid p.shapes) [] (at_start [] p input turns)
