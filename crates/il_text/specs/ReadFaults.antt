-- What is wrong with a text: its lines, the order of its objects and routines, a routine, `main`.
use Rattle.std.specs.Prelude.{ℕ, ◌≡◌, ◌+◌, ◌-◌, ◌^◌, ◌≤◌, ◌⊎◌, min, false, true, List, [], Some, None, length, take, sum_by, ⊤}
use Rattle.std.specs.List.{AllByRecursion, list_any}
use Rattle.il_core.specs.Limits.{max_routines}
use Rattle.il_core.specs.declared.program.IlProgram.{IlProgram}
use Rattle.il_core.specs.Valid.{IsValid}
use Rattle.il_check.specs.declared.flaw.Flaw.{Flaw}
use Rattle.il_text.specs.declared.fault.IlFault.{IlFault}
use Rattle.il_text.specs.declared.fault.IlFault.TheVariants.{At, Memory}
use Rattle.il_text.specs.declared.fault.IlKind.TheVariants as kind
use Rattle.il_text.specs.declared.partial.Place.TheVariants.{Done}
use Rattle.il_text.specs.declared.line.NamedObject.{NamedObject}
use Rattle.il_text.specs.declared.line.NamedRoutine.{NamedRoutine}
use Rattle.il_text.specs.Assembled.{first_out_of_order, HasPartsOf}
use Rattle.il_text.specs.Checked.{IsFirstFlawed, is_main, line_count}
use Rattle.il_text.specs.Faults.{IsFirstBadLine}
use Rattle.il_text.specs.FitPartials.{IsFitRoutine}
use Rattle.il_text.specs.Partials.{lines_of}
use Rattle.il_text.specs.Lines.{IsFitObject}
use Rattle.il_text.specs.Order.{first_misplaced, object_items, routine_items}
use Rattle.il_text.specs.Texts.{lines_text}

-- a line's number as a fault tells it
abbrev pub capped : ℕ → ℕ
capped line = min line (2 ^ 32 - 1)

-- object k is the first that is out of order, or all are in order and routine k is the first; its line is told
abbrev pub IsMisplaced : List NamedObject → List NamedRoutine → ℕ → Type 0
IsMisplaced os rs n =
    (k : ℕ) × ((first_misplaced [] None (object_items os) ≡ Some k) × (n ≡ capped (k + 2))
    ⊎ ((first_misplaced [] None (object_items os) ≡ None) × (first_misplaced (object_items os) None (routine_items rs) ≡ Some k)
    × (n ≡ capped (length os + 2 + sum_by (λ r. line_count r.routine) (take k rs)))))

abbrev pub IsOrderFault : List NamedObject → List NamedRoutine → IlFault → Type 0
IsOrderFault os rs (At n kind.Order) = IsMisplaced os rs n
IsOrderFault os rs (At n kind.Line) = ⊥
IsOrderFault os rs (At n (kind.Invalid flaw)) = ⊥
IsOrderFault os rs (At n kind.NoMain) = ⊥
IsOrderFault os rs Memory = ⊤

-- each routine is valid, and there is a `main`
pub record IsFine (p : IlProgram) : Type 0 where
  pub valid : AllByRecursion (IsValid p.shapes) p.routines
  pub main : list_any is_main p.shapes ≡ true

-- the first routine that isn't valid, at its first line, with its first flaw
abbrev pub IsFlawed : IlProgram → ℕ → Flaw → Type 0
IsFlawed p n flaw = (at : ℕ) × IsFirstFlawed p.shapes p.routines (length p.objects + 2) at flaw × (n ≡ capped at)

-- all are valid and there is no `main`, which is told at the last line
pub record LacksMain (p : IlProgram) (n : ℕ) : Type 0 where
  pub valid : AllByRecursion (IsValid p.shapes) p.routines
  pub main : list_any is_main p.shapes ≡ false
  pub line : n ≡ capped (length p.objects + 2 + sum_by line_count p.routines)

abbrev pub IsCheckFault : IlProgram → IlFault → Type 0
IsCheckFault p (At n (kind.Invalid flaw)) = IsFlawed p n flaw
IsCheckFault p (At n kind.NoMain) = LacksMain p n
IsCheckFault p (At n kind.Line) = ⊥
IsCheckFault p (At n kind.Order) = ⊥
IsCheckFault p Memory = ⊥

-- the lines of the text are those of these objects and routines, within the limits of the language
pub record IsDraft (b : List ℕ) (os : List NamedObject) (rs : List NamedRoutine) : Type 0 where
  pub objects : AllByRecursion IsFitObject os
  pub routines : AllByRecursion IsFitRoutine rs
  pub few : length rs ≤ max_routines
  pub text : b ≡ lines_text (lines_of Done os rs)

-- the lines are those of objects and routines of which this holds
abbrev pub WithDraft : List ℕ → (List NamedObject → List NamedRoutine → Type 0) → Type 0
WithDraft b P = (os : List NamedObject) × (rs : List NamedRoutine) × IsDraft b os rs × P os rs

-- they are in order, and this holds of the program that they make
abbrev pub WithProgram : List ℕ → (IlProgram → Type 0) → Type 0
WithProgram b P = WithDraft b (λ os rs. (first_out_of_order os rs ≡ None) × (p : IlProgram) × HasPartsOf os rs p × P p)

abbrev pub IsFaultOf : List ℕ → IlFault → Type 0
IsFaultOf b (At n kind.Line) = IsFirstBadLine b n
IsFaultOf b (At n kind.Order) = WithDraft b (λ os rs. IsMisplaced os rs n)
IsFaultOf b (At n (kind.Invalid flaw)) = WithProgram b (λ p. IsFlawed p n flaw)
IsFaultOf b (At n kind.NoMain) = WithProgram b (λ p. LacksMain p n)
IsFaultOf b Memory = ⊤
