-- What came of making the plan of the program of files in the pools of a loader, and of putting it out from there.
use Rattle.std.specs.Prelude.{◌≡◌, ◌≢◌, ◌⊎◌, ℕ, Bool, List, Option, ⊤}
use Rattle.std.specs.Io.KnownBytes.{Appends, Keeps}
use Rattle.c_module.specs.Verdict.{EndsAt, IsUnlinked}
use Rattle.c_module.specs.declared.fault.FileFault.TheVariants.{NoModule, CannotRead}
use Rattle.compact_form.specs.declared.body.RoutineBody.{RoutineBody}
use Rattle.hlo_words.specs.declared.settings.OptSettings.{OptSettings}
use Rattle.il_core.specs.declared.program.IlProgram.{IlProgram}
use Rattle.il_core.specs.declared.shape.ShapeRow.{ShapeRow}
use Rattle.il_core.specs.Object.{ObjectParts}
use Rattle.il_core.specs.Size.{cost}
use Rattle.il_core.specs.Text.{text}
use Rattle.naim_loader.specs.Paged.{Paged, IsTrusted}
use Rattle.outside.specs.Faults.{Rose}
use Rattle.outside.specs.Told.{Told}
use Rattle.plan_pools.specs.Contents.{HoldsProgram}
use Rattle.profile.specs.Counts.{Counts}
use Rattle.sym_tables.specs.Table.{Table}
use Rattle.hlo_cmd.specs.Opt.{HasFront, IsPlanned, IsTooSmall, IsTooSmallToPlan, PrintsFront}
use Rattle.hlo_cmd.specs.declared.refusal.Refusal.{Refusal}
use Rattle.hlo_cmd.specs.declared.refusal.Refusal.TheVariants as refusal

module _ (tells : List ℕ → Told) (good : ℕ → Type 0) (s : OptSettings) (counts : Counts) (names : Table) where
  -- Over a good disk the planned program lies in the pools, with these rows and objects, and the second number is its cost; the
  -- first one is that of the lowered program.
  pub record HasPlanned {D : Type 0} (reach : D → ℕ) (honest : D → Bool) (l : Paged RoutineBody (Unit {0}) D) (rows : List ShapeRow) (os : List ObjectParts)
      (total after_plan : ℕ) : Type 0 where
    pub lowered : IlProgram
    pub program : IlProgram
    pub planned : IsPlanned tells s counts lowered program names
    pub trusted : good s.limit → IsTrusted reach honest l
    pub held : good s.limit → HoldsProgram l rows os program
    pub total_is : total ≡ cost lowered.routines
    pub after_is : good s.limit → after_plan ≡ cost program.routines

  -- why it wasn't made there
  abbrev pub IsPlanningCause : ℕ → ℕ → Refusal → Type 0
  IsPlanningCause disk disk_now refusal.Usage = ⊥
  IsPlanningCause disk disk_now (refusal.Module file fault) = ⊥
  IsPlanningCause disk disk_now (refusal.Link fault) = ⊥
  IsPlanningCause disk disk_now (refusal.Profile line) = ⊥
  IsPlanningCause disk disk_now (refusal.Text fault) = ⊥
  IsPlanningCause disk disk_now (refusal.CannotRead file) = ⊥
  IsPlanningCause disk disk_now refusal.CannotWrite = ⊥
  IsPlanningCause disk disk_now refusal.Repository = Rose disk disk_now
  IsPlanningCause disk disk_now (refusal.Damaged place kept found) = (found ≢ kept) × (good s.limit → ⊥)
  IsPlanningCause disk disk_now (refusal.Unreadable place) = good s.limit → ⊥
  IsPlanningCause disk disk_now (refusal.Unfit pid) = good s.limit → ⊥
  IsPlanningCause disk disk_now (refusal.TooSmall pid need limit) = IsTooSmallToPlan tells good s counts pid need limit
  IsPlanningCause disk disk_now refusal.CannotReadInput = ⊥
  IsPlanningCause disk disk_now refusal.Memory = ⊤

module _ (tells : List ℕ → Told) (good : ℕ → Type 0) (before after : Option (List ℕ)) (s : OptSettings) (counts : Counts) (names : Table) where
  -- over a good disk the text was put out; the costs are those of the lowered program and, over a good disk, of the planned one
  pub record HasPrinted (total after_plan : ℕ) : Type 0 where
    pub lowered : IlProgram
    pub program : IlProgram
    pub planned : IsPlanned tells s counts lowered program names
    pub printed : good s.limit → Appends before after (text program)
    pub total_is : total ≡ cost lowered.routines
    pub after_is : good s.limit → after_plan ≡ cost program.routines

  module _ (shelf shelf_now : List ℕ → ℕ) (out out_now disk disk_now : ℕ) where
    -- why it wasn't: each refusal with its cause, and what was put out
    abbrev pub IsOptCause : Refusal → Type 0
    IsOptCause refusal.Usage = ⊥
    IsOptCause (refusal.Module file fault) = EndsAt tells shelf shelf_now s.files file.now (NoModule fault) names × Keeps before after
    IsOptCause (refusal.Link fault) = IsUnlinked tells s.files names fault × Keeps before after
    IsOptCause (refusal.Profile line) = ⊥
    IsOptCause (refusal.Text fault) = ⊥
    IsOptCause (refusal.CannotRead file) = EndsAt tells shelf shelf_now s.files file.now CannotRead names × Keeps before after
    IsOptCause refusal.CannotWrite = Rose out out_now × PrintsFront tells good before after s counts
    IsOptCause refusal.Repository = Rose disk disk_now × HasFront tells good before after s counts
    IsOptCause (refusal.Damaged place kept found) = (found ≢ kept) × (good s.limit → ⊥) × HasFront tells good before after s counts
    IsOptCause (refusal.Unreadable place) = (good s.limit → ⊥) × HasFront tells good before after s counts
    IsOptCause (refusal.Unfit pid) = (good s.limit → ⊥) × HasFront tells good before after s counts
    IsOptCause (refusal.TooSmall pid need limit) = (IsTooSmall tells s counts pid need limit ⊎ IsTooSmallToPlan tells good s counts pid need limit) × Keeps
        before after
    IsOptCause refusal.CannotReadInput = ⊥
    IsOptCause refusal.Memory = HasFront tells good before after s counts

-- why the routines of the files weren't all taken into the pools
module _ (tells : List ℕ → Told) (s : OptSettings) (counts : Counts) (names : Table) (shelf shelf_now : List ℕ → ℕ) (disk disk_now : ℕ) where
  abbrev pub IsFillingCause : Refusal → Type 0
  IsFillingCause refusal.Usage = ⊥
  IsFillingCause (refusal.Module file fault) = EndsAt tells shelf shelf_now s.files file.now (NoModule fault) names
  IsFillingCause (refusal.Link fault) = IsUnlinked tells s.files names fault
  IsFillingCause (refusal.Profile line) = ⊥
  IsFillingCause (refusal.Text fault) = ⊥
  IsFillingCause (refusal.CannotRead file) = EndsAt tells shelf shelf_now s.files file.now CannotRead names
  IsFillingCause refusal.CannotWrite = ⊥
  IsFillingCause refusal.Repository = Rose disk disk_now
  IsFillingCause (refusal.Damaged place kept found) = ⊥
  IsFillingCause (refusal.Unreadable place) = ⊥
  IsFillingCause (refusal.Unfit pid) = ⊥
  IsFillingCause (refusal.TooSmall pid need limit) = IsTooSmall tells s counts pid need limit
  IsFillingCause refusal.CannotReadInput = ⊥
  IsFillingCause refusal.Memory = ⊤

-- the files weren't refused: their program's routines, or the disk, or the sink, or memory was
abbrev pub IsLate : Refusal → Type 0
IsLate refusal.Usage = ⊥
IsLate (refusal.Module file fault) = ⊥
IsLate (refusal.Link fault) = ⊥
IsLate (refusal.Profile line) = ⊥
IsLate (refusal.Text fault) = ⊥
IsLate (refusal.CannotRead file) = ⊥
IsLate refusal.CannotWrite = ⊤
IsLate refusal.Repository = ⊤
IsLate (refusal.Damaged place kept found) = ⊤
IsLate (refusal.Unreadable place) = ⊤
IsLate (refusal.Unfit pid) = ⊤
IsLate (refusal.TooSmall pid need limit) = ⊤
IsLate refusal.CannotReadInput = ⊥
IsLate refusal.Memory = ⊤

-- a file couldn't be read
abbrev pub IsUnreadRefusal : Refusal → Type 0
IsUnreadRefusal (refusal.CannotRead file) = ⊤
IsUnreadRefusal _ = ⊥

-- the plan was about to be made or put out, so that the files were accepted
abbrev pub IsAtPrinting : Refusal → Type 0
IsAtPrinting refusal.CannotWrite = ⊤
IsAtPrinting (refusal.Damaged place kept found) = ⊤
IsAtPrinting (refusal.Unreadable place) = ⊤
IsAtPrinting (refusal.Unfit pid) = ⊤
IsAtPrinting _ = ⊥
