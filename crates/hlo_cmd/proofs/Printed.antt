-- What was put out of a program whose routines are in the pools of a loader.
use Rattle.std.proofs.Common.{◌≡◌, ℕ, Bool, List, Option, Err, subst, take}
use Rattle.std.specs.Io.KnownBytes.{Appends}
use Rattle.il_core.specs.Object.{ObjectParts}
use Rattle.il_core.specs.Text.{text}
use Rattle.il_core.specs.declared.program.IlProgram.{IlProgram}
use Rattle.il_core.specs.declared.shape.ShapeRow.{ShapeRow}
use Rattle.compact_form.specs.declared.body.RoutineBody.{RoutineBody}
use Rattle.hlo_words.specs.declared.settings.OptSettings.{OptSettings}
use Rattle.naim_loader.specs.Paged.{Paged, IsTrusted}
use Rattle.outside.specs.Told.{Told}
use Rattle.naim_core.specs.declared.event.Failure.{Failure}
use Rattle.outside.specs.Faults.{Rose}
use Rattle.plan_pools.specs.Contents.{HoldsProgram}
use Rattle.plan_pools.specs.Printing.{Leaves, OutputCause, ReadCause, StopsReading}
use Rattle.plan_pools.specs.declared.printing.PrintFault.{PrintFault}
use Rattle.plan_pools.specs.declared.printing.PrintFault.TheVariants as fault
use Rattle.profile.specs.Counts.{Counts}
use Rattle.sym_tables.specs.Table.{Table}
use Rattle.hlo_cmd.specs.Opt.{PrintsFront}
use Rattle.hlo_cmd.specs.Paging.{HasPlanned, HasPrinted}

-- the sink failed
pub output_rose : (X : Type 0) (before now : ℕ) (f : PrintFault) → f ≡ fault.Output → OutputCause {X = X} before now (Err f) → Rose before now
output_rose X before now f is cause = subst (λ g. OutputCause {X = X} before now (Err g)) is cause

-- the pools stopped
pub stopped_by : (X : Type 0) {T B D : Type 0} (reach : D → ℕ) (honest : D → Bool) (faults : D → ℕ) (a b : Paged T B D) (f : PrintFault) (failure : Failure)
    → f ≡ fault.Stopped failure → Leaves reach honest faults {X = X} a b (Err f) → ReadCause reach honest faults a (faults a.disk) (faults b.disk) failure
stopped_by X reach honest faults a b f failure is leaves =
    let stops : StopsReading reach honest faults a b failure = subst (λ g. Leaves reach honest faults {X = X} a b (Err g)) is leaves in stops.cause

module _ {D : Type 0} (reach : D → ℕ) (honest : D → Bool) (l : Paged RoutineBody (Unit {0}) D) (total after_plan : ℕ) (s : OptSettings) (counts : Counts)
    (tells : List ℕ → Told) (good : ℕ → Type 0) (rows : List ShapeRow) (os : List ObjectParts) (names : Table)
    (has : HasPlanned tells good s counts names reach honest l rows os total after_plan) (before after : Option (List ℕ)) where
  -- the whole text
  pub all_printed : ((p : IlProgram) → IsTrusted reach honest l → HoldsProgram l rows os p → Appends before after (text p))
      → HasPrinted tells good before after s counts names total after_plan
  all_printed bytes = record {
    lowered = has.lowered;
    program = has.program;
    planned = has.planned;
    printed = λ g. bytes has.program (has.trusted g) (has.held g);
    total_is = has.total_is;
    after_is = has.after_is;
  }

  -- or a front of it
  pub front_printed : ((p : IlProgram) → IsTrusted reach honest l → HoldsProgram l rows os p → (k : ℕ) × Appends before after (take k (text p)))
      → PrintsFront tells good before after s counts
  front_printed bytes = record {
    lowered = has.lowered;
    program = has.program;
    syms = names;
    planned = has.planned;
    printed = λ g. bytes has.program (has.trusted g) (has.held g);
  }
