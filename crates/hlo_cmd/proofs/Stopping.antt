-- Why a program wasn't put out through pools: each refusal with its cause.
use Rattle.std.proofs.Common.{◌≡◌, ◌≤◌, ◌<◌, ◌++◌, ℕ, Bool, true, false, List, [], ◌∷◌, length, map, Option, Some, None, IsSome, Result, Ok, Err, inl}
use Rattle.std.proofs.Common.{inr, refl, sym, ap, subst, ◌∙◌, le_trans}
use Rattle.std.specs.Prelude.{IfErr, IfSome}
use Rattle.std.specs.Io.KnownBytes.{Keeps}
use Rattle.std.specs.List.{AllByRecursion}
use Rattle.std.proofs.lemmas.List.{map-append}
use Rattle.std.proofs.lemmas.Option.{same_Some}
use Rattle.compact_form.specs.Compact.{compact}
use Rattle.compact_form.specs.declared.body.RoutineBody.{RoutineBody}
use Rattle.c_lower.specs.Lowering.{routine_of}
use Rattle.c_module.proofs.Assembled.{same_pid}
use Rattle.c_module.specs.Taking.{IsTakeCause, RefusesAmong}
use Rattle.c_module.specs.Verdict.{IsProgramCause, IsUnread, IsWant}
use Rattle.c_module.specs.declared.fault.FileFault.TheVariants as file_fault
use Rattle.c_module.specs.declared.fault.ProgramFault.{ProgramFault}
use Rattle.c_module.specs.declared.fault.ProgramFault.TheVariants as program_fault
use Rattle.c_module.specs.declared.fault.TakeFault.{TakeFault}
use Rattle.c_module.specs.declared.fault.TakeFault.TheVariants as take
use Rattle.c_typed.specs.Trees.{Function}
use Rattle.c_typed.specs.Views.{functions_of}
use Rattle.hlo_words.specs.declared.settings.OptSettings.{OptSettings}
use Rattle.il_core.specs.Routine.{RoutineParts}
use Rattle.naim_core.specs.declared.event.Failure.{Failure}
use Rattle.naim_core.specs.declared.event.Failure.TheVariants as failure
use Rattle.naim_loader.specs.Paged.{Paged, IsTrusted}
use Rattle.one_owner.proofs.Frames.{rose_since}
use Rattle.one_owner.specs.Causes.{PlaceCause}
use Rattle.outside.specs.Told.{Told}
use Rattle.plan_pools.specs.Printing.{ReadCause}
use Rattle.profile.specs.Counts.{Counts}
use Rattle.sym_tables.specs.Table.{Table}
use Rattle.hlo_cmd.specs.Messages.{loader_refusal, program_refusal}
use Rattle.hlo_cmd.specs.Opt.{HasFront, IsTooSmall}
use Rattle.hlo_cmd.specs.Paging.{IsAtPrinting, IsFillingCause, IsLate, IsOptCause, IsPlanningCause, IsUnreadRefusal}
use Rattle.hlo_cmd.specs.Pools.{GoesOn, IsReady, RefusesRoutine, inserted}
use Rattle.hlo_cmd.specs.declared.refusal.Refusal.{Refusal}
use Rattle.hlo_cmd.specs.declared.refusal.Refusal.TheVariants as refusal

-- ---- which refusals come late, and which don't

pub late_loader : (f : Failure) → IsLate (loader_refusal f)
late_loader failure.Repository = tt
late_loader (failure.Damaged place kept found) = tt
late_loader (failure.Unreadable place) = tt
late_loader (failure.Unfit pid) = tt
late_loader (failure.TooSmall pid need limit) = tt
late_loader failure.Memory = tt

pub late_program : (fault : ProgramFault) → IsWant fault → IsLate (program_refusal fault)
late_program (program_fault.File file (file_fault.NoModule fault)) want = absurd want
late_program (program_fault.File file file_fault.CannotRead) want = absurd want
late_program (program_fault.File file file_fault.Memory) want = tt
late_program (program_fault.Link fault) want = absurd want
late_program program_fault.Memory want = tt

pub unread_loader : (f : Failure) → IsUnreadRefusal (loader_refusal f) → ⊥
unread_loader failure.Repository h = h
unread_loader (failure.Damaged place kept found) h = h
unread_loader (failure.Unreadable place) h = h
unread_loader (failure.Unfit pid) h = h
unread_loader (failure.TooSmall pid need limit) h = h
unread_loader failure.Memory h = h

pub unread_program : (fault : ProgramFault) → (IsUnread fault → ⊥) → IsUnreadRefusal (program_refusal fault) → ⊥
unread_program (program_fault.File file (file_fault.NoModule fault)) none h = h
unread_program (program_fault.File file file_fault.CannotRead) none h = none tt
unread_program (program_fault.File file file_fault.Memory) none h = h
unread_program (program_fault.Link fault) none h = h
unread_program program_fault.Memory none h = h

-- routines that fit, as functions whose routines do
all_fit : (limit : ℕ) (syms : Table) (counts : Counts) (fs : List Function)
    → AllByRecursion (λ (r : RoutineParts). length (compact r) ≤ limit) (map (routine_of syms counts) fs)
    → AllByRecursion (λ f. length (compact (routine_of syms counts f)) ≤ limit) fs
all_fit limit syms counts [] h = tt
all_fit limit syms counts (f ∷ fs) h = (h.0, all_fit limit syms counts fs h.1)

module _ (tells : List ℕ → Told) (s : OptSettings) (counts : Counts) (names : Table) (shelf shelf_now : List ℕ → ℕ) (disk disk_now : ℕ) where
  -- the files give no program
  pub program_told : (fault : ProgramFault) → IsProgramCause fault s.files tells shelf shelf_now names
      → IsFillingCause tells s counts names shelf shelf_now disk disk_now (program_refusal fault)
  program_told (program_fault.File file (file_fault.NoModule fault)) cause = cause
  program_told (program_fault.File file file_fault.CannotRead) cause = cause
  program_told (program_fault.File file file_fault.Memory) cause = tt
  program_told (program_fault.Link fault) cause = cause
  program_told program_fault.Memory cause = tt

  -- a routine wasn't taken
  taking_told : (first : ℕ) (r : RoutineParts) (limit : ℕ) (f : Failure) → disk ≤ first → PlaceCause first disk_now r.pid (length (compact r)) limit f
      → ((need l : ℕ) → need ≡ length (compact r) → l ≡ limit → limit < length (compact r) → IsTooSmall tells s counts r.pid need l)
      → IsFillingCause tells s counts names shelf shelf_now disk disk_now (loader_refusal f)
  taking_told first r limit failure.Repository later cause small = rose_since disk first disk_now later cause
  taking_told first r limit (failure.Damaged place kept found) later cause small = absurd cause
  taking_told first r limit (failure.Unreadable place) later cause small = absurd cause
  taking_told first r limit (failure.Unfit q) later cause small = absurd cause
  taking_told first r limit (failure.TooSmall q need l) later cause small =
      subst (λ n. IsTooSmall tells s counts n need l) (sym cause.0) (small need l cause.1 cause.2 cause.3)
  taking_told first r limit failure.Memory later cause small = tt

  -- nothing was about to be put out then
  pub filling_unprinted : (r : Refusal) → IsFillingCause tells s counts names shelf shelf_now disk disk_now r → IsAtPrinting r → ⊥
  filling_unprinted refusal.Usage cause h = cause
  filling_unprinted (refusal.Module file fault) cause h = h
  filling_unprinted (refusal.Link fault) cause h = h
  filling_unprinted (refusal.Profile line) cause h = cause
  filling_unprinted (refusal.Text fault) cause h = cause
  filling_unprinted (refusal.CannotRead file) cause h = h
  filling_unprinted refusal.CannotWrite cause h = cause
  filling_unprinted refusal.Repository cause h = h
  filling_unprinted (refusal.Damaged place kept found) cause h = cause
  filling_unprinted (refusal.Unreadable place) cause h = cause
  filling_unprinted (refusal.Unfit pid) cause h = cause
  filling_unprinted (refusal.TooSmall pid need limit) cause h = h
  filling_unprinted refusal.CannotReadInput cause h = cause
  filling_unprinted refusal.Memory cause h = h

  module _ (good : ℕ → Type 0) (before after : Option (List ℕ)) (out out_now : ℕ) where
    -- the same where nothing was put out
    pub filling_told : (r : Refusal) → Keeps before after → IsFillingCause tells s counts names shelf shelf_now disk disk_now r
        → IsOptCause tells good before after s counts names shelf shelf_now out out_now disk disk_now r
    filling_told refusal.Usage keeps cause = absurd cause
    filling_told (refusal.Module file fault) keeps cause = (cause, keeps)
    filling_told (refusal.Link fault) keeps cause = (cause, keeps)
    filling_told (refusal.Profile line) keeps cause = absurd cause
    filling_told (refusal.Text fault) keeps cause = absurd cause
    filling_told (refusal.CannotRead file) keeps cause = (cause, keeps)
    filling_told refusal.CannotWrite keeps cause = absurd cause
    filling_told refusal.Repository keeps cause = (cause, inl keeps)
    filling_told (refusal.Damaged place kept found) keeps cause = absurd cause
    filling_told (refusal.Unreadable place) keeps cause = absurd cause
    filling_told (refusal.Unfit pid) keeps cause = absurd cause
    filling_told (refusal.TooSmall pid need limit) keeps cause = (inl cause, keeps)
    filling_told refusal.CannotReadInput keeps cause = absurd cause
    filling_told refusal.Memory keeps cause = inl keeps

    -- the same where the plan wasn't made
    pub planned_told : (r : Refusal) → Keeps before after → IsPlanningCause tells good s counts names disk disk_now r
        → IsOptCause tells good before after s counts names shelf shelf_now out out_now disk disk_now r
    planned_told refusal.Usage keeps cause = absurd cause
    planned_told (refusal.Module file fault) keeps cause = absurd cause
    planned_told (refusal.Link fault) keeps cause = absurd cause
    planned_told (refusal.Profile line) keeps cause = absurd cause
    planned_told (refusal.Text fault) keeps cause = absurd cause
    planned_told (refusal.CannotRead file) keeps cause = absurd cause
    planned_told refusal.CannotWrite keeps cause = absurd cause
    planned_told refusal.Repository keeps cause = (cause, inl keeps)
    planned_told (refusal.Damaged place kept found) keeps cause = (cause.0, cause.1, inl keeps)
    planned_told (refusal.Unreadable place) keeps cause = (cause, inl keeps)
    planned_told (refusal.Unfit pid) keeps cause = (cause, inl keeps)
    planned_told (refusal.TooSmall pid need limit) keeps cause = (inr cause, keeps)
    planned_told refusal.CannotReadInput keeps cause = absurd cause
    planned_told refusal.Memory keeps cause = inl keeps

    -- the loader stopped while the text was put out
    pub printing_told : {T B D : Type 0} (reach : D → ℕ) (honest : D → Bool) (faults : D → ℕ) (l : Paged T B D) (f : Failure)
        → (good s.limit → IsTrusted reach honest l)
        → ReadCause reach honest faults l disk disk_now f → HasFront tells good before after s counts
        → IsOptCause tells good before after s counts names shelf shelf_now out out_now disk disk_now (loader_refusal f)
    printing_told reach honest faults l failure.Repository trusted cause front = (cause, front)
    printing_told reach honest faults l (failure.Damaged place kept found) trusted cause front = (cause.0, (λ g. cause.2 (trusted g)), front)
    printing_told reach honest faults l (failure.Unreadable place) trusted cause front = ((λ g. cause.1 (trusted g)), front)
    printing_told reach honest faults l (failure.Unfit pid) trusted cause front = absurd cause
    printing_told reach honest faults l (failure.TooSmall pid need limit) trusted cause front = absurd cause
    printing_told reach honest faults l failure.Memory trusted cause front = front

-- the same since an earlier moment of the disk
module _ (tells : List ℕ → Told) (good : ℕ → Type 0) (before after : Option (List ℕ)) (s : OptSettings) (counts : Counts) (names : Table)
    (shelf shelf_now : List ℕ → ℕ) (out out_now first then now : ℕ) (later : first ≤ then) where
  told_since : (r : Refusal) → IsOptCause tells good before after s counts names shelf shelf_now out out_now then now r
      → IsOptCause tells good before after s counts names shelf shelf_now out out_now first now r
  told_since refusal.Usage cause = cause
  told_since (refusal.Module file fault) cause = cause
  told_since (refusal.Link fault) cause = cause
  told_since (refusal.Profile line) cause = cause
  told_since (refusal.Text fault) cause = cause
  told_since (refusal.CannotRead file) cause = cause
  told_since refusal.CannotWrite cause = cause
  told_since refusal.Repository cause = (rose_since first then now later cause.0, cause.1)
  told_since (refusal.Damaged place kept found) cause = cause
  told_since (refusal.Unreadable place) cause = cause
  told_since (refusal.Unfit pid) cause = cause
  told_since (refusal.TooSmall pid need limit) cause = cause
  told_since refusal.CannotReadInput cause = cause
  told_since refusal.Memory cause = cause

  pub err_since : {X : Type 0} (answer : Result X Refusal)
      → IfErr answer (IsOptCause tells good before after s counts names shelf shelf_now out out_now then now)
      → IfErr answer (IsOptCause tells good before after s counts names shelf shelf_now out out_now first now)
  err_since (Ok x) cause = tt
  err_since (Err r) cause = told_since r cause

-- ---- a routine that wasn't taken, among the files

pub taken_refused : {T : Type 0} (taken : T → List RoutineParts) (ready : T → Type 0) (keeps : T → T → Type 0) (refuses : T → T → RoutineParts → Type 0)
    (counts : Counts) (files : List (List ℕ)) (tells : List ℕ → Told) (before after : List ℕ → ℕ) (old new : T) (syms : Table) (fault : TakeFault)
    → fault ≡ take.Refused → IsTakeCause taken ready keeps refuses fault counts files tells before after old new syms
    → RefusesAmong taken ready keeps refuses counts tells files old new syms
taken_refused taken ready keeps refuses counts files tells before after old new syms fault is cause =
    subst (λ f. IsTakeCause taken ready keeps refuses f counts files tells before after old new syms) is cause

module _ {T D : Type 0} (loader : T → Paged RoutineBody (Unit {0}) D) (pids : T → List ℕ) (total : T → ℕ) (faults : D → ℕ) (tells : List ℕ → Told)
    (s : OptSettings) (counts : Counts) (old new : T) (syms : Table)
    (refused : RefusesAmong (λ p. inserted (loader p)) (λ p. IsReady (loader p) (pids p) (total p)) (λ a b. GoesOn faults (loader a) (loader b))
    (λ a b r. RefusesRoutine faults (loader a) (loader b) r) counts tells s.files old new syms)
    (limit : (loader old).core.limit ≡ s.limit) where
  same_limit : (loader refused.refused.one.at).core.limit ≡ s.limit
  same_limit = refused.refused.one.same.stays.limit ∙ refused.same.stays.limit ∙ limit

  abbrev r : RoutineParts
  r = routine_of syms counts refused.refused.one.function

  taken_then : inserted (loader refused.refused.one.at) ≡ map (routine_of syms counts) (functions_of refused.ts ++ refused.refused.one.earlier)
  taken_then =
      refused.refused.one.up_to
      ∙ ap (λ l. l ++ map (routine_of syms counts) refused.refused.one.earlier) refused.up_to
      ∙ sym (map-append (routine_of syms counts) (functions_of refused.ts) refused.refused.one.earlier)

  small : (need l : ℕ) → need ≡ length (compact r) → l ≡ (loader refused.refused.one.at).core.limit
      → (loader refused.refused.one.at).core.limit < length (compact r)
      → IsTooSmall tells s counts r.pid need l
  small need l need_is limit_is long =
      record {
        earlier = refused.earlier;
        file = refused.file;
        later = refused.later;
        modules = refused.modules;
        ts = refused.ts;
        names = refused.names;
        typed_as = refused.refused.typed_as;
        syms = syms;
        fs = refused.refused.one.earlier;
        function = refused.refused.one.function;
        others = refused.refused.one.later;
        whole = refused.whole;
        hold = refused.hold;
        typed = refused.refused.typed;
        functions = refused.refused.one.whole;
        kept = refused.refused.one.kept;
        within = refused.refused.one.within;
        fit = all_fit s.limit syms counts (functions_of refused.ts ++ refused.refused.one.earlier)
            (subst (AllByRecursion (λ (x : RoutineParts). length (compact x) ≤ s.limit)) taken_then
            (subst (λ n. AllByRecursion (λ (x : RoutineParts). length (compact x) ≤ n) (inserted (loader refused.refused.one.at))) same_limit
            refused.refused.one.is_ready.short));
        long = subst (λ n. n < length (compact r)) same_limit long;
        pid_is = same_pid syms counts refused.refused.one.function;
        need_is = need_is;
        limit_is = limit_is ∙ same_limit;
      }

  -- its cause is what the loader keeps
  pub refused_told : (shelf shelf_now : List ℕ → ℕ) (f : Failure) → (loader new).core.failure ≡ Some f
      → IsFillingCause tells s counts syms shelf shelf_now (faults (loader old).disk) (faults (loader new).disk) (loader_refusal f)
  refused_told shelf shelf_now f is =
      let stops = refused.refused.one.refused.stops in
      let same : refused.refused.one.refused.failure ≡ f = same_Some refused.refused.one.refused.failure f (sym stops.kept ∙ is) in
      subst (λ g. IsFillingCause tells s counts syms shelf shelf_now (faults (loader old).disk) (faults (loader new).disk) (loader_refusal g)) same
      (taking_told tells s counts syms shelf shelf_now (faults (loader old).disk) (faults (loader new).disk)
      (faults (loader refused.refused.one.at).disk) r (loader refused.refused.one.at).core.limit refused.refused.one.refused.failure
      (le_trans refused.same.stays.later refused.refused.one.same.stays.later) stops.cause small)

  -- the loader keeps one
  pub keeps_failure : IsSome (loader new).core.failure
  keeps_failure = subst IsSome (sym refused.refused.one.refused.stops.kept) refl

  -- what is told of it
  pub kept_told : (shelf shelf_now : List ℕ → ℕ) (told : Refusal) → IfSome (loader new).core.failure (λ f. told ≡ loader_refusal f)
      → IsFillingCause tells s counts syms shelf shelf_now (faults (loader old).disk) (faults (loader new).disk) told
  kept_told shelf shelf_now told h = by (loader new).core.failure (λ f is. refused_told shelf shelf_now f is) keeps_failure h
    where
      by : (o : Option Failure)
          → ((f : Failure) → o ≡ Some f → IsFillingCause tells s counts syms shelf shelf_now (faults (loader old).disk) (faults (loader new).disk)
          (loader_refusal f))
          → IsSome o → IfSome o (λ f. told ≡ loader_refusal f)
          → IsFillingCause tells s counts syms shelf shelf_now (faults (loader old).disk) (faults (loader new).disk) told
      by None cause some is = let bad : false ≡ true = some in absurd cc
      by (Some f) cause some is =
          subst (IsFillingCause tells s counts syms shelf shelf_now (faults (loader old).disk) (faults (loader new).disk)) (sym is) (cause f refl)
