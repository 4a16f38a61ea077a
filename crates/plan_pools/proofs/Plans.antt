-- What is made in pools, one step after another.
use Rattle.std.proofs.Common.{◌≡◌, ◌*◌, ℕ, Bool, List, [], ◌∷◌, ◌++◌, refl, sym, ap, subst, le_trans, le_refl, ◌∙◌}
use Rattle.std.proofs.lemmas.List.{append-nil, append_assoc}
use Rattle.std.proofs.lemmas.List.Elements.{Contains-append_left, Contains-append_right}
use Rattle.il_core.specs.declared.program.IlProgram.{IlProgram}
use Rattle.il_core.specs.declared.shape.ShapeRow.{ShapeRow}
use Rattle.compact_form.specs.declared.body.RoutineBody.{RoutineBody}
use Rattle.naim_core.specs.declared.event.Failure.{Failure}
use Rattle.naim_core.specs.declared.event.Failure.TheVariants as failure
use Rattle.naim_loader.specs.Paged.{Paged, IsGood, IsTrusted}
use Rattle.one_owner.proofs.Frames.{rose_since}
use Rattle.plan_pools.specs.Noting.{AllNote, GoesOn}
use Rattle.plan_pools.specs.Planning.{Holds, IsMade, IsNeed, PlanCause, StopsMaking}

pub notes_on : (xs ys : List (List (ℕ × RoutineBody))) (ps qs : List IlProgram) → AllNote xs ps → AllNote ys qs → AllNote (xs ++ ys) (ps ++ qs)
notes_on [] ys [] qs a b = b
notes_on [] ys (p ∷ ps) qs a b = absurd a
notes_on (x ∷ xs) ys [] qs a b = absurd a
notes_on (x ∷ xs) ys (p ∷ ps) qs a b = (a.0, notes_on xs ys ps qs a.1 b)

pub need_left : (ps qs : List IlProgram) (q n : ℕ) → IsNeed ps q n → IsNeed (ps ++ qs) q n
need_left ps qs q n h = record {
  program = h.program;
  is_one = Contains-append_left ps qs h.program h.is_one;
  routine = h.routine;
  is = h.is;
  size = h.size;
}

pub need_right : (ps qs : List IlProgram) (q n : ℕ) → IsNeed qs q n → IsNeed (ps ++ qs) q n
need_right ps qs q n h = record {
  program = h.program;
  is_one = Contains-append_right ps qs h.program h.is_one;
  routine = h.routine;
  is = h.is;
  size = h.size;
}

module _ {T B D : Type 0} (faults : D → ℕ) where
  pub goes_itself : (l : Paged T B D) → GoesOn faults [] l l
  goes_itself l = record {
    limit = refl;
    workers = refl;
    first = refl;
    later = le_refl (faults l.disk);
    insertions = refl;
    programs = sym (append-nil l.trail.programs);
  }

  pub goes_on : (xs ys : List (List (ℕ × T))) (a b c : Paged T B D) → GoesOn faults xs a b → GoesOn faults ys b c → GoesOn faults (xs ++ ys) a c
  goes_on xs ys a b c x y = record {
    limit = y.limit ∙ x.limit;
    workers = y.workers ∙ x.workers;
    first = y.first ∙ x.first;
    later = le_trans x.later y.later;
    insertions = y.insertions ∙ x.insertions;
    programs = y.programs ∙ ap (λ l. l ++ ys) x.programs ∙ append_assoc a.trail.programs xs ys;
  }

  pub trusted_still : (reach : D → ℕ) (honest : D → Bool) (xs : List (List (ℕ × T))) (a b : Paged T B D) → GoesOn faults xs a b
      → IsTrusted reach honest a → IsTrusted reach honest b
  trusted_still reach honest xs a b s g = subst (λ n. IsGood reach honest n b.first) (sym s.limit) (subst (IsGood reach honest a.core.limit) (sym s.first) g)

  pub trusted_before : (reach : D → ℕ) (honest : D → Bool) (xs : List (List (ℕ × T))) (a b : Paged T B D) → GoesOn faults xs a b
      → IsTrusted reach honest b → IsTrusted reach honest a
  trusted_before reach honest xs a b s g = subst (λ n. IsGood reach honest n a.first) s.limit (subst (IsGood reach honest b.core.limit) s.first g)

abbrev Pools : Type 0 → Type 0
Pools D = Paged RoutineBody (Unit {0}) D

module _ {D : Type 0} (reach : D → ℕ) (honest : D → Bool) (faults : D → ℕ) (rows : List ShapeRow) (main : ℕ) where
  -- what two steps make
  module _ (programs : IlProgram → List IlProgram) (last : IlProgram → IlProgram) (a b : Pools D) (mid : List ShapeRow)
      (x : IsMade reach honest faults programs last rows main a b mid) where
    pub made_on : (more : IlProgram → List IlProgram) (end : IlProgram → IlProgram) (c : Pools D) (left : List ShapeRow)
        → IsMade reach honest faults more end mid main b c left
        → IsMade reach honest faults (λ p. programs p ++ more (last p)) (λ p. end (last p)) rows main a c left
    made_on more end c left y = record {
      rests = y.rests;
      pools = y.pools;
      noted = x.noted ++ y.noted;
      goes = goes_on faults x.noted y.noted a b c x.goes y.goes;
      program = λ p h.
          let r = x.program p h in let s = y.program (last p) r.holds in
          record { holds = s.holds; notes = notes_on x.noted y.noted (programs p) (more (last p)) r.notes s.notes };
    }

    cause_on : (more : IlProgram → List IlProgram) (now : ℕ) (e : Failure) → PlanCause reach honest faults more mid main b (faults b.disk) now e
        → PlanCause reach honest faults (λ p. programs p ++ more (last p)) rows main a (faults a.disk) now e
    cause_on more now failure.Repository c = rose_since (faults a.disk) (faults b.disk) now x.goes.later c
    cause_on more now (failure.Damaged place kept found) c =
        (c.0, (c.1.0, c.1.1 ∙ ap (λ n. c.1.0 * n) x.goes.limit), λ g. c.2 (trusted_still faults reach honest x.noted a b x.goes g))
    cause_on more now (failure.Unreadable place) c =
        ((c.0.0, c.0.1 ∙ ap (λ n. c.0.0 * n) x.goes.limit), λ g. c.1 (trusted_still faults reach honest x.noted a b x.goes g))
    cause_on more now (failure.Unfit q) c = λ p h. c (last p) (x.program p h).holds
    cause_on more now (failure.TooSmall q need limit) c =
        (c.0 ∙ x.goes.limit, c.1, λ p h. need_right (programs p) (more (last p)) q need (c.2 (last p) (x.program p h).holds))
    cause_on more now failure.Memory c = tt

    pub stops_on : (more : IlProgram → List IlProgram) (c : Pools D) (e : Failure) → StopsMaking reach honest faults more mid main b c e
        → StopsMaking reach honest faults (λ p. programs p ++ more (last p)) rows main a c e
    stops_on more c e s = record {
      kept = s.kept;
      home = s.home;
      noted = x.noted ++ s.noted;
      goes = goes_on faults x.noted s.noted a b c x.goes s.goes;
      cause = cause_on more (faults c.disk) e s.cause;
    }

  -- the same programs in other words
  pub made_as : (programs programs' : IlProgram → List IlProgram) (last last' : IlProgram → IlProgram) → ((p : IlProgram) → programs p ≡ programs' p)
      → ((p : IlProgram) → last p ≡ last' p) → (a b : Pools D) (left : List ShapeRow) → IsMade reach honest faults programs last rows main a b left
      → IsMade reach honest faults programs' last' rows main a b left
  made_as programs programs' last last' same end a b left x = record {
    rests = x.rests;
    pools = x.pools;
    noted = x.noted;
    goes = x.goes;
    program = λ p h.
        let r = x.program p h in
        record { holds = subst (Holds reach honest faults b left main) (end p) r.holds; notes = subst (AllNote x.noted) (same p) r.notes };
  }

  cause_so : (programs programs' : IlProgram → List IlProgram) → ((p : IlProgram) (q n : ℕ) → IsNeed (programs p) q n → IsNeed (programs' p) q n)
      → (l : Pools D) (before now : ℕ) (e : Failure) → PlanCause reach honest faults programs rows main l before now e
      → PlanCause reach honest faults programs' rows main l before now e
  cause_so programs programs' so l before now failure.Repository c = c
  cause_so programs programs' so l before now (failure.Damaged place kept found) c = c
  cause_so programs programs' so l before now (failure.Unreadable place) c = c
  cause_so programs programs' so l before now (failure.Unfit q) c = c
  cause_so programs programs' so l before now (failure.TooSmall q need limit) c = (c.0, c.1, λ p h. so p q need (c.2 p h))
  cause_so programs programs' so l before now failure.Memory c = c

  -- a failure among more programs
  pub stops_so : (programs programs' : IlProgram → List IlProgram) → ((p : IlProgram) (q n : ℕ) → IsNeed (programs p) q n → IsNeed (programs' p) q n)
      → (a b : Pools D) (e : Failure) → StopsMaking reach honest faults programs rows main a b e → StopsMaking reach honest faults programs' rows main a b e
  stops_so programs programs' so a b e s = record {
    kept = s.kept;
    home = s.home;
    noted = s.noted;
    goes = s.goes;
    cause = cause_so programs programs' so a (faults a.disk) (faults b.disk) e s.cause;
  }
