-- Callees that are spliced into a caller one after another, from the last site to the first.
use Rattle.std.proofs.Common.{◌≡◌, ℕ, Bool, List, [], ◌∷◌, ◌++◌, Option, refl, sym, ap, subst, ◌∙◌}
use Rattle.il_core.specs.Routine.{RoutineParts}
use Rattle.il_core.specs.Valid.{IsValid}
use Rattle.il_core.specs.declared.shape.ShapeRow.{ShapeRow}
use Rattle.il_laws.specs.Inline.{inlined}
use Rattle.compact_form.specs.declared.body.RoutineBody.{RoutineBody}
use Rattle.naim_core.specs.declared.event.Failure.{Failure}
use Rattle.naim_loader.specs.Paged.{Paged, IsTrusted}
use Rattle.one_owner.specs.Alone.{IsResting}
use Rattle.plan_pools.specs.Contents.{routine_in}
use Rattle.plan_pools.specs.Printing.{Reads, Rests}
use Rattle.plan_pools.proofs.Frames.{reads_itself, reads_on, trusted_on}
use Rattle.plan_laws.specs.Inlining.{body_for}
use Rattle.plan_pools.specs.Accepting.{bodies_at}
use Rattle.plan_pools.specs.Fitting.{AreFit}
use Rattle.plan_pools.specs.Stopping.{StopsInlining}
use Rattle.plan_pools.specs.declared.sites.CalledSite.{CalledSite}
use Rattle.plan_pools.proofs.Bodies.{bodies_last, body_at, fit_both, inlined_both}
use Rattle.plan_pools.proofs.Stopped.{pools_read, routines_read, stops_after}

module _ {D : Type 0} (reach : D → ℕ) (honest : D → Bool) (faults : D → ℕ) (rows : List ShapeRow) where
  abbrev Pools : Type 0
  Pools = Paged RoutineBody (Unit {0}) D

  -- the routine r, and the sites left, came from r0 with the sites all
  pub record Splices (old now : Pools) (r0 : RoutineParts) (all : List CalledSite) (r : RoutineParts) (left : List CalledSite) : Type 0 where
    pub rests : IsResting now
    pub reads : Reads reach honest faults old now
    pub valid : IsValid rows r
    pub rest : IsTrusted reach honest old → inlined r (bodies_at (routine_in old) left) ≡ inlined r0 (bodies_at (routine_in old) all)
    pub fit : IsTrusted reach honest old → AreFit rows r0 (bodies_at (routine_in old) all) → AreFit rows r (bodies_at (routine_in old) left)

  pub splices_first : (l : Pools) (r : RoutineParts) (all : List CalledSite) → IsResting l → IsValid rows r → Splices l l r all r all
  splices_first l r all w valid =
      record { rests = w; reads = reads_itself reach honest faults l; valid = valid; rest = λ g. refl; fit = λ g h. h }

  module _ (old mid : Pools) (r0 r : RoutineParts) (all left rest : List CalledSite) (x : CalledSite) (s : Splices old mid r0 all r left)
      (last : left ≡ rest ++ x ∷ []) where
    at_last : bodies_at (routine_in old) left ≡ body_at (routine_in old) x ++ bodies_at (routine_in old) rest
    at_last = ap (bodies_at (routine_in old)) last ∙ bodies_last (routine_in old) rest x

    -- what stands there is what stood there
    same_body : IsTrusted reach honest old → body_at (routine_in mid) x ≡ body_at (routine_in old) x
    same_body g = ap (λ (o : Option RoutineParts). body_for (λ q. q) x.site o []) (routines_read reach honest faults old mid s.reads g x.callee)

    fits_last : IsTrusted reach honest old → AreFit rows r0 (bodies_at (routine_in old) all)
        → AreFit rows r (body_at (routine_in old) x) × AreFit rows (inlined r (body_at (routine_in old) x)) (bodies_at (routine_in old) rest)
    fits_last g h = fit_both rows r (body_at (routine_in old) x) (bodies_at (routine_in old) rest) (subst (AreFit rows r) at_last (s.fit g h))

    -- one more is spliced
    pub splices_next : (new : Pools) (r1 : RoutineParts) → Rests reach honest faults mid new → IsValid rows r1
        → (IsTrusted reach honest mid → r1 ≡ inlined r (body_for (λ q. q) x.site (routine_in mid x.callee) [])) → Splices old new r0 all r1 rest
    splices_next new r1 n valid is =
        let made = λ (g : IsTrusted reach honest old). is (trusted_on reach honest faults old mid s.reads g) ∙ ap (inlined r) (same_body g) in
        record {
          rests = n.rests;
          reads = reads_on reach honest faults old mid new s.reads n.reads;
          valid = valid;
          rest = λ g. ap (λ (z : RoutineParts). inlined z (bodies_at (routine_in old) rest)) (made g)
              ∙ sym (inlined_both r (body_at (routine_in old) x) (bodies_at (routine_in old) rest)) ∙ ap (inlined r) (sym at_last) ∙ s.rest g;
          fit = λ g h. subst (λ z. AreFit rows z (bodies_at (routine_in old) rest)) (sym (made g)) (fits_last g h).1;
        }

    -- or isn't
    pub splices_stop : (new : Pools) (e : Failure)
        → StopsInlining reach honest faults (λ q. IsTrusted reach honest mid → AreFit rows r (body_for (λ q. q) x.site (routine_in mid x.callee) []) → ⊥)
        (λ q n. ⊥) mid new e
        → StopsInlining reach honest faults (λ q. IsTrusted reach honest old → AreFit rows r0 (bodies_at (routine_in old) all) → ⊥) (λ q n. ⊥) old new e
    splices_stop new e stops =
        stops_after reach honest faults (λ q. IsTrusted reach honest mid → AreFit rows r (body_for (λ q. q) x.site (routine_in mid x.callee) []) → ⊥)
        (λ q. IsTrusted reach honest old → AreFit rows r0 (bodies_at (routine_in old) all) → ⊥) (λ q n. ⊥) (λ q n. ⊥) old mid new e
        (pools_read reach honest faults old mid s.reads)
        (λ q no g h. no (trusted_on reach honest faults old mid s.reads g) (subst (AreFit rows r) (sym (same_body g)) (fits_last g h).0))
        (λ q n c. c) stops
