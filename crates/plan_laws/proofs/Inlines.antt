-- Routines with all accepted callees spliced into them do what they did, whatever sites were accepted.
use Rattle.std.proofs.Common.{◌≡◌, ℕ, zero, suc, ◌<◌, List, [], ◌∷◌, refl, length, slice_get}
use Rattle.std.specs.Prelude.{Option, Some, None}
use Rattle.std.specs.List.{AllByRecursion}
use Rattle.il_core.specs.declared.program.IlProgram.{IlProgram}
use Rattle.il_core.specs.Program.{routine_at}
use Rattle.il_core.specs.Routine.{RoutineParts}
use Rattle.il_core.specs.Valid.{IsProgram}
use Rattle.il_laws.specs.Inline.{SiteBody, IsFalling}
use Rattle.il_laws.specs.Keeping.{MayFollow, with_each}
use Rattle.il_laws.specs.Known.{known_sites}
use Rattle.il_laws.specs.Serving.{Serves}
use Rattle.il_laws.specs.Sites.{callees}
use Rattle.il_laws.specs.SpliceLaws.{ServesSite}
use Rattle.il_core.proofs.Programs.{routine_valid}
use Rattle.il_laws.proofs.Serving.{serves_itself, each_follows}
use Rattle.il_laws.proofs.SpliceServes.{inlined_serves}
use Rattle.plan_laws.specs.Numbers.{Choice, InlineSite, inline_sites}
use Rattle.plan_laws.specs.Inlining.{body_for, bodies, inlined_with, inlined_by, inlined_routine}
use Rattle.plan_laws.proofs.Sites.{AreFalling, CallsIt, sites_fall}

module _ (p : IlProgram) (valid : IsProgram p) where
  -- what goes to accepted sites, where it serves in the callees' places
  module _ (f : RoutineParts → RoutineParts) (serves : (x : ℕ) (q : RoutineParts) → routine_at p.routines x ≡ Some q → Serves p q (f q)) where
    body_below : (k j : ℕ) (o : Option RoutineParts) (xs : List SiteBody) → j < k → AllByRecursion (λ b. b.site < k) xs
        → AllByRecursion (λ b. b.site < k) (body_for f j o xs)
    body_below k j None xs lt h = h
    body_below k j (Some q) xs lt h = (lt, h)

    bodies_below : (k : ℕ) (xs : List InlineSite) → AllByRecursion (λ y. y.site < k) xs → AllByRecursion (λ b. b.site < k) (bodies f p.routines xs)
    bodies_below k [] h = tt
    bodies_below k (x ∷ xs) h =
        body_below k x.site (routine_at p.routines x.callee) (bodies f p.routines xs) h.0 (bodies_below k xs h.1)

    body_falls : (j : ℕ) (o : Option RoutineParts) (xs : List SiteBody) → AllByRecursion (λ b. b.site < j) xs → IsFalling xs
        → IsFalling (body_for f j o xs)
    body_falls j None xs h g = g
    body_falls j (Some q) xs h g = (h, g)

    pub bodies_fall : (xs : List InlineSite) → AreFalling xs → IsFalling (bodies f p.routines xs)
    bodies_fall [] h = tt
    bodies_fall (x ∷ xs) h =
        body_falls x.site (routine_at p.routines x.callee) (bodies f p.routines xs) (bodies_below x.site xs h.0) (bodies_fall xs h.1)

    body_serves : (r : RoutineParts) (k callee : ℕ) (o : Option RoutineParts) (xs : List SiteBody) → routine_at p.routines callee ≡ o
        → slice_get (callees r.blocks) k ≡ Some callee → AllByRecursion (ServesSite p r) xs → AllByRecursion (ServesSite p r) (body_for f k o xs)
    body_serves r k callee None xs e at h = h
    body_serves r k callee (Some q) xs e at h =
        (record { callee = callee; calls = at; origin = q; is = e; serves = serves callee q e }, h)

    pub bodies_serve : (r : RoutineParts) (xs : List InlineSite) → AllByRecursion (CallsIt r.blocks) xs
        → AllByRecursion (ServesSite p r) (bodies f p.routines xs)
    bodies_serve r [] h = tt
    bodies_serve r (x ∷ xs) h =
        body_serves r x.site x.callee (routine_at p.routines x.callee) (bodies f p.routines xs) refl h.0 (bodies_serve r xs h.1)

    pub with_serves : (cs : List Choice) (x : ℕ) (r : RoutineParts) → routine_at p.routines x ≡ Some r
        → Serves p r (inlined_with f p.routines cs r)
    with_serves cs x r e =
        let sites = inline_sites cs r.pid (known_sites r) in
        let fall = sites_fall cs r in
        inlined_serves p valid r (bodies f p.routines sites) (routine_valid p valid x r e) (bodies_fall sites fall.0) (bodies_serve r sites fall.1)

  pub by_serves : (cs : List Choice) (n x : ℕ) (r : RoutineParts) → routine_at p.routines x ≡ Some r → Serves p r (inlined_by p.routines cs n r)
  by_serves cs zero x r e = serves_itself p r (routine_valid p valid x r e)
  by_serves cs (suc n) x r e = with_serves (inlined_by p.routines cs n) (λ y q eq. by_serves cs n y q eq) cs x r e

  pub routines_follow : (cs : List Choice) → MayFollow p (with_each p (inlined_routine p.routines cs))
  routines_follow cs = each_follows p valid (inlined_routine p.routines cs) (λ x r e. by_serves cs (suc (length cs)) x r e)
