-- Where the whole is within the limits, each splice on the way to it is.
use Rattle.std.proofs.Common.{◌≡◌, ◌≤◌, ◌<◌, ◌+◌, ℕ, zero, suc, Bool, true, false, nat_eq, List, [], ◌∷◌, slice_get, Option, Some, None, refl, sym, ap}
use Rattle.std.proofs.Common.{subst, arith, ne_eqb, eq-eqb, ◌∙◌}
use Rattle.std.specs.Prelude.{◌||◌, ◌&&◌, if◌then◌else◌}
use Rattle.std.specs.List.{AllByRecursion}
use Rattle.std.proofs.lemmas.Option.{same_Some}
use Rattle.il_core.specs.Limits.{IsBlock, IsWithinLimits, max_parameters, max_pids}
use Rattle.il_core.specs.Program.{routine_at}
use Rattle.il_core.specs.Routine.{RoutineParts}
use Rattle.il_core.specs.Size.{size}
use Rattle.il_core.specs.Valid.{IsProgram, IsValid}
use Rattle.il_core.specs.declared.instr.Block.{Block}
use Rattle.il_core.specs.declared.program.IlProgram.{IlProgram}
use Rattle.il_laws.specs.Inline.{SiteBody, inlined, IsFalling}
use Rattle.il_laws.specs.Known.{KnownSite, known_sites}
use Rattle.il_laws.specs.Sites.{callees}
use Rattle.il_laws.specs.Splice.{splice}
use Rattle.il_laws.specs.SpliceLaws.{ServesSite}
use Rattle.il_laws.proofs.SpliceServes.{splice_serves, still_serve}
use Rattle.il_laws.proofs.SpliceSizes.{inlined_sizes}
use Rattle.plan_laws.specs.Inlining.{bodies, body_for}
use Rattle.plan_laws.specs.Numbers.{Choice, InlineSite, falling, if_chosen, inline_sites, is_chosen}
use Rattle.plan_laws.proofs.InstrLimits.{by_within}
use Rattle.plan_pools.specs.Fitting.{AreFit}
use Rattle.plan_pools.proofs.Lower.{known_at}

abbrev AreWithin : List Block → Type 0
AreWithin bs = AllByRecursion IsBlock bs

-- ---- the instructions of one splice: it is what one accepted call makes

other_site : (c : Choice) (pid k : ℕ) → (c.site ≡ k → ⊥) → is_chosen (c ∷ []) pid k ≡ false
other_site c pid k other = ap (λ (b : Bool). (nat_eq c.caller pid && b) || false) (ne_eqb c.site k other) ∙ by (nat_eq c.caller pid)
  where
    by : (b : Bool) → ((b && false) || false) ≡ false
    by true = refl
    by false = refl

none_behind : (c : Choice) (pid k : ℕ) (xs : List KnownSite) (lower : List InlineSite) → c.site < k → falling (c ∷ []) pid k xs lower ≡ lower
none_behind c pid k [] lower lt = refl
none_behind c pid k (x ∷ xs) lower lt =
    none_behind c pid (suc k) xs (if_chosen (is_chosen (c ∷ []) pid k) k x lower) (omega arith)
    ∙ ap (λ (b : Bool). if_chosen b k x lower) (other_site c pid k (λ same. absurd (omega arith)))

one_chosen : (c : Choice) (pid k : ℕ) (xs : List KnownSite) (lower : List InlineSite) (i : ℕ) (x : KnownSite) → c.caller ≡ pid → c.site ≡ k + i
    → slice_get xs i ≡ Some x → falling (c ∷ []) pid k xs lower ≡ record { site = c.site; callee = x.callee } ∷ lower
one_chosen c pid k [] lower i x caller site at = let bad : None ≡ Some x = at in absurd cc
one_chosen c pid k (y ∷ ys) lower zero x caller site at =
    let here : c.site ≡ k = omega arith in
    let chosen : is_chosen (c ∷ []) pid k ≡ true =
    ap (λ (b : Bool). (b && nat_eq c.site k) || false) (eq-eqb c.caller pid caller) ∙ ap (λ (b : Bool). b || false) (eq-eqb c.site k here) in
    let same : y ≡ x = same_Some y x at in
    none_behind c pid (suc k) ys (if_chosen (is_chosen (c ∷ []) pid k) k y lower) (omega arith)
    ∙ ap (λ (b : Bool). if_chosen b k y lower) chosen ∙ ap (λ (n : ℕ). record { site = n; callee = y.callee } ∷ lower) (sym here)
    ∙ ap (λ (z : KnownSite). record { site = c.site; callee = z.callee } ∷ lower) same
one_chosen c pid k (y ∷ ys) lower (suc i) x caller site at =
    let not_here = other_site c pid k (λ same. absurd (omega arith)) in
    one_chosen c pid (suc k) ys (if_chosen (is_chosen (c ∷ []) pid k) k y lower) i x caller (omega arith) at
    ∙ ap (λ (b : Bool). record { site = c.site; callee = x.callee } ∷ if_chosen b k y lower) not_here

pub splice_within : (r q : RoutineParts) (k x : ℕ) → slice_get (callees r.blocks) k ≡ Some x → AreWithin r.blocks → AreWithin q.blocks
    → AreWithin (splice r k q).blocks
splice_within r q k x at h g =
    let c : Choice = record { caller = r.pid; site = k; callee = x } in
    let body : RoutineParts = record q { pid = x } in
    let s = known_at r k x at in
    let first : k ≡ 0 + k = omega arith in
    let sites : inline_sites (c ∷ []) r.pid (known_sites r) ≡ record { site = k; callee = x } ∷ [] =
    one_chosen c r.pid 0 (known_sites r) [] k s.0 refl first s.1 ∙ ap (λ (n : ℕ). record { site = k; callee = n } ∷ []) s.2 in
    let there : routine_at (body ∷ []) x ≡ Some body = ap (λ (b : Bool). if b then Some body else None) (eq-eqb x x refl) in
    let made : bodies (λ z. z) (body ∷ []) (inline_sites (c ∷ []) r.pid (known_sites r)) ≡ record { site = k; body = body } ∷ [] =
    ap (λ (l : List InlineSite). bodies (λ z. z) (body ∷ []) l) sites ∙ ap (λ (o : Option RoutineParts). body_for (λ z. z) k o []) there in
    subst (λ (l : List SiteBody). AreWithin (inlined r l).blocks) made (by_within (body ∷ []) (g, tt) (c ∷ []) 1 r h)

-- ---- all splices of a routine

module _ (p : IlProgram) (valid : IsProgram p) where
  pub bodies_fit : (r : RoutineParts) (xs : List SiteBody) → IsValid p.shapes r → IsFalling xs → AllByRecursion (ServesSite p r) xs → IsWithinLimits r
      → AllByRecursion (λ a. IsWithinLimits a.body) xs → IsWithinLimits (inlined r xs) → AreFit p.shapes r xs
  bodies_fit r [] ok falls h within bodies limits = tt
  bodies_fit r (a ∷ rest) ok falls h within bodies limits =
      let first = h.0 in
      let r1 = splice r a.site a.body in
      let one = splice_serves p valid r first.origin a.body a.site first.callee ok first.calls first.is first.serves in
      let still = still_serve p valid r a.body a.site first.callee first.calls rest falls.0 h.1 in
      let sizes = inlined_sizes p valid r1 rest one.valid falls.1 still in
      let s1 = sizes.size in let s2 = sizes.regs in let s3 = sizes.arrays in let s4 = sizes.elements in
      let l1 = limits.size in let l2 = limits.regs in let l3 = limits.arrays in let l4 = limits.elements in
      let w : IsWithinLimits r1 = record {
        pid = subst (λ n. n < max_pids) (sym one.pid) within.pid;
        params = subst (λ n. n ≤ max_parameters) (sym one.params) within.params;
        regs = omega arith;
        arrays = omega arith;
        elements = omega arith;
        size = omega arith;
        instrs = splice_within r a.body a.site first.callee first.calls within.instrs (bodies.0).instrs;
      } in (
        record { body = first.serves.valid; valid = one.valid; within = w },
        bodies_fit r1 rest one.valid falls.1 still w bodies.1 limits,
      )
