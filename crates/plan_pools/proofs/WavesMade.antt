-- The waves of accepted calls make of a program what the laws say.
use Rattle.std.proofs.Common.{◌≡◌, ◌≤◌, ◌<◌, ◌+◌, ◌-◌, ℕ, zero, suc, Bool, true, false, nat_eq, List, [], ◌∷◌, Option, Some, None, refl, sym, ap, subst}
use Rattle.std.proofs.Common.{arith, ne_eqb, eq-eqb, ltb-true, ltb-false, ◌∙◌, inl, inr}
use Rattle.std.specs.Prelude.{nat_lt, option_map, if◌then◌else◌}
use Rattle.std.specs.List.{AllByRecursion}
use mathlib.Core.Path.{fun_ext}
use Rattle.list_laws.proofs.Entries.{same_number}
use Rattle.il_core.specs.Limits.{IsWithinLimits}
use Rattle.il_core.specs.Program.{routine_at}
use Rattle.il_core.specs.Routine.{RoutineParts}
use Rattle.il_core.specs.Valid.{IsProgram, IsValid}
use Rattle.il_core.specs.declared.program.IlProgram.{IlProgram}
use Rattle.il_core.proofs.Found.{found_all, found_number}
use Rattle.il_core.proofs.Programs.{routine_valid}
use Rattle.il_laws.specs.Inline.{SiteBody, inlined}
use Rattle.il_laws.specs.Keeping.{with_each}
use Rattle.il_laws.specs.Known.{known_sites}
use Rattle.il_laws.specs.Reach.{is_in}
use Rattle.il_laws.specs.Serving.{Serves}
use Rattle.il_laws.specs.Splice.{Site, site_at, splice, spliced}
use Rattle.il_laws.proofs.Serving.{each_follows, found_map, serves_itself}
use Rattle.plan_laws.specs.ChoiceLaws.{AreCalls}
use Rattle.plan_laws.specs.Inlining.{bodies, body_for, by_waves, inlined_routines, inlined_with}
use Rattle.plan_laws.specs.Levels.{height, is_acyclic, level, waves, waves_from}
use Rattle.plan_laws.specs.Numbers.{Choice, InlineSite, inline_sites, is_chosen}
use Rattle.plan_laws.proofs.Chosen.{waves_agree}
use Rattle.plan_laws.proofs.Inlines.{bodies_fall, bodies_serve, with_serves}
use Rattle.plan_laws.proofs.Levels.{levels_fall}
use Rattle.plan_laws.proofs.Sites.{sites_fall}
use Rattle.plan_pools.specs.Accepting.{bodies_at, sites_of, taken_in}
use Rattle.plan_pools.specs.Fitting.{AreFit}
use Rattle.plan_pools.specs.Inlining.{IsInlinedNeed}
use Rattle.plan_pools.specs.Waving.{after_wave, after_waves, IsSuited, IsWaveNeed, IsWavesNeed, SuitsWave, SuitWaves}
use Rattle.plan_pools.specs.declared.sites.CalledSite.{CalledSite}
use Rattle.plan_pools.proofs.Bodies.{bodies_same, taken_same}
use Rattle.plan_pools.proofs.Fits.{bodies_fit}
use Rattle.plan_pools.proofs.Lower.{sites_lower}
use Rattle.plan_pools.proofs.WaveMembers.{at_level, level_in}

spliced_pid : (r s : RoutineParts) (o : Option Site) → (spliced r s o).pid ≡ r.pid
spliced_pid r s None = refl
spliced_pid r s (Some x) = refl

inlined_pid : (r : RoutineParts) (xs : List SiteBody) → (inlined r xs).pid ≡ r.pid
inlined_pid r [] = refl
inlined_pid r (a ∷ rest) = inlined_pid (splice r a.site a.body) rest ∙ spliced_pid r a.body (site_at a.site r.blocks)

module _ (cs : List Choice) where
  -- what the wave of level k makes of a routine
  abbrev one_by : ℕ → List RoutineParts → RoutineParts → RoutineParts
  one_by k rs r = if nat_eq (level cs r.pid) k then inlined_with (λ q. q) rs cs r else r

  one_pid : (k : ℕ) (rs : List RoutineParts) (r : RoutineParts) → (one_by k rs r).pid ≡ r.pid
  one_pid k rs r = by (nat_eq (level cs r.pid) k)
    where
      by : (b : Bool) → (if b then inlined_with (λ q. q) rs cs r else r).pid ≡ r.pid
      by true = inlined_pid r (bodies (λ q. q) rs (inline_sites cs r.pid (known_sites r)))
      by false = refl

  keep_pids : (k : ℕ) (rs xs : List RoutineParts) → AllByRecursion (λ r. (one_by k rs r).pid ≡ r.pid) xs
  keep_pids k rs [] = tt
  keep_pids k rs (x ∷ xs) = (one_pid k rs x, keep_pids k rs xs)

  module _ (p : IlProgram) (valid : IsProgram p) where
    -- the program after so many waves
    abbrev pub after : ℕ → IlProgram
    after zero = p
    after (suc n) = with_each (after n) (one_by (suc n) (after n).routines)

    abbrev at : ℕ → ℕ → Option RoutineParts
    at n q = routine_at (after n).routines q

    shapes_same : (n : ℕ) → (after n).shapes ≡ p.shapes
    shapes_same zero = refl
    shapes_same (suc n) = shapes_same n

    one_serves : (n : ℕ) → IsProgram (after n) → (x : ℕ) (r : RoutineParts) → at n x ≡ Some r → Serves (after n) r (one_by (suc n) (after n).routines r)
    one_serves n ok x r e = by (nat_eq (level cs r.pid) (suc n))
      where
        by : (b : Bool) → Serves (after n) r (if b then inlined_with (λ q. q) (after n).routines cs r else r)
        by true = with_serves (after n) ok (λ q. q) (λ y q h. serves_itself (after n) q (routine_valid (after n) ok y q h)) cs x r e
        by false = serves_itself (after n) r (routine_valid (after n) ok x r e)

    after_valid : (n : ℕ) → IsProgram (after n)
    after_valid zero = valid
    after_valid (suc n) =
        (each_follows (after n) (after_valid n) (one_by (suc n) (after n).routines) (λ x r e. one_serves n (after_valid n) x r e)).valid

    at_next : (n q : ℕ) → at (suc n) q ≡ option_map (one_by (suc n) (after n).routines) (at n q)
    at_next n q =
        found_map (λ r. r.pid) (one_by (suc n) (after n).routines) q (after n).routines (keep_pids (suc n) (after n).routines (after n).routines)

    -- a wave changes its own level alone
    other_level : (n q : ℕ) → (level cs q ≡ suc n → ⊥) → at (suc n) q ≡ at n q
    other_level n q other = at_next n q ∙ by (at n q) refl
      where
        by : (o : Option RoutineParts) → at n q ≡ o → option_map (one_by (suc n) (after n).routines) o ≡ o
        by None e = refl
        by (Some r) e =
            let same : r.pid ≡ q = found_number (λ r. r.pid) q (after n).routines r e in
            let no : nat_eq (level cs r.pid) (suc n) ≡ false = ap (λ (x : ℕ). nat_eq (level cs x) (suc n)) same ∙ ne_eqb (level cs q) (suc n) other in
            ap (λ (b : Bool). Some (if b then inlined_with (λ q. q) (after n).routines cs r else r)) no

    at_before : (n q : ℕ) → n < level cs q → at n q ≡ routine_at p.routines q
    at_before zero q lt = refl
    at_before (suc n) q lt = other_level n q (λ same. absurd (omega arith)) ∙ at_before n q (omega arith)

    at_since : (m n k q : ℕ) → k ≡ n + m → level cs q ≤ n → at k q ≡ at n q
    at_since zero n k q e le = let same : k ≡ n = omega arith in ap (λ (j : ℕ). at j q) same
    at_since (suc m) n zero q e le = absurd (omega arith)
    at_since (suc m) n (suc k) q e le = other_level k q (λ same. absurd (omega arith)) ∙ at_since m n k q (omega arith) le

    waves_to : (m n k : ℕ) → k ≡ n + m → by_waves cs (suc n) m (after n).routines ≡ (after k).routines
    waves_to zero n k e = let same : n ≡ k = omega arith in ap (λ (j : ℕ). (after j).routines) same
    waves_to (suc m) n k e = waves_to m (suc n) k (omega arith)

    module _ (calls : AreCalls p.routines cs) (acyclic : is_acyclic cs ≡ true) where
      abbrev whole : List RoutineParts
      whole = inlined_routines p.routines cs

      all_done : (after (height cs)).routines ≡ whole
      all_done = let e : height cs ≡ 0 + height cs = omega arith in sym (waves_to (height cs) 0 (height cs) e) ∙ waves_agree p valid cs calls acyclic

      -- a routine whose wave is over is as in the end
      at_end : (n q : ℕ) → level cs q ≤ n → n ≤ height cs → at n q ≡ routine_at whole q
      at_end n q le most =
          let e : height cs ≡ n + (height cs - n) = omega arith in
          sym (at_since (height cs - n) n (height cs) q e le) ∙ ap (λ (rs : List RoutineParts). routine_at rs q) all_done

      module _ (small : AllByRecursion IsWithinLimits p.routines) (limits : AllByRecursion IsWithinLimits whole) where
        at_within : (n q : ℕ) (r : RoutineParts) → n ≤ height cs → at n q ≡ Some r → IsWithinLimits r
        at_within n q r most e = by (nat_lt n (level cs q)) refl
          where
            by : (b : Bool) → nat_lt n (level cs q) ≡ b → IsWithinLimits r
            by true t = (found_all (λ r. r.pid) IsWithinLimits q p.routines r small (sym (at_before n q (ltb-true n (level cs q) t)) ∙ e)).0
            by false t = (found_all (λ r. r.pid) IsWithinLimits q whole r limits (sym (at_end n q (ltb-false n (level cs q) t) most) ∙ e)).0

        bodies_within : (n : ℕ) → n ≤ height cs → (xs : List InlineSite) → AllByRecursion (λ a. IsWithinLimits a.body) (bodies (λ q. q) (after n).routines xs)
        bodies_within n most [] = tt
        bodies_within n most (x ∷ xs) = by (at n x.callee) refl (bodies_within n most xs)
          where
            by : (o : Option RoutineParts) → at n x.callee ≡ o → AllByRecursion (λ a. IsWithinLimits a.body) (bodies (λ q. q) (after n).routines xs)
                → AllByRecursion (λ a. IsWithinLimits a.body) (body_for (λ q. q) x.site o (bodies (λ q. q) (after n).routines xs))
            by None e h = h
            by (Some q) e h = (at_within n x.callee q most e, h)

        abbrev t : ℕ → ℕ → Bool
        t = is_chosen cs

        -- a caller of the next wave
        module _ (n q : ℕ) (r : RoutineParts) (most : suc n ≤ height cs) (here : level cs q ≡ suc n) (there : at n q ≡ Some r) where
          same_pid : r.pid ≡ q
          same_pid = found_number (λ r. r.pid) q (after n).routines r there

          becomes : at (suc n) q ≡ Some (inlined_with (λ q. q) (after n).routines cs r)
          becomes =
              at_next n q ∙ ap (option_map (one_by (suc n) (after n).routines)) there
              ∙ ap (λ (b : Bool). Some (if b then inlined_with (λ q. q) (after n).routines cs r else r))
              (eq-eqb (level cs r.pid) (suc n) (ap (level cs) same_pid ∙ here))

          fits : AreFit p.shapes r (bodies_at (at n) (sites_of t r))
          fits =
              let ok = after_valid n in
              let sites = inline_sites cs r.pid (known_sites r) in
              let fall = sites_fall cs r in
              let self = λ (y : ℕ) (z : RoutineParts) (h : at n y ≡ Some z). serves_itself (after n) z (routine_valid (after n) ok y z h) in
              let all = bodies_fit (after n) ok r (bodies (λ q. q) (after n).routines sites) (routine_valid (after n) ok q r there)
              (bodies_fall (after n) ok (λ q. q) self sites fall.0) (bodies_serve (after n) ok (λ q. q) self r sites fall.1)
              (at_within n q r (omega arith) there) (bodies_within n (omega arith) sites)
              (at_within (suc n) q (inlined_with (λ q. q) (after n).routines cs r) most becomes) in
              subst (λ rows. AreFit rows r (bodies_at (at n) (sites_of t r))) (shapes_same n)
              (subst (AreFit (after n).shapes r) (bodies_same (after n).routines cs r) all)

          first_found : routine_at p.routines r.pid ≡ Some r
          first_found = ap (routine_at p.routines) same_pid ∙ sym (at_before n q (omega arith)) ∙ there

          apart_from : (xs : List CalledSite) → AllByRecursion (λ x. level cs x.callee < level cs r.pid) xs
              → AllByRecursion (λ x. is_in (at_level cs (suc n)) x.callee ≡ false) xs
          apart_from [] h = tt
          apart_from (x ∷ xs) h =
              let lt = h.0 in
              let l = ap (level cs) same_pid in
              (level_in cs n x.callee ∙ ne_eqb (level cs x.callee) (suc n) (λ same. absurd (omega arith)), apart_from xs h.1)

          suited : IsSuited p.shapes t (at_level cs (suc n)) (at n) r
          suited = record {
            valid = subst (λ rows. IsValid rows r) (shapes_same n) (routine_valid (after n) (after_valid n) q r there);
            apart = apart_from (sites_of t r) (sites_lower p.routines cs r first_found calls (levels_fall cs acyclic));
            fit = fits;
          }

        is_level : (n q : ℕ) → is_in (at_level cs (suc n)) q ≡ true → level cs q ≡ suc n
        is_level n q e = same_number (level cs q) (suc n) (sym (level_in cs n q) ∙ e)

        wave_suits : (n : ℕ) → suc n ≤ height cs → SuitsWave p.shapes t (at_level cs (suc n)) (at n)
        wave_suits n most = record { each = λ q r chosen there. suited n q r most (is_level n q chosen) there }

        wave_makes : (n q : ℕ) → after_wave t (at_level cs (suc n)) (at n) q ≡ at (suc n) q
        wave_makes n q =
            ap (λ (b : Bool). if b then option_map (taken_in t (at n)) (at n q) else at n q) (level_in cs n q) ∙ by (at n q) refl ∙ sym (at_next n q)
          where
            by : (o : Option RoutineParts) → at n q ≡ o
                → (if nat_eq (level cs q) (suc n) then option_map (taken_in t (at n)) o else o) ≡ option_map (one_by (suc n) (after n).routines) o
            by None e = none (nat_eq (level cs q) (suc n))
              where
                none : (b : Bool) → (let o : Option RoutineParts = None in if b then option_map (taken_in t (at n)) o else o) ≡ None
                none true = refl
                none false = refl
            by (Some r) e =
                ap (λ (x : ℕ). if nat_eq (level cs x) (suc n) then Some (taken_in t (at n) r) else Some r)
                (sym (found_number (λ r. r.pid) q (after n).routines r e))
                ∙ same (nat_eq (level cs r.pid) (suc n))
              where
                same : (b : Bool) → (if b then Some (taken_in t (at n) r) else Some r) ≡ Some (if b then inlined_with (λ q. q) (after n).routines cs r else r)
                same true = ap Some (sym (taken_same (after n).routines cs r))
                same false = refl

        -- all waves that are left
        pub record Makes (pss : List (List ℕ)) (start : ℕ → Option RoutineParts) : Type 0 where
          pub suits : SuitWaves p.shapes t pss start
          pub ends : (q : ℕ) → after_waves t pss start q ≡ routine_at whole q
          pub needs : (q need : ℕ) → IsWavesNeed t pss start q need → IsInlinedNeed p cs q need

        needs_here : (n q need : ℕ) → suc n ≤ height cs → IsWaveNeed t (at_level cs (suc n)) (at n) q need → IsInlinedNeed p cs q need
        needs_here n q need most w =
            let here = is_level n q w.chosen in
            record {
              routine = taken_in t (at n) w.routine;
              is = sym (at_end (suc n) q (omega arith) most) ∙ becomes n q w.routine most here w.there
                  ∙ ap Some (taken_same (after n).routines cs w.routine);
              size = w.size;
            }

        pub all_make : (m n : ℕ) → n + m ≡ height cs → Makes (waves_from cs (suc n) m) (at n)
        all_make zero n e = record {
          suits = tt;
          ends = λ q. (let same : n ≡ height cs = omega arith in ap (λ (j : ℕ). at j q) same ∙ ap (λ (rs : List RoutineParts). routine_at rs q) all_done);
          needs = λ q need h. absurd h;
        }
        all_make (suc m) n e =
            let most : suc n ≤ height cs = omega arith in
            let same : after_wave t (at_level cs (suc n)) (at n) ≡ at (suc n) = fun_ext (wave_makes n) in
            let rest = subst (λ (f : ℕ → Option RoutineParts). Makes (waves_from cs (suc (suc n)) m) f) (sym same) (all_make m (suc n) (omega arith)) in
            record {
              suits = (wave_suits n most, rest.suits);
              ends = rest.ends;
              needs = λ q need h. elim h [ inl here ↦ needs_here n q need most here | inr later ↦ rest.needs q need later ];
            }

        -- the waves of the laws
        pub waves_make : Makes (waves cs) (routine_at p.routines)
        waves_make = let e : 0 + height cs ≡ height cs = omega arith in all_make (height cs) 0 e
