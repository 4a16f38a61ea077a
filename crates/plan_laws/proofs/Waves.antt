-- Inlining wave by wave is inlining by recursion, where the accepted sites' levels fall.
use Rattle.std.proofs.Common.{◌≡◌, ℕ, zero, suc, ◌+◌, ◌<◌, ◌≤◌, List, [], ◌∷◌, map, option_map, Bool, true, false, refl, ap, ap₂, subst, sym, ◌∙◌}
use Rattle.std.proofs.Common.{arith, length, eqb-true, eq-eqb, le-leb, leb-true}
use Rattle.std.specs.Prelude.{max, nat_eq, nat_le, if◌then◌else◌, Option, Some, None}
use Rattle.std.specs.List.{AllByRecursion}
use Rattle.il_core.specs.Program.{routine_at}
use Rattle.il_core.specs.Routine.{RoutineParts}
use Rattle.il_laws.specs.Inline.{SiteBody, inlined}
use Rattle.il_laws.specs.Known.{known_sites}
use Rattle.il_laws.specs.Splice.{Site, site_at, spliced, splice}
use Rattle.il_core.proofs.Found.{found_all, found_number}
use Rattle.il_laws.proofs.Serving.{found_map}
use Rattle.plan_laws.specs.Orders.{greatest}
use Rattle.plan_laws.specs.Numbers.{Choice, InlineSite, inline_sites}
use Rattle.plan_laws.specs.Levels.{calls_from, chain, level, height}
use Rattle.plan_laws.specs.Inlining.{body_for, bodies, inlined_with, inlined_by, inlined_routine, inlined_routines, wave, by_waves}

spliced_pid : (r s : RoutineParts) (o : Option Site) → (spliced r s o).pid ≡ r.pid
spliced_pid r s None = refl
spliced_pid r s (Some x) = refl

inlined_pid : (r : RoutineParts) (xs : List SiteBody) → (inlined r xs).pid ≡ r.pid
inlined_pid r [] = refl
inlined_pid r (a ∷ rest) = inlined_pid (splice r a.site a.body) rest ∙ spliced_pid r a.body (site_at a.site r.blocks)

-- the bodies are the same where f and g agree on the callees
same_bodies : (f g : RoutineParts → RoutineParts) (rs qs : List RoutineParts) (xs : List InlineSite)
    → AllByRecursion (λ x. option_map f (routine_at rs x.callee) ≡ option_map g (routine_at qs x.callee)) xs → bodies f rs xs ≡ bodies g qs xs
same_bodies f g rs qs [] h = refl
same_bodies f g rs qs (x ∷ xs) h =
    made f x.site (routine_at rs x.callee) (bodies f rs xs)
    ∙ ap₂ {A = Option RoutineParts} {B = List SiteBody} {C = List SiteBody} (λ o ys. body_for (λ q. q) x.site o ys) h.0 (same_bodies f g rs qs xs h.1)
    ∙ sym (made g x.site (routine_at qs x.callee) (bodies g qs xs))
  where
    made : (e : RoutineParts → RoutineParts) (k : ℕ) (o : Option RoutineParts) (ys : List SiteBody)
        → body_for e k o ys ≡ body_for (λ q. q) k (option_map e o) ys
    made e k None ys = refl
    made e k (Some q) ys = refl

module _ (cs : List Choice) where
  -- no chain is longer than its bound
  most_chain : (n : ℕ) (xs : List Choice) → ((q : ℕ) → chain cs n q ≤ n) → greatest (λ c. suc (chain cs n c.callee)) xs ≤ suc n
  most_chain n [] h = omega arith
  most_chain n (x ∷ xs) h = let one = h x.callee in let rest = most_chain n xs h in omega arith

  chain_most : (n q : ℕ) → chain cs n q ≤ n
  chain_most zero q = omega arith
  chain_most (suc n) q = most_chain n (calls_from cs q) (λ x. chain_most n x)

  abbrev sites : RoutineParts → List InlineSite
  sites r = inline_sites cs r.pid (known_sites r)

  -- the levels fall from a routine to its accepted callees
  abbrev pub SitesFall : RoutineParts → Type 0
  SitesFall r = AllByRecursion (λ x. level cs x.callee < level cs r.pid) (sites r)

  module _ (rs : List RoutineParts) (falls : AllByRecursion SitesFall rs) where
    abbrev by_depth : ℕ → RoutineParts → RoutineParts
    by_depth n r = inlined_by rs cs n r

    -- where it holds of each routine that a depth suffices for its level, it holds at each callee
    at_callee : (n : ℕ) → ((q : RoutineParts) → SitesFall q → level cs q.pid ≤ n → by_depth n q ≡ by_depth (suc n) q)
        → (x : ℕ) (o : Option RoutineParts) → routine_at rs x ≡ o → level cs x ≤ n → option_map (by_depth n) o ≡ option_map (by_depth (suc n)) o
    at_callee n h x None e le = refl
    at_callee n h x (Some q) e le =
        let both = found_all (λ r. r.pid) SitesFall x rs q falls e in
        ap Some (h q both.0 (subst (λ (y : ℕ). level cs y ≤ n) (sym both.1) le))

    at_callees : (n : ℕ) → ((q : RoutineParts) → SitesFall q → level cs q.pid ≤ n → by_depth n q ≡ by_depth (suc n) q)
        → (m : ℕ) → m ≤ suc n → (xs : List InlineSite) → AllByRecursion (λ x. level cs x.callee < m) xs
        → AllByRecursion (λ x. option_map (by_depth n) (routine_at rs x.callee) ≡ option_map (by_depth (suc n)) (routine_at rs x.callee)) xs
    at_callees n h m le [] g = tt
    at_callees n h m le (x ∷ xs) g =
        let lt = g.0 in
        (at_callee n h x.callee (routine_at rs x.callee) refl (omega arith), at_callees n h m le xs g.1)

    none : (n m : ℕ) (r : RoutineParts) (xs : List InlineSite) → m ≤ 0 → AllByRecursion (λ x. level cs x.callee < m) xs
        → inlined r (bodies (by_depth n) rs xs) ≡ r
    none n m r [] le g = refl
    none n m r (x ∷ xs) le g = let lt = g.0 in absurd (omega arith)

    -- a depth of a routine's level suffices for all that is inlined into it
    more_depth : (n : ℕ) (r : RoutineParts) → SitesFall r → level cs r.pid ≤ n → by_depth n r ≡ by_depth (suc n) r
    more_depth zero r h le = sym (none 0 (level cs r.pid) r (sites r) le h)
    more_depth (suc n) r h le =
        ap (λ (xs : List SiteBody). inlined r xs) (same_bodies (by_depth n) (by_depth (suc n)) rs rs (sites r)
        (at_callees n (λ q g lt. more_depth n q g lt) (level cs r.pid) le (sites r) h))

    abbrev whole : RoutineParts → RoutineParts
    whole r = inlined_routine rs cs r

    whole_pid : (r : RoutineParts) → (whole r).pid ≡ r.pid
    whole_pid r = inlined_pid r (bodies (by_depth (length cs)) rs (sites r))

    -- a whole callee, at each site of a routine
    whole_callee : (x : ℕ) (o : Option RoutineParts) → routine_at rs x ≡ o → level cs x ≤ length cs
        → option_map (by_depth (length cs)) o ≡ option_map whole o
    whole_callee x o e le = at_callee (length cs) (λ q h lt. more_depth (length cs) q h lt) x o e le

    whole_callees : (m : ℕ) → m ≤ suc (length cs) → (xs : List InlineSite) → AllByRecursion (λ x. level cs x.callee < m) xs
        → AllByRecursion (λ x. option_map (by_depth (length cs)) (routine_at rs x.callee) ≡ option_map whole (routine_at rs x.callee)) xs
    whole_callees m le [] h = tt
    whole_callees m le (x ∷ xs) h =
        let lt = h.0 in
        (whole_callee x.callee (routine_at rs x.callee) refl (omega arith), whole_callees m le xs h.1)

    -- the inlined routine takes in its inlined callees
    whole_is : (r : RoutineParts) → SitesFall r → whole r ≡ inlined_with whole rs cs r
    whole_is r h =
        ap (λ (xs : List SiteBody). inlined r xs) (same_bodies (by_depth (length cs)) whole rs rs (sites r)
        (whole_callees (level cs r.pid) (chain_most (suc (length cs)) r.pid) (sites r) h))

    -- after the waves up to level k
    abbrev done : ℕ → RoutineParts → RoutineParts
    done k r = if nat_le (level cs r.pid) k then whole r else r

    done_by : (k : ℕ) (r : RoutineParts) (b : Bool) → (if b then whole r else r).pid ≡ r.pid
    done_by k r true = whole_pid r
    done_by k r false = refl

    done_pid : (k : ℕ) (r : RoutineParts) → (done k r).pid ≡ r.pid
    done_pid k r = done_by k r (nat_le (level cs r.pid) k)

    done_low : (k : ℕ) (r : RoutineParts) → level cs r.pid ≤ k → done k r ≡ whole r
    done_low k r le = ap (λ (b : Bool). if b then whole r else r) (le-leb (level cs r.pid) k le)

    done_high : (k : ℕ) (r : RoutineParts) → k < level cs r.pid → done k r ≡ r
    done_high k r lt = by_test (nat_le (level cs r.pid) k) refl
      where
        by_test : (b : Bool) → nat_le (level cs r.pid) k ≡ b → (if b then whole r else r) ≡ r
        by_test true e = let le = leb-true (level cs r.pid) k e in absurd (omega arith)
        by_test false e = refl

    keep_pids : (k : ℕ) (xs : List RoutineParts) → AllByRecursion (λ r. (done k r).pid ≡ r.pid) xs
    keep_pids k [] = tt
    keep_pids k (x ∷ xs) = (done_pid k x, keep_pids k xs)

    abbrev after_waves : ℕ → List RoutineParts
    after_waves k = map (done k) rs

    -- a callee of a lower level is whole already
    done_callee : (k x : ℕ) (o : Option RoutineParts) → routine_at rs x ≡ o → level cs x ≤ k → option_map (λ q. q) (option_map (done k) o) ≡ option_map whole o
    done_callee k x None e le = refl
    done_callee k x (Some q) e le = ap Some (done_low k q (subst (λ (y : ℕ). level cs y ≤ k) (sym (found_number (λ r. r.pid) x rs q e)) le))

    done_callees : (k : ℕ) (xs : List InlineSite) → AllByRecursion (λ x. level cs x.callee < suc k) xs
        → AllByRecursion (λ x. option_map (λ q. q) (routine_at (after_waves k) x.callee) ≡ option_map whole (routine_at rs x.callee)) xs
    done_callees k [] h = tt
    done_callees k (x ∷ xs) h =
        let lt = h.0 in (
          ap (λ (o : Option RoutineParts). option_map (λ q. q) o) (found_map (λ r. r.pid) (done k) x.callee rs (keep_pids k rs))
              ∙ done_callee k x.callee (routine_at rs x.callee) refl (omega arith),
          done_callees k xs h.1,
        )

    abbrev by_level : ℕ → RoutineParts → RoutineParts
    by_level k r = if nat_eq (level cs r.pid) (suc k) then inlined_with (λ q. q) (after_waves k) cs r else r

    -- what one wave makes of a routine
    one_wave : (k : ℕ) (r : RoutineParts) → SitesFall r → by_level k (done k r) ≡ done (suc k) r
    one_wave k r h = by_test (nat_eq (level cs r.pid) (suc k)) refl
      where
        by_test : (b : Bool) → nat_eq (level cs r.pid) (suc k) ≡ b → by_level k (done k r) ≡ done (suc k) r
        by_test true e =
            let is = eqb-true (level cs r.pid) (suc k) e in
            ap (λ (q : RoutineParts). by_level k q) (done_high k r (omega arith))
            ∙ ap (λ (b : Bool). if b then inlined_with (λ q. q) (after_waves k) cs r else r) e
            ∙ ap (λ (xs : List SiteBody). inlined r xs) (same_bodies (λ q. q) whole (after_waves k) rs (sites r)
            (done_callees k (sites r) (subst (λ (m : ℕ). AllByRecursion (λ x. level cs x.callee < m) (sites r)) is h)))
            ∙ sym (whole_is r h) ∙ sym (done_low (suc k) r (omega arith))
        by_test false e =
            ap (λ (b : Bool). if b then inlined_with (λ q. q) (after_waves k) cs (done k r) else done k r)
            (ap (λ (x : ℕ). nat_eq (level cs x) (suc k)) (done_pid k r) ∙ e) ∙ same (nat_le (level cs r.pid) k) (nat_le (level cs r.pid) (suc k)) refl refl
          where
            same : (b c : Bool) → nat_le (level cs r.pid) k ≡ b → nat_le (level cs r.pid) (suc k) ≡ c → (if b then whole r else r) ≡ (if c then whole r else r)
            same true true eb ec = refl
            same true false eb ec =
                let le = leb-true (level cs r.pid) k eb in
                let on : nat_le (level cs r.pid) (suc k) ≡ true = le-leb (level cs r.pid) (suc k) (omega arith) in
                let bad : true ≡ false = sym on ∙ ec in absurd cc
            same false true eb ec =
                let le = leb-true (level cs r.pid) (suc k) ec in
                let off : nat_le (level cs r.pid) k ≡ true → ⊥ = (λ g. let bad : true ≡ false = sym g ∙ eb in absurd cc) in
                let differs : level cs r.pid ≡ suc k → ⊥ = (λ g. let bad : true ≡ false = sym (eq-eqb (level cs r.pid) (suc k) g) ∙ e in absurd cc) in
                absurd (off (le-leb (level cs r.pid) k (below (level cs r.pid) k le differs)))
              where
                below : (a b : ℕ) → a ≤ suc b → (a ≡ suc b → ⊥) → a ≤ b
                below a b le ne = omega arith
            same false false eb ec = refl

    wave_is : (k : ℕ) → wave cs (suc k) (after_waves k) ≡ after_waves (suc k)
    wave_is k = each rs falls
      where
        each : (xs : List RoutineParts) → AllByRecursion SitesFall xs → map (by_level k) (map (done k) xs) ≡ map (done (suc k)) xs
        each [] h = refl
        each (x ∷ xs) h = ap₂ {A = RoutineParts} {B = List RoutineParts} {C = List RoutineParts} (λ y ys. y ∷ ys) (one_wave k x h.0) (each xs h.1)

    all_waves : (n k : ℕ) → by_waves cs (suc k) n (after_waves k) ≡ after_waves (k + n)
    all_waves zero k = let same : k ≡ k + 0 = omega arith in ap (λ (j : ℕ). after_waves j) same
    all_waves (suc n) k =
        let same : suc k + n ≡ k + suc n = omega arith in
        ap (λ (qs : List RoutineParts). by_waves cs (suc (suc k)) n qs) (wave_is k) ∙ all_waves n (suc k) ∙ ap (λ (j : ℕ). after_waves j) same

    -- before the first wave only the routines of level 0 are whole
    at_first_wave : after_waves 0 ≡ rs
    at_first_wave = each rs falls
      where
        one : (r : RoutineParts) (b : Bool) → SitesFall r → nat_le (level cs r.pid) 0 ≡ b → (if b then whole r else r) ≡ r
        one r true h e =
            let le = leb-true (level cs r.pid) 0 e in
            none (length cs) (level cs r.pid) r (sites r) (omega arith) h
        one r false h e = refl

        each : (xs : List RoutineParts) → AllByRecursion SitesFall xs → map (done 0) xs ≡ xs
        each [] h = refl
        each (x ∷ xs) h = ap₂ {A = RoutineParts} {B = List RoutineParts} {C = List RoutineParts} (λ y ys. y ∷ ys)
            (one x (nat_le (level cs x.pid) 0) h.0 refl) (each xs h.1)

    -- no level is above the height
    least_if : (pid : ℕ) (x : Choice) (xs : List Choice) (b : Bool) → nat_eq x.caller pid ≡ b
        → ((calls_from xs pid ≡ [] → ⊥) → level cs pid ≤ greatest (λ c. level cs c.caller) xs)
        → ((if b then x ∷ calls_from xs pid else calls_from xs pid) ≡ [] → ⊥)
        → level cs pid ≤ max (level cs x.caller) (greatest (λ c. level cs c.caller) xs)
    least_if pid x xs true e h some = let here = ap (λ (y : ℕ). level cs y) (eqb-true x.caller pid e) in omega arith
    least_if pid x xs false e h some = let rest = h some in omega arith

    level_least : (pid : ℕ) (xs : List Choice) → (calls_from xs pid ≡ [] → ⊥) → level cs pid ≤ greatest (λ c. level cs c.caller) xs
    level_least pid [] h = absurd (h refl)
    level_least pid (x ∷ xs) h = least_if pid x xs (nat_eq x.caller pid) refl (λ some. level_least pid xs some) h

    low : (pid : ℕ) → level cs pid ≤ height cs
    low pid = by_calls (calls_from cs pid) refl
      where
        by_calls : (ys : List Choice) → calls_from cs pid ≡ ys → level cs pid ≤ height cs
        by_calls [] e =
            let none : level cs pid ≡ 0 = ap (λ (zs : List Choice). greatest (λ c. suc (chain cs (length cs) c.callee)) zs) e in
            omega arith
        by_calls (y ∷ ys) e = level_least pid cs (λ none. (let bad : (y ∷ ys) ≡ [] = sym e ∙ none in absurd cc))

    all_done : (xs : List RoutineParts) → map (done (height cs)) xs ≡ map whole xs
    all_done [] = refl
    all_done (x ∷ xs) = ap₂ {A = RoutineParts} {B = List RoutineParts} {C = List RoutineParts} (λ y ys. y ∷ ys)
        (done_low (height cs) x (low x.pid)) (all_done xs)

    pub waves_are : by_waves cs 1 (height cs) rs ≡ inlined_routines rs cs
    waves_are =
        let same : 0 + height cs ≡ height cs = omega arith in
        ap (λ (qs : List RoutineParts). by_waves cs 1 (height cs) qs) (sym at_first_wave) ∙ all_waves (height cs) 0
        ∙ ap (λ (j : ℕ). after_waves j) same ∙ all_done rs
