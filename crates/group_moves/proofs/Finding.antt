-- The callers of a table that have moves.
use Rattle.std.proofs.Common.{◌≡◌, ◌+◌, ◌<◌, ◌≤◌, ℕ, suc, Bool, true, false, List, [], ◌∷◌, nat_eq, get_or, length, refl, sym, ap, subst, arith, inl, inr, ◌∙◌}
use Rattle.std.specs.Prelude.{filter, if◌then◌else◌}
use Rattle.std.specs.List.{AllByRecursion}
use Rattle.std.proofs.lemmas.Bool.{cases_lt}
use Rattle.list_laws.proofs.Entries.{number_itself, other_number}
use Rattle.il_core.specs.Shapes.{IsRising, IsRisingFrom}
use Rattle.clone_groups.specs.Moves.{moves_of}
use Rattle.plan_pools.specs.Retargeting.{moves_for}
use Rattle.plan_pools.specs.declared.moves.CallerMoves.{CallerMoves}
use Rattle.group_moves.specs.Gathering.{has_moves, some_moves}

module _ (f : ℕ → List (ℕ × ℕ)) where
  -- callers numbered from p on
  abbrev pub From : ℕ → List CallerMoves → Type 0
  From p t = (i : ℕ) (d : CallerMoves) → i < length t → get_or t i d ≡ record { caller = p + i; moves = f (p + i) }

  head_is : (p : ℕ) (x : CallerMoves) (t : List CallerMoves) → From p (x ∷ t) → x ≡ record { caller = p; moves = f p }
  head_is p x t h =
      let e : p + 0 ≡ p = omega arith in h 0 x (omega arith) ∙ ap (λ j. record { caller = j; moves = f j }) e

  tail_from : (p : ℕ) (x : CallerMoves) (t : List CallerMoves) → From p (x ∷ t) → From (suc p) t
  tail_from p x t h i d lt =
      let e : p + suc i ≡ suc p + i = omega arith in h (suc i) d (omega arith) ∙ ap (λ j. record { caller = j; moves = f j }) e

  rising_from : (t : List CallerMoves) (p b : ℕ) → From p t → b < p → IsRisingFrom (λ m. m.caller) b (filter has_moves t)
  rising_from [] p b h lt = tt
  rising_from (x ∷ t) p b h lt = by (λ a less. rising_from t (suc p) a (tail_from p x t h) less) (has_moves x)
    where
      pid : x.caller ≡ p
      pid = ap (λ m. m.caller) (head_is p x t h)

      by : ((a : ℕ) → a < suc p → IsRisingFrom (λ m. m.caller) a (filter has_moves t)) → (k : Bool)
          → IsRisingFrom (λ m. m.caller) b (if k then x ∷ filter has_moves t else filter has_moves t)
      by rest true = (subst (λ n. b < n) (sym pid) lt, rest x.caller (omega (arith, pid)))
      by rest false = rest b (omega arith)

  pub rising : (t : List CallerMoves) (p : ℕ) → From p t → IsRising (λ m. m.caller) (filter has_moves t)
  rising [] p h = tt
  rising (x ∷ t) p h = by (has_moves x) (rising t (suc p) (tail_from p x t h))
    where
      pid : x.caller ≡ p
      pid = ap (λ m. m.caller) (head_is p x t h)

      by : (k : Bool) → IsRising (λ m. m.caller) (filter has_moves t) → IsRising (λ m. m.caller) (if k then x ∷ filter has_moves t else filter has_moves t)
      by true rest = rising_from t (suc p) x.caller (tail_from p x t h) (omega (arith, pid))
      by false rest = rest

  -- another caller
  skipped : (x : CallerMoves) (t : List CallerMoves) (q : ℕ) → nat_eq x.caller q ≡ false → (k : Bool)
      → moves_for (if k then x ∷ filter has_moves t else filter has_moves t) q ≡ moves_for (filter has_moves t) q
  skipped x t q e true = ap (λ b. if b then moves_of x.moves else moves_for (filter has_moves t) q) e
  skipped x t q e false = refl

  low_none : (t : List CallerMoves) (p q : ℕ) → From p t → q < p → moves_for (filter has_moves t) q ≡ []
  low_none [] p q h lt = refl
  low_none (x ∷ t) p q h lt =
      let pid = ap (λ (m : CallerMoves). m.caller) (head_is p x t h) in
      skipped x t q (other_number x.caller q (λ e. absurd (omega (arith, pid, e)))) (has_moves x) ∙ low_none t (suc p) q (tail_from p x t h) (omega arith)

  pub high_none : (t : List CallerMoves) (p q : ℕ) → From p t → p + length t ≤ q → moves_for (filter has_moves t) q ≡ []
  high_none [] p q h le = refl
  high_none (x ∷ t) p q h le =
      let pid = ap (λ (m : CallerMoves). m.caller) (head_is p x t h) in
      skipped x t q (other_number x.caller q (λ e. absurd (omega (arith, pid, e)))) (has_moves x) ∙ high_none t (suc p) q (tail_from p x t h) (omega arith)

  -- each caller's moves are found
  pub found : (t : List CallerMoves) (p q : ℕ) → From p t → p ≤ q → q < p + length t → moves_for (filter has_moves t) q ≡ moves_of (f q)
  found [] p q h le lt = absurd (omega arith)
  found (x ∷ t) p q h le lt =
      elim (cases_lt p q) [
        | inl less ↦ skipped x t q (other_number x.caller q (λ e. absurd (omega (arith, pid, e)))) (has_moves x)
            ∙ found t (suc p) q (tail_from p x t h) (omega arith) (omega arith)
        | inr more ↦ here (omega arith) x.moves refl
      ]
    where
      pid : x.caller ≡ p
      pid = ap (λ m. m.caller) (head_is p x t h)

      here : p ≡ q → (ms : List (ℕ × ℕ)) → x.moves ≡ ms
          → moves_for (if some_moves x.moves then x ∷ filter has_moves t else filter has_moves t) q ≡ moves_of (f q)
      here e [] none =
          ap (λ ms. moves_for (if some_moves ms then x ∷ filter has_moves t else filter has_moves t) q) none
          ∙ low_none t (suc p) q (tail_from p x t h) (omega arith)
          ∙ ap moves_of (sym none ∙ ap (λ (m : CallerMoves). m.moves) (head_is p x t h) ∙ ap f e)
      here e (m ∷ ms) some =
          ap (λ zs. moves_for (if some_moves zs then x ∷ filter has_moves t else filter has_moves t) q) some
          ∙ ap (λ b. if b then moves_of x.moves else moves_for (filter has_moves t) q) (ap (λ n. nat_eq n q) (pid ∙ e) ∙ number_itself q)
          ∙ ap moves_of (ap (λ (m : CallerMoves). m.moves) (head_is p x t h) ∙ ap f e)

  -- what holds of all moves
  pub all_found : (P : List (ℕ × ℕ) → Type 0) (t : List CallerMoves) (p : ℕ) → From p t → ((q : ℕ) → P (f q))
      → AllByRecursion (λ m. P m.moves) (filter has_moves t)
  all_found P [] p h k = tt
  all_found P (x ∷ t) p h k = by (has_moves x) (all_found P t (suc p) (tail_from p x t h) k)
    where
      by : (b : Bool) → AllByRecursion (λ m. P m.moves) (filter has_moves t)
          → AllByRecursion (λ m. P m.moves) (if b then x ∷ filter has_moves t else filter has_moves t)
      by true rest = (subst P (sym (ap (λ (m : CallerMoves). m.moves) (head_is p x t h))) (k p), rest)
      by false rest = rest
