-- Lists that have at most one element for each name of a table, by PID.
use Rattle.std.proofs.Common.{◌≡◌, ℕ, suc, ◌<◌, List, [], ◌∷◌, ◌++◌, refl, sym, ap, subst, ◌∙◌, arith}
use Rattle.std.specs.Prelude.{⊤}
use Rattle.std.specs.List.{AllByRecursion, Contains}
use Rattle.il_core.specs.Program.{found}
use Rattle.il_core.specs.Shapes.{IsRising, IsRisingFrom}
use Rattle.il_core.proofs.Found.{found_there}
use Rattle.sym_tables.specs.declared.symbol.Symbol.{Symbol}
use Rattle.sym_tables.specs.Listing.{objects_at, objects_from}
use Rattle.sym_tables.specs.Table.{Table}
use Rattle.lower_laws.specs.Programs.{by_pid}

pub objects_by : (n : ℕ) (es : Table) → objects_from n es ≡ by_pid (λ pid name s. objects_at pid s) n es
objects_by n [] = refl
objects_by n (e ∷ es) = ap (λ os. objects_at n e.1 ++ os) (objects_by (suc n) es)

module _ {X : Type 0} where
  pub all_append : (P : X → Type 0) (xs ys : List X) → AllByRecursion P xs → AllByRecursion P ys → AllByRecursion P (xs ++ ys)
  all_append P [] ys p q = q
  all_append P (x ∷ xs) ys p q = (p.0, all_append P xs ys p.1 q)

  pub contains_later : (xs ys : List X) (x : X) → Contains ys x → Contains (xs ++ ys) x
  contains_later [] ys x h = h
  contains_later (y ∷ xs) ys x h = let r = contains_later xs ys x h in (suc r.0, omega (arith, r.1), r.2)

  module _ (number : X → ℕ) where
    -- no element, or one with this number
    abbrev pub AtMostOne : ℕ → List X → Type 0
    AtMostOne n [] = ⊤
    AtMostOne n (x ∷ []) = number x ≡ n
    AtMostOne n (x ∷ y ∷ xs) = ⊥

    -- it isn't found by another number
    pub skips : (n m : ℕ) (xs ys : List X) → AtMostOne n xs → (n ≡ m → ⊥) → found number m (xs ++ ys) ≡ found number m ys
    skips n m [] ys one ne = refl
    skips n m (x ∷ []) ys one ne = found_there number m x ys (λ e. ne (sym one ∙ e))
    skips n m (x ∷ y ∷ xs) ys one ne = absurd one

    module _ (pick : ℕ → List ℕ → Symbol → List X) (single : (n : ℕ) (name : List ℕ) (s : Symbol) → AtMostOne n (pick n name s)) where
      from_one : (b n : ℕ) (xs ys : List X) → AtMostOne n xs → b < n → IsRisingFrom number b ys → IsRisingFrom number n ys
          → IsRisingFrom number b (xs ++ ys)
      from_one b n [] ys one lt here there = here
      from_one b n (x ∷ []) ys one lt here there = (omega (arith, one, lt), subst (λ m. IsRisingFrom number m ys) (sym one) there)
      from_one b n (x ∷ y ∷ xs) ys one lt here there = absurd one

      rising_from : (b n : ℕ) (es : Table) → b < n → IsRisingFrom number b (by_pid pick n es)
      rising_from b n [] lt = tt
      rising_from b n (e ∷ es) lt =
          from_one b n (pick n e.0 e.1) (by_pid pick (suc n) es) (single n e.0 e.1) lt (rising_from b (suc n) es (omega (arith, lt)))
          (rising_from n (suc n) es (omega arith))

      first_one : (n : ℕ) (xs ys : List X) → AtMostOne n xs → IsRising number ys → IsRisingFrom number n ys → IsRising number (xs ++ ys)
      first_one n [] ys one here there = here
      first_one n (x ∷ []) ys one here there = subst (λ m. IsRisingFrom number m ys) (sym one) there
      first_one n (x ∷ y ∷ xs) ys one here there = absurd one

      pub rising : (n : ℕ) (es : Table) → IsRising number (by_pid pick n es)
      rising n [] = tt
      rising n (e ∷ es) =
          first_one n (pick n e.0 e.1) (by_pid pick (suc n) es) (single n e.0 e.1) (rising (suc n) es) (rising_from n (suc n) es (omega arith))
