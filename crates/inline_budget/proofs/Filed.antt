-- Lists by number, with numbers put behind them.
use Rattle.std.proofs.Common.{◌≡◌, ℕ, zero, suc, ◌<◌, List, [], ◌∷◌, ◌++◌, map, length, get_or, set, replicate, refl, ap, ◌∙◌, arith}
use Rattle.std.specs.Prelude.{slice_index_or}
use Rattle.inline_budget.specs.Buckets.{put_in}

pub put_view : {V : Type 0} (f : V → List ℕ) (vs : List V) (at x : ℕ) (old v : V) → at < length vs → old ≡ get_or vs at old → f v ≡ f old ++ x ∷ []
    → map f (set vs at v) ≡ put_in (map f vs) at x
put_view f [] at x old v lt e g = absurd (omega arith)
put_view f (w ∷ vs) zero x old v lt e g = ap (λ (l : List ℕ). l ∷ map f vs) (g ∙ ap (λ u. f u ++ x ∷ []) e)
put_view f (w ∷ vs) (suc at) x old v lt e g = ap (λ (ls : List (List ℕ)). f w ∷ ls) (put_view f vs at x old v (omega arith) e g)

abbrev pub none : List ℕ
none = []

pub one_more_empty : (n : ℕ) → replicate n none ++ none ∷ [] ≡ replicate (suc n) none
one_more_empty zero = refl
one_more_empty (suc n) = ap (λ (ls : List (List ℕ)). none ∷ ls) (one_more_empty n)

pub empty_at : (n y : ℕ) → slice_index_or (replicate n none) y none ≡ none
empty_at zero y = refl
empty_at (suc n) zero = refl
empty_at (suc n) (suc y) = empty_at n y
