-- Rows that tell which calls are accepted.
use Rattle.std.proofs.Common.{◌≡◌, ◌<◌, ◌+◌, ℕ, zero, suc, Bool, true, false, nat_eq, List, [], ◌∷◌, ◌++◌, map, length, get_or, set, drop, replicate}
use Rattle.std.proofs.Common.{refl, sym, ap, arith, ◌∙◌}
use Rattle.std.specs.Prelude.{◌||◌, ◌&&◌, slice_index_or, slice_set}
use Rattle.std.proofs.Math.Bool.{or-false, or-true, or_assoc}
use Rattle.std.proofs.Math.Dec.{eqb-suc-suc, eqb-suc-zero, eqb-zero-suc}
use Rattle.std.proofs.lemmas.List.{drop_more}
use Rattle.inline_budget.specs.Calls.{calls_of}
use Rattle.inline_budget.specs.declared.choice.Choice.{Choice}
use Rattle.plan_laws.specs.Numbers.{is_chosen}
use Rattle.plan_laws.specs.Orders.{greatest}
use Rattle.plan_pools.specs.Accepting.{is_accepted}

-- an entry more that isn't set
pub pushed_same : (xs : List Bool) (k : ℕ) → slice_index_or (xs ++ false ∷ []) k false ≡ slice_index_or xs k false
pushed_same [] zero = refl
pushed_same [] (suc k) = refl
pushed_same (x ∷ xs) zero = refl
pushed_same (x ∷ xs) (suc k) = pushed_same xs k

-- one entry is set
pub set_one : (xs : List Bool) (at k : ℕ) → at < length xs → slice_index_or (slice_set xs at true) k false ≡ (slice_index_or xs k false || nat_eq at k)
set_one [] at k lt = absurd (omega arith)
set_one (x ∷ xs) zero zero lt = sym (or-true x)
set_one (x ∷ xs) zero (suc k) lt =
    sym (or-false (slice_index_or xs k false)) ∙ ap (λ (b : Bool). slice_index_or xs k false || b) (sym (eqb-zero-suc k))
set_one (x ∷ xs) (suc at) zero lt = sym (or-false x) ∙ ap (λ (b : Bool). x || b) (sym (eqb-suc-zero at))
set_one (x ∷ xs) (suc at) (suc k) lt =
    set_one xs at k (omega arith) ∙ ap (λ (b : Bool). slice_index_or xs k false || b) (sym (eqb-suc-suc at k))

abbrev pub no_row : List Bool
no_row = []

-- so it is in one row of several
pub row_set : {V : Type 0} (f : V → List Bool) (vs : List V) (at : ℕ) (old new : V) (site : ℕ) → at < length vs → old ≡ get_or vs at old
    → ((k : ℕ) → slice_index_or (f new) k false ≡ (slice_index_or (f old) k false || nat_eq site k))
    → (p k : ℕ) → is_accepted (map f (set vs at new)) p k ≡ (is_accepted (map f vs) p k || (nat_eq at p && nat_eq site k))
row_set f [] at old new site lt e h p k = absurd (omega arith)
row_set f (v ∷ vs) zero old new site lt e h zero k = h k ∙ ap (λ u. slice_index_or (f u) k false || nat_eq site k) e
row_set f (v ∷ vs) zero old new site lt e h (suc p) k =
    sym (or-false (is_accepted (map f vs) p k)) ∙ ap (λ (b : Bool). is_accepted (map f vs) p k || (b && nat_eq site k)) (sym (eqb-zero-suc p))
row_set f (v ∷ vs) (suc at) old new site lt e h zero k =
    sym (or-false (slice_index_or (f v) k false)) ∙ ap (λ (b : Bool). slice_index_or (f v) k false || (b && nat_eq site k)) (sym (eqb-suc-zero at))
row_set f (v ∷ vs) (suc at) old new site lt e h (suc p) k =
    row_set f vs at old new site (omega arith) e h p k
    ∙ ap (λ (b : Bool). is_accepted (map f vs) p k || (b && nat_eq site k)) (sym (eqb-suc-suc at p))

-- no call is accepted where no row has an entry
pub none_accepted : (n p k : ℕ) → is_accepted (replicate n no_row) p k ≡ false
none_accepted zero p k = refl
none_accepted (suc n) zero k = refl
none_accepted (suc n) (suc p) k = none_accepted n p k

-- each caller is below the bound
pub caller_below : (calls : List Choice) (i : ℕ) (d : Choice) → i < length calls → (get_or calls i d).caller < greatest (λ c. suc c.caller) (calls_of calls)
caller_below [] i d lt = absurd (omega arith)
caller_below (c ∷ cs) zero d lt = omega arith
caller_below (c ∷ cs) (suc i) d lt = let rest = caller_below cs i d (omega arith) in omega arith

-- the next call is accepted
pub next_accepted : (calls : List Choice) (i : ℕ) (d x : Choice) (old new : List (List Bool)) → i < length calls → x ≡ get_or calls i d
    → ((p k : ℕ) → is_accepted new p k ≡ (is_accepted old p k || (nat_eq x.caller p && nat_eq x.site k)))
    → ((p k : ℕ) → (is_accepted old p k || is_chosen (calls_of (drop i calls)) p k) ≡ is_chosen (calls_of calls) p k)
    → (p k : ℕ) → (is_accepted new p k || is_chosen (calls_of (drop (i + 1) calls)) p k) ≡ is_chosen (calls_of calls) p k
next_accepted calls i d x old new lt is more before p k =
    let rest = is_chosen (calls_of (drop (i + 1) calls)) p k in
    ap (λ (b : Bool). b || rest) (more p k) ∙ or_assoc (is_accepted old p k) (nat_eq x.caller p && nat_eq x.site k) rest
    ∙ ap (λ (y : Choice). is_accepted old p k || ((nat_eq y.caller p && nat_eq y.site k) || rest)) is
    ∙ ap (λ (cs : List Choice). is_accepted old p k || is_chosen (calls_of cs) p k) (sym (drop_more calls i d lt)) ∙ before p k
