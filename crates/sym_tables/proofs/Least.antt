-- The bound below which nothing is used and not defined.
use Rattle.std.proofs.Common.{◌≡◌, ℕ, ◌+◌, ◌==◌, Bool, true, false, if◌then◌else◌, min, List, [], ◌∷◌, ◌++◌, take, length, Some, refl, sym, ap, ◌∙◌}
use Rattle.std.proofs.Common.{subst, arith}
use Rattle.std.specs.List.{AllByRecursion, slice_get, slice_set}
use Rattle.std.proofs.lemmas.Bool.Decides.{nat_tests}
use Rattle.sym_tables.specs.declared.symbol.Symbol.{Symbol}
use Rattle.sym_tables.specs.Symbols.{is_open}
use Rattle.list_laws.proofs.Elements.{front_set, front_less, front_more, front_at, front_added, get_set, get_added}

abbrev pub IsClosed : Symbol → Type 0
IsClosed s = is_open s ≡ false

same_place : (n m : ℕ) → (n == m) ≡ true → n ≡ m
same_place n m h = grind (arith, nat_tests)

past_by : (b c : Bool) (xs : List Symbol) (at least : ℕ) (v : Symbol) → is_open v ≡ b → (least == at) ≡ c → AllByRecursion IsClosed (take least xs)
    → slice_get xs at ≡ Some v →
    AllByRecursion IsClosed (take (if b then least else (if c then at + 1 else least)) xs)
past_by true c xs at least v o e h k = h
past_by false false xs at least v o e h k = h
past_by false true xs at least v o e h k = front_more IsClosed at xs v (subst (λ n. AllByRecursion IsClosed (take n xs)) (same_place least at e) h) k o

-- after the symbol at a place has become v
pub past : (xs : List Symbol) (at least n : ℕ) (v : Symbol) → AllByRecursion IsClosed (take least xs) → slice_get xs at ≡ Some v →
    n ≡ (if is_open v then least else (if least == at then at + 1 else least)) → AllByRecursion IsClosed (take n xs)
past xs at least n v h k e = subst (λ m. AllByRecursion IsClosed (take m xs)) (sym e) (past_by (is_open v) (least == at) xs at least v refl refl h k)

-- one more declaration was taken in
pub least_met : (xs : List Symbol) (at least n : ℕ) (s v : Symbol) → AllByRecursion IsClosed (take least xs) → slice_get xs at ≡ Some s
    → (IsClosed s → IsClosed v) →
    n ≡ (if is_open v then least else (if least == at then at + 1 else least)) → AllByRecursion IsClosed (take n (slice_set xs at v))
least_met xs at least n s v h k stays e =
    past (slice_set xs at v) at least n v (front_set IsClosed least xs at v h (λ l. stays (front_at IsClosed least xs at s h l k))) (get_set xs at s v k) e

-- a name was added
pub least_added : (xs : List Symbol) (least n : ℕ) (v : Symbol) → AllByRecursion IsClosed (take least xs) → IsClosed v →
    n ≡ (if false then least else (if least == length xs then length xs + 1 else least)) → AllByRecursion IsClosed (take n (xs ++ v ∷ []))
least_added xs least n v h k e =
    past (xs ++ v ∷ []) (length xs) least n v (front_added IsClosed least xs v h k) (get_added xs v)
    (e ∙ ap (λ b. if b then least else (if least == length xs then length xs + 1 else least)) (sym k))

with_by : (b : Bool) (xs : List Symbol) (at least : ℕ) (v : Symbol) → is_open v ≡ b → AllByRecursion IsClosed (take least xs)
    → AllByRecursion IsClosed (take (if b then min least at else least) (slice_set xs at v))
with_by true xs at least v o h = front_set IsClosed (min least at) xs at v (front_less IsClosed (min least at) least xs (omega arith) h)
    (λ l. absurd (omega arith))
with_by false xs at least v o h = front_set IsClosed least xs at v h (λ l. o)

-- a name was used
pub least_used : (xs : List Symbol) (at least n : ℕ) (v : Symbol) → AllByRecursion IsClosed (take least xs) → n ≡ (if is_open v then min least at else least)
    → AllByRecursion IsClosed (take n (slice_set xs at v))
least_used xs at least n v h e = subst (λ m. AllByRecursion IsClosed (take m (slice_set xs at v))) (sym e) (with_by (is_open v) xs at least v refl h)
