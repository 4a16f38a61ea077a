-- The first place of a list that passes a test, by what a pass has seen so far.
use Rattle.std.proofs.Common.{◌≡◌, ℕ, zero, suc, cond, nat_lt, position, ◌<◌, ◌≤◌, Bool, true, false, List, [], ◌∷◌, take, length, Some, None, refl, ap}
use Rattle.std.proofs.Common.{◌∙◌, arith}
use Rattle.std.specs.List.{AllByRecursion, position_or_len, slice_get}
use Rattle.std.proofs.lemmas.Bool.Decides.{nat_tests}

len_found : {X : Type 0} (p : X → Bool) (xs : List X) (n : ℕ) (x : X) → AllByRecursion (λ y. p y ≡ false) (take n xs) → slice_get xs n ≡ Some x → p x ≡ true
    → position_or_len p xs ≡ n
len_found p [] n x h k o = let c : None ≡ Some x = k in absurd cc
len_found p (y ∷ xs) zero x h k o = let e : y ≡ x = (let c : Some y ≡ Some x = k in cc) in let t : p y ≡ true = ap p e ∙ o in rw t refl
len_found p (y ∷ xs) (suc n) x h k o = let r = len_found p xs n x h.1 k o in let f : p y ≡ false = h.0 in rw (f, r) (omega arith)

len_none : {X : Type 0} (p : X → Bool) (xs : List X) (n : ℕ) → AllByRecursion (λ y. p y ≡ false) (take n xs) → length xs ≤ n → position_or_len p xs ≡ length xs
len_none p [] n h l = refl
len_none p (y ∷ xs) zero h l = absurd (omega arith)
len_none p (y ∷ xs) (suc n) h l = let r = len_none p xs n h.1 (omega arith) in let f : p y ≡ false = h.0 in rw (f, r) (omega arith)

within_get : {X : Type 0} (xs : List X) (n : ℕ) (x : X) → slice_get xs n ≡ Some x → n < length xs
within_get [] n x k = let c : None ≡ Some x = k in absurd cc
within_get (y ∷ xs) zero x k = omega arith
within_get (y ∷ xs) (suc n) x k = let r = within_get xs n x k in omega arith

below : (n m : ℕ) → n < m → nat_lt n m ≡ true
below n m h = grind (arith, nat_tests)

not_below : (n : ℕ) → nat_lt n n ≡ false
not_below n = grind (arith, nat_tests)

pub first_found : {X : Type 0} (p : X → Bool) (xs : List X) (n : ℕ) (x : X) → AllByRecursion (λ y. p y ≡ false) (take n xs) → slice_get xs n ≡ Some x
    → p x ≡ true → position p xs ≡ Some n
first_found p xs n x h k o = let r = len_found p xs n x h k o in let l = below n (length xs) (within_get xs n x k) in
    ap (λ i. cond (nat_lt i (length xs)) (Some i) None) r ∙ ap (λ b. cond b (Some n) None) l

pub none_found : {X : Type 0} (p : X → Bool) (xs : List X) (n : ℕ) → AllByRecursion (λ y. p y ≡ false) (take n xs) → length xs ≤ n → position p xs ≡ None
none_found p xs n h l = let r = len_none p xs n h l in
    ap (λ i. cond (nat_lt i (length xs)) (Some i) None) r ∙ ap (λ b. cond b (Some (length xs)) None) (not_below (length xs))
