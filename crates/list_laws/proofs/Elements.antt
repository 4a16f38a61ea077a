-- Lists after an element was replaced or added, and from a place on.
use Rattle.std.proofs.Common.{◌≡◌, ℕ, zero, suc, ◌+◌, ◌<◌, ◌≤◌, Bool, true, false, ◌||◌, List, [], ◌∷◌, ◌++◌, length, take, drop, get_or, Some, None}
use Rattle.std.proofs.Common.{refl, sym, ap, ◌∙◌, subst, arith, sum_by, add-one, append_assoc}
use Rattle.std.specs.List.{AllByRecursion, list_any, slice_get, slice_set}
use Rattle.std.proofs.lemmas.List.{drop_more, get_or_read}
use Rattle.std.proofs.lemmas.List.Sums.{sum_by-cons}
use Rattle.list_laws.proofs.Tests.{or_first, or_second}

pub sum_set : {X : Type 0} (f : X → ℕ) (xs : List X) (i : ℕ) (x v : X) → slice_get xs i ≡ Some x → sum_by f (slice_set xs i v) + f x ≡ sum_by f xs + f v
sum_set f [] i x v h = let c : None ≡ Some x = h in absurd cc
sum_set f (y ∷ xs) zero x v h = let e : y ≡ x = (let c : Some y ≡ Some x = h in cc) in
    let a = sum_by-cons f y xs in let b = sum_by-cons f v xs in let k = ap f e in omega arith
sum_set f (y ∷ xs) (suc i) x v h =
    let a = sum_by-cons f y xs in let b = sum_by-cons f y (slice_set xs i v) in let k = sum_set f xs i x v h in omega arith

pub sum_added : {X : Type 0} (f : X → ℕ) (xs : List X) (v : X) → sum_by f (xs ++ v ∷ []) ≡ sum_by f xs + f v
sum_added f [] v = let a = sum_by-cons f v [] in let b : sum_by f [] ≡ 0 = refl in omega arith
sum_added f (y ∷ xs) v = let a = sum_by-cons f y xs in let b = sum_by-cons f y (xs ++ v ∷ []) in let k = sum_added f xs v in omega arith

-- a part is at most the sum
pub part_le : {X : Type 0} (f : X → ℕ) (xs : List X) (i : ℕ) (x : X) → slice_get xs i ≡ Some x → f x ≤ sum_by f xs
part_le f [] i x h = let c : None ≡ Some x = h in absurd cc
part_le f (y ∷ xs) zero x h = let e : y ≡ x = (let c : Some y ≡ Some x = h in cc) in let a = sum_by-cons f y xs in let k = ap f e in omega arith
part_le f (y ∷ xs) (suc i) x h = let a = sum_by-cons f y xs in let k = part_le f xs i x h in omega arith

pub any_set : {X : Type 0} (p : X → Bool) (xs : List X) (i : ℕ) (v : X) → list_any p xs ≡ false → p v ≡ false → list_any p (slice_set xs i v) ≡ false
any_set p [] i v h k = h
any_set p (y ∷ xs) zero v h k = let r = or_second (p y) (list_any p xs) h in rw (k, r) refl
any_set p (y ∷ xs) (suc i) v h k = let l = or_first (p y) (list_any p xs) h in let r = any_set p xs i v (or_second (p y) (list_any p xs) h) k in rw (l, r) refl

pub any_added : {X : Type 0} (p : X → Bool) (xs : List X) (v : X) → list_any p xs ≡ false → list_any p (xs ++ v ∷ []) ≡ p v
any_added p [] v h = elim (p v) as (λ b. (b || false) ≡ b) [ true ↦ refl | false ↦ refl ]
any_added p (y ∷ xs) v h = let l = or_first (p y) (list_any p xs) h in let r = any_added p xs v (or_second (p y) (list_any p xs) h) in rw (l, r) refl

pub any_none : {X : Type 0} (p : X → Bool) (xs : List X) (i : ℕ) (x : X) → list_any p xs ≡ false → slice_get xs i ≡ Some x → p x ≡ false
any_none p [] i x h k = let c : None ≡ Some x = k in absurd cc
any_none p (y ∷ xs) zero x h k = let e : y ≡ x = (let c : Some y ≡ Some x = k in cc) in ap p (sym e) ∙ or_first (p y) (list_any p xs) h
any_none p (y ∷ xs) (suc i) x h k = any_none p xs i x (or_second (p y) (list_any p xs) h) k

pub all_set : {X : Type 0} (P : X → Type 0) (xs : List X) (i : ℕ) (v : X) → AllByRecursion P xs → P v → AllByRecursion P (slice_set xs i v)
all_set P [] i v h k = tt
all_set P (y ∷ xs) zero v h k = (k, h.1)
all_set P (y ∷ xs) (suc i) v h k = (h.0, all_set P xs i v h.1 k)

pub all_added : {X : Type 0} (P : X → Type 0) (xs : List X) (v : X) → AllByRecursion P xs → P v → AllByRecursion P (xs ++ v ∷ [])
all_added P [] v h k = (k, tt)
all_added P (y ∷ xs) v h k = (h.0, all_added P xs v h.1 k)

pub all_at : {X : Type 0} (P : X → Type 0) (xs : List X) (i : ℕ) (x : X) → AllByRecursion P xs → slice_get xs i ≡ Some x → P x
all_at P [] i x h k = let c : None ≡ Some x = k in absurd cc
all_at P (y ∷ xs) zero x h k = let e : y ≡ x = (let c : Some y ≡ Some x = k in cc) in subst P e h.0
all_at P (y ∷ xs) (suc i) x h k = all_at P xs i x h.1 k

-- what holds of the first n elements, after one of them was replaced
pub front_set : {X : Type 0} (P : X → Type 0) (n : ℕ) (xs : List X) (i : ℕ) (v : X) → AllByRecursion P (take n xs) → (i < n → P v)
    → AllByRecursion P (take n (slice_set xs i v))
front_set P zero xs i v h k = tt
front_set P (suc n) [] i v h k = tt
front_set P (suc n) (y ∷ xs) zero v h k = (k (omega arith), h.1)
front_set P (suc n) (y ∷ xs) (suc i) v h k = (h.0, front_set P n xs i v h.1 (λ l. k (omega arith)))

pub front_less : {X : Type 0} (P : X → Type 0) (m n : ℕ) (xs : List X) → m ≤ n → AllByRecursion P (take n xs) → AllByRecursion P (take m xs)
front_less P zero n xs l h = tt
front_less P (suc m) zero xs l h = absurd (omega arith)
front_less P (suc m) (suc n) [] l h = tt
front_less P (suc m) (suc n) (y ∷ xs) l h = (h.0, front_less P m n xs (omega arith) h.1)

front_suc : {X : Type 0} (P : X → Type 0) (n : ℕ) (xs : List X) (x : X) → AllByRecursion P (take n xs) → slice_get xs n ≡ Some x → P x
    → AllByRecursion P (take (suc n) xs)
front_suc P zero [] x h k p = tt
front_suc P zero (y ∷ xs) x h k p = let e : y ≡ x = (let c : Some y ≡ Some x = k in cc) in (subst P (sym e) p, tt)
front_suc P (suc n) [] x h k p = tt
front_suc P (suc n) (y ∷ xs) x h k p = (h.0, front_suc P n xs x h.1 k p)

pub front_more : {X : Type 0} (P : X → Type 0) (n : ℕ) (xs : List X) (x : X) → AllByRecursion P (take n xs) → slice_get xs n ≡ Some x → P x
    → AllByRecursion P (take (n + 1) xs)
front_more P n xs x h k p = subst (λ m. AllByRecursion P (take m xs)) (sym (add-one n)) (front_suc P n xs x h k p)

pub front_at : {X : Type 0} (P : X → Type 0) (n : ℕ) (xs : List X) (i : ℕ) (x : X) → AllByRecursion P (take n xs) → i < n → slice_get xs i ≡ Some x → P x
front_at P zero xs i x h l k = absurd (omega arith)
front_at P (suc n) [] i x h l k = let c : None ≡ Some x = k in absurd cc
front_at P (suc n) (y ∷ xs) zero x h l k = let e : y ≡ x = (let c : Some y ≡ Some x = k in cc) in subst P e h.0
front_at P (suc n) (y ∷ xs) (suc i) x h l k = front_at P n xs i x h.1 (omega arith) k

pub front_of_all : {X : Type 0} (P : X → Type 0) (n : ℕ) (xs : List X) → AllByRecursion P xs → AllByRecursion P (take n xs)
front_of_all P zero xs h = tt
front_of_all P (suc n) [] h = tt
front_of_all P (suc n) (y ∷ xs) h = (h.0, front_of_all P n xs h.1)

-- the first n elements, after one was added
pub front_added : {X : Type 0} (P : X → Type 0) (n : ℕ) (xs : List X) (v : X) → AllByRecursion P (take n xs) → P v → AllByRecursion P (take n (xs ++ v ∷ []))
front_added P zero xs v h k = tt
front_added P (suc n) [] v h k = (k, front_of_all P n [] tt)
front_added P (suc n) (y ∷ xs) v h k = (h.0, front_added P n xs v h.1 k)

pub get_added : {X : Type 0} (xs : List X) (v : X) → slice_get (xs ++ v ∷ []) (length xs) ≡ Some v
get_added [] v = refl
get_added (y ∷ xs) v = get_added xs v

pub get_set : {X : Type 0} (xs : List X) (i : ℕ) (x v : X) → slice_get xs i ≡ Some x → slice_get (slice_set xs i v) i ≡ Some v
get_set [] i x v h = let c : None ≡ Some x = h in absurd cc
get_set (y ∷ xs) zero x v h = refl
get_set (y ∷ xs) (suc i) x v h = get_set xs i x v h

pub all_of_front : {X : Type 0} (P : X → Type 0) (n : ℕ) (xs : List X) → length xs ≤ n → AllByRecursion P (take n xs) → AllByRecursion P xs
all_of_front P n [] l h = tt
all_of_front P zero (y ∷ xs) l h = absurd (omega arith)
all_of_front P (suc n) (y ∷ xs) l h = (h.0, all_of_front P n xs (omega arith) h.1)

pub drop_read : {X : Type 0} (xs : List X) (k : ℕ) (x : X) → k < length xs → x ≡ get_or xs k x → drop k xs ≡ x ∷ drop (k + 1) xs
drop_read {X} xs k x lt e = drop_more xs k x lt ∙ ap (λ (y : X). y ∷ drop (k + 1) xs) (sym (get_or_read xs k x lt e x))

pub all_drop : {X : Type 0} (P : X → Type 0) (k : ℕ) (xs : List X) → AllByRecursion P xs → AllByRecursion P (drop k xs)
all_drop P zero xs h = h
all_drop P (suc k) [] h = h
all_drop P (suc k) (x ∷ xs) h = all_drop P k xs h.1

-- one more element at the end of those before
pub onto : {X : Type 0} (us : List X) (c : X) (cs : List X) → (us ++ c ∷ []) ++ cs ≡ us ++ c ∷ cs
onto us c cs = append_assoc us (c ∷ []) cs
