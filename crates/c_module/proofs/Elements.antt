-- What holds of all elements of a list, and lists around one of their elements.
use Rattle.std.proofs.Common.{◌≡◌, ℕ, zero, suc, ◌+◌, ◌<◌, List, [], ◌∷◌, ◌++◌, length, map, get_or, take, drop, sym, ◌∙◌, ap, subst, arith}
use Rattle.std.specs.List.{AllByRecursion}
use Rattle.std.proofs.lemmas.List.{append_assoc, map-append, take-append-drop, take_more}

-- what holds of all holds of one in the middle
pub all_middle : {X : Type 0} (P : X → Type 0) (xs ys : List X) (y : X) → AllByRecursion P (xs ++ y ∷ ys) → P y
all_middle P [] ys y all = all.0
all_middle P (x ∷ xs) ys y all = all_middle P xs ys y all.1

-- and of two lists one after the other
pub all_both : {X : Type 0} (P : X → Type 0) (xs ys : List X) → AllByRecursion P xs → AllByRecursion P ys → AllByRecursion P (xs ++ ys)
all_both P [] ys a b = b
all_both P (x ∷ xs) ys a b = (a.0, all_both P xs ys a.1 b)

-- the first of them
pub all_front : {X : Type 0} (P : X → Type 0) (xs ys : List X) → AllByRecursion P (xs ++ ys) → AllByRecursion P xs
all_front P [] ys all = tt
all_front P (x ∷ xs) ys all = (all.0, all_front P xs ys all.1)

-- and the others
pub all_behind : {X : Type 0} (P : X → Type 0) (xs ys : List X) → AllByRecursion P (xs ++ ys) → AllByRecursion P ys
all_behind P [] ys all = all
all_behind P (x ∷ xs) ys all = all_behind P xs ys all.1

-- what holds of all that f makes of some elements holds of what it makes of one
pub all_made : {X Y : Type 0} (P : Y → Type 0) (f : X → Y) (xs : List X) (k : ℕ) (x : X) → k < length xs → x ≡ get_or xs k x
    → AllByRecursion P (map f xs) → P (f x)
all_made P f [] k x less at all = absurd (omega (arith, less))
all_made P f (y ∷ ys) zero x less at all = subst (λ z. P (f z)) (sym at) all.0
all_made P f (y ∷ ys) (suc k) x less at all = all_made P f ys k x (omega (arith, less)) at all.1

-- a list around the element of a place
pub around : {X : Type 0} (xs : List X) (k : ℕ) (x : X) → k < length xs → x ≡ get_or xs k x → xs ≡ take k xs ++ x ∷ drop (k + 1) xs
around xs k x less at =
    sym (take-append-drop (k + 1) xs)
    ∙ ap (λ l. l ++ drop (k + 1) xs) (take_more xs k x less ∙ ap (λ y. take k xs ++ y ∷ []) (sym at))
    ∙ append_assoc (take k xs) (x ∷ []) (drop (k + 1) xs)

-- and what f makes of it
pub made_around : {X Y : Type 0} (f : X → Y) (xs : List X) (k : ℕ) (x : X) → k < length xs → x ≡ get_or xs k x
    → map f xs ≡ map f (take k xs) ++ f x ∷ map f (drop (k + 1) xs)
made_around f xs k x less at = ap (map f) (around xs k x less at) ∙ map-append f (take k xs) (x ∷ drop (k + 1) xs)

-- what f makes of the first elements with one more
pub made_more : {X Y : Type 0} (f : X → Y) (xs : List X) (k : ℕ) (x : X) → k < length xs → x ≡ get_or xs k x
    → map f (take (k + 1) xs) ≡ map f (take k xs) ++ f x ∷ []
made_more f xs k x less at =
    ap (map f) (take_more xs k x less ∙ ap (λ y. take k xs ++ y ∷ []) (sym at)) ∙ map-append f (take k xs) (x ∷ [])
