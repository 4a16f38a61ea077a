-- What is said of effects, and tests that the laws of operands share.
use Rattle.std.proofs.Common.{◌≡◌, ℕ, List, [], ◌∷◌, Bool, true, false, refl, ap, ap₂, subst, ◌∙◌, eq-eqb}
use Rattle.std.specs.Prelude.{nat_eq, ◌||◌, if◌then◌else◌, Result, Ok, Err, ⊤}
use Rattle.std.specs.List.{list_any}
use Rattle.hlo_num.specs.declared.word.Trap.{Trap}
use Rattle.il_core.specs.World.{World, Outcome, Returns, Ends, Stuck, Trapped, OutOfTurns, Exit, each}
use Rattle.il_core.specs.Meaning.{Frame, with_reg, Next}
use Rattle.il_core.proofs.Effects.{Effect, GoesOn, Settled, follow, worded, inside}

-- ---- tests

-- a value behind a test that fails
pub if_no : {A : Type 0} (b : Bool) (v x : A) → b ≡ false → (if b then v else x) ≡ x
if_no {A} b v x e = ap (λ (c : Bool). if c then v else x) e

-- the same value behind a test, or alike where the test fails
pub if_alike : {A : Type 0} (b : Bool) (v v1 x x1 : A) → v ≡ v1 → (b ≡ false → x ≡ x1) → (if b then v else x) ≡ (if b then v1 else x1)
if_alike true v v1 x x1 e h = e
if_alike false v v1 x x1 e h = h refl

pub or_yes : (b : Bool) → (b || true) ≡ true
or_yes true = refl
or_yes false = refl

-- the first of a list, and the others
pub first_named : (x : ℕ) (xs : List ℕ) → list_any (nat_eq x) (x ∷ xs) ≡ true
first_named x xs = ap (λ (b : Bool). b || list_any (nat_eq x) xs) (eq-eqb x x refl)

pub later_named : (x y : ℕ) (xs : List ℕ) → list_any (nat_eq x) xs ≡ true → list_any (nat_eq x) (y ∷ xs) ≡ true
later_named x y xs e = ap (λ (b : Bool). nat_eq x y || b) e ∙ or_yes (nat_eq x y)

pub second_named : (x y : ℕ) → list_any (nat_eq y) (x ∷ y ∷ []) ≡ true
second_named x y = later_named y x (y ∷ []) (first_named y [])

pub each_alike : (f g : ℕ → ℕ) (xs : List ℕ) → ((x : ℕ) → list_any (nat_eq x) xs ≡ true → f x ≡ g x) → each f xs ≡ each g xs
each_alike f g [] h = refl
each_alike f g (x ∷ xs) h =
    ap₂ {A = ℕ} {B = List ℕ} {C = List ℕ} (λ y ys. y ∷ ys) (h x (first_named x xs)) (each_alike f g xs (λ y e. h y (later_named y x xs e)))

-- ---- what is said of effects

-- so it is, where it goes on
abbrev pub WhereOn : {S : Type 0} → (Frame → World S → Type 0) → Effect S → Type 0
WhereOn P (GoesOn f w) = P f w
WhereOn P (Settled o) = ⊤

-- both go on, and so they are then, or both have settled the same
abbrev pub Both : {S : Type 0} → (Frame → World S → Frame → World S → Type 0) → Effect S → Effect S → Type 0
Both R (GoesOn f w) (GoesOn g v) = R f w g v
Both R (GoesOn f w) (Settled p) = ⊥
Both R (Settled o) (GoesOn g v) = ⊥
Both R (Settled o) (Settled p) = o ≡ p

abbrev pub IsNoTrap : {S : Type 0} → Outcome S → Type 0
IsNoTrap (Returns v w) = ⊤
IsNoTrap (Ends (Exit v) output log) = ⊤
IsNoTrap (Ends (Trapped t) output log) = ⊥
IsNoTrap (Ends OutOfTurns output log) = ⊤
IsNoTrap Stuck = ⊤

abbrev pub TrapsNot : {S : Type 0} → Effect S → Type 0
TrapsNot (GoesOn f w) = ⊤
TrapsNot (Settled o) = IsNoTrap o

module _ {S : Type 0} where
  -- what follows two effects is the same
  pub follow_both : (R : Frame → World S → Frame → World S → Type 0) (a b : Effect S) (go go1 : Next S) → Both R a b
      → ((f g : Frame) (w v : World S) → R f w g v → go f w ≡ go1 g v) → follow a go ≡ follow b go1
  follow_both R (GoesOn f w) (GoesOn g v) go go1 r h = h f g w v r
  follow_both R (GoesOn f w) (Settled p) go go1 r h = absurd r
  follow_both R (Settled o) (GoesOn g v) go go1 r h = absurd r
  follow_both R (Settled o) (Settled p) go go1 r h = r

  pub word_on : (P : Frame → World S → Type 0) (o : Result ℕ Trap) (f : Frame) (d : ℕ) (w : World S)
      → ((v : ℕ) → P (with_reg f d v) w) → WhereOn P (worded o f d w)
  word_on P (Ok v) f d w h = h v
  word_on P (Err t) f d w h = tt

  pub inside_on : (P : Frame → World S → Type 0) (b : Bool) (w w1 : World S) (f : Frame) → P f w1 → WhereOn P (inside b w (GoesOn f w1))
  inside_on P true w w1 f h = h
  inside_on P false w w1 f h = tt

  pub word_both : (R : Frame → World S → Frame → World S → Type 0) (o o1 : Result ℕ Trap) (f g : Frame) (d e : ℕ) (w : World S) → o ≡ o1
      → ((v : ℕ) → R (with_reg f d v) w (with_reg g e v) w) → Both R (worded o f d w) (worded o1 g e w)
  word_both R o o1 f g d e w same h = subst (λ (p : Result ℕ Trap). Both R (worded o f d w) (worded p g e w)) same (at o)
    where
      at : (p : Result ℕ Trap) → Both R (worded p f d w) (worded p g e w)
      at (Ok v) = h v
      at (Err t) = refl

  pub inside_both : (R : Frame → World S → Frame → World S → Type 0) (b b1 : Bool) (w w1 w2 : World S) (f g : Frame) → b ≡ b1
      → R f w1 g w2 → Both R (inside b w (GoesOn f w1)) (inside b1 w (GoesOn g w2))
  inside_both R b b1 w w1 w2 f g same h =
      subst (λ (c : Bool). Both R (inside b w (GoesOn f w1)) (inside c w (GoesOn g w2))) same (at b)
    where
      at : (c : Bool) → Both R (inside c w (GoesOn f w1)) (inside c w (GoesOn g w2))
      at true = h
      at false = refl
