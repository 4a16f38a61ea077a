-- Frames of a routine that hold the locals of a function.
use Rattle.std.proofs.Common.{◌≡◌, ℕ, ◌<◌, ◌≤◌, Bool, true, false, refl, ap, ◌∙◌, arith}
use Rattle.std.specs.Prelude.{nat_eq, if◌then◌else◌}
use Rattle.std.proofs.lemmas.Bool.{eq-eqb, ne_eqb, eqb-true, eqb-false}
use Rattle.il_core.specs.World.{put, put_element}
use Rattle.il_core.specs.Meaning.{Frame, Lengths, with_reg}
use Rattle.c_typed.specs.Expressions.{Spot, Whole, Part}
use Rattle.c_typed.specs.Results.{Locals}
use Rattle.lower_laws.specs.Bound.{Scope, IsVariable, IsArray}
use Rattle.lower_laws.specs.Layouts.{Layout}

pub if_yes : {A : Type 0} (t b : ℕ) (x y : A) → t ≡ b → (if nat_eq t b then x else y) ≡ x
if_yes t b x y e = ap (λ c. if c then x else y) (eq-eqb t b e)

pub if_no : {A : Type 0} (t b : ℕ) (x y : A) → (t ≡ b → ⊥) → (if nat_eq t b then x else y) ≡ y
if_no t b x y ne = ap (λ c. if c then x else y) (ne_eqb t b ne)

pub put_here : (f : ℕ → ℕ) (x v : ℕ) → put f x v x ≡ v
put_here f x v = if_yes x x v (f x) refl

pub put_other : (f : ℕ → ℕ) (x v z : ℕ) → (z ≡ x → ⊥) → put f x v z ≡ f z
put_other f x v z ne = if_no z x v (f z) ne

-- a local that is a variable, and one that is an array
abbrev pub IsScalarLocal : Scope → ℕ → Type 0
IsScalarLocal s x = (x < s.locals) × (s.is_array x ≡ false)

abbrev pub IsArrayLocal : Scope → ℕ → Type 0
IsArrayLocal s a = (a < s.locals) × (s.is_array a ≡ true)

-- The locals of a scope have registers behind the parameters, and arrays, each its own. `routine` has the lengths of the
-- routine's arrays, and `function` those of the function's.
pub record IsLaidOut (routine function : Lengths) (y : Layout) (s : Scope) : Type 0 where
  pub behind : (x : ℕ) → IsScalarLocal s x → s.params ≤ y.register x
  pub apart : (x z : ℕ) → IsScalarLocal s x → IsScalarLocal s z → y.register x ≡ y.register z → x ≡ z
  pub arrays : (a b : ℕ) → IsArrayLocal s a → IsArrayLocal s b → y.array a ≡ y.array b → a ≡ b
  pub lengths : (a : ℕ) → IsArrayLocal s a → routine.array (y.array a) ≡ function.array a
  pub objects : (g : ℕ) → routine.object g ≡ function.object g

-- a register that no parameter and no local has
pub record IsFree (y : Layout) (s : Scope) (d : ℕ) : Type 0 where
  pub behind : s.params ≤ d
  pub other : (x : ℕ) → IsScalarLocal s x → y.register x ≡ d → ⊥

-- the registers from a up to b are free
pub record IsRoom (y : Layout) (s : Scope) (a b : ℕ) : Type 0 where
  pub by : (d : ℕ) → a ≤ d → d < b → IsFree y s d

pub room_part : {y : Layout} {s : Scope} {a b c d : ℕ} → a ≤ b → c ≤ d → IsRoom y s a d → IsRoom y s b c
room_part p q room = record { by = λ z from below. room.by z (omega (arith, p)) (omega (arith, q)) }

-- a frame has the words of the locals
pub record Agrees (y : Layout) (s : Scope) (l : Locals) (f : Frame) : Type 0 where
  pub params : (x : ℕ) → x < s.params → f.regs x ≡ l.params x
  pub variables : (x : ℕ) → IsScalarLocal s x → f.regs (y.register x) ≡ l.variables x
  pub arrays : (a : ℕ) → IsArrayLocal s a → (i : ℕ) → f.arrays (y.array a) i ≡ l.arrays a i

-- the free registers below r have the same words
pub record Keeps (y : Layout) (s : Scope) (r : ℕ) (f g : Frame) : Type 0 where
  pub by : (d : ℕ) → IsFree y s d → d < r → g.regs d ≡ f.regs d

pub keeps_none : {y : Layout} {s : Scope} {r : ℕ} (f : Frame) → Keeps y s r f f
keeps_none f = record { by = λ d free below. refl }

pub keeps_then : {y : Layout} {s : Scope} {r r1 : ℕ} {f g h : Frame} → r ≤ r1 → Keeps y s r f g → Keeps y s r1 g h → Keeps y s r f h
keeps_then le p q = record { by = λ d free below. q.by d free (omega arith) ∙ p.by d free below }

pub keeps_below : {y : Layout} {s : Scope} {r r1 : ℕ} {f g : Frame} → r ≤ r1 → Keeps y s r1 f g → Keeps y s r f g
keeps_below le k = record { by = λ d free below. k.by d free (omega arith) }

pub keeps_put : {y : Layout} {s : Scope} {r : ℕ} (f : Frame) (d v : ℕ) → r ≤ d → Keeps y s r f (with_reg f d v)
keeps_put f d v le = record { by = λ z free below. put_other f.regs d v z (λ e. omega arith) }

-- a free register changes
pub agrees_free : {y : Layout} {s : Scope} {l : Locals} {f : Frame} (d v : ℕ) → IsFree y s d → Agrees y s l f
    → Agrees y s l (with_reg f d v)
agrees_free {y} {s} {l} {f} d v free a = record {
  params = λ x lt. put_other f.regs d v x (λ e. omega (arith, free.behind)) ∙ a.params x lt;
  variables = λ x ok. put_other f.regs d v (y.register x) (λ e. free.other x ok e) ∙ a.variables x ok;
  arrays = a.arrays;
}

same_put : (x z v a b : ℕ) → a ≡ b → (if nat_eq z x then v else a) ≡ (if nat_eq z x then v else b)
same_put x z v a b e = ap {B = ℕ} (λ q. if nat_eq z x then v else q) e

-- a parameter changes
pub agrees_param : {n m : Lengths} {y : Layout} {s : Scope} {l : Locals} {f : Frame} (x v : ℕ) → IsLaidOut n m y s → x < s.params
    → Agrees y s l f → Agrees y s (record l { params = put l.params x v }) (with_reg f x v)
agrees_param {n} {m} {y} {s} {l} {f} x v laid lt a = record {
  params = λ z below. same_put x z v (f.regs z) (l.params z) (a.params z below);
  variables = λ z ok. put_other f.regs x v (y.register z) (λ e. omega (arith, laid.behind z ok)) ∙ a.variables z ok;
  arrays = a.arrays;
}

-- a choice by numbers, and the same choice by the numbers that an injective numbering gives them
by_number : (i j x z v a b : ℕ) → (i ≡ j → x ≡ z) → (x ≡ z → i ≡ j) → a ≡ b
    → (if nat_eq i j then v else a) ≡ (if nat_eq x z then v else b)
by_number i j x z v a b there back same = go (nat_eq i j) (nat_eq x z) refl refl
  where
    go : (p q : Bool) → nat_eq i j ≡ p → nat_eq x z ≡ q → (if p then v else a) ≡ (if q then v else b)
    go true true e f = refl
    go false false e f = same
    go true false e f = absurd (eqb-false x z f (there (eqb-true i j e)))
    go false true e f = absurd (eqb-false i j e (back (eqb-true x z f)))

by_number_at : (i j x z : ℕ) (a b c d : ℕ → ℕ) (p : ℕ) → (i ≡ j → x ≡ z) → (x ≡ z → i ≡ j) → (x ≡ z → a p ≡ c p) → b p ≡ d p
    → (if nat_eq i j then a else b) p ≡ (if nat_eq x z then c else d) p
by_number_at i j x z a b c d p there back here same = go (nat_eq i j) (nat_eq x z) refl refl
  where
    go : (u v : Bool) → nat_eq i j ≡ u → nat_eq x z ≡ v → (if u then a else b) p ≡ (if v then c else d) p
    go true true e f = here (eqb-true x z f)
    go false false e f = same
    go true false e f = absurd (eqb-false x z f (there (eqb-true i j e)))
    go false true e f = absurd (eqb-false i j e (back (eqb-true x z f)))

-- a local that is a variable changes
pub agrees_local : {n m : Lengths} {y : Layout} {s : Scope} {l : Locals} {f : Frame} (x v : ℕ) → IsLaidOut n m y s
    → IsScalarLocal s x → Agrees y s l f → Agrees y s (record l { variables = put l.variables x v }) (with_reg f (y.register x) v)
agrees_local {n} {m} {y} {s} {l} {f} x v laid ok a = record {
  params = λ z below. put_other f.regs (y.register x) v z (λ e. omega (arith, laid.behind x ok)) ∙ a.params z below;
  variables = λ z okz.
      by_number (y.register z) (y.register x) z x v (f.regs (y.register z)) (l.variables z) (laid.apart z x okz ok) (ap y.register)
      (a.variables z okz);
  arrays = a.arrays;
}

-- an element of a local array changes
pub agrees_element : {n m : Lengths} {y : Layout} {s : Scope} {l : Locals} {f : Frame} (a i v : ℕ) → IsLaidOut n m y s
    → IsArrayLocal s a → Agrees y s l f
    → Agrees y s (record l { arrays = put_element l.arrays a i v }) (record f { arrays = put_element f.arrays (y.array a) i v })
agrees_element {n} {m} {y} {s} {l} {f} a i v laid ok h = record {
  params = h.params;
  variables = h.variables;
  arrays = λ b okb j.
      by_number_at (y.array b) (y.array a) b a (put (f.arrays (y.array a)) i v) (f.arrays (y.array b)) (put (l.arrays a) i v)
      (l.arrays b) j (laid.arrays b a okb ok) (ap y.array)
      (λ e. same_put i j v (f.arrays (y.array a) j) (l.arrays a j) (h.arrays a ok j)) (h.arrays b okb j);
}

-- ---- places whose index is in a register

abbrev pub IsSpot : Scope → Spot → Type 0
IsSpot s (Whole x) = IsVariable s x
IsSpot s (Part a i) = IsArray s a

-- the place that it is in a frame
abbrev pub spot_in : Frame → Spot → Spot
spot_in f (Whole x) = Whole x
spot_in f (Part a i) = Part a (f.regs i)

-- the index is in a free register below r
abbrev pub HasIndex : Layout → Scope → ℕ → Spot → Type 0
HasIndex y s r (Whole x) = Unit {0}
HasIndex y s r (Part a i) = IsFree y s i × (i < r)

pub record SpotBelow (y : Layout) (s : Scope) (r : ℕ) (p : Spot) : Type 0 where
  pub by : HasIndex y s r p

pub spot_kept : {y : Layout} {s : Scope} {r : ℕ} {f g : Frame} (p : Spot) → SpotBelow y s r p → Keeps y s r f g
    → spot_in g p ≡ spot_in f p
spot_kept (Whole x) below keeps = refl
spot_kept (Part a i) below keeps = ap (λ q. Part a q) (keeps.by i below.by.0 below.by.1)

pub spot_later : {y : Layout} {s : Scope} {r r1 : ℕ} (p : Spot) → r ≤ r1 → SpotBelow y s r p → SpotBelow y s r1 p
spot_later (Whole x) le below = record { by = tt }
spot_later (Part a i) le below = record { by = (below.by.0, omega (arith, below.by.1)) }
