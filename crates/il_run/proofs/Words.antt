-- Windows on lists of words, and arrays side by side.
use Rattle.std.proofs.Common.{◌≡◌, ℕ, zero, suc, ◌+◌, ◌-◌, ◌<◌, ◌≤◌, List, [], ◌∷◌, ◌++◌, length, take, get_or, Bool, true, false, refl, ap, subst, sym}
use Rattle.std.proofs.Common.{◌∙◌, arith, ne_eqb, eq-eqb, get_or-set_same, get_or-set_other, inl, inr}
use Rattle.std.specs.Prelude.{nat_eq, nat_lt, if◌then◌else◌, slice_index, slice_set, sum, replicate}
use Rattle.std.proofs.lemmas.Bool.{cases_eq, cases_lt, cases_order, lt-ltb, le-ltb}
use Rattle.std.proofs.lemmas.Bool.Decides.{nat_tests}
use Rattle.std.proofs.lemmas.List.{take-take, get_or_past, get_or-take, get_or-append-add, get_or_append_left, get_or-append_right, get_or_read}
use Rattle.std.proofs.lemmas.List.Sums.{sum_by_more, sum_by-take-le}
use mathlib.Core.Path.{fun_ext}
use Rattle.il_core.specs.World.{put, put_element, from_list, each}
use Rattle.il_core.specs.Meaning.{is_among}
use Rattle.il_run.specs.Words.{window, start_of, arrays_in, AreStarts, Zeroed}

if_yes : {A : Type 0} (c : Bool) (x y : A) → c ≡ true → (if c then x else y) ≡ x
if_yes c x y e = ap (λ (b : Bool). if b then x else y) e

if_no : {A : Type 0} (c : Bool) (x y : A) → c ≡ false → (if c then x else y) ≡ y
if_no c x y e = ap (λ (b : Bool). if b then x else y) e

pub window_in : (xs : List ℕ) (base n x : ℕ) → x < n → window xs base n x ≡ slice_index xs (base + x)
window_in xs base n x lt = if_yes (nat_lt x n) (slice_index xs (base + x)) 0 (lt-ltb x n lt)

pub window_out : (xs : List ℕ) (base n x : ℕ) → n ≤ x → window xs base n x ≡ 0
window_out xs base n x le = if_no (nat_lt x n) (slice_index xs (base + x)) 0 (le-ltb x n le)

put_here : (f : ℕ → ℕ) (d v x : ℕ) → x ≡ d → put f d v x ≡ v
put_here f d v x e = if_yes (nat_eq x d) v (f x) (eq-eqb x d e)

put_there : (f : ℕ → ℕ) (d v x : ℕ) → (x ≡ d → ⊥) → put f d v x ≡ f x
put_there f d v x ne = if_no (nat_eq x d) v (f x) (ne_eqb x d ne)

-- a word of the window is replaced
pub window_set : (xs : List ℕ) (base n d v : ℕ) → d < n → base + n ≤ length xs → window (slice_set xs (base + d) v) base n ≡ put (window xs base n) d v
window_set xs base n d v lt le = fun_ext (λ x.
    elim (cases_eq x d) [
      | inl e ↦ window_in (slice_set xs (base + d) v) base n x (omega arith) ∙ ap (λ (y : ℕ). slice_index (slice_set xs (base + d) v) (base + y)) e ∙
          get_or-set_same xs (base + d) v 0 (omega arith) ∙ sym (put_here (window xs base n) d v x e)
      | inr ne ↦ (elim (cases_lt x n) [
        | inl l ↦ window_in (slice_set xs (base + d) v) base n x l ∙ get_or-set_other xs (base + d) (base + x) v 0 (omega arith) ∙ sym (window_in xs base n x l)
        | inr g ↦ window_out (slice_set xs (base + d) v) base n x g ∙ sym (window_out xs base n x g)
      ])
          ∙ sym (put_there (window xs base n) d v x ne)
    ])

start_next : (lens : List ℕ) (a : ℕ) → a < length lens → start_of lens (a + 1) ≡ start_of lens a + slice_index lens a
start_next lens a lt = sum_by_more (λ (x : ℕ). x) lens a 0 lt

start_le : (lens : List ℕ) (a b : ℕ) → a ≤ b → start_of lens a ≤ start_of lens b
start_le lens a b le = subst (λ (xs : List ℕ). sum xs ≤ start_of lens b) (take-take a b lens le) (sum_by-take-le (λ (x : ℕ). x) (take b lens) a)

pub start_total : (lens : List ℕ) (a : ℕ) → start_of lens a ≤ sum lens
start_total lens a = sum_by-take-le (λ (x : ℕ). x) lens a

-- a length that isn't 0 is one of the list
pub named : (lens : List ℕ) (a i : ℕ) → i < slice_index lens a → a < length lens
named lens a i lt = elim (cases_lt a (length lens)) [ inl l ↦ l | inr g ↦ absurd (omega (arith, get_or_past lens a 0 g)) ]

-- an element of an array lies before each later array, and before the end
pub before_later : (lens : List ℕ) (a b i : ℕ) → i < slice_index lens a → a < b → start_of lens a + i < start_of lens b
before_later lens a b i lt ab = omega (arith, start_next lens a (named lens a i lt), start_le lens (a + 1) b (omega arith))

pub before_end : (lens : List ℕ) (a i : ℕ) → i < slice_index lens a → start_of lens a + i < sum lens
before_end lens a i lt = omega (arith, start_next lens a (named lens a i lt), start_total lens (a + 1))

-- an array ends before each later one begins
pub after_earlier : (lens : List ℕ) (a b : ℕ) → a < b → start_of lens a + slice_index lens a ≤ start_of lens b
after_earlier lens a b lt = elim (cases_lt a (length lens)) [
  | inl l ↦ omega (arith, start_next lens a l, start_le lens (a + 1) b (omega arith))
  | inr g ↦ omega (arith, get_or_past lens a 0 g, start_le lens a b (omega arith))
]

apart : (lens : List ℕ) (a b i j : ℕ) → i < slice_index lens a → j < slice_index lens b → (b ≡ a → ⊥) → start_of lens b + j ≡ start_of lens a + i → ⊥
apart lens a b i j la lb ne e =
    elim (cases_order a b) [
      | inl same ↦ ne (sym same)
      | inr other ↦ elim other
          [ inl l ↦ omega (arith, before_later lens a b i la l) | inr g ↦ omega (arith, before_later lens b a j lb g) ]
    ]

pub element_in : (xs : List ℕ) (base : ℕ) (lens : List ℕ) (a i : ℕ) → i < slice_index lens a
    → arrays_in xs base lens a i ≡ slice_index xs (base + start_of lens a + i)
element_in xs base lens a i lt = if_yes (nat_lt i (slice_index lens a)) (slice_index xs (base + start_of lens a + i)) 0 (lt-ltb i (slice_index lens a) lt)

pub element_out : (xs : List ℕ) (base : ℕ) (lens : List ℕ) (a i : ℕ) → slice_index lens a ≤ i → arrays_in xs base lens a i ≡ 0
element_out xs base lens a i le = if_no (nat_lt i (slice_index lens a)) (slice_index xs (base + start_of lens a + i)) 0 (le-ltb i (slice_index lens a) le)

module _ (xs : List ℕ) (base : ℕ) (lens : List ℕ) (a i v : ℕ) (lt : i < slice_index lens a) (le : base + sum lens ≤ length xs) where
  after : List ℕ
  after = slice_set xs (base + start_of lens a + i) v

  same_array : (j : ℕ) → arrays_in after base lens a j ≡ put (arrays_in xs base lens a) i v j
  unfolding after
  same_array j =
      elim (cases_eq j i) [
        | inl e ↦ element_in after base lens a j (omega arith) ∙ ap (λ (y : ℕ). slice_index after (base + start_of lens a + y)) e ∙ get_or-set_same xs
            (base + start_of lens a + i) v 0 (omega (arith, before_end lens a i lt)) ∙ sym (put_here (arrays_in xs base lens a) i v j e)
        | inr ne ↦ (elim (cases_lt j (slice_index lens a)) [
          | inl l ↦ element_in after base lens a j l ∙ get_or-set_other xs (base + start_of lens a + i) (base + start_of lens a + j) v 0 (omega arith) ∙ sym
              (element_in xs base lens a j l)
          | inr g ↦ element_out after base lens a j g ∙ sym (element_out xs base lens a j g)
        ])
            ∙ sym (put_there (arrays_in xs base lens a) i v j ne)
      ]

  other_array : (b : ℕ) → (b ≡ a → ⊥) → (j : ℕ) → arrays_in after base lens b j ≡ arrays_in xs base lens b j
  unfolding after
  other_array b ne j =
      elim (cases_lt j (slice_index lens b)) [
        | inl l ↦ element_in after base lens b j l ∙ get_or-set_other xs (base + start_of lens a + i) (base + start_of lens b + j) v 0
            (λ e. apart lens a b i j lt l ne (omega arith)) ∙ sym (element_in xs base lens b j l)
        | inr g ↦ element_out after base lens b j g ∙ sym (element_out xs base lens b j g)
      ]

  -- an element of an array is replaced
  pub arrays_set : arrays_in (slice_set xs (base + start_of lens a + i) v) base lens ≡ put_element (arrays_in xs base lens) a i v
  unfolding after
  arrays_set = fun_ext (λ b.
      elim (cases_eq b a) [
        | inl e ↦ ap (λ (y : ℕ). arrays_in after base lens y) e ∙ fun_ext same_array ∙ sym
            (if_yes (nat_eq b a) (put (arrays_in xs base lens a) i v) (arrays_in xs base lens b) (eq-eqb b a e))
        | inr ne ↦ fun_ext (other_array b ne) ∙ sym (if_no (nat_eq b a) (put (arrays_in xs base lens a) i v) (arrays_in xs base lens b) (ne_eqb b a ne))
      ])

-- whether x is among some numbers
among_yes : (first n x : ℕ) → first ≤ x → x < first + n → is_among first n x ≡ true
among_yes first n x l h = grind (arith, nat_tests)

among_below : (first n x : ℕ) → x < first → is_among first n x ≡ false
among_below first n x h = grind (arith, nat_tests)

among_above : (first n x : ℕ) → first + n ≤ x → is_among first n x ≡ false
among_above first n x h = grind (arith, nat_tests)

three : {A : Type 0} (first n x : ℕ) → (x < first → A) → (first ≤ x → x < first + n → A) → (first + n ≤ x → A) → A
three first n x below inside above = elim (cases_lt x first) [
  | inl l ↦ below l
  | inr g ↦
      (elim (cases_lt x (first + n)) [ inl l ↦ inside g l | inr g1 ↦ above g1 ])
]

zero_or : (c : Bool) (v : ℕ) → v ≡ 0 → v ≡ (if c then 0 else v)
zero_or true v e = e
zero_or false v e = refl

-- some words of the window became 0
pub window_zeroed : (xs ys : List ℕ) (base n r c : ℕ) → Zeroed xs ys (base + r) (base + r + c)
    → window ys base n ≡ (λ x. if is_among r c x then 0 else window xs base n x)
window_zeroed xs ys base n r c z = fun_ext (λ x.
    elim (cases_lt x n) [
      | inl l ↦ window_in ys base n x l ∙ three r c x
          (λ h. z.before (base + x) (omega arith) ∙ sym (window_in xs base n x l) ∙ sym (if_no (is_among r c x) 0 (window xs base n x) (among_below r c x h)))
          (λ g h. z.inside (base + x) (omega arith) (omega arith) ∙ sym (if_yes (is_among r c x) 0 (window xs base n x) (among_yes r c x g h)))
          (λ g. z.after (base + x) (omega arith) ∙ sym (window_in xs base n x l) ∙ sym (if_no (is_among r c x) 0 (window xs base n x) (among_above r c x g)))
      | inr g ↦ window_out ys base n x g ∙ sym (window_out xs base n x g) ∙ zero_or (is_among r c x) (window xs base n x) (window_out xs base n x g)
    ])

-- some arrays became 0
pub arrays_zeroed : (xs ys : List ℕ) (base : ℕ) (lens : List ℕ) (a m : ℕ) → Zeroed xs ys (base + start_of lens a) (base + start_of lens (a + m))
    → arrays_in ys base lens ≡ (λ x i. if is_among a m x then 0 else arrays_in xs base lens x i)
arrays_zeroed xs ys base lens a m z = fun_ext (λ x. fun_ext (λ i.
    elim (cases_lt i (slice_index lens x)) [
      | inl l ↦ element_in ys base lens x i l ∙ three a m x
          (λ h. z.before (base + start_of lens x + i) (omega (arith, before_later lens x a i l h)) ∙ sym (element_in xs base lens x i l) ∙ sym
          (if_no (is_among a m x) 0 (arrays_in xs base lens x i) (among_below a m x h)))
          (λ g h. z.inside (base + start_of lens x + i) (omega (arith, start_le lens a x g)) (omega (arith, before_later lens x (a + m) i l h)) ∙ sym
          (if_yes (is_among a m x) 0 (arrays_in xs base lens x i) (among_yes a m x g h)))
          (λ g. z.after (base + start_of lens x + i) (omega (arith, start_le lens (a + m) x g)) ∙ sym (element_in xs base lens x i l) ∙ sym
          (if_no (is_among a m x) 0 (arrays_in xs base lens x i) (among_above a m x g)))
      | inr g ↦ element_out ys base lens x i g ∙ sym (element_out xs base lens x i g) ∙ zero_or (is_among a m x) (arrays_in xs base lens x i)
          (element_out xs base lens x i g)
    ]))

pub from_list_is : (vs : List ℕ) (x : ℕ) → from_list vs x ≡ slice_index vs x
from_list_is [] x = refl
from_list_is (v ∷ vs) zero = refl
from_list_is (v ∷ vs) (suc x) = from_list_is vs x

pub zeros : (n x : ℕ) → slice_index (replicate n 0) x ≡ 0
zeros zero x = refl
zeros (suc n) zero = refl
zeros (suc n) (suc x) = zeros n x

-- a window that begins with arguments, all else being 0
pub window_call : (xs args : List ℕ) (n m : ℕ) → length args ≤ n → window (xs ++ (args ++ replicate m 0)) (length xs) n ≡ from_list args
window_call xs args n m le = fun_ext (λ x.
    elim (cases_lt x n) [
      | inl l ↦ window_in (xs ++ (args ++ replicate m 0)) (length xs) n x l ∙ get_or-append-add xs (args ++ replicate m 0) x 0
          ∙ (elim (cases_lt x (length args)) [
            | inl h ↦ get_or_append_left args (replicate m 0) 0 x h
            | inr g ↦ get_or-append_right args (replicate m 0) (length args) x 0 refl g ∙ zeros m (x - length args) ∙ sym (get_or_past args x 0 g)
          ])
          ∙ sym (from_list_is args x)
      | inr g ↦ window_out (xs ++ (args ++ replicate m 0)) (length xs) n x g ∙ sym (get_or_past args x 0 (omega arith)) ∙ sym (from_list_is args x)
    ])

pub arrays_call : (xs : List ℕ) (lens : List ℕ) (m : ℕ) → arrays_in (xs ++ replicate m 0) (length xs) lens ≡ (λ a i. 0)
arrays_call xs lens m = fun_ext (λ a. fun_ext (λ i.
    elim (cases_lt i (slice_index lens a)) [
      | inl l ↦ element_in (xs ++ replicate m 0) (length xs) lens a i l ∙ ap (λ (k : ℕ). slice_index (xs ++ replicate m 0) k) (omega arith) ∙ get_or-append-add
          xs (replicate m 0) (start_of lens a + i) 0 ∙ zeros m (start_of lens a + i)
      | inr g ↦ element_out (xs ++ replicate m 0) (length xs) lens a i g
    ]))

-- words below a place decide
pub window_below : (xs ys : List ℕ) (base n h : ℕ) → take h xs ≡ take h ys → base + n ≤ h → window xs base n ≡ window ys base n
window_below xs ys base n h e le = fun_ext (λ x.
    elim (cases_lt x n) [
      | inl l ↦ window_in xs base n x l ∙ sym (get_or-take h xs (base + x) 0 (omega arith)) ∙ ap (λ (zs : List ℕ). slice_index zs (base + x)) e ∙ get_or-take h
          ys (base + x) 0 (omega arith) ∙ sym (window_in ys base n x l)
      | inr g ↦ window_out xs base n x g ∙ sym (window_out ys base n x g)
    ])

pub arrays_below : (xs ys : List ℕ) (base : ℕ) (lens : List ℕ) (h : ℕ) → take h xs ≡ take h ys → base + sum lens ≤ h
    → arrays_in xs base lens ≡ arrays_in ys base lens
arrays_below xs ys base lens h e le = fun_ext (λ a. fun_ext (λ i.
    elim (cases_lt i (slice_index lens a)) [
      | inl l ↦ element_in xs base lens a i l ∙ sym (get_or-take h xs (base + start_of lens a + i) 0 (omega (arith, before_end lens a i l))) ∙ ap
          (λ (zs : List ℕ). slice_index zs (base + start_of lens a + i)) e ∙ get_or-take h ys (base + start_of lens a + i) 0
          (omega (arith, before_end lens a i l)) ∙ sym (element_in ys base lens a i l)
      | inr g ↦ element_out xs base lens a i g ∙ sym (element_out ys base lens a i g)
    ]))

-- what is read at an array's number is where it begins
pub start_read : (lens starts : List ℕ) (a x : ℕ) → AreStarts lens starts → a ≤ length lens → x ≡ get_or starts a x → x ≡ start_of lens a
start_read lens starts a x s le read = get_or_read starts a x (omega (arith, s.count)) read 0 ∙ s.each a le

pub start_rises : (lens : List ℕ) (a m : ℕ) → start_of lens a ≤ start_of lens (a + m)
start_rises lens a m = start_le lens a (a + m) (omega arith)

pub each_more : (f : ℕ → ℕ) (xs : List ℕ) (x : ℕ) → each f (xs ++ x ∷ []) ≡ each f xs ++ f x ∷ []
each_more f [] x = refl
each_more f (y ∷ ys) x = ap (λ (zs : List ℕ). f y ∷ zs) (each_more f ys x)

pub each_length : (f : ℕ → ℕ) (xs : List ℕ) → length (each f xs) ≡ length xs
each_length f [] = refl
each_length f (y ∷ ys) = ap suc (each_length f ys)

-- an array ends within all
pub fits_end : (lens : List ℕ) (a : ℕ) → start_of lens a + slice_index lens a ≤ sum lens
fits_end lens a = elim (cases_lt a (length lens)) [
  | inl l ↦ omega (arith, start_next lens a l, start_total lens (a + 1))
  | inr g ↦ omega (arith, get_or_past lens a 0 g, start_total lens a)
]
