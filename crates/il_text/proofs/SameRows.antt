-- Rows by rising PID are told by what is found among them.
use Rattle.std.proofs.Common.{◌≡◌, ◌≢◌, ℕ, zero, suc, ◌<◌, ◌≤◌, false, List, [], ◌∷◌, ◌++◌, Option, Some, None, length, map, refl, sym, ◌∙◌, ap, subst}
use Rattle.std.proofs.Common.{arith, inl, inr}
use Rattle.std.specs.Prelude.{Contains, nat_eq, slice_index_or}
use Rattle.std.specs.List.{AllByRecursion}
use Rattle.std.specs.List.Sorted.{IsPermutation}
use Rattle.std.proofs.lemmas.Bool.{cases_Bool, eqb-true, ne_eqb}
use Rattle.std.proofs.lemmas.List.Elements.{Contains-append_right}
use Rattle.std.proofs.lemmas.List.Sorted.{Contains-permutation, IsPermutation-sym}
use Rattle.il_core.specs.declared.shape.ShapeRow.{ShapeRow}
use Rattle.il_core.specs.declared.shape.Shape.{Shape}
use Rattle.il_core.specs.Program.{found, name_of_row, shape_of_row}
use Rattle.il_core.specs.Shapes.{IsRising, IsRisingFrom}
use Rattle.il_core.specs.Valid.{HasEachNameOnce}
use Rattle.il_text.proofs.Programs.{Rising, contains_head}

-- Lists of which something holds.

pub all_through : {X Y : Type 0} (h : X → Y) (P : Y → Type 0) (xs : List X) → AllByRecursion (λ x. P (h x)) xs → AllByRecursion P (map h xs)
all_through h P [] a = tt
all_through h P (x ∷ xs) a = (a.0, all_through h P xs a.1)

pub all_append : {X : Type 0} (P : X → Type 0) (xs ys : List X) → AllByRecursion P xs → AllByRecursion P ys → AllByRecursion P (xs ++ ys)
all_append P [] ys a b = b
all_append P (x ∷ xs) ys a b = (a.0, all_append P xs ys a.1 b)

pub all_each : {X : Type 0} (P Q : X → Type 0) (xs : List X) → ((x : X) → P x → Q x) → AllByRecursion P xs → AllByRecursion Q xs
all_each P Q [] f a = tt
all_each P Q (x ∷ xs) f a = (f x a.0, all_each P Q xs f a.1)

pub all_there : {X : Type 0} (P : X → Type 0) (xs : List X) (y : X) (ys : List X) → AllByRecursion P (xs ++ y ∷ ys) → P y
all_there P [] y ys a = a.0
all_there P (x ∷ xs) y ys a = all_there P xs y ys a.1

pub each_in : {X : Type 0} (P : X → Type 0) (xs : List X) (x : X) (i : ℕ) → AllByRecursion P xs → i < length xs → slice_index_or xs i x ≡ x → P x
each_in P [] x i a lt e = absurd (omega (arith, lt))
each_in P (y ∷ ys) x zero a lt e = subst P e a.0
each_in P (y ∷ ys) x (suc i) a lt e = each_in P ys x i a.1 (omega (arith, lt)) e

all_of : (P : ShapeRow → Type 0) (rows : List ShapeRow) → ((r : ShapeRow) → Contains rows r → P r) → AllByRecursion P rows
all_of P [] h = tt
all_of P (r ∷ rows) h = (h r (contains_head r rows), all_of P rows (λ x c. h x (Contains-append_right (r ∷ []) rows x c)))

-- what holds of each row holds of them in another order
pub all_moved : (P : ShapeRow → Type 0) (xs ys : List ShapeRow) → IsPermutation xs ys → AllByRecursion P xs → AllByRecursion P ys
all_moved P xs ys h a = all_of P ys (λ r c. let k = Contains-permutation ys xs r (IsPermutation-sym xs ys h) c in each_in P xs r k.0 a k.1 k.2)

-- a list that rises by a number of what its elements become
pub rises_through : {X Y : Type 0} (h : X → Y) (g : Y → ℕ) (b : ℕ) (xs : List X) → IsRisingFrom (λ x. g (h x)) b xs → IsRisingFrom g b (map h xs)
rises_through h g b [] r = tt
rises_through h g b (x ∷ xs) r = (r.0, rises_through h g (g (h x)) xs r.1)

pub rise_through : {X Y : Type 0} (h : X → Y) (g : Y → ℕ) (xs : List X) → IsRising (λ x. g (h x)) xs → IsRising g (map h xs)
rise_through h g [] r = tt
rise_through h g (x ∷ xs) r = rises_through h g (g (h x)) xs r

-- What is found.

abbrev pub find : ℕ → List ShapeRow → Option ShapeRow
find n rows = found (λ row. row.pid) n rows

abbrev pub RisingFrom : ℕ → List ShapeRow → Type 0
RisingFrom b rows = IsRisingFrom (λ row. row.pid) b rows

-- a row that is found by its PID
abbrev pub IsRowOf : List ShapeRow → ShapeRow → Type 0
IsRowOf rows x = find x.pid rows ≡ Some x

pub found_pid : (n : ℕ) (rows : List ShapeRow) (r : ShapeRow) → find n rows ≡ Some r → r.pid ≡ n
found_pid n [] r e = absurd cc
found_pid n (x ∷ xs) r e = elim (cases_Bool (nat_eq x.pid n)) [
  | inl is ↦ let s : Some x ≡ Some r = rw is at e in let same : r ≡ x = cc s in ap (λ (y : ShapeRow). y.pid) same ∙ eqb-true x.pid n is
  | inr misses ↦ let s : find n xs ≡ Some r = rw misses at e in found_pid n xs r s
]

pub found_each : (P : ShapeRow → Type 0) (n : ℕ) (rows : List ShapeRow) (r : ShapeRow) → AllByRecursion P rows → find n rows ≡ Some r → P r
found_each P n [] r a e = absurd cc
found_each P n (x ∷ xs) r a e = elim (cases_Bool (nat_eq x.pid n)) [
  | inl is ↦ let s : Some x ≡ Some r = rw is at e in let same : x ≡ r = cc s in subst P same a.0
  | inr misses ↦ let s : find n xs ≡ Some r = rw misses at e in found_each P n xs r a.1 s
]

found_from : (b n : ℕ) (rows : List ShapeRow) (r : ShapeRow) → RisingFrom b rows → find n rows ≡ Some r → b < n
found_from b n [] r h e = absurd cc
found_from b n (x ∷ xs) r h e = elim (cases_Bool (nat_eq x.pid n)) [
  | inl is ↦ omega (arith, h.0, eqb-true x.pid n is)
  | inr misses ↦ let s : find n xs ≡ Some r = rw misses at e in omega (arith, h.0, found_from x.pid n xs r h.1 s)
]

row_parts : (r : ShapeRow) (pid : ℕ) (s : Shape) → r.pid ≡ pid → r.shape ≡ s
    → (let q : ShapeRow = record { pid = pid; name = r.name; shape = s } in Some r ≡ Some q)
row_parts r pid s e f = ap (λ n. let q : ShapeRow = record { pid = n; name = r.name; shape = r.shape } in Some q) e ∙ ap
    (λ t. let q : ShapeRow = record { pid = pid; name = r.name; shape = t } in Some q) f

row_told_by : (rows : List ShapeRow) (pid : ℕ) (s : Shape) (o : Option ShapeRow) → find pid rows ≡ o → shape_of_row o ≡ Some s
    → (let q : ShapeRow = record { pid = pid; name = name_of_row o; shape = s } in o ≡ Some q)
row_told_by rows pid s None e f = absurd cc
row_told_by rows pid s (Some r) e f = let same : r.shape ≡ s = cc f in row_parts r pid s (found_pid pid rows r e) same

-- the row of a PID with its shape
pub row_told : (rows : List ShapeRow) (pid : ℕ) (s : Shape) → shape_of_row (find pid rows) ≡ Some s
    → (let q : ShapeRow = record { pid = pid; name = name_of_row (find pid rows); shape = s } in IsRowOf rows q)
row_told rows pid s f = row_told_by rows pid s (find pid rows) refl f

-- The same rows.

from_there : (b : ℕ) (rows : List ShapeRow) → RisingFrom b rows → Rising rows
from_there b [] h = tt
from_there b (x ∷ xs) h = h.1

past_head : (y : ShapeRow) (ys : List ShapeRow) (b : ℕ) (xs : List ShapeRow) → RisingFrom b xs → y.pid ≤ b → AllByRecursion (IsRowOf (y ∷ ys)) xs
    → AllByRecursion (IsRowOf ys) xs
past_head y ys b [] h le a = tt
past_head y ys b (x ∷ xs) h le a =
    let misses : nat_eq y.pid x.pid ≡ false = ne_eqb y.pid x.pid (λ e. omega (arith, e, le, h.0)) in
    let here : find x.pid (y ∷ ys) ≡ Some x = a.0 in
    let s : find x.pid ys ≡ Some x = rw misses at here in
    (s, past_head y ys x.pid xs h.1 (omega (arith, le, h.0)) a.1)

few_rows : (xs ys : List ShapeRow) → Rising xs → Rising ys → AllByRecursion (IsRowOf ys) xs → length xs ≤ length ys
few_rows [] ys h k a = omega arith
few_rows (x ∷ xs) [] h k a = let e : None ≡ Some x = a.0 in absurd (cc e)
few_rows (x ∷ xs) (y ∷ ys) h k a =
    let here : find x.pid (y ∷ ys) ≡ Some x = a.0 in
    elim (cases_Bool (nat_eq y.pid x.pid)) [
      | inl is ↦ let le = few_rows xs ys (from_there x.pid xs h) (from_there y.pid ys k)
          (past_head y ys x.pid xs h (omega (arith, eqb-true y.pid x.pid is)) a.1) in omega (arith, le)
      | inr misses ↦
          let s : find x.pid ys ≡ Some x = rw misses at here in
          let lt = found_from y.pid x.pid ys x k s in
          let le = few_rows (x ∷ xs) ys h (from_there y.pid ys k) (s, past_head y ys x.pid xs h (omega (arith, lt)) a.1) in
          omega (arith, le)
    ]

-- no more rows, where each of the others is found: they are the same
pub same_rows : (xs ys : List ShapeRow) → Rising xs → Rising ys → AllByRecursion (IsRowOf ys) xs → length ys ≤ length xs → xs ≡ ys
same_rows [] [] h k a few = refl
same_rows [] (y ∷ ys) h k a few = absurd (omega (arith, few))
same_rows (x ∷ xs) [] h k a few = let e : None ≡ Some x = a.0 in absurd (cc e)
same_rows (x ∷ xs) (y ∷ ys) h k a few =
    let here : find x.pid (y ∷ ys) ≡ Some x = a.0 in
    elim (cases_Bool (nat_eq y.pid x.pid)) [
      | inl is ↦
          let s : Some y ≡ Some x = rw is at here in
          let same : x ≡ y = cc s in
          let rest = same_rows xs ys (from_there x.pid xs h) (from_there y.pid ys k) (past_head y ys x.pid xs h (omega (arith, eqb-true y.pid x.pid is)) a.1)
          (omega (arith, few)) in
          ap (λ r. r ∷ xs) same ∙ ap (λ l. y ∷ l) rest
      | inr misses ↦
          let s : find x.pid ys ≡ Some x = rw misses at here in
          let lt = found_from y.pid x.pid ys x k s in
          let le = few_rows (x ∷ xs) ys h (from_there y.pid ys k) (s, past_head y ys x.pid xs h (omega (arith, lt)) a.1) in
          absurd (omega (arith, le, few))
    ]

-- rows of two PIDs have two names
pub other_name : (rows : List ShapeRow) (a b : ℕ) (r s : ShapeRow) → HasEachNameOnce rows → find a rows ≡ Some r → find b rows ≡ Some s → a ≢ b
    → r.name ≢ s.name
other_name [] a b r s once e f apart = absurd cc
other_name (x ∷ xs) a b r s once e f apart = elim (cases_Bool (nat_eq x.pid a)) [
  | inl is ↦
      let p : Some x ≡ Some r = rw is at e in
      let same : r ≡ x = cc p in
      elim (cases_Bool (nat_eq x.pid b)) [
        | inl there ↦ absurd (apart (sym (eqb-true x.pid a is) ∙ eqb-true x.pid b there))
        | inr not_there ↦ let q : find b xs ≡ Some s = rw not_there at f in λ n. found_each (λ other. other.name ≢ x.name) b xs s once.0 q
            (sym n ∙ ap (λ (y : ShapeRow). y.name) same)
      ]
  | inr misses ↦
      let p : find a xs ≡ Some r = rw misses at e in
      elim (cases_Bool (nat_eq x.pid b)) [
        | inl there ↦ let q : Some x ≡ Some s = rw there at f in let same : s ≡ x = cc q in λ n. found_each (λ other. other.name ≢ x.name) a xs r once.0 p
            (n ∙ ap (λ (y : ShapeRow). y.name) same)
        | inr not_there ↦ let q : find b xs ≡ Some s = rw not_there at f in other_name xs a b r s once.1 p q apart
      ]
]
