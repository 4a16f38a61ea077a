-- The objects and routines of a valid program are in order.
use Rattle.std.proofs.Common.{◌≡◌, ◌≢◌, ℕ, ◌≤◌, true, false, List, [], ◌∷◌, ◌++◌, Option, Some, None, refl, sym, ◌∙◌, arith, inl, inr}
use Rattle.std.specs.List.{AllByRecursion}
use Rattle.std.specs.Str.{bytes_eq}
use Rattle.std.proofs.lemmas.Bool.{cases_Bool, ne_eqb, lt-ltb}
use Rattle.il_core.specs.declared.shape.ShapeRow.{ShapeRow}
use Rattle.il_core.specs.Shapes.{IsRising, IsRisingFrom}
use Rattle.il_core.specs.Valid.{HasEachNameOnce}
use Rattle.il_text.specs.Order.{Item, has_pid, has_name, is_above, is_placed, first_misplaced}
use Rattle.il_text.proofs.Counts.{same_bytes}
use Rattle.il_text.proofs.SameRows.{find, all_append, other_name}

-- the name of an item is that of the row of its PID
pub record IsNamed (rows : List ShapeRow) (x : Item) : Type 0 where
  pub row : ShapeRow
  pub there : find x.pid rows ≡ Some row
  pub name : x.name ≡ row.name

abbrev pub Differ : List Item → Item → Type 0
Differ used x = AllByRecursion (λ (u : Item). u.pid ≢ x.pid) used

new_pid : (used : List Item) (x : Item) → Differ used x → has_pid used x.pid ≡ false
new_pid [] x a = refl
new_pid (u ∷ used) x a = rw (ne_eqb u.pid x.pid a.0) (new_pid used x a.1)

new_name : (rows : List ShapeRow) (used : List Item) (x : Item) → HasEachNameOnce rows → AllByRecursion (IsNamed rows) used → IsNamed rows x → Differ used x
    → has_name used x.name ≡ false
new_name rows [] x once known k a = refl
new_name rows (u ∷ used) x once known k a = elim (cases_Bool (bytes_eq u.name x.name)) [
  | inl is ↦ absurd (other_name rows u.pid x.pid known.0.row k.row once known.0.there k.there a.0 (sym known.0.name ∙ same_bytes u.name x.name is ∙ k.name))
  | inr misses ↦ rw misses (new_name rows used x once known.1 k a.1)
]

differ_more : (used : List Item) (x : Item) (b : ℕ) (xs : List Item) → AllByRecursion (Differ used) xs → IsRisingFrom (λ (y : Item). y.pid) b xs → x.pid ≤ b
    → AllByRecursion (Differ (used ++ x ∷ [])) xs
differ_more used x b [] a r le = tt
differ_more used x b (y ∷ ys) a r le = (
  all_append (λ (u : Item). u.pid ≢ y.pid) used (x ∷ []) a.0 ((λ e. omega (arith, e, le, r.0)), tt),
  differ_more used x
      y.pid ys a.1 r.1 (omega (arith, le, r.0)),
)

abbrev RisesFrom : Option ℕ → List Item → Type 0
RisesFrom None xs = IsRising (λ (y : Item). y.pid) xs
RisesFrom (Some b) xs = IsRisingFrom (λ (y : Item). y.pid) b xs

above : (before : Option ℕ) (x : Item) (xs : List Item) → RisesFrom before (x ∷ xs) → is_above before x.pid ≡ true
above None x xs r = refl
above (Some b) x xs r = lt-ltb b x.pid r.0

risen : (before : Option ℕ) (x : Item) (xs : List Item) → RisesFrom before (x ∷ xs) → IsRisingFrom (λ (y : Item). y.pid) x.pid xs
risen None x xs r = r
risen (Some b) x xs r = r.1

placed : (rows : List ShapeRow) (used : List Item) (before : Option ℕ) (x : Item) (xs : List Item) → HasEachNameOnce rows → AllByRecursion (IsNamed rows) used
    → IsNamed rows x → Differ used x → RisesFrom before (x ∷ xs) → is_placed used before x ≡ true
placed rows used before x xs once known k a r = rw (above before x xs r, new_pid used x a, new_name rows used x once known k a) refl

in_order_from : (rows : List ShapeRow) (used : List Item) (before : Option ℕ) (xs : List Item) → HasEachNameOnce rows → AllByRecursion (IsNamed rows) used
    → AllByRecursion (IsNamed rows) xs → AllByRecursion (Differ used) xs → RisesFrom before xs → first_misplaced used before xs ≡ None
in_order_from rows used before [] once known k a r = refl
in_order_from rows used before (x ∷ xs) once known k a r =
    let rest : first_misplaced (used ++ x ∷ []) (Some x.pid) xs ≡ None = in_order_from rows (used ++ x ∷ []) (Some x.pid) xs once
    (all_append (IsNamed rows) used (x ∷ []) known (k.0, tt)) k.1 (differ_more used x x.pid xs a.1 (risen before x xs r) (omega arith))
    (risen before x xs r) in
    rw (placed rows used before x xs once known k.0 a.0 r, rest) refl

-- no item is misplaced
pub in_order : (rows : List ShapeRow) (used xs : List Item) → HasEachNameOnce rows → AllByRecursion (IsNamed rows) used → AllByRecursion (IsNamed rows) xs
    → AllByRecursion (Differ used) xs → IsRising (λ (y : Item). y.pid) xs → first_misplaced used None xs ≡ None
in_order rows used xs once known k a r = in_order_from rows used None xs once known k a r
