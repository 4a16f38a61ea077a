-- Looking for a PID among rows by rising PID.
use Rattle.std.proofs.Common.{◌≡◌, ℕ, suc, ◌+◌, ◌<◌, ◌≤◌, List, [], ◌∷◌, ◌++◌, length, take, drop, Some, None, refl, sym, ◌∙◌, ap, subst, add-one, arith}
use Rattle.std.specs.Prelude.{slice_index_or}
use Rattle.std.specs.List.{AllByRecursion}
use Rattle.std.proofs.Math.Seq.{drop-cons, take-suc, drop-length}
use Rattle.std.proofs.lemmas.List.{take-append-drop}
use Rattle.std.proofs.lemmas.Bool.{ne_eqb, eq-eqb}
use Rattle.il_core.specs.declared.shape.ShapeRow.{ShapeRow}
use Rattle.il_core.specs.Shapes.{IsRising, IsRisingFrom}
use Rattle.il_core.specs.Program.{found}

-- all PIDs are below one, or above it
abbrev pub Below : ℕ → List ShapeRow → Type 0
Below pid rows = AllByRecursion (λ row. row.pid < pid) rows

abbrev pub Above : ℕ → List ShapeRow → Type 0
Above pid rows = AllByRecursion (λ row. pid < row.pid) rows

abbrev pub Rising : List ShapeRow → Type 0
Rising rows = IsRising (λ row. row.pid) rows

abbrev RisingFrom : ℕ → List ShapeRow → Type 0
RisingFrom n rows = IsRisingFrom (λ row. row.pid) n rows

-- a search goes on between two places
pub record IsBetween (low high pid : ℕ) (rows : List ShapeRow) : Type 0 where
  pub order : low ≤ high
  pub inside : high ≤ length rows
  pub below : Below pid (take low rows)
  pub above : Above pid (drop high rows)

above_weaker : (n m : ℕ) (rows : List ShapeRow) → n < m → Above m rows → Above n rows
above_weaker n m [] lt h = tt
above_weaker n m (row ∷ rows) lt h = (omega (arith, h.0), above_weaker n m rows lt h.1)

above_from : (n : ℕ) (rows : List ShapeRow) → RisingFrom n rows → Above n rows
above_from n [] h = tt
above_from n (row ∷ rows) h = (h.0, above_weaker n row.pid rows h.0 (above_from row.pid rows h.1))

below_stronger : (n m : ℕ) (rows : List ShapeRow) → n < m → Below n rows → Below m rows
below_stronger n m [] lt h = tt
below_stronger n m (row ∷ rows) lt h = (omega (arith, h.0), below_stronger n m rows lt h.1)

split_from : (n : ℕ) (a : List ShapeRow) (x : ShapeRow) (b : List ShapeRow) → RisingFrom n (a ++ x ∷ b) → (n < x.pid) × Below x.pid a × Above x.pid b
split_from n [] x b h = (h.0, tt, above_from x.pid b h.1)
split_from n (y ∷ a) x b h = let r = split_from y.pid a x b h.1 in (omega (arith, h.0, r.0), (r.0, r.1), r.2)

-- of rising rows, those before one are below it, and those behind are above it
split : (a : List ShapeRow) (x : ShapeRow) (b : List ShapeRow) → Rising (a ++ x ∷ b) → Below x.pid a × Above x.pid b
split [] x b h = (tt, above_from x.pid b h)
split (y ∷ a) x b h = let r = split_from y.pid a x b h in ((r.0, r.1), r.2)

parts : (rows : List ShapeRow) (m : ℕ) (x : ShapeRow) → m < length rows → x ≡ slice_index_or rows m x → take m rows ++ x ∷ drop (suc m) rows ≡ rows
parts rows m x lt e = ap (λ l. take m rows ++ l) (ap (λ y. y ∷ drop (suc m) rows) e ∙ sym (drop-cons rows m x lt)) ∙ take-append-drop m rows

split_at : (rows : List ShapeRow) (m : ℕ) (x : ShapeRow) → Rising rows → m < length rows → x ≡ slice_index_or rows m x
    → Below x.pid (take m rows) × Above x.pid (drop (suc m) rows)
split_at rows m x rising lt e = split (take m rows) x (drop (suc m) rows) (subst Rising (sym (parts rows m x lt e)) rising)

below_one_more : (n : ℕ) (rows : List ShapeRow) (x : ShapeRow) → Below n rows → x.pid < n → Below n (rows ++ x ∷ [])
below_one_more n [] x h lt = (lt, tt)
below_one_more n (row ∷ rows) x h lt = (h.0, below_one_more n rows x h.1 lt)

pub at_first : (pid : ℕ) (rows : List ShapeRow) → IsBetween 0 (length rows) pid rows
at_first pid rows = record { order = omega arith; inside = omega arith; below = tt; above = subst (Above pid) (sym (drop-length rows)) tt }

pub go_up : (low high pid m : ℕ) (rows : List ShapeRow) (x : ShapeRow) → Rising rows → IsBetween low high pid rows → m < high → x ≡ slice_index_or rows m x
    → x.pid < pid → IsBetween (m + 1) high pid rows
go_up low high pid m rows x rising h lt e less =
    let inside : m < length rows = omega (arith, h.inside) in
    let b : Below pid (take m rows ++ x ∷ []) = below_one_more pid (take m rows) x
    (below_stronger x.pid pid (take m rows) less (split_at rows m x rising inside e).0) less in
    record {
      order = omega arith;
      inside = h.inside;
      above = h.above;
      below = rw (add-one, take-suc rows m x inside)
          (subst (λ y. Below pid (take m rows ++ y ∷ [])) e b);
    }

pub go_down : (low high pid m : ℕ) (rows : List ShapeRow) (x : ShapeRow) → Rising rows → IsBetween low high pid rows → low ≤ m → m < high
    → x ≡ slice_index_or rows m x → pid < x.pid → IsBetween low m pid rows
go_down low high pid m rows x rising h le lt e more =
    let inside : m < length rows = omega (arith, h.inside) in
    record {
      order = le;
      inside = omega arith;
      below = h.below;
      above = rw (drop-cons rows m x inside)
          (subst (λ y. Above pid (y ∷ drop (suc m) rows)) e (more, above_weaker pid x.pid (drop (suc m) rows) more (split_at rows m x rising inside e).1));
    }

found_past : (pid : ℕ) (a b : List ShapeRow) → Below pid a → found (λ row. row.pid) pid (a ++ b) ≡ found (λ row. row.pid) pid b
found_past pid [] b h = refl
found_past pid (row ∷ a) b h = rw (ne_eqb row.pid pid (λ e. omega (arith, e, h.0))) (found_past pid a b h.1)

found_none : (pid : ℕ) (rows : List ShapeRow) → Above pid rows → found (λ row. row.pid) pid rows ≡ None
found_none pid [] h = refl
found_none pid (row ∷ rows) h = rw (ne_eqb row.pid pid (λ e. omega (arith, e, h.0))) (found_none pid rows h.1)

pub not_there : (low high pid : ℕ) (rows : List ShapeRow) → IsBetween low high pid rows → high ≤ low → found (λ row. row.pid) pid rows ≡ None
not_there low high pid rows h ends =
    let same : low ≡ high = omega (arith, h.order) in
    ap (λ l. found (λ row. row.pid) pid l) (sym (take-append-drop low rows)) ∙ found_past pid (take low rows) (drop low rows) h.below ∙ found_none pid
    (drop low rows) (subst (λ n. Above pid (drop n rows)) (sym same) h.above)

found_here : (pid : ℕ) (x : ShapeRow) (b : List ShapeRow) → x.pid ≡ pid → found (λ row. row.pid) pid (x ∷ b) ≡ Some x
found_here pid x b e = rw (eq-eqb x.pid pid e) refl

pub is_there : (pid m : ℕ) (rows : List ShapeRow) (x : ShapeRow) → Rising rows → m < length rows → x ≡ slice_index_or rows m x → x.pid ≡ pid
    → found (λ row. row.pid) pid rows ≡ Some x
is_there pid m rows x rising lt e is =
    ap (λ l. found (λ row. row.pid) pid l) (sym (parts rows m x lt e)) ∙ found_past pid (take m rows) (x ∷ drop (suc m) rows)
    (subst (λ n. Below n (take m rows)) is (split_at rows m x rising lt e).0)
    ∙ found_here pid x (drop (suc m) rows) is
