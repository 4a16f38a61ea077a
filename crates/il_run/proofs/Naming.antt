-- The PID of the name `main`, found by going through the rows.
use Rattle.std.proofs.Common.{◌≡◌, ℕ, suc, ◌+◌, ◌<◌, ◌≤◌, List, ◌∷◌, length, drop, get_or, true, false, ap, sym, ◌∙◌, arith, drop-cons}
use Rattle.std.specs.Prelude.{nat_eq, codes}
use Rattle.std.specs.Cmp.Lexicographic.{pointwise}
use Rattle.std.proofs.lemmas.List.{drop_all}
use Rattle.il_core.specs.declared.shape.ShapeRow.{ShapeRow}
use Rattle.il_core.specs.Program.{main_pid}
use Rattle.il_core.proofs.Main.{row_taken, row_passed}

row_here : (rows : List ShapeRow) (i : ℕ) (row : ShapeRow) → i < length rows → row ≡ get_or rows i row → drop i rows ≡ row ∷ drop (i + 1) rows
row_here rows i row lt read = drop-cons rows i row lt ∙ ap (λ (y : ShapeRow). y ∷ drop (suc i) rows) (sym read) ∙ ap (λ (n : ℕ). row ∷ drop n rows)
    (let e : suc i ≡ i + 1 = omega arith in e)

pub main_taken : (rows all : List ShapeRow) (i : ℕ) (row : ShapeRow) → i < length rows → row ≡ get_or rows i row → main_pid (drop i rows) ≡ main_pid all
    → true ≡ pointwise nat_eq row.name (codes "main") → row.pid ≡ main_pid all
main_taken rows all i row lt read h e = sym (row_taken (codes "main") row (drop (i + 1) rows) (sym e)) ∙ ap main_pid (sym (row_here rows i row lt read)) ∙ h

pub main_passed : (rows all : List ShapeRow) (i : ℕ) (row : ShapeRow) → i < length rows → row ≡ get_or rows i row → main_pid (drop i rows) ≡ main_pid all
    → false ≡ pointwise nat_eq row.name (codes "main") → main_pid (drop (i + 1) rows) ≡ main_pid all
main_passed rows all i row lt read h e = sym (row_passed (codes "main") row (drop (i + 1) rows) (sym e)) ∙ ap main_pid (sym (row_here rows i row lt read)) ∙ h

pub main_none : (rows all : List ShapeRow) (i : ℕ) → length rows ≤ i → main_pid (drop i rows) ≡ main_pid all → 0 ≡ main_pid all
main_none rows all i le h = sym (ap main_pid (drop_all i rows le)) ∙ h
