-- Shapes and objects of one more name.
use Rattle.std.proofs.Common.{◌≡◌, ℕ, zero, suc, ◌+◌, ◌-◌, ◌<◌, ◌≤◌, ◌^◌, ◌==◌, true, false, if◌then◌else◌, List, [], ◌∷◌, ◌++◌, length, take, get_or}
use Rattle.std.proofs.Common.{Option, Some, None, refl, sym, ap, ◌∙◌, arith, add-one, append_assoc, append-nil}
use Rattle.std.specs.List.{list_any, slice_get}
use Rattle.std.specs.Map.{values_of}
use Rattle.std.proofs.Math.Seq.{take-suc}
use Rattle.std.proofs.lemmas.Bool.Decides.{nat_tests}
use Rattle.hlo_num.specs.declared.word.Word.{Word}
use Rattle.il_core.specs.Limits.{max_parameters}
use Rattle.il_core.specs.Object.{ends_with_zero, IsTrimmed}
use Rattle.il_core.specs.Shapes.{IsRising, IsRisingFrom}
use Rattle.il_core.specs.declared.shape.Shape.{Shape}
use Rattle.il_core.specs.declared.shape.ShapeRow.{ShapeRow}
use Rattle.sym_tables.specs.declared.symbol.Symbol.{Symbol}
use Rattle.sym_tables.specs.Entities.{parameters}
use Rattle.sym_tables.specs.Listing.{shape_of, shapes_from, shapes, objects_at, objects_from, objects, trimmed, before}
use Rattle.sym_tables.specs.Table.{Table, is_wide}
use Rattle.sym_tables.proofs.Limits.{at_most}
use Rattle.list_laws.proofs.Elements.{any_none}

shapes_suc : (n i : ℕ) (es : Table) (k : List ℕ) (s : Symbol) → slice_get es i ≡ Some (k, s)
    → shapes_from n (take (suc i) es) ≡ shapes_from n (take i es) ++ (record { pid = n + i; name = k; shape = shape_of s.entity }) ∷ []
shapes_suc n zero [] k s h = let o : Option (List ℕ × Symbol) = None in let c : o ≡ Some (k, s) = h in absurd cc
shapes_suc n zero (e ∷ es) k s h = let d : e ≡ (k, s) = (let c : Some e ≡ Some (k, s) = h in cc) in
    ap (λ (p : List ℕ × Symbol). let r : ShapeRow = record { pid = n; name = p.0; shape = shape_of p.1.entity } in r ∷ []) d
    ∙ ap (λ m. let r : ShapeRow = record { pid = m; name = k; shape = shape_of s.entity } in r ∷ []) (let q : n ≡ n + 0 = omega arith in q)
shapes_suc n (suc i) [] k s h = let o : Option (List ℕ × Symbol) = None in let c : o ≡ Some (k, s) = h in absurd cc
shapes_suc n (suc i) (e ∷ es) k s h = let r : ShapeRow = record { pid = n; name = e.0; shape = shape_of e.1.entity } in
    ap (λ l. r ∷ l) (shapes_suc (suc n) i es k s h)
    ∙ ap (λ m. let q : ShapeRow = record { pid = m; name = k; shape = shape_of s.entity } in r ∷ (shapes_from (suc n) (take i es) ++ q ∷ []))
    (let q : suc n + i ≡ n + suc i = omega arith in q)

pub shapes_more : (i : ℕ) (es : Table) (k : List ℕ) (s : Symbol) → slice_get es i ≡ Some (k, s)
    → shapes (take (i + 1) es) ≡ shapes (take i es) ++ (record { pid = i; name = k; shape = shape_of s.entity }) ∷ []
shapes_more i es k s h = ap (λ m. shapes (take m es)) (add-one i) ∙ shapes_suc 0 i es k s h
    ∙ ap (λ m. let q : ShapeRow = record { pid = m; name = k; shape = shape_of s.entity } in shapes (take i es) ++ q ∷ [])
    (let q : 0 + i ≡ i = omega arith in q)

pub row_added : (old all rows : List ShapeRow) (pid : ℕ) (n m : List ℕ) (h g : Shape) → old ≡ rows → n ≡ m → h ≡ g
    → all ≡ rows ++ (record { pid = pid; name = m; shape = g }) ∷ [] → old ++ (record { pid = pid; name = n; shape = h }) ∷ [] ≡ all
row_added old all rows pid n m h g a b c d =
    ap (λ l. let r : ShapeRow = record { pid = pid; name = n; shape = h } in l ++ r ∷ []) a
    ∙ ap (λ x. let r : ShapeRow = record { pid = pid; name = x; shape = h } in rows ++ r ∷ []) b
    ∙ ap (λ x. let r : ShapeRow = record { pid = pid; name = m; shape = x } in rows ++ r ∷ []) c
    ∙ sym d

-- the rows rise
rising_from : (before n : ℕ) (es : Table) → before < n → IsRisingFrom (λ (r : ShapeRow). r.pid) before (shapes_from n es)
rising_from before n [] l = tt
rising_from before n (e ∷ es) l = (l, rising_from n (suc n) es (omega arith))

pub rising : (es : Table) → IsRising (λ (r : ShapeRow). r.pid) (shapes es)
rising [] = tt
rising (e ∷ es) = rising_from 0 1 es (omega arith)

objects_suc : (n i : ℕ) (es : Table) (k : List ℕ) (s : Symbol) → slice_get es i ≡ Some (k, s)
    → objects_from n (take (suc i) es) ≡ objects_from n (take i es) ++ objects_at (n + i) s
objects_suc n zero [] k s h = let z : Option (List ℕ × Symbol) = None in let c : z ≡ Some (k, s) = h in absurd cc
objects_suc n zero (e ∷ es) k s h = let d : e ≡ (k, s) = (let c : Some e ≡ Some (k, s) = h in cc) in
    append-nil (objects_at n e.1) ∙ ap (λ (p : List ℕ × Symbol). objects_at n p.1) d ∙ ap (λ m. objects_at m s) (let q : n ≡ n + 0 = omega arith in q)
objects_suc n (suc i) [] k s h = let z : Option (List ℕ × Symbol) = None in let c : z ≡ Some (k, s) = h in absurd cc
objects_suc n (suc i) (e ∷ es) k s h =
    ap (λ l. objects_at n e.1 ++ l) (objects_suc (suc n) i es k s h) ∙ sym
    (append_assoc (objects_at n e.1) (objects_from (suc n) (take i es)) (objects_at (suc n + i) s))
    ∙ ap (λ m. (objects_at n e.1 ++ objects_from (suc n) (take i es)) ++ objects_at m s) (let q : suc n + i ≡ n + suc i = omega arith in q)

pub objects_more : (i : ℕ) (es : Table) (k : List ℕ) (s : Symbol) → slice_get es i ≡ Some (k, s)
    → objects (take (i + 1) es) ≡ objects (take i es) ++ objects_at i s
objects_more i es k s h = ap (λ m. objects (take m es)) (add-one i) ∙ objects_suc 0 i es k s h ∙ ap (λ m. objects (take i es) ++ objects_at m s)
    (let q : 0 + i ≡ i = omega arith in q)

pub few_params : (es : Table) (i : ℕ) (s : Symbol) → list_any is_wide (values_of es) ≡ false → slice_get (values_of es) i ≡ Some s
    → parameters s.entity < 2 ^ 32
few_params es i s h k = let n = any_none is_wide (values_of es) i s h k in let m = at_most max_parameters (parameters s.entity) n in omega arith

before_ends : (w : Word) (vs : List Word) → ends_with_zero vs ≡ false → ends_with_zero (before w vs) ≡ false
before_ends w [] h = (elim (w.0 == 0) as (λ b. (w.0 == 0) ≡ b → ends_with_zero (if b then [] else w ∷ []) ≡ false) [ true ↦ λ e. refl | false ↦ λ e. e ]) refl
before_ends w (v ∷ vs) h = h

no_zero_end : (ws : List Word) → ends_with_zero (trimmed ws) ≡ false
no_zero_end [] = refl
no_zero_end (w ∷ ws) = before_ends w (trimmed ws) (no_zero_end ws)

before_long : (w : Word) (vs : List Word) → length (before w vs) ≤ length vs + 1
before_long w [] = elim (w.0 == 0) as (λ b. length (if b then [] else w ∷ []) ≤ 0 + 1) [ true ↦ omega arith | false ↦ omega arith ]
before_long w (v ∷ vs) = omega arith

no_longer : (ws : List Word) → length (trimmed ws) ≤ length ws
no_longer [] = omega arith
no_longer (w ∷ ws) = let a = before_long w (trimmed ws) in let b = no_longer ws in omega arith

pub trimmed_fits : (ws : List Word) (n : ℕ) → length ws ≤ n → IsTrimmed n (trimmed ws)
trimmed_fits ws n l = record { few = (let a = no_longer ws in omega arith); trimmed = no_zero_end ws }

-- a word behind the others
trimmed_zero : (ws : List Word) (w : Word) → (w.0 == 0) ≡ true → trimmed (ws ++ w ∷ []) ≡ trimmed ws
trimmed_zero [] w h = rw h refl
trimmed_zero (v ∷ ws) w h = ap (before v) (trimmed_zero ws w h)

before_some : (v w : Word) (ws : List Word) → before v (ws ++ w ∷ []) ≡ v ∷ (ws ++ w ∷ [])
before_some v w [] = refl
before_some v w (u ∷ ws) = refl

trimmed_other : (ws : List Word) (w : Word) → (w.0 == 0) ≡ false → trimmed (ws ++ w ∷ []) ≡ ws ++ w ∷ []
trimmed_other [] w h = rw h refl
trimmed_other (v ∷ ws) w h = ap (before v) (trimmed_other ws w h) ∙ before_some v w ws

take_one : (ws : List Word) (n : ℕ) (d : Word) → 0 < n → n ≤ length ws → take n ws ≡ take (n - 1) ws ++ get_or ws (n - 1) d ∷ []
take_one ws n d h l = let e : n ≡ suc (n - 1) = omega arith in ap (λ m. take m ws) e ∙ take-suc ws (n - 1) d (omega arith)

pub trim_zero : (ws : List Word) (n : ℕ) (d : Word) → 0 < n → n ≤ length ws → (get_or ws (n - 1) d).0 ≡ 0 → trimmed (take n ws) ≡ trimmed (take (n - 1) ws)
trim_zero ws n d h l z = ap trimmed (take_one ws n d h l) ∙ trimmed_zero (take (n - 1) ws) (get_or ws (n - 1) d) (grind (arith, nat_tests))

pub trim_other : (ws : List Word) (n : ℕ) (d : Word) → 0 < n → n ≤ length ws → ((get_or ws (n - 1) d).0 ≡ 0 → ⊥) → trimmed (take n ws) ≡ take n ws
trim_other ws n d h l z = ap trimmed (take_one ws n d h l) ∙ trimmed_other (take (n - 1) ws) (get_or ws (n - 1) d) (grind (arith, nat_tests)) ∙ sym
    (take_one ws n d h l)

pub trim_none : (ws : List Word) (n : ℕ) → n ≤ 0 → trimmed (take n ws) ≡ take n ws
trim_none ws n h = let e : n ≡ 0 = omega arith in ap (λ m. trimmed (take m ws)) e ∙ sym (ap (λ m. take m ws) e)
