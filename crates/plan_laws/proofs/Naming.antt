-- A clone's name is new: the name of its root, which has no `$`, then `$` and a number that none of that root's clones has.
use Rattle.std.proofs.Common.{◌≡◌, ◌⊎◌, ℕ, suc, ◌<◌, ◌≤◌, List, [], ◌∷◌, ◌++◌, Bool, true, false, refl, ap, subst, sym, ◌∙◌, arith, length, inl, inr}
use Rattle.std.proofs.Common.{eq-eqb, ne_eqb}
use Rattle.std.specs.Prelude.{◌≢◌, nat_eq, if◌then◌else◌, Option, Some, decimal}
use Rattle.std.specs.List.{AllByRecursion}
use Rattle.std.proofs.lemmas.Bool.{cases_eq}
use Rattle.std.proofs.lemmas.Fmt.{decimal_injective}
use Rattle.std.proofs.lemmas.Option.{none-some, same_Some}
use Rattle.il_core.specs.Limits.{max_pids}
use Rattle.il_core.specs.declared.shape.ShapeRow.{ShapeRow}
use Rattle.il_core.specs.Program.{found, name_of_row}
use Rattle.il_core.specs.Valid.{HasEachNameOnce}
use Rattle.il_core.proofs.Found.{found_here, found_there, found_all}
use Rattle.plan_laws.specs.Plan.{Made, root_of, clones_of, clone_name}

abbrev pub NoDollar : List ℕ → Type 0
NoDollar xs = AllByRecursion (λ c. c ≡ 36 → ⊥) xs

dollar_in : (xs ys : List ℕ) → NoDollar (xs ++ 36 ∷ ys) → ⊥
dollar_in [] ys h = h.0 refl
dollar_in (x ∷ xs) ys h = dollar_in xs ys h.1

-- the first `$` stands at one place
split_dollar : (xs ys us vs : List ℕ) → NoDollar xs → NoDollar ys → xs ++ 36 ∷ us ≡ ys ++ 36 ∷ vs → (xs ≡ ys) × (us ≡ vs)
split_dollar [] [] us vs h g e = (refl, cc)
split_dollar [] (y ∷ ys) us vs h g e = let same : 36 ≡ y = cc in absurd (g.0 (sym same))
split_dollar (x ∷ xs) [] us vs h g e = let same : x ≡ 36 = cc in absurd (h.0 same)
split_dollar (x ∷ xs) (y ∷ ys) us vs h g e =
    let first : x ≡ y = cc in
    let rest : xs ++ 36 ∷ us ≡ ys ++ 36 ∷ vs = cc in
    let both = split_dollar xs ys us vs h.1 g.1 rest in
    (cc, both.1)

row_is : (names : List ShapeRow) (a : ℕ) (z x : ShapeRow) → z.pid ≡ a → found (λ z. z.pid) a (z ∷ names) ≡ Some x → z ≡ x
row_is names a z x h e = same_Some z x (sym (found_here (λ (r : ShapeRow). r.pid) a z names h) ∙ e)

later_row : (names : List ShapeRow) (a : ℕ) (z x : ShapeRow) → (z.pid ≡ a → ⊥) → found (λ z. z.pid) a (z ∷ names) ≡ Some x
    → found (λ z. z.pid) a names ≡ Some x
later_row names a z x ne e = sym (found_there (λ (r : ShapeRow). r.pid) a z names ne) ∙ e

-- rows of one name are one row
names_once : (names : List ShapeRow) (a b : ℕ) (x y : ShapeRow) → HasEachNameOnce names → found (λ z. z.pid) a names ≡ Some x
    → found (λ z. z.pid) b names ≡ Some y → x.name ≡ y.name → a ≡ b
names_once [] a b x y once ea eb same = absurd (none-some x ea)
names_once (z ∷ names) a b x y once ea eb same =
    elim (cases_eq z.pid a) [
      | inl ha ↦ elim (cases_eq z.pid b) [
        | inl hb ↦ sym ha ∙ hb
        | inr nb ↦ (let other = found_all (λ (r : ShapeRow). r.pid) (λ r. r.name ≢ z.name) b names y once.0 (later_row names b z y nb eb) in
            absurd (other.0 (sym same ∙ ap (λ (r : ShapeRow). r.name) (sym (row_is names a z x ha ea)))))
      ]
      | inr na ↦ elim (cases_eq z.pid b) [
        | inl hb ↦ (let other = found_all (λ (r : ShapeRow). r.pid) (λ r. r.name ≢ z.name) a names x once.0 (later_row names a z x na ea) in
            absurd (other.0 (same ∙ ap (λ (r : ShapeRow). r.name) (sym (row_is names b z y hb eb)))))
        | inr nb ↦ names_once names a b x y once.1 (later_row names a z x na ea) (later_row names b z y nb eb) same
      ]
    ]

-- a name is a row's: its root's, or that with `$` and one of the first n numbers
abbrev IsNamed : List ℕ → List ℕ → ℕ → Type 0
IsNamed name root n = (name ≡ root) ⊎ ((m : ℕ) × (name ≡ root ++ 36 ∷ decimal m) × (m ≤ n))

pub record RowNamed (names : List ShapeRow) (made : List Made) (row : ShapeRow) : Type 0 where
  pub root : ShapeRow
  pub is_root : found (λ z. z.pid) (root_of made row.pid) names ≡ Some root
  pub plain : NoDollar root.name
  pub is : IsNamed row.name root.name (clones_of made (root_of made row.pid))

if_count : (k : Bool) (n l : ℕ) → n ≤ l → (if k then suc n else n) ≤ suc l
if_count true n l le = omega arith
if_count false n l le = omega arith

few_clones : (made : List Made) (root : ℕ) → clones_of made root ≤ length made
few_clones [] root = omega arith
few_clones (m ∷ made) root = if_count (nat_eq m.root root) (clones_of made root) (length made) (few_clones made root)

pub name_is : (names : List ShapeRow) (made : List Made) (root : ℕ) (r : ShapeRow) → found (λ z. z.pid) root names ≡ Some r
    → clone_name names made root ≡ r.name ++ 36 ∷ decimal (suc (clones_of made root))
name_is names made root r e = ap (λ (o : Option ShapeRow). name_of_row o ++ 36 ∷ decimal (suc (clones_of made root))) e

module _ (names : List ShapeRow) (once : HasEachNameOnce names) (made : List Made) (few : length made < max_pids)
    (root : ℕ) (r : ShapeRow) (is_root : found (λ z. z.pid) root names ≡ Some r) (plain : NoDollar r.name) where
  abbrev new_name : List ℕ
  new_name = clone_name names made root

  other_name : (row : ShapeRow) (h : RowNamed names made row) → IsNamed row.name h.root.name (clones_of made (root_of made row.pid))
      → row.name ≡ new_name → ⊥
  other_name row h (inl same) e =
      dollar_in r.name (decimal (suc (clones_of made root))) (subst NoDollar (sym same ∙ e ∙ name_is names made root r is_root) h.plain)
  other_name row h (inr given) e =
      let whole = sym (name_is names made root r is_root) ∙ sym e ∙ given.1 in
      let parts = split_dollar r.name h.root.name (decimal (suc (clones_of made root))) (decimal given.0) plain h.plain whole in
      let same_root = names_once names root (root_of made row.pid) r h.root once is_root h.is_root parts.0 in
      let count = few_clones made root in
      let other = few_clones made (root_of made row.pid) in
      let most = given.2 in
      let number = decimal_injective (suc (clones_of made root)) given.0 (omega arith) (omega arith) parts.1 in
      let more = ap (clones_of made) same_root in
      absurd (omega arith)

  pub new_for : (rows : List ShapeRow) → AllByRecursion (RowNamed names made) rows → AllByRecursion (λ z. z.name ≢ new_name) rows
  new_for [] h = tt
  new_for (row ∷ rows) h = (λ e. other_name row h.0 h.0.is e, new_for rows h.1)

-- what one clone more leaves
abbrev with_made : ℕ → ℕ → List Made → List Made
with_made clone root made = record { clone = clone; root = root } ∷ made

root_kept : (made : List Made) (x clone root : ℕ) → x < clone → root_of (with_made clone root made) x ≡ root_of made x
root_kept made x clone root lt = ap (λ (b : Bool). if b then root else root_of made x) (ne_eqb clone x (λ e. absurd (omega arith)))

pub root_new : (made : List Made) (clone root : ℕ) → root_of (with_made clone root made) clone ≡ root
root_new made clone root = ap (λ (b : Bool). if b then root else root_of made clone) (eq-eqb clone clone refl)

pub count_new : (made : List Made) (clone root : ℕ) → clones_of (with_made clone root made) root ≡ suc (clones_of made root)
count_new made clone root = ap (λ (b : Bool). if b then suc (clones_of made root) else clones_of made root) (eq-eqb root root refl)

if_more : (k : Bool) (n : ℕ) → n ≤ (if k then suc n else n)
if_more true n = omega arith
if_more false n = omega arith

named_more : (name root : List ℕ) (n m : ℕ) → n ≤ m → IsNamed name root n → IsNamed name root m
named_more name root n m le (inl same) = inl same
named_more name root n m le (inr given) = let most = given.2 in inr (given.0, given.1, omega arith)

pub named_still : (names : List ShapeRow) (made : List Made) (clone root : ℕ) (row : ShapeRow) → row.pid < clone → RowNamed names made row
    → RowNamed names (with_made clone root made) row
named_still names made clone root row lt h =
    let same = root_kept made row.pid clone root lt in
    let more = if_more (nat_eq root (root_of made row.pid)) (clones_of made (root_of made row.pid)) in
    let at = ap (clones_of (with_made clone root made)) same in
    record {
      root = h.root;
      is_root = ap (λ (x : ℕ). found (λ z. z.pid) x names) same ∙ h.is_root;
      plain = h.plain;
      is = named_more row.name h.root.name (clones_of made (root_of made row.pid))
          (clones_of (with_made clone root made) (root_of (with_made clone root made) row.pid)) (omega arith) h.is;
    }
