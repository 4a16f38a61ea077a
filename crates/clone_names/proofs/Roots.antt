-- Clones with their roots.
use Rattle.std.proofs.Common.{◌≡◌, ◌+◌, ◌-◌, ◌<◌, ◌≤◌, ℕ, zero, suc, Bool, true, false, List, [], ◌∷◌, ◌++◌, nat_eq, get_or, length, refl, true≢false}
use Rattle.std.proofs.Common.{sym, ap, subst, arith, inl, inr, ◌∙◌}
use Rattle.std.specs.Prelude.{if◌then◌else◌, slice_set}
use Rattle.std.specs.List.{AllByRecursion}
use Rattle.std.proofs.lemmas.Bool.{cases_lt}
use Rattle.std.proofs.lemmas.List.{get_or-set_other, get_or-set_same, length-set}
use Rattle.list_laws.proofs.Entries.{number_itself, other_number, same_number}
use Rattle.plan_laws.specs.Plan.{Made, clones_of, root_of}
use Rattle.il_laws.proofs.Grown.{all_push}
use Rattle.clone_names.specs.Made.{AreCounted, Clones, made_from, next_pid}

pub made_length : (p : ℕ) (rs : List ℕ) (before : List Made) → length (made_from p rs before) ≡ length rs + length before
made_length p [] before = omega arith
made_length p (r ∷ rs) before = let e = made_length (suc p) rs (record { clone = p; root = r } ∷ before) in omega arith

-- one more is the newest
pub made_push : (p : ℕ) (rs : List ℕ) (r : ℕ) (before : List Made)
    → made_from p (rs ++ r ∷ []) before ≡ record { clone = p + length rs; root = r } ∷ made_from p rs before
made_push p [] r before = let e : p ≡ p + 0 = omega arith in ap (λ n. record { clone = n; root = r } ∷ before) e
made_push p (x ∷ rs) r before =
    let e : suc p + length rs ≡ p + suc (length rs) = omega arith in
    made_push (suc p) rs r (record { clone = p; root = x } ∷ before)
    ∙ ap (λ n. record { clone = n; root = r } ∷ made_from (suc p) rs (record { clone = p; root = x } ∷ before)) e

root_other : (p x q : ℕ) (before : List Made) → nat_eq p q ≡ false → root_of (record { clone = p; root = x } ∷ before) q ≡ root_of before q
root_other p x q before e = ap (λ b. if b then x else root_of before q) e

-- below the clones, and above them, a routine is what it was before
pub root_low : (p : ℕ) (rs : List ℕ) (before : List Made) (q : ℕ) → q < p → root_of (made_from p rs before) q ≡ root_of before q
root_low p [] before q lt = refl
root_low p (x ∷ rs) before q lt =
    root_low (suc p) rs (record { clone = p; root = x } ∷ before) q (omega arith)
    ∙ root_other p x q before (other_number p q (λ e. absurd (omega arith)))

pub root_high : (p : ℕ) (rs : List ℕ) (before : List Made) (q : ℕ) → p + length rs ≤ q → root_of (made_from p rs before) q ≡ root_of before q
root_high p [] before q le = refl
root_high p (x ∷ rs) before q le =
    root_high (suc p) rs (record { clone = p; root = x } ∷ before) q (omega arith)
    ∙ root_other p x q before (other_number p q (λ e. absurd (omega arith)))

-- a clone has its root
pub root_at : (p : ℕ) (rs : List ℕ) (before : List Made) (k d : ℕ) → k < length rs → root_of (made_from p rs before) (p + k) ≡ get_or rs k d
root_at p [] before k d lt = absurd (omega arith)
root_at p (x ∷ rs) before zero d lt =
    let e : p ≡ p + 0 = omega arith in
    root_low (suc p) rs (record { clone = p; root = x } ∷ before) (p + 0) (omega arith)
    ∙ ap (λ b. if b then x else root_of before (p + 0)) (subst (λ n. nat_eq p n ≡ true) e (number_itself p))
root_at p (x ∷ rs) before (suc k) d lt =
    let e : p + suc k ≡ suc p + k = omega arith in
    ap (root_of (made_from (suc p) rs (record { clone = p; root = x } ∷ before))) e
    ∙ root_at (suc p) rs (record { clone = p; root = x } ∷ before) k d (omega arith)

at_below : (n : ℕ) (rs : List ℕ) (k : ℕ) → AllByRecursion (λ r. r < n) rs → k < length rs → get_or rs k 0 < n
at_below n [] k h lt = absurd (omega arith)
at_below n (r ∷ rs) zero h lt = h.0
at_below n (r ∷ rs) (suc k) h lt = at_below n rs k h.1 (omega arith)

-- each routine's root is of the first program
pub root_below : (first : ℕ) (rs : List ℕ) (q : ℕ) → AllByRecursion (λ r. r < first) rs → q < first + length rs
    → root_of (made_from first rs []) q < first
root_below first rs q h lt =
    elim (cases_lt q first) [
      | inl low ↦ subst (λ n. n < first) (sym (root_low first rs [] q low)) low
      | inr high ↦
          (let e : first + (q - first) ≡ q = omega arith in
          subst (λ n. n < first) (sym (root_at first rs [] (q - first) 0 (omega arith)) ∙ ap (root_of (made_from first rs [])) e)
          (at_below first rs (q - first) h (omega arith)))
    ]

-- no clone has a root above
pub none_above : (n p : ℕ) (rs : List ℕ) (before : List Made) (q : ℕ) → AllByRecursion (λ r. r < n) rs → n ≤ q
    → clones_of (made_from p rs before) q ≡ clones_of before q
none_above n p [] before q h le = refl
none_above n p (r ∷ rs) before q h le =
    let lt = h.0 in
    none_above n (suc p) rs (record { clone = p; root = r } ∷ before) q h.1 le
    ∙ ap (λ b. if b then suc (clones_of before q) else clones_of before q) (other_number r q (λ e. absurd (omega arith)))

pub clones_few : (ms : List Made) (q : ℕ) → clones_of ms q ≤ length ms
clones_few [] q = omega arith
clones_few (m ∷ ms) q = by (nat_eq m.root q) (clones_few ms q)
  where
    by : (b : Bool) → clones_of ms q ≤ length ms → (if b then suc (clones_of ms q) else clones_of ms q) ≤ suc (length ms)
    by true le = omega arith
    by false le = omega arith

default_same : (xs : List ℕ) (i d e : ℕ) → i < length xs → get_or xs i d ≡ get_or xs i e
default_same [] i d e lt = absurd (omega arith)
default_same (x ∷ xs) zero d e lt = refl
default_same (x ∷ xs) (suc i) d e lt = default_same xs i d e (omega arith)

-- a clone more of a root
module _ (first root old : ℕ) (roots counts : List ℕ) (h : AreCounted first roots counts) (lt : root < first) (is : old ≡ get_or counts root old) where
  abbrev ms : List Made
  ms = made_from first roots []

  inside : root < length counts
  inside = subst (λ n. root < n) (sym h.long) lt

  pub old_is : old ≡ clones_of ms root
  old_is = is ∙ default_same counts root old 0 inside ∙ h.count root lt

  pub counted_more : AreCounted first (roots ++ root ∷ []) (slice_set counts root (old + 1))
  counted_more = record {
    below = all_push (λ r. r < first) roots root h.below lt;
    long = length-set counts root (old + 1) ∙ h.long;
    count = λ q less. at q less (nat_eq root q) refl ∙ sym (ap (λ ms. clones_of ms q) (made_push first roots root []));
  }
    where
      at : (q : ℕ) → q < first → (b : Bool) → nat_eq root q ≡ b
          → get_or (slice_set counts root (old + 1)) q 0 ≡ (if nat_eq root q then suc (clones_of ms q) else clones_of ms q)
      at q less true e =
          let here = same_number root q e in
          let one : old + 1 ≡ suc old = omega arith in
          ap (λ n. get_or (slice_set counts root (old + 1)) n 0) (sym here) ∙ get_or-set_same counts root (old + 1) 0 inside
          ∙ one ∙ ap suc (old_is ∙ ap (clones_of ms) here) ∙ sym (ap (λ b. if b then suc (clones_of ms q) else clones_of ms q) e)
      at q less false e =
          get_or-set_other counts root q (old + 1) 0 (λ same. true≢false (sym (number_itself root) ∙ ap (nat_eq root) (sym same) ∙ e))
          ∙ h.count q less ∙ sym (ap (λ b. if b then suc (clones_of ms q) else clones_of ms q) e)

-- what contracts see of it
abbrev pub seen : ℕ → List ℕ → Clones
seen first roots = record { first = first; made = made_from first roots [] }

abbrev pub with_root : ℕ → Clones → Clones
with_root root v = record { first = v.first; made = record { clone = next_pid v; root = root } ∷ v.made }

pub pushed : (first root : ℕ) (roots items : List ℕ) (v : Clones) → seen first roots ≡ v → items ≡ roots ++ root ∷ [] → seen first items ≡ with_root root v
pushed first root roots items v same is =
    let long = made_length first roots [] in
    let e : first + length roots ≡ first + length (made_from first roots []) = omega arith in
    ap (seen first) is
    ∙ ap (λ (ms : List Made). record { first = first; made = ms })
    (made_push first roots root [] ∙ ap (λ n. record { clone = n; root = root } ∷ made_from first roots []) e)
    ∙ ap (with_root root) same
