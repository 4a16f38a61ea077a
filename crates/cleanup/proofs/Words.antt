-- Registers put into sets of bits, and taken out.
use Rattle.std.proofs.Common.{◌≡◌, ◌≢◌, ℕ, zero, suc, ◌+◌, ◌-◌, ◌*◌, ◌/◌, ◌%◌, ◌^◌, ◌<◌, ◌≤◌, List, get_or, set, length, Bool, true, false, refl, ap}
use Rattle.std.proofs.Common.{sym, ◌∙◌, arith, inl, inr, eq-eqb, ne_eqb, get_or-set_same, get_or-set_other}
use Rattle.std.specs.Prelude.{bit_and, bit_or, nat_eq, not, max, ◌&&◌, ◌||◌}
use Rattle.std.specs.Int.{bit_at, bit_not, w64}
use Rattle.std.proofs.lemmas.Bool.{cases_eq, cases_lt}
use Rattle.std.proofs.lemmas.List.{get_or_past}
use Rattle.std.proofs.lemmas.Nat.Bits.{bit_at_set_same, bit_at_set_other, bit_at_clear_same, bit_at_clear_other, bit_at_or, bit_at-lt, bit_at-zero}
use Rattle.il_laws.specs.Live.{Live, some_live}
use Rattle.cleanup.specs.Bits.{has}

and_true : (a : Bool) → (a && true) ≡ a
and_true true = refl
and_true false = refl

and_false : (a : Bool) → (a && false) ≡ false
and_false true = refl
and_false false = refl

-- a bit of a changed word
module _ (ws : List ℕ) (x v y : ℕ) (lt : x < 64 * length ws) where
  here : y / 64 ≡ x / 64 → get_or (set ws (x / 64) v) (y / 64) 0 ≡ v
  here same = ap (λ (i : ℕ). get_or (set ws (x / 64) v) i 0) same ∙ get_or-set_same ws (x / 64) v 0 (omega arith)

  there : (y / 64 ≡ x / 64 → ⊥) → has (set ws (x / 64) v) y ≡ has ws y
  there ne = ap (λ (w : ℕ). nat_eq (bit_at w (y % 64)) 1) (get_or-set_other ws (x / 64) (y / 64) v 0 ne)

  bit : y / 64 ≡ x / 64 → has (set ws (x / 64) v) y ≡ nat_eq (bit_at v (y % 64)) 1
  bit same = ap (λ (w : ℕ). nat_eq (bit_at w (y % 64)) 1) (here same)

  was : y / 64 ≡ x / 64 → nat_eq (bit_at (get_or ws (x / 64) 0) (y % 64)) 1 ≡ has ws y
  was same = ap (λ (i : ℕ). nat_eq (bit_at (get_or ws i 0) (y % 64)) 1) (sym same)

pub inserted_is : (ws : List ℕ) (x : ℕ) → x < 64 * length ws → (y : ℕ)
    → has (set ws (x / 64) (bit_or (get_or ws (x / 64) 0) (1 * 2 ^ (x % 64) % 2 ^ 64))) y ≡ (nat_eq y x || has ws y)
inserted_is ws x lt y =
    let w : ℕ = get_or ws (x / 64) 0 in
    let v : ℕ = bit_or w (1 * 2 ^ (x % 64) % 2 ^ 64) in
    elim (cases_eq (y / 64) (x / 64)) [
      | inl same ↦ elim (cases_eq (y % 64) (x % 64)) [
        | inl at ↦ (let e : y ≡ x = omega arith in
            bit ws x v y lt same ∙ ap (λ (k : ℕ). nat_eq (bit_at v k) 1) at
            ∙ ap (λ (b : ℕ). nat_eq b 1) (bit_at_set_same w64 w (x % 64) (omega arith))
            ∙ sym (ap (λ (k : Bool). k || has ws y) (eq-eqb y x e)))
        | inr off ↦ (let ne : y ≢ x = λ e. off (ap (λ (n : ℕ). n % 64) e) in
            bit ws x v y lt same
            ∙ ap (λ (b : ℕ). nat_eq b 1) (bit_at_set_other w64 w (x % 64) (omega arith) (y % 64) off)
            ∙ was ws x v y lt same ∙ sym (ap (λ (k : Bool). k || has ws y) (ne_eqb y x ne)))
      ]
      | inr other ↦ (let ne : y ≢ x = λ e. other (ap (λ (n : ℕ). n / 64) e) in
          there ws x v y lt other ∙ sym (ap (λ (k : Bool). k || has ws y) (ne_eqb y x ne)))
    ]

pub removed_is : (ws : List ℕ) (x : ℕ) → x < 64 * length ws → (y : ℕ)
    → has (set ws (x / 64) (bit_and (get_or ws (x / 64) 0) (bit_not w64 (1 * 2 ^ (x % 64) % 2 ^ 64)))) y ≡ (has ws y && not (nat_eq y x))
removed_is ws x lt y =
    let w : ℕ = get_or ws (x / 64) 0 in
    let v : ℕ = bit_and w (bit_not w64 (1 * 2 ^ (x % 64) % 2 ^ 64)) in
    elim (cases_eq (y / 64) (x / 64)) [
      | inl same ↦ elim (cases_eq (y % 64) (x % 64)) [
        | inl at ↦ (let e : y ≡ x = omega arith in
            bit ws x v y lt same ∙ ap (λ (k : ℕ). nat_eq (bit_at v k) 1) at
            ∙ ap (λ (b : ℕ). nat_eq b 1) (bit_at_clear_same w64 w (x % 64) (omega arith))
            ∙ sym (ap (λ (k : Bool). has ws y && not k) (eq-eqb y x e) ∙ and_false (has ws y)))
        | inr off ↦ (let ne : y ≢ x = λ e. off (ap (λ (n : ℕ). n % 64) e) in
            bit ws x v y lt same
            ∙ ap (λ (b : ℕ). nat_eq b 1) (bit_at_clear_other w64 w (x % 64) (omega arith) (y % 64) (omega arith) off)
            ∙ was ws x v y lt same ∙ sym (ap (λ (k : Bool). has ws y && not k) (ne_eqb y x ne) ∙ and_true (has ws y)))
      ]
      | inr other ↦ (let ne : y ≢ x = λ e. other (ap (λ (n : ℕ). n / 64) e) in
          there ws x v y lt other ∙ sym (ap (λ (k : Bool). has ws y && not k) (ne_eqb y x ne) ∙ and_true (has ws y)))
    ]

max_one : (a b : ℕ) → a < 2 → b < 2 → nat_eq (max a b) 1 ≡ (nat_eq b 1 || nat_eq a 1)
max_one zero zero la lb = refl
max_one zero (suc zero) la lb = refl
max_one zero (suc (suc b)) la lb = absurd (omega arith)
max_one (suc zero) zero la lb = refl
max_one (suc zero) (suc zero) la lb = refl
max_one (suc zero) (suc (suc b)) la lb = absurd (omega arith)
max_one (suc (suc a)) b la lb = absurd (omega arith)

-- words of two sets joined
pub united_bit : (w v k : ℕ) → nat_eq (bit_at (bit_or w v) k) 1 ≡ (nat_eq (bit_at v k) 1 || nat_eq (bit_at w k) 1)
united_bit w v k =
    ap (λ (b : ℕ). nat_eq b 1) (bit_at_or w v k) ∙ max_one (bit_at w k) (bit_at v k) (bit_at-lt w k) (bit_at-lt v k)

-- nothing past the words is in a set
pub none_past : (ws : List ℕ) (y : ℕ) → length ws ≤ y / 64 → has ws y ≡ false
none_past ws y past =
    ap (λ (w : ℕ). nat_eq (bit_at w (y % 64)) 1) (get_or_past ws (y / 64) 0 past) ∙ ap (λ (b : ℕ). nat_eq b 1) (bit_at-zero (y % 64))

-- each word is that of both sets
pub united_is : (ws vs now : List ℕ) (i : ℕ) → length ws ≤ i → length now ≡ length ws → length vs ≡ length ws
    → ((k : ℕ) → k < i → get_or now k 0 ≡ bit_or (get_or ws k 0) (get_or vs k 0)) → (y : ℕ) → has now y ≡ (has vs y || has ws y)
united_is ws vs now i past_all size size1 all y = elim (cases_lt (y / 64) (length ws)) [
  | inl lt ↦ ap (λ (w : ℕ). nat_eq (bit_at w (y % 64)) 1) (all (y / 64) (omega arith)) ∙ united_bit (get_or ws (y / 64) 0) (get_or vs (y / 64) 0) (y % 64)
  | inr past ↦ none_past now y (omega arith) ∙ ap (λ (k : Bool). k || false) (sym (none_past vs y (omega arith)))
      ∙ ap (λ (k : Bool). has vs y || k) (sym (none_past ws y past))
]

-- one of the registers from the next one on
pub some_more : (live : Live) (first count i : ℕ) → i < count → live (first + i) ≡ false
    → some_live live (first + i) (count - i) ≡ some_live live (first + (i + 1)) (count - (i + 1))
some_more live first count i lt off =
    let more : count - i ≡ suc (count - (i + 1)) = omega arith in
    let next : suc (first + i) ≡ first + (i + 1) = omega arith in
    ap (λ (n : ℕ). some_live live (first + i) n) more ∙ ap (λ (k : Bool). k || some_live live (suc (first + i)) (count - (i + 1))) off
    ∙ ap (λ (r : ℕ). some_live live r (count - (i + 1))) next
