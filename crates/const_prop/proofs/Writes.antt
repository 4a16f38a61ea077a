-- Writes to a table of facts.
use Rattle.std.proofs.Common.{◌≡◌, ℕ, ◌+◌, ◌<◌, List, get_or, set, length, ap, sym, ◌∙◌, arith, inl, inr, eq-eqb, ne_eqb, get_or-set_same, get_or-set_other}
use Rattle.std.specs.Prelude.{Bool, true, false, Option, Some, None, nat_eq, if◌then◌else◌}
use Rattle.std.proofs.lemmas.Bool.{cases_lt, cases_eq}
use Rattle.std.proofs.lemmas.Bool.Decides.{nat_tests}
use Rattle.il_core.specs.Meaning.{is_among}
use Rattle.il_core.specs.declared.instr.Instr.TheVariants.{Clear}
use Rattle.il_laws.specs.Facts.{after}
use Rattle.const_prop.specs.Carried.{Filled}
use Rattle.const_prop.specs.Tables.{facts_in, Has, Cleared}

-- one register written
pub set_is : (t : List (Option ℕ)) (d : ℕ) (f : Option ℕ) (x : ℕ) → d < length t → get_or (set t d f) x None ≡ (if nat_eq x d then f else get_or t x None)
set_is t d f x lt =
    elim (cases_eq x d) [
      | inl e ↦ ap (λ (y : ℕ). get_or (set t d f) y None) e ∙ get_or-set_same t d f None lt
          ∙ sym (ap (λ k. if k then f else get_or t x None) (eq-eqb x d e))
      | inr ne ↦ get_or-set_other t d x f None ne ∙ sym (ap (λ k. if k then f else get_or t x None) (ne_eqb x d ne))
    ]

-- a row of registers cleared
pub cleared_is : (t u : List (Option ℕ)) (r c a m : ℕ) → Cleared t u r c → Has (length t) u (after (Clear r c a m) (facts_in t))
cleared_is t u r c a m h =
    record {
      size = h.size;
      at = λ x lt. elim (cases_lt x r) [
        | inl less ↦ (let k : is_among r c x ≡ false = grind (arith, nat_tests) in h.before x less ∙ sym (ap (λ k. if k then Some 0 else get_or t x None) k))
        | inr ge ↦ elim (cases_lt x (r + c)) [
          | inl in_range ↦ (let k : is_among r c x ≡ true = grind (arith, nat_tests) in h.inside x ge in_range ∙ sym
              (ap (λ k. if k then Some 0 else get_or t x None) k))
          | inr past ↦ (let k : is_among r c x ≡ false = grind (arith, nat_tests) in h.after x past ∙ sym (ap (λ k. if k then Some 0 else get_or t x None) k))
        ]
      ];
    }

-- a row of numbers filled
pub filled_is : (b : ℕ) (old new : List ℕ) (first count : ℕ) → Filled b old new first count → (x : ℕ)
    → get_or new x 0 ≡ (if is_among first count x then b else get_or old x 0)
filled_is b old new first count h x =
    elim (cases_lt x first) [
      | inl less ↦ (let k : is_among first count x ≡ false = grind (arith, nat_tests) in h.before x less ∙ sym
          (ap (λ (t : Bool). if t then b else get_or old x 0) k))
      | inr ge ↦ elim (cases_lt x (first + count)) [
        | inl in_range ↦ (let k : is_among first count x ≡ true = grind (arith, nat_tests) in h.inside x ge in_range ∙ sym
            (ap (λ (t : Bool). if t then b else get_or old x 0) k))
        | inr past ↦ (let k : is_among first count x ≡ false = grind (arith, nat_tests) in h.after x past ∙ sym
            (ap (λ (t : Bool). if t then b else get_or old x 0) k))
      ]
    ]
