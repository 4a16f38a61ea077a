-- Writes to a table at the registers of a list, one after the other.
use Rattle.std.proofs.Common.{◌≡◌, ℕ, ◌+◌, ◌<◌, List, get_or, set, length, ap, sym, ◌∙◌, arith, inl, inr, get_or-set_same, get_or-set_other}
use Rattle.std.specs.Prelude.{Option, None}
use Rattle.std.proofs.lemmas.Bool.{cases_eq}
use Rattle.il_laws.specs.Facts.{Facts}

-- a table has these facts of the first k registers of a list
abbrev pub KnowsTo : ℕ → List ℕ → List (Option ℕ) → Facts → Type 0
KnowsTo k cs t fs = (i : ℕ) → i < k → get_or t (get_or cs i 0) None ≡ fs (get_or cs i 0)

pub knows_more : (k : ℕ) (cs : List ℕ) (t : List (Option ℕ)) (fs : Facts) (x : ℕ) (v : Option ℕ) → x ≡ get_or cs k 0 → x < length t → v ≡ fs x
    → KnowsTo k cs t fs → KnowsTo (k + 1) cs (set t x v) fs
knows_more k cs t fs x v here lt is h i less =
    elim (cases_eq (get_or cs i 0) x) [
      | inl e ↦ ap (λ (y : ℕ). get_or (set t x v) y None) e ∙ get_or-set_same t x v None lt ∙ is ∙ ap fs (sym e)
      | inr ne ↦ get_or-set_other t x (get_or cs i 0) v None ne ∙ elim (cases_eq i k) [
        | inl same ↦ absurd (ne (ap (λ (j : ℕ). get_or cs j 0) same ∙ sym here))
        | inr other ↦ h i (omega arith)
      ]
    ]
