-- Tables that are emptied where numbers came.
use Rattle.std.proofs.Common.{◌≡◌, ℕ, suc, ◌+◌, ◌<◌, List, length, drop, Bool, true, false, refl, ap, sym, ◌∙◌, arith}
use Rattle.std.specs.Prelude.{◌||◌, nat_eq, if◌then◌else◌, slice_set, slice_index_or}
use Rattle.inline_budget.specs.Calls.{has_number, number_at}
use Rattle.inline_budget.proofs.Tables.{set_is}
use Rattle.inline_budget.proofs.Attempts.{drop_next}

-- what isn't in the rest of the queue is empty
abbrev pub IsEmptied : List ℕ → ℕ → List ℕ → Type 0
IsEmptied ks i ts = (x : ℕ) → has_number (drop i ks) x ≡ false → number_at ts x ≡ 0

pub emptied_one : (ks : List ℕ) (i y : ℕ) (ts us : List ℕ) → IsEmptied ks i ts → i < length ks → y ≡ slice_index_or ks i y → y < length ts
    → us ≡ slice_set ts y 0 → IsEmptied ks (i + 1) us
emptied_one ks i y ts us h lt y_is inside e x none =
    ap (λ (vs : List ℕ). number_at vs x) e ∙ step (nat_eq y x) refl
  where
    next : suc i ≡ i + 1
    next = omega arith

    step : (b : Bool) → nat_eq y x ≡ b → number_at (slice_set ts y 0) x ≡ 0
    step true eb = set_is ts y 0 x inside ∙ ap (λ (k : Bool). if k then 0 else number_at ts x) eb
    step false eb =
        set_is ts y 0 x inside ∙ ap (λ (k : Bool). if k then 0 else number_at ts x) eb
        ∙ h x (ap (λ (js : List ℕ). has_number js x) (drop_next i ks y lt)
        ∙ ap (λ (k : ℕ). nat_eq k x || has_number (drop (suc i) ks) x) (sym y_is)
        ∙ ap (λ (b : Bool). b || has_number (drop (suc i) ks) x) eb
        ∙ ap (λ (n : ℕ). has_number (drop n ks) x) next ∙ none)
