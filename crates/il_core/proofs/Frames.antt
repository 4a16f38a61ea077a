-- The frame of a call that gives no more arguments than there are parameters.
use Rattle.std.proofs.Common.{◌≡◌, ℕ, zero, suc, ◌≤◌, List, [], ◌∷◌, length, Bool, true, false, refl, sym, arith, inl, inr}
use Rattle.std.specs.Prelude.{nat_lt, if◌then◌else◌}
use Rattle.std.proofs.lemmas.Bool.{cases_lt, lt-ltb}
use mathlib.Core.Path.{fun_ext}
use Rattle.il_core.specs.World.{from_list}
use Rattle.il_core.specs.Meaning.{frame_of}

-- behind a list are zeros
pub from_list_past : (vs : List ℕ) (x : ℕ) → length vs ≤ x → from_list vs x ≡ 0
from_list_past [] x le = refl
from_list_past (v ∷ vs) zero le = absurd (omega arith)
from_list_past (v ∷ vs) (suc x) le = from_list_past vs x (omega arith)

choice : (b : Bool) (n : ℕ) → (b ≡ false → n ≡ 0) → (if b then n else 0) ≡ n
choice true n h = refl
choice false n h = sym (h refl)

-- the registers have the arguments and then 0
pub frame_full : (params : ℕ) (args : List ℕ) → length args ≤ params → frame_of params args ≡ record { regs = from_list args; arrays = λ a i. 0 }
frame_full params args le =
    let regs : (λ (x : ℕ). if nat_lt x params then from_list args x else 0) ≡ from_list args = fun_ext (λ x.
    choice (nat_lt x params) (from_list args x) (λ e. elim (cases_lt x params)
    [ inl l ↦ cc (lt-ltb x params l) | inr g ↦ from_list_past args x (omega arith) ])) in
    λ j. record { regs = regs j; arrays = λ a i. 0 }
