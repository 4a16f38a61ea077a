-- The profile's share of a count is that of the laws.
use Rattle.std.proofs.Common.{◌≡◌, ℕ, zero, suc, refl}
use Rattle.profile.specs.Scaling.{scaled}
use Rattle.il_laws.specs.Splice.{scale}

pub scaled_is : (count site entry : ℕ) → scaled count site entry ≡ scale count site entry
scaled_is count site zero = refl
scaled_is count site (suc entry) = refl
