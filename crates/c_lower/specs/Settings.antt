-- What the code has of what is fixed for a function, and of a spot.
use Rattle.std.specs.Prelude.{slice_get, slice_index_or}
use Rattle.profile.specs.Counts.{counts_of}
use Rattle.c_typed.specs.Expressions as typed
use Rattle.lower_laws.specs.Functions.{is_some_array}
use Rattle.c_lower.specs.declared.setting.Setting.{Setting}
use Rattle.c_lower.specs.declared.operations.Spot.{Spot}
use Rattle.c_lower.specs.declared.operations.Spot.TheVariants.{Whole, Part}
use Rattle.c_lower.specs.Drafts.{Fixed}

abbrev pub fixed_of : Setting → Fixed
fixed_of c = record {
  outline = record { is_array = λ x. is_some_array (slice_get c.locals.now x); value = c.value };
  array = λ x. slice_index_or c.arrays.items x c.total;
  count = λ k. (counts_of c.profile.now).site c.name.now k;
}

abbrev pub spot_of : Spot → typed.Spot
spot_of (Whole x) = typed.Whole x
spot_of (Part a i) = typed.Part a i
