-- The disk as the loader knows it.
use Rattle.std.specs.Prelude.{Bool, true, false}
use Rattle.naim_loader.specs.declared.home.Home.{Home}
use Rattle.naim_loader.specs.declared.home.Home.TheVariants as home

-- the disk at home, or as it was lent
abbrev pub told : {D : Type 0} → Home D → D
told (home.In d) = d
told (home.Lent s) = s.value

abbrev pub is_home : {D : Type 0} → Home D → Bool
is_home (home.In d) = true
is_home (home.Lent s) = false
