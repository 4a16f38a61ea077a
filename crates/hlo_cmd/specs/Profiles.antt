-- The profile that the words of a command name.
use Rattle.std.specs.Prelude.{◌≡◌, ◌≤◌, ◌<◌, ◌^◌, ◌⊎◌, ℕ, List, Option, Some, None, length, ⊤}
use Rattle.outside.specs.Faults.{Rose}
use Rattle.outside.specs.Told.{Told, Untold, Absent, Holds}
use Rattle.outside.specs.declared.shelf.ReadFault.{ReadFault}
use Rattle.outside.specs.declared.shelf.ReadFault.TheVariants as read_faults
use Rattle.profile.specs.Counts.{Counts, Profiled, counts_of, flat_counts}
use Rattle.profile.specs.Reading.{IsReadAs}
use Rattle.profile.specs.Texts.{DoesNotFit}
use Rattle.hlo_cmd.specs.declared.profiles.ProfileFault.{ProfileFault}
use Rattle.hlo_cmd.specs.declared.profiles.ProfileFault.TheVariants.{Line, CannotRead, Memory}

-- the greatest number of bytes of a profile, 16 MiB
abbrev pub most_profile_bytes : ℕ
most_profile_bytes = 2 ^ 24

-- the bytes aren't too many, and are the text of this profile
pub record IsProfileText (bytes : List ℕ) (p : Profiled) : Type 0 where
  pub short : length bytes ≤ most_profile_bytes
  pub read : IsReadAs bytes p

-- the file is that, as far as it is told
abbrev pub HoldsProfile : Told → Profiled → Type 0
HoldsProfile Untold p = ⊤
HoldsProfile Absent p = ⊥
HoldsProfile (Holds bytes) p = IsProfileText bytes p

-- this is the first line that doesn't fit, from 1; 0 stands for too many bytes
abbrev pub IsBadLine : List ℕ → ℕ → Type 0
IsBadLine bytes n = ((n ≡ 0) × (most_profile_bytes < length bytes)) ⊎ ((length bytes ≤ most_profile_bytes) × DoesNotFit bytes n)

-- the file has it, as far as it is told
abbrev pub HoldsBadLine : Told → ℕ → Type 0
HoldsBadLine Untold n = ⊤
HoldsBadLine Absent n = ⊥
HoldsBadLine (Holds bytes) n = IsBadLine bytes n

-- why a file gives no profile
abbrev pub IsProfileCause : ProfileFault → Told → ℕ → ℕ → Type 0
IsProfileCause (Line n) told before after = HoldsBadLine told n
IsProfileCause CannotRead told before after = Rose before after
IsProfileCause Memory told before after = ⊤

-- why the file that is named gives none; where none is named, there is the flat one
abbrev pub IsProfileCauseOf : ProfileFault → Option (List ℕ) → (List ℕ → Told) → (List ℕ → ℕ) → (List ℕ → ℕ) → Type 0
IsProfileCauseOf f None tells before after = ⊥
IsProfileCauseOf f (Some name) tells before after = IsProfileCause f (tells name) (before name) (after name)

-- the counts of the profile that is named, as far as its file is told; flat ones where none is named
abbrev pub HasCounts : (List ℕ → Told) → Option (List ℕ) → Counts → Type 0
HasCounts tells None counts = counts ≡ flat_counts
HasCounts tells (Some name) counts = (p : Profiled) × HoldsProfile (tells name) p × (counts ≡ counts_of p)

abbrev pub read_fault : ReadFault → ProfileFault
read_fault read_faults.Failed = CannotRead
read_fault read_faults.TooLong = Line 0
read_fault read_faults.Memory = Memory
