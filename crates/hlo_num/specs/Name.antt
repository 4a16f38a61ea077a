-- What may be a name.
use Rattle.std.specs.Prelude.{◌<◌, ◌&&◌, ◌||◌, ◌==◌, ℕ, Bool, List, length, nat_le, IsTrue}
use Rattle.std.specs.List.{list_all}

-- a letter of ASCII, a digit, `_`, `.` or `$`
abbrev pub is_name_byte : ℕ → Bool
is_name_byte b = (nat_le 65 b && nat_le b 90) || ((nat_le 97 b && nat_le b 122) || ((nat_le 48 b && nat_le b 57) || (b == 95 || (b == 46 || b == 36))))

-- not empty, of such bytes alone
abbrev pub IsName : List ℕ → Type 0
IsName bytes = (0 < length bytes) × IsTrue (list_all is_name_byte bytes)
