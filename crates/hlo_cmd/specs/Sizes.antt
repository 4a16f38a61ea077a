-- The sizes of files.
use Rattle.std.specs.Prelude.{ℕ, ◌^◌}

-- the greatest number of bytes of a file that is read, 16 MiB
abbrev pub most_bytes : ℕ
most_bytes = 2 ^ 24
