-- A shelf's files.
use Rattle.std.specs.Prelude.{ℕ, List, [], ◌∷◌, if◌then◌else◌, Option, None, Some, String, Vec, string_bytes, bytes_eq}
use Rattle.std.specs.declared.alloc.Global.{Global}
use Rattle.outside.specs.Told.{Told, Absent, Holds}

-- a file: its name and its bytes
abbrev pub File : Type 0
File = String Global × Vec ℕ Global

-- the bytes of the first file of a name
abbrev pub file_named : List File → List ℕ → Option (List ℕ)
file_named [] name = None
file_named (file ∷ files) name = if bytes_eq (string_bytes file.0) name then Some file.1.items else file_named files name

-- what is told where there is no file of a name, else the file's bytes
abbrev pub told_or : Told → Option (List ℕ) → Told
told_or missing None = missing
told_or missing (Some bytes) = Holds bytes

-- a name without a file is absent
abbrev pub told_of : List File → List ℕ → Told
told_of files name = told_or Absent (file_named files name)

-- a name without a file has an empty one
abbrev pub told_or_empty : List File → List ℕ → Told
told_or_empty files name = told_or (Holds []) (file_named files name)
