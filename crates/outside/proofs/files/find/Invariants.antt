use Rattle.std.proofs.Common.{◌≡◌, drop}
use Rattle.outside.specs.Files.{file_named}
use Rattle.outside.proofs.files.find.Given as goal

-- the files that are left decide
abbrev pub invariant-loop-file : goal.invariant-loop-file
invariant-loop-file l = file_named (drop l.file-index l.files) l.name ≡ file_named l.files l.name
