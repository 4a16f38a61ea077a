-- The command that words ask for.
use Rattle.std.specs.Prelude.{◌≡◌, ◌⊎◌, ℕ, List, [], codes, slice_index_or, if◌then◌else◌}
use Rattle.std.specs.Str.{bytes_eq}
use Rattle.hlo_cmd.specs.declared.words.CommandName.{CommandName}
use Rattle.hlo_cmd.specs.declared.words.CommandName.TheVariants as command

-- the first word, or nothing where there is none
abbrev pub first_word : List (List ℕ) → List ℕ
first_word words = slice_index_or words 0 []

-- the command of a name
abbrev pub command_named : List ℕ → CommandName
command_named word =
    if bytes_eq word (codes "opt") then command.Opt
    else (if bytes_eq word (codes "check") then command.Check
    else (if bytes_eq word (codes "run") then command.Run
    else (if bytes_eq word (codes "runil") then command.RunIl
    else (if bytes_eq word (codes "train") then command.Train else command.Other))))

-- the command that the first word names
abbrev pub asked_command : List (List ℕ) → CommandName
asked_command words = command_named (first_word words)

-- the command runs a program
abbrev pub Runs : CommandName → Type 0
Runs name = (name ≡ command.Run) ⊎ ((name ≡ command.RunIl) ⊎ (name ≡ command.Train))

-- no command of `plain_command` has the name
abbrev pub ServesNone : CommandName → Type 0
ServesNone name = (name ≡ command.Opt) ⊎ (name ≡ command.Other)
