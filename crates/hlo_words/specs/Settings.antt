-- What the words of each command say.
use Rattle.std.specs.Prelude.{◌≡◌, ◌≤◌, ◌==◌, ◌||◌, ℕ, Bool, false, List, [], ◌∷◌, Option, Some, None, length, codes}
use Rattle.std.specs.Str.{bytes_eq}
use Rattle.std.specs.Fmt.{decimal}
use Rattle.clap.specs.Walk.{Row, Text, all_of, first_of}
use Rattle.hlo_words.specs.Lines.{HasRead, files_app, opt_app, turns_app}
use Rattle.hlo_words.specs.declared.settings.CheckSettings.{CheckSettings}
use Rattle.hlo_words.specs.declared.settings.OptSettings.{OptSettings}
use Rattle.hlo_words.specs.declared.settings.RunIlSettings.{RunIlSettings}
use Rattle.hlo_words.specs.declared.settings.RunSettings.{RunSettings}

-- the text is this number of the range in decimal digits, without a sign and a leading zero
pub record IsNumberIn (low high : ℕ) (text : Text) (n : ℕ) : Type 0 where
  pub spelled : text ≡ decimal n
  pub least : low ≤ n
  pub most : n ≤ high

-- a `+`, or a `0` before further bytes, stands first
abbrev pub is_padded_text : Text → Bool
is_padded_text [] = false
is_padded_text (b ∷ []) = b == 43
is_padded_text (b ∷ c ∷ bs) = (b == 43) || (b == 48)

-- the value of an option with a number: the default where it isn't given
abbrev pub IsValue : ℕ → ℕ → ℕ → Option Text → ℕ → Type 0
IsValue default low high None n = n ≡ default
IsValue default low high (Some text) n = IsNumberIn low high text n

-- the turns: 0 to 1000000000000, and 1000000000 where they aren't given
abbrev pub HasTurns : List Row → ℕ → Type 0
HasTurns rows n = IsValue 1000000000 0 1000000000000 (first_of (codes "turns") rows) n

-- the limit in bytes: 1 to 1073741824, and 67108864 where it isn't given
abbrev pub HasLimit : List Row → ℕ → Type 0
HasLimit rows n = IsValue 67108864 1 1073741824 (first_of (codes "limit") rows) n

-- the budget in percent: 0 to 1000, and 100 where it isn't given
abbrev pub HasBudget : List Row → ℕ → Type 0
HasBudget rows n = IsValue 100 0 1000 (first_of (codes "budget") rows) n

-- the passes: 1 to 8, and 4 where they aren't given
abbrev pub HasPasses : List Row → ℕ → Type 0
HasPasses rows n = IsValue 4 1 8 (first_of (codes "passes") rows) n

-- a flag was given: clap keeps `true` for it then
abbrev pub is_set : Option Text → Bool
is_set None = false
is_set (Some text) = bytes_eq text (codes "true")

-- the files, in the order of the words: one to 64
pub record AreFiles (rows : List Row) (files : List Text) : Type 0 where
  pub given : all_of (codes "files") rows ≡ Some files
  pub some : 1 ≤ length files
  pub most : length files ≤ 64

-- the words of `opt` say this
pub record IsOptSettings (words : List Text) (s : OptSettings) : Type 0 where
  pub rows : List Row
  pub read : HasRead opt_app words rows
  pub limit : HasLimit rows s.limit
  pub budget : HasBudget rows s.budget
  pub passes : HasPasses rows s.passes
  pub profile : first_of (codes "profile") rows ≡ s.profile
  pub stats : is_set (first_of (codes "stats") rows) ≡ s.stats
  pub files : AreFiles rows s.files

-- the words of `check` say this
pub record IsCheckSettings (words : List Text) (s : CheckSettings) : Type 0 where
  pub rows : List Row
  pub read : HasRead (files_app (codes "check")) words rows
  pub files : AreFiles rows s.files

-- a number of turns, and files
pub record AreRunSettings (rows : List Row) (s : RunSettings) : Type 0 where
  pub turns : HasTurns rows s.turns
  pub files : AreFiles rows s.files

-- the words of a command that runs modules say this
pub record IsSettingsOf (name : Text) (words : List Text) (s : RunSettings) : Type 0 where
  pub rows : List Row
  pub read : HasRead (turns_app name) words rows
  pub settings : AreRunSettings rows s

-- the words of `run`, and those of `train`
abbrev pub IsRunSettings : List Text → RunSettings → Type 0
IsRunSettings words s = IsSettingsOf (codes "run") words s

abbrev pub IsTrainSettings : List Text → RunSettings → Type 0
IsTrainSettings words s = IsSettingsOf (codes "train") words s

-- the words of `runil` say this: there is one file
pub record IsRunIlSettings (words : List Text) (s : RunIlSettings) : Type 0 where
  pub rows : List Row
  pub read : HasRead (turns_app (codes "runil")) words rows
  pub turns : HasTurns rows s.turns
  pub file : all_of (codes "files") rows ≡ Some (s.file ∷ [])
