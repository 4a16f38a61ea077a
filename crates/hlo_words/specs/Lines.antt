-- The command lines, and what clap's own definitions read of their words.
use Rattle.std.specs.Prelude.{◌≡◌, List, [], Some, codes}
use Rattle.clap.specs.Walk.{Row, Rule, Text}
use Rattle.clap.specs.Simple.{App, matches_of, new_rule, new_app, with_rule}
use Rattle.clap.specs.Faults.{fault_of}
use Rattle.clap.specs.declared.builder.action.ArgAction.TheVariants.{Set, SetTrue, Append}

-- `--turns N`
abbrev pub turns_rule : Rule
turns_rule = record (new_rule (codes "turns")) { long = Some (codes "turns"); action = Some Set }

-- `--profile FILE`
abbrev pub profile_rule : Rule
profile_rule = record (new_rule (codes "profile")) { long = Some (codes "profile"); action = Some Set }

-- `--limit N`
abbrev pub limit_rule : Rule
limit_rule = record (new_rule (codes "limit")) { long = Some (codes "limit"); action = Some Set }

-- `--budget N`
abbrev pub budget_rule : Rule
budget_rule = record (new_rule (codes "budget")) { long = Some (codes "budget"); action = Some Set }

-- `--passes N`
abbrev pub passes_rule : Rule
passes_rule = record (new_rule (codes "passes")) { long = Some (codes "passes"); action = Some Set }

-- `--stats`
abbrev pub stats_rule : Rule
stats_rule = record (new_rule (codes "stats")) { long = Some (codes "stats"); action = Some SetTrue }

-- `FILE...`
abbrev pub files_rule : Rule
files_rule = record (new_rule (codes "files")) { action = Some Append }

-- a command with files alone
abbrev pub files_app : Text → App
files_app name = with_rule (new_app name) files_rule

-- `opt` with a limit and a budget, with a number of passes and a profile behind them, and with a flag for the report and files
abbrev pub numbers_app : App
numbers_app = with_rule (with_rule (new_app (codes "opt")) limit_rule) budget_rule

abbrev pub options_app : App
options_app = with_rule (with_rule numbers_app passes_rule) profile_rule

abbrev pub opt_app : App
opt_app = with_rule (with_rule options_app stats_rule) files_rule

-- a command with a number of turns, and files
abbrev pub turns_app : Text → App
turns_app name = with_rule (with_rule (new_app name) turns_rule) files_rule

-- clap takes the words, and finds this in them
pub record HasRead (app : App) (words : List Text) (rows : List Row) : Type 0 where
  pub taken : fault_of app words ≡ []
  pub found : rows ≡ matches_of app words

-- clap refuses the words
abbrev pub IsRefused : App → List Text → Type 0
IsRefused app words = fault_of app words ≡ [] → ⊥
