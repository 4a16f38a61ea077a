-- What is wrong with the bytes of a file.
use Rattle.std.specs.Prelude.{◌≡◌, ℕ, ◌<◌, ◌≤◌, List, length, Err}
use Rattle.c_lex.specs.Text.{IsFault}
use Rattle.c_parse.specs.Promise.{Answers}
use Rattle.c_parse.specs.declared.fault.ParseFault.TheVariants.{At}
use Rattle.c_tree.specs.declared.declaration.Module.{Module}
use Rattle.c_tree.specs.declared.token.Token.{Token}
use Rattle.c_typed.specs.declared.function.TypedModule.{TypedModule}
use Rattle.c_types.specs.Rules.{Here, Gives, Breaks}
use Rattle.c_types.specs.Typing.{module_rules, start}
use Rattle.sym_tables.specs.Table.{Table}
use Rattle.c_module.specs.Limits.{IsFirstTooLarge, functions_in}
use Rattle.c_module.specs.Texts.{HasOnlyTokens, IsOnlyModuleText, most_bytes}
use Rattle.c_module.specs.declared.fault.ModuleFault.{ModuleFault}
use Rattle.c_module.specs.declared.fault.ModuleFault.TheVariants.{TooLong, Lexical, Syntax, Typing, TooLarge}

-- the bytes are the text of a module with this number, which follows the rules behind modules with the old names, and the
-- first of its functions whose routine passes a limit has this PID in the new names
pub record IsTooLarge (number : ℕ) (old : Table) (bytes : List ℕ) (pid : ℕ) (new : Table) : Type 0 where
  pub found : Module
  pub text : IsOnlyModuleText bytes found
  pub typed_as : TypedModule
  pub here : Here
  pub typed : module_rules number found (start old) ≡ Gives typed_as here
  pub names : new ≡ here.syms
  pub first : IsFirstTooLarge (functions_in typed_as) pid

-- What is wrong with the bytes of the file with this number, where the modules before it have the old names: there are too
-- many; they are no text of the lexical grammar; they are one, and its tokens are no module; they are the text of a module,
-- which breaks a rule of types or linkage; or it follows the rules, and one of its routines passes a limit. The line and the
-- kind are those of the first place with which nothing goes on, or of the first rule that is broken.
abbrev pub IsModuleFault : ℕ → Table → List ℕ → ModuleFault → Table → Type 0
IsModuleFault number old bytes TooLong new = most_bytes < length bytes
IsModuleFault number old bytes (Lexical line kind) new = (length bytes ≤ most_bytes) × IsFault bytes line kind
IsModuleFault number old bytes (Syntax line kind) new = (tokens : List Token) × HasOnlyTokens bytes tokens × Answers tokens (Err (At line kind))
IsModuleFault number old bytes (Typing line kind) new = (m : Module) × IsOnlyModuleText bytes m × (module_rules number m (start old) ≡ Breaks line kind)
IsModuleFault number old bytes (TooLarge pid) new = IsTooLarge number old bytes pid new
