-- When bytes are the text of a module.
use Rattle.std.specs.Prelude.{◌≡◌, ℕ, ◌≤◌, ◌^◌, List, length}
use Rattle.c_lex.specs.Text.{IsText}
use Rattle.c_parse.specs.Promise.{IsAccepted}
use Rattle.c_tree.specs.declared.declaration.Module.{Module}
use Rattle.c_tree.specs.declared.token.Token.{Token}

-- the greatest number of bytes of a module, 16 MiB
abbrev pub most_bytes : ℕ
most_bytes = 2 ^ 24

-- the bytes aren't too many, and are a text of the lexical grammar with these tokens
pub record HasTokens (bytes : List ℕ) (tokens : List Token) : Type 0 where
  pub short : length bytes ≤ most_bytes
  pub text : IsText tokens bytes

-- they are these, and no others
pub record HasOnlyTokens (bytes : List ℕ) (tokens : List Token) : Type 0 where
  pub scanned : HasTokens bytes tokens
  pub only : (others : List Token) → HasTokens bytes others → tokens ≡ others

-- the tokens of the bytes spell the module
pub record IsModuleText (bytes : List ℕ) (m : Module) : Type 0 where
  pub tokens : List Token
  pub scanned : HasTokens bytes tokens
  pub spelled : IsAccepted m tokens

-- the bytes are the text of this module, and of no other
pub record IsOnlyModuleText (bytes : List ℕ) (m : Module) : Type 0 where
  pub text : IsModuleText bytes m
  pub only : (other : Module) → IsModuleText bytes other → m ≡ other
