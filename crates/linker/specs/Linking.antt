-- When the modules of a program link (C90, 5.1.2.2.1 and 6.7).
use Rattle.std.specs.Prelude.{ℕ, Bool, false, not, ◌&&◌, ◌==◌, List, [], ◌∷◌, length, Option, Some, None, if◌then◌else◌}
use Rattle.std.specs.Option.{option_eq}
use Rattle.hlo_num.specs.declared.word.Ty.TheVariants.{Int}
use Rattle.sym_tables.specs.declared.entity.Entity.{Entity}
use Rattle.sym_tables.specs.declared.entity.Entity.TheVariants.{Function, Scalar, Array}
use Rattle.sym_tables.specs.declared.symbol.Symbol.{Symbol}
use Rattle.sym_tables.specs.Entities.{same_type}
use Rattle.sym_tables.specs.Symbols.{is_declared}
use Rattle.sym_tables.specs.Table.{Table, first_open, symbol_of}
use Rattle.linker.specs.declared.fault.LinkFault.{LinkFault}
use Rattle.linker.specs.declared.fault.LinkFault.TheVariants.{Undefined, NoMain, MainType}

-- the bytes of `main`. Names of static functions have a dot, so it is the external one
abbrev pub main_name : List ℕ
main_name = 109 ∷ 97 ∷ 105 ∷ 110 ∷ []

-- int main(void): a function that gives an int and has no parameters
abbrev pub is_main_type : Entity → Bool
is_main_type (Function gives params) = option_eq same_type gives (Some Int) && (length params == 0)
is_main_type (Scalar ty fixed) = false
is_main_type (Array ty fixed len) = false

-- defined, or tentatively defined and so one with zeros; not where it is declared only, or never mentioned
abbrev pub is_provided : Option Symbol → Bool
is_provided None = false
is_provided (Some s) = not (is_declared s.standing)

-- of the type of `main`
abbrev pub begins : Option Symbol → Bool
begins None = false
begins (Some s) = is_main_type s.entity

-- the first thing that keeps a program from being linked, by its least used and undefined PID and by what is known
-- of `main`
abbrev pub refusal_of : Option ℕ → Option Symbol → Option LinkFault
refusal_of (Some pid) main = Some (Undefined pid)
refusal_of None main = if is_provided main then (if begins main then None else Some MainType) else Some NoMain

abbrev pub refusal : Table → Option LinkFault
refusal syms = refusal_of (first_open syms) (symbol_of syms main_name)
