-- The constants of enumerations (C90, 6.5.2.2), and the names of the library (C90, 7.7 and 7.10).
use Rattle.std.specs.Prelude.{ℕ, Bool, ◌&&◌, ◌||◌, ◌==◌, ◌^◌, not, ℤ, pos, neg_ℤ, ◌+ℤ◌, int_le, int_lt, is_none, List, codes, if◌then◌else◌}
use Rattle.hlo_num.specs.declared.word.Ty.{Ty}
use Rattle.hlo_num.specs.Words.{signed, word_of}
use Rattle.c_tree.specs.declared.expression.Identifier.{Identifier}
use Rattle.sym_tables.specs.Table.{same_name}
use Rattle.c_types.specs.declared.binding.Binding.TheVariants as bindings
use Rattle.c_types.specs.declared.fault.TypeKind.TheVariants as kinds
use Rattle.c_typed.specs.Operators.{is_signed}
use Rattle.c_types.specs.Rules.{Rule, ◌>>=◌, ◌>>◌, give, known, change, unless}
use Rattle.c_types.specs.Names.{bound_here, bind}

-- the names that the two headers declare
abbrev pub is_library : List ℕ → Bool
is_library name = same_name (codes "getchar") name || same_name (codes "putchar") name || same_name (codes "exit") name || same_name (codes "EOF") name

-- the number that a word of a type stands for
abbrev pub value_in : Ty → ℕ → ℤ
value_in ty w = if is_signed ty then signed w else pos w

-- int holds this number
abbrev pub fits_int : ℤ → Bool
fits_int v = int_le (neg_ℤ (pos (2 ^ 31))) v && int_lt v (pos (2 ^ 31))

-- declares the constant of this value, and gives the value of a next one
abbrev pub enumerator : Identifier → ℤ → Rule ℤ
enumerator x v = do
  at_file ← known (λ h. h.names.depth == 0)
  unless (not (at_file && is_library x.name)) x.line kinds.Library
  old ← known (bound_here x.name)
  unless (is_none old) x.line kinds.Redeclared
  unless (fits_int v) x.line kinds.EnumRange
  change (bind x.name (bindings.Constant (record { 0 = word_of v })))
  give (v +ℤ pos 1)
