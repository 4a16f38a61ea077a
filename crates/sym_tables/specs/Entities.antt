-- What names stand for: sizes, and what two declarations of one name say together (C90, 6.1.2.6).
use Rattle.std.specs.Prelude.{ℕ, Bool, true, false, ◌&&◌, ◌==◌, Option, Some, None, length, if◌then◌else◌}
use Rattle.std.specs.Option.{option_eq, unwrap_or}
use Rattle.std.specs.Bool.{beq}
use Rattle.std.specs.Cmp.Lexicographic.{pointwise}
use Rattle.hlo_num.specs.declared.word.Ty.{Ty}
use Rattle.hlo_num.specs.contracts.word.Ty.{the_type}
use denote.Enum.Bare.{sameb}
use Rattle.sym_tables.specs.declared.entity.Entity.{Entity}
use Rattle.sym_tables.specs.declared.entity.Entity.TheVariants.{Function, Scalar, Array}

-- types are the same
abbrev pub same_type : Ty → Ty → Bool
same_type = sameb the_type

-- the words of an object; none for a function, or while a length is unknown
abbrev pub words : Entity → ℕ
words (Function gives params) = 0
words (Scalar ty fixed) = 1
words (Array ty fixed len) = unwrap_or len 0

-- the parameters of a function; none for an object
abbrev pub parameters : Entity → ℕ
parameters (Function gives params) = length params
parameters (Scalar ty fixed) = 0
parameters (Array ty fixed len) = 0

abbrev pub is_function : Entity → Bool
is_function (Function gives params) = true
is_function (Scalar ty fixed) = false
is_function (Array ty fixed len) = false

-- an array of unknown length
abbrev pub lacks_length : Entity → Bool
lacks_length (Array ty fixed None) = true
lacks_length (Array ty fixed (Some n)) = false
lacks_length (Function gives params) = false
lacks_length (Scalar ty fixed) = false

-- an unknown length agrees with any
abbrev pub lengths_agree : Option ℕ → Option ℕ → Bool
lengths_agree None b = true
lengths_agree (Some n) None = true
lengths_agree (Some n) (Some m) = n == m

-- two declarations of one name can stand for one thing: the same types, and lengths that agree
abbrev pub compatible : Entity → Entity → Bool
compatible (Function r ps) (Function s qs) = option_eq same_type r s && pointwise same_type ps qs
compatible (Scalar t f) (Scalar u g) = same_type t u && beq f g
compatible (Array t f n) (Array u g m) = same_type t u && beq f g && lengths_agree n m
compatible (Function r ps) (Scalar u g) = false
compatible (Function r ps) (Array u g m) = false
compatible (Scalar t f) (Function s qs) = false
compatible (Scalar t f) (Array u g m) = false
compatible (Array t f n) (Function s qs) = false
compatible (Array t f n) (Scalar u g) = false

-- what is known of a name that was declared as both: a length, as soon as one of them has it
abbrev pub composite : Entity → Entity → Entity
composite known said = if lacks_length known then said else known
