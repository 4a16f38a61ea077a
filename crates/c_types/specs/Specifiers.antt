-- What the specifiers of a declaration say together (C90, 6.5.1 to 6.5.3): at most one storage class and one `const`,
-- and one type. A type is one enumeration, which is int, or one of the sets of words below, in any order.
use Rattle.std.specs.Prelude.{ℕ, ◌+◌, Bool, true, false, ◌&&◌, ◌||◌, ◌==◌, nat_le, not, List, [], ◌∷◌, Option, Some, None, if◌then◌else◌}
use denote.Enum.Bare.{sameb}
use Rattle.hlo_num.specs.declared.word.Ty.{Ty}
use Rattle.hlo_num.specs.declared.word.Ty.TheVariants as types
use Rattle.c_tree.specs.declared.expression.SpecifierWord.{SpecifierWord}
use Rattle.c_tree.specs.declared.expression.SpecifierWord.TheVariants.{Extern, Static, Auto, Register, Const, Void, Char, Short, Int, Long, Signed, Unsigned}
use Rattle.c_tree.specs.contracts.expression.SpecifierWord.{the_type}
use Rattle.c_types.specs.declared.specifiers.Storage.{Storage}
use Rattle.c_types.specs.declared.specifiers.Storage.TheVariants as storages
use Rattle.c_types.specs.declared.specifiers.Site.{Site}
use Rattle.c_types.specs.declared.specifiers.Site.TheVariants.{File, Block, Parameter, Cast}
use Rattle.c_types.specs.declared.specifiers.Specified.{Specified}
use Rattle.c_types.specs.declared.specifiers.Part.{Part}
use Rattle.c_types.specs.declared.specifiers.Part.TheVariants.{One, Tagged, Listed}

abbrev pub is_word : SpecifierWord → Part → Bool
is_word w (One v) = sameb the_type w v
is_word w Tagged = false
is_word w Listed = false

abbrev pub is_enum : Part → Bool
is_enum (One w) = false
is_enum Tagged = true
is_enum Listed = true

abbrev pub is_list : Part → Bool
is_list (One w) = false
is_list Tagged = false
is_list Listed = true

-- how many parts pass a test
abbrev pub how_many : (Part → Bool) → List Part → ℕ
how_many is [] = 0
how_many is (p ∷ ps) = if is p then 1 + how_many is ps else how_many is ps

abbrev pub storage_word : SpecifierWord → Option Storage
storage_word Extern = Some storages.Extern
storage_word Static = Some storages.Static
storage_word Auto = Some storages.Auto
storage_word Register = Some storages.Register
storage_word _ = None

abbrev pub storage_part : Part → Option Storage
storage_part (One w) = storage_word w
storage_part Tagged = None
storage_part Listed = None

abbrev pub is_storage : Option Storage → Bool
is_storage None = false
is_storage (Some s) = true

abbrev pub or_later : Option Storage → Option Storage → Option Storage
or_later None later = later
or_later (Some s) later = Some s

-- the first storage class
abbrev pub first_storage : List Part → Option Storage
first_storage [] = None
first_storage (p ∷ ps) = or_later (storage_part p) (first_storage ps)

-- the words that may name a type (C90, 6.5.2)
abbrev pub naming_words : List SpecifierWord
naming_words = Void ∷ Char ∷ Short ∷ Int ∷ Long ∷ Signed ∷ Unsigned ∷ []

-- the sets of words that name a type, with the type; void is no type of a value (C90, 6.5.2)
abbrev pub type_sets : List (List SpecifierWord × Option Ty)
type_sets =
    (Void ∷ [], None)
    ∷ (Char ∷ [], Some types.Char)
    ∷ (Signed ∷ Char ∷ [], Some types.Char)
    ∷ (Unsigned ∷ Char ∷ [], Some types.UChar)
    ∷ (Short ∷ [], Some types.Short)
    ∷ (Short ∷ Int ∷ [], Some types.Short)
    ∷ (Signed ∷ Short ∷ [], Some types.Short)
    ∷ (Signed ∷ Short ∷ Int ∷ [], Some types.Short)
    ∷ (Unsigned ∷ Short ∷ [], Some types.UShort)
    ∷ (Unsigned ∷ Short ∷ Int ∷ [], Some types.UShort)
    ∷ (Int ∷ [], Some types.Int)
    ∷ (Signed ∷ Int ∷ [], Some types.Int)
    ∷ (Signed ∷ [], Some types.Int)
    ∷ (Unsigned ∷ [], Some types.UInt)
    ∷ (Unsigned ∷ Int ∷ [], Some types.UInt)
    ∷ (Long ∷ [], Some types.Long)
    ∷ (Long ∷ Int ∷ [], Some types.Long)
    ∷ (Signed ∷ Long ∷ [], Some types.Long)
    ∷ (Signed ∷ Long ∷ Int ∷ [], Some types.Long)
    ∷ (Unsigned ∷ Long ∷ [], Some types.ULong)
    ∷ (Unsigned ∷ Long ∷ Int ∷ [], Some types.ULong)
    ∷ []

-- how often a word stands in a set
abbrev pub times : SpecifierWord → List SpecifierWord → ℕ
times w [] = 0
times w (v ∷ vs) = if sameb the_type w v then 1 + times w vs else times w vs

-- each of these words stands among the parts as often as in the set
abbrev pub stand_alike : List SpecifierWord → List Part → List SpecifierWord → Bool
stand_alike [] ps set = true
stand_alike (w ∷ ws) ps set = (how_many (is_word w) ps == times w set) && stand_alike ws ps set

-- the words among the parts that may name a type are those of the set, in any order
abbrev pub has_words : List Part → List SpecifierWord → Bool
has_words ps set = stand_alike naming_words ps set

-- the type of the first set of a list that has just the words of the parts
abbrev pub named_by : List (List SpecifierWord × Option Ty) → List Part → Option (Option Ty)
named_by [] ps = None
named_by (s ∷ sets) ps = if has_words ps s.0 then Some s.1 else named_by sets ps

-- the type that the parts name, if they name one: words alone, which are one of the sets; or one enumeration alone,
-- which is int
abbrev pub type_named : List Part → Option (Option Ty)
type_named ps =
    if how_many is_enum ps == 0 then named_by type_sets ps
    else (if (how_many is_enum ps == 1) && has_words ps [] then Some (Some types.Int) else None)

-- an enumeration's constants are listed
abbrev pub lists : List Part → Bool
lists [] = false
lists (p ∷ ps) = is_list p || lists ps

-- a storage class may stand at this place
abbrev pub allows : Site → Option Storage → Bool
allows site None = true
allows File (Some storages.Extern) = true
allows File (Some storages.Static) = true
allows File (Some storages.Auto) = false
allows File (Some storages.Register) = false
allows Block (Some storages.Auto) = true
allows Block (Some storages.Register) = true
allows Block (Some storages.Extern) = false
allows Block (Some storages.Static) = false
allows Parameter (Some storages.Register) = true
allows Parameter (Some storages.Extern) = false
allows Parameter (Some storages.Static) = false
allows Parameter (Some storages.Auto) = false
allows Cast (Some s) = false

-- how many `const`s may stand at this place
abbrev pub consts : Site → ℕ
consts File = 1
consts Block = 1
consts Parameter = 1
consts Cast = 0

-- the storage classes and the `const`s go together, and may stand here
abbrev pub fit : Site → List Part → Bool
fit site ps = nat_le (how_many (λ p. is_storage (storage_part p)) ps) 1 && nat_le (how_many (is_word Const) ps) (consts site) && allows site (first_storage ps)

abbrev pub specified_as : List Part → Option (Option Ty) → Option Specified
specified_as ps None = None
specified_as ps (Some ty) = Some (record { storage = first_storage ps; fixed = not (how_many (is_word Const) ps == 0); ty = ty; lists = lists ps })

-- what specifiers say at a place, or none where they break the rule
abbrev pub meaning : Site → List Part → Option Specified
meaning site ps = if fit site ps then specified_as ps (type_named ps) else None
