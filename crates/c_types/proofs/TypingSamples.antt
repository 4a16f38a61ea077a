-- Specifiers that name a type, and some that don't.
use Rattle.std.proofs.Common.{◌≡◌, true, false, [], ◌∷◌, Some, None, refl}
use Rattle.hlo_num.specs.declared.word.Ty.TheVariants as types
use Rattle.c_tree.specs.declared.expression.SpecifierWord.TheVariants as words
use Rattle.c_types.specs.declared.specifiers.Part.TheVariants.{One, Tagged, Listed}
use Rattle.c_types.specs.declared.specifiers.Site.TheVariants as sites
use Rattle.c_types.specs.declared.specifiers.Storage.TheVariants as storages
use Rattle.c_types.specs.Specifiers.{type_named, meaning}

-- `int const long unsigned`: the words stand in any order
any_order : type_named (One words.Int ∷ One words.Const ∷ One words.Long ∷ One words.Unsigned ∷ []) ≡ Some (Some types.ULong)
any_order = refl

-- `char` alone is signed, as `signed char` is
plain_char : type_named (One words.Char ∷ []) ≡ type_named (One words.Char ∷ One words.Signed ∷ [])
plain_char = refl

-- `long long`, `signed unsigned` and `short char` are no types, and no word at all names none
twice : type_named (One words.Long ∷ One words.Long ∷ []) ≡ None
twice = refl

both_signs : type_named (One words.Signed ∷ One words.Unsigned ∷ []) ≡ None
both_signs = refl

two_sizes : type_named (One words.Short ∷ One words.Char ∷ []) ≡ None
two_sizes = refl

nothing : type_named (One words.Const ∷ []) ≡ None
nothing = refl

-- an enumeration is int, and stands without words of types
enumeration : type_named (Tagged ∷ One words.Static ∷ []) ≡ Some (Some types.Int)
enumeration = refl

enumeration_and_word : type_named (Listed ∷ One words.Int ∷ []) ≡ None
enumeration_and_word = refl

-- `static const unsigned` at file scope, and in a block
at_file_scope : meaning sites.File (One words.Static ∷ One words.Const ∷ One words.Unsigned ∷ []) ≡ Some
    (record { storage = Some storages.Static; fixed = true; ty = Some types.UInt; lists = false })
at_file_scope = refl

in_a_block : meaning sites.Block (One words.Static ∷ One words.Unsigned ∷ []) ≡ None
in_a_block = refl
