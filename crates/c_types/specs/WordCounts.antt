-- How the code finds the type that words name: how often each of them stands, and tests on these counts.
use Rattle.std.specs.Prelude.{Bool, true, false, ◌&&◌, ◌||◌, ◌==◌, List, Option, Some, None, if◌then◌else◌}
use Rattle.hlo_num.specs.declared.word.Ty.{Ty}
use Rattle.hlo_num.specs.declared.word.Ty.TheVariants as types
use Rattle.c_tree.specs.declared.expression.SpecifierWord.TheVariants.{Void, Char, Short, Int, Long, Signed, Unsigned}
use Rattle.c_types.specs.declared.specifiers.Counts.{Counts}
use Rattle.c_types.specs.declared.specifiers.Part.{Part}
use Rattle.c_types.specs.Specifiers.{how_many, is_word, is_enum}

-- how often each word stands that may name a type, and how many enumerations there are
abbrev pub word_counts : List Part → Counts
word_counts ps = record {
  void = how_many (is_word Void) ps;
  char = how_many (is_word Char) ps;
  short = how_many (is_word Short) ps;
  int = how_many (is_word Int) ps;
  long = how_many (is_word Long) ps;
  signed = how_many (is_word Signed) ps;
  unsigned = how_many (is_word Unsigned) ps;
  enums = how_many is_enum ps;
}

abbrev pub none : Counts
none = record { void = 0; char = 0; short = 0; int = 0; long = 0; signed = 0; unsigned = 0; enums = 0 }

abbrev pub same : Counts → Counts → Bool
same a b = (a.void == b.void) && (a.char == b.char) && (a.short == b.short) && (a.int == b.int) && (a.long == b.long) && (a.signed == b.signed) &&
    (a.unsigned == b.unsigned) && (a.enums == b.enums)

-- these words stand, and no others but `int` and `signed`, once each, where they may stand besides
abbrev pub is_set : Counts → Bool → Bool → Counts → Bool
is_set words int signed c =
    same c words
    || (int && same c (record words { int = 1 }))
    || (signed && same c (record words { signed = 1 }))
    || (int && signed && same c (record words { int = 1; signed = 1 }))

-- the type of these counts, if they are those of a type
abbrev pub type_of_counts : Counts → Option (Option Ty)
type_of_counts c =
    if same c (record none { void = 1 }) then Some None else
    (if same c (record none { enums = 1 }) then Some (Some types.Int) else
    (if is_set (record none { char = 1 }) false true c then Some (Some types.Char) else
    (if same c (record none { char = 1; unsigned = 1 }) then Some (Some types.UChar) else
    (if is_set (record none { short = 1 }) true true c then Some (Some types.Short) else
    (if is_set (record none { short = 1; unsigned = 1 }) true false c then Some (Some types.UShort) else
    (if is_set (record none { int = 1 }) false true c then Some (Some types.Int) else
    (if same c (record none { signed = 1 }) then Some (Some types.Int) else
    (if is_set (record none { unsigned = 1 }) true false c then Some (Some types.UInt) else
    (if is_set (record none { long = 1 }) true true c then Some (Some types.Long) else
    (if is_set (record none { long = 1; unsigned = 1 }) true false c then Some (Some types.ULong) else None))))))))))
