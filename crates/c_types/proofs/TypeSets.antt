-- The code's tests on counts find the type that the words name: each test is one of a set of words, in the same order.
use Rattle.std.proofs.Common.{◌≡◌, ℕ, Bool, true, false, ◌&&◌, ◌||◌, ◌==◌, List, [], ◌∷◌, Option, Some, None, refl, sym, ap, ap₂, ◌∙◌, if◌then◌else◌, arith}
use Rattle.hlo_num.specs.declared.word.Ty.{Ty}
use Rattle.hlo_num.specs.declared.word.Ty.TheVariants as types
use mathlib.Core.Path.{fun_ext}
use Rattle.std.proofs.lemmas.Bool.{ne_eqb, eqb-true}
use Rattle.c_tree.specs.declared.expression.SpecifierWord.{SpecifierWord}
use Rattle.c_tree.specs.declared.expression.SpecifierWord.TheVariants.{Void, Char, Short, Int, Long, Signed, Unsigned}
use Rattle.c_types.specs.declared.specifiers.Counts.{Counts}
use Rattle.c_types.specs.declared.specifiers.Part.{Part}
use Rattle.c_types.specs.Specifiers.{how_many, is_word, is_enum, times, has_words, type_named}
use Rattle.c_types.specs.WordCounts.{word_counts, same, type_of_counts}

-- tests in a row are grouped to the left or to the right
row : (a b c d e f g h : Bool) → (a && b && c && d && e && f && g && h) ≡ ((a && (b && (c && (d && (e && (f && (g && true))))))) && h)
row false b c d e f g h = refl
row true false c d e f g h = refl
row true true false d e f g h = refl
row true true true false e f g h = refl
row true true true true false f g h = refl
row true true true true true false g h = refl
row true true true true true true false h = refl
row true true true true true true true h = refl

-- the counts of a set of words, with this many enumerations
abbrev counts_of : ℕ → List SpecifierWord → Counts
counts_of enums set = record {
  void = times Void set;
  char = times Char set;
  short = times Short set;
  int = times Int set;
  long = times Long set;
  signed = times
      Signed set;
  unsigned = times Unsigned set;
  enums = enums;
}

-- counts are those of a set where the words are and the number of enumerations is
same_counts : (ps : List Part) (enums : ℕ) (set : List SpecifierWord)
    → same (word_counts ps) (counts_of enums set) ≡ (has_words ps set && (how_many is_enum ps == enums))
same_counts ps enums set = row (how_many (is_word Void) ps == times Void set) (how_many (is_word Char) ps == times Char set)
    (how_many (is_word Short) ps == times Short set) (how_many (is_word Int) ps == times Int set) (how_many (is_word Long) ps == times Long set)
    (how_many (is_word Signed) ps == times Signed set) (how_many (is_word Unsigned) ps == times Unsigned set) (how_many is_enum ps == enums)

-- the code's tests: which sets the words are, and whether there is one enumeration alone
abbrev tests : (List SpecifierWord → Bool) → Bool → Option (Option Ty)
tests h enum = if h (Void ∷ []) then Some (None) else (if enum then Some (Some types.Int)
    else (if (h (Char ∷ []) || false || h (Signed ∷ Char ∷ []) || false) then Some (Some types.Char)
    else (if h (Unsigned ∷ Char ∷ []) then Some (Some types.UChar)
    else (if (h (Short ∷ []) || h (Short ∷ Int ∷ []) || h (Signed ∷ Short ∷ []) || h (Signed ∷ Short ∷ Int ∷ [])) then Some (Some types.Short)
    else (if (h (Unsigned ∷ Short ∷ []) || h (Unsigned ∷ Short ∷ Int ∷ []) || false || false) then Some (Some types.UShort)
    else (if (h (Int ∷ []) || false || h (Signed ∷ Int ∷ []) || false) then Some (Some types.Int)
    else (if h (Signed ∷ []) then Some (Some types.Int) else (if (h (Unsigned ∷ []) || h (Unsigned ∷ Int ∷ []) || false || false) then Some (Some types.UInt)
    else (if (h (Long ∷ []) || h (Long ∷ Int ∷ []) || h (Signed ∷ Long ∷ []) || h (Signed ∷ Long ∷ Int ∷ [])) then Some (Some types.Long)
    else (if (h (Unsigned ∷ Long ∷ []) || h (Unsigned ∷ Long ∷ Int ∷ []) || false || false) then Some (Some types.ULong) else (None)))))))))))

-- the sets one after the other
abbrev first_set : (List SpecifierWord → Bool) → Option (Option Ty)
first_set h = if h (Void ∷ []) then Some (None) else (if h (Char ∷ []) then Some (Some types.Char)
    else (if h (Signed ∷ Char ∷ []) then Some (Some types.Char) else (if h (Unsigned ∷ Char ∷ []) then Some (Some types.UChar)
    else (if h (Short ∷ []) then Some (Some types.Short) else (if h (Short ∷ Int ∷ []) then Some (Some types.Short)
    else (if h (Signed ∷ Short ∷ []) then Some (Some types.Short)
    else (if h (Signed ∷ Short ∷ Int ∷ []) then Some (Some types.Short)
    else (if h (Unsigned ∷ Short ∷ []) then Some (Some types.UShort)
    else (if h (Unsigned ∷ Short ∷ Int ∷ []) then Some (Some types.UShort)
    else (if h (Int ∷ []) then Some (Some types.Int) else (if h (Signed ∷ Int ∷ []) then Some (Some types.Int)
    else (if h (Signed ∷ []) then Some (Some types.Int) else (if h (Unsigned ∷ []) then Some (Some types.UInt)
    else (if h (Unsigned ∷ Int ∷ []) then Some (Some types.UInt) else (if h (Long ∷ []) then Some (Some types.Long)
    else (if h (Long ∷ Int ∷ []) then Some (Some types.Long) else (if h (Signed ∷ Long ∷ []) then Some (Some types.Long)
    else (if h (Signed ∷ Long ∷ Int ∷ []) then Some (Some types.Long)
    else (if h (Unsigned ∷ Long ∷ []) then Some (Some types.ULong)
    else (if h (Unsigned ∷ Long ∷ Int ∷ []) then Some (Some types.ULong) else (None)))))))))))))))))))))

-- without an enumeration the tests are those of the sets in their order
in_order : (b1 b2 b3 b4 b5 b6 b7 b8 b9 b10 b11 b12 b13 b14 b15 b16 b17 b18 b19 b20 b21 : Bool)
    → (if b1 then Some (None) else (if false then Some (Some types.Int)
    else (if (b2 || false || b3 || false) then Some (Some types.Char)
    else (if b4 then Some (Some types.UChar) else (if (b5 || b6 || b7 || b8) then Some (Some types.Short)
    else (if (b9 || b10 || false || false) then Some (Some types.UShort)
    else (if (b11 || false || b12 || false) then Some (Some types.Int)
    else (if b13 then Some (Some types.Int) else (if (b14 || b15 || false || false) then Some (Some types.UInt)
    else (if (b16 || b17 || b18 || b19) then Some (Some types.Long) else (if (b20 || b21 || false || false) then Some (Some types.ULong) else (None))))))))))))
    ≡ (if b1 then Some (None) else (if b2 then Some (Some types.Char)
    else (if b3 then Some (Some types.Char) else (if b4 then Some (Some types.UChar)
    else (if b5 then Some (Some types.Short) else (if b6 then Some (Some types.Short)
    else (if b7 then Some (Some types.Short) else (if b8 then Some (Some types.Short)
    else (if b9 then Some (Some types.UShort) else (if b10 then Some (Some types.UShort)
    else (if b11 then Some (Some types.Int) else (if b12 then Some (Some types.Int)
    else (if b13 then Some (Some types.Int) else (if b14 then Some (Some types.UInt)
    else (if b15 then Some (Some types.UInt) else (if b16 then Some (Some types.Long)
    else (if b17 then Some (Some types.Long) else (if b18 then Some (Some types.Long)
    else (if b19 then Some (Some types.Long) else (if b20 then Some (Some types.ULong)
    else (if b21 then Some (Some types.ULong) else (None))))))))))))))))))))))
in_order true b2 b3 b4 b5 b6 b7 b8 b9 b10 b11 b12 b13 b14 b15 b16 b17 b18 b19 b20 b21 = refl
in_order false true b3 b4 b5 b6 b7 b8 b9 b10 b11 b12 b13 b14 b15 b16 b17 b18 b19 b20 b21 = refl
in_order false false true b4 b5 b6 b7 b8 b9 b10 b11 b12 b13 b14 b15 b16 b17 b18 b19 b20 b21 = refl
in_order false false false true b5 b6 b7 b8 b9 b10 b11 b12 b13 b14 b15 b16 b17 b18 b19 b20 b21 = refl
in_order false false false false true b6 b7 b8 b9 b10 b11 b12 b13 b14 b15 b16 b17 b18 b19 b20 b21 = refl
in_order false false false false false true b7 b8 b9 b10 b11 b12 b13 b14 b15 b16 b17 b18 b19 b20 b21 = refl
in_order false false false false false false true b8 b9 b10 b11 b12 b13 b14 b15 b16 b17 b18 b19 b20 b21 = refl
in_order false false false false false false false true b9 b10 b11 b12 b13 b14 b15 b16 b17 b18 b19 b20 b21 = refl
in_order false false false false false false false false true b10 b11 b12 b13 b14 b15 b16 b17 b18 b19 b20 b21 = refl
in_order false false false false false false false false false true b11 b12 b13 b14 b15 b16 b17 b18 b19 b20 b21 = refl
in_order false false false false false false false false false false true b12 b13 b14 b15 b16 b17 b18 b19 b20 b21 = refl
in_order false false false false false false false false false false false true b13 b14 b15 b16 b17 b18 b19 b20 b21 = refl
in_order false false false false false false false false false false false false true b14 b15 b16 b17 b18 b19 b20 b21 = refl
in_order false false false false false false false false false false false false false true b15 b16 b17 b18 b19 b20 b21 = refl
in_order false false false false false false false false false false false false false false true b16 b17 b18 b19 b20 b21 = refl
in_order false false false false false false false false false false false false false false false true b17 b18 b19 b20 b21 = refl
in_order false false false false false false false false false false false false false false false false true b18 b19 b20 b21 = refl
in_order false false false false false false false false false false false false false false false false false true b19 b20 b21 = refl
in_order false false false false false false false false false false false false false false false false false false true b20 b21 = refl
in_order false false false false false false false false false false false false false false false false false false false true b21 = refl
in_order false false false false false false false false false false false false false false false false false false false false true = refl
in_order false false false false false false false false false false false false false false false false false false false false false = refl

-- with one enumeration alone no set of words counts
no_set : (enum : Bool) → tests (λ set. false) enum ≡ (if enum then Some (Some types.Int) else None)
no_set true = refl
no_set false = refl

and_true : (b : Bool) → (b && true) ≡ b
and_true true = refl
and_true false = refl

and_false : (b : Bool) → (b && false) ≡ false
and_false true = refl
and_false false = refl

and_swapped : (a b : Bool) → (a && b) ≡ (b && a)
and_swapped true b = sym (and_true b)
and_swapped false b = sym (and_false b)

-- with this many enumerations
by_number : (h : List SpecifierWord → Bool) (none one : Bool) → (none ≡ true → one ≡ false)
    → tests (λ set. h set && none) (h [] && one) ≡ (if none then first_set h else (if one && h [] then Some (Some types.Int) else None))
by_number h true one other = ap₂ tests (fun_ext (λ set. and_true (h set))) (ap (λ b. h [] && b) (other refl) ∙ and_false (h [])) ∙ in_order (h (Void ∷ []))
    (h (Char ∷ [])) (h (Signed ∷ Char ∷ [])) (h (Unsigned ∷ Char ∷ [])) (h (Short ∷ [])) (h (Short ∷ Int ∷ [])) (h (Signed ∷ Short ∷ []))
    (h (Signed ∷ Short ∷ Int ∷ [])) (h (Unsigned ∷ Short ∷ [])) (h (Unsigned ∷ Short ∷ Int ∷ [])) (h (Int ∷ [])) (h (Signed ∷ Int ∷ [])) (h (Signed ∷ []))
    (h (Unsigned ∷ [])) (h (Unsigned ∷ Int ∷ [])) (h (Long ∷ [])) (h (Long ∷ Int ∷ [])) (h (Signed ∷ Long ∷ [])) (h (Signed ∷ Long ∷ Int ∷ []))
    (h (Unsigned ∷ Long ∷ [])) (h (Unsigned ∷ Long ∷ Int ∷ []))
by_number h false one other = ap₂ tests (fun_ext (λ set. and_false (h set))) (and_swapped (h []) one) ∙ no_set (one && h [])

not_both : (n : ℕ) → (n == 0) ≡ true → (n == 1) ≡ false
not_both n e = ne_eqb n 1 (λ one. let none : n ≡ 0 = eqb-true n 0 e in omega (arith, none, one))

-- the code finds the type that the parts name
pub types_agree : (ps : List Part) → type_of_counts (word_counts ps) ≡ type_named ps
types_agree ps =
    ap₂ tests (fun_ext (same_counts ps 0)) (same_counts ps 1 [])
    ∙ by_number (has_words ps) (how_many is_enum ps == 0) (how_many is_enum ps == 1) (not_both (how_many is_enum ps))
