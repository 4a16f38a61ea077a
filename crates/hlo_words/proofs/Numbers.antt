-- Decimal numbers, read and spelled.
use Rattle.std.proofs.Common.{◌≡◌, ◌≢◌, ℕ, zero, suc, ◌^◌, ◌<◌, ◌≤◌, Bool, true, false, List, [], ◌∷◌, length, get_or, Option, Some, IfSome, Result, Ok}
use Rattle.std.proofs.Common.{Err, refl, sym, ◌∙◌, ap, subst, arith}
use Rattle.std.specs.Prelude.{◌==◌, ◌||◌}
use Rattle.std.specs.Result.{result_ok}
use Rattle.std.specs.Fmt.{decimal}
use Rattle.std.specs.Str.Parse.{AllDigits, digits_value, ParsesUnsigned}
use Rattle.std.proofs.lemmas.Bool.{ne_eqb, eqb-false}
use Rattle.std.proofs.lemmas.Str.Parse.{IsNumeralModel, numerals_by_value, tells_digits, digit_at, parse_plain}
use Rattle.std.proofs.lemmas.Fmt.{decimal_digit, first_decimal, digits_decimal, decimal-digits_value, parse-decimal}
use Rattle.hlo_words.specs.Settings.{is_padded_text}

first_false : (p q : Bool) → (p || q) ≡ false → p ≡ false
first_false true q h = h
first_false false q h = refl

second_false : (p q : Bool) → (p || q) ≡ false → q ≡ false
second_false true q h = absurd (cc)
second_false false q h = h

own : IsNumeralModel (AllDigits 10) (digits_value 10)
own = numerals_by_value (AllDigits 10) tells_digits

-- digits with no leading zero aren't padded
unpadded : (ds : List ℕ) → 48 ≤ get_or ds 0 48 → (1 < length ds → 48 < get_or ds 0 0) → is_padded_text ds ≡ false
unpadded [] low first = refl
unpadded (b ∷ []) low first = ne_eqb b 43 (λ e. omega (arith, e))
unpadded (b ∷ c ∷ bs) low first = let h : 48 < b = first (omega arith) in rw (ne_eqb b 43 (λ e. omega (arith, e)), ne_eqb b 48 (λ e. omega (arith, e))) refl

low_digit : (ds : List ℕ) → AllDigits 10 ds → 48 ≤ get_or ds 0 48
low_digit [] all = omega arith
low_digit (d ∷ ds) all = (digit_at (d ∷ ds) 0 all (omega arith)).0

small_is_one : (n : ℕ) → n < 10 → length (decimal n) ≡ 1
small_is_one n lt = ap length (decimal_digit n lt)

first_of_more : (n : ℕ) → n < 2 ^ 64 → 1 < length (decimal n) → 48 < get_or (decimal n) 0 0
first_of_more zero lt more = absurd (omega (arith, small_is_one 0 (omega arith)))
first_of_more (suc m) lt more = first_decimal (suc m) (omega arith) lt

pub decimal_unpadded : (n : ℕ) → n < 2 ^ 64 → is_padded_text (decimal n) ≡ false
decimal_unpadded n lt = unpadded (decimal n) (low_digit (decimal n) (digits_decimal own n lt)) (first_of_more n lt)

no_plus : (bs : List ℕ) → is_padded_text bs ≡ false → get_or bs 0 0 ≢ 43
no_plus [] h e = absurd (omega (arith, e))
no_plus (b ∷ []) h e = eqb-false b 43 h e
no_plus (b ∷ c ∷ bs) h e = eqb-false b 43 (first_false (b == 43) (b == 48) h) e

no_zero : (bs : List ℕ) → is_padded_text bs ≡ false → 0 < length bs → get_or bs 0 0 ≡ 48 → length bs ≡ 1
no_zero [] h some e = absurd (omega arith)
no_zero (b ∷ []) h some e = refl
no_zero (b ∷ c ∷ bs) h some e = absurd (eqb-false b 48 (second_false (b == 43) (b == 48) h) e)

-- a number that was read is spelled so, where nothing pads it
pub read_is_spelled : {E : Type 0} (bs : List ℕ) (r : Result ℕ E) (o : Option ℕ) → o ≡ result_ok r → ParsesUnsigned 64 10 bs r
    → IfSome o (λ n. is_padded_text bs ≡ false → bs ≡ decimal n)
read_is_spelled {E} bs (Err e) o is h = subst (λ q. IfSome q (λ n. is_padded_text bs ≡ false → bs ≡ decimal n)) (sym is) tt
read_is_spelled {E} bs (Ok x) o is h = subst (λ q. IfSome q (λ n. is_padded_text bs ≡ false → bs ≡ decimal n)) (sym is) (λ plain.
    let p = parse_plain own {E = E} 64 bs (Ok x) h (no_plus bs plain) in
    sym (ap decimal p.1 ∙ decimal-digits_value own bs p.0.0 p.0.1 (no_zero bs plain p.0.1) (omega (arith, p.0.2))))

-- a number that is spelled so is read
pub spelled_is_read : {E : Type 0} (bs : List ℕ) (r : Result ℕ E) (o : Option ℕ) → o ≡ result_ok r → ParsesUnsigned 64 10 bs r → (n : ℕ) → n < 2 ^ 64
    → bs ≡ decimal n → o ≡ Some n
spelled_is_read bs r o is h n lt e = is ∙ ap result_ok (parse-decimal 64 n bs r lt (omega arith) e h)

pub same_number : (o : Option ℕ) (m n : ℕ) → o ≡ Some m → o ≡ Some n → m ≡ n
same_number o m n a b = let both : Some m ≡ Some n = sym a ∙ b in cc
