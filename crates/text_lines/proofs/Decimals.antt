-- Decimal numbers, and what reads them.
use Rattle.std.proofs.Common.{◌≡◌, ◌≢◌, ℕ, zero, suc, ◌-◌, ◌^◌, ◌<◌, ◌≤◌, false, List, [], ◌∷◌, length, get_or, Option, Some, IfSome}
use Rattle.std.proofs.Common.{Result, Ok, Err, refl, sym, ◌∙◌, ap, subst, arith, inl, inr}
use Rattle.std.specs.Prelude.{◌==◌}
use Rattle.std.specs.Result.{result_ok}
use Rattle.std.specs.Fmt.{decimal, signed_decimal}
use Rattle.std.specs.Str.{IsUtf8}
use Rattle.std.specs.Str.Parse.{AllDigits, digits_value, ParsesUnsigned}
use Rattle.std.proofs.lemmas.Bool.{ne_eqb, eqb-false, cases_lt, lt-ltb, le-ltb}
use Rattle.std.proofs.lemmas.Str.{IsUtf8-from_ascii}
use Rattle.std.proofs.lemmas.Str.Parse.{IsNumeralModel, numerals_by_value, tells_digits, digit_at, parse_plain}
use Rattle.std.proofs.lemmas.Fmt.{decimal_digit, first_decimal, digits_decimal, decimal-digits_value, decimal_injective, decimal_nonempty}
use Rattle.std.proofs.lemmas.Fmt.{IsAscii-decimal, parse-decimal}
use Rattle.list_laws.proofs.Tests.{or_first, or_second}
use Rattle.hlo_num.specs.Words.{signed}
use Rattle.hlo_num.specs.declared.word.Word.{Word}
use Rattle.text_lines.specs.Numerals.{is_padded}

own : IsNumeralModel (AllDigits 10) (digits_value 10)
own = numerals_by_value (AllDigits 10) tells_digits

plain_digits : (ds : List ℕ) → 48 ≤ get_or ds 0 48 → (1 < length ds → 48 < get_or ds 0 0) → is_padded ds ≡ false
plain_digits [] low first = refl
plain_digits (b ∷ []) low first = ne_eqb b 43 (λ e. omega (arith, e))
plain_digits (b ∷ c ∷ bs) low first = let h : 48 < b = first (omega arith) in rw (ne_eqb b 43 (λ e. omega (arith, e)), ne_eqb b 48 (λ e. omega (arith, e))) refl

low_digit : (ds : List ℕ) → AllDigits 10 ds → 48 ≤ get_or ds 0 48
low_digit [] all = omega arith
low_digit (d ∷ ds) all = (digit_at (d ∷ ds) 0 all (omega arith)).0

one_digit : (n : ℕ) → n < 10 → length (decimal n) ≡ 1
one_digit n lt = ap length (decimal_digit n lt)

first_of_more : (n : ℕ) → n < 2 ^ 64 → 1 < length (decimal n) → 48 < get_or (decimal n) 0 0
first_of_more zero lt more = absurd (omega (arith, one_digit 0 (omega arith)))
first_of_more (suc m) lt more = first_decimal (suc m) (omega arith) lt

pub decimal_plain : (n : ℕ) → n < 2 ^ 64 → is_padded (decimal n) ≡ false
decimal_plain n lt = plain_digits (decimal n) (low_digit (decimal n) (digits_decimal own n lt)) (first_of_more n lt)

pub decimal_utf8 : (n : ℕ) → n < 2 ^ 64 → IsUtf8 (decimal n)
decimal_utf8 n lt = IsUtf8-from_ascii (decimal n) (IsAscii-decimal n lt)

no_plus : (bs : List ℕ) → is_padded bs ≡ false → get_or bs 0 0 ≢ 43
no_plus [] h e = absurd (omega (arith, e))
no_plus (b ∷ []) h e = eqb-false b 43 h e
no_plus (b ∷ c ∷ bs) h e = eqb-false b 43 (or_first (b == 43) (b == 48) h) e

no_zero : (bs : List ℕ) → is_padded bs ≡ false → 0 < length bs → get_or bs 0 0 ≡ 48 → length bs ≡ 1
no_zero [] h some e = absurd (omega arith)
no_zero (b ∷ []) h some e = refl
no_zero (b ∷ c ∷ bs) h some e = absurd (eqb-false b 48 (or_second (b == 43) (b == 48) h) e)

-- digits that are read spell what is read, where nothing pads them
pub read_is_spelled : {E : Type 0} (bs : List ℕ) (r : Result ℕ E) (o : Option ℕ) → o ≡ result_ok r → ParsesUnsigned 32 10 bs r
    → IfSome o (λ n. is_padded bs ≡ false → bs ≡ decimal n)
read_is_spelled {E} bs (Err e) o is h = subst (λ q. IfSome q (λ n. is_padded bs ≡ false → bs ≡ decimal n)) (sym is) tt
read_is_spelled {E} bs (Ok x) o is h = subst (λ q. IfSome q (λ n. is_padded bs ≡ false → bs ≡ decimal n)) (sym is) (λ plain.
    let p = parse_plain own {E = E} 32 bs (Ok x) h (no_plus bs plain) in
    sym (ap decimal p.1 ∙ decimal-digits_value own bs p.0.0 p.0.1 (no_zero bs plain p.0.1) (omega (arith, p.0.2))))

pub spelled_is_read : {E : Type 0} (bs : List ℕ) (r : Result ℕ E) (o : Option ℕ) → o ≡ result_ok r → ParsesUnsigned 32 10 bs r → (n : ℕ) → n < 2 ^ 32
    → bs ≡ decimal n → o ≡ Some n
spelled_is_read bs r o is h n lt e = is ∙ ap result_ok (parse-decimal 32 n bs r lt (omega arith) e h)

-- the first byte of a number is a digit
first_digit : (n c : ℕ) (bs : List ℕ) → n < 2 ^ 64 → decimal n ≡ c ∷ bs → 48 ≤ c
first_digit n c bs lt e = low_digit (c ∷ bs) (subst (AllDigits 10) e (digits_decimal own n lt))

-- words from 2^31 on have a sign
pub without_sign : (w : ℕ) → w < 2 ^ 31 → signed_decimal (signed w) ≡ decimal w
without_sign w lt = rw (lt-ltb w 2147483648 (omega arith)) refl

pub with_sign : (w n : ℕ) → 2 ^ 31 ≤ w → w < 2 ^ 32 → n ≡ 2 ^ 32 - w → signed_decimal (signed w) ≡ 45 ∷ decimal n
with_sign w n le lt e = rw (le-ltb w 2147483648 (omega arith)) (ap (λ m. 45 ∷ decimal m) (omega arith))

-- a word with a sign is the one that the number is short of 2^32
pub signed_negative : (w n : ℕ) → w < 2 ^ 32 → n < 2 ^ 32 → signed_decimal (signed w) ≡ 45 ∷ decimal n → (2 ^ 31 ≤ w) × (n ≡ 2 ^ 32 - w)
signed_negative w n lt fits e = elim (cases_lt w (2 ^ 31)) [
  | inl small ↦ let d : decimal w ≡ 45 ∷ decimal n = sym (without_sign w small) ∙ e in let low : 48 ≤ 45 = first_digit w 45 (decimal n) (omega arith) d
      in absurd (omega (arith, low))
  | inr large ↦ let d : 45 ∷ decimal (2 ^ 32 - w) ≡ 45 ∷ decimal n = sym (with_sign w (2 ^ 32 - w) large lt refl) ∙ e in let tails : decimal (2 ^ 32 - w) ≡
      decimal n = cc d in (large, sym (decimal_injective (2 ^ 32 - w) n (omega arith) (omega arith) tails))
]

-- a word without a sign is the number
pub signed_nonnegative : (w n : ℕ) → w < 2 ^ 32 → n < 2 ^ 32 → signed_decimal (signed w) ≡ decimal n → (w < 2 ^ 31) × (w ≡ n)
signed_nonnegative w n lt fits e = elim (cases_lt w (2 ^ 31)) [
  | inl small ↦ (small, decimal_injective w n (omega arith) (omega arith) (sym (without_sign w small) ∙ e))
  | inr large ↦ let d : decimal n ≡ 45 ∷ decimal (2 ^ 32 - w) = sym e ∙ with_sign w (2 ^ 32 - w) large lt refl in let low : 48 ≤ 45 = first_digit n 45
      (decimal (2 ^ 32 - w)) (omega arith) d in absurd (omega (arith, low))
]

pub word_is : (n : ℕ) (w : Word) → n ≡ w.0 → Some (record { 0 = n }) ≡ Some w
word_is n w e = ap (λ (m : ℕ). let v : Word = record { 0 = m } in Some v) e

begins : (ds : List ℕ) → AllDigits 10 ds → 0 < length ds → (c : ℕ) × (cs : List ℕ) × ((48 ≤ c) × (c ≤ 57)) × (ds ≡ c ∷ cs)
begins [] all some = absurd (omega arith)
begins (d ∷ ds) all some = let r = digit_at (d ∷ ds) 0 all (omega arith) in (d, ds, (r.0, r.1), refl)

-- a number begins with a digit
pub decimal_begins : (n : ℕ) → n < 2 ^ 64 → (c : ℕ) × (cs : List ℕ) × ((48 ≤ c) × (c ≤ 57)) × (decimal n ≡ c ∷ cs)
decimal_begins n lt = begins (decimal n) (digits_decimal own n lt) (decimal_nonempty n lt)

pub all_digits : (n : ℕ) → n < 2 ^ 64 → AllDigits 10 (decimal n)
all_digits n lt = digits_decimal own n lt
