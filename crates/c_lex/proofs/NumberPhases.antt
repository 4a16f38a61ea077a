-- Numbers.
use Rattle.std.proofs.Common.{ℕ, ◌≡◌, ◌+◌, ◌*◌, ◌^◌, ◌<◌, refl, sym, ◌∙◌, ap, subst, Bool, true, false, nat_lt, List, [], ◌∷◌, ◌++◌, Option, Some, None}
use Rattle.std.proofs.Common.{Ok, ltb-true}
use Rattle.std.proofs.lemmas.Bool.{ltb-false, lt-ltb}
use Rattle.c_lex.specs.declared.phase.Class.{Class}
use Rattle.c_lex.specs.declared.phase.Class.TheVariants as class
use Rattle.c_lex.specs.declared.phase.Base.{Base}
use Rattle.c_lex.specs.declared.phase.Base.TheVariants.{Octal, Decimal, Hex}
use Rattle.c_lex.specs.declared.phase.Tail.{Tail}
use Rattle.c_lex.specs.declared.phase.Tail.TheVariants as tail
use Rattle.c_lex.specs.declared.phase.Context.{Context}
use Rattle.c_lex.specs.declared.phase.Context.TheVariants.{Fresh, Used, Hash, Include, Closed}
use Rattle.c_lex.specs.declared.phase.Piece.TheVariants as piece
use Rattle.c_lex.specs.declared.phase.Phase.{Phase}
use Rattle.c_lex.specs.declared.phase.Phase.TheVariants as phase
use Rattle.c_lex.specs.declared.fault.LexKind.TheVariants.{BadNumber}
use Rattle.c_lex.specs.Bytes.{class_of, is_digit, radix, digit_of, is_x}
use Rattle.c_lex.specs.Pieces.{IsDigits, zero_digit, first_decimal, first_hex, next_digit, IsInteger, plain, with_u, with_l, integer_type, is_code}
use Rattle.c_lex.specs.Pieces.{IsPiece, number}
use Rattle.c_lex.specs.Text.{Cause, too_big, bad_number}
use Rattle.c_lex.specs.Machine.{tail_of, enter_code, enter_fresh, enter, suffix, digit_byte, zero_byte, hex_mark_byte, step, goes, decimal}
use Rattle.list_laws.proofs.Tests.{choose, if_true, if_false}
use Rattle.c_lex.proofs.Fine.{Numeric, Fine, Steps, StepGood}
use Rattle.c_lex.proofs.ByteLemmas.{TailIs, tail_is, x_no_octal}
use Rattle.c_lex.specs.Machine.{Gets, first_byte, next_byte}
use Rattle.c_lex.proofs.Gets.{one_phase}

-- on a line that is no directive a byte other than `#` begins what it begins
pub enters : (w : Context) (c : ℕ) (k : Class) → is_code w ≡ true → class_of c ≡ k → (k ≡ class.Hash → ⊥) → enter w c ≡ enter_code k c
enters Fresh c k h e n = ap (λ z. enter_fresh z c) e ∙ go k n
  where
    go : (k : Class) → (k ≡ class.Hash → ⊥) → enter_fresh k c ≡ enter_code k c
    go class.Hash n = absurd (n refl)
    go class.Blank n = refl
    go class.Feed n = refl
    go class.Letter n = refl
    go class.Zero n = refl
    go class.Digit n = refl
    go class.Quote n = refl
    go class.Apostrophe n = refl
    go class.Slash n = refl
    go class.Other n = refl
enters Used c k h e n = ap (λ z. enter_code z c) e
enters (Hash p) c k h e n = cc
enters (Include p) c k h e n = cc
enters Closed c k h e n = cc

-- the phase behind the digits of a number
pub data DigitsAt : Base → ℕ → Phase → Type 0 where
  at_zero : DigitsAt Octal 0 phase.Zero
  at_digits : {b : Base} {v : ℕ} → DigitsAt b v (phase.Digits b v)

longer_digits : (b : Base) (v c d : ℕ) → digit_of b c ≡ Some d → v * radix b + d < 2 ^ 32
    → digit_byte b v (digit_of b c) (tail_of c) ≡ goes (phase.Digits b (v * radix b + d))
longer_digits b v c d q l = ap (λ z. digit_byte b v z (tail_of c)) q ∙ if_true _ _ (lt-ltb _ _ l)

digits_on : (w : Context) {b : Base} {v : ℕ} (us : List ℕ) (c d : ℕ) {ph : Phase} → DigitsAt b v ph → digit_of b c ≡ Some d → v * radix b + d < 2 ^ 32
    → step w ph us c ≡ goes (phase.Digits b (v * radix b + d))
digits_on w us c d at_zero q l = if_false _ _ (no_x (is_x c) refl) ∙ longer_digits Octal 0 c d q l
  where
    no_x : (y : Bool) → is_x c ≡ y → y ≡ false
    no_x true f = let k : Some d ≡ None = sym q ∙ x_no_octal c f in absurd cc
    no_x false f = refl
digits_on w {b} {v} us c d at_digits q l = longer_digits b v c d q l

pub digits_get : (w : Context) → is_code w ≡ true → {b : Base} {v : ℕ} {us : List ℕ} → IsDigits b v us → (ph : Phase) × Gets w us ph × DigitsAt b v ph
digits_get w h (zero_digit {c} e) = (phase.Zero, first_byte c (enters w c class.Zero h e (λ z. cc)), at_zero)
digits_get w h (first_decimal {c} {d} e q) = (phase.Digits Decimal d, first_byte c (enters w c class.Digit h e (λ z. cc) ∙ ap decimal q), at_digits)
digits_get w h (first_hex {z} {x} {c} {d} e f q) = (
  phase.Digits Hex d,
  next_byte {us = z ∷ x ∷ []} {ph = phase.HexMark} c
      (next_byte {us = z ∷ []} {ph = phase.Zero} x (first_byte z (enters w z class.Zero h e (λ y. cc))) (if_true _ _ f)) (ap hex_mark_byte q),
  at_digits,
)
digits_get w h (next_digit {b} {v} {us} c d i q l) = let r = digits_get w h i
    in (phase.Digits b (v * radix b + d), next_byte c r.1 (digits_on w us c d r.2 q l), at_digits)

-- no byte goes on with the bytes as the digits of a number
abbrev pub NoDigit : List ℕ → ℕ → Type 0
NoDigit us c = (b : Base) (v d : ℕ) → IsDigits b v us → digit_of b c ≡ Some d → ⊥

no_number : (w : Context) (us : List ℕ) (c : ℕ) → is_code w ≡ true → Numeric us → NoDigit us c → Cause w us (Some c) BadNumber
no_number w us c h (a, cs, e, n) f = subst (λ z. Cause w z (Some c) BadNumber) (sym e)
    (bad_number h n (λ b v c2 d i o q. let s : c ≡ c2 = cc in f b v d (subst (IsDigits b v) (sym e) i) (ap (digit_of b) s ∙ q)))

numeric_more : (us : List ℕ) (c : ℕ) → Numeric us → Numeric (us ++ c ∷ [])
numeric_more us c (a, cs, e, n) = (a, cs ++ c ∷ [], ap (λ z. z ++ c ∷ []) e, n)

suffix_good : (w : Context) (b : Base) (v : ℕ) (u l : Bool) (us : List ℕ) (c : ℕ) → is_code w ≡ true → IsInteger b v u l us → Numeric us → NoDigit us c
    → (t : Tail) → TailIs (class_of c) c t → Steps w (Ok (piece.Number v (integer_type b u l v))) us c (suffix b v u l t)
suffix_good w b v false l us c h i n f tail.Unsigned e = (h, with_u c i e, numeric_more us c n)
suffix_good w b v true l us c h i n f tail.Unsigned e = no_number w us c h n f
suffix_good w b v u false us c h i n f tail.Long e = (h, with_l c i e, numeric_more us c n)
suffix_good w b v u true us c h i n f tail.Long e = no_number w us c h n f
suffix_good w b v u l us c h i n f tail.Inside e = no_number w us c h n f
suffix_good w b v u l us c h i n f tail.Outside e = e

digits_good : (w : Context) (b : Base) (v : ℕ) (us : List ℕ) (c : ℕ) → is_code w ≡ true → IsDigits b v us → Numeric us → (digit_of b c ≡ None → NoDigit us c)
    → (o : Option ℕ) → digit_of b c ≡ o → Steps w (Ok (piece.Number v (integer_type b false false v))) us c (digit_byte b v o (tail_of c))
digits_good w b v us c h i n f (Some d) q =
    choose (Steps w (Ok (piece.Number v (integer_type b false false v))) us c) (nat_lt (v * radix b + d) (2 ^ 32)) _ _
    (λ e. (h, next_digit c d i q (ltb-true _ _ e), numeric_more us c n))
    (λ e. too_big d h i q (ltb-false _ _ e))
digits_good w b v us c h i n f None q = suffix_good w b v false false us c h (plain i) n (f q) (tail_of c) (tail_is (class_of c) c)

digits_base : (w : Context) (ph : Phase) (us : List ℕ) → is_code w ≡ true → Gets w us ph → (b : Base) (v : ℕ) → IsDigits b v us → DigitsAt b v ph
digits_base w ph us h g b v i = let r = digits_get w h i in subst (DigitsAt b v) (one_phase r.1 g) r.2

same_base : {b b2 : Base} {v v2 : ℕ} → DigitsAt b v (phase.Digits b2 v2) → b ≡ b2
same_base at_digits = refl

zero_base : {b : Base} {v : ℕ} → DigitsAt b v phase.Zero → b ≡ Octal
zero_base at_zero = refl

no_suffix : {b b2 : Base} {v v2 : ℕ} {u l : Bool} → DigitsAt b v (phase.Suffix b2 v2 u l) → ⊥
no_suffix d = elim d [ ]

no_mark : {b : Base} {v : ℕ} → DigitsAt b v phase.HexMark → ⊥
no_mark d = elim d [ ]

none_some : {A B : Type 0} (d : A) (o : Option A) → o ≡ None → o ≡ Some d → B
none_some {A} d o e f = let q : None ≡ Some d = sym e ∙ f in absurd cc

pub digits_step : (w : Context) (b : Base) (v : ℕ) (us : List ℕ) (c : ℕ) → Fine w (phase.Digits b v) us → Gets w us (phase.Digits b v)
    → StepGood w (phase.Digits b v) us c (digit_byte b v (digit_of b c) (tail_of c))
digits_step w b v us c (h, i, n) g = digits_good w b v us c h i n
    (λ q b2 v2 d j e. none_some d (digit_of b c) q (ap (λ z. digit_of z c) (sym (same_base (digits_base w (phase.Digits b v) us h g b2 v2 j))) ∙ e))
    (digit_of b c) refl

pub zero_step : (w : Context) (us : List ℕ) (c : ℕ) → Fine w phase.Zero us → Gets w us phase.Zero → StepGood w phase.Zero us c (zero_byte c)
zero_step w us c (h, z, f, e) g =
    choose (StepGood w phase.Zero us c) (is_x c) _ _
    (λ x. (h, z, c, ap (λ y. y ++ c ∷ []) f, e, x))
    (λ _. digits_good w Octal 0 us c h (subst (IsDigits Octal 0) (sym f) (zero_digit e)) (z, [], f, ap is_digit e)
    (λ q b2 v2 d j k. none_some d (digit_of Octal c) q (ap (λ y. digit_of y c) (sym (zero_base (digits_base w phase.Zero us h g b2 v2 j))) ∙ k))
    (digit_of Octal c) refl)

pub mark_step : (w : Context) (us : List ℕ) (c : ℕ) → Fine w phase.HexMark us → Gets w us phase.HexMark → (o : Option ℕ) → digit_of Hex c ≡ o
    → StepGood w phase.HexMark us c (hex_mark_byte o)
mark_step w us c (h, z, x, f, e, k) g (Some d) q = (
  h,
  subst (λ y. IsDigits Hex d (y ++ c ∷ [])) (sym f) (first_hex e k q),
  (z, x ∷ c ∷ [], ap (λ y. y ++ c ∷ []) f, ap is_digit e),
)
mark_step w us c (h, z, x, f, e, k) g None q = no_number w us c h (z, x ∷ [], f, ap is_digit e)
    (λ b v d i s. no_mark (digits_base w phase.HexMark us h g b v i))

pub suffix_step : (w : Context) (b : Base) (v : ℕ) (u l : Bool) (us : List ℕ) (c : ℕ) → Fine w (phase.Suffix b v u l) us → Gets w us (phase.Suffix b v u l)
    → StepGood w (phase.Suffix b v u l) us c (suffix b v u l (tail_of c))
suffix_step w b v u l us c (h, i, n) g = suffix_good w b v u l us c h i n (λ b2 v2 d j s. no_suffix (digits_base w (phase.Suffix b v u l) us h g b2 v2 j))
    (tail_of c) (tail_is (class_of c) c)

pub zero_close : (w : Context) (us : List ℕ) → Fine w phase.Zero us → IsPiece w (piece.Number 0 (integer_type Octal false false 0)) us
zero_close w us (h, z, f, e) = number h (plain (subst (IsDigits Octal 0) (sym f) (zero_digit e)))

pub mark_close : (w : Context) (us : List ℕ) → Fine w phase.HexMark us → Cause w us None BadNumber
mark_close w us (h, z, x, f, e, k) = subst (λ y. Cause w y None BadNumber) (sym f) (bad_number h (ap is_digit e) (λ b v c d i o q. cc))
