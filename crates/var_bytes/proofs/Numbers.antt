-- Spellings of numbers, their lengths, and that each number has one.
use Rattle.std.proofs.Common.{◌≡◌, ℕ, zero, suc, ◌+◌, ◌-◌, ◌*◌, ◌/◌, ◌%◌, ◌^◌, ◌<◌, ◌≤◌, List, [], ◌∷◌, ◌++◌, length, take, drop, min, refl, sym, ap}
use Rattle.std.proofs.Common.{◌∙◌, subst, arith, take-append-drop, take-take, Result, Ok, Err, is_ok, if◌then◌else◌}
use Rattle.std.proofs.Math.Nat.{pow-suc}
use Rattle.std.proofs.lemmas.List.{length-take-le}
use Rattle.std.specs.Prelude.{OnOk}
use Rattle.var_bytes.specs.Spelling.{IsSpelling, Appends}

-- one more byte in front
pub more_bytes : (n x c : ℕ) (bs : List ℕ) → x ≡ n % 128 + 128 → 128 ≤ n → IsSpelling (n / 128) (c ∷ bs) → IsSpelling n (x ∷ c ∷ bs)
more_bytes n x c bs e le h = (omega arith, omega arith, n / 128, omega arith, omega arith, h)

pub last_byte : (n : ℕ) → n < 128 → IsSpelling n (n ∷ [])
last_byte n lt = (lt, refl)

pub three_spelled : (n x y : ℕ) → x ≡ n % 128 + 128 → y ≡ n / 128 % 128 + 128 → 128 ≤ n → 128 ≤ n / 128 → n / 128 / 128 < 128
    → IsSpelling n (x ∷ y ∷ (n / 128 / 128) ∷ [])
three_spelled n x y e f le le2 lt = more_bytes n x y ((n / 128 / 128) ∷ []) e le
    (more_bytes (n / 128) y (n / 128 / 128) [] f le2 (last_byte (n / 128 / 128) lt))

pub four_spelled : (n x y z : ℕ) → x ≡ n % 128 + 128 → y ≡ n / 128 % 128 + 128 → z ≡ n / 128 / 128 % 128 + 128 → 128 ≤ n → 128 ≤ n / 128 → 128 ≤ n / 128 / 128
    → n / 128 / 128 / 128 < 128 → IsSpelling n (x ∷ y ∷ z ∷ (n / 128 / 128 / 128) ∷ [])
four_spelled n x y z e f g le le2 le3 lt = more_bytes n x y (z ∷ (n / 128 / 128 / 128) ∷ []) e le (three_spelled (n / 128) y z f g le2 le3 lt)

pub five_spelled : (n w x y z : ℕ) → w ≡ n % 128 + 128 → x ≡ n / 128 % 128 + 128 → y ≡ n / 128 / 128 % 128 + 128 → z ≡ n / 128 / 128 / 128 % 128 + 128 → 128 ≤ n
    → 128 ≤ n / 128 → 128 ≤ n / 128 / 128 → 128 ≤ n / 128 / 128 / 128 → n / 128 / 128 / 128 / 128 < 128
    → IsSpelling n (w ∷ x ∷ y ∷ z ∷ (n / 128 / 128 / 128 / 128) ∷ [])
five_spelled n w x y z d e f g le le2 le3 le4 lt = more_bytes n w x (y ∷ z ∷ (n / 128 / 128 / 128 / 128) ∷ []) d le
    (four_spelled (n / 128) x y z e f g le2 le3 le4 lt)

-- a call that put the spelling at the end, or nothing
pub put_at_end : {T E : Type 0} (r : Result T E) (old new bytes : List ℕ) (n : ℕ) → new ≡ (if is_ok r then old ++ bytes else old) → IsSpelling n bytes
    → OnOk r (Appends old new n)
put_at_end (Ok x) old new bytes n e h = record { bytes = bytes; spelled = h; appended = e }
put_at_end (Err f) old new bytes n e h = tt

pub one_byte : (n : ℕ) (bytes : List ℕ) → n < 128 → IsSpelling n bytes → length bytes ≡ 1
one_byte n [] lt h = absurd h
one_byte n (b ∷ []) lt h = refl
one_byte n (b ∷ c ∷ bs) lt (low, high, rest, some, e, h) = absurd (omega arith)

pub two_bytes : (n : ℕ) (bytes : List ℕ) → 128 ≤ n → n < 16384 → IsSpelling n bytes → length bytes ≡ 2
two_bytes n [] le lt h = absurd h
two_bytes n (b ∷ []) le lt h = absurd (let a = h.0 in let e = h.1 in omega arith)
two_bytes n (b ∷ c ∷ bs) le lt (low, high, rest, some, e, h) = ap suc (one_byte rest (c ∷ bs) (omega arith) h)

pub three_bytes : (n : ℕ) (bytes : List ℕ) → 16384 ≤ n → n < 2097152 → IsSpelling n bytes → length bytes ≡ 3
three_bytes n [] le lt h = absurd h
three_bytes n (b ∷ []) le lt h = absurd (let a = h.0 in let e = h.1 in omega arith)
three_bytes n (b ∷ c ∷ bs) le lt (low, high, rest, some, e, h) = ap suc (two_bytes rest (c ∷ bs) (omega arith) (omega arith) h)

pub four_bytes : (n : ℕ) (bytes : List ℕ) → 2097152 ≤ n → n < 268435456 → IsSpelling n bytes → length bytes ≡ 4
four_bytes n [] le lt h = absurd h
four_bytes n (b ∷ []) le lt h = absurd (let a = h.0 in let e = h.1 in omega arith)
four_bytes n (b ∷ c ∷ bs) le lt (low, high, rest, some, e, h) = ap suc (three_bytes rest (c ∷ bs) (omega arith) (omega arith) h)

pub five_bytes : (n : ℕ) (bytes : List ℕ) → 268435456 ≤ n → n < 2 ^ 32 → IsSpelling n bytes → length bytes ≡ 5
five_bytes n [] le lt h = absurd h
five_bytes n (b ∷ []) le lt h = absurd (let a = h.0 in let e = h.1 in omega arith)
five_bytes n (b ∷ c ∷ bs) le lt (low, high, rest, some, e, h) = ap suc (four_bytes rest (c ∷ bs) (omega arith) (omega arith) h)

-- no spelling begins another, and each number has one
one_form : (m n : ℕ) (us vs xs ys : List ℕ) → us ++ xs ≡ vs ++ ys → IsSpelling m us → IsSpelling n vs → m ≡ n
one_form m n [] vs xs ys e h g = absurd h
one_form m n (b ∷ us) [] xs ys e h g = absurd g
one_form m n (b ∷ []) (d ∷ []) xs ys e h g = let heads : b ≡ d = cc e in h.1 ∙ heads ∙ sym g.1
one_form m n (b ∷ []) (d ∷ f ∷ vs) xs ys e h (low, high, rest, some, eq, g) =
    let heads : b ≡ d = cc e in
    let less : b < 128 = h.0 in absurd (omega arith)
one_form m n (b ∷ c ∷ us) (d ∷ []) xs ys e (low, high, rest, some, eq, h) g =
    let heads : b ≡ d = cc e in
    let less : d < 128 = g.0 in absurd (omega arith)
one_form m n (b ∷ c ∷ us) (d ∷ f ∷ vs) xs ys e (low, high, rest, some, eq, h) (low1, high1, rest1, some1, eq1, g) =
    let heads : b ≡ d = cc e in
    let tails : (c ∷ us) ++ xs ≡ (f ∷ vs) ++ ys = cc e in
    let same : rest ≡ rest1 = one_form rest rest1 (c ∷ us) (f ∷ vs) xs ys tails h g in
    omega arith

pub one_number : (m n j k : ℕ) (bytes : List ℕ) → IsSpelling m (take j bytes) → IsSpelling n (take k bytes) → m ≡ n
one_number m n j k bytes h g = one_form m n (take j bytes) (take k bytes) (drop j bytes) (drop k bytes)
    (take-append-drop j bytes ∙ sym (take-append-drop k bytes)) h g

-- the number of one more byte in front
pub one_more : (n b k : ℕ) (bs : List ℕ) → 128 ≤ b → b < 256 → 0 < n → IsSpelling n (take k bs) → IsSpelling (128 * n + (b - 128)) (b ∷ take k bs)
one_more n b zero bs le lt some h = absurd h
one_more n b (suc k) [] le lt some h = absurd h
one_more n b (suc k) (c ∷ bs) le lt some h = (le, lt, n, some, omega arith, h)

-- a spelling whose first byte is above 127 goes on behind it
pub goes_on : (n b k : ℕ) (bs : List ℕ) → 128 ≤ b → IsSpelling n (take k (b ∷ bs))
    → (rest : ℕ) × (j : ℕ) × (0 < rest) × (n + 128 ≡ b + 128 * rest) × IsSpelling rest (take j bs)
goes_on n b zero bs le h = absurd h
goes_on n b (suc zero) bs le h = absurd (let a = h.0 in omega arith)
goes_on n b (suc (suc k)) [] le h = absurd (let a = h.0 in omega arith)
goes_on n b (suc (suc k)) (c ∷ bs) le (low, high, rest, some, e, h) = (rest, suc k, some, e, h)

-- a spelling has at most one byte more than the one of a number 128 times less
at_most : (k n : ℕ) (bytes : List ℕ) → n < 128 ^ suc k → IsSpelling n bytes → length bytes ≤ suc k
at_most k n [] lt h = omega arith
at_most k n (b ∷ []) lt h = omega arith
at_most zero n (b ∷ c ∷ bs) lt (low, high, rest, some, e, h) = let small : 128 ^ 1 ≡ 128 = refl in absurd (omega arith)
at_most (suc k) n (b ∷ c ∷ bs) lt (low, high, rest, some, e, h) =
    let more : 128 ^ suc (suc k) ≡ 128 ^ suc k * 128 = pow-suc 128 (suc k) in
    let less : rest < 128 ^ suc k = omega arith in
    let shorter = at_most k rest (c ∷ bs) less h in omega arith

pub short : (n : ℕ) (bytes : List ℕ) → n < 2 ^ 32 → IsSpelling n bytes → length bytes ≤ 5
short n bytes lt h = let wide : 128 ^ 5 ≡ 2 ^ 35 = refl in at_most 4 n bytes (omega arith) h

-- so it lies in the first five
pub in_five : (n k : ℕ) (bytes : List ℕ) → n < 2 ^ 32 → k ≤ length bytes → IsSpelling n (take k bytes)
    → IsSpelling n (take k (take (min (length bytes) 5) bytes))
in_five n k bytes lt le h =
    let few : k ≤ 5 = omega (arith, short n (take k bytes) lt h, length-take-le k bytes le) in
    let same : take k (take (min (length bytes) 5) bytes) ≡ take k bytes = take-take k (min (length bytes) 5) bytes (omega arith) in
    subst (IsSpelling n) (sym same) h
