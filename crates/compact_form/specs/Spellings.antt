-- Numbers: their spellings, and reading them from the front.
use Rattle.std.proofs.Common.{◌≡◌, ◌≢◌, ℕ, zero, suc, ◌+◌, ◌-◌, ◌*◌, ◌/◌, ◌%◌, ◌^◌, ◌<◌, ◌≤◌, Bool, true, false, List, [], ◌∷◌, ◌++◌, length, take}
use Rattle.std.proofs.Common.{drop, Some, None, refl, sym, ◌∙◌, ap, subst, arith, length-append, take-append-drop}
use Rattle.std.specs.Prelude.{◌==◌, nat_lt, if◌then◌else◌}
use Rattle.std.proofs.Math.Nat.{pow-suc}
use Rattle.std.proofs.lemmas.Bool.{ne_eqb, eqb-false, lt-ltb, ltb-true, ltb-false, le-ltb}
use native.Mathlib.Numerals.{unary_clauses}
use Rattle.var_bytes.specs.Spelling.{IsSpelling, IsSpelledAt}
use Rattle.var_bytes.proofs.Numbers.{more_bytes, last_byte, short}
use Rattle.compact_form.specs.Numbers.{spelled_in, spelled}
use Rattle.compact_form.specs.Reading.{Reply, goes, number_more, number_in, below, read_number}

-- ---- spellings

one_more : (n x : ℕ) (l : List ℕ) → x ≡ n % 128 + 128 → 128 ≤ n → IsSpelling (n / 128) l → IsSpelling n (x ∷ l)
one_more n x [] e le h = absurd h
one_more n x (c ∷ bs) e le h = more_bytes n x c bs e le h

choose : {A : Type 0} (P : A → Type 0) (b : Bool) (x y : A) → (b ≡ true → P x) → (b ≡ false → P y) → P (if b then x else y)
choose P true x y yes_case no_case = yes_case refl
choose P false x y yes_case no_case = no_case refl

pub spelling_in : (k n : ℕ) → n < 128 ^ suc k → IsSpelling n (spelled_in k n)
spelling_in zero n lt = let one : 128 ^ 1 ≡ 128 = refl in last_byte n (omega arith)
spelling_in (suc k) n lt =
    let more : 128 ^ suc (suc k) ≡ 128 ^ suc k * 128 = pow-suc 128 (suc k) in
    choose (IsSpelling n) (nat_lt n 128) (n ∷ []) ((n % 128 + 128) ∷ spelled_in k (n / 128))
    (λ t. last_byte n (ltb-true n 128 t))
    (λ t. let le = ltb-false n 128 t in one_more n (n % 128 + 128) (spelled_in k (n / 128)) refl le (spelling_in k (n / 128) (omega arith)))

pub one_spelling : (n : ℕ) (us vs : List ℕ) → IsSpelling n us → IsSpelling n vs → us ≡ vs
one_spelling n [] vs h g = absurd h
one_spelling n (b ∷ us) [] h g = absurd g
one_spelling n (b ∷ []) (d ∷ []) h g = ap (λ x. x ∷ []) (sym h.1 ∙ g.1)
one_spelling n (b ∷ []) (d ∷ f ∷ vs) h (low, high, rest, some, e, g) = absurd (let x = h.0 in let y = h.1 in omega arith)
one_spelling n (b ∷ c ∷ us) (d ∷ []) (low, high, rest, some, e, h) g = absurd (let x = g.0 in let y = g.1 in omega arith)
one_spelling n (b ∷ c ∷ us) (d ∷ f ∷ vs) (low, high, rest, some, e, h) (low1, high1, rest1, some1, e1, g) =
    let same : rest ≡ rest1 = omega arith in
    let first : b ≡ d = omega arith in
    let others = one_spelling rest1 (c ∷ us) (f ∷ vs) (subst (λ r. IsSpelling r (c ∷ us)) same h) g in
    ap (λ x. x ∷ c ∷ us) first ∙ ap (λ l. d ∷ l) others

-- ---- reading one number

small_read : (n : ℕ) (rest : List ℕ) (w : Reply ℕ) → n < 128 → (if nat_lt n 128 then Some (n, rest) else w) ≡ Some (n, rest)
small_read n rest w lt = ap (λ b. if b then Some (n, rest) else w) (lt-ltb n 128 lt)

large_read : (x r : ℕ) (rest : List ℕ) (v : Reply ℕ) → 128 ≤ x → x < 256 → r ≢ 0
    → (if nat_lt x 128 then v else (if nat_lt x 256 then number_more x (Some (r, rest)) else None)) ≡ Some ((x - 128) + 128 * r, rest)
large_read x r rest v le lt some = rw (le-ltb x 128 le, lt-ltb x 256 lt, ne_eqb r 0 some) refl

pub complete_in : (k n : ℕ) (rest : List ℕ) → n < 128 ^ suc k → number_in k (spelled_in k n ++ rest) ≡ Some (n, rest)
complete_in zero n rest lt = let one : 128 ^ 1 ≡ 128 = refl in small_read n rest None (omega arith)
complete_in (suc k) n rest lt =
    let more : 128 ^ suc (suc k) ≡ 128 ^ suc k * 128 = pow-suc 128 (suc k) in
    choose (λ l. number_in (suc k) (l ++ rest) ≡ Some (n, rest)) (nat_lt n 128) (n ∷ []) ((n % 128 + 128) ∷ spelled_in k (n / 128))
    (λ t. small_read n rest _ (ltb-true n 128 t))
    (λ t.
    let le = ltb-false n 128 t in
    let x = n % 128 + 128 in
    let some : n / 128 ≢ 0 = λ e. omega (arith, e) in
    let whole : (x - 128) + 128 * (n / 128) ≡ n = omega arith in
    ap (λ r. if nat_lt x 128 then Some (x, spelled_in k (n / 128) ++ rest) else (if nat_lt x 256 then number_more x r else None))
    (complete_in k (n / 128) rest (omega arith))
    ∙ large_read x (n / 128) rest (Some (x, spelled_in k (n / 128) ++ rest)) (omega arith) (omega arith) some
    ∙ ap (λ m. Some (m, rest)) whole)

pub complete : (n : ℕ) (rest : List ℕ) → n < 2 ^ 32 → read_number (spelled n ++ rest) ≡ Some (n, rest)
unfolding read_number spelled
complete n rest lt =
    let wide : 128 ^ 5 ≡ 2 ^ 35 = refl in
    ap (λ r. goes r (λ m us. below (2 ^ 32) m us)) (complete_in 4 n rest (omega arith))
    ∙ ap (λ b. if b then Some (n, rest) else None) (lt-ltb n (2 ^ 32) lt)

-- what a number that was read is spelled by
pub record Front (k : ℕ) (bs : List ℕ) (n : ℕ) (rest : List ℕ) : Type 0 where
  us : List ℕ
  split : bs ≡ us ++ rest
  spelling : IsSpelling n us
  few : n < 128 ^ suc k

abbrev first_or : Reply ℕ → ℕ → ℕ
first_or None d = d
first_or (Some x) d = x.0

abbrev rest_or : Reply ℕ → List ℕ → List ℕ
rest_or None d = d
rest_or (Some x) d = x.1

pub same_reply : (m n : ℕ) (us vs : List ℕ) → ◌≡◌ {A = Reply ℕ} (Some (m, us)) (Some (n, vs)) → (m ≡ n) × (us ≡ vs)
same_reply m n us vs h = (ap (λ r. first_or r m) h, ap (λ r. rest_or r us) h)

small_front : (k b : ℕ) (bs : List ℕ) (n : ℕ) (rest : List ℕ) → b < 128 → 128 ≤ 128 ^ suc k → ◌≡◌ {A = Reply ℕ} (Some (b, bs)) (Some (n, rest))
    → Front k (b ∷ bs) n rest
small_front k b bs n rest lt wide h =
    let same = same_reply b n bs rest h in
    record { us = b ∷ []; split = ap (λ l. b ∷ l) same.1; spelling = (lt, sym same.0); few = omega (arith, same.0) }

more_front : (k b : ℕ) (bs : List ℕ) (n : ℕ) (rest : List ℕ) (r : Reply ℕ) → 128 ≤ b → b < 256 → ((m : ℕ) (us : List ℕ) → r ≡ Some (m, us) → Front k bs m us)
    → number_more b r ≡ Some (n, rest) → Front (suc k) (b ∷ bs) n rest
more_front k b bs n rest None le lt inner h = absurd (cc)
more_front k b bs n rest (Some x) le lt inner h = at (x.0 == 0) refl h
  where
    longer : (m c r : ℕ) (us : List ℕ) → 128 ≤ c → c < 256 → 0 < r → m + 128 ≡ c + 128 * r → IsSpelling r us → IsSpelling m (c ∷ us)
    longer m c r [] le lt some e g = absurd g
    longer m c r (d ∷ us) le lt some e g = (le, lt, r, some, e, g)

    at : (t : Bool) → (x.0 == 0) ≡ t → if◌then◌else◌ {A = Reply ℕ} t None (Some ((b - 128) + 128 * x.0, x.1)) ≡ Some (n, rest) → Front (suc k) (b ∷ bs) n rest
    at true is g = absurd (cc)
    at false is g =
        let f = inner x.0 x.1 refl in
        let same = same_reply ((b - 128) + 128 * x.0) n x.1 rest g in
        let some : x.0 ≢ 0 = eqb-false x.0 0 is in
        let more : 128 ^ suc (suc k) ≡ 128 ^ suc k * 128 = pow-suc 128 (suc k) in
        let small = f.few in
        record {
          us = b ∷ f.us;
          split = ap (λ l. b ∷ l) (f.split ∙ ap (λ l. f.us ++ l) same.1);
          spelling = subst (λ m. IsSpelling m (b ∷ f.us)) same.0 (longer ((b - 128) + 128 * x.0) b x.0 f.us le lt (omega arith) (omega arith) f.spelling);
          few = omega (arith, same.0);
        }

pub front_in : (k : ℕ) (bs : List ℕ) (n : ℕ) (rest : List ℕ) → number_in k bs ≡ Some (n, rest) → Front k bs n rest
front_in zero [] n rest h = absurd (cc)
front_in (suc k) [] n rest h = absurd (cc)
front_in zero (b ∷ bs) n rest h = at (nat_lt b 128) refl h
  where
    at : (t : Bool) → nat_lt b 128 ≡ t → if◌then◌else◌ {A = Reply ℕ} t (Some (b, bs)) None ≡ Some (n, rest) → Front zero (b ∷ bs) n rest
    at true is g = small_front zero b bs n rest (ltb-true b 128 is) (omega arith) g
    at false is g = absurd (cc)
front_in (suc k) (b ∷ bs) n rest h = at (λ m us e. front_in k bs m us e) (nat_lt b 128) (nat_lt b 256) refl refl h
  where
    wide : (j : ℕ) → 128 ≤ 128 ^ suc j
    wide zero = omega arith
    wide (suc j) = let more : 128 ^ suc (suc j) ≡ 128 ^ suc j * 128 = pow-suc 128 (suc j) in let x = wide j in omega arith

    at : ((m : ℕ) (us : List ℕ) → number_in k bs ≡ Some (m, us) → Front k bs m us) → (t u : Bool) → nat_lt b 128 ≡ t → nat_lt b 256 ≡ u
        → if◌then◌else◌ {A = Reply ℕ} t (Some (b, bs)) (if u then number_more b (number_in k bs) else None) ≡ Some (n, rest) → Front (suc k) (b ∷ bs) n rest
    at inner true u is also g = small_front (suc k) b bs n rest (ltb-true b 128 is) (wide (suc k)) g
    at inner false true is also g = more_front k b bs n rest (number_in k bs) (ltb-false b 128 is) (ltb-true b 256 also) inner g
    at inner false false is also g = absurd (cc)

pub sound : (bs : List ℕ) (n : ℕ) (rest : List ℕ) → read_number bs ≡ Some (n, rest) → (bs ≡ spelled n ++ rest) × (n < 2 ^ 32)
unfolding read_number spelled
sound bs n rest h = from (number_in 4 bs) refl h
  where
    at : (m : ℕ) (us : List ℕ) (t : Bool) → number_in 4 bs ≡ Some (m, us) → nat_lt m (2 ^ 32) ≡ t
        → if◌then◌else◌ {A = Reply ℕ} t (Some (m, us)) None ≡ Some (n, rest) → (bs ≡ spelled n ++ rest) × (n < 2 ^ 32)
    at m us true is small g =
        let f = front_in 4 bs m us is in
        let same = same_reply m n us rest g in
        let lt = ltb-true m (2 ^ 32) small in
        let one : f.us ≡ spelled_in 4 m = one_spelling m f.us (spelled_in 4 m) f.spelling (spelling_in 4 m f.few) in
        (f.split ∙ ap (λ l. l ++ us) one ∙ ap (λ l. spelled_in 4 m ++ l) same.1 ∙ ap (λ x. spelled_in 4 x ++ rest) same.0, omega (arith, same.0))
    at m us false is small g = absurd (cc)

    from : (r : Reply ℕ) → number_in 4 bs ≡ r → goes r (λ m us. below (2 ^ 32) m us) ≡ Some (n, rest) → (bs ≡ spelled n ++ rest) × (n < 2 ^ 32)
    from None is g = absurd (cc)
    from (Some x) is g = at x.0 x.1 (nat_lt x.0 (2 ^ 32)) is refl g

-- ---- what `take` and `put` tell

pub is_spelled : (n : ℕ) → n < 2 ^ 32 → IsSpelling n (spelled n)
unfolding spelled
is_spelled n lt = let wide : 128 ^ 5 ≡ 2 ^ 35 = refl in spelling_in 4 n (omega arith)

pub spelled_once : (n : ℕ) (us : List ℕ) → n < 2 ^ 32 → IsSpelling n us → us ≡ spelled n
spelled_once n us lt h = one_spelling n us (spelled n) h (is_spelled n lt)

pub taken : (bs rest : List ℕ) (n end : ℕ) → n < 2 ^ 32 → rest ≡ drop end bs → IsSpelledAt bs 0 n end → read_number bs ≡ Some (n, rest)
taken bs rest n end lt at_end h =
    let us : take end bs ≡ spelled n = spelled_once n (take end bs) lt (simp unary_clauses at h.1) in
    ap read_number (sym (take-append-drop end bs) ∙ ap (λ l. l ++ drop end bs) us) ∙ complete n (drop end bs) lt ∙ ap (λ l. Some (n, l)) (sym at_end)

pub not_taken : (bs : List ℕ) → ((n end : ℕ) → n < 2 ^ 32 → end ≤ length bs → IsSpelledAt bs 0 n end → ⊥) → read_number bs ≡ None
not_taken bs none = from (read_number bs) refl
  where
    front : (us rest : List ℕ) → take (length us) (us ++ rest) ≡ us
    front [] rest = refl
    front (u ∷ us) rest = ap (λ l. u ∷ l) (front us rest)

    from : (r : Reply ℕ) → read_number bs ≡ r → r ≡ None
    from None is = refl
    from (Some x) is =
        let s = sound bs x.0 x.1 is in
        let us : take (length (spelled x.0)) bs ≡ spelled x.0 = ap (take (length (spelled x.0))) s.0 ∙ front (spelled x.0) x.1 in
        absurd (none x.0 (length (spelled x.0)) s.1 (omega (arith, ap length s.0, length-append (spelled x.0) x.1))
        (omega arith, simp unary_clauses (subst (IsSpelling x.0) (sym us) (is_spelled x.0 s.1))))

pub spelled_short : (n : ℕ) → n < 2 ^ 32 → (1 ≤ length (spelled n)) × (length (spelled n) ≤ 5)
spelled_short n lt = (some (spelled n) (is_spelled n lt), short n (spelled n) lt (is_spelled n lt))
  where
    some : (us : List ℕ) → IsSpelling n us → 1 ≤ length us
    some [] h = absurd h
    some (u ∷ us) h = omega arith
