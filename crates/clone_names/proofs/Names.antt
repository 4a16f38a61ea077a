-- The name of a clone is a name.
use Rattle.std.proofs.Common.{◌≡◌, ℕ, ◌+◌, ◌<◌, ◌^◌, true, refl, ◌&&◌, List, [], ◌∷◌, ◌++◌, length, arith, ap, ◌∙◌, length-append, append_assoc}
use Rattle.std.specs.Fmt.{decimal}
use Rattle.std.specs.Int.{IsInRange}
use Rattle.std.specs.List.{list_all}
use Rattle.std.specs.Str.{all_ascii_digits}
use Rattle.std.proofs.lemmas.Bool.Decides.{nat_tests}
use Rattle.std.proofs.lemmas.Fmt.{digits_decimal}
use Rattle.std.proofs.lemmas.List.Folds.{list_all-append}
use Rattle.std.proofs.lemmas.Str.Parse.{tells_all_ascii_digits, numerals_by_value}
use Rattle.hlo_num.specs.Name.{is_name_byte, IsName}

digit_named : (c : ℕ) → IsInRange 48 57 c → is_name_byte c ≡ true
digit_named c h = grind (arith, nat_tests)

digits_named : (ds : List ℕ) → all_ascii_digits ds ≡ true → list_all is_name_byte ds ≡ true
digits_named [] h = refl
digits_named (c ∷ cs) h =
    let p : IsInRange 48 57 c × (all_ascii_digits cs ≡ true) = tells_all_ascii_digits.parts c cs h in
    ap (λ b. b && list_all is_name_byte cs) (digit_named c p.0) ∙ digits_named cs p.1

decimal_named : (n : ℕ) → n < 2 ^ 64 → list_all is_name_byte (decimal n) ≡ true
decimal_named n h = digits_named (decimal n) (digits_decimal (numerals_by_value (λ ds. all_ascii_digits ds ≡ true) tells_all_ascii_digits) n h)

joined : (name : List ℕ) (n : ℕ) → list_all is_name_byte name ≡ true → n < 2 ^ 64 → list_all is_name_byte (name ++ 36 ∷ decimal n) ≡ true
joined name n h small = list_all-append is_name_byte name (36 ∷ decimal n) ∙ ap (λ b. b && list_all is_name_byte (decimal n)) h ∙ decimal_named n small

-- bytes of names, `$` and the digits of a number, put together one after the other
pub numbered : (name first marked digits bytes : List ℕ) (n : ℕ) → list_all is_name_byte name ≡ true → n < 2 ^ 64 → first ≡ name
    → marked ≡ first ++ 36 ∷ [] → digits ≡ decimal n → bytes ≡ marked ++ digits → IsName bytes
numbered name first marked digits bytes n named small is_first is_marked is_digits is =
    let e : bytes ≡ name ++ 36 ∷ decimal n = rw (is, is_marked, is_first, is_digits) (append_assoc name (36 ∷ []) (decimal n)) in
    let long : length bytes ≡ length name + length (36 ∷ decimal n) = ap length e ∙ length-append name (36 ∷ decimal n) in
    (omega (arith, long), ap (list_all is_name_byte) e ∙ joined name n named small)
