-- The name by which the program knows an internal name of a module is a name.
use Rattle.std.proofs.Common.{◌≡◌, ℕ, ◌+◌, ◌<◌, ◌^◌, true, ◌&&◌, List, [], ◌∷◌, ◌++◌, length, arith, refl, ap, ◌∙◌, length-append, append_assoc}
use Rattle.std.specs.Fmt.{decimal}
use Rattle.std.specs.Int.{IsInRange}
use Rattle.std.specs.List.{list_all}
use Rattle.std.specs.Str.{all_ascii_digits}
use Rattle.std.proofs.lemmas.Bool.Decides.{nat_tests}
use Rattle.std.proofs.lemmas.Fmt.{digits_decimal}
use Rattle.std.proofs.lemmas.List.Folds.{list_all-append}
use Rattle.std.proofs.lemmas.Str.Parse.{tells_all_ascii_digits, numerals_by_value}
use Rattle.hlo_num.specs.Name.{is_name_byte, IsName}

digit_named : (c : ℕ) → IsInRange 48 57 c → is_name_byte c ≡ true
digit_named c h = grind (arith, nat_tests)

digits_named : (ds : List ℕ) → all_ascii_digits ds ≡ true → list_all is_name_byte ds ≡ true
digits_named [] h = refl
digits_named (c ∷ cs) h =
    let p : IsInRange 48 57 c × (all_ascii_digits cs ≡ true) = tells_all_ascii_digits.parts c cs h in
    ap (λ b. b && list_all is_name_byte cs) (digit_named c p.0) ∙ digits_named cs p.1

decimal_named : (n : ℕ) → n < 2 ^ 64 → list_all is_name_byte (decimal n) ≡ true
decimal_named n h = digits_named (decimal n) (digits_decimal (numerals_by_value (λ ds. all_ascii_digits ds ≡ true) tells_all_ascii_digits) n h)

joined : (name : List ℕ) (n : ℕ) → list_all is_name_byte name ≡ true → n < 2 ^ 64 → list_all is_name_byte (name ++ 46 ∷ decimal n) ≡ true
joined name n h small = list_all-append is_name_byte name (46 ∷ decimal n) ∙ ap (λ b. b && list_all is_name_byte (decimal n)) h ∙ decimal_named n small

-- a name, a dot and the digits of a number, put together one after the other
pub numbered : (name first dotted digits bytes : List ℕ) (n : ℕ) → IsName name → n < 2 ^ 64 → first ≡ name → dotted ≡ first ++ 46 ∷ [] → digits ≡ decimal n
    → bytes ≡ dotted ++ digits → IsName bytes
numbered name first dotted digits bytes n h small is_first is_dotted is_digits is =
    let e : bytes ≡ name ++ 46 ∷ decimal n = rw (is, is_dotted, is_first, is_digits) (append_assoc name (46 ∷ []) (decimal n)) in
    let long : length bytes ≡ length name + length (46 ∷ decimal n) = ap length e ∙ length-append name (46 ∷ decimal n) in
    let named : list_all is_name_byte name ≡ true = h.1 in
    (omega (arith, h.0), ap (list_all is_name_byte) e ∙ joined name n named small)
