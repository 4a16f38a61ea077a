-- What becomes of a sum of notes where notes change.
use Rattle.std.proofs.Common.{◌≡◌, ◌≢◌, ℕ, zero, suc, ◌+◌, ◌%◌, ◌^◌, ◌<◌, List, [], ◌∷◌, ◌++◌, set, Option, Some, None, sym, refl, ap, ◌∙◌, arith}
use mathlib.Core.Option as base
use mathlib.Core.Option.{some}
use lib.ListN.{get_elem?}
use Rattle.lock_join.proofs.Turns.{get-set_else}
use Rattle.named_lock.specs.declared.view.Known.{Known}
use Rattle.named_lock.specs.Known.{note_of}
use Rattle.named_lock.specs.Rules.{StandsAlone}
use Rattle.lock_join.specs.Sum.{part_of, total, IsSum}

pub total-set : (ms : List (Option ℕ)) (i : ℕ) (m n : Option ℕ) → get_elem? ms i ≡ some m → total (set ms i n) + part_of m ≡ total ms + part_of n
total-set [] i m n at = absurd (base.some-ne-none m (sym at))
total-set (x ∷ xs) zero m n at = let e : part_of x ≡ part_of m = ap part_of (base.some-injective x m at) in omega arith
total-set (x ∷ xs) (suc i) m n at = let e = total-set xs i m n at in omega arith

pub total-snoc : (ms : List (Option ℕ)) (m : Option ℕ) → total (ms ++ m ∷ []) ≡ total ms + part_of m
total-snoc [] m = omega arith
total-snoc (x ∷ xs) m = let e = total-snoc xs m in omega arith

-- one more in the number, and one more in a note
pub one_more : (number note : ℕ) (notes : List (Option ℕ)) (i : ℕ) → get_elem? notes i ≡ some (Some note) → IsSum number notes
    → IsSum ((number + 1) % 2 ^ 64) (set notes i (Some (note + 1)))
one_more number note notes i at is = let t = total-set notes i (Some note) (Some (note + 1)) at in omega arith

-- a new note of nothing
pub nothing_more : (number : ℕ) (notes : List (Option ℕ)) → IsSum number notes → IsSum number (notes ++ Some 0 ∷ [])
nothing_more number notes is = let t = total-snoc notes (Some 0) in omega arith

-- one note for two
pub both_in_one : (number one two : ℕ) (notes : List (Option ℕ)) (i j : ℕ) → i ≢ j → get_elem? notes i ≡ some (Some one) → get_elem? notes j ≡ some (Some two)
    → IsSum number notes
    → IsSum number (set (set notes i (Some (one + two))) j None)
both_in_one number one two notes i j apart at_one at_two is =
    let t = total-set notes i (Some one) (Some (one + two)) at_one in
    let u = total-set (set notes i (Some (one + two))) j (Some two) None (get-set_else notes i j (Some (one + two)) (λ e. apart (sym e)) ∙ at_two)
    in omega arith

nothing : (ms : List (Option ℕ)) → ((j : ℕ) (m : Option ℕ) → get_elem? ms j ≡ some m → m ≡ None) → total ms ≡ 0
nothing [] none = refl
nothing (x ∷ xs) none = let a : part_of x ≡ 0 = ap part_of (none 0 x refl) in let b = nothing xs (λ j m e. none (suc j) m e) in omega arith

-- the only note is the sum
pub only : (ms : List (Option ℕ)) (i n : ℕ) → get_elem? ms i ≡ some (Some n) → ((j : ℕ) (m : Option ℕ) → j ≢ i → get_elem? ms j ≡ some m → m ≡ None)
    → total ms ≡ n
only [] i n at others = absurd (base.some-ne-none (Some n) (sym at))
only (x ∷ xs) zero n at others = let a : part_of x ≡ n = ap part_of (base.some-injective x (Some n) at) in let b = nothing xs
    (λ j m e. others (suc j) m (λ s. omega arith) e) in omega arith
only (x ∷ xs) (suc i) n at others = let a : part_of x ≡ 0 = ap part_of (others 0 x (λ s. omega arith) refl) in let b = only xs i n at
    (λ j m ne e. others (suc j) m (λ s. ne (omega arith)) e) in omega arith

-- what the last pass has noted is the number
pub counted : (place : ℕ) (v : Option (Known (Unit {0}) ℕ ℕ)) (number note : ℕ) → note_of v ≡ Some note → note < 2 ^ 64
    → StandsAlone (λ u x notes. IsSum x notes) place v number → number ≡ note
counted place None number note e small s = absurd cc
counted place (Some k) number note e small s = let t = only s.notes place note (s.mine ∙ ap some e) s.others in let is : number ≡ total s.notes % 2 ^ 64 =
    s.rule in omega arith
