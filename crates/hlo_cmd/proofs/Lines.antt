-- The line of a fault with a place, in its pieces.
use Rattle.std.proofs.Common.{◌≡◌, ℕ, List, [], ◌∷◌, ◌++◌, Option, Result, subst, ◌∙◌, ap, append_assoc, take}
use Rattle.std.specs.Prelude.{codes, decimal}
use Rattle.std.specs.Io.KnownBytes.{Appends}
use Rattle.outside.specs.Taken.{TakesAll}
use Rattle.hlo_cmd.specs.Messages.{place_line}
use Rattle.hlo_cmd.proofs.Fronts.{first_failed, then_failed, then_takes, takes_line}

-- the front of the line up to the number, and the number with the kind
abbrev pub until_number : List ℕ → List ℕ
until_number file = codes "hlo: " ++ (file ++ 58 ∷ [])

abbrev pub number_and_kind : List ℕ → List ℕ → List ℕ
number_and_kind number kind = number ++ ((58 ∷ 32 ∷ []) ++ kind)

-- the line is its pieces
pub line_in_pieces : (file number kind name : List ℕ) (line : ℕ) → number ≡ decimal line → kind ≡ name
    → until_number file ++ (number_and_kind number kind ++ 10 ∷ []) ≡ place_line file line name
line_in_pieces file number kind name line e f =
    append_assoc (codes "hlo: ") (file ++ 58 ∷ []) (number_and_kind number kind ++ 10 ∷ [])
    ∙ ap (λ l. codes "hlo: " ++ l) (append_assoc file (58 ∷ []) (number_and_kind number kind ++ 10 ∷ []))
    ∙ ap (λ l. codes "hlo: " ++ (file ++ 58 ∷ l)) (append_assoc number ((58 ∷ 32 ∷ []) ++ kind) (10 ∷ []))
    ∙ ap (λ l. codes "hlo: " ++ (file ++ 58 ∷ (l ++ (58 ∷ 32 ∷ (kind ++ 10 ∷ []))))) e
    ∙ ap (λ l. codes "hlo: " ++ (file ++ 58 ∷ (decimal line ++ (58 ∷ 32 ∷ (l ++ 10 ∷ []))))) f

-- the first pieces failed
pub first_fails : (a b : Option (List ℕ)) (file number kind name : List ℕ) (line : ℕ) → number ≡ decimal line → kind ≡ name
    → ((k : ℕ) × Appends a b (take k (until_number file))) → (k : ℕ) × Appends a b (take k (place_line file line name))
first_fails a b file number kind name line e f h =
    let r = first_failed a b h.0 (until_number file) (number_and_kind number kind ++ 10 ∷ []) h.1 in
    (r.0, subst (λ l. Appends a b (take r.0 l)) (line_in_pieces file number kind name line e f) r.1)

-- the next ones failed
pub next_fails : (a b c : Option (List ℕ)) (file number kind name : List ℕ) (line : ℕ) → number ≡ decimal line → kind ≡ name
    → Appends a b (until_number file) → ((k : ℕ) × Appends b c (take k (number_and_kind number kind))) → (k : ℕ)
    × Appends a c (take k (place_line file line name))
next_fails a b c file number kind name line e f g h =
    let r = first_failed b c h.0 (number_and_kind number kind) (10 ∷ []) h.1 in
    let s = then_failed a b c r.0 (until_number file) (number_and_kind number kind ++ 10 ∷ []) g r.1 in
    (s.0, subst (λ l. Appends a c (take s.0 l)) (line_in_pieces file number kind name line e f) s.1)

-- the last one was tried
pub last_takes : {T E : Type 0} (a b c d : Option (List ℕ)) (r : Result T E) (file number kind name : List ℕ) (line : ℕ) → number ≡ decimal line
    → kind ≡ name → Appends a b (until_number file) → Appends b c (number_and_kind number kind) → TakesAll c d r (10 ∷ [])
    → TakesAll a d r (place_line file line name)
last_takes a b c d r file number kind name line e f g h k =
    takes_line a d r _ _ (line_in_pieces file number kind name line e f)
    (then_takes a b d r (until_number file) (number_and_kind number kind ++ 10 ∷ []) g (then_takes b c d r (number_and_kind number kind) (10 ∷ []) h k))
