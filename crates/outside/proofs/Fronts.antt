-- Fronts of a list, taken one after another.
use Rattle.std.proofs.Common.{◌≡◌, ℕ, ◌+◌, ◌≤◌, List, ◌++◌, length, take, drop, subst, sym, ap, ◌∙◌, take-add, length-append, Ok}
use Rattle.std.specs.Prelude.{⊤}
use Rattle.std.proofs.lemmas.List.{length-take-le, take-append-le}
use Rattle.std.specs.declared.option.Option.{Option}
use Rattle.std.specs.Io.KnownBytes.{Appends}
use Rattle.std.proofs.KnownBytes.{Appends-trans}
use Rattle.outside.specs.Told.{Told, Untold, Absent, Holds, ReadsTold}

-- a front of i bytes was taken, and then n bytes of the rest
pub Appends-rest : (a b c : Option (List ℕ)) (piece : List ℕ) (i n : ℕ) → Appends a b (take i piece) → Appends b c (take n (drop i piece))
    → Appends a c (take (i + n) piece)
Appends-rest a b c piece i n p q = subst (Appends a c) (sym (take-add i n piece)) (Appends-trans a b c _ _ p q)

-- the bytes read so far are a front of the file, as far as it is told
abbrev pub IsFront : Told → List ℕ → Type 0
IsFront Untold bytes = ⊤
IsFront Absent bytes = ⊤
IsFront (Holds whole) bytes = bytes ≡ take (length bytes) whole

-- the buffer's front, whatever stands behind it
pub length-grown : (old buffer rest : List ℕ) (n : ℕ) → n ≤ length buffer → length (old ++ take n (buffer ++ rest)) ≡ length old + n
length-grown old buffer rest n bound =
    length-append old (take n (buffer ++ rest)) ∙ ap (λ (l : List ℕ). length old + length l) (take-append-le n buffer rest bound) ∙ ap
    (λ (k : ℕ). length old + k) (length-take-le n buffer bound)

front-more : (whole old buffer rest : List ℕ) (n : ℕ) → old ≡ take (length old) whole → take n buffer ≡ take n (drop (length old) whole) → n ≤ length buffer
    → old ++ take n (buffer ++ rest) ≡ take (length (old ++ take n (buffer ++ rest))) whole
front-more whole old buffer rest n front same bound =
    ap (λ (l : List ℕ). old ++ l) (take-append-le n buffer rest bound ∙ same)
    ∙ ap (λ (l : List ℕ). l ++ take n (drop (length old) whole)) front
    ∙ sym (take-add (length old) n whole)
    ∙ ap (λ (k : ℕ). take k whole) (sym (length-grown old buffer rest n bound))

-- a read at the end of a front makes a longer front
pub IsFront-more : (E : Type 0) (told now : Told) (old buffer rest : List ℕ) (at n : ℕ) → now ≡ told → at ≡ length old → IsFront told old
    → ReadsTold {E = E} now at (Ok n) buffer
    → n ≤ length buffer → IsFront told (old ++ take n (buffer ++ rest))
IsFront-more E Untold now old buffer rest at n same place front read bound = tt
IsFront-more E Absent now old buffer rest at n same place front read bound = tt
IsFront-more E (Holds whole) now old buffer rest at n same place front read bound =
    let told : ReadsTold {E = E} (Holds whole) (length old) (Ok n) buffer = subst (λ (k : ℕ). ReadsTold {E = E} (Holds whole) k (Ok n) buffer) place
    (subst (λ (t : Told). ReadsTold {E = E} t at (Ok n) buffer) same read) in
    front-more whole old buffer rest n front told.same bound
