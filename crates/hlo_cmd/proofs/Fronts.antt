-- Fronts of what is put out in pieces.
use Rattle.std.proofs.Common.{◌≡◌, ℕ, zero, suc, ◌+◌, List, [], ◌∷◌, ◌++◌, length, take, Option, Some, None, Result, Ok, Err, refl, sym, ap, subst, inl}
use Rattle.std.proofs.Common.{inr, append-nil}
use Rattle.std.specs.Io.KnownBytes.{Appends, Keeps}
use Rattle.std.proofs.KnownBytes.{Appends-trans}
use Rattle.std.proofs.Math.Seq.{take-append-add}
use Rattle.outside.specs.Faults.{HasCause}
use Rattle.outside.specs.Taken.{TakesAll}
use Rattle.hlo_cmd.specs.Messages.{Says}

-- a front of a list is a front of it with more behind
pub front_of_more : (k : ℕ) (xs ys : List ℕ) → (n : ℕ) × (take k xs ≡ take n (xs ++ ys))
front_of_more zero xs ys = (0, refl)
front_of_more (suc k) [] ys = (0, refl)
front_of_more (suc k) (x ∷ xs) ys = let r = front_of_more k xs ys in (suc r.0, ap (λ l. x ∷ l) r.1)

-- a front behind a whole piece
pub front_behind : (k : ℕ) (xs ys : List ℕ) → xs ++ take k ys ≡ take (length xs + k) (xs ++ ys)
front_behind k xs ys = sym (take-append-add xs ys k)

-- the first piece failed
pub first_failed : (a b : Option (List ℕ)) (k : ℕ) (xs ys : List ℕ) → Appends a b (take k xs) → (n : ℕ) × Appends a b (take n (xs ++ ys))
first_failed a b k xs ys h = let r = front_of_more k xs ys in (r.0, subst (Appends a b) r.1 h)

-- the first piece was taken, and a front of what follows
pub then_failed : (a b c : Option (List ℕ)) (k : ℕ) (xs ys : List ℕ) → Appends a b xs → Appends b c (take k ys) → (n : ℕ) × Appends a c (take n (xs ++ ys))
then_failed a b c k xs ys h g = (length xs + k, subst (Appends a c) (front_behind k xs ys) (Appends-trans a b c xs (take k ys) h g))

-- what was said, where the bytes are the line
pub says : {T E : Type 0} (before after : Option (List ℕ)) (old new : ℕ) (r : Result T E) (bytes line : List ℕ) → bytes ≡ line
    → TakesAll before after r bytes → HasCause old new r → Says before after old new line
says before after old new (Ok x) bytes line e h cause = inl (subst (Appends before after) e h)
says before after old new (Err f) bytes line e h cause = inr
    (record { rose = cause.failed; front = h.0; said = subst (λ l. Appends before after (take h.0 l)) e h.1 })

-- a whole piece, and then another one
pub then_takes : {T E : Type 0} (a b c : Option (List ℕ)) (r : Result T E) (xs ys : List ℕ) → Appends a b xs → TakesAll b c r ys → TakesAll a c r (xs ++ ys)
then_takes a b c (Ok x) xs ys h g = Appends-trans a b c xs ys h g
then_takes a b c (Err e) xs ys h g = then_failed a b c g.0 xs ys h g.1

-- the pieces are the line
pub takes_line : {T E : Type 0} (a b : Option (List ℕ)) (r : Result T E) (bytes line : List ℕ) → bytes ≡ line → TakesAll a b r bytes → TakesAll a b r line
takes_line a b (Ok x) bytes line e h = subst (Appends a b) e h
takes_line a b (Err f) bytes line e h = (h.0, subst (λ l. Appends a b (take h.0 l)) e h.1)

-- nothing was put out, and nothing was said
pub keeps_itself : (taken : Option (List ℕ)) → Keeps taken taken
keeps_itself None = tt
keeps_itself (Some bytes) = refl

pub says_nothing : (taken : Option (List ℕ)) (count : ℕ) → Says taken taken count count []
says_nothing None count = inl tt
says_nothing (Some bytes) count = inl (sym (append-nil bytes))
