-- Fronts of what is put out in pieces.
use Rattle.std.proofs.Common.{◌≡◌, ◌≤◌, ℕ, zero, suc, ◌+◌, List, [], ◌∷◌, ◌++◌, length, take, Option, Some, None, Result, Ok, Err, refl, sym, ap, subst}
use Rattle.std.proofs.Common.{arith, append-nil}
use Rattle.std.specs.Io.KnownBytes.{Appends}
use Rattle.std.proofs.KnownBytes.{Appends-trans}
use Rattle.std.proofs.Math.Seq.{take-append-add}
use Rattle.outside.specs.Taken.{TakesAll}
use Rattle.plan_pools.specs.Printing.{IsStopped, OutputCause}
use Rattle.plan_pools.specs.declared.printing.PrintFault.{PrintFault}
use Rattle.plan_pools.specs.declared.printing.PrintFault.TheVariants as fault

-- a front of a list is a front of it with more behind
front_of_more : (k : ℕ) (xs ys : List ℕ) → (n : ℕ) × (take k xs ≡ take n (xs ++ ys))
front_of_more zero xs ys = (0, refl)
front_of_more (suc k) [] ys = (0, refl)
front_of_more (suc k) (x ∷ xs) ys = let r = front_of_more k xs ys in (suc r.0, ap (λ l. x ∷ l) r.1)

-- nothing was taken
pub takes_itself : (a : Option (List ℕ)) → Appends a a []
takes_itself None = tt
takes_itself (Some bytes) = sym (append-nil bytes)

pub takes_none : (a : Option (List ℕ)) (xs : List ℕ) → (k : ℕ) × Appends a a (take k xs)
takes_none a xs = (0, takes_itself a)

-- the first piece failed
pub first_fails : (a b : Option (List ℕ)) (xs ys : List ℕ) → ((k : ℕ) × Appends a b (take k xs)) → (n : ℕ) × Appends a b (take n (xs ++ ys))
first_fails a b xs ys h = let r = front_of_more h.0 xs ys in (r.0, subst (Appends a b) r.1 h.1)

-- a whole piece, and then a front of another one
pub then_fails : (a b c : Option (List ℕ)) (xs ys : List ℕ) → Appends a b xs → ((k : ℕ) × Appends b c (take k ys)) → (n : ℕ) × Appends a c (take n (xs ++ ys))
then_fails a b c xs ys h g = (length xs + g.0, subst (Appends a c) (sym (take-append-add xs ys g.0)) (Appends-trans a b c xs (take g.0 ys) h g.1))

-- a whole piece, and then another one
pub then_takes : {T : Type 0} (a b c : Option (List ℕ)) (r : Result T PrintFault) (xs ys : List ℕ) → Appends a b xs → TakesAll b c r ys
    → TakesAll a c r (xs ++ ys)
then_takes a b c (Ok x) xs ys h g = Appends-trans a b c xs ys h g
then_takes a b c (Err e) xs ys h g = then_fails a b c xs ys h g

-- the pieces are the text
pub takes_as : {T : Type 0} (a b : Option (List ℕ)) (r : Result T PrintFault) (xs ys : List ℕ) → xs ≡ ys → TakesAll a b r xs → TakesAll a b r ys
takes_as a b (Ok x) xs ys e h = subst (Appends a b) e h
takes_as a b (Err f) xs ys e h = (h.0, subst (λ l. Appends a b (take h.0 l)) e h.1)

-- a fault's cause since an earlier moment
pub output_since : {T : Type 0} (a b c : ℕ) (r : Result T PrintFault) → a ≤ b → OutputCause b c r → OutputCause a c r
output_since a b c (Ok x) low h = tt
output_since a b c (Err fault.Output) low h = omega (arith, low, h)
output_since a b c (Err (fault.Stopped f)) low h = tt

-- pools that stopped have no cause in the sink
pub stopped_cause : (T : Type 0) (a : ℕ) (f : PrintFault) → IsStopped f → OutputCause {X = T} a a (Err f)
stopped_cause T a fault.Output h = absurd h
stopped_cause T a (fault.Stopped f) h = tt
