-- The calls of a source, one after another.
use Rattle.std.proofs.Common.{◌≡◌, ℕ, ◌<◌, List, [], ◌∷◌, ◌++◌, Bool, true, false, ap, sym, ◌∙◌, append_assoc, arith, inl, inr, eq-eqb}
use Rattle.std.specs.Prelude.{nat_eq, Option, Some, None, Result, Ok, Err, IsErr, MatchResult}
use Rattle.std.specs.List.{AllByRecursion}
use Rattle.std.proofs.lemmas.List.{append-nil}
use Rattle.std.proofs.lemmas.Bool.{cases_eq, false≢true}
use Rattle.outside.specs.Asks.{NotesAsk, next_ask}
use Rattle.outside.specs.declared.source.Ask.{Ask}
use Rattle.il_run.specs.Streams.{AllButLastGave, AsksInTurn, AsksSo, GaveSome}

last_free : (xs : List Ask) (a : Ask) → AllByRecursion GaveSome xs → AllButLastGave (xs ++ a ∷ [])
last_free [] a h = tt
last_free (x ∷ []) a h = (h.0, tt)
last_free (x ∷ y ∷ ys) a h = (h.0, last_free (y ∷ ys) a h.1)

all_more : (xs : List Ask) (a : Ask) → AllByRecursion GaveSome xs → GaveSome a → AllByRecursion GaveSome (xs ++ a ∷ [])
all_more [] a h g = (g, tt)
all_more (x ∷ xs) a h g = (h.0, all_more xs a h.1 g)

grown_by : (old mid new added : List Ask) (a : Ask) → mid ≡ old ++ added → new ≡ mid ++ a ∷ [] → new ≡ old ++ (added ++ a ∷ [])
grown_by old mid new added a e f = f ∙ ap (λ (l : List Ask). l ++ a ∷ []) e ∙ append_assoc old added (a ∷ [])

-- no call was made
pub asks_first : (o : Option (List Ask)) (ended : Bool) → AsksSo o o ended
asks_first None ended = tt
asks_first (Some xs) ended = record { added = []; grew = sym (append-nil xs); gave = tt; all = λ e. tt }

-- a call gave some bytes, or met the end
pub asks_ok : (E : Type 0) (start old new : Option (List Ask)) (n : ℕ) (ended : Bool) → AsksSo start old false → NotesAsk {E = E} old new (Ok n)
    → (ended ≡ false → 0 < n) → AsksSo start new ended
asks_ok E None old new n ended h note more = tt
asks_ok E (Some xs) None new n ended h note more = absurd h
asks_ok E (Some xs) (Some ys) None n ended h note more = absurd note
asks_ok E (Some xs) (Some ys) (Some zs) n ended h note more =
    let a : Ask = next_ask {E = E} ys (Ok n) in
    record {
      added = h.added ++ a ∷ [];
      grew = grown_by xs ys zs h.added a h.grew note;
      gave = last_free h.added a (h.all Rattle.std.proofs.Common.refl);
      all = λ e. all_more h.added a (h.all Rattle.std.proofs.Common.refl) (more e);
    }

-- a call failed
pub asks_err : {E : Type 0} (start old new : Option (List Ask)) (e : E) → AsksSo start old false → NotesAsk old new (Err e) → AsksInTurn start new
asks_err None old new e h note = tt
asks_err (Some xs) None new e h note = absurd h
asks_err (Some xs) (Some ys) None e h note = absurd note
asks_err {E} (Some xs) (Some ys) (Some zs) e h note =
    let a : Ask = next_ask {E = E} ys (Err e) in
    record { added = h.added ++ a ∷ []; grew = grown_by xs ys zs h.added a h.grew note; gave = last_free h.added a (h.all Rattle.std.proofs.Common.refl) }

-- no further call is made
pub asks_turn : (start now : Option (List Ask)) (ended : Bool) → AsksSo start now ended → AsksInTurn start now
asks_turn None now ended h = tt
asks_turn (Some xs) None ended h = absurd h
asks_turn (Some xs) (Some ys) ended h = record { added = h.added; grew = h.grew; gave = h.gave }

pub when_err : {T E : Type 0} (r : Result T E) (P : T → Type 0) (Q : Type 0) → IsErr r → Q → MatchResult r P (λ e. Q)
when_err (Ok x) P Q h q = absurd (false≢true h)
when_err (Err e) P Q h q = q

pub positive : (n : ℕ) → nat_eq n 0 ≡ false → 0 < n
positive n e = elim (cases_eq n 0) [ inl z ↦ absurd (false≢true (sym e ∙ eq-eqb n 0 z)) | inr ne ↦ omega arith ]
