-- What a worker's turns make of its pass.
use Rattle.std.proofs.Common.{◌≡◌, ◌≢◌, ℕ, zero, suc, ◌+◌, ◌-◌, ◌*◌, ◌≤◌, List, [], ◌∷◌, ◌++◌, set, Option, Some, None, sym, refl, ap, ◌∙◌, subst, arith}
use Rattle.std.proofs.Math.Nat.{add-mul}
use mathlib.Core.Option as base
use mathlib.Core.Option.{some}
use lib.ListN.{get_elem?}
use Rattle.named_lock.specs.declared.view.Known.{Known}
use Rattle.named_lock.specs.declared.view.View.{View}
use Rattle.named_lock.specs.declared.view.Held.{Held}
use Rattle.named_lock.specs.declared.turnstile.Token.{Token}
use Rattle.named_lock.specs.declared.turnstile.Turnstile.{Turnstile}
use Rattle.named_lock.specs.Known.{note_of, taken_of, noted, turned_to}
use Rattle.named_lock.specs.Rules.{MaySplit}
use Rattle.named_lock.specs.Pass.{view_of}
use Rattle.lock_join.specs.Worker.{IsReady, HasWorked}

pub get-set_else : {A : Type 0} (l : List A) (i j : ℕ) (a : A) → j ≢ i → get_elem? (set l i a) j ≡ get_elem? l j
get-set_else [] i j a n = refl
get-set_else (x ∷ xs) zero zero a n = absurd (n refl)
get-set_else (x ∷ xs) zero (suc j) a n = refl
get-set_else (x ∷ xs) (suc i) zero a n = refl
get-set_else (x ∷ xs) (suc i) (suc j) a n = get-set_else xs i j a (λ e. n (ap suc e))

set-again : {A : Type 0} (l : List A) (i : ℕ) (a : A) → get_elem? l i ≡ some a → set l i a ≡ l
set-again [] i a e = refl
set-again (x ∷ xs) zero a e = λ k. sym (base.some-injective x a e) k ∷ xs
set-again (x ∷ xs) (suc i) a e = λ k. x ∷ set-again xs i a e k

-- what two halves did is what the whole was to do
pub in_halves : (share half times note fresh one two : ℕ) → half ≤ share → fresh ≡ 0 → one ≡ note + (share - half) * times → two ≡ fresh + half * times
    → one + two ≡ note + share * times
in_halves share half times note fresh one two less none e f =
    let whole : (share - half) + half ≡ share = omega arith in let split = add-mul (share - half) half times in let both : ((share - half) + half) * times ≡
    share * times = ap (λ z. z * times) whole in omega arith

same_some : {A : Type 0} (a b : A) → Some a ≡ Some b → a ≡ b
same_some a b e = cc

module _ {M S N : Type 0} where
  noted-same : (v : Option (Known M S N)) (n : N) → taken_of v ≡ None → note_of v ≡ Some n → v ≡ noted n v
  noted-same None n idle e = absurd cc
  noted-same (Some k) n idle e = let same = same_some k.note n e in λ i. Some record k { note = same i; taken = idle i }

  noted-noted : (v : Option (Known M S N)) (n m : N) → noted m (noted n v) ≡ noted m v
  noted-noted None n m = refl
  noted-noted (Some k) n m = refl

  taken-noted : (v : Option (Known M S N)) (n : N) → taken_of (noted n v) ≡ None
  taken-noted None n = refl
  taken-noted (Some k) n = refl

  note-noted : (v : Option (Known M S N)) (m n : N) → note_of v ≡ Some m → note_of (noted n v) ≡ Some n
  note-noted None m n e = absurd cc
  note-noted (Some k) m n e = refl

  -- the note of a pass that has worked, and then took the turn
  pub note_at_last : (x : S) (w v u : Option (Known M S N)) (m n : N) → w ≡ turned_to x v → v ≡ noted n u → note_of u ≡ Some m → note_of w ≡ Some n
  note_at_last x w v None m n e f at = absurd cc
  note_at_last x w v (Some k) m n e f at = ap note_of (e ∙ ap (turned_to x) f)

  -- a pass whose note stays, and a new one whose note may stand beside any others
  pub may_split : (holds : M → S → List (Option N) → Type 0) (number : ℕ) (v : Option (Known M S N)) (note fresh : N) → note_of v ≡ Some note
      → ((name : M) (x : S) (notes : List (Option N)) → holds name x notes → holds name x (notes ++ Some fresh ∷ []))
      → MaySplit holds number v note fresh
  may_split holds number None note fresh e beside = absurd cc
  may_split holds number (Some k) note fresh e beside = λ x notes at is.
      subst (λ z. holds k.name x (z ++ Some fresh ∷ [])) (sym (set-again notes number (Some note) (at ∙ ap some e))) (beside k.name x notes is)

  module _ {V K P : Type 0} (lock : Turnstile (Held S N) V K P) where
    pub worked_not : (p : Token (Held S N) (Option (View M S N))) (n : N) → IsReady lock p n → HasWorked lock p p n
    worked_not p n r = record { pass = r.pass; view = noted-same (view_of p) n r.idle r.left }

    pub worked_more : (p q r : Token (Held S N) (Option (View M S N))) (n m : N) → HasWorked lock p q n → HasWorked lock q r m → HasWorked lock p r m
    worked_more p q r n m a b = record { pass = b.pass; view = b.view ∙ ap (noted m) a.view ∙ noted-noted (view_of p) n m }

    pub ready_again : (p q : Token (Held S N) (Option (View M S N))) (m n : N) → IsReady lock p m → HasWorked lock p q n → IsReady lock q n
    ready_again p q m n r w = record {
      pass = w.pass;
      idle = ap taken_of w.view ∙ taken-noted (view_of p) n;
      left = ap note_of w.view ∙ note-noted (view_of p) m n r.left;
    }
