-- Looking a word up in a list.
use Rattle.std.proofs.Common.{ℕ, ◌≡◌, ◌<◌, ◌+◌, ◌≤◌, sym, ap, ◌∙◌, true, false, if◌then◌else◌, List, length, drop, get_or, Some, None}
use Rattle.std.proofs.Math.Seq.{drop-cons}
use Rattle.std.proofs.Math.Numerals.{add-one}
use Rattle.std.proofs.Math.ListN.{drop_of_length-le}
use Rattle.c_lex.specs.Spelling.{same, named}
use Rattle.list_laws.proofs.Tests.{if_true, if_false}

named_at : {A : Type 0} (f : A → List ℕ) (xs : List A) (us : List ℕ) (i : ℕ) (d : A) → i < length xs
    → named f (drop i xs) us ≡ (if same us (f (get_or xs i d)) then Some (get_or xs i d) else named f (drop (i + 1) xs) us)
named_at f xs us i d h = ap (λ z. named f z us) (drop-cons xs i d h) ∙ ap
    (λ n. if same us (f (get_or xs i d)) then Some (get_or xs i d) else named f (drop n xs) us) (sym (add-one i))

pub named_here : {A : Type 0} (f : A → List ℕ) (xs : List A) (us : List ℕ) (i : ℕ) (d : A) → i < length xs → same us (f (get_or xs i d)) ≡ true
    → named f (drop i xs) us ≡ Some (get_or xs i d)
named_here f xs us i d h e = named_at f xs us i d h ∙ if_true _ _ e

pub named_next : {A : Type 0} (f : A → List ℕ) (xs : List A) (us : List ℕ) (i : ℕ) (d : A) → i < length xs → same us (f (get_or xs i d)) ≡ false
    → named f (drop i xs) us ≡ named f (drop (i + 1) xs) us
named_next f xs us i d h e = named_at f xs us i d h ∙ if_false _ _ e

pub named_none : {A : Type 0} (f : A → List ℕ) (xs : List A) (us : List ℕ) (i : ℕ) → length xs ≤ i → named f (drop i xs) us ≡ None
named_none f xs us i h = ap (λ z. named f z us) (drop_of_length-le xs h)
