-- Facts on single bytes and on spelled words.
use Rattle.std.proofs.Common.{ℕ, ◌≡◌, ◌+◌, ◌≤◌, refl, sym, ◌∙◌, ap, subst, Bool, true, false, ◌==◌, ◌&&◌, ◌||◌, if◌then◌else◌, List, [], ◌∷◌, ◌++◌, ◌⊎◌}
use Rattle.std.proofs.Common.{inl, inr, Some, None, eqb-true, arith, zero-add, add_assoc}
use Rattle.std.proofs.lemmas.Bool.{leb-true}
use Rattle.std.proofs.lemmas.Slice.Eq.{bytes_eq-Decides}
use Rattle.c_lex.specs.declared.phase.Class.{Class}
use Rattle.c_lex.specs.declared.phase.Class.TheVariants as class
use Rattle.c_lex.specs.declared.phase.Base.{Base}
use Rattle.c_lex.specs.declared.phase.Base.TheVariants.{Octal}
use Rattle.c_lex.specs.declared.phase.Tail.{Tail}
use Rattle.c_lex.specs.declared.phase.Tail.TheVariants as tail
use Rattle.c_lex.specs.Bytes.{between, class_of, in_word, in_run, radix, value_by, below, digit_of, is_x, is_u, is_l, feeds}
use Rattle.c_lex.specs.Spelling.{same, named}
use Rattle.c_lex.specs.Pieces.{has_close}
use Rattle.c_lex.specs.Machine.{tail_by, tail_of}
use Rattle.std.proofs.lemmas.Bool.{and_parts, or_parts, or_from}
use Rattle.list_laws.proofs.Tests.{choose, if_false}
use Rattle.c_lex.proofs.Fine.{ends_star}

-- the byte of a class that has only one
abbrev pub OfClass : ℕ → Class → Type 0
OfClass c class.Slash = c ≡ 47
OfClass c class.Apostrophe = c ≡ 39
OfClass c class.Quote = c ≡ 34
OfClass c class.Feed = c ≡ 10
OfClass c class.Hash = c ≡ 35
OfClass c class.Zero = c ≡ 48
OfClass c class.Digit = 49 ≤ c
OfClass c _ = Unit {0}

pub of_class : (c : ℕ) → OfClass c (class_of c)
unfolding class_of
of_class c =
    choose (OfClass c) (c == 32) _ _ (λ _. tt) (λ _. choose (OfClass c) (c == 9) _ _ (λ _. tt)
    (λ _. choose (OfClass c) (c == 11) _ _ (λ _. tt) (λ _. choose (OfClass c) (c == 12) _ _ (λ _. tt)
    (λ _. choose (OfClass c) (c == 13) _ _ (λ _. tt) (λ _. choose (OfClass c) (c == 10) _ _ (λ e. eqb-true c 10 e)
    (λ _. choose (OfClass c) (between 97 122 c) _ _ (λ _. tt) (λ _. choose (OfClass c) (between 65 90 c) _ _ (λ _. tt)
    (λ _. choose (OfClass c) (c == 95) _ _ (λ _. tt)
    (λ _. choose (OfClass c) (c == 48) _ _ (λ e. eqb-true c 48 e) (λ _. choose (OfClass c) (between 49 57 c) _ _ (λ e. leb-true 49 c (and_parts _ _ e).0)
    (λ _. choose (OfClass c) (c == 35) _ _ (λ e. eqb-true c 35 e)
    (λ _. choose (OfClass c) (c == 34) _ _ (λ e. eqb-true c 34 e) (λ _. choose (OfClass c) (c == 39) _ _ (λ e. eqb-true c 39 e)
    (λ _. choose (OfClass c) (c == 47) _ _ (λ e. eqb-true c 47 e) (λ _. tt)))))))))))))))

pub byte_of : (c : ℕ) (k : Class) → class_of c ≡ k → OfClass c k
byte_of c k e = subst (OfClass c) e (of_class c)

pub class_quote : class_of 34 ≡ class.Quote
unfolding class_of
class_quote = refl

pub class_slash : class_of 47 ≡ class.Slash
unfolding class_of
class_slash = refl

-- a byte of another class is another byte
pub not_byte : (c a : ℕ) (k j : Class) → class_of c ≡ k → class_of a ≡ j → (k ≡ j → ⊥) → (c == a) ≡ false
not_byte c a k j e f n = go (c == a) refl
  where
    go : (b : Bool) → (c == a) ≡ b → b ≡ false
    go true h = absurd (n (sym e ∙ ap class_of (eqb-true c a h) ∙ f))
    go false h = refl

-- what the byte behind the digits of a number is
abbrev pub TailIs : Class → ℕ → Tail → Type 0
TailIs k c tail.Unsigned = is_u c ≡ true
TailIs k c tail.Long = is_l c ≡ true
TailIs k c tail.Inside = Unit {0}
TailIs k c tail.Outside = (in_word k || c == 46) ≡ false

point_tail : (k : Class) (c : ℕ) → in_word k ≡ false → TailIs k c (if c == 46 then tail.Inside else tail.Outside)
point_tail k c h = choose (TailIs k c) (c == 46) _ _ (λ _. tt) (λ e. or_from _ _ h e)

pub tail_is : (k : Class) (c : ℕ) → TailIs k c (tail_by k c)
tail_is class.Letter c = choose (TailIs class.Letter c) (is_u c) _ _ (λ e. e) (λ _. choose (TailIs class.Letter c) (is_l c) _ _ (λ e. e) (λ _. tt))
tail_is class.Zero c = tt
tail_is class.Digit c = tt
tail_is class.Blank c = point_tail class.Blank c refl
tail_is class.Feed c = point_tail class.Feed c refl
tail_is class.Hash c = point_tail class.Hash c refl
tail_is class.Quote c = point_tail class.Quote c refl
tail_is class.Apostrophe c = point_tail class.Apostrophe c refl
tail_is class.Slash c = point_tail class.Slash c refl
tail_is class.Other c = point_tail class.Other c refl

pub outside : (k : Class) (c : ℕ) → (in_word k || c == 46) ≡ false → tail_by k c ≡ tail.Outside
outside class.Letter c e = cc
outside class.Zero c e = cc
outside class.Digit c e = cc
outside class.Blank c e = if_false _ _ e
outside class.Feed c e = if_false _ _ e
outside class.Hash c e = if_false _ _ e
outside class.Quote c e = if_false _ _ e
outside class.Apostrophe c e = if_false _ _ e
outside class.Slash c e = if_false _ _ e
outside class.Other c e = if_false _ _ e

pub no_digit : (b : Base) (k : Class) (c : ℕ) → (in_word k || c == 46) ≡ false → below (radix b) (value_by k c) ≡ None
no_digit b class.Letter c e = cc
no_digit b class.Zero c e = cc
no_digit b class.Digit c e = cc
no_digit b class.Blank c e = refl
no_digit b class.Feed c e = refl
no_digit b class.Hash c e = refl
no_digit b class.Quote c e = refl
no_digit b class.Apostrophe c e = refl
no_digit b class.Slash c e = refl
no_digit b class.Other c e = refl

-- one of two bytes
pub one_of_two : (c a b : ℕ) → (c == a || c == b) ≡ true → (c ≡ a) ⊎ (c ≡ b)
one_of_two c a b e = go (c == a) refl e
  where
    go : (x : Bool) → (c == a) ≡ x → (x || c == b) ≡ true → (c ≡ a) ⊎ (c ≡ b)
    go true h k = inl (eqb-true c a h)
    go false h k = inr (eqb-true c b k)

by_two : (P : ℕ → Type 0) (c a b : ℕ) → (c ≡ a) ⊎ (c ≡ b) → P a → P b → P c
by_two P c a b (inl e) f g = subst P (sym e) f
by_two P c a b (inr e) f g = subst P (sym e) g

pub x_no_octal : (c : ℕ) → is_x c ≡ true → digit_of Octal c ≡ None
unfolding class_of
x_no_octal c e = by_two (λ z. digit_of Octal z ≡ None) c 120 88 (one_of_two c 120 88 e) refl refl

pub u_no_digit : (b : Base) (c : ℕ) → is_u c ≡ true → (digit_of b c ≡ None) × (tail_of c ≡ tail.Unsigned) × (is_x c ≡ false)
unfolding class_of
u_no_digit b c e = by_two (λ z. (digit_of b z ≡ None) × (tail_of z ≡ tail.Unsigned) × (is_x z ≡ false)) c 117 85 (one_of_two c 117 85 e) (refl, refl, refl)
    (refl, refl, refl)

pub l_no_digit : (b : Base) (c : ℕ) → is_l c ≡ true → (digit_of b c ≡ None) × (tail_of c ≡ tail.Long) × (is_x c ≡ false)
unfolding class_of
l_no_digit b c e = by_two (λ z. (digit_of b z ≡ None) × (tail_of z ≡ tail.Long) × (is_x z ≡ false)) c 108 76 (one_of_two c 108 76 e) (refl, refl, refl)
    (refl, refl, refl)

-- `x` stands in a number's run
pub run_no_x : (c : ℕ) → in_run c ≡ false → is_x c ≡ false
unfolding class_of
run_no_x c e = go (is_x c) refl
  where
    go : (b : Bool) → is_x c ≡ b → b ≡ false
    go true h = by_two (λ z. in_run z ≡ false → true ≡ false) c 120 88 (one_of_two c 120 88 h) (λ q. q) (λ q. q) e
    go false h = refl

-- a word that is found is spelled so
pub same_eq : (us vs : List ℕ) → same us vs ≡ true → us ≡ vs
same_eq us vs h = (bytes_eq-Decides us vs).0 h

pub named_spells : {A : Type 0} (f : A → List ℕ) (xs : List A) (us : List ℕ) (a : A) → named f xs us ≡ Some a → us ≡ f a
named_spells f [] us a h = cc
named_spells {A} f (x ∷ xs) us a h = go (λ k. named_spells f xs us a k) (same us (f x)) refl h
  where
    go : (named f xs us ≡ Some a → us ≡ f a) → (b : Bool) → same us (f x) ≡ b → (if b then Some x else named f xs us) ≡ Some a → us ≡ f a
    go ih true e k = let q : x ≡ a = cc in same_eq us (f x) e ∙ ap f q
    go ih false e k = ih k

-- line feeds
pub feeds_more : (us vs : List ℕ) → feeds (us ++ vs) ≡ feeds us + feeds vs
feeds_more [] vs = sym (zero-add _)
feeds_more (c ∷ us) vs = ap (λ n. (if c == 10 then 1 else 0) + n) (feeds_more us vs) ∙ sym (add_assoc _ (feeds us) (feeds vs))

pub feeds_keep : (us : List ℕ) (c : ℕ) → feeds us ≡ 0 → (c == 10) ≡ false → feeds (us ++ c ∷ []) ≡ 0
feeds_keep us c e h = feeds_more us (c ∷ []) ∙ (let q : feeds (c ∷ []) ≡ 0 = ap (λ b. (if b then 1 else 0) + 0) h in omega (arith, e, q))

-- stars and slashes
pub ends_star_more : (vs : List ℕ) (c : ℕ) → ends_star (vs ++ c ∷ []) ≡ (c == 42)
ends_star_more [] c = refl
ends_star_more (a ∷ []) c = refl
ends_star_more (a ∷ b ∷ vs) c = ends_star_more (b ∷ vs) c

pub star_last : (vs : List ℕ) → ends_star vs ≡ true → (body : List ℕ) × (vs ≡ body ++ 42 ∷ [])
star_last [] e = cc
star_last (a ∷ []) e = ([], ap (λ z. z ∷ []) (eqb-true a 42 e))
star_last (a ∷ b ∷ vs) e = let r = star_last (b ∷ vs) e in (a ∷ r.0, ap (λ z. a ∷ z) r.1)

pub has_close_more : (vs : List ℕ) (c : ℕ) → has_close vs ≡ false → (ends_star vs && c == 47) ≡ false → has_close (vs ++ c ∷ []) ≡ false
has_close_more [] c h n = or_from _ _ (go (c == 42)) refl
  where
    go : (b : Bool) → (b && false) ≡ false
    go true = refl
    go false = refl
has_close_more (a ∷ []) c h n = or_from _ _ n (has_close_more [] c refl refl)
has_close_more (a ∷ b ∷ vs) c h n = let k = or_parts ((a == 42) && (b == 47)) (has_close (b ∷ vs)) h in or_from _ _ k.0 (has_close_more (b ∷ vs) c k.1 n)

pub has_close_front : (vs : List ℕ) (c : ℕ) → has_close (vs ++ c ∷ []) ≡ false → (has_close vs ≡ false) × ((ends_star vs && c == 47) ≡ false)
has_close_front [] c h = (refl, refl)
has_close_front (a ∷ []) c h = let k = or_parts ((a == 42) && (c == 47)) (has_close (c ∷ [])) h in (or_from _ _ (go (a == 42)) refl, k.0)
  where
    go : (b : Bool) → (b && false) ≡ false
    go true = refl
    go false = refl
has_close_front (a ∷ b ∷ vs) c h = let k = or_parts ((a == 42) && (b == 47)) (has_close (b ∷ vs ++ c ∷ [])) h in let r = has_close_front (b ∷ vs) c k.1
    in (or_from _ _ k.0 r.0, r.1)
