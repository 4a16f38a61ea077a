-- Languages word by word: what is spelled in one is spelled in another where its value has a property, and what is
-- spelled has a property.
use Rattle.std.proofs.Common.{ℕ, sym, subst, List, [], ◌∷◌, inl, inr, Option, Some, None}
use Rattle.c_tree.specs.declared.token.Token.{Token}
use Rattle.c_parse.specs.Languages.{Lang, sign, both, either, made, optional, lead, trail, many, from_left, built}

abbrev pub On : {A : Type 0} → (A → Type 0) → Lang A → Lang A → Type 0
On {A} P L M = (a : A) (ws : List Token) → L a ws → P a → M a ws

abbrev pub Each : {A : Type 0} → (A → Type 0) → Lang A → Type 0
Each {A} P L = (a : A) (ws : List Token) → L a ws → P a

abbrev pub Any : {A : Type 0} → A → Type 0
Any a = Unit {0}

-- of an option: none, or something with the property
abbrev pub Opt : {A : Type 0} → (A → Type 0) → Option A → Type 0
Opt P None = Unit {0}
Opt P (Some a) = P a

pub on_same : {A : Type 0} (P : A → Type 0) (L : Lang A) → On P L L
on_same P L a ws l h = l

pub on_made : {A B : Type 0} (P : A → Type 0) (Q : B → Type 0) (f : A → B) {L M : Lang A} → ((a : A) → Q (f a) → P a) → On P L M → On Q (made f L) (made f M)
on_made P Q f k m b ws (a, e, l) h = (a, e, m a ws l (k a (subst Q e h)))

pub on_both : {A B : Type 0} (P : A → Type 0) (Q : B → Type 0) (S : A × B → Type 0) {L L' : Lang A} {M M' : Lang B} → ((c : A × B) → S c → P c.0)
    → ((c : A × B) → S c → Q c.1) → On P L L' → On Q M M' → On S (both L M) (both L' M')
on_both P Q S k j m n c ws (us, vs, e, l, r) h = (us, vs, e, m c.0 us l (k c h), n c.1 vs r (j c h))

pub on_either : {A : Type 0} (P : A → Type 0) {L L' M M' : Lang A} → On P L L' → On P M M' → On P (either L M) (either L' M')
on_either P m n a ws (inl l) h = inl (m a ws l h)
on_either P m n a ws (inr l) h = inr (n a ws l h)

pub on_optional : {A : Type 0} (P : A → Type 0) {L M : Lang A} → On P L M → On (Opt P) (optional L) (optional M)
on_optional P m x ws (inl (a, e, l)) h = inl (a, e, m a ws l (subst (Opt P) e h))
on_optional P m x ws (inr l) h = inr l

pub on_lead : {A : Type 0} (P : A → Type 0) (k : ℕ) {L M : Lang A} → On P L M → On P (lead k L) (lead k M)
on_lead P k m = on_made (λ c. P c.1) P (λ c. c.1) (λ c h. h) (on_both Any P (λ c. P c.1) (λ c h. tt) (λ c h. h) (on_same Any (sign k)) m)

pub on_trail : {A : Type 0} (P : A → Type 0) (k : ℕ) {L M : Lang A} → On P L M → On P (trail L k) (trail M k)
on_trail P k m = on_made (λ c. P c.0) P (λ c. c.0) (λ c h. h) (on_both P Any (λ c. P c.0) (λ c h. h) (λ c h. tt) m (on_same Any (sign k)))

All : {A : Type 0} → (A → Type 0) → List A → Type 0
All Q [] = Unit {0}
All Q (x ∷ xs) = Q x × All Q xs

on_many : {B : Type 0} (Q : B → Type 0) {T T' : Lang B} → On Q T T' → (xs : List B) (ws : List Token) → many T xs ws → All Q xs → many T' xs ws
unfolding All
on_many Q m [] ws l h = l
on_many Q m (x ∷ xs) ws (us, vs, e, l, r) h = (us, vs, e, m x us l h.0, on_many Q m xs vs r h.1)

parts : {A B : Type 0} (P : A → Type 0) (Q : B → Type 0) (g : A → B → A) → ((a : A) (b : B) → P (g a b) → P a × Q b) → (a : A) (xs : List B)
    → P (from_left g a xs) → P a × All Q xs
unfolding All
parts P Q g k a [] h = (h, tt)
parts P Q g k a (x ∷ xs) h = let r = parts P Q g k (g a x) xs h in let d = k a x r.0 in (d.0, (d.1, r.1))

pub on_built : {A B : Type 0} (P : A → Type 0) (Q : B → Type 0) (g : A → B → A) {F F' : Lang A} {T T' : Lang B} → ((a : A) (b : B) → P (g a b) → P a × Q b)
    → On P F F' → On Q T T' → On P (built g F T) (built g F' T')
on_built P Q g k m n a ws ((x, xs), e, (us, vs, e2, l, r)) h = let d = parts P Q g k x xs (subst P e h)
    in ((x, xs), e, (us, vs, e2, m x us l d.0, on_many Q n xs vs r d.1))

pub each_any : {A : Type 0} (L : Lang A) → Each Any L
each_any L a ws l = tt

pub each_made : {A B : Type 0} (P : A → Type 0) (Q : B → Type 0) (f : A → B) {L : Lang A} → ((a : A) → P a → Q (f a)) → Each P L → Each Q (made f L)
each_made P Q f k m b ws (a, e, l) = subst Q (sym e) (k a (m a ws l))

pub each_both : {A B : Type 0} (P : A → Type 0) (Q : B → Type 0) {L : Lang A} {M : Lang B} → Each P L → Each Q M → Each (λ c. P c.0 × Q c.1) (both L M)
each_both P Q m n c ws (us, vs, e, l, r) = (m c.0 us l, n c.1 vs r)

pub each_either : {A : Type 0} (P : A → Type 0) {L M : Lang A} → Each P L → Each P M → Each P (either L M)
each_either P m n a ws (inl l) = m a ws l
each_either P m n a ws (inr l) = n a ws l

pub each_optional : {A : Type 0} (P : A → Type 0) {L : Lang A} → Each P L → Each (Opt P) (optional L)
each_optional P m x ws (inl (a, e, l)) = subst (Opt P) (sym e) (m a ws l)
each_optional P m x ws (inr l) = subst (Opt P) (sym l.0) tt

pub each_lead : {A : Type 0} (P : A → Type 0) (k : ℕ) {L : Lang A} → Each P L → Each P (lead k L)
each_lead P k m = each_made (λ c. Unit {0} × P c.1) P (λ c. c.1) (λ c h. h.1) (each_both Any P (each_any (sign k)) m)

pub each_trail : {A : Type 0} (P : A → Type 0) (k : ℕ) {L : Lang A} → Each P L → Each P (trail L k)
each_trail P k m = each_made (λ c. P c.0 × Unit {0}) P (λ c. c.0) (λ c h. h.0) (each_both P Any m (each_any (sign k)))

each_many : {A B : Type 0} (P : A → Type 0) (Q : B → Type 0) (g : A → B → A) {T : Lang B} → ((a : A) (b : B) → P a → Q b → P (g a b)) → Each Q T
    → (a : A) (xs : List B) (ws : List Token) → P a → many T xs ws → P (from_left g a xs)
each_many P Q g k m a [] ws h l = h
each_many P Q g k m a (x ∷ xs) ws h (us, vs, e, l, r) = each_many P Q g k m (g a x) xs vs (k a x h (m x us l)) r

pub each_built : {A B : Type 0} (P : A → Type 0) (Q : B → Type 0) (g : A → B → A) {F : Lang A} {T : Lang B} → ((a : A) (b : B) → P a → Q b → P (g a b))
    → Each P F → Each Q T → Each P (built g F T)
each_built P Q g k m n a ws ((x, xs), e, (us, vs, e2, l, r)) = subst P (sym e) (each_many P Q g k n x xs vs (m x us l) r)
