-- Languages with values: `L a ws` says that the tokens `ws` spell the value `a`. A grammar's rule is written
-- with the words below.
use Rattle.std.specs.Prelude.{ℕ, ◌≡◌, nat_eq, Bool, true, if◌then◌else◌, List, [], ◌∷◌, ◌++◌, ◌⊎◌, Option, Some, None, option_map}
use Rattle.c_tree.specs.declared.token.Token.{Token}
use Rattle.c_parse.specs.Classes.{class, row_of}

abbrev pub Lang : Type 0 → Type 1
Lang A = A → List Token → Type 0

-- one token, whose value f gives
abbrev pub picked : {A : Type 0} → (Token → Option A) → Lang A
picked f a ws = (t : Token) × (ws ≡ t ∷ []) × (f t ≡ Some a)

-- a token's line, where it is of class k
abbrev pub line_if : ℕ → Token → Option ℕ
line_if k t = if nat_eq (class t) k then Some t.line else None

-- one token of class k, with its line
abbrev pub sign : ℕ → Lang ℕ
sign k = picked (line_if k)

abbrev pub lined : {A : Type 0} → ℕ → Option A → Option (A × ℕ)
lined l x = option_map (λ a. (a, l)) x

-- one token of a class that the table has, with what the table has for it and its line
abbrev pub among : {A : Type 0} → List (ℕ × A) → Lang (A × ℕ)
among table = picked (λ t. lined t.line (row_of (class t) table))

-- L, and then M
abbrev pub both : {A B : Type 0} → Lang A → Lang B → Lang (A × B)
both L M p ws = (us : List Token) × (vs : List Token) × (ws ≡ us ++ vs) × L p.0 us × M p.1 vs

-- either of the two
abbrev pub either : {A : Type 0} → Lang A → Lang A → Lang A
either L M a ws = L a ws ⊎ M a ws

-- what L spells, made into another value
abbrev pub made : {A B : Type 0} → (A → B) → Lang A → Lang B
made f L b ws = (a : _) × (b ≡ f a) × L a ws

-- L, where its value passes the test
abbrev pub such : {A : Type 0} → (A → Bool) → Lang A → Lang A
such test L a ws = (test a ≡ true) × L a ws

-- no token
abbrev pub absent : {A : Type 0} → A → Lang A
absent c a ws = (a ≡ c) × (ws ≡ [])

-- L or nothing
abbrev pub optional : {A : Type 0} → Lang A → Lang (Option A)
optional L = either (made Some L) (absent None)

-- a token of class k, and then L
abbrev pub lead : {A : Type 0} → ℕ → Lang A → Lang A
lead k L = made (λ p. p.1) (both (sign k) L)

-- L, and then a token of class k
abbrev pub trail : {A : Type 0} → Lang A → ℕ → Lang A
trail L k = made (λ p. p.0) (both L (sign k))

-- any number of L
abbrev pub many : {A : Type 0} → Lang A → Lang (List A)
many L [] ws = ws ≡ []
many L (a ∷ more) ws = (us : List Token) × (vs : List Token) × (ws ≡ us ++ vs) × L a us × many L more vs

-- what is built from a start by one value after another
abbrev pub from_left : {A B : Type 0} → (A → B → A) → A → List B → A
from_left g a [] = a
from_left g a (b ∷ more) = from_left g (g a b) more

-- L, and then any number of M, from which a value is built step by step
abbrev pub built : {A B : Type 0} → (A → B → A) → Lang A → Lang B → Lang A
built g L M = made (λ c. from_left g c.0 c.1) (both L (many M))
