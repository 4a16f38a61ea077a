-- Reading from the left, for private contracts: the value and the tokens behind it; or the tokens from the first
-- one on with which nothing goes on; or those from the first one on with which only what is too high goes on.
use Rattle.std.specs.Prelude.{ℕ, zero, suc, Bool, true, false, nat_eq, if◌then◌else◌, List, [], ◌∷◌, length, Option, Some, None}
use Rattle.c_tree.specs.declared.token.Token.{Token}
use Rattle.c_parse.specs.Classes.{class, look, member, row_of}
use Rattle.c_parse.specs.Languages.{line_if, lined}

pub data Reply (A : Type 0) : Type 0 where
  Found : A → List Token → Reply A
  Wrong : List Token → Reply A
  Deep : List Token → Reply A

abbrev pub bind : {A B : Type 0} → Reply A → (A → List Token → Reply B) → Reply B
bind (Found a ts) k = k a ts
bind (Wrong ts) k = Wrong ts
bind (Deep ts) k = Deep ts

-- the front token, where f gives a value of it
abbrev pub picked_reply : {A : Type 0} → Token → List Token → Option A → Reply A
picked_reply t ts None = Wrong (t ∷ ts)
picked_reply t ts (Some a) = Found a ts

abbrev pub read_picked : {A : Type 0} → (Token → Option A) → List Token → Reply A
read_picked f [] = Wrong []
read_picked f (t ∷ ts) = picked_reply t ts (f t)

abbrev pub read_sign : ℕ → List Token → Reply ℕ
read_sign k = read_picked (line_if k)

abbrev pub read_among : {A : Type 0} → List (ℕ × A) → List Token → Reply (A × ℕ)
read_among table = read_picked (λ t. lined t.line (row_of (class t) table))

-- the same for a token that parts of height n at most must follow: there are none of height 0
abbrev pub open_reply : {A : Type 0} → Bool → Token → List Token → Option A → Reply A
open_reply none t ts None = Wrong (t ∷ ts)
open_reply none t ts (Some a) = if none then Deep (t ∷ ts) else Found a ts

abbrev pub read_open : {A : Type 0} → ℕ → (Token → Option A) → List Token → Reply A
read_open n f [] = Wrong []
read_open n f (t ∷ ts) = open_reply (nat_eq n 0) t ts (f t)

abbrev pub read_both : {A B : Type 0} → (List Token → Reply A) → (List Token → Reply B) → List Token → Reply (A × B)
read_both p q ts = bind (p ts) (λ a r. bind (q r) (λ b r'. Found (a, b) r'))

abbrev pub read_made : {A B : Type 0} → (A → B) → (List Token → Reply A) → List Token → Reply B
read_made f p ts = bind (p ts) (λ a r. Found (f a) r)

-- p where the front is one of ks, else q
abbrev pub read_either : {A : Type 0} → List ℕ → (List Token → Reply A) → (List Token → Reply A) → List Token → Reply A
read_either ks p q ts = if member (look ts) ks then p ts else q ts

abbrev pub read_absent : {A : Type 0} → A → List Token → Reply A
read_absent c ts = Found c ts

abbrev pub read_optional : {A : Type 0} → List ℕ → (List Token → Reply A) → List Token → Reply (Option A)
read_optional ks p = read_either ks (read_made Some p) (read_absent None)

abbrev pub read_lead : {A : Type 0} → ℕ → (List Token → Reply A) → List Token → Reply A
read_lead k p = read_made (λ c. c.1) (read_both (read_sign k) p)

abbrev pub read_trail : {A : Type 0} → (List Token → Reply A) → ℕ → List Token → Reply A
read_trail p k = read_made (λ c. c.0) (read_both p (read_sign k))

-- a token of class k, and then what has parts of height n at most
abbrev pub read_open_lead : {A : Type 0} → ℕ → ℕ → (List Token → Reply A) → List Token → Reply A
read_open_lead n k p = read_made (λ c. c.1) (read_both (read_open n (line_if k)) p)

-- what is refused because nothing of height 0 is there
abbrev pub read_none : {A : Type 0} → List ℕ → List Token → Reply A
read_none ks ts = if member (look ts) ks then Deep ts else Wrong ts

-- p, and then q1 where the front is one of ks and else q2
abbrev pub read_fork : {A B C D : Type 0} → (A → Bool) → List ℕ → (A → B → D) → (A → C → D) → (List Token → Reply A) → (List Token → Reply B)
    → (List Token → Reply C) → List Token → Reply D
read_fork test ks f g p q1 q2 ts = bind (p ts) (λ a r. if (if test a then member (look r) ks else false) then bind (q1 r) (λ b r'. Found (f a b) r') else bind
    (q2 r) (λ c r'. Found (g a c) r'))

-- a value that grows by t while it passes the test and the front is one of ks; it must fit each time.
-- Each t takes a token, so the length bounds the rounds
abbrev pub read_rest : {A B : Type 0} → (A → Bool) → (A → Bool) → List ℕ → (A → B → A) → (List Token → Reply B) → ℕ → A → List Token → Reply A
read_rest test fits ks g t zero a ts = Found a ts
read_rest test fits ks g t (suc k) a ts = if (if test a then member (look ts) ks else false)
    then (if fits a then bind (t ts) (λ b r. read_rest test fits ks g t k (g a b) r) else Deep ts) else Found a ts

abbrev pub read_row : {A B : Type 0} → (A → Bool) → (A → Bool) → List ℕ → (A → B → A) → (List Token → Reply A) → (List Token → Reply B) → List Token → Reply A
read_row test fits ks g p t ts = bind (p ts) (λ a r. read_rest test fits ks g t (length r) a r)

abbrev pub always : {A : Type 0} → A → Bool
always a = true

-- p, and then t while the front is one of ks
abbrev pub read_built : {A B : Type 0} → List ℕ → (A → B → A) → (List Token → Reply A) → (List Token → Reply B) → List Token → Reply A
read_built ks g p t = read_row always always ks g p t
