-- What a loop of the code keeps: a value grows by one reader again and again.
use Rattle.std.proofs.Common.{ℕ, zero, suc, ◌≡◌, ◌<◌, ◌≤◌, refl, sym, ◌∙◌, ap, Bool, true, false, if◌then◌else◌, List, [], ◌∷◌, arith, length}
use Rattle.std.proofs.Common.{length-append, Option, Some, None}
use Rattle.c_tree.specs.declared.token.Token.{Token}
use Rattle.c_parse.specs.declared.refusal.Refusal.{Refusal}
use Rattle.c_parse.specs.declared.refusal.Refusal.TheVariants as refusals
use Rattle.c_parse.specs.Classes.{look, member}
use Rattle.c_parse.specs.Languages.{line_if}
use Rattle.c_parse.specs.Reading.{Reply, Found, Wrong, Deep, bind, picked_reply, read_picked, read_sign, read_both, read_lead, read_optional, read_rest}
use Rattle.c_parse.specs.Gives.{Fails}
use Rattle.c_parse.proofs.Members.{if_true, if_false}
use Rattle.c_parse.proofs.Readers.{Outcome, found, wrong, deep, Reads}

-- what is found leaves fewer tokens, or no more
abbrev pub Shrinks : {A : Type 0} → (List Token → Reply A) → Type 0
Shrinks {A} p = (ts : List Token) (a : A) (r : List Token) → p ts ≡ Found a r → length r < length ts

abbrev pub Keeps : {A : Type 0} → (List Token → Reply A) → Type 0
Keeps {A} p = (ts : List Token) (a : A) (r : List Token) → p ts ≡ Found a r → length r ≤ length ts

pub reads_keeps : {A : Type 0} {L V : A → List Token → Type 0} {p q : List Token → Reply A} {next : List ℕ} {follow : A → List ℕ} → Reads L V p q next follow
    → Keeps p
reads_keeps {A} {L} {V} {p} R ts a r e = go (R.outcome ts) e
  where
    go : {x : Reply A} → Outcome L V p ts x → x ≡ Found a r → length r ≤ length ts
    go (found b us r2 e2 l st) h = let same : r2 ≡ r = cc in omega (arith, ap length e2, length-append us r2, ap length same)
    go (wrong us r2 e2 al st) h = absurd cc
    go (deep us u r2 e2 al c ws v st) h = absurd cc

pub picked_shrinks : {A : Type 0} (f : Token → Option A) → Shrinks (read_picked f)
picked_shrinks f [] a r e = absurd cc
picked_shrinks {A} f (t ∷ ts) a r e = go (f t) e
  where
    go : (x : Option A) → picked_reply t ts x ≡ Found a r → length r < length (t ∷ ts)
    go None e = absurd cc
    go (Some b) e = let same : ts ≡ r = cc in omega (arith, ap length same)

pub both_shrinks : {A B : Type 0} {p : List Token → Reply A} {q : List Token → Reply B} → Shrinks p → Keeps q → Shrinks (read_both p q)
both_shrinks {A} {B} {p} {q} s k ts c r e = go (p ts) refl e
  where
    inner : (a : A) (us : List Token) (y : Reply B) → q us ≡ y → bind y (λ b r'. Found (a, b) r') ≡ Found c r → length r ≤ length us
    inner a us (Found b r2) h e = let same : r2 ≡ r = cc in omega (arith, k us b r2 h, ap length same)
    inner a us (Wrong r2) h e = absurd cc
    inner a us (Deep r2) h e = absurd cc

    go : (x : Reply A) → p ts ≡ x → bind x (λ a r. bind (q r) (λ b r'. Found (a, b) r')) ≡ Found c r → length r < length ts
    go (Found a us) h e = omega (arith, s ts a us h, inner a us (q us) refl e)
    go (Wrong us) h e = absurd cc
    go (Deep us) h e = absurd cc

pub lead_shrinks : {A : Type 0} {p : List Token → Reply A} (k : ℕ) → Keeps p → Shrinks (read_lead k p)
lead_shrinks {A} {p} k s ts a r e = go (read_both (read_sign k) p ts) refl e
  where
    go : (x : Reply (ℕ × A)) → read_both (read_sign k) p ts ≡ x → bind x (λ c r. Found c.1 r) ≡ Found a r → length r < length ts
    go (Found c us) h e = let same : us ≡ r = cc in omega (arith, both_shrinks (picked_shrinks (line_if k)) s ts c us h, ap length same)
    go (Wrong us) h e = absurd cc
    go (Deep us) h e = absurd cc

module _ {A B : Type 0} (test fits : A → Bool) (ks : List ℕ) (g : A → B → A) (t : List Token → Reply B) (no_end : member 0 ks ≡ false) where
  abbrev rest : ℕ → A → List Token → Reply A
  rest k a ts = read_rest test fits ks g t k a ts

  abbrev go_test : A → List Token → Bool
  go_test a ts = if test a then member (look ts) ks else false

  idle : (k : ℕ) (a : A) (s : List Token) → go_test a s ≡ false → rest k a s ≡ Found a s
  idle zero a s h = refl
  idle (suc k) a s h = if_false _ _ h

  begins : (ts : List Token) → member (look ts) ks ≡ true → 0 < length ts
  begins [] h = absurd (let x : true ≡ false = sym h ∙ no_end in cc)
  begins (u ∷ ts) h = omega arith

  -- the front is another one: the value is found
  pub row_ends : (a : A) (ts : List Token) → member (look ts) ks ≡ false → rest (length ts) a ts ≡ Found a ts
  row_ends a ts h = idle (length ts) a ts (go (test a))
    where
      go : (b : Bool) → (if b then member (look ts) ks else false) ≡ false
      go true = h
      go false = refl

  -- the value takes nothing more
  pub row_stays : (a : A) (ts : List Token) → test a ≡ false → rest (length ts) a ts ≡ Found a ts
  row_stays a ts h = idle (length ts) a ts (if_false _ _ h)

  pub row_deep : (a : A) (ts : List Token) → test a ≡ true → member (look ts) ks ≡ true → fits a ≡ false → rest (length ts) a ts ≡ Deep ts
  row_deep a ts h m f = go (length ts) (begins ts m)
    where
      go : (k : ℕ) → 0 < k → rest k a ts ≡ Deep ts
      go zero lt = absurd (omega (arith, lt))
      go (suc k) lt = if_true _ _ (if_true _ _ h ∙ m) ∙ if_false _ _ f

  row_on : (a : A) (ts : List Token) → test a ≡ true → member (look ts) ks ≡ true → fits a ≡ true
      → (j : ℕ) × (length ts ≡ suc j) × (rest (length ts) a ts ≡ bind (t ts) (λ b r. rest j (g a b) r))
  row_on a ts h m f = go (length ts) (begins ts m)
    where
      go : (k : ℕ) → 0 < k → (j : ℕ) × (k ≡ suc j) × (rest k a ts ≡ bind (t ts) (λ b r. rest j (g a b) r))
      go zero lt = absurd (omega (arith, lt))
      go (suc k) lt = (k, refl, if_true _ _ (if_true _ _ h ∙ m) ∙ if_true _ _ f)

  pub row_fails : (a : A) (ts : List Token) (e : Refusal) → test a ≡ true → member (look ts) ks ≡ true → fits a ≡ true → Fails e (t ts)
      → Fails e (rest (length ts) a ts)
  row_fails a ts refusals.Memory h m f x = tt
  row_fails a ts (refusals.Wrong r) h m f x = (row_on a ts h m f).2 ∙ ap (λ z. bind z (λ b r. rest (row_on a ts h m f).0 (g a b) r)) x
  row_fails a ts (refusals.Deep r) h m f x = (row_on a ts h m f).2 ∙ ap (λ z. bind z (λ b r. rest (row_on a ts h m f).0 (g a b) r)) x

  module _ (less : Shrinks t) where
    same_bind : (j k : ℕ) (a : A) (ts : List Token) (x : Reply B) → t ts ≡ x
        → ((b : B) (r : List Token) → length r < length ts → rest j (g a b) r ≡ rest k (g a b) r)
        → bind x (λ b r. rest j (g a b) r) ≡ bind x (λ b r. rest k (g a b) r)
    same_bind j k a ts (Found b r) e ih = ih b r (less ts b r e)
    same_bind j k a ts (Wrong r) e ih = refl
    same_bind j k a ts (Deep r) e ih = refl

    off_end : (a : A) → go_test a [] ≡ false
    off_end a = go (test a)
      where
        go : (b : Bool) → (if b then member 0 ks else false) ≡ false
        go true = no_end
        go false = refl

    enough : (j k : ℕ) (a : A) (ts : List Token) → length ts ≤ j → length ts ≤ k → rest j a ts ≡ rest k a ts
    enough zero zero a ts h i = refl
    enough zero (suc k) a [] h i = sym (idle (suc k) a [] (off_end a))
    enough (suc j) zero a [] h i = idle (suc j) a [] (off_end a)
    enough zero (suc k) a (u ∷ ts) h i = absurd (omega (arith, h))
    enough (suc j) zero a (u ∷ ts) h i = absurd (omega (arith, i))
    enough (suc j) (suc k) a ts h i = ap (λ z. if go_test a ts then (if fits a then z else Deep ts) else Found a ts)
        (same_bind j k a ts (t ts) refl (λ b r lt. enough j k (g a b) r (omega (arith, h, lt)) (omega (arith, i, lt))))

    -- one round
    pub row_step : (a : A) (b : B) (ts r : List Token) → test a ≡ true → member (look ts) ks ≡ true → fits a ≡ true → t ts ≡ Found b r
        → rest (length ts) a ts ≡ rest (length r) (g a b) r
    row_step a b ts r h m f e = let j = row_on a ts h m f in j.2 ∙ ap (λ z. bind z (λ b r. rest j.0 (g a b) r)) e ∙ enough j.0 (length r) (g a b) r
        (omega (arith, j.1, less ts b r e)) (omega arith)

-- a token, and then another reader
pub led : {A : Type 0} (k : ℕ) (p : List Token → Reply A) (ts next : List Token) (l : ℕ) (a : A) (r : List Token) → read_sign k ts ≡ Found l next
    → p next ≡ Found a r → read_lead k p ts ≡ Found a r
led {A} k p ts next l a r e h = ap (λ z. bind {A = ℕ × A} (bind z (λ l s. bind (p s) (λ b s'. Found (l, b) s'))) (λ c s. Found c.1 s)) e ∙ ap
    (λ z. bind {A = ℕ × A} (bind z (λ b s'. Found (l, b) s')) (λ c s. Found c.1 s)) h

pub lead_fails : {A : Type 0} (k : ℕ) (p : List Token → Reply A) (ts next : List Token) (l : ℕ) (e : Refusal) → read_sign k ts ≡ Found l next → Fails e (p next)
    → Fails e (read_lead k p ts)
lead_fails k p ts next l refusals.Memory e h = tt
lead_fails {A} k p ts next l (refusals.Wrong r) e h = ap (λ z. bind {A = ℕ × A} (bind z (λ l s. bind (p s) (λ b s'. Found (l, b) s'))) (λ c s. Found c.1 s)) e ∙
    ap (λ z. bind {A = ℕ × A} (bind z (λ b s'. Found (l, b) s')) (λ c s. Found c.1 s)) h
lead_fails {A} k p ts next l (refusals.Deep r) e h = ap (λ z. bind {A = ℕ × A} (bind z (λ l s. bind (p s) (λ b s'. Found (l, b) s'))) (λ c s. Found c.1 s)) e ∙
    ap (λ z. bind {A = ℕ × A} (bind z (λ b s'. Found (l, b) s')) (λ c s. Found c.1 s)) h

pub paired : {C A : Type 0} (o : List Token → Reply C) (p : List Token → Reply A) (ts next : List Token) (l : C) (a : A) (r : List Token) → o ts ≡ Found l next
    → p next ≡ Found a r → read_both o p ts ≡ Found (l, a) r
paired {C} {A} o p ts next l a r e h = ap (λ z. bind z (λ l s. bind {B = C × A} (p s) (λ b s'. Found (l, b) s'))) e ∙ ap
    (λ z. bind {B = C × A} z (λ b s'. Found (l, b) s')) h

pub pair_fails : {C A : Type 0} (o : List Token → Reply C) (p : List Token → Reply A) (ts next : List Token) (l : C) (e : Refusal) → o ts ≡ Found l next
    → Fails e (p next) → Fails e (read_both o p ts)
pair_fails o p ts next l refusals.Memory e h = tt
pair_fails {C} {A} o p ts next l (refusals.Wrong r) e h = ap (λ z. bind z (λ l s. bind {B = C × A} (p s) (λ b s'. Found (l, b) s'))) e ∙ ap
    (λ z. bind {B = C × A} z (λ b s'. Found (l, b) s')) h
pair_fails {C} {A} o p ts next l (refusals.Deep r) e h = ap (λ z. bind z (λ l s. bind {B = C × A} (p s) (λ b s'. Found (l, b) s'))) e ∙ ap
    (λ z. bind {B = C × A} z (λ b s'. Found (l, b) s')) h

pub first_fails : {C A : Type 0} (o : List Token → Reply C) (p : List Token → Reply A) (ts : List Token) (e : Refusal) → Fails e (o ts)
    → Fails e (read_both o p ts)
first_fails o p ts refusals.Memory h = tt
first_fails {C} {A} o p ts (refusals.Wrong r) h = ap (λ z. bind z (λ l s. bind {B = C × A} (p s) (λ b s'. Found (l, b) s'))) h
first_fails {C} {A} o p ts (refusals.Deep r) h = ap (λ z. bind z (λ l s. bind {B = C × A} (p s) (λ b s'. Found (l, b) s'))) h

pub sign_fails : {A : Type 0} (k : ℕ) (p : List Token → Reply A) (ts : List Token) (e : Refusal) → Fails e (read_sign k ts) → Fails e (read_lead k p ts)
sign_fails k p ts refusals.Memory h = tt
sign_fails {A} k p ts (refusals.Wrong r) h = ap (λ z. bind {A = ℕ × A} (bind z (λ l s. bind (p s) (λ b s'. Found (l, b) s'))) (λ c s. Found c.1 s)) h
sign_fails {A} k p ts (refusals.Deep r) h = ap (λ z. bind {A = ℕ × A} (bind z (λ l s. bind (p s) (λ b s'. Found (l, b) s'))) (λ c s. Found c.1 s)) h

-- what may be absent
pub optional_some : {A : Type 0} (ks : List ℕ) (p : List Token → Reply A) (ts : List Token) (a : A) (r : List Token) → member (look ts) ks ≡ true
    → p ts ≡ Found a r → read_optional ks p ts ≡ Found (Some a) r
optional_some ks p ts a r h e = if_true _ _ h ∙ ap (λ z. bind z (λ a r. Found (Some a) r)) e

pub optional_none : {A : Type 0} (ks : List ℕ) (p : List Token → Reply A) (ts : List Token) → member (look ts) ks ≡ false
    → read_optional ks p ts ≡ Found None ts
optional_none ks p ts h = if_false _ _ h

pub optional_fails : {A : Type 0} (ks : List ℕ) (p : List Token → Reply A) (ts : List Token) (e : Refusal) → member (look ts) ks ≡ true → Fails e (p ts)
    → Fails e (read_optional ks p ts)
optional_fails ks p ts refusals.Memory h x = tt
optional_fails ks p ts (refusals.Wrong r) h x = if_true _ _ h ∙ ap (λ z. bind z (λ a r. Found (Some a) r)) x
optional_fails ks p ts (refusals.Deep r) h x = if_true _ _ h ∙ ap (λ z. bind z (λ a r. Found (Some a) r)) x

pub made_fails : {A B : Type 0} (f : A → B) (x : Reply A) (e : Refusal) → Fails e x → Fails e (bind x (λ a r. Found (f a) r))
made_fails f x refusals.Memory h = tt
made_fails f x (refusals.Wrong r) h = ap (λ z. bind z (λ a r. Found (f a) r)) h
made_fails f x (refusals.Deep r) h = ap (λ z. bind z (λ a r. Found (f a) r)) h
