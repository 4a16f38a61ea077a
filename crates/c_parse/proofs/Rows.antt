-- A value that grows by one reader again and again.
use Rattle.std.proofs.Common.{ℕ, zero, suc, ◌≡◌, refl, sym, ◌∙◌, ap, subst, Bool, true, false, if◌then◌else◌, List, [], ◌∷◌, ◌++◌, append_assoc}
use Rattle.std.proofs.Common.{append-nil, inl, inr, arith, ◌<◌, ◌≤◌, length, length-append}
use Rattle.c_tree.specs.declared.token.Token.{Token}
use Rattle.c_parse.specs.Classes.{class, look, member}
use Rattle.c_parse.specs.Languages.{many, built, from_left}
use Rattle.c_parse.specs.Reading.{Reply, Found, Wrong, Deep, bind, read_rest, read_row, read_built, always}
use Rattle.c_parse.proofs.Members.{subset, apart, look-same, if_true, if_false, member-subset, member-apart}
use Rattle.c_parse.proofs.Readers.{Alive, Outcome, found, wrong, deep, Agree, Reads, bind_agrees, reads_as, same_test}

-- a first value, and what one value after another makes of it, each time with a value that passes the tests
pub data Grown {A B : Type 0} (F : A → List Token → Type 0) (T : B → List Token → Type 0) (test fits : A → Bool) (g : A → B → A) : A → List Token → Type 0 where
  start : (a : A) (us : List Token) → F a us → Grown F T test fits g a us
  more : (a : A) (b : B) (us vs : List Token) → Grown F T test fits g a us → test a ≡ true → fits a ≡ true → T b vs → Grown F T test fits g (g a b) (us ++ vs)

pub grown_mono : {A B : Type 0} {F F' : A → List Token → Type 0} {T T' : B → List Token → Type 0} {test fits fits' : A → Bool} {g : A → B → A}
    → ((a : A) (us : List Token) → F a us → F' a us) → ((a : A) → fits a ≡ true → (b : B) (us : List Token) → T b us → T' b us)
    → ((a : A) → fits a ≡ true → fits' a ≡ true) → (a : A) (us : List Token) → Grown F T test fits g a us → Grown F' T' test fits' g a us
grown_mono f t h a us (start b vs l) = start b vs (f b vs l)
grown_mono f t h a us (more c b us1 vs d e1 e2 l) = more c b us1 vs (grown_mono f t h c us1 d) e1 (h c e2) (t c e2 b vs l)

module _ {A B : Type 0} {F F' : A → List Token → Type 0} {T T' : B → List Token → Type 0} {p q : List Token → Reply A} {t t' : List Token → Reply B}
    {next next2 : List ℕ} {follow : A → List ℕ} {follow2 : B → List ℕ}
    (R : Reads F F' p q next follow) (test fits fits' : A → Bool) (S : (a : A) → fits a ≡ true → Reads T T' t t' next2 follow2) (ks : List ℕ) (g : A → B → A)
    (after : List ℕ) (w : List Token)
    (here : subset next2 ks ≡ true) (goes : (a : A) → test a ≡ true → subset ks (follow a) ≡ true) (ends : (a : A) → subset after (follow a) ≡ true)
    (goes2 : (a : A) (b : B) → test (g a b) ≡ true → subset ks (follow2 b) ≡ true) (ends2 : (b : B) → subset after (follow2 b) ≡ true)
    (stops : apart after ks ≡ true) (no_end : member 0 ks ≡ false) (w_in : (b : B) → member (look w) (follow2 b) ≡ true) (w_out : member (look w) next2 ≡ false)
    (mono : (a : A) → fits a ≡ true → fits' a ≡ true)
    (lifts : (a : A) (us : List Token) → Grown F T test fits g a us → fits' a ≡ true)
    (starts : (a : A) → fits a ≡ false → (u : Token) → member (class u) ks ≡ true → (b : B) × (ws : List Token) × T' b (u ∷ ws)) where
  L : A → List Token → Type 0
  L = Grown F T test fits g

  V : A → List Token → Type 0
  V = Grown F' T' test fits' g

  never_empty : (a : A) → fits a ≡ true → (b : B) (us : List Token) → T b us → 0 < length us
  never_empty a f b [] v = let h : member (look w) next2 ≡ true = (S a f).opens b [] w v (w_in b) in absurd (let x : true ≡ false = sym h ∙ w_out in cc)
  never_empty a f b (u ∷ us) v = omega arith

  begins : (ts : List Token) → member (look ts) ks ≡ true → 0 < length ts
  begins [] h = absurd (let x : true ≡ false = sym h ∙ no_end in cc)
  begins (u ∷ ts) h = omega arith

  abbrev rest : ℕ → A → List Token → Reply A
  rest k a ts = read_rest test fits ks g t k a ts

  abbrev go_test : A → List Token → Bool
  go_test a ts = if test a then member (look ts) ks else false

  on : (a : A) (ts : List Token) → test a ≡ true → member (look ts) ks ≡ true → go_test a ts ≡ true
  on a ts e h = if_true _ _ e ∙ h

  idle : (k : ℕ) (a : A) (s : List Token) → go_test a s ≡ false → rest k a s ≡ Found a s
  idle zero a s h = refl
  idle (suc k) a s h = if_false _ _ h

  stopped : (k : ℕ) (a : A) (s : List Token) → length s ≤ k → go_test a s ≡ true → member (look s) ks ≡ true → fits a ≡ false → rest k a s ≡ Deep s
  stopped zero a s le h m e = absurd (omega (arith, begins s m, le))
  stopped (suc k) a s le h m e = if_true _ _ h ∙ if_false _ _ e

  abbrev behind : ℕ → A → B → List Token → Reply A
  behind k a b r = rest k (g a b) r

  taken : (k : ℕ) (a : A) (s : List Token) → length s ≤ k → go_test a s ≡ true → member (look s) ks ≡ true → fits a ≡ true
      → (j : ℕ) × (k ≡ suc j) × (rest k a s ≡ bind (t s) (behind j a))
  taken zero a s le h m e = absurd (omega (arith, begins s m, le))
  taken (suc k) a s le h m e = (k, refl, if_true _ _ h ∙ if_true _ _ e)

  shrinks : (a : A) → fits a ≡ true → (ts : List Token) (b : B) (r : List Token) → t ts ≡ Found b r → length r < length ts
  shrinks a f ts b r e = go ((S a f).outcome ts) e
    where
      go : {x : Reply B} → Outcome T T' t ts x → x ≡ Found b r → length r < length ts
      go (found b2 us r2 e2 l st) h = let same : r2 ≡ r = cc in omega (arith, ap length e2, length-append us r2, never_empty a f b2 us l, ap length same)
      go (wrong us r2 e2 al st) h = absurd cc
      go (deep us u r2 e2 al c ws v st) h = absurd cc

  same_bind : (j k : ℕ) (a : A) → fits a ≡ true → (ts : List Token) (x : Reply B) → t ts ≡ x
      → ((b : B) (r : List Token) → length r < length ts → rest j (g a b) r ≡ rest k (g a b) r) → bind x (behind j a) ≡ bind x (behind k a)
  same_bind j k a f ts (Found b r) e ih = ih b r (shrinks a f ts b r e)
  same_bind j k a f ts (Wrong r) e ih = refl
  same_bind j k a f ts (Deep r) e ih = refl

  off_end : (a : A) → go_test a [] ≡ false
  off_end a = go (test a)
    where
      go : (b : Bool) → (if b then member 0 ks else false) ≡ false
      go true = no_end
      go false = refl

  same_round : (j k : ℕ) (a : A) (ts : List Token) (z : Bool) → fits a ≡ z
      → ((b : B) (r : List Token) → length r < length ts → rest j (g a b) r ≡ rest k (g a b) r)
      → (if go_test a ts then (if z then bind (t ts) (behind j a) else Deep ts) else Found a ts) ≡
      (if go_test a ts then (if z then bind (t ts) (behind k a) else Deep ts) else Found a ts)
  same_round j k a ts true e ih = ap (λ z. if go_test a ts then z else Found a ts) (same_bind j k a e ts (t ts) refl ih)
  same_round j k a ts false e ih = refl

  -- as many rounds as there are tokens are enough
  pub enough : (j k : ℕ) (a : A) (ts : List Token) → length ts ≤ j → length ts ≤ k → rest j a ts ≡ rest k a ts
  enough zero zero a ts h i = refl
  enough zero (suc k) a [] h i = sym (idle (suc k) a [] (off_end a))
  enough (suc j) zero a [] h i = idle (suc j) a [] (off_end a)
  enough zero (suc k) a (u ∷ ts) h i = absurd (omega (arith, h))
  enough (suc j) zero a (u ∷ ts) h i = absurd (omega (arith, i))
  enough (suc j) (suc k) a ts h i = same_round j k a ts (fits a) refl (λ b r lt. enough j k (g a b) r (omega (arith, h, lt)) (omega (arith, i, lt)))

  abbrev all : List Token → Reply A
  all = read_row test fits ks g p t

  -- what is found, and then one round
  round : (a : A) (b : B) (s r : List Token) → test a ≡ true → fits a ≡ true → member (look s) ks ≡ true → t s ≡ Found b r
      → rest (length s) a s ≡ rest (length r) (g a b) r
  round a b s r e f m h =
      let k = taken (length s) a s (omega arith) (on a s e m) m f in
      k.2 ∙ ap (λ z. bind z (behind k.0 a)) h ∙ enough k.0 (length r) (g a b) r (omega (arith, k.1, shrinks a f s b r h)) (omega arith)

  -- where the tokens behind may stand there, what is grown is read up to them
  read_up : (a : A) (us s : List Token) → L a us → member (look s) (follow a) ≡ true → ((c : A) (b : B) → a ≡ g c b → member (look s) (follow2 b) ≡ true)
      → all (us ++ s) ≡ rest (length s) a s
  unfolding L
  read_up a us s (start b vs l) f1 f2 = ap (λ z. bind z (λ a r. rest (length r) a r)) (R.complete b vs s l f1)
  read_up a us s (more c b us1 vs d e1 e2 l) f1 f2 =
      let o : member (look (vs ++ s)) next2 ≡ true = (S c e2).opens b vs s l (f2 c b refl) in
      let m : member (look (vs ++ s)) ks ≡ true = member-subset _ next2 ks here o in
      ap all (append_assoc us1 vs s)
      ∙ read_up c us1 (vs ++ s) d (member-subset _ ks (follow c) (goes c e1) m)
      (λ x y e. member-subset _ ks (follow2 y) (goes2 x y (subst (λ z. test z ≡ true) e e1)) m)
      ∙ round c b (vs ++ s) s e1 e2 m ((S c e2).complete b vs s l (f2 c b refl))

  not_on : (a : A) (s : List Token) → member (look s) ks ≡ false → go_test a s ≡ false
  not_on a s h = go (test a)
    where
      go : (b : Bool) → (if b then member (look s) ks else false) ≡ false
      go true = h
      go false = refl

  full : (a : A) (us r : List Token) → L a us → member (look r) after ≡ true → all (us ++ r) ≡ Found a r
  full a us r l h = read_up a us r l (member-subset _ after (follow a) (ends a) h) (λ x y e. member-subset _ after (follow2 y) (ends2 y) h) ∙ idle (length r) a
      r (not_on a r (member-apart _ after ks stops h))

  -- the loop's state, where a is grown from us and the rest of the rounds is to come
  Steady : A → List Token → List Token → Type 0
  Steady a us ts = (s : List Token) → look s ≡ look ts → all (us ++ s) ≡ rest (length s) a s

  live : (a : A) (us : List Token) → L a us → (vs : List Token) → Alive T vs → test a ≡ true → fits a ≡ true → Alive L (us ++ vs)
  unfolding L
  live a us l vs (inl e) x y = inr (a, [], subst (Grown F T test fits g a) (sym (append-nil (us ++ vs) ∙ ap (λ z. us ++ z) e ∙ append-nil us)) l)
  live a us l vs (inr (b, ws, m)) x y = inr (g a b, ws, subst (Grown F T test fits g (g a b)) (sym (append_assoc us vs ws)) (more a b us (vs ++ ws) l x y m))

  widen : (a : A) (us : List Token) → L a us → V a us
  unfolding L V
  widen = grown_mono R.wider (λ a f. (S a f).wider) mono

  test_same : (a : A) (s ts : List Token) → look s ≡ look ts → go_test a s ≡ go_test a ts
  test_same a s ts h = ap (λ z. if test a then member z ks else false) h

  next_turn : (k : ℕ) (a : A) (us ts : List Token) {x : Reply B} → length ts ≤ suc k → L a us → Steady a us ts → test a ≡ true → member (look ts) ks ≡ true
      → fits a ≡ true → ((b : B) (vs r : List Token) → length r ≤ k → L (g a b) vs → Steady (g a b) vs r → Outcome L V all (vs ++ r) (rest k (g a b) r))
      → Outcome T T' t ts x → Outcome L V all (us ++ ts) (bind x (behind k a))
  unfolding L V Steady
  next_turn k a us ts le l st e m f ih (found b vs r e2 tl st2) =
      subst (λ z. Outcome L V all z (rest k (g a b) r)) (append_assoc us vs r ∙ ap (λ z. us ++ z) (sym e2))
      (ih b (us ++ vs) r (omega (arith, le, ap length e2, length-append vs r, never_empty a f b vs tl)) (more a b us vs l e f tl)
      (λ s h. ap all (append_assoc us vs s) ∙ st (vs ++ s) (look-same vs r s h ∙ ap look (sym e2))
      ∙ round a b (vs ++ s) s e f (same_test ks ts vs r s e2 m h) (st2 s h)))
  next_turn k a us ts le l st e m f ih (wrong vs r e2 al st2) =
      wrong (us ++ vs) r (ap (λ z. us ++ z) e2 ∙ sym (append_assoc us vs r)) (live a us l vs al e f)
      (λ s h. let m2 : member (look (vs ++ s)) ks ≡ true = same_test ks ts vs r s e2 m h in
      let j = taken (length (vs ++ s)) a (vs ++ s) (omega arith) (on a (vs ++ s) e m2) m2 f in
      ap all (append_assoc us vs s) ∙ st (vs ++ s) (look-same vs r s h ∙ ap look (sym e2)) ∙ j.2 ∙ ap (λ z. bind z (behind j.0 a)) (st2 s h))
  next_turn k a us ts le l st e m f ih (deep vs u r e2 al c ws v st2) =
      deep (us ++ vs) u r (ap (λ z. us ++ z) e2 ∙ sym (append_assoc us vs (u ∷ r))) (live a us l vs al e f) (g a c) ws
      (subst (Grown F' T' test fits' g (g a c)) (sym (append_assoc us vs (u ∷ ws))) (more a c us (vs ++ u ∷ ws) (widen a us l) e (lifts a us l) v))
      (λ s h. let m2 : member (look (vs ++ s)) ks ≡ true = same_test ks ts vs (u ∷ r) s e2 m h in
      let j = taken (length (vs ++ s)) a (vs ++ s) (omega arith) (on a (vs ++ s) e m2) m2 f in
      ap all (append_assoc us vs s) ∙ st (vs ++ s) (look-same vs (u ∷ r) s h ∙ ap look (sym e2)) ∙ j.2 ∙ ap (λ z. bind z (behind j.0 a)) (st2 s h))

  too_high : (a : A) (us ts : List Token) → L a us → Steady a us ts → test a ≡ true → member (look ts) ks ≡ true → fits a ≡ false
      → Outcome L V all (us ++ ts) (Deep ts)
  unfolding L V Steady
  too_high a us [] l st e m f = absurd (let x : true ≡ false = sym m ∙ no_end in cc)
  too_high a us (u ∷ ts) l st e m f =
      let b = starts a f u m in
      deep us u ts refl (inr (a, [], subst (Grown F T test fits g a) (sym (append-nil us)) l)) (g a b.0) b.1
      (more a b.0 us (u ∷ b.1) (widen a us l) e (lifts a us l) b.2)
      (λ s h. let m2 : member (look s) ks ≡ true = ap (λ z. member z ks) h ∙ m in st s h ∙ stopped (length s) a s (omega arith) (on a s e m2) m2 f)

  halted : (a : A) (us ts : List Token) → L a us → Steady a us ts → go_test a ts ≡ false → Outcome L V all (us ++ ts) (Found a ts)
  unfolding Steady
  halted a us ts l st e = found a us ts refl l (λ s h. st s h ∙ idle (length s) a s (test_same a s ts h ∙ e))

  turn : (k : ℕ) (a : A) (us ts : List Token) → length ts ≤ k → L a us → Steady a us ts → Outcome L V all (us ++ ts) (rest k a ts)
  turn zero a us [] le l st = halted a us [] l st (off_end a)
  turn zero a us (u ∷ ts) le l st = absurd (omega (arith, le))
  turn (suc k) a us ts le l st = go (λ b vs r. turn k (g a b) vs r) (test a) refl (member (look ts) ks) refl (fits a) refl
    where
      go : ((b : B) (vs r : List Token) → length r ≤ k → L (g a b) vs → Steady (g a b) vs r → Outcome L V all (vs ++ r) (rest k (g a b) r)) → (x : Bool)
          → test a ≡ x → (y : Bool) → member (look ts) ks ≡ y → (z : Bool) → fits a ≡ z
          → Outcome L V all (us ++ ts) (if (if x then y else false) then (if z then bind (t ts) (behind k a) else Deep ts) else Found a ts)
      go ih true e true m true f = next_turn k a us ts le l st e m f ih ((S a f).outcome ts)
      go ih true e true m false f = too_high a us ts l st e m f
      go ih true e false m z f = halted a us ts l st (if_true _ _ e ∙ m)
      go ih false e y m z f = halted a us ts l st (if_false _ _ e)

  first : (ts : List Token) {x : Reply A} → Outcome F F' p ts x → Outcome L V all ts (bind x (λ a r. rest (length r) a r))
  unfolding L V Steady
  first ts (found a us r e l st) = subst (λ z. Outcome L V all z (rest (length r) a r)) (sym e)
      (turn (length r) a us r (omega arith) (start a us l) (λ s h. ap (λ z. bind z (λ a r. rest (length r) a r)) (st s h)))
  first ts (wrong us r e al st) = wrong us r e (alive al) (λ s h. ap (λ z. bind z (λ a r. rest (length r) a r)) (st s h))
    where
      alive : Alive F us → Alive (Grown F T test fits g) us
      alive (inl h) = inl h
      alive (inr (b, vs, l)) = inr (b, vs, start b (us ++ vs) l)
  first ts (deep us u r e al c ws v st) = deep us u r e (alive al) c ws (start c (us ++ u ∷ ws) v)
      (λ s h. ap (λ z. bind z (λ a r. rest (length r) a r)) (st s h))
    where
      alive : Alive F us → Alive (Grown F T test fits g) us
      alive (inl h) = inl h
      alive (inr (b, vs, l)) = inr (b, vs, start b (us ++ vs) l)

  agree_rest : (k : ℕ) (a : A) (ts : List Token) → Agree (rest k a ts) (read_rest test fits' ks g t' k a ts)
  agree_rest zero a ts = inl refl
  agree_rest (suc k) a ts = go (λ b r. agree_rest k (g a b) r) (go_test a ts) (fits a) refl
    where
      go : ((b : B) (r : List Token) → Agree (rest k (g a b) r) (read_rest test fits' ks g t' k (g a b) r)) → (x z : Bool) → fits a ≡ z
          → Agree (if x then (if z then bind (t ts) (behind k a) else Deep ts) else Found a ts)
          (if x then (if fits' a then bind (t' ts) (λ b r. read_rest test fits' ks g t' k (g a b) r) else Deep ts) else Found a ts)
      go ih false z e = inl refl
      go ih true false e = inr (ts, refl)
      go ih true true e = subst (λ w. Agree (bind (t ts) (behind k a)) w) (sym (if_true _ _ (mono a e)))
          (bind_agrees (behind k a) (λ b r. read_rest test fits' ks g t' k (g a b) r) ((S a e).agrees ts) ih)

  opening : (a : A) (us r : List Token) → L a us → member (look r) (follow a) ≡ true → ((c : A) (b : B) → a ≡ g c b → member (look r) (follow2 b) ≡ true)
      → member (look (us ++ r)) next ≡ true
  unfolding L
  opening a us r (start b vs l) f1 f2 = R.opens b vs r l f1
  opening a us r (more c b us1 vs d e1 e2 l) f1 f2 =
      let m : member (look (vs ++ r)) ks ≡ true = member-subset _ next2 ks here ((S c e2).opens b vs r l (f2 c b refl)) in
      ap (λ z. member (look z) next) (append_assoc us1 vs r) ∙ opening c us1 (vs ++ r) d (member-subset _ ks (follow c) (goes c e1) m)
      (λ x y e. member-subset _ ks (follow2 y) (goes2 x y (subst (λ z. test z ≡ true) e e1)) m)

  pub reads_row : Reads (Grown F T test fits g) (Grown F' T' test fits' g) (read_row test fits ks g p t) (read_row test fits' ks g q t') next (λ _. after)
  unfolding L V
  reads_row = record {
    complete = full;
    outcome = λ ts. first ts (R.outcome ts);
    opens = λ a us r l h. opening a us r l (member-subset _ after (follow a) (ends a) h) (λ x y e. member-subset _ after (follow2 y) (ends2 y) h);
    wider = widen;
    some = (R.some.0, R.some.1, start R.some.0 R.some.1 R.some.2);
    agrees = λ ts. bind_agrees (λ a r. rest (length r) a r) (λ a r. read_rest test fits' ks g t' (length r) a r) (R.agrees ts)
        (λ a r. agree_rest (length r) a r);
  }

-- grown is built, where there is no test
snoc_many : {B : Type 0} (T : B → List Token → Type 0) (xs : List B) (b : B) (us vs : List Token) → many T xs us → T b vs → many T (xs ++ b ∷ []) (us ++ vs)
snoc_many T [] b us vs l m = subst (λ z. many T (b ∷ []) (z ++ vs)) (sym l) (vs, [], sym (append-nil vs), m, refl)
snoc_many T (x ∷ xs) b us vs (us1, us2, e, l, m) tb = (us1, us2 ++ vs, ap (λ z. z ++ vs) e ∙ append_assoc us1 us2 vs, l, snoc_many T xs b us2 vs m tb)

from_left_snoc : {A B : Type 0} (g : A → B → A) (a : A) (xs : List B) (b : B) → g (from_left g a xs) b ≡ from_left g a (xs ++ b ∷ [])
from_left_snoc g a [] b = refl
from_left_snoc g a (x ∷ xs) b = from_left_snoc g (g a x) xs b

module _ {A B : Type 0} (F : A → List Token → Type 0) (T : B → List Token → Type 0) (g : A → B → A) where
  pub grown_built : (a : A) (us : List Token) → Grown F T always always g a us → built g F T a us
  grown_built a us (start b vs l) = ((b, []), refl, (vs, [], sym (append-nil vs), l, refl))
  grown_built a us (more c b us1 vs d e1 e2 l) = go (grown_built c us1 d)
    where
      go : built g F T c us1 → built g F T (g c b) (us1 ++ vs)
      go ((x, xs), e, (ws, zs, e3, fx, m)) = (
        (x, xs ++ b ∷ []),
        ap (λ z. g z b) e ∙ from_left_snoc g x xs b,
        (ws, zs ++ vs, ap (λ z. z ++ vs) e3 ∙ append_assoc ws zs vs, fx, snoc_many T xs b zs vs m l),
      )

  on_and_on : (a : A) (xs : List B) (us vs : List Token) → Grown F T always always g a us → many T xs vs
      → Grown F T always always g (from_left g a xs) (us ++ vs)
  on_and_on a [] us vs d m = subst (Grown F T always always g a) (sym (ap (λ z. us ++ z) m ∙ append-nil us)) d
  on_and_on a (x ∷ xs) us vs d (vs1, vs2, e, l, m) = subst (Grown F T always always g (from_left g (g a x) xs))
      (append_assoc us vs1 vs2 ∙ ap (λ z. us ++ z) (sym e)) (on_and_on (g a x) xs (us ++ vs1) vs2 (more a x us vs1 d refl refl l) m)

  pub built_grown : (a : A) (us : List Token) → built g F T a us → Grown F T always always g a us
  built_grown a us ((x, xs), e, (ws, zs, e3, fx, m)) = subst (λ z. Grown F T always always g z us) (sym e)
      (subst (Grown F T always always g (from_left g x xs)) (sym e3) (on_and_on x xs ws zs (start x ws fx) m))

-- a first value, and then any number of values
pub reads_built : {A B : Type 0} {F F' : A → List Token → Type 0} {T T' : B → List Token → Type 0} {p q : List Token → Reply A} {t t' : List Token → Reply B}
    {next next2 : List ℕ} {follow : A → List ℕ} {follow2 : B → List ℕ}
    (R : Reads F F' p q next follow) (S : Reads T T' t t' next2 follow2) (ks : List ℕ) (g : A → B → A) (after : List ℕ) (w : List Token)
    → subset next2 ks ≡ true → ((a : A) → subset ks (follow a) ≡ true) → ((a : A) → subset after (follow a) ≡ true) → ((b : B) → subset ks (follow2 b) ≡ true)
    → ((b : B) → subset after (follow2 b) ≡ true)
    → apart after ks ≡ true → member 0 ks ≡ false → ((b : B) → member (look w) (follow2 b) ≡ true) → member (look w) next2 ≡ false
    → Reads (built g F T) (built g F' T') (read_built ks g p t) (read_built ks g q t') next (λ _. after)
reads_built {F = F} {F' = F'} {T = T} {T' = T'} R S ks g after w here goes ends goes2 ends2 stops no_end w_in w_out =
    reads_as (grown_built F T g) (built_grown F T g) (grown_built F' T' g)
    (reads_row R always always always (λ a f. S) ks g after w here (λ a h. goes a) ends (λ a b h. goes2 b) ends2 stops no_end w_in w_out (λ a h. h)
    (λ a us l. refl) (λ a h u m. absurd (let x : true ≡ false = h in cc)))
