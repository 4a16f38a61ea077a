-- A reader, and then one of two others.
use Rattle.std.proofs.Common.{ℕ, ◌≡◌, refl, sym, ◌∙◌, ap, subst, Bool, true, false, if◌then◌else◌, List, [], ◌++◌, append_assoc, append-nil, inl, inr}
use Rattle.c_tree.specs.declared.token.Token.{Token}
use Rattle.c_parse.specs.Classes.{look, member}
use Rattle.c_parse.specs.Languages.{both, either, made, such}
use Rattle.c_parse.specs.Reading.{Reply, Found, bind, read_fork}
use Rattle.c_parse.proofs.Members.{subset, apart, if_true, if_false, member-subset, member-apart}
use Rattle.c_parse.proofs.Readers.{Outcome, Agree, Reads, bind_agrees, found_agrees, bind_found, bind_outcome, chosen, done}

module _ {A B C D : Type 0} {L V : A → List Token → Type 0} {M W : B → List Token → Type 0} {N X : C → List Token → Type 0} {p q : List Token → Reply A}
    {p1 q1 : List Token → Reply B} {p2 q2 : List Token → Reply C}
    {next next1 next2 : List ℕ} {follow : A → List ℕ} {follow1 : B → List ℕ} {follow2 : C → List ℕ}
    (R : Reads L V p q next follow) (S : (a : A) (us : List Token) → L a us → Reads M W p1 q1 next1 follow1) (T : Reads N X p2 q2 next2 follow2)
    (joins test : A → Bool) (ks : List ℕ) (f : A → B → D) (g : A → C → D) (after : D → List ℕ)
    (here : subset next1 ks ≡ true) (away : apart next2 ks ≡ true) (goes : (a : A) → joins a ≡ true → subset next1 (follow a) ≡ true)
    (goes2 : (a : A) → subset next2 (follow a) ≡ true)
    (ends : (a : A) (b : B) (k : ℕ) → member k (after (f a b)) ≡ true → member k (follow1 b) ≡ true)
    (ends2 : (a : A) (c : C) (k : ℕ) → member k (after (g a c)) ≡ true → member k (follow2 c) ≡ true)
    (passes : (a : A) → joins a ≡ true → test a ≡ true) (good : (ts : List Token) (a : A) (r : List Token) → p ts ≡ Found a r → test a ≡ true
    → member (look r) ks ≡ true → joins a ≡ true)
    (any : (a : A) (us : List Token) → L a us → (c : C) × (vs : List Token) × N c vs) where
  abbrev F : (A → List Token → Type 0) → (B → List Token → Type 0) → (C → List Token → Type 0) → D → List Token → Type 0
  F L M N = either (made (λ c. f c.0 c.1) (both (such joins L) M)) (made (λ c. g c.0 c.1) (both L N))

  abbrev step : (List Token → Reply B) → (List Token → Reply C) → A → List Token → Reply D
  step p1 p2 a r = if (if test a then member (look r) ks else false) then bind (p1 r) (λ b s. Found (f a b) s) else bind (p2 r) (λ c s. Found (g a c) s)

  off : (a : A) (k : ℕ) → member k ks ≡ false → (if test a then member k ks else false) ≡ false
  off a k h = go (test a)
    where
      go : (b : Bool) → (if b then member k ks else false) ≡ false
      go true = h
      go false = refl

  opening : (d : D) (us r : List Token) → F L M N d us → member (look r) (after d) ≡ true → member (look (us ++ r)) next ≡ true
  opening d us r (inl (ab, e, (us1, us2, e2, tl, m))) h =
      let h' : member (look r) (follow1 ab.1) ≡ true = ends ab.0 ab.1 _ (subst (λ z. member (look r) (after z) ≡ true) e h) in
      ap (λ z. member (look z) next) (ap (λ z. z ++ r) e2 ∙ append_assoc us1 us2 r) ∙ R.opens ab.0 us1 (us2 ++ r) tl.1
      (member-subset _ next1 _ (goes ab.0 tl.0) ((S ab.0 us1 tl.1).opens ab.1 us2 r m h'))
  opening d us r (inr (ac, e, (us1, us2, e2, l, n))) h =
      let h' : member (look r) (follow2 ac.1) ≡ true = ends2 ac.0 ac.1 _ (subst (λ z. member (look r) (after z) ≡ true) e h) in
      ap (λ z. member (look z) next) (ap (λ z. z ++ r) e2 ∙ append_assoc us1 us2 r) ∙ R.opens ac.0 us1 (us2 ++ r) l
      (member-subset _ next2 _ (goes2 ac.0) (T.opens ac.1 us2 r n h'))

  widening : (d : D) (us : List Token) → F L M N d us → F V W X d us
  widening d us (inl (ab, e, (us1, us2, e2, tl, m))) = inl (ab, e, (us1, us2, e2, (tl.0, R.wider ab.0 us1 tl.1), (S ab.0 us1 tl.1).wider ab.1 us2 m))
  widening d us (inr (ac, e, (us1, us2, e2, l, n))) = inr (ac, e, (us1, us2, e2, R.wider ac.0 us1 l, T.wider ac.1 us2 n))

  full : (d : D) (us r : List Token) → F L M N d us → member (look r) (after d) ≡ true → read_fork test ks f g p p1 p2 (us ++ r) ≡ Found d r
  full d us r (inl (ab, e, (us1, us2, e2, tl, m))) h =
      let h' : member (look r) (follow1 ab.1) ≡ true = ends ab.0 ab.1 _ (subst (λ z. member (look r) (after z) ≡ true) e h) in
      let o : member (look (us2 ++ r)) next1 ≡ true = (S ab.0 us1 tl.1).opens ab.1 us2 r m h' in
      ap (read_fork test ks f g p p1 p2) (ap (λ z. z ++ r) e2 ∙ append_assoc us1 us2 r)
      ∙ ap (λ z. bind z (step p1 p2)) (R.complete ab.0 us1 (us2 ++ r) tl.1 (member-subset _ next1 _ (goes ab.0 tl.0) o))
      ∙ if_true _ _ (if_true _ _ (passes ab.0 tl.0) ∙ member-subset _ next1 ks here o)
      ∙ ap (λ z. bind z (λ b s. Found (f ab.0 b) s)) ((S ab.0 us1 tl.1).complete ab.1 us2 r m h')
      ∙ ap (λ z. Found z r) (sym e)
  full d us r (inr (ac, e, (us1, us2, e2, l, n))) h =
      let h' : member (look r) (follow2 ac.1) ≡ true = ends2 ac.0 ac.1 _ (subst (λ z. member (look r) (after z) ≡ true) e h) in
      let o : member (look (us2 ++ r)) next2 ≡ true = T.opens ac.1 us2 r n h' in
      ap (read_fork test ks f g p p1 p2) (ap (λ z. z ++ r) e2 ∙ append_assoc us1 us2 r)
      ∙ ap (λ z. bind z (step p1 p2)) (R.complete ac.0 us1 (us2 ++ r) l (member-subset _ next2 _ (goes2 ac.0) o))
      ∙ if_false _ _ (off ac.0 _ (member-apart _ next2 ks away o))
      ∙ ap (λ z. bind z (λ c s. Found (g ac.0 c) s)) (T.complete ac.1 us2 r n h')
      ∙ ap (λ z. Found z r) (sym e)

  abbrev Behind : List Token → Type 0
  Behind us = Unit {0}

  first_way : (a : A) (us r : List Token) → L a us → joins a ≡ true
      → Outcome (λ d ws. F L M N d (us ++ ws)) (λ d ws. F V W X d (us ++ ws)) (λ s. bind (p1 s) (λ b s'. Found (f a b) s')) r
      (bind (p1 r) (λ b s'. Found (f a b) s'))
  first_way a us r l j = bind_outcome p1 (λ b s. Found (f a b) s)
      (λ b us2 m. (f a b, [], inl ((a, b), refl, (us, us2, ap (λ z. us ++ z) (append-nil us2), (j, l), m))))
      (λ b us2 m. (f a b, [], inl ((a, b), refl, (us, us2, ap (λ z. us ++ z) (append-nil us2), (j, R.wider a us l), m)))) ((S a us l).outcome r)
      (λ b us2 r2 m. done (f a b) r2 (inl ((a, b), refl, (us, us2, ap (λ z. us ++ z) (append-nil us2), (j, l), m))))

  second_way : (a : A) (us r : List Token) → L a us
      → Outcome (λ d ws. F L M N d (us ++ ws)) (λ d ws. F V W X d (us ++ ws)) (λ s. bind (p2 s) (λ c s'. Found (g a c) s')) r
      (bind (p2 r) (λ c s'. Found (g a c) s'))
  second_way a us r l = bind_outcome p2 (λ c s. Found (g a c) s)
      (λ c us2 n. (g a c, [], inr ((a, c), refl, (us, us2, ap (λ z. us ++ z) (append-nil us2), l, n))))
      (λ c us2 n. (g a c, [], inr ((a, c), refl, (us, us2, ap (λ z. us ++ z) (append-nil us2), R.wider a us l, n)))) (T.outcome r)
      (λ c us2 r2 n. done (g a c) r2 (inr ((a, c), refl, (us, us2, ap (λ z. us ++ z) (append-nil us2), l, n))))

  inner : (a : A) (us r : List Token) → L a us → p (us ++ r) ≡ Found a r → (b1 b2 : Bool) → test a ≡ b1 → member (look r) ks ≡ b2
      → Outcome (λ d ws. F L M N d (us ++ ws)) (λ d ws. F V W X d (us ++ ws)) (step p1 p2 a) r
      (if (if b1 then b2 else false) then bind (p1 r) (λ b s. Found (f a b) s) else bind (p2 r) (λ c s. Found (g a c) s))
  inner a us r l e true true t m = chosen (λ s. bind (p1 s) (λ b s'. Found (f a b) s')) (step p1 p2 a) ks true m (λ s h. if_true _ _ (if_true _ _ t ∙ h))
      (first_way a us r l (good (us ++ r) a r e t m))
  inner a us r l e true false t m = chosen (λ s. bind (p2 s) (λ c s'. Found (g a c) s')) (step p1 p2 a) ks false m (λ s h. if_false _ _ (if_true _ _ t ∙ h))
      (second_way a us r l)
  inner a us r l e false b2 t m = chosen (λ s. bind (p2 s) (λ c s'. Found (g a c) s')) (step p1 p2 a) [] false refl (λ s h. if_false _ _ (if_false _ _ t))
      (second_way a us r l)

  same : (a : A) (us r : List Token) → L a us → (b : Bool)
      → Agree (if b then bind (p1 r) (λ b s. Found (f a b) s) else bind (p2 r) (λ c s. Found (g a c) s))
      (if b then bind (q1 r) (λ b s. Found (f a b) s) else bind (q2 r) (λ c s. Found (g a c) s))
  same a us r l true = bind_agrees (λ b s. Found (f a b) s) (λ b s. Found (f a b) s) ((S a us l).agrees r) (λ b s. inl refl)
  same a us r l false = bind_agrees (λ c s. Found (g a c) s) (λ c s. Found (g a c) s) (T.agrees r) (λ b s. inl refl)

  pub reads_fork : Reads (either (made (λ c. f c.0 c.1) (both (such joins L) M)) (made (λ c. g c.0 c.1) (both L N)))
      (either (made (λ c. f c.0 c.1) (both (such joins V) W)) (made (λ c. g c.0 c.1) (both V X))) (read_fork test ks f g p p1 p2)
      (read_fork test ks f g q q1 q2) next after
  reads_fork = record {
    complete = full;
    outcome = λ ts. bind_found p (step p1 p2)
        (λ a us l. let n = any a us l in (g a n.0, n.1, inr ((a, n.0), refl, (us, n.1, refl, l, n.2))))
        (λ a us v. (g a T.some.0, T.some.1, inr ((a, T.some.0), refl, (us, T.some.1, refl, v, T.some.2)))) (R.outcome ts)
        (λ a us r l e. inner a us r l e (test a) (member (look r) ks) refl refl);
    opens = opening;
    wider = widening;
    some = (g R.some.0 T.some.0, R.some.1 ++ T.some.1, inr ((R.some.0, T.some.0), refl, (R.some.1, T.some.1, refl, R.some.2, T.some.2)));
    agrees = λ ts. found_agrees (step p1 p2) (step q1 q2) (R.outcome ts) (R.agrees ts)
        (λ a us r l. same a us r l (if test a then member (look r) ks else false));
  }
