-- What reading has to do with a language.
use Rattle.std.proofs.Common.{ℕ, ◌≡◌, refl, sym, ◌∙◌, ap, subst, Bool, true, false, nat_eq, if◌then◌else◌, List, [], ◌∷◌, ◌++◌, append_assoc, ◌⊎◌, inl}
use Rattle.std.proofs.Common.{inr, append-nil, eqb-true, eq-eqb, Option, Some, None, is_some}
use Rattle.c_tree.specs.declared.token.Token.{Token}
use Rattle.c_parse.specs.Classes.{class, look, member}
use Rattle.c_parse.specs.Languages.{picked, both, either, made, absent}
use Rattle.c_parse.specs.Reading.{Reply, Found, Wrong, Deep, bind, picked_reply, read_picked, open_reply, read_open, read_both, read_made, read_either}
use Rattle.c_parse.specs.Reading.{read_absent}
use Rattle.c_parse.proofs.Members.{subset, apart, look-same, if_true, if_false, member-subset, member-apart, member-left, member-right}

-- something of L begins so; what nothing stands before is left to the reader around it
abbrev pub Alive : {A : Type 0} → (A → List Token → Type 0) → List Token → Type 0
Alive {A} L us = (us ≡ []) ⊎ ((b : A) × (vs : List Token) × L b (us ++ vs))

-- What p's reply on ts says, where L is its language and V the same with higher trees.
pub data Outcome {A : Type 0} (L V : A → List Token → Type 0) (p : List Token → Reply A) (ts : List Token) : Reply A → Type 0 where
  found : (a : A) (us r : List Token) → ts ≡ us ++ r → L a us → ((s : List Token) → look s ≡ look r → p (us ++ s) ≡ Found a s) → Outcome L V p ts (Found a r)
  wrong : (us r : List Token) → ts ≡ us ++ r → Alive L us → ((s : List Token) → look s ≡ look r → p (us ++ s) ≡ Wrong s) → Outcome L V p ts (Wrong r)
  deep : (us : List Token) (t : Token) (r : List Token) → ts ≡ us ++ t ∷ r → Alive L us → (c : A) (ws : List Token) → V c (us ++ t ∷ ws)
      → ((s : List Token) → look s ≡ class t → p (us ++ s) ≡ Deep s) → Outcome L V p ts (Deep (t ∷ r))

-- q, the reader of higher trees, replies the same, unless p says that the trees are too high
abbrev pub Agree : {A : Type 0} → Reply A → Reply A → Type 0
Agree x y = (x ≡ y) ⊎ ((r : List Token) × (x ≡ Deep r))

pub record Reads {A : Type 0} (L V : A → List Token → Type 0) (p q : List Token → Reply A) (next : List ℕ) (follow : A → List ℕ) : Type 0 where
  -- L is read, whatever stands behind it that may
  pub complete : (a : A) (us r : List Token) → L a us → member (look r) (follow a) ≡ true → p (us ++ r) ≡ Found a r
  pub outcome : (ts : List Token) → Outcome L V p ts (p ts)
  pub opens : (a : A) (us r : List Token) → L a us → member (look r) (follow a) ≡ true → member (look (us ++ r)) next ≡ true
  pub wider : (a : A) (us : List Token) → L a us → V a us
  pub some : (a : A) × (us : List Token) × V a us
  pub agrees : (ts : List Token) → Agree (p ts) (q ts)

pub weaken : {A : Type 0} {L V L' V' : A → List Token → Type 0} {p : List Token → Reply A} {ts : List Token} {x : Reply A}
    → ((a : A) (us : List Token) → L a us → L' a us) → ((a : A) (us : List Token) → V a us → V' a us) → Outcome L V p ts x → Outcome L' V' p ts x
weaken f g (found a us r e l s) = found a us r e (f a us l) s
weaken {L = L} {L' = L'} f g (wrong us r e al s) = wrong us r e (alive al) s
  where
    alive : Alive L us → Alive L' us
    alive (inl h) = inl h
    alive (inr (b, vs, l)) = inr (b, vs, f b (us ++ vs) l)
weaken {L = L} {L' = L'} f g (deep us t r e al c ws v s) = deep us t r e (alive al) c ws (g c (us ++ t ∷ ws) v) s
  where
    alive : Alive L us → Alive L' us
    alive (inl h) = inl h
    alive (inr (b, vs, l)) = inr (b, vs, f b (us ++ vs) l)

pub bind_agrees : {A B : Type 0} (k k' : A → List Token → Reply B) {x y : Reply A} → Agree x y → ((a : A) (r : List Token) → Agree (k a r) (k' a r))
    → Agree (bind x k) (bind y k')
bind_agrees k k' {x = Found a r} (inl e) h = subst (λ z. Agree (k a r) (bind z k')) e (h a r)
bind_agrees k k' {x = Wrong r} (inl e) h = inl (ap (λ z. bind z k') e)
bind_agrees k k' {x = Deep r} (inl e) h = inl (ap (λ z. bind z k') e)
bind_agrees k k' (inr (r, e)) h = inr (r, ap (λ z. bind z k) e)

-- the same where what the first found is of its language
pub found_agrees : {A B : Type 0} {L V : A → List Token → Type 0} {p : List Token → Reply A} {ts : List Token} (k k' : A → List Token → Reply B) {x y : Reply A}
    → Outcome L V p ts x → Agree x y → ((a : A) (us r : List Token) → L a us → Agree (k a r) (k' a r)) → Agree (bind x k) (bind y k')
found_agrees k k' (found a us r e l s) (inl h) next = subst (λ z. Agree (k a r) (bind z k')) h (next a us r l)
found_agrees k k' (found a us r e l s) (inr (u, h)) next = inr (u, ap (λ z. bind z k) h)
found_agrees k k' (wrong us r e al s) (inl h) next = inl (ap (λ z. bind z k') h)
found_agrees k k' (wrong us r e al s) (inr (u, h)) next = inr (u, ap (λ z. bind z k) h)
found_agrees k k' (deep us t r e al c ws v s) h next = inr (t ∷ r, refl)

module _ {A B : Type 0} (L : A → List Token → Type 0) (L' : B → List Token → Type 0)
    (here : (a : A) (us : List Token) → L a us → (b : B) × (vs : List Token) × L' b (us ++ vs)) where
  alive_after : (a : A) (us us2 : List Token) → L a us → Alive (λ b ws. L' b (us ++ ws)) us2 → Alive L' (us ++ us2)
  alive_after a us us2 l (inl e) = let h = here a us l in inr (h.0, h.1, subst (λ z. L' h.0 (z ++ h.1)) (sym (ap (λ z. us ++ z) e ∙ append-nil us)) h.2)
  alive_after a us us2 l (inr (b, vs, m)) = inr (b, vs, subst (L' b) (sym (append_assoc us us2 vs)) m)

  alive_on : (us : List Token) → Alive L us → Alive L' us
  alive_on us (inl e) = inl e
  alive_on us (inr (b, vs, l)) = let h = here b (us ++ vs) l in inr (h.0, vs ++ h.1, subst (L' h.0) (append_assoc us vs h.1) h.2)

module _ {A B : Type 0} {L V : A → List Token → Type 0} {L' V' : B → List Token → Type 0} (p : List Token → Reply A) (k : A → List Token → Reply B)
    (here : (a : A) (us : List Token) → L a us → (b : B) × (vs : List Token) × L' b (us ++ vs))
    (there : (a : A) (us : List Token) → V a us → (b : B) × (vs : List Token) × V' b (us ++ vs)) where
  after : {ts : List Token} (a : A) (us r : List Token) {y : Reply B} → ts ≡ us ++ r → L a us → ((s : List Token) → look s ≡ look r → p (us ++ s) ≡ Found a s)
      → Outcome (λ b ws. L' b (us ++ ws)) (λ b ws. V' b (us ++ ws)) (k a) r y → Outcome L' V' (λ ts. bind (p ts) k) ts y
  after a us r e la s (found b us2 r2 e2 l s2) = found b (us ++ us2) r2 (e ∙ ap (λ z. us ++ z) e2 ∙ sym (append_assoc us us2 r2)) l
      (λ z h. ap (λ w. bind (p w) k) (append_assoc us us2 z) ∙ ap (λ w. bind w k) (s (us2 ++ z) (look-same us2 r2 z h ∙ ap look (sym e2))) ∙ s2 z h)
  after a us r e la s (wrong us2 r2 e2 al s2) = wrong (us ++ us2) r2 (e ∙ ap (λ z. us ++ z) e2 ∙ sym (append_assoc us us2 r2))
      (alive_after L L' here a us us2 la al) (λ z h. ap (λ w. bind (p w) k) (append_assoc us us2 z) ∙ ap (λ w. bind w k)
      (s (us2 ++ z) (look-same us2 r2 z h ∙ ap look (sym e2))) ∙ s2 z h)
  after a us r e la s (deep us2 t r2 e2 al c ws v s2) = deep (us ++ us2) t r2 (e ∙ ap (λ z. us ++ z) e2 ∙ sym (append_assoc us us2 (t ∷ r2)))
      (alive_after L L' here a us us2 la al) c ws (subst (V' c) (sym (append_assoc us us2 (t ∷ ws))) v)
      (λ z h. ap (λ w. bind (p w) k) (append_assoc us us2 z) ∙ ap (λ w. bind w k) (s (us2 ++ z) (look-same us2 (t ∷ r2) z h ∙ ap look (sym e2))) ∙ s2 z h)

  -- one reader, and then another that depends on what the first found
  pub bind_found : {ts : List Token} {x : Reply A} → Outcome L V p ts x
      → ((a : A) (us r : List Token) → L a us → p (us ++ r) ≡ Found a r → Outcome (λ b ws. L' b (us ++ ws)) (λ b ws. V' b (us ++ ws)) (k a) r (k a r))
      → Outcome L' V' (λ ts. bind (p ts) k) ts (bind x k)
  bind_found (found a us r e l s) next = after a us r e l s (next a us r l (s r refl))
  bind_found (wrong us r e al s) next = wrong us r e (alive_on L L' here us al) (λ z h. ap (λ w. bind w k) (s z h))
  bind_found (deep us t r e al c ws v s) next =
      let h = there c (us ++ t ∷ ws) v in
      deep us t r e (alive_on L L' here us al) h.0 (ws ++ h.1) (subst (V' h.0) (append_assoc us (t ∷ ws) h.1) h.2) (λ z h. ap (λ w. bind w k) (s z h))

  pub bind_outcome : {ts : List Token} {x : Reply A} → Outcome L V p ts x
      → ((a : A) (us r : List Token) → L a us → Outcome (λ b ws. L' b (us ++ ws)) (λ b ws. V' b (us ++ ws)) (k a) r (k a r))
      → Outcome L' V' (λ ts. bind (p ts) k) ts (bind x k)
  bind_outcome o next = bind_found o (λ a us r l e. next a us r l)

-- what has been found, with nothing more read
pub done : {A : Type 0} {L V : A → List Token → Type 0} (a : A) (ts : List Token) → L a [] → Outcome L V (λ s. Found a s) ts (Found a ts)
done a ts l = found a [] ts refl l (λ s h. refl)

-- the same reader of the same language in other words
pub reads_as : {A : Type 0} {L V L' V' : A → List Token → Type 0} {p q : List Token → Reply A} {next : List ℕ} {follow : A → List ℕ}
    → ((a : A) (us : List Token) → L a us → L' a us) → ((a : A) (us : List Token) → L' a us → L a us) → ((a : A) (us : List Token) → V a us → V' a us)
    → Reads L V p q next follow → Reads L' V' p q next follow
reads_as to from up R = record {
  complete = λ a us r l h. R.complete a us r (from a us l) h;
  outcome = λ ts. weaken to up (R.outcome ts);
  opens = λ a us r l h. R.opens a us r (from a us l) h;
  wider = λ a us l. up a us (R.wider a us (from a us l));
  some = (R.some.0, R.some.1, up _ _ R.some.2);
  agrees = R.agrees;
}

-- one token
pub some_front : {A : Type 0} (x : Option A) → is_some x ≡ true → (a : A) × (x ≡ Some a)
some_front None h = absurd cc
some_front (Some a) h = (a, refl)

none_front : {A : Type 0} (x : Option A) → is_some x ≡ false → x ≡ None
none_front None h = refl
none_front (Some a) h = absurd cc

module _ {A : Type 0} (f : Token → Option A) (next : List ℕ) (exact : (t : Token) → member (class t) next ≡ is_some (f t)) (no_end : member 0 next ≡ false)
  where
    pub refuses : (s : List Token) → member (look s) next ≡ false → read_picked f s ≡ Wrong s
    refuses [] h = refl
    refuses (t ∷ s) h = ap (picked_reply t s) (none_front (f t) (sym (exact t) ∙ h))

    pick_outcome : (ts : List Token) → Outcome (picked f) (picked f) (read_picked f) ts (read_picked f ts)
    pick_outcome [] = wrong [] [] refl (inl refl) (λ s h. refuses s (ap (λ z. member z next) h ∙ no_end))
    pick_outcome (t ∷ ts) = go (f t) refl
      where
        go : (x : Option A) → f t ≡ x → Outcome (picked f) (picked f) (read_picked f) (t ∷ ts) (picked_reply t ts x)
        go None e = wrong [] (t ∷ ts) refl (inl refl) (λ s h. refuses s (ap (λ z. member z next) h ∙ exact t ∙ ap is_some e))
        go (Some a) e = found a (t ∷ []) ts refl (t, refl, e) (λ s h. ap (picked_reply t s) e)

    pub reads_picked : (t : Token) → is_some (f t) ≡ true → (follow : A → List ℕ) → Reads (picked f) (picked f) (read_picked f) (read_picked f) next follow
    reads_picked t has follow = record {
      complete = λ a us r l h. ap (λ z. read_picked f (z ++ r)) l.1 ∙ ap (picked_reply l.0 r) l.2;
      outcome = pick_outcome;
      opens = λ a us r l h. ap (λ z. member (look (z ++ r)) next) l.1 ∙ exact l.0 ∙ ap is_some l.2;
      wider = λ a us l. l;
      some = let x = some_front (f t) has in (x.0, t ∷ [], (t, refl, x.1));
      agrees = λ ts. inl refl;
    }

    -- a token, and then what there is none of at height 0
    module _ {B : Type 0} {M W : B → List Token → Type 0} {p q : List Token → Reply B} {next2 : List ℕ} {follow : B → List ℕ} (n m : ℕ)
        (R : nat_eq n 0 ≡ false → Reads M W p q next2 follow) (others : (b : B) × (us : List Token) × W b us)
        (none : n ≡ 0 → (b : B) (us : List Token) → M b us → ⊥) (any : (n ≡ 0 → ⊥) → (b : B) × (us : List Token) × M b us) (pos : nat_eq m 0 ≡ false)
        (t : Token)
        (has : is_some (f t) ≡ true) where
      abbrev step : A → List Token → Reply (A × B)
      step a r = bind (p r) (λ b s. Found (a, b) s)

      open_refuses : (k : ℕ) (s : List Token) → member (look s) next ≡ false → read_open k f s ≡ Wrong s
      open_refuses k [] h = refl
      open_refuses k (t ∷ s) h = ap (open_reply (nat_eq k 0) t s) (none_front (f t) (sym (exact t) ∙ h))

      open_deep : (k : ℕ) (s : List Token) → nat_eq k 0 ≡ true → member (look s) next ≡ true → read_open k f s ≡ Deep s
      open_deep k [] e h = absurd (let x : true ≡ false = sym h ∙ no_end in cc)
      open_deep k (t ∷ s) e h = let x = some_front (f t) (sym (exact t) ∙ h) in ap (open_reply (nat_eq k 0) t s) x.1 ∙ if_true _ _ e

      open_takes : (k : ℕ) (t : Token) (s : List Token) (a : A) → nat_eq k 0 ≡ false → f t ≡ Some a → read_open k f (t ∷ s) ≡ Found a s
      open_takes k t s a e h = ap (open_reply (nat_eq k 0) t s) h ∙ if_false _ _ e

      not_none : (b : B) (us : List Token) → M b us → nat_eq n 0 ≡ false
      not_none b us l = go (nat_eq n 0) refl
        where
          go : (x : Bool) → nat_eq n 0 ≡ x → nat_eq n 0 ≡ false
          go false e = e
          go true e = absurd (none (eqb-true n 0 e) b us l)

      -- where n isn't 0
      plain_outcome : nat_eq n 0 ≡ false → (ts : List Token) → Outcome (picked f) (picked f) (read_open n f) ts (read_open n f ts)
      plain_outcome z [] = wrong [] [] refl (inl refl) (λ s h. open_refuses n s (ap (λ z. member z next) h ∙ no_end))
      plain_outcome z (t ∷ ts) = go (f t) refl
        where
          go : (x : Option A) → f t ≡ x → Outcome (picked f) (picked f) (read_open n f) (t ∷ ts) (open_reply (nat_eq n 0) t ts x)
          go None e = wrong [] (t ∷ ts) refl (inl refl) (λ s h. open_refuses n s (ap (λ z. member z next) h ∙ exact t ∙ ap is_some e))
          go (Some a) e = subst (Outcome (picked f) (picked f) (read_open n f) (t ∷ ts)) (sym (if_false _ _ z))
              (found a (t ∷ []) ts refl (t, refl, e) (λ s h. open_takes n t s a z e))

      zero_outcome : nat_eq n 0 ≡ true → (ts : List Token)
          → Outcome (both (picked f) M) (both (picked f) W) (read_both (read_open n f) p) ts (read_both (read_open n f) p ts)
      zero_outcome z [] = wrong [] [] refl (inl refl) (λ s h. ap (λ w. bind w step) (open_refuses n s (ap (λ z. member z next) h ∙ no_end)))
      zero_outcome z (t ∷ ts) = go (f t) refl
        where
          go : (x : Option A) → f t ≡ x → Outcome (both (picked f) M) (both (picked f) W) (read_both (read_open n f) p) (t ∷ ts)
              (bind (open_reply (nat_eq n 0) t ts x) step)
          go None e = wrong [] (t ∷ ts) refl (inl refl) (λ s h. ap (λ w. bind w step) (open_refuses n s (ap (λ z. member z next) h ∙ exact t ∙ ap is_some e)))
          go (Some a) e = subst (λ w. Outcome (both (picked f) M) (both (picked f) W) (read_both (read_open n f) p) (t ∷ ts) (bind w step))
              (sym (if_true _ _ z))
              (deep [] t ts refl (inl refl) (a, others.0) others.1 (t ∷ [], others.1, refl, (t, refl, e), others.2)
              (λ s h. ap (λ w. bind w step) (open_deep n s z (ap (λ z. member z next) h ∙ exact t ∙ ap is_some e))))

      full : (c : A × B) (us r : List Token) → both (picked f) M c us → member (look r) (follow c.1) ≡ true → read_both (read_open n f) p (us ++ r) ≡ Found c r
      full c us r l h =
          let (us1, us2, e, (t, e1, ft), m) = l in
          ap (read_both (read_open n f) p) (ap (λ z. z ++ r) (e ∙ ap (λ z. z ++ us2) e1))
          ∙ ap (λ w. bind w step) (open_takes n t (us2 ++ r) c.0 (not_none c.1 us2 m) ft)
          ∙ ap (λ w. bind w (λ b s. Found (c.0, b) s)) ((R (not_none c.1 us2 m)).complete c.1 us2 r m h)

      same_step : (z : nat_eq n 0 ≡ false) (a : A) (r : List Token)
          → Agree {A = A × B} (bind (p r) (λ b s. Found (a, b) s)) (bind (q r) (λ b s. Found (a, b) s))
      same_step z a r = bind_agrees (λ b s. Found (a, b) s) (λ b s. Found (a, b) s) ((R z).agrees r) (λ b s. inl refl)

      same_open : (z : Bool) → nat_eq n 0 ≡ z → (ts : List Token) → Agree {A = A × B} (read_both (read_open n f) p ts) (read_both (read_open m f) q ts)
      same_open z e [] = inl refl
      same_open z e (t ∷ ts) = subst (λ w. Agree {A = A × B} (bind (open_reply w t ts (f t)) step) (read_both (read_open m f) q (t ∷ ts))) (sym e)
          (go (f t) z e)
        where
          go : (x : Option A) (z : Bool) → nat_eq n 0 ≡ z
              → Agree {A = A × B} (bind (open_reply z t ts x) step) (bind (open_reply (nat_eq m 0) t ts x) (λ a r. bind (q r) (λ b s. Found (a, b) s)))
          go None z e = inl refl
          go (Some a) true e = inr (t ∷ ts, refl)
          go (Some a) false e = subst (λ w. Agree {A = A × B} (step a ts) (bind w (λ a r. bind (q r) (λ b s. Found (a, b) s)))) (sym (if_false _ _ pos))
              (same_step e a ts)

      widened : (c : A × B) (us : List Token) → both (picked f) M c us → both (picked f) W c us
      widened c us l = (l.0, l.1, l.2, l.3, (R (not_none c.1 l.1 l.4)).wider c.1 l.1 l.4)

      pub reads_opened : Reads (both (picked f) M) (both (picked f) W) (read_both (read_open n f) p) (read_both (read_open m f) q) next (λ c. follow c.1)
      reads_opened = record {
        complete = full;
        outcome = λ ts. go ts (nat_eq n 0) refl;
        opens = λ c us r l h. let (us1, us2, e, (t, e1, ft), m) = l in ap (λ z. member (look (z ++ r)) next) (e ∙ ap (λ z. z ++ us2) e1) ∙ exact t ∙ ap is_some
            ft;
        wider = widened;
        some = let x = some_front (f t) has in ((x.0, others.0), t ∷ others.1, (t ∷ [], others.1, refl, (t, refl, x.1), others.2));
        agrees = same_open (nat_eq n 0) refl;
      }
        where
          go : (ts : List Token) (x : Bool) → nat_eq n 0 ≡ x
              → Outcome (both (picked f) M) (both (picked f) W) (read_both (read_open n f) p) ts (read_both (read_open n f) p ts)
          go ts true z = zero_outcome z ts
          go ts false z =
              let some = any (λ e. let h : true ≡ false = sym (eq-eqb n 0 e) ∙ z in cc) in
              bind_outcome (read_open n f) step (λ a us l. ((a, some.0), some.1, (us, some.1, refl, l, some.2)))
              (λ a us l. ((a, others.0), others.1, (us, others.1, refl, l, others.2))) (plain_outcome z ts)
              (λ a us r l. bind_outcome p (λ b s. Found (a, b) s) (λ b us2 m. ((a, b), [], (us, us2, ap (λ z. us ++ z) (append-nil us2), l, m)))
              (λ b us2 m. ((a, b), [], (us, us2, ap (λ z. us ++ z) (append-nil us2), l, m))) ((R z).outcome r)
              (λ b us2 r2 m. done (a, b) r2 (us, us2, ap (λ z. us ++ z) (append-nil us2), l, m)))

module _ {A : Type 0} {L V : A → List Token → Type 0} {p q : List Token → Reply A} {next : List ℕ} {follow : A → List ℕ} (R : Reads L V p q next follow) where
  pub reads_made : {B : Type 0} (f : A → B) (after : B → List ℕ) → ((a : A) (k : ℕ) → member k (after (f a)) ≡ true → member k (follow a) ≡ true)
      → Reads (made f L) (made f V) (read_made f p) (read_made f q) next after
  reads_made f after fits = record {
    complete = λ b us r l h. ap (λ z. bind z (λ a s. Found (f a) s))
        (R.complete l.0 us r l.2 (fits l.0 _ (subst (λ z. member (look r) (after z) ≡ true) l.1 h))) ∙ ap (λ z. Found z r) (sym l.1);
    outcome = λ ts. bind_outcome p (λ a r. Found (f a) r) (λ a us l. (f a, [], (a, refl, subst (L a) (sym (append-nil us)) l)))
        (λ a us l. (f a, [], (a, refl, subst (V a) (sym (append-nil us)) l))) (R.outcome ts)
        (λ a us r l. done (f a) r (a, refl, subst (L a) (sym (append-nil us)) l));
    opens = λ b us r l h. R.opens l.0 us r l.2 (fits l.0 _ (subst (λ z. member (look r) (after z) ≡ true) l.1 h));
    wider = λ b us l. (l.0, l.1, R.wider l.0 us l.2);
    some = (f R.some.0, R.some.1, (R.some.0, refl, R.some.2));
    agrees = λ ts. bind_agrees (λ a r. Found (f a) r) (λ a r. Found (f a) r) (R.agrees ts) (λ a r. inl refl);
  }

module _ {A B : Type 0} {L V : A → List Token → Type 0} {M W : B → List Token → Type 0} {p q : List Token → Reply A} {p2 q2 : List Token → Reply B}
    {next next2 : List ℕ} {follow : A → List ℕ} {follow2 : B → List ℕ} (R : Reads L V p q next follow) (S : Reads M W p2 q2 next2 follow2) where
  -- L, and then M, of which there is something wherever there is something of L
  pub reads_both : ((a : A) (us : List Token) → L a us → (b : B) × (vs : List Token) × M b vs) → ((a : A) → subset next2 (follow a) ≡ true)
      → Reads (both L M) (both V W) (read_both p p2) (read_both q q2) next (λ c. follow2 c.1)
  reads_both any fits = record {
    complete = λ c us r l h. ap (λ z. read_both p p2 (z ++ r)) l.2 ∙ ap (read_both p p2) (append_assoc l.0 l.1 r) ∙ ap
        (λ z. bind z (λ a s. bind (p2 s) (λ b s'. Found (a, b) s'))) (R.complete c.0 l.0 (l.1 ++ r) l.3
        (member-subset _ next2 _ (fits c.0) (S.opens c.1 l.1 r l.4 h))) ∙ ap (λ z. bind z (λ b s'. Found (c.0, b) s')) (S.complete c.1 l.1 r l.4 h);
    outcome = λ ts. bind_outcome p (λ a r. bind (p2 r) (λ b s. Found (a, b) s))
        (λ a us l. let m = any a us l in ((a, m.0), m.1, (us, m.1, refl, l, m.2))) (λ a us l. ((a, S.some.0), S.some.1, (us, S.some.1, refl, l, S.some.2)))
        (R.outcome ts)
        (λ a us r l. bind_outcome p2 (λ b s. Found (a, b) s) (λ b us2 m. ((a, b), [], (us, us2, ap (λ z. us ++ z) (append-nil us2), l, m)))
        (λ b us2 m. ((a, b), [], (us, us2, ap (λ z. us ++ z) (append-nil us2), R.wider a us l, m))) (S.outcome r)
        (λ b us2 r2 m. done (a, b) r2 (us, us2, ap (λ z. us ++ z) (append-nil us2), l, m)));
    opens = λ c us r l h. ap (λ z. member (look z) next) (ap (λ z. z ++ r) l.2 ∙ append_assoc l.0 l.1 r) ∙ R.opens c.0 l.0 (l.1 ++ r) l.3
        (member-subset _ next2 _ (fits c.0) (S.opens c.1 l.1 r l.4 h));
    wider = λ c us l. (l.0, l.1, l.2, R.wider c.0 l.0 l.3, S.wider c.1 l.1 l.4);
    some = ((R.some.0, S.some.0), R.some.1 ++ S.some.1, (R.some.1, S.some.1, refl, R.some.2, S.some.2));
    agrees = λ ts. bind_agrees (λ a r. bind (p2 r) (λ b s. Found (a, b) s)) (λ a r. bind (q2 r) (λ b s. Found (a, b) s)) (R.agrees ts)
        (λ a r. bind_agrees (λ b s. Found (a, b) s) (λ b s. Found (a, b) s) (S.agrees r) (λ b s. inl refl));
  }

-- a test on the front that goes one way goes this way whatever stands behind
pub same_test : (ks : List ℕ) (ts us r s : List Token) {b : Bool} → ts ≡ us ++ r → member (look ts) ks ≡ b → look s ≡ look r → member (look (us ++ s)) ks ≡ b
same_test ks ts us r s e t h = ap (λ z. member z ks) (look-same us r s h ∙ ap look (sym e)) ∙ t

pub chosen : {A : Type 0} {L V : A → List Token → Type 0} (q q' : List Token → Reply A) {ts : List Token} {x : Reply A} (ks : List ℕ) (b : Bool)
    → member (look ts) ks ≡ b → ((s : List Token) → member (look s) ks ≡ b → q' s ≡ q s) → Outcome L V q ts x → Outcome L V q' ts x
chosen q q' {ts} ks b t go (found a us r e l f) = found a us r e l (λ s h. go (us ++ s) (same_test ks ts us r s e t h) ∙ f s h)
chosen q q' {ts} ks b t go (wrong us r e v f) = wrong us r e v (λ s h. go (us ++ s) (same_test ks ts us r s e t h) ∙ f s h)
chosen q q' {ts} ks b t go (deep us u r e al c ws v f) = deep us u r e al c ws v (λ s h. go (us ++ s) (same_test ks ts us (u ∷ r) s e t h) ∙ f s h)

module _ {A : Type 0} {L V M W : A → List Token → Type 0} {p q p2 q2 : List Token → Reply A} {next next2 : List ℕ} {follow : A → List ℕ}
    (R : Reads L V p q next follow) (S : Reads M W p2 q2 next2 follow) where
  pub reads_either : (ks : List ℕ) → subset next ks ≡ true → apart next2 ks ≡ true
      → Reads (either L M) (either V W) (read_either ks p p2) (read_either ks q q2) (next ++ next2) follow
  reads_either ks here there = record {
    complete = full;
    outcome = λ ts. go ts (member (look ts) ks) refl;
    opens = opening;
    wider = widening;
    some = (R.some.0, R.some.1, inl R.some.2);
    agrees = λ ts. same ts (member (look ts) ks);
  }
    where
      full : (a : A) (us r : List Token) → either L M a us → member (look r) (follow a) ≡ true → read_either ks p p2 (us ++ r) ≡ Found a r
      full a us r (inl l) h = if_true _ _ (member-subset _ next ks here (R.opens a us r l h)) ∙ R.complete a us r l h
      full a us r (inr m) h = if_false _ _ (member-apart _ next2 ks there (S.opens a us r m h)) ∙ S.complete a us r m h

      go : (ts : List Token) (b : Bool) → member (look ts) ks ≡ b → Outcome (either L M) (either V W) (read_either ks p p2) ts (if b then p ts else p2 ts)
      go ts true t = chosen p (read_either ks p p2) ks true t (λ s h. if_true _ _ h) (weaken (λ a ws l. inl l) (λ a ws l. inl l) (R.outcome ts))
      go ts false t = chosen p2 (read_either ks p p2) ks false t (λ s h. if_false _ _ h) (weaken (λ a ws l. inr l) (λ a ws l. inr l) (S.outcome ts))

      same : (ts : List Token) (b : Bool) → Agree (if b then p ts else p2 ts) (if b then q ts else q2 ts)
      same ts true = R.agrees ts
      same ts false = S.agrees ts

      opening : (a : A) (us r : List Token) → either L M a us → member (look r) (follow a) ≡ true → member (look (us ++ r)) (next ++ next2) ≡ true
      opening a us r (inl v) h = member-left _ next next2 (R.opens a us r v h)
      opening a us r (inr w) h = member-right _ next next2 (S.opens a us r w h)

      widening : (a : A) (us : List Token) → either L M a us → either V W a us
      widening a us (inl l) = inl (R.wider a us l)
      widening a us (inr m) = inr (S.wider a us m)

-- no token
pub reads_absent : {A : Type 0} (c : A) (next : List ℕ) → Reads (absent c) (absent c) (read_absent c) (read_absent c) next (λ _. next)
reads_absent c next = record {
  complete = λ a us r l h. ap (λ z. Found c (z ++ r)) l.1 ∙ ap (λ z. Found z r) (sym l.0);
  outcome = λ ts. done c ts (refl, refl);
  opens = λ a us r l h. ap (λ z. member (look (z ++ r)) next) l.1 ∙ h;
  wider = λ a us l. l;
  some = (c, [], (refl, refl));
  agrees = λ ts. inl refl;
}

-- no token, where what may follow depends on the value
pub reads_absent_by : {A : Type 0} (c : A) (follow : A → List ℕ) → Reads (absent c) (absent c) (read_absent c) (read_absent c) (follow c) follow
reads_absent_by c follow = record {
  complete = λ a us r l h. ap (λ z. Found c (z ++ r)) l.1 ∙ ap (λ z. Found z r) (sym l.0);
  outcome = λ ts. done c ts (refl, refl);
  opens = λ a us r l h. ap (λ z. member (look (z ++ r)) (follow c)) l.1 ∙ subst (λ z. member (look r) (follow z) ≡ true) l.0 h;
  wider = λ a us l. l;
  some = (c, [], (refl, refl));
  agrees = λ ts. inl refl;
}
