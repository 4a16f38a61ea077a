-- From reading to whole lists of tokens.
use Rattle.std.proofs.Common.{ℕ, suc, ◌≡◌, ◌+◌, ◌<◌, ◌≤◌, refl, sym, ◌∙◌, ap, subst, Bool, true, false, nat_eq, if◌then◌else◌, List, [], ◌∷◌, ◌++◌}
use Rattle.std.proofs.Common.{append_assoc, append-nil, ◌⊎◌, inl, inr, arith, length, take, length-append}
use Rattle.std.proofs.lemmas.Bool.{ne_eqb}
use Rattle.std.proofs.Math.Seq.{take-append_seam, take-append-add}
use Rattle.c_tree.specs.declared.token.Token.{Token}
use Rattle.c_tree.specs.declared.token.TokenKind.{TokenKind}
use Rattle.c_tree.specs.declared.token.TokenKind.TheVariants as kinds
use Rattle.c_tree.specs.declared.token.Header.TheVariants as headers
use Rattle.c_tree.specs.declared.declaration.Module.{Module}
use Rattle.c_parse.specs.declared.fault.ParseKind.TheVariants as faults
use Rattle.c_parse.specs.Classes.{class, kind_class, punct, word, look}
use Rattle.c_parse.specs.Trees.{module_of}
use Rattle.c_parse.specs.Modules.{IsModule}
use Rattle.c_parse.specs.Promise.{Spells, limit, IsAccepted, Continues, GoesOn, IsFault}
use Rattle.c_parse.specs.Reading.{Reply, Found, Wrong, Deep, bind}
use Rattle.c_parse.specs.ModuleReaders.{read_module, read_whole}
use Rattle.c_parse.proofs.Members.{if_false}
use Rattle.c_parse.proofs.Readers.{Alive, Outcome, found, wrong, deep, Agree, bind_agrees}
use Rattle.c_parse.proofs.Numbers.{punct_above, word_above}
use Rattle.c_parse.proofs.ItemRules.{reads_module}

-- only the end is of class 0
kind_some : (k : TokenKind) → nat_eq (kind_class k) 0 ≡ false
kind_some (kinds.Include headers.Stdio) = refl
kind_some (kinds.Include headers.Stdlib) = refl
kind_some (kinds.Name n) = refl
kind_some (kinds.Word r) = ne_eqb (word r) 0 (λ e. omega (arith, e, word_above r))
kind_some (kinds.Punct q) = ne_eqb (punct q) 0 (λ e. omega (arith, e, punct_above q))
kind_some (kinds.Constant v t) = refl

ends : (r : List Token) → nat_eq (look r) 0 ≡ true → r ≡ []
ends [] h = refl
ends (t ∷ r) h = absurd (let x : true ≡ false = sym h ∙ kind_some t.kind in cc)

finish : Module → List Token → Reply Module
finish m r = if nat_eq (look r) 0 then Found m r else Wrong r

positive : (n : ℕ) → nat_eq (suc n) 0 ≡ false
positive n = ne_eqb (suc n) 0 (λ e. omega (arith, e))

Good : ℕ → Type 0
Good n = nat_eq n 0 ≡ false

-- a module is read whole
whole_found : (n m : ℕ) → suc (suc n) < m → nat_eq n 0 ≡ false → (x : Module) (ts : List Token) → IsModule n x ts → read_whole n ts ≡ Found x []
whole_found n m lt pos x ts l = ap (read_whole n) (sym (append-nil ts)) ∙ ap (λ z. bind z (λ m r. if nat_eq (look r) 0 then Found m r else Wrong r))
    ((reads_module n m lt pos).complete x ts [] l refl)

whole_agrees : (n m : ℕ) → suc (suc n) < m → nat_eq n 0 ≡ false → (ts : List Token) → Agree (read_whole n ts) (read_whole m ts)
whole_agrees n m lt pos ts = bind_agrees (λ m r. if nat_eq (look r) 0 then Found m r else Wrong r) (λ m r. if nat_eq (look r) 0 then Found m r else Wrong r)
    ((reads_module n m lt pos).agrees ts) (λ a r. inl refl)

empty_module : (n : ℕ) → IsModule n (module_of []) []
empty_module n = ([], refl, (([], []), refl, ([], [], refl, (refl, refl), refl)))

-- how reading ends: with a module, or before r, where the tokens before go on and it stops so whatever follows r's first
pub data Ends (n m : ℕ) (ts : List Token) : Reply Module → Type 0 where
  all : (x : Module) → IsModule n x ts → Ends n m ts (Found x [])
  stops : (us r : List Token) → ts ≡ us ++ r → (x : Module) (vs : List Token) → IsModule n x (us ++ vs)
      → ((s : List Token) → look s ≡ look r → read_whole n (us ++ s) ≡ Wrong s) → Ends n m ts (Wrong r)
  sinks : (us : List Token) (t : Token) (r : List Token) → ts ≡ us ++ t ∷ r → (x : Module) (vs : List Token) → IsModule n x (us ++ vs)
      → (y : Module) (ws : List Token) → IsModule m y (us ++ t ∷ ws) → ((s : List Token) → look s ≡ class t → read_whole n (us ++ s) ≡ Deep s)
      → Ends n m ts (Deep (t ∷ r))

going : (n : ℕ) (us : List Token) → Alive (IsModule n) us → (x : Module) × (vs : List Token) × IsModule n x (us ++ vs)
going n us (inl e) = (module_of [], [], subst (λ z. IsModule n (module_of []) (z ++ [])) (sym e) (empty_module n))
going n us (inr l) = l

ends_of : (n m : ℕ) (ts : List Token) {x : Reply Module} → Outcome (IsModule n) (IsModule m) (read_module n) ts x
    → Ends n m ts (bind x (λ m r. if nat_eq (look r) 0 then Found m r else Wrong r))
ends_of n m ts (found a us r e l st) = go (nat_eq (look r) 0) refl
  where
    go : (b : Bool) → nat_eq (look r) 0 ≡ b → Ends n m ts (if b then Found a r else Wrong r)
    go true h = let q : r ≡ [] = ends r h in subst (λ z. Ends n m ts (Found a z)) (sym q)
        (all a (subst (IsModule n a) (sym (e ∙ ap (λ z. us ++ z) q ∙ append-nil us)) l))
    go false h = stops us r e a [] (subst (IsModule n a) (sym (append-nil us)) l)
        (λ s k. ap (λ z. bind z (λ m r. if nat_eq (look r) 0 then Found m r else Wrong r)) (st s k) ∙ if_false _ _ (ap (λ z. nat_eq z 0) k ∙ h))
ends_of n m ts (wrong us r e al st) = let g = going n us al in stops us r e g.0 g.1 g.2
    (λ s k. ap (λ z. bind z (λ m r. if nat_eq (look r) 0 then Found m r else Wrong r)) (st s k))
ends_of n m ts (deep us t r e al c ws v st) = let g = going n us al in sinks us t r e g.0 g.1 g.2 c ws v
    (λ s k. ap (λ z. bind z (λ m r. if nat_eq (look r) 0 then Found m r else Wrong r)) (st s k))

pub ended : (n m : ℕ) → suc (suc n) < m → nat_eq n 0 ≡ false → (ts : List Token) → Ends n m ts (read_whole n ts)
ended n m lt pos ts = ends_of n m ts ((reads_module n m lt pos).outcome ts)

-- whatever height bounds it, a module is read so, or reading sinks
spelled_read : (n k : ℕ) → nat_eq n 0 ≡ false → (x : Module) (ts : List Token) → IsModule (suc k) x ts
    → (read_whole n ts ≡ Found x []) ⊎ ((r : List Token) × (read_whole n ts ≡ Deep r))
spelled_read n k pos x ts l =
    let j = n + k + 10 in
    go (whole_agrees n j (omega arith) pos ts) (whole_found j (j + 10) (omega arith) (ne_eqb j 0 (λ e. omega (arith, e))) x ts
    ((reads_module (suc k) j (omega arith) (positive k)).wider x ts l))
  where
    go : {y : Reply Module} → Agree (read_whole n ts) y → y ≡ Found x [] → (read_whole n ts ≡ Found x []) ⊎ ((r : List Token) × (read_whole n ts ≡ Deep r))
    go (inl e) h = inl (e ∙ h)
    go (inr d) h = inr d

some_limit : nat_eq limit 0 ≡ false
unfolding limit
some_limit = refl

spelled : (x : Module) (ts : List Token) → Spells x ts → (read_whole limit ts ≡ Found x []) ⊎ ((r : List Token) × (read_whole limit ts ≡ Deep r))
spelled x ts (k, l) = spelled_read limit k some_limit x ts l

accepted : (x : Module) (ts : List Token) → IsAccepted x ts → read_whole limit ts ≡ Found x []
accepted x ts l = whole_found limit (limit + 10) (omega arith) some_limit x ts l

-- a token with which reading stops goes on with nothing
not_spelled : (ts : List Token) {y : Reply Module} → read_whole limit ts ≡ y → ((x : Module) → y ≡ Found x [] → ⊥) → ((r : List Token) → y ≡ Deep r → ⊥)
    → (x : Module) → Spells x ts → ⊥
not_spelled ts e f d x l = go (spelled x ts l)
  where
    go : (read_whole limit ts ≡ Found x []) ⊎ ((r : List Token) × (read_whole limit ts ≡ Deep r)) → ⊥
    go (inl h) = f x (sym e ∙ h)
    go (inr h) = d h.0 (sym e ∙ h.1)

wrong_found : (r : List Token) (x : Module) → ◌≡◌ {A = Reply Module} (Wrong r) (Found x []) → ⊥
wrong_found r x e = cc

wrong_deep : (r s : List Token) → ◌≡◌ {A = Reply Module} (Wrong r) (Deep s) → ⊥
wrong_deep r s e = cc

deep_found : (r : List Token) (x : Module) → ◌≡◌ {A = Reply Module} (Deep r) (Found x []) → ⊥
deep_found r x e = cc

module _ (ts us r : List Token) (e : ts ≡ us ++ r) where
  front : take (length us) ts ≡ us
  front = ap (take (length us)) e ∙ take-append_seam us r

  one_on : take (length us + 1) ts ≡ us ++ take 1 r
  one_on = ap (take (length us + 1)) e ∙ take-append-add us r 1

  within_it : length us ≤ length ts
  within_it = omega (arith, ap length e, length-append us r)

  at_end : length us ≡ length ts → r ≡ []
  at_end h = none r (omega (arith, h, ap length e, length-append us r))
    where
      none : (r : List Token) → length r ≡ 0 → r ≡ []
      none [] h = refl
      none (t ∷ r) h = absurd (omega (arith, h))

  inside : length us < length ts → (t : Token) × (s : List Token) × (r ≡ t ∷ s)
  inside h = some r (omega (arith, h, ap length e, length-append us r))
    where
      some : (r : List Token) → 0 < length r → (t : Token) × (s : List Token) × (r ≡ t ∷ s)
      some [] h = absurd (omega (arith, h))
      some (t ∷ s) h = (t, s, refl)

  -- what begins with us and r's first token
  on_from : (P : Module → List Token → Type 0) → length us < length ts → (x : Module) (vs : List Token) → P x (take (length us + 1) ts ++ vs)
      → (t : Token) × (s : List Token) × (r ≡ t ∷ s) × P x (us ++ t ∷ vs)
  on_from P h x vs l =
      let i = inside h in
      (i.0, i.1, i.2, subst (P x) (append_assoc us (i.0 ∷ []) vs) (subst (λ z. P x (z ++ vs)) (one_on ∙ ap (λ z. us ++ take 1 z) i.2) l))

  onto : (P : Module → List Token → Type 0) (t : Token) (s : List Token) → r ≡ t ∷ s → (x : Module) (vs : List Token) → P x (us ++ t ∷ vs)
      → P x (take (length us + 1) ts ++ vs)
  onto P t s h x vs l = subst (λ z. P x (z ++ vs)) (sym (one_on ∙ ap (λ z. us ++ take 1 z) h)) (subst (P x) (sym (append_assoc us (t ∷ []) vs)) l)

pub wrong_fault : (ts us r : List Token) → ts ≡ us ++ r → (x : Module) (vs : List Token) → IsModule limit x (us ++ vs)
    → ((s : List Token) → look s ≡ look r → read_whole limit (us ++ s) ≡ Wrong s) → IsFault faults.Unexpected ts (length us)
wrong_fault ts us r e x vs l st = record {
  within = within_it ts us r e;
  before = subst GoesOn (sym (front ts us r e)) (x, vs, l);
  here = λ lt g. here_none lt g;
  whole = λ h y k. wrong_found [] y (sym (at_whole h) ∙ accepted y ts k);
  cause = (λ lt g. none_here lt g, λ h y k. not_spelled ts (at_whole h) (wrong_found []) (wrong_deep []) y k);
}
  where
    at_whole : length us ≡ length ts → read_whole limit ts ≡ Wrong []
    at_whole h = let q = at_end ts us r e h in ap (read_whole limit) (e ∙ ap (λ z. us ++ z) q) ∙ st [] (ap look (sym q))

    stopped : (t : Token) (s vs : List Token) → r ≡ t ∷ s → read_whole limit (us ++ t ∷ vs) ≡ Wrong (t ∷ vs)
    stopped t s vs q = st (t ∷ vs) (sym (ap look q))

    here_none : length us < length ts → GoesOn (take (length us + 1) ts) → ⊥
    here_none lt (y, ws, k) = let f = on_from ts us r e IsAccepted lt y ws k in wrong_found (f.0 ∷ ws) y
        (sym (stopped f.0 f.1 ws f.2) ∙ accepted y (us ++ f.0 ∷ ws) f.3)

    none_here : length us < length ts → Continues (take (length us + 1) ts) → ⊥
    none_here lt (y, ws, k) = let f = on_from ts us r e Spells lt y ws k in not_spelled (us ++ f.0 ∷ ws) (stopped f.0 f.1 ws f.2) (wrong_found (f.0 ∷ ws))
        (wrong_deep (f.0 ∷ ws)) y f.3

pub deep_fault : (m : ℕ) (ts us : List Token) (t : Token) (r : List Token) → ts ≡ us ++ t ∷ r → (x : Module) (vs : List Token) → IsModule limit x (us ++ vs)
    → (y : Module) (ws : List Token) → IsModule (suc m) y (us ++ t ∷ ws) → ((s : List Token) → look s ≡ class t → read_whole limit (us ++ s) ≡ Deep s)
    → IsFault faults.Deep ts (length us)
deep_fault m ts us t r e x vs l y ws v st = record {
  within = within_it ts us (t ∷ r) e;
  before = subst GoesOn (sym (front ts us (t ∷ r) e)) (x, vs, l);
  here = λ lt g. here_none lt g;
  whole = λ h z k. absurd (omega (arith, h, ap length e, length-append us (t ∷ r)));
  cause = (λ lt. (y, ws, onto ts us (t ∷ r) e Spells t r refl y ws (m, v)), λ h. absurd (omega (arith, h, ap length e, length-append us (t ∷ r))));
}
  where
    here_none : length us < length ts → GoesOn (take (length us + 1) ts) → ⊥
    here_none lt (z, us2, k) =
        let f = on_from ts us (t ∷ r) e IsAccepted lt z us2 k in
        let same : class t ≡ class f.0 = ap look f.2 in
        deep_found (f.0 ∷ us2) z (sym (st (f.0 ∷ us2) (sym same)) ∙ accepted z (us ++ f.0 ∷ us2) f.3)

-- what the parts of the code's answer are
pub read_only : (ts : List Token) (x : Module) → read_whole limit ts ≡ Found x [] → (other : Module) → Spells other ts → x ≡ other
read_only ts x e other l = go (spelled other ts l)
  where
    go : (read_whole limit ts ≡ Found other []) ⊎ ((r : List Token) × (read_whole limit ts ≡ Deep r)) → x ≡ other
    go (inl h) = let q : Found x [] ≡ Found other [] = sym e ∙ h in cc
    go (inr h) = absurd (let q : Found x [] ≡ Deep h.0 = sym e ∙ h.1 in cc)

the_ends : (ts : List Token) → Ends limit (suc (limit + 10)) ts (read_whole limit ts)
the_ends ts = ended limit (suc (limit + 10)) (omega arith) some_limit ts

pub read_accepted : (ts : List Token) (x : Module) → read_whole limit ts ≡ Found x [] → IsAccepted x ts
read_accepted ts x e = go (the_ends ts) e
  where
    go : {y : Reply Module} → Ends limit (suc (limit + 10)) ts y → y ≡ Found x [] → IsAccepted x ts
    go (all z l) h = let q : z ≡ x = cc in subst (λ w. IsModule limit w ts) q l
    go (stops us r e2 z vs l st) h = absurd cc
    go (sinks us t r e2 z vs l y ws v st) h = absurd cc

pub read_wrong : (ts r : List Token) → read_whole limit ts ≡ Wrong r → (us : List Token) × (ts ≡ us ++ r) × IsFault faults.Unexpected ts (length us)
read_wrong ts r e = go (the_ends ts) e
  where
    go : {y : Reply Module} → Ends limit (suc (limit + 10)) ts y → y ≡ Wrong r → (us : List Token) × (ts ≡ us ++ r) × IsFault faults.Unexpected ts (length us)
    go (all z l) h = absurd cc
    go (stops us s e2 z vs l st) h = let q : s ≡ r = cc in (us, e2 ∙ ap (λ w. us ++ w) q, wrong_fault ts us s e2 z vs l st)
    go (sinks us t s e2 z vs l y ws v st) h = absurd cc

pub read_deep : (ts r : List Token) → read_whole limit ts ≡ Deep r → (us : List Token) × (ts ≡ us ++ r) × IsFault faults.Deep ts (length us)
read_deep ts r e = go (the_ends ts) e
  where
    go : {y : Reply Module} → Ends limit (suc (limit + 10)) ts y → y ≡ Deep r → (us : List Token) × (ts ≡ us ++ r) × IsFault faults.Deep ts (length us)
    go (all z l) h = absurd cc
    go (stops us s e2 z vs l st) h = absurd cc
    go (sinks us t s e2 z vs l y ws v st) h = let q : t ∷ s ≡ r = cc in (us, e2 ∙ ap (λ w. us ++ w) q, deep_fault (limit + 10) ts us t s e2 z vs l y ws v st)
