-- What a rule does that may declare locals: from a sound state, where the rule gives a value, the state behind is sound,
-- the locals before are a front of those behind, and the value is good for every function whose locals begin so.
use Rattle.std.proofs.Common.{◌≡◌, ◌≤◌, ◌<◌, ℕ, zero, suc, ◌+◌, ◌-◌, List, [], ◌∷◌, ◌++◌, Some, Bool, true, false, length, refl, sym, ap, ap₂, ◌∙◌}
use Rattle.std.proofs.Common.{subst, arith, slice_get}
use Rattle.std.specs.Prelude.{if◌then◌else◌, IsTrue}
use Rattle.std.proofs.lemmas.Bool.{ne_eqb}
use Rattle.std.proofs.lemmas.List.{append_assoc, length-append}
use Rattle.c_typed.specs.declared.function.Local.{Local}
use Rattle.c_types.specs.declared.binding.Binding.{Binding}
use Rattle.c_types.specs.declared.binding.Binding.TheVariants as bindings
use Rattle.c_types.specs.declared.fault.TypeKind.{TypeKind}
use Rattle.c_types.specs.Names.{enter, leave, scoped}
use Rattle.c_types.specs.Rules.{Here, Reply, Gives, Breaks, Rule, ◌>>=◌, ◌>>◌, followed, give, broken, change}
use Rattle.c_types.specs.Scopes.{Declared, outer}
use Rattle.c_types.specs.StatementRules.{labelling}
use Rattle.lower_laws.specs.Bound.{Scope}
use Rattle.lower_laws.specs.Functions.{is_some_array}
use Rattle.type_laws.proofs.Keeping.{IsNamed, AreNamed, AreWithin, Stays, Holds, Keeps}

-- ## Locals

abbrev pub IsFront : List Local → List Local → Type 0
IsFront xs ys = (rest : List Local) × (ys ≡ xs ++ rest)

pub front_then : (xs ys zs : List Local) → IsFront xs ys → IsFront ys zs → IsFront xs zs
front_then xs ys zs f g = (f.0 ++ g.0, g.1 ∙ ap (λ l. l ++ g.0) f.1 ∙ append_assoc xs f.0 g.0)

append_none : (xs : List Local) → xs ≡ xs ++ []
append_none [] = refl
append_none (x ∷ xs) = ap (λ l. x ∷ l) (append_none xs)

pub front_none : (xs : List Local) → IsFront xs xs
front_none xs = ([], append_none xs)

slice_in_front : (xs rest : List Local) (i : ℕ) → i < length xs → slice_get (xs ++ rest) i ≡ slice_get xs i
slice_in_front [] rest i less = absurd (omega arith)
slice_in_front (x ∷ xs) rest zero less = refl
slice_in_front (x ∷ xs) rest (suc i) less = slice_in_front xs rest i (omega arith)

pub slice_next : (xs rest : List Local) (x : Local) → slice_get (xs ++ x ∷ rest) (length xs) ≡ Some x
slice_next [] rest x = refl
slice_next (y ∷ xs) rest x = slice_next xs rest x

front_length : (xs ys : List Local) → IsFront xs ys → length xs ≤ length ys
front_length xs ys f = omega (arith, ap length f.1, length-append xs f.0)

-- the scope of a function with so many parameters and these locals, of which the first n are declared
abbrev pub scope_with : ℕ → List Local → ℕ → Scope
scope_with params ls n = record { params = params; locals = n; is_array = λ x. is_some_array (slice_get ls x) }

-- what is named among some locals is so among more
named_wider : (params : ℕ) (xs ys : List Local) (n : ℕ) → IsFront xs ys → length xs ≤ n → (b : Binding)
    → IsNamed (scope_with params xs (length xs)) b → IsNamed (scope_with params ys n) b
named_wider params xs ys n f le (bindings.Parameter place ty fixed) ok = ok
named_wider params xs ys n f le (bindings.Local place ty fixed extent) ok =
    (omega (arith, ok.0, le), ap is_some_array (ap (λ l. slice_get l place) f.1 ∙ slice_in_front xs f.0 place ok.0) ∙ ok.1)
named_wider params xs ys n f le (bindings.Constant w) ok = tt
named_wider params xs ys n f le (bindings.Library x) ok = tt
named_wider params xs ys n f le (bindings.Function pid internal) ok = tt
named_wider params xs ys n f le (bindings.Object pid internal ty fixed extent) ok = tt

pub all_wider : (params : ℕ) (xs ys : List Local) (n : ℕ) → IsFront xs ys → length xs ≤ n → (ds : List (Declared Binding))
    → AreNamed (scope_with params xs (length xs)) ds → AreNamed (scope_with params ys n) ds
all_wider params xs ys n f le [] ok = tt
all_wider params xs ys n f le (d ∷ ds) ok = (named_wider params xs ys n f le d.stands_for ok.0, all_wider params xs ys n f le ds ok.1)

-- ## Scopes

pub within_more : (n m : ℕ) (ds : List (Declared Binding)) → n ≤ m → AreWithin n ds → AreWithin m ds
within_more n m [] le ok = tt
within_more n m (d ∷ ds) le ok = (omega (arith, ok.0, le), within_more n m ds le ok.1)

pub outer_none : (n : ℕ) (ds : List (Declared Binding)) → AreWithin n ds → outer (n + 1) ds ≡ ds
outer_none n [] ok = refl
outer_none n (d ∷ ds) ok = ap (λ (b : Bool). if b then outer (n + 1) ds else d ∷ ds) (ne_eqb d.depth (n + 1) (λ e. omega (arith, e, ok.0)))

-- ## Rules in a function with so many parameters, whose locals are these in the end

pub record Sound (params : ℕ) (h : Here) : Type 0 where
  pub named : AreNamed (scope_with params h.locals (length h.locals)) h.names.declared
  pub within : AreWithin h.names.depth h.names.declared

pub record Goes (params : ℕ) (quiet : Bool) (h g : Here) : Type 0 where
  pub named : AreNamed (scope_with params g.locals (length g.locals)) g.names.declared
  pub within : AreWithin g.names.depth g.names.declared
  pub depth : g.names.depth ≡ h.names.depth
  pub outside : outer g.names.depth g.names.declared ≡ outer h.names.depth h.names.declared
  pub front : IsFront h.locals g.locals
  pub table : length h.syms ≤ length g.syms
  -- where no local is declared but in inner scopes, names are bound in the scope before
  pub still : IsTrue quiet → (s : Scope) → AreNamed s h.names.declared → AreNamed s g.names.declared

module _ (params : ℕ) (final : List Local) where
  abbrev pub scope : ℕ → Scope
  scope n = scope_with params final n

  pub sound_behind : {quiet : Bool} {h g : Here} → Goes params quiet h g → Sound params g
  sound_behind x = record { named = x.named; within = x.within }

  pub goes_none : {quiet : Bool} (h : Here) → Sound params h → Goes params quiet h h
  goes_none h ok = record {
    named = ok.named;
    within = ok.within;
    depth = refl;
    outside = refl;
    front = front_none h.locals;
    table = omega arith;
    still = λ q s named. named;
  }

  pub goes_then : {quiet : Bool} {h g k : Here} → Goes params quiet h g → Goes params quiet g k → Goes params quiet h k
  goes_then {quiet} {h} {g} {k} x y = record {
    named = y.named;
    within = y.within;
    depth = y.depth ∙ x.depth;
    outside = y.outside ∙ x.outside;
    front = front_then h.locals g.locals k.locals x.front y.front;
    table = omega (arith, x.table, y.table);
    still = λ q s named. y.still q s (x.still q s named);
  }

  abbrev pub Leads : {A : Type 0} → Bool → Here → (A → ℕ → ℕ → Type 0) → Reply A → Type 0
  Leads quiet h Good (Gives a g) = Goes params quiet h g × (IsFront g.locals final → Good a (length h.locals) (length g.locals))
  Leads quiet h Good (Breaks line kind) = Unit {0}

  pub record Does {A : Type 0} (quiet : Bool) (Good : A → ℕ → ℕ → Type 0) (rule : Rule A) : Type 0 where
    pub by : (h : Here) → Sound params h → Leads quiet h Good (rule h)

  -- from a state further on
  pub led : {B : Type 0} {quiet : Bool} (Q1 Q : B → ℕ → ℕ → Type 0) (h g : Here) → Goes params quiet h g → (r : Reply B) → Leads quiet g Q1 r
      → ((b : B) (k : Here) → Goes params quiet g k → IsFront k.locals final → Q1 b (length g.locals) (length k.locals)
      → Q b (length h.locals) (length k.locals)) → Leads quiet h Q r
  led Q1 Q h g x (Gives b k) ok make = (goes_then x ok.0, λ front. make b k ok.0 front (ok.1 front))
  led Q1 Q h g x (Breaks line kind) ok make = tt

  pub loud : {A : Type 0} {quiet : Bool} {Q : A → ℕ → ℕ → Type 0} {rule : Rule A} → Does true Q rule → Does quiet Q rule
  loud {A} {quiet} {Q} {rule} p = record { by = λ h ok. go h (rule h) (p.by h ok) }
    where
      go : (h : Here) (r : Reply A) → Leads true h Q r → Leads quiet h Q r
      go h (Gives a g) ok =
          let x = ok.0 in (
            record {
              named = x.named;
              within = x.within;
              depth = x.depth;
              outside = x.outside;
              front = x.front;
              table = x.table;
              still = λ q. x.still refl;
            },
            ok.1,
          )
      go h (Breaks line kind) ok = tt

  pub followed_by : {A B : Type 0} {quiet : Bool} {P : A → ℕ → ℕ → Type 0} {Q : B → ℕ → ℕ → Type 0} {rule : Rule A} {next : A → Rule B}
      → Does quiet P rule → ((a : A) → Does quiet (λ b n1 n2. (n : ℕ) → P a n n1 → Q b n n2) (next a)) → Does quiet Q (rule >>= next)
  followed_by {A} {B} {quiet} {P} {Q} {rule} {next} p q = record { by = λ h ok. go h (rule h) (p.by h ok) }
    where
      go : (h : Here) (r : Reply A) → Leads quiet h P r → Leads quiet h Q (followed r next)
      go h (Gives a g) ok =
          led (λ b n1 n2. (n : ℕ) → P a n n1 → Q b n n2) Q h g ok.0 (next a g) ((q a).by g (sound_behind ok.0))
          (λ b k x front good. good (length h.locals) (ok.1 (front_then g.locals k.locals final x.front front)))
      go h (Breaks line kind) ok = tt

  stays_in : (s : Scope) (h : Here) → Sound params h → AreNamed s h.names.declared → Stays s h h
  stays_in s h ok named = record { named = named; within = ok.within; depth = refl; outside = refl; locals = refl; table = omega arith }

  named_later : (h : Here) → Sound params h → IsFront h.locals final → AreNamed (scope (length h.locals)) h.names.declared
  named_later h ok front = all_wider params h.locals final (length h.locals) front (omega arith) h.names.declared ok.named

  -- the state behind a rule that declares no local
  goes_by : {A : Type 0} {quiet : Bool} (P : Scope → A → Type 0) (h g : Here) (a : A) → Sound params h
      → ((s : Scope) → Stays s h h → Holds s h (P s) (Gives a g)) → (g.locals ≡ h.locals) × Goes params quiet h g
  goes_by P h g a ok each =
      let now = each (scope_with params h.locals (length h.locals)) (stays_in (scope_with params h.locals (length h.locals)) h ok ok.named) in
      let st = now.0 in (
        st.locals,
        record {
          named = subst (λ l. AreNamed (scope_with params l (length l)) g.names.declared) (sym st.locals) st.named;
          within = st.within;
          depth = st.depth;
          outside = st.outside;
          front = subst (λ l. IsFront h.locals l) (sym st.locals) (front_none h.locals);
          table = st.table;
          still = λ q s named. (each s (stays_in s h ok named)).0.named;
        },
      )

  -- a rule that declares no local, in front of others
  after : {A B : Type 0} {quiet : Bool} (P : Scope → A → Type 0) (Q : B → ℕ → ℕ → Type 0) (Q1 : A → B → ℕ → ℕ → Type 0) (next : A
      → Rule B) (h : Here) (r : Reply A)
      → Sound params h → ((s : Scope) → Stays s h h → Holds s h (P s) r)
      → ((a : A) → ((s : Scope) → Stays s h h → P s a) → Does quiet (Q1 a) (next a))
      → ((a : A) (b : B) (n : ℕ) → Q1 a b (length h.locals) n → P (scope (length h.locals)) a → Q b (length h.locals) n)
      → Leads quiet h Q (followed r next)
  after P Q Q1 next h (Gives a g) ok each rest make =
      let both = goes_by P h g a ok each in
      led (Q1 a) Q h g both.1 (next a g) ((rest a (λ s st. (each s st).1)).by g (sound_behind both.1))
      (λ b k y front good.
      let whole : IsFront h.locals final = subst (λ l. IsFront l final) both.0 (front_then g.locals k.locals final y.front front) in
      make a b (length k.locals) (subst (λ l. Q1 a b (length l) (length k.locals)) both.0 good)
      (each (scope (length h.locals)) (stays_in (scope (length h.locals)) h ok (named_later h ok whole))).1)
  after P Q Q1 next h (Breaks line kind) ok each rest make = tt

  -- where what is good depends on the scope
  pub after_good : {A B : Type 0} {quiet : Bool} {Q : B → ℕ → ℕ → Type 0} {rule : Rule A} {next : A → Rule B} (P : Scope → A → Type 0)
      → ((s : Scope) (o : Here) → Keeps s o (P s) rule) → ((a : A) → Does quiet (λ b n1 n2. P (scope n1) a → Q b n1 n2) (next a))
      → Does quiet Q (rule >>= next)
  after_good {A} {B} {quiet} {Q} {rule} {next} P p q = record {
    by = λ h ok.
        after P Q (λ a b n1 n2. P (scope n1) a → Q b n1 n2) next h (rule h) ok (λ s st. (p s h).by h st)
        (λ a pa. q a) (λ a b n good pa. good pa);
  }

  -- where it doesn't
  pub after_fact : {A B : Type 0} {quiet : Bool} {Q : B → ℕ → ℕ → Type 0} {rule : Rule A} {next : A → Rule B} (P : A → Type 0)
      → ((s : Scope) (o : Here) → Keeps s o P rule) → ((a : A) → P a → Does quiet Q (next a)) → Does quiet Q (rule >>= next)
  after_fact {A} {B} {quiet} {Q} {rule} {next} P p q = record {
    by = λ h ok.
        after (λ s. P) Q (λ a. Q) next h (rule h) ok (λ s st. (p s h).by h st)
        (λ a pa. q a (pa (scope_with params h.locals (length h.locals)) (stays_in (scope_with params h.locals (length h.locals)) h ok ok.named)))
        (λ a b n good pa. good);
  }

  pub ends : {A : Type 0} {quiet : Bool} {Q : A → ℕ → ℕ → Type 0} (a : A) → ((n : ℕ) → Q a n n) → Does quiet Q (give a)
  ends a ok = record { by = λ h sound. (goes_none h sound, λ front. ok (length h.locals)) }

  pub refused : {A : Type 0} {quiet : Bool} {Q : A → ℕ → ℕ → Type 0} (line : ℕ) (kind : TypeKind) → Does quiet Q (broken line kind)
  refused line kind = record { by = λ h sound. tt }

  -- behind a statement an expression is bound in the scope before it
  pub then_outside : {A C B : Type 0} {P : A → ℕ → ℕ → Type 0} {Q : B → ℕ → ℕ → Type 0} {rule : Rule A} {later : Rule C} (made : A → C
      → B) (R : Scope → C → Type 0)
      → Does true P rule → ((s : Scope) (o : Here) → Keeps s o (R s) later)
      → ((a : A) (c : C) (n m : ℕ) → P a n m → R (scope n) c → Q (made a c) n m) → Does true Q (rule >>= λ a. (later >>= λ c. give (made a c)))
  then_outside {A} {C} {B} {P} {Q} {rule} {later} made R p each make = record { by = λ h ok. go h ok (rule h) (p.by h ok) }
    where
      end : (h g : Here) (a : A) → Sound params h → Goes params true h g → (IsFront g.locals final → P a (length h.locals) (length g.locals)) → (r : Reply C)
          → ((s : Scope) → Stays s g g → Holds s g (R s) r) → Leads true h Q (followed r (λ c. give (made a c)))
      end h g a ok x good (Gives c k) each =
          let both = goes_by R g k c (sound_behind x) each in (
            goes_then x both.1,
            λ front.
                let front1 : IsFront g.locals final = subst (λ l. IsFront l final) both.0 front in
                let whole = front_then h.locals g.locals final x.front front1 in
                let named = x.still refl (scope (length h.locals)) (named_later h ok whole) in
                let value = (each (scope (length h.locals)) (stays_in (scope (length h.locals)) g (sound_behind x) named)).1 in
                make a c (length h.locals) (length k.locals) (subst (λ l. P a (length h.locals) (length l)) (sym both.0) (good front1)) value,
          )
      end h g a ok x good (Breaks line kind) each = tt

      go : (h : Here) → Sound params h → (r : Reply A) → Leads true h P r → Leads true h Q (followed r (λ a. (later >>= λ c. give (made a c))))
      go h ok (Gives a g) led = end h g a ok led.0 led.1 (later g) (λ s st. (each s g).by g st)
      go h ok (Breaks line kind) led = tt

  pub scoped_does : {A : Type 0} {quiet : Bool} {Q : A → ℕ → ℕ → Type 0} {rule : Rule A} → Does quiet Q rule → Does true Q (scoped rule)
  scoped_does {A} {quiet} {Q} {rule} p = record {
    by = λ h ok.
        go h ok (rule (enter h)) (p.by (enter h) (record {
          named = ok.named;
          within = within_more h.names.depth (h.names.depth + 1) h.names.declared
              (omega arith) ok.within;
        }));
  }
    where
      go : (h : Here) → Sound params h → (r : Reply A) → Leads quiet (enter h) Q r → Leads true h Q (followed r (λ a. change leave >> give a))
      go h ok (Gives a g) led =
          let x = led.0 in
          let depth : g.names.depth - 1 ≡ h.names.depth = omega (arith, x.depth) in
          let names : outer g.names.depth g.names.declared ≡ h.names.declared = x.outside ∙ outer_none h.names.depth h.names.declared ok.within in (
            record {
              named = subst (λ ds. AreNamed (scope_with params g.locals (length g.locals)) ds) (sym names)
                  (all_wider params h.locals g.locals (length g.locals) x.front (front_length h.locals g.locals x.front) h.names.declared ok.named);
              within = subst (λ ds. AreWithin (g.names.depth - 1) ds) (sym names) (subst (λ n. AreWithin n h.names.declared) (sym depth) ok.within);
              depth = depth;
              outside = ap₂ outer depth names;
              front = x.front;
              table = x.table;
              still = λ q s named. subst (λ ds. AreNamed s ds) (sym names) named;
            },
            led.1,
          )
      go h ok (Breaks line kind) led = tt

  pub labelling_does : {A : Type 0} {quiet : Bool} {Q : A → ℕ → ℕ → Type 0} {rule : Rule A} → Does quiet Q rule → Does quiet Q (labelling rule)
  labelling_does {A} {quiet} {Q} {rule} p = record {
    by = λ h ok. go h (rule (record h { cases = []; default = false }))
        (p.by (record h { cases = []; default = false }) (record { named = ok.named; within = ok.within }));
  }
    where
      go : (h : Here) (r : Reply A) → Leads quiet (record h { cases = []; default = false }) Q r
          → Leads quiet h Q (followed r (λ a. change (λ (g : Here). record g { cases = h.cases; default = h.default }) >> give a))
      go h (Gives a g) led =
          let x = led.0 in
          (record { named = x.named; within = x.within; depth = x.depth; outside = x.outside; front = x.front; table = x.table; still = x.still }, led.1)
      go h (Breaks line kind) led = tt
