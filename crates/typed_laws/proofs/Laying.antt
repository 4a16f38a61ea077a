-- What a rule does that lays labels of the switch around it: as in `Judging`, and the labels that it lays weren't there before,
-- are there behind it, and differ. One lemma for each way to put such rules together, and with rules that lay none.
use Rattle.std.proofs.Common.{◌≡◌, ◌≢◌, ℕ, Bool, true, false, List, [], ◌∷◌, ◌++◌, refl, sym, ap, ◌∙◌, subst}
use Rattle.std.specs.Prelude.{◌==◌, ◌||◌, not, ⊤}
use Rattle.std.specs.List.{AllByRecursion, list_any}
use Rattle.std.proofs.lemmas.Bool.{true≢false, false≢true, eq-eqb}
use Rattle.c_typed.specs.declared.statement.Label.{Label}
use Rattle.c_typed.specs.declared.statement.Label.TheVariants as labels
use Rattle.c_types.specs.declared.fault.TypeKind.TheVariants as kinds
use Rattle.c_types.specs.Names.{enter, leave, scoped}
use Rattle.c_types.specs.Rules.{Here, Reply, Gives, Breaks, Rule, ◌>>=◌, ◌>>◌, followed, give, change, unless}
use Rattle.c_types.specs.StatementRules.{labelling, new_case, new_default}
use Rattle.typed_laws.specs.WellTyped.{AreApart}
use Rattle.typed_laws.proofs.Judging as judging
use Rattle.typed_laws.proofs.Judging.{Step, DoesIf, Does}
use Rattle.typed_laws.proofs.Lists.{all_map, all_append}
use Rattle.typed_laws.proofs.Names.{Final, IsSound, Stays, sound_behind, stays_same, stays_then, sound_entered, stays_left, Before, has_label, is_seen}

-- ## Labels

-- labels that a state has differ from labels that it hasn't
apart_append : (h : Here) (xs ys : List Label) → AllByRecursion (λ l. is_seen l h ≡ true) xs → AllByRecursion (λ l. is_seen l h ≡ false) ys
    → AreApart xs → AreApart ys → AreApart (xs ++ ys)
apart_append h [] ys has hasnt p q = q
apart_append h (x ∷ xs) ys has hasnt p q = (
  all_append (λ other. x ≢ other) xs ys p.0
      (all_map (λ l. is_seen l h ≡ false) (λ other. x ≢ other) (λ l un e. true≢false (sym (subst (λ k. is_seen k h ≡ true) e has.0) ∙ un)) ys hasnt),
  apart_append h xs ys has.1 hasnt p.1 q,
)

unseen : (a b : Bool) → (a ≡ true → b ≡ true) → b ≡ false → a ≡ false
unseen true b up un = absurd (true≢false (sym (up refl) ∙ un))
unseen false b up un = refl

module _ (f : Final) where
  pub record Lay (ls : List Label) (h g : Here) : Type 0 where
    pub before : Before f g → Before f h
    pub depth : g.names.depth ≡ h.names.depth
    pub seen : (l : Label) → is_seen l h ≡ true → is_seen l g ≡ true
    pub fresh : AllByRecursion (λ l. is_seen l h ≡ false) ls
    pub taken : AllByRecursion (λ l. is_seen l g ≡ true) ls
    pub apart : AreApart ls

  lay_none : (h g : Here) → Step f h g → Lay [] h g
  lay_none h g x = record { before = x.before; depth = x.depth; seen = x.seen; fresh = tt; taken = tt; apart = tt }

  lay_then : (xs ys : List Label) (h g k : Here) → Lay xs h g → Lay ys g k → Lay (xs ++ ys) h k
  lay_then xs ys h g k x y = record {
    before = λ b. x.before (y.before b);
    depth = y.depth ∙ x.depth;
    seen = λ l s. y.seen l (x.seen l s);
    fresh = all_append (λ l. is_seen l h ≡ false) xs ys x.fresh
        (all_map (λ l. is_seen l g ≡ false) (λ l. is_seen l h ≡ false) (λ l un. unseen (is_seen l h) (is_seen l g) (x.seen l) un) ys y.fresh);
    taken = all_append (λ l. is_seen l k ≡ true) xs ys (all_map (λ l. is_seen l g ≡ true) (λ l. is_seen l k ≡ true) y.seen xs x.taken) y.taken;
    apart = apart_append g xs ys x.taken y.fresh x.apart y.apart;
  }

  abbrev pub Holds : {A : Type 0} → Type 0 → Here → (A → List Label → Type 0) → Reply A → Type 0
  Holds G h Good (Gives a g) =
      (ls : List Label) × Lay ls h g × (Before f g → G → IsSound f h → Stays f h g × Good a ls)
  Holds G h Good (Breaks line kind) = Unit {0}

  pub record LaysIf {A : Type 0} (G : Type 0) (Good : A → List Label → Type 0) (rule : Rule A) : Type 0 where
    pub by : (h : Here) → Holds G h Good (rule h)

  abbrev pub Lays : {A : Type 0} → (A → List Label → Type 0) → Rule A → Type 0
  Lays Good rule = LaysIf ⊤ Good rule

  -- a rule that lays none
  pub quiet : {A G : Type 0} {P : A → Type 0} {Q : A → List Label → Type 0} {rule : Rule A} → DoesIf f G P rule → ((a : A) → G → P a → Q a [])
      → LaysIf G Q rule
  quiet {A} {G} {P} {Q} {rule} p make = record { by = λ h. go h (rule h) (p.by h) }
    where
      go : (h : Here) (r : Reply A) → judging.Holds f G h P r → Holds G h Q r
      go h (Gives a g) ok = (
        [],
        lay_none h g ok.0,
        λ before given sound. let x = ok.1 before given sound in (x.0, make a given x.1),
      )
      go h (Breaks line kind) ok = tt

  -- behind a rule that lays none
  pub quiet_and : {A B G : Type 0} {P : A → Type 0} {Q : B → List Label → Type 0} {rule : Rule A} {next : A → Rule B} → Does f P rule
      → ((a : A) → LaysIf (G × P a) Q (next a)) → LaysIf G Q (rule >>= next)
  quiet_and {A} {B} {G} {P} {Q} {rule} {next} p q = record { by = λ h. go h (rule h) (p.by h) }
    where
      later : (h g : Here) (a : A) → Step f h g → (Before f g → ⊤ → IsSound f h → Stays f h g × P a)
          → (r : Reply B) → Holds (G × P a) g Q r → Holds G h Q r
      later h g a x good (Gives b k) ok = (
        ok.0,
        lay_then [] ok.0 h g k (lay_none h g x) ok.1,
        λ before given sound.
            let one = good (ok.1.before before) tt sound in
            let two = ok.2 before (given, one.1) (sound_behind f h g one.0) in
            (stays_then f h g k one.0 two.0, two.1),
      )
      later h g a x good (Breaks line kind) ok = tt

      go : (h : Here) (r : Reply A) → judging.Holds f ⊤ h P r → Holds G h Q (followed r next)
      go h (Gives a g) ok = later h g a ok.0 ok.1 (next a g) ((q a).by g)
      go h (Breaks line kind) ok = tt

  -- one behind the other
  pub lays_and : {A B G : Type 0} {P : A → List Label → Type 0} {Q : B → List Label → Type 0} {rule : Rule A} {next : A → Rule B} → Lays P rule
      → ((a : A) (ls : List Label) → LaysIf (G × P a ls) (λ b more. Q b (ls ++ more)) (next a)) → LaysIf G Q (rule >>= next)
  lays_and {A} {B} {G} {P} {Q} {rule} {next} p q = record { by = λ h. go h (rule h) (p.by h) }
    where
      later : (h g : Here) (a : A) (ls : List Label) → Lay ls h g
          → (Before f g → ⊤ → IsSound f h → Stays f h g × P a ls)
          → (r : Reply B) → Holds (G × P a ls) g (λ b more. Q b (ls ++ more)) r → Holds G h Q r
      later h g a ls x good (Gives b k) ok = (
        ls ++ ok.0,
        lay_then ls ok.0 h g k x ok.1,
        λ before given sound.
            let one = good (ok.1.before before) tt sound in
            let two = ok.2 before (given, one.1) (sound_behind f h g one.0) in
            (stays_then f h g k one.0 two.0, two.1),
      )
      later h g a ls x good (Breaks line kind) ok = tt

      go : (h : Here) (r : Reply A) → Holds ⊤ h P r → Holds G h Q (followed r next)
      go h (Gives a g) ok = later h g a ok.0 ok.1 ok.2 (next a g) ((q a ok.0).by g)
      go h (Breaks line kind) ok = tt

  -- what is made of the value
  pub lays_map : {A B G : Type 0} {P : A → List Label → Type 0} {Q : B → List Label → Type 0} {rule : Rule A} (make : A → B) → Lays P rule
      → ((a : A) (ls : List Label) → G → P a ls → Q (make a) ls) → LaysIf G Q (rule >>= λ a. give (make a))
  lays_map {A} {B} {G} {P} {Q} {rule} make p to = record { by = λ h. go h (rule h) (p.by h) }
    where
      go : (h : Here) (r : Reply A) → Holds ⊤ h P r → Holds G h Q (followed r (λ a. give (make a)))
      go h (Gives a g) ok = (
        ok.0,
        ok.1,
        λ before given sound. let x = ok.2 before tt sound in (x.0, to a ok.0 given x.1),
      )
      go h (Breaks line kind) ok = tt

  pub scoped_lays : {A : Type 0} {P : A → List Label → Type 0} {rule : Rule A} → Lays P rule → Lays P (scoped rule)
  scoped_lays {A} {P} {rule} p = record { by = λ h. go h (rule (enter h)) (p.by (enter h)) }
    where
      go : (h : Here) (r : Reply A) → Holds ⊤ (enter h) P r → Holds ⊤ h P (followed r (λ a. change leave >> give a))
      go h (Gives a g) ok =
          let x = ok.1 in (
            ok.0,
            record { before = x.before; depth = judging.depth_left f h g x.depth; seen = x.seen; fresh = x.fresh; taken = x.taken; apart = x.apart },
            λ before given sound.
                let y = ok.2 before given (sound_entered f h sound) in (stays_left f f h (enter h) g sound x.depth refl y.0, y.1),
          )
      go h (Breaks line kind) ok = tt

  -- ## The labels of a switch of its own

  pub labelling_does : {A : Type 0} {P : A → List Label → Type 0} {rule : Rule A} → Lays P rule
      → Does f (λ a. (ls : List Label) × AreApart ls × P a ls) (labelling rule)
  labelling_does {A} {P} {rule} p = record {
    by = λ h. go h (rule (record h { cases = []; default = false })) (p.by (record h { cases = []; default = false }));
  }
    where
      go : (h : Here) (r : Reply A) → Holds ⊤ (record h { cases = []; default = false }) P r
          → judging.Holds f ⊤ h (λ a. (ls : List Label) × AreApart ls × P a ls)
          (followed r (λ a. change (λ (g : Here). record g { cases = h.cases; default = h.default }) >> give a))
      go h (Gives a g) ok = (
        record { before = ok.1.before; depth = ok.1.depth; seen = λ l s. s },
        λ before given sound.
            let x = ok.2 before given (record { named = sound.named; within = sound.within }) in
            let y = x.0 in
            (record { named = y.named; within = y.within; outside = y.outside }, (ok.0, ok.1.apart, x.1)),
      )
      go h (Breaks line kind) ok = tt

  or_more : (b : Bool) (c d : Bool) → (c ≡ true → d ≡ true) → (b || c) ≡ true → (b || d) ≡ true
  or_more true c d more h = refl
  or_more false c d more h = more h

  any_more : (test : ℕ → Bool) (xs : List ℕ) (y : ℕ) → list_any test xs ≡ true → list_any test (xs ++ y ∷ []) ≡ true
  any_more test [] y h = absurd (false≢true h)
  any_more test (x ∷ xs) y h = or_more (test x) (list_any test xs) (list_any test (xs ++ y ∷ [])) (any_more test xs y) h

  or_last : (b c : Bool) → c ≡ true → (b || c) ≡ true
  or_last true c h = refl
  or_last false c h = h

  any_last : (test : ℕ → Bool) (xs : List ℕ) (y : ℕ) → test y ≡ true → list_any test (xs ++ y ∷ []) ≡ true
  any_last test [] y h = ap (λ b. b || false) h
  any_last test (x ∷ xs) y h = or_last (test x) (list_any test (xs ++ y ∷ [])) (any_last test xs y h)

  abbrev pub IsOne : {A : Type 0} → Label → A → List Label → Type 0
  IsOne l a ls = ls ≡ l ∷ []

  seen_more : (cases : List ℕ) (default : Bool) (w : ℕ) (l : Label) → has_label cases default l ≡ true → has_label (cases ++ w ∷ []) default l ≡ true
  seen_more cases default w (labels.Case v) s = any_more (λ x. v.0 == x) cases w s
  seen_more cases default w labels.Default s = s

  seen_default : (cases : List ℕ) (default : Bool) (l : Label) → has_label cases default l ≡ true → has_label cases true l ≡ true
  seen_default cases default (labels.Case v) s = s
  seen_default cases default labels.Default s = refl

  pub new_case_lays : (line w : ℕ) → Lays (IsOne (labels.Case (record { 0 = w }))) (new_case line w)
  new_case_lays line w = record { by = λ h. by_test h (list_any (λ v. w == v) h.cases) refl }
    where
      by_test : (h : Here) (b : Bool) → list_any (λ v. w == v) h.cases ≡ b
          → Holds ⊤ h (IsOne (labels.Case (record { 0 = w })))
          ((unless (not b) line kinds.CaseRepeat >>= λ u. change (λ (k : Here). record k { cases = k.cases ++ w ∷ [] })) h)
      by_test h true is = tt
      by_test h false is = (
        labels.Case (record { 0 = w }) ∷ [],
        record {
          before = λ b. b;
          depth = refl;
          seen = λ l s. seen_more h.cases h.default w l s;
          fresh = (is, tt);
          taken = (any_last (λ v. w == v) h.cases w (eq-eqb w w refl), tt);
          apart = (tt, tt);
        },
        λ before given sound. (stays_same f h (record h { cases = h.cases ++ w ∷ [] }) refl sound, refl),
      )

  pub new_default_lays : (line : ℕ) → Lays (IsOne labels.Default) (new_default line)
  new_default_lays line = record { by = λ h. by_test h h.default refl }
    where
      by_test : (h : Here) (b : Bool) → h.default ≡ b
          → Holds ⊤ h (IsOne labels.Default) ((unless (not b) line kinds.CaseRepeat >>= λ u. change (λ (k : Here). record k { default = true })) h)
      by_test h true is = tt
      by_test h false is = (
        labels.Default ∷ [],
        record {
          before = λ b. b;
          depth = refl;
          seen = λ l s. seen_default h.cases h.default l s;
          fresh = (is, tt);
          taken = (refl, tt);
          apart = (tt, tt);
        },
        λ before given sound. (stays_same f h (record h { default = true }) refl sound, refl),
      )
