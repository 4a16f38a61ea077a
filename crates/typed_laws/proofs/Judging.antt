-- What a rule does that lays no label of the switch around it: where it gives a value, the state behind has what the state in
-- front had, and where the final locals and table come from the state behind, good names stay good and the value is good. One
-- lemma for each way to put rules together. `G` is what is known of the values that were given before.
use Rattle.std.proofs.Common.{◌≡◌, ℕ, ◌+◌, ◌-◌, Bool, true, false, List, [], ◌∷◌, Option, Some, None, refl, ap₂, ◌∙◌, subst, arith}
use Rattle.std.specs.Prelude.{if◌then◌else◌, ⊤, is_some, is_none}
use Rattle.std.specs.Option.{option_map}
use Rattle.sym_tables.specs.Table.{mark}
use Rattle.c_tree.specs.declared.expression.Identifier.{Identifier}
use Rattle.c_typed.specs.declared.statement.Label.{Label}
use Rattle.c_types.specs.declared.binding.Binding.{Binding}
use Rattle.c_types.specs.declared.fault.TypeKind.{TypeKind}
use Rattle.c_types.specs.declared.fault.TypeKind.TheVariants as kinds
use Rattle.c_types.specs.Names.{bound, find, bind, declare_tag, use_tag, tag, enter, leave, scoped}
use Rattle.c_types.specs.Rules.{Here, Reply, Gives, Breaks, Rule, ◌>>=◌, ◌>>◌, followed, give, broken, known, change, unless, in_order}
use Rattle.c_types.specs.Scopes.{Declared, latest, visible, innermost, declared}
use Rattle.c_types.specs.Uses.{use_pid}
use Rattle.program_laws.specs.Growing.{Grows}
use Rattle.program_laws.proofs.Tables.{grows_then, marked, marked_grows}
use Rattle.typed_laws.proofs.Names.{Final, IsNamed, AreNamed, IsFound, found, IsSound, Stays, sound_behind, stays_same, stays_then, stays_bound}
use Rattle.typed_laws.proofs.Names.{sound_entered, stays_left, IsFront, Before, has_label, is_seen}

abbrev pub Any : {A : Type 0} → A → Type 0
Any a = Unit {0}

module _ (f : Final) where
  pub record Step (h g : Here) : Type 0 where
    pub before : Before f g → Before f h
    pub depth : g.names.depth ≡ h.names.depth
    pub seen : (l : Label) → is_seen l h ≡ true → is_seen l g ≡ true

  pub step_none : (h : Here) → Step h h
  step_none h = record { before = λ b. b; depth = refl; seen = λ l s. s }

  pub step_then : (h g k : Here) → Step h g → Step g k → Step h k
  step_then h g k x y = record { before = λ b. x.before (y.before b); depth = y.depth ∙ x.depth; seen = λ l s. y.seen l (x.seen l s) }

  -- what keeps locals and labels, and lets the table grow
  pub step_beside : (h g : Here) → g.names.depth ≡ h.names.depth → g.locals ≡ h.locals → Grows h.syms g.syms → g.cases ≡ h.cases
      → g.default ≡ h.default → Step h g
  step_beside h g depth locals table cases default = record {
    before = λ b. (subst (λ l. IsFront f.inner l) locals b.0, grows_then h.syms g.syms f.table table b.1);
    depth = depth;
    seen = λ l s. ap₂ (λ c d. has_label c d l) cases default ∙ s;
  }

  abbrev pub Holds : {A : Type 0} → Type 0 → Here → (A → Type 0) → Reply A → Type 0
  Holds G h Good (Gives a g) = Step h g × (Before f g → G → IsSound f h → Stays f h g × Good a)
  Holds G h Good (Breaks line kind) = Unit {0}

  pub record DoesIf {A : Type 0} (G : Type 0) (Good : A → Type 0) (rule : Rule A) : Type 0 where
    pub by : (h : Here) → Holds G h Good (rule h)

  abbrev pub Does : {A : Type 0} → (A → Type 0) → Rule A → Type 0
  Does Good rule = DoesIf ⊤ Good rule

  -- ## Ways to put rules together

  pub less : {A G K : Type 0} (Good : A → Type 0) (h : Here) (r : Reply A) → (G → K) → Holds K h Good r → Holds G h Good r
  less Good h (Gives a g) to ok = (ok.0, λ b given sound. ok.1 b (to given) sound)
  less Good h (Breaks line kind) to ok = tt

  pub from : {A G K : Type 0} {Good : A → Type 0} {rule : Rule A} → DoesIf K Good rule → (G → K) → DoesIf G Good rule
  from {A} {G} {K} {Good} {rule} p to = record { by = λ h. less Good h (rule h) to (p.by h) }

  pub plain : {A G : Type 0} {Good : A → Type 0} {rule : Rule A} → Does Good rule → DoesIf G Good rule
  plain p = from p (λ given. tt)

  pub and_if : {A B G : Type 0} {P : A → Type 0} {Q : B → Type 0} {rule : Rule A} {next : A → Rule B}
      → DoesIf G P rule → ((a : A) → DoesIf (G × P a) Q (next a)) → DoesIf G Q (rule >>= next)
  and_if {A} {B} {G} {P} {Q} {rule} {next} p q = record { by = λ h. go h (rule h) (p.by h) }
    where
      later : (h g : Here) (a : A) → Step h g → (Before f g → G → IsSound f h → Stays f h g × P a)
          → (r : Reply B) → Holds (G × P a) g Q r → Holds G h Q r
      later h g a x good (Gives b k) ok = (
        step_then h g k x ok.0,
        λ before given sound.
            let one = good (ok.0.before before) given sound in
            let two = ok.1 before (given, one.1) (sound_behind f h g one.0) in
            (stays_then f h g k one.0 two.0, two.1),
      )
      later h g a x good (Breaks line kind) ok = tt

      go : (h : Here) (r : Reply A) → Holds G h P r → Holds G h Q (followed r next)
      go h (Gives a g) ok = later h g a ok.0 ok.1 (next a g) ((q a).by g)
      go h (Breaks line kind) ok = tt

  pub and : {A B G : Type 0} {P : A → Type 0} {Q : B → Type 0} {rule : Rule A} {next : A → Rule B}
      → Does P rule → ((a : A) → DoesIf (G × P a) Q (next a)) → DoesIf G Q (rule >>= next)
  and p q = and_if (plain p) q

  pub gives : {A G : Type 0} {Good : A → Type 0} (a : A) → (G → Good a) → DoesIf G Good (give a)
  gives a good = record { by = λ h. (step_none h, λ before given sound. (stays_same f h h refl sound, good given)) }

  pub breaks : {A G : Type 0} {Good : A → Type 0} (line : ℕ) (kind : TypeKind) → DoesIf G Good (broken line kind)
  breaks line kind = record { by = λ h. tt }

  pub knows : {A G : Type 0} (part : Here → A) → DoesIf G Any (known part)
  knows part = record { by = λ h. (step_none h, λ before given sound. (stays_same f h h refl sound, tt)) }

  pub tests : {G : Type 0} (b : Bool) (line : ℕ) (kind : TypeKind) → DoesIf G (λ u. b ≡ true) (unless b line kind)
  tests true line kind = record { by = λ h. (step_none h, λ before given sound. (stays_same f h h refl sound, refl)) }
  tests false line kind = record { by = λ h. tt }

  pub changes : {G : Type 0} (by : Here → Here) → ((h : Here) → Step h (by h)) → ((h : Here) → IsSound f h → Stays f h (by h)) → DoesIf G Any (change by)
  changes by step stays = record { by = λ h. (step h, λ before given sound. (stays h sound, tt)) }

  -- behind a test that holds
  pub if_tests : {B G : Type 0} {Q : B → Type 0} {next : Unit {0} → Rule B} (b : Bool) (line : ℕ) (kind : TypeKind)
      → ((u : Unit {0}) → b ≡ true → DoesIf G Q (next u)) → DoesIf G Q (unless b line kind >>= next)
  if_tests true line kind p = record { by = λ h. (p tt refl).by h }
  if_tests false line kind p = record { by = λ h. tt }

  pub choose : {A G : Type 0} {Good : A → Type 0} {x y : Rule A} (b : Bool) → DoesIf G Good x → DoesIf G Good y → DoesIf G Good (if b then x else y)
  choose true p q = p
  choose false p q = q

  -- where nothing is wanted of the value
  pub loosely : {A G : Type 0} {P : A → Type 0} {rule : Rule A} → DoesIf G P rule → DoesIf G Any rule
  loosely {A} {G} {P} {rule} p = record { by = λ h. go h (rule h) (p.by h) }
    where
      go : (h : Here) (r : Reply A) → Holds G h P r → Holds G h Any r
      go h (Gives a g) ok = (ok.0, λ before given sound. ((ok.1 before given sound).0, tt))
      go h (Breaks line kind) ok = tt

  abbrev pub AllDo : {A : Type 0} → (A → Type 0) → List (Rule A) → Type 0
  AllDo P [] = ⊤
  AllDo P (r ∷ rs) = Does P r × AllDo P rs

  pub in_order_does : {A : Type 0} (P : A → Type 0) (rs : List (Rule A)) → AllDo P rs → Does Any (in_order rs)
  in_order_does P [] ok = gives [] (λ g. tt)
  in_order_does P (r ∷ rs) ok = and ok.0 (λ x. and (in_order_does P rs ok.1) (λ xs. gives (x ∷ xs) (λ g. tt)))

  -- ## Names in rules

  pub finds : (x : Identifier) → Does (IsNamed f) (find x)
  finds x = record { by = λ h. choice h (latest x.name h.names.declared) (found f x.name h.names.declared) }
    where
      choice : (h : Here) (d : Option (Declared Binding)) → (AreNamed f h.names.declared → IsFound f d)
          → Holds ⊤ h (IsNamed f) (bound x.line (option_map (λ (e : Declared Binding). e.stands_for) d) h)
      choice h None is = tt
      choice h (Some d) is = (step_none h, λ before given sound. (stays_same f h h refl sound, is sound.named))

  pub binds : {G : Type 0} (name : List ℕ) (b : Binding) → (G → IsNamed f b) → DoesIf G Any (change (bind name b))
  binds name b good = record {
    by = λ h. (
      record { before = λ x. x; depth = refl; seen = λ l s. s },
      λ before given sound. (stays_bound f name b h (good given) sound, tt),
    );
  }

  pub uses_pid : (pid : ℕ) → Does Any (use_pid pid)
  uses_pid pid = record {
    by = λ h. (
      step_beside h (record h { syms = mark h.syms pid }) refl refl (marked_grows h.syms (mark h.syms pid) (marked h.syms pid)) refl refl,
      λ before given sound. (stays_same f h (record h { syms = mark h.syms pid }) refl sound, tt),
    );
  }

  pub uses_tag : (x : Identifier) → Does Any (use_tag x)
  uses_tag x = and (knows (λ (h : Here). visible x.name h.tags)) (λ old. loosely (tests (is_some old) x.line kinds.Undeclared))

  pub declares_tag : (x : Identifier) → Does Any (declare_tag x)
  declares_tag x =
      and (knows (λ (h : Here). innermost x.name h.tags)) (λ old.
      if_tests (is_none old) x.line kinds.Redeclared (λ u is.
      changes (λ (h : Here). record h { tags = declared x.name tag h.tags })
      (λ h. record { before = λ b. b; depth = refl; seen = λ l s. s })
      (λ h sound. stays_same f h (record h { tags = declared x.name tag h.tags }) refl sound)))

  -- ## Scopes

  pub depth_left : (h g : Here) → g.names.depth ≡ h.names.depth + 1 → g.names.depth - 1 ≡ h.names.depth
  depth_left h g deeper = omega (arith, deeper)

  pub scoped_does : {A : Type 0} {P : A → Type 0} {rule : Rule A} → Does P rule → Does P (scoped rule)
  scoped_does {A} {P} {rule} p = record { by = λ h. go h (rule (enter h)) (p.by (enter h)) }
    where
      go : (h : Here) (r : Reply A) → Holds ⊤ (enter h) P r → Holds ⊤ h P (followed r (λ a. change leave >> give a))
      go h (Gives a g) ok = (
        record { before = ok.0.before; depth = depth_left h g ok.0.depth; seen = ok.0.seen },
        λ before given sound.
            let x = ok.1 before given (sound_entered f h sound) in (stays_left f f h (enter h) g sound ok.0.depth refl x.0, x.1),
      )
      go h (Breaks line kind) ok = tt
