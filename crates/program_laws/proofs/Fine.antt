-- What a rule does that declares nothing for the program: from a state that goes with the table, where the rule gives a
-- value, the state behind does too, and the value fits shapes that cover the table behind. One lemma for each way to put
-- rules together. A rule may ask something of the state in front of it.
use Rattle.std.proofs.Common.{◌≡◌, ℕ, List, [], ◌∷◌, Option, Some, None, Bool, true, false, refl}
use Rattle.std.specs.Prelude.{if◌then◌else◌, ⊤, is_some, is_none}
use Rattle.std.specs.Option.{option_map}
use Rattle.il_core.specs.declared.shape.ShapeRow.{ShapeRow}
use Rattle.c_tree.specs.declared.expression.Identifier.{Identifier}
use Rattle.c_types.specs.declared.binding.Binding.{Binding}
use Rattle.c_types.specs.declared.binding.Binding.TheVariants as bindings
use Rattle.c_types.specs.declared.fault.TypeKind.{TypeKind}
use Rattle.c_types.specs.declared.fault.TypeKind.TheVariants as kinds
use Rattle.c_types.specs.Names.{bound, find, bind, bound_here, declare_tag, use_tag, tag, enter, leave, scoped}
use Rattle.c_types.specs.Rules.{Here, Reply, Gives, Breaks, Rule, ◌>>=◌, ◌>>◌, followed, give, broken, known, change, unless, in_order}
use Rattle.c_types.specs.Scopes.{Declared, latest, visible, innermost, declared}
use Rattle.c_types.specs.StatementRules.{labelling}
use Rattle.std.proofs.lemmas.Bool.{false≢true}
use Rattle.sym_tables.specs.Table.{Table, same_name}
use Rattle.program_laws.specs.Growing.{Covers}
use Rattle.program_laws.proofs.States.{IsObjectAt, IsCoherent, AreCoherent, IsOk, After, after_same, after_then, after_beside, after_bound, fresh_if}
use Rattle.program_laws.proofs.States.{ok_entered, after_left}
use Rattle.program_laws.proofs.Tables.{marked_same, marked_grows, covers_before}

abbrev pub Any : {A : Type 0} → A → Type 0
Any a = Unit {0}

abbrev pub Always : Here → Type 0
Always h = Unit {0}

module _ (number : ℕ) (rows : List ShapeRow) where
  abbrev pub Holds : {A : Type 0} → Here → (A → Type 0) → Reply A → Type 0
  Holds o Good (Gives a h) = After number o h × (Covers rows h.syms → Good a)
  Holds o Good (Breaks line kind) = Unit {0}

  pub record FineIf {A : Type 0} (Asked : Here → Type 0) (Good : A → Type 0) (rule : Rule A) : Type 0 where
    pub by : (h : Here) → IsOk number h → Asked h → Holds h Good (rule h)

  abbrev pub Fine : {A : Type 0} → (A → Type 0) → Rule A → Type 0
  Fine Good rule = FineIf Always Good rule

  -- from a state further on
  pub onward : {A : Type 0} (P : A → Type 0) (h g : Here) → After number h g → (r : Reply A) → Holds g P r → Holds h P r
  onward P h g x (Gives a k) ok = (after_then number h g k x ok.0, ok.1)
  onward P h g x (Breaks line kind) ok = tt

  pub and : {A B : Type 0} {Asked : Here → Type 0} {P : A → Type 0} {Q : B → Type 0} {rule : Rule A} {next : A → Rule B}
      → FineIf Asked P rule → ((a : A) → Fine (λ b. P a → Q b) (next a)) → FineIf Asked Q (rule >>= next)
  and {A} {B} {Asked} {P} {Q} {rule} {next} p q = record { by = λ h ok asked. go h (rule h) (p.by h ok asked) }
    where
      later : (h g : Here) (a : A) → After number h g → (Covers rows g.syms → P a) → (r : Reply B) → Holds g (λ b. P a → Q b) r → Holds h Q r
      later h g a x good (Gives b k) ok = (
        after_then number h g k x ok.0,
        λ c. ok.1 c (good (covers_before rows g.syms k.syms (marked_grows g.syms k.syms ok.0.table) c)),
      )
      later h g a x good (Breaks line kind) ok = tt

      go : (h : Here) (r : Reply A) → Holds h P r → Holds h Q (followed r next)
      go h (Gives a g) ok = later h g a ok.0 ok.1 (next a g) ((q a).by g ok.0.ok tt)
      go h (Breaks line kind) ok = tt

  pub asking : {A : Type 0} {Asked : Here → Type 0} {P : A → Type 0} {rule : Rule A} → Fine P rule → FineIf Asked P rule
  asking p = record { by = λ h ok asked. p.by h ok tt }

  pub gives : {A : Type 0} {Asked : Here → Type 0} {P : A → Type 0} (a : A) → P a → FineIf Asked P (give a)
  gives a good = record { by = λ h ok asked. (after_same number h ok, λ c. good) }

  pub breaks : {A : Type 0} {Asked : Here → Type 0} {P : A → Type 0} (line : ℕ) (kind : TypeKind) → FineIf Asked P (broken line kind)
  breaks line kind = record { by = λ h ok asked. tt }

  pub knows : {A : Type 0} (f : Here → A) → Fine Any (known f)
  knows f = record { by = λ h ok asked. (after_same number h ok, λ c. tt) }

  pub tests : (b : Bool) (line : ℕ) (kind : TypeKind) → Fine (λ u. b ≡ true) (unless b line kind)
  tests true line kind = record { by = λ h ok asked. (after_same number h ok, λ c. refl) }
  tests false line kind = record { by = λ h ok asked. tt }

  pub tests_end : {Asked : Here → Type 0} {Q : Unit {0} → Type 0} (b : Bool) (line : ℕ) (kind : TypeKind) → (b ≡ true → Q tt)
      → FineIf Asked Q (unless b line kind)
  tests_end true line kind q = record { by = λ h ok asked. (after_same number h ok, λ c. q refl) }
  tests_end false line kind q = record { by = λ h ok asked. tt }

  pub changes : (f : Here → Here) → ((h : Here) → IsOk number h → After number h (f h)) → Fine Any (change f)
  changes f ok = record { by = λ h sound asked. (ok h sound, λ c. tt) }

  pub changes_end : {Asked : Here → Type 0} {Q : Unit {0} → Type 0} (f : Here → Here) → ((h : Here) → IsOk number h → After number h (f h)) → Q tt
      → FineIf Asked Q (change f)
  changes_end f ok q = record { by = λ h sound asked. (ok h sound, λ c. q) }

  -- with what was asked of the state in front
  pub if_knows : {A B : Type 0} {Asked : Here → Type 0} {Q : B → Type 0} {next : A → Rule B} (f : Here → A)
      → ((a : A) → FineIf (λ h. Asked h × (f h ≡ a)) Q (next a)) → FineIf Asked Q (known f >>= next)
  if_knows f p = record { by = λ h ok asked. (p (f h)).by h ok (asked, refl) }

  pub if_tests : {B : Type 0} {Asked : Here → Type 0} {Q : B → Type 0} {next : Unit {0} → Rule B} (b : Bool) (line : ℕ) (kind : TypeKind)
      → ((u : Unit {0}) → b ≡ true → FineIf Asked Q (next u)) → FineIf Asked Q (unless b line kind >>= next)
  if_tests true line kind p = record { by = λ h ok asked. (p tt refl).by h ok asked }
  if_tests false line kind p = record { by = λ h ok asked. tt }

  pub if_changes : {B : Type 0} {Asked Then : Here → Type 0} {Q : B → Type 0} {next : Unit {0} → Rule B} (f : Here → Here)
      → ((h : Here) → IsOk number h → Asked h → After number h (f h) × Then (f h)) → ((u : Unit {0}) → FineIf Then Q (next u))
      → FineIf Asked Q (change f >>= next)
  if_changes {B} {Asked} {Then} {Q} {next} f ok p = record {
    by = λ h sound asked. let x = ok h sound asked in onward Q h (f h) x.0 (next tt (f h)) ((p tt).by (f h) x.0.ok x.1);
  }

  -- where nothing is wanted of the value
  pub loosely : {A : Type 0} {Asked : Here → Type 0} {P Q : A → Type 0} {rule : Rule A} → ((a : A) → Q a) → Fine P rule → FineIf Asked Q rule
  loosely {A} {Asked} {P} {Q} {rule} q p = record { by = λ h ok asked. go h (rule h) (p.by h ok tt) }
    where
      go : (h : Here) (r : Reply A) → Holds h P r → Holds h Q r
      go h (Gives a g) ok = (ok.0, λ c. q a)
      go h (Breaks line kind) ok = tt

  pub whatever : {A D : Type 0} {Asked : Here → Type 0} {P : A → Type 0} {rule : Rule A} → FineIf Asked P rule → FineIf Asked (λ a. D → P a) rule
  whatever {A} {D} {Asked} {P} {rule} p = record { by = λ h ok asked. go h (rule h) (p.by h ok asked) }
    where
      go : (h : Here) (r : Reply A) → Holds h P r → Holds h (λ a. D → P a) r
      go h (Gives a g) ok = (ok.0, λ c d. ok.1 c)
      go h (Breaks line kind) ok = tt

  pub choose : {A : Type 0} {Asked : Here → Type 0} {P : A → Type 0} {x y : Rule A} (b : Bool) → FineIf Asked P x → FineIf Asked P y
      → FineIf Asked P (if b then x else y)
  choose true p q = p
  choose false p q = q

  abbrev pub AllFine : {A : Type 0} → (A → Type 0) → List (Rule A) → Type 0
  AllFine P [] = ⊤
  AllFine P (r ∷ rs) = Fine P r × AllFine P rs

  pub in_order_fine : {A : Type 0} (P : A → Type 0) (rs : List (Rule A)) → AllFine P rs → Fine Any (in_order rs)
  in_order_fine P [] ok = gives [] tt
  in_order_fine P (r ∷ rs) ok = and ok.0 (λ x. and (in_order_fine P rs ok.1) (λ xs. gives (x ∷ xs) (λ pxs px. tt)))

  -- ## Names

  -- a binding that was found
  abbrev pub IsKnown : Binding → Here → Type 0
  IsKnown (bindings.Object pid internal ty fixed extent) h = IsObjectAt h.syms pid ty fixed extent
  IsKnown (bindings.Parameter place ty fixed) h = ⊤
  IsKnown (bindings.Local place ty fixed extent) h = ⊤
  IsKnown (bindings.Constant w) h = ⊤
  IsKnown (bindings.Library f) h = ⊤
  IsKnown (bindings.Function pid internal) h = ⊤

  known_if : (h : Here) (name : List ℕ) (b : Binding) → IsCoherent number h.syms name b → IsKnown b h
  known_if h name (bindings.Object pid internal ty fixed extent) ok = ok.1
  known_if h name (bindings.Parameter place ty fixed) ok = tt
  known_if h name (bindings.Local place ty fixed extent) ok = tt
  known_if h name (bindings.Constant w) ok = tt
  known_if h name (bindings.Library f) ok = tt
  known_if h name (bindings.Function pid internal) ok = tt

  abbrev IsFound : Here → Option (Declared Binding) → Type 0
  IsFound h None = ⊤
  IsFound h (Some d) = IsKnown d.stands_for h

  found : (h : Here) (name : List ℕ) (ds : List (Declared Binding)) → AreCoherent number h.syms ds → IsFound h (latest name ds)
  found h name [] ok = tt
  found h name (d ∷ ds) ok = by_test (same_name name d.name) (found h name ds ok.1)
    where
      by_test : (b : Bool) → IsFound h (latest name ds) → IsFound h (if b then Some d else latest name ds)
      by_test true more = known_if h d.name d.stands_for ok.0
      by_test false more = more

  pub finds : {B : Type 0} {Q : B → Type 0} {next : Binding → Rule B} (x : Identifier) → ((b : Binding) → FineIf (IsKnown b) Q (next b))
      → Fine Q (find x >>= next)
  finds {B} {Q} {next} x p = record { by = λ h ok asked. choice h ok (latest x.name h.names.declared) (found h x.name h.names.declared ok.coherent) }
    where
      choice : (h : Here) → IsOk number h → (d : Option (Declared Binding)) → IsFound h d
          → Holds h Q (followed (bound x.line (option_map (λ (e : Declared Binding). e.stands_for) d) h) next)
      choice h ok None is = tt
      choice h ok (Some d) is = (p d.stands_for).by h ok is

  pub uses_tag : (x : Identifier) → Fine Any (use_tag x)
  uses_tag x = and (knows (λ (h : Here). visible x.name h.tags)) (λ old. tests_end (is_some old) x.line kinds.Undeclared (λ e a. tt))

  pub declares_tag : (x : Identifier) → Fine Any (declare_tag x)
  declares_tag x =
      and (knows (λ (h : Here). innermost x.name h.tags)) (λ old.
      and (tests (is_none old) x.line kinds.Redeclared) (λ u.
      changes_end (λ (h : Here). record h { tags = declared x.name tag h.tags })
      (λ h ok. after_beside number h (record h { tags = declared x.name tag h.tags }) refl refl (marked_same h.syms) ok) (λ a b. tt)))

  -- a binding that names nothing of the program
  abbrev pub IsPlain : Binding → Type 0
  IsPlain (bindings.Object pid internal ty fixed extent) = ⊥
  IsPlain (bindings.Parameter place ty fixed) = ⊤
  IsPlain (bindings.Local place ty fixed extent) = ⊤
  IsPlain (bindings.Constant w) = ⊤
  IsPlain (bindings.Library f) = ⊤
  IsPlain (bindings.Function pid internal) = ⊤

  pub plain_coherent : (syms : Table) (name : List ℕ) (b : Binding) → IsPlain b → IsCoherent number syms name b
  plain_coherent syms name (bindings.Object pid internal ty fixed extent) ok = absurd ok
  plain_coherent syms name (bindings.Parameter place ty fixed) ok = tt
  plain_coherent syms name (bindings.Local place ty fixed extent) ok = tt
  plain_coherent syms name (bindings.Constant w) ok = tt
  plain_coherent syms name (bindings.Library f) ok = tt
  plain_coherent syms name (bindings.Function pid internal) ok = tt

  pub none_if : {A : Type 0} (o : Option A) → is_none o ≡ true → o ≡ None
  none_if None e = refl
  none_if (Some a) e = absurd (false≢true e)

  -- a name that the innermost scope hasn't is bound
  pub binds_new : {B : Type 0} {Asked : Here → Type 0} {Q : B → Type 0} {next : Unit {0} → Rule B} (name : List ℕ) (b : Binding)
      → ((h : Here) → Asked h → bound_here name h ≡ None) → IsPlain b → ((u : Unit {0}) → Fine Q (next u)) → FineIf Asked Q (change (bind name b) >>= next)
  binds_new name b none plain p =
      if_changes (bind name b)
      (λ h ok asked. (after_bound number name b h ok (plain_coherent h.syms name b plain) (fresh_if number name h ok (none h asked)), tt)) p

  pub binds_end : {Asked : Here → Type 0} {Q : Unit {0} → Type 0} (name : List ℕ) (b : Binding) → ((h : Here) → Asked h → bound_here name h ≡ None)
      → IsPlain b → Q tt → FineIf Asked Q (change (bind name b))
  binds_end name b none plain q = record {
    by = λ h ok asked. (after_bound number name b h ok (plain_coherent h.syms name b plain) (fresh_if number name h ok (none h asked)), λ c. q);
  }

  -- ## Scopes

  pub scoped_fine : {A : Type 0} {P : A → Type 0} {rule : Rule A} → Fine P rule → Fine P (scoped rule)
  scoped_fine {A} {P} {rule} p = record { by = λ h ok asked. go h (rule (enter h)) (p.by (enter h) (ok_entered number h ok) tt) }
    where
      go : (h : Here) (r : Reply A) → Holds (enter h) P r → Holds h P (followed r (λ a. change leave >> give a))
      go h (Gives a g) ok = (after_left number h g ok.0, ok.1)
      go h (Breaks line kind) ok = tt

  pub labelling_fine : {A : Type 0} {P : A → Type 0} {rule : Rule A} → Fine P rule → Fine P (labelling rule)
  labelling_fine {A} {P} {rule} p = record {
    by = λ h ok asked. go h ok (rule (record h { cases = []; default = false })) (p.by (record h { cases = []; default = false }) (same h ok) tt);
  }
    where
      same : (h : Here) → IsOk number h → IsOk number (record h { cases = []; default = false })
      same h ok = record { coherent = ok.coherent; nested = ok.nested }

      go : (h : Here) → IsOk number h → (r : Reply A) → Holds (record h { cases = []; default = false }) P r
          → Holds h P (followed r (λ a. change (λ (g : Here). record g { cases = h.cases; default = h.default }) >> give a))
      go h ok (Gives a g) led =
          let x = led.0 in (
            record {
              ok = record { coherent = x.ok.coherent; nested = x.ok.nested };
              depth = x.depth;
              files = x.files;
              awaited = x.awaited;
              table = x.table;
            },
            led.1,
          )
      go h ok (Breaks line kind) led = tt
