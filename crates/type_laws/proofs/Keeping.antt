-- What a rule keeps that declares no local: from a state in which the names in scope are well bound, where the rule gives
-- a value, that value is good and the names behind it are well bound. One lemma for each way to put rules together.
use Rattle.std.proofs.Common.{◌≡◌, ◌≤◌, ◌<◌, ℕ, zero, suc, List, [], ◌∷◌, Option, Some, None, Bool, true, false, length, refl, sym, ap, ◌∙◌, subst, arith}
use Rattle.std.specs.Prelude.{if◌then◌else◌, ⊤, is_some, is_none}
use Rattle.std.specs.Option.{option_map}
use Rattle.std.proofs.lemmas.Bool.{eq-eqb}
use Rattle.sym_tables.specs.Table.{Table, same_name, mark}
use Rattle.c_tree.specs.declared.expression.Identifier.{Identifier}
use Rattle.c_types.specs.declared.binding.Binding.{Binding}
use Rattle.c_types.specs.declared.binding.Binding.TheVariants as bindings
use Rattle.c_types.specs.declared.fault.TypeKind.{TypeKind}
use Rattle.c_types.specs.DeclarationRules.{is_array}
use Rattle.c_types.specs.Names.{bound, find, bind, declare_tag, use_tag, tag}
use Rattle.c_types.specs.declared.fault.TypeKind.TheVariants as kinds
use Rattle.c_types.specs.Rules.{Here, Reply, Gives, Breaks, Rule, ◌>>=◌, followed, give, broken, known, change, unless, in_order}
use Rattle.c_types.specs.Scopes.{Declared, latest, visible, innermost, declared, outer}
use Rattle.c_types.specs.Uses.{use_pid}
use Rattle.lower_laws.specs.Bound.{Scope}

-- ## Names

-- a binding names a parameter or a local of the scope, an array where it is bound as one
abbrev pub IsNamed : Scope → Binding → Type 0
IsNamed s (bindings.Parameter place ty fixed) = place < s.params
IsNamed s (bindings.Local place ty fixed extent) = (place < s.locals) × (s.is_array place ≡ is_array extent)
IsNamed s (bindings.Constant w) = ⊤
IsNamed s (bindings.Library f) = ⊤
IsNamed s (bindings.Function pid internal) = ⊤
IsNamed s (bindings.Object pid internal ty fixed extent) = ⊤

abbrev pub AreNamed : Scope → List (Declared Binding) → Type 0
AreNamed s [] = ⊤
AreNamed s (d ∷ ds) = IsNamed s d.stands_for × AreNamed s ds

-- none is declared deeper
abbrev pub AreWithin : ℕ → List (Declared Binding) → Type 0
AreWithin n [] = ⊤
AreWithin n (d ∷ ds) = (d.depth ≤ n) × AreWithin n ds

abbrev IsFound : Scope → Option (Declared Binding) → Type 0
IsFound s None = ⊤
IsFound s (Some d) = IsNamed s d.stands_for

found_if : (s : Scope) (d : Declared Binding) (rest : Option (Declared Binding)) (b : Bool) → IsNamed s d.stands_for → IsFound s rest
    → IsFound s (if b then Some d else rest)
found_if s d rest true first later = first
found_if s d rest false first later = later

found : (s : Scope) (name : List ℕ) (ds : List (Declared Binding)) → AreNamed s ds → IsFound s (latest name ds)
found s name [] ok = tt
found s name (d ∷ ds) ok = found_if s d (latest name ds) (same_name name d.name) ok.0 (found s name ds ok.1)

pub outer_more : (n : ℕ) (d : Declared Binding) (ds : List (Declared Binding)) → d.depth ≡ n → outer n (d ∷ ds) ≡ outer n ds
outer_more n d ds e = ap (λ (b : Bool). if b then outer n ds else d ∷ ds) (eq-eqb d.depth n e)

pub length_mark : (syms : Table) (pid : ℕ) → length (mark syms pid) ≡ length syms
length_mark [] pid = refl
length_mark (e ∷ es) zero = refl
length_mark (e ∷ es) (suc pid) = ap suc (length_mark es pid)

-- ## States

-- a state that follows another one in the same block, with the same locals
pub record Stays (s : Scope) (o h : Here) : Type 0 where
  pub named : AreNamed s h.names.declared
  pub within : AreWithin h.names.depth h.names.declared
  pub depth : h.names.depth ≡ o.names.depth
  pub outside : outer h.names.depth h.names.declared ≡ outer o.names.depth o.names.declared
  pub locals : h.locals ≡ o.locals
  pub table : length o.syms ≤ length h.syms

abbrev pub Holds : {A : Type 0} → Scope → Here → (A → Type 0) → Reply A → Type 0
Holds s o Good (Gives a h) = Stays s o h × Good a
Holds s o Good (Breaks line kind) = Unit {0}

pub record Keeps {A : Type 0} (s : Scope) (o : Here) (Good : A → Type 0) (rule : Rule A) : Type 0 where
  pub by : (h : Here) → Stays s o h → Holds s o Good (rule h)

abbrev pub Any : {A : Type 0} → A → Type 0
Any a = Unit {0}

-- ## Ways to put rules together

pub and : {A B : Type 0} {s : Scope} {o : Here} {P : A → Type 0} {Q : B → Type 0} {rule : Rule A} {next : A → Rule B}
    → Keeps s o P rule → ((a : A) → P a → Keeps s o Q (next a)) → Keeps s o Q (rule >>= next)
and {A} {B} {s} {o} {P} {Q} {rule} {next} p q = record { by = λ h st. go (rule h) (p.by h st) }
  where
    go : (r : Reply A) → Holds s o P r → Holds s o Q (followed r next)
    go (Gives a h) ok = (q a ok.1).by h ok.0
    go (Breaks line kind) ok = tt

pub gives : {A : Type 0} {s : Scope} {o : Here} {P : A → Type 0} (a : A) → P a → Keeps s o P (give a)
gives a ok = record { by = λ h st. (st, ok) }

pub breaks : {A : Type 0} {s : Scope} {o : Here} {P : A → Type 0} (line : ℕ) (kind : TypeKind) → Keeps s o P (broken line kind)
breaks line kind = record { by = λ h st. tt }

pub knows : {A : Type 0} {s : Scope} {o : Here} (f : Here → A) → Keeps s o Any (known f)
knows f = record { by = λ h st. (st, tt) }

pub changes : {s : Scope} {o : Here} (f : Here → Here) → ((h : Here) → Stays s o h → Stays s o (f h)) → Keeps s o Any (change f)
changes f ok = record { by = λ h st. (ok h st, tt) }

pub tests : {s : Scope} {o : Here} (b : Bool) (line : ℕ) (kind : TypeKind) → Keeps s o Any (unless b line kind)
tests true line kind = record { by = λ h st. (st, tt) }
tests false line kind = record { by = λ h st. tt }

abbrev pub AllKeep : {A : Type 0} → Scope → Here → (A → Type 0) → List (Rule A) → Type 0
AllKeep s o P [] = ⊤
AllKeep s o P (r ∷ rs) = Keeps s o P r × AllKeep s o P rs

pub in_order_keeps : {A : Type 0} {s : Scope} {o : Here} (P : A → Type 0) (rs : List (Rule A)) → AllKeep s o P rs → Keeps s o Any (in_order rs)
in_order_keeps P [] ok = gives [] tt
in_order_keeps P (r ∷ rs) ok = and ok.0 (λ x px. and (in_order_keeps P rs ok.1) (λ xs pxs. gives (x ∷ xs) tt))

-- ## Names in rules

pub finds : {s : Scope} {o : Here} (x : Identifier) → Keeps s o (IsNamed s) (find x)
finds {s} {o} x = record { by = λ h st. choice h st (latest x.name h.names.declared) (found s x.name h.names.declared st.named) }
  where
    choice : (h : Here) → Stays s o h → (d : Option (Declared Binding)) → IsFound s d
        → Holds s o (IsNamed s) (bound x.line (option_map (λ (e : Declared Binding). e.stands_for) d) h)
    choice h st None ok = tt
    choice h st (Some d) ok = (st, ok)

pub stays_bound : {s : Scope} {o : Here} (name : List ℕ) (b : Binding) → IsNamed s b → (h : Here) → Stays s o h → Stays s o (bind name b h)
stays_bound name b ok h st = record {
  named = (ok, st.named);
  within = (omega arith, st.within);
  depth = st.depth;
  outside = outer_more h.names.depth (record { name = name; depth = h.names.depth; stands_for = b }) h.names.declared refl ∙ st.outside;
  locals = st.locals;
  table = st.table;
}

pub binds : {s : Scope} {o : Here} (name : List ℕ) (b : Binding) → IsNamed s b → Keeps s o Any (change (bind name b))
binds name b ok = changes (bind name b) (stays_bound name b ok)

-- what is no name and no local may change, and the table may grow
pub stays_beside : {s : Scope} {o : Here} (h g : Here) → g.names ≡ h.names → g.locals ≡ h.locals → length h.syms ≤ length g.syms → Stays s o h → Stays s o g
stays_beside {s} {o} h g names locals table st = record {
  named = subst (λ n. AreNamed s n.declared) (sym names) st.named;
  within = subst (λ n. AreWithin n.depth n.declared) (sym names) st.within;
  depth = ap (λ n. n.depth) names ∙ st.depth;
  outside = ap (λ n. outer n.depth n.declared) names ∙ st.outside;
  locals = locals ∙ st.locals;
  table = omega (arith, st.table, table);
}

pub uses_pid : {s : Scope} {o : Here} (pid : ℕ) → Keeps s o Any (use_pid pid)
uses_pid pid = changes _ (λ h st. stays_beside h (record h { syms = mark h.syms pid }) refl refl (omega (arith, length_mark h.syms pid)) st)

pub uses_tag : {s : Scope} {o : Here} (x : Identifier) → Keeps s o Any (use_tag x)
uses_tag x = and (knows (λ (h : Here). visible x.name h.tags)) (λ old any. tests (is_some old) x.line kinds.Undeclared)

pub declares_tag : {s : Scope} {o : Here} (x : Identifier) → Keeps s o Any (declare_tag x)
declares_tag {s} {o} x =
    and (knows (λ (h : Here). innermost x.name h.tags)) (λ old a0.
    and (tests (is_none old) x.line kinds.Redeclared) (λ u a1.
    changes (λ (h : Here). record h { tags = declared x.name tag h.tags })
    (λ h st. stays_beside h (record h { tags = declared x.name tag h.tags }) refl refl (omega arith) st)))
