-- The parameters and the body of a definition: the function that the rules give is bound.
use Rattle.std.proofs.Common.{◌≡◌, ℕ, suc, ◌+◌, ◌-◌, ◌≤◌, List, [], ◌∷◌, ◌++◌, Option, Some, None, Bool, true, false, length, refl, sym, ap, ap₂, ◌∙◌}
use Rattle.std.proofs.Common.{subst, arith}
use Rattle.std.specs.Prelude.{if◌then◌else◌, ◌==◌, not, is_none}
use Rattle.std.proofs.lemmas.Bool.{eqb-true}
use Rattle.hlo_num.specs.declared.word.Ty.{Ty}
use Rattle.sym_tables.specs.declared.entity.Entity.TheVariants as entities
use Rattle.sym_tables.specs.declared.symbol.Standing.TheVariants as standings
use Rattle.c_tree.specs.declared.expression.Identifier.{Identifier}
use Rattle.c_tree.specs.declared.declaration.Declaration.{Declaration}
use Rattle.c_tree.specs.declared.declaration.Declarator.{Declarator}
use Rattle.c_tree.specs.declared.declaration.Function.{Function}
use Rattle.c_tree.specs.declared.declaration.Parameter.{Parameter}
use Rattle.c_tree.specs.declared.declaration.Shape.{Shape}
use Rattle.c_tree.specs.declared.declaration.Shape.TheVariants as shapes
use Rattle.c_tree.specs.declared.statement.Block.{Block}
use Rattle.c_typed.specs.declared.function.Local.{Local}
use Rattle.c_typed.specs.declared.function.Parameter.{Parameter as TypedParameter}
use Rattle.c_typed.specs.declared.function.TypedFunction.{TypedFunction}
use Rattle.c_typed.specs.declared.statement.TypedStmt.{TypedStmt, roll-TypedStmt}
use Rattle.c_typed.specs.declared.statement.TypedStmt.TheOpen.{TypedStmt-F}
use Rattle.c_typed.specs.declared.statement.TypedStmt.TheFolds.{fold-roll-TypedStmt}
use Rattle.c_typed.specs.Trees as tree
use Rattle.c_typed.specs.Views.{stmt_layer, section_layer, function_of}
use Rattle.c_types.specs.declared.binding.Binding.{Binding}
use Rattle.c_types.specs.declared.binding.Binding.TheVariants as bindings
use Rattle.c_types.specs.declared.fault.TypeKind.TheVariants as kinds
use Rattle.c_types.specs.declared.specifiers.Site.TheVariants as sites
use Rattle.c_types.specs.declared.specifiers.Specified.{Specified}
use Rattle.c_types.specs.DeclarationRules as rules
use Rattle.c_types.specs.DeclarationRules.{link, parameters, parameters_from, declare_parameter, parameter_line, unnamed_parameter, type_or_none}
use Rattle.c_types.specs.Enumerations.{is_library}
use Rattle.c_types.specs.Names.{enter, leave, scoped, bind}
use Rattle.c_types.specs.Rules.{Here, Reply, Gives, Breaks, Rule, ◌>>=◌, ◌>>◌, followed, give, known, change, unless}
use Rattle.c_types.specs.Scopes.{Declared, inner, outer}
use Rattle.c_types.specs.StatementRules.{blocking, declares}
use Rattle.c_types.specs.Typing as typing
use Rattle.c_types.specs.Typing.{Aside, aside, resume, named_parameter, named_parameters}
use Rattle.lower_laws.specs.Bound.{Scope, IsStmt, IsBound}
use Rattle.type_laws.proofs.FileScope.{only, all_more, stays_more, declares_new, link_keeps, declare_function_keeps, no_initialiser_keeps, file_object_keeps}
use Rattle.type_laws.proofs.Going.{scope_with, within_more, outer_none, front_none, Leads}
use Rattle.type_laws.proofs.Keeping.{IsNamed, AreNamed, AreWithin, Stays, Holds, Keeps, Any, and, gives, breaks, tests, binds, outer_more}
use Rattle.type_laws.proofs.Statements.{AreStatements, value_type_keeps, blocking_does}
use Rattle.type_laws.proofs.Typings.{specifying_keeps}

-- ## The names of an inner scope

inner_named_if : (s : Scope) (d : Declared Binding) (ds : List (Declared Binding)) (b : Bool) → IsNamed s d.stands_for → AreNamed s ds
    → AreNamed s (if b then d ∷ ds else [])
inner_named_if s d ds true ok more = (ok, more)
inner_named_if s d ds false ok more = tt

inner_named : (s : Scope) (n : ℕ) (ds : List (Declared Binding)) → AreNamed s ds → AreNamed s (inner n ds)
inner_named s n [] ok = tt
inner_named s n (d ∷ ds) ok = inner_named_if s d (inner n ds) (d.depth == n) ok.0 (inner_named s n ds ok.1)

inner_within_if : (n : ℕ) (d : Declared Binding) (ds : List (Declared Binding)) (b : Bool) → (d.depth == n) ≡ b → AreWithin n ds
    → AreWithin n (if b then d ∷ ds else [])
inner_within_if n d ds true e more = let same = eqb-true d.depth n e in (omega (arith, same), more)
inner_within_if n d ds false e more = tt

pub inner_within : (n : ℕ) (ds : List (Declared Binding)) → AreWithin n (inner n ds)
inner_within n [] = tt
inner_within n (d ∷ ds) = inner_within_if n d (inner n ds) (d.depth == n) refl (inner_within n ds)

outer_inner_if : (n : ℕ) (d : Declared Binding) (ds es : List (Declared Binding)) (b : Bool) → (d.depth == n) ≡ b → outer n (ds ++ es) ≡ outer n es
    → outer n ((if b then d ∷ ds else []) ++ es) ≡ outer n es
outer_inner_if n d ds es true e more = outer_more n d (ds ++ es) (eqb-true d.depth n e) ∙ more
outer_inner_if n d ds es false e more = refl

pub outer_inner : (n : ℕ) (ds es : List (Declared Binding)) → outer n (inner n ds ++ es) ≡ outer n es
outer_inner n [] es = refl
outer_inner n (d ∷ ds) es = outer_inner_if n d (inner n ds) es (d.depth == n) refl (outer_inner n ds es)

named_append : (s : Scope) (xs ys : List (Declared Binding)) → AreNamed s xs → AreNamed s ys → AreNamed s (xs ++ ys)
named_append s [] ys p q = q
named_append s (x ∷ xs) ys p q = (p.0, named_append s xs ys p.1 q)

pub within_append : (n : ℕ) (xs ys : List (Declared Binding)) → AreWithin n xs → AreWithin n ys → AreWithin n (xs ++ ys)
within_append n [] ys p q = q
within_append n (x ∷ xs) ys p q = (p.0, within_append n xs ys p.1 q)

-- the names of a scope that was left, at a depth, where there are so many parameters
record IsAside (depth k : ℕ) (names : List (Declared Binding)) : Type 0 where
  pub named : AreNamed (only k) names
  pub within : AreWithin depth names
  pub inside : (es : List (Declared Binding)) → outer depth (names ++ es) ≡ outer depth es

-- ## Parameters

-- a rule behind which there are more parameters
abbrev Widened : {A : Type 0} → Here → (A → ℕ) → (A → Type 0) → Reply A → Type 0
Widened o n Q (Gives a g) = Stays (only (n a)) o g × Q a
Widened o n Q (Breaks line kind) = Unit {0}

record Widens {A : Type 0} (o : Here) (from : ℕ) (n : A → ℕ) (Q : A → Type 0) (rule : Rule A) : Type 0 where
  pub by : (h : Here) → Stays (only from) o h → Widened o n Q (rule h)

widens_after : {A B : Type 0} {o : Here} {from : ℕ} {P : A → Type 0} {n : B → ℕ} {Q : B → Type 0} {rule : Rule A} {next : A → Rule B}
    → Keeps (only from) o P rule → ((a : A) → P a → Widens o from n Q (next a)) → Widens o from n Q (rule >>= next)
widens_after {A} {B} {o} {from} {P} {n} {Q} {rule} {next} p q = record { by = λ h st. go (rule h) (p.by h st) }
  where
    go : (r : Reply A) → Holds (only from) o P r → Widened o n Q (followed r next)
    go (Gives a h) ok = (q a ok.1).by h ok.0
    go (Breaks line kind) ok = tt

declare_parameter_keeps : (place : ℕ) (ty : Ty) (fixed : Bool) (x : Option Identifier) (o : Here)
    → Keeps (only (place + 1)) o Any (declare_parameter place ty fixed x)
declare_parameter_keeps place ty fixed None o = gives tt tt
declare_parameter_keeps place ty fixed (Some x) o = declares_new x (bindings.Parameter place ty fixed) (omega arith)

-- the types of parameters from a place on
abbrev upto : ℕ → List Ty → ℕ
upto place types = place + length types

more_parameters : (o : Here) (place : ℕ) (ty : Ty) (n : ℕ) (rule : Rule (List Ty)) → Widens o (place + 1) (upto (place + 1)) (λ types. length types ≡ n) rule
    → Widens o (place + 1) (upto place) (λ types. length types ≡ suc n) (rule >>= λ types. give (ty ∷ types))
more_parameters o place ty n rule p = record { by = λ h st. go (rule h) (p.by h st) }
  where
    go : (r : Reply (List Ty)) → Widened o (upto (place + 1)) (λ types. length types ≡ n) r
        → Widened o (upto place) (λ types. length types ≡ suc n) (followed r (λ types. give (ty ∷ types)))
    go (Gives types g) ok = (stays_more (place + 1 + length types) (place + suc (length types)) (omega arith) g ok.0, ap suc ok.1)
    go (Breaks line kind) ok = tt

parameters_from_widen : (o : Here) (place : ℕ) (ps : List Parameter) → Widens o place (upto place) (λ types. length types ≡ length ps)
    (parameters_from place ps)
parameters_from_widen o place [] = record { by = λ h st. (stays_more place (place + 0) (omega arith) h st, refl) }
parameters_from_widen o place (p ∷ ps) =
    widens_after (specifying_keeps (only place) o p.specifiers sites.Parameter) (λ sp a0.
    widens_after (value_type_keeps (parameter_line p) sp.ty (only place) o) (λ ty a1.
    record {
      by = λ h st.
          (widens_after (declare_parameter_keeps place ty sp.fixed p.name o) (λ u a2.
          more_parameters o place ty (length ps) (parameters_from (place + 1) ps) (parameters_from_widen o (place + 1) ps))).by h
          (stays_more place (place + 1) (omega arith) h st);
    }))

abbrev IsParameters : List Parameter → List Ty → Type 0
IsParameters ps types = length types ≤ length ps

all_parameters : (o : Here) (ps : List Parameter) (rule : Rule (List Ty)) → Widens o 0 (upto 0) (λ types. length types ≡ length ps) rule
    → Widens o 0 length (IsParameters ps) rule
all_parameters o ps rule p = record { by = λ h st. go (rule h) (p.by h st) }
  where
    go : (r : Reply (List Ty)) → Widened o (upto 0) (λ types. length types ≡ length ps) r → Widened o length (IsParameters ps) r
    go (Gives types g) ok = (stays_more (0 + length types) (length types) (omega arith) g ok.0, omega (arith, ok.1))
    go (Breaks line kind) ok = tt

one_at_most : (ty : Option Ty) → length (type_or_none ty) ≤ 1
one_at_most None = omega arith
one_at_most (Some ty) = omega arith

unnamed_widens : (o : Here) (p : Parameter) → Widens o 0 length (IsParameters (p ∷ [])) (unnamed_parameter p)
unnamed_widens o p =
    widens_after (specifying_keeps (only 0) o p.specifiers sites.Parameter) (λ sp a0.
    record { by = λ h st. (stays_more 0 (length (type_or_none sp.ty)) (omega arith) h st, one_at_most sp.ty) })

either : {o : Here} {n : List Ty → ℕ} {Q : List Ty → Type 0} {x y : Rule (List Ty)} (b : Bool) → Widens o 0 n Q x → Widens o 0 n Q y
    → Widens o 0 n Q (if b then x else y)
either true p q = p
either false p q = q

parameters_widen : (o : Here) (ps : List Parameter) → Widens o 0 length (IsParameters ps) (parameters ps)
parameters_widen o [] = all_parameters o [] (parameters_from 0 []) (parameters_from_widen o 0 [])
parameters_widen o (p ∷ []) =
    either (is_none p.name) (unnamed_widens o p) (all_parameters o (p ∷ []) (parameters_from 0 (p ∷ [])) (parameters_from_widen o 0 (p ∷ [])))
parameters_widen o (p ∷ q ∷ ps) = all_parameters o (p ∷ q ∷ ps) (parameters_from 0 (p ∷ q ∷ ps)) (parameters_from_widen o 0 (p ∷ q ∷ ps))

-- ## The scope of parameters

entered : (o h : Here) → Stays (only 0) o h → Stays (only 0) (enter h) (enter h)
entered o h st = record {
  named = st.named;
  within = within_more h.names.depth (h.names.depth + 1) h.names.declared (omega arith) st.within;
  depth = refl;
  outside = refl;
  locals = refl;
  table = omega arith;
}

left_again : (k : ℕ) (o h g : Here) → Stays (only 0) o h → Stays (only k) (enter h) g → Stays (only 0) o (leave g)
left_again k o h g st x =
    let depth : g.names.depth - 1 ≡ h.names.depth = omega (arith, x.depth) in
    let names : outer g.names.depth g.names.declared ≡ h.names.declared = x.outside ∙ outer_none h.names.depth h.names.declared st.within in
    record {
      named = subst (λ ds. AreNamed (only 0) ds) (sym names) st.named;
      within = subst (λ ds. AreWithin (g.names.depth - 1) ds) (sym names) (subst (λ n. AreWithin n h.names.declared) (sym depth) st.within);
      depth = depth ∙ st.depth;
      outside = ap₂ outer depth names ∙ st.outside;
      locals = x.locals ∙ st.locals;
      table = omega (arith, x.table, st.table);
    }

scoped_parameters_keep : (o : Here) (ps : List Parameter) → Keeps (only 0) o Any (scoped (parameters ps))
scoped_parameters_keep o ps = record { by = λ h st. go h st (parameters ps (enter h)) ((parameters_widen (enter h) ps).by (enter h) (entered o h st)) }
  where
    go : (h : Here) → Stays (only 0) o h → (r : Reply (List Ty)) → Widened (enter h) length (IsParameters ps) r
        → Holds (only 0) o Any (followed r (λ a. change leave >> give a))
    go h st (Gives types g) ok = (left_again (length types) o h g st ok.0, tt)
    go h st (Breaks line kind) ok = tt

-- ## Declarations at file scope

file_function_keeps : (o : Here) (number : ℕ) (sp : Specified) (d : Declarator) (ps : List Parameter)
    → Keeps (only 0) o Any (rules.file_function number sp d ps)
file_function_keeps o number sp d ps =
    and (scoped_parameters_keep o ps) (λ types a0.
    and (declare_function_keeps (only 0) o number d.name sp.storage (entities.Function sp.ty types)) (λ u a1. no_initialiser_keeps (only 0) o d.initialiser))

file_shape_keeps : (o : Here) (number : ℕ) (sp : Specified) (d : Declarator) (x : Shape) → Keeps (only 0) o Any (rules.file_shape number sp d x)
file_shape_keeps o number sp d shapes.Plain = file_object_keeps (only 0) o number sp d
file_shape_keeps o number sp d (shapes.Array n) = file_object_keeps (only 0) o number sp d
file_shape_keeps o number sp d (shapes.Function ps) = file_function_keeps o number sp d ps

file_declarators_keep : (o : Here) (number : ℕ) (sp : Specified) (ds : List Declarator) → Keeps (only 0) o Any (rules.file_declarators number sp ds)
file_declarators_keep o number sp [] = gives tt tt
file_declarators_keep o number sp (d ∷ ds) = and (file_shape_keeps o number sp d d.shape) (λ u a0. file_declarators_keep o number sp ds)

pub file_declaration_keeps : (o : Here) (number : ℕ) (d : Declaration) → Keeps (only 0) o Any (rules.file_declaration number d)
file_declaration_keeps o number d =
    and (specifying_keeps (only 0) o d.specifiers sites.File) (λ sp a0.
    and (tests (declares sp d.declarators) d.specifiers.line kinds.Specifiers) (λ u a1. file_declarators_keep o number sp d.declarators))

-- ## Definitions

abbrev IsNamedFor : List Ty → List Parameter → List TypedParameter → Type 0
IsNamedFor types ps xs = length types ≤ length ps → length xs ≡ length types

named_parameter_keeps : (s : Scope) (o : Here) (ty : Ty) (line : ℕ) (x : Option Identifier) → Keeps s o Any (named_parameter ty line x)
named_parameter_keeps s o ty line None = breaks line kinds.NoName
named_parameter_keeps s o ty line (Some x) = gives _ tt

named_parameters_keep : (s : Scope) (o : Here) (types : List Ty) (ps : List Parameter) → Keeps s o (IsNamedFor types ps) (named_parameters types ps)
named_parameters_keep s o [] ps = gives [] (λ le. refl)
named_parameters_keep s o (ty ∷ types) [] = gives [] (λ le. absurd (omega (arith, le)))
named_parameters_keep s o (ty ∷ types) (p ∷ ps) =
    and (named_parameter_keeps s o ty p.specifiers.line p.name) (λ x a0.
    and (named_parameters_keep s o types ps) (λ xs is. gives (x ∷ xs) (λ le. ap suc (is (omega (arith, le))))))

-- the block of a definition, in the scope of its parameters
abbrev pub bodied : ℕ → Option Ty → List TypedParameter → Aside → Block → Rule TypedFunction
bodied pid result params names b = do
  change (resume names)
  change (λ h. record h { locals = [] })
  body ← (blocking b).statements (record { result = result; breaks = false; continues = false })
  locals ← known (λ h. h.locals)
  change (λ h. record h { locals = [] })
  change leave
  give (record { pid = pid; result = result; params = params; locals = locals; body = roll-TypedStmt (TypedStmt-F.Block body) })

-- what stands behind the types of the parameters
abbrev pub fronted : ℕ → Function → Specified → List Ty → Aside → Rule TypedFunction
fronted number f sp types names = do
  unless (not (is_library f.name.name)) f.name.line kinds.Library
  l ← link number f.name sp.storage true standings.Defined (entities.Function sp.ty types)
  change (bind f.name.name (bindings.Function l.pid l.internal))
  params ← named_parameters types f.parameters
  bodied l.pid sp.ty params names f.body

abbrev pub IsBoundFunction : TypedFunction → Type 0
IsBoundFunction t = IsBound (function_of t)

bodied_keeps : (o : Here) (pid : ℕ) (result : Option Ty) (params : List TypedParameter) (names : Aside) (b : Block) → o.locals ≡ []
    → IsAside (o.names.depth + 1) (length params) names.names → Keeps (only 0) o IsBoundFunction (bodied pid result params names b)
bodied_keeps o pid result params names b none is = record {
  by = λ h st.
      let h1 : Here = record (resume names h) { locals = [] } in
      go h st (is_at h st)
      ((blocking b).statements (record { result = result; breaks = false; continues = false }) h1)
      (λ final.
      ((blocking_does (length params) final b).statements (record { result = result; breaks = false; continues = false })).by h1
      (record {
        named = named_append (only (length params)) names.names h.names.declared is.named
            (all_more 0 (length params) (omega arith) h.names.declared st.named);
        within = within_append (h.names.depth + 1) names.names h.names.declared (is_at h st).within
            (within_more h.names.depth (h.names.depth + 1) h.names.declared (omega arith) st.within);
      }));
}
  where
    is_at : (h : Here) → Stays (only 0) o h → IsAside (h.names.depth + 1) (length params) names.names
    is_at h st = subst (λ n. IsAside (n + 1) (length params) names.names) (sym st.depth) is

    go : (h : Here) → Stays (only 0) o h → IsAside (h.names.depth + 1) (length params) names.names → (r : Reply (List TypedStmt))
        → ((final : List Local) → Leads (length params) final false (record (resume names h) { locals = [] }) (AreStatements (length params) final) r)
        → Holds (only 0) o IsBoundFunction
        (followed r (λ body. (known (λ (g : Here). g.locals) >>= λ locals. (change (λ (g : Here). record g { locals = [] }) >>
        (change leave >> give (record { pid = pid; result = result; params = params; locals = locals; body = roll-TypedStmt (TypedStmt-F.Block body) }))))))
    go h st there (Gives body g) led =
        let one = led g.locals in
        let x = one.0 in
        let depth : g.names.depth - 1 ≡ h.names.depth = omega (arith, x.depth) in
        let outside : outer g.names.depth g.names.declared ≡ h.names.declared =
        x.outside ∙ there.inside h.names.declared ∙ outer_none h.names.depth h.names.declared st.within in (
          record {
            named = subst (λ ds. AreNamed (only 0) ds) (sym outside) st.named;
            within = subst (λ ds. AreWithin (g.names.depth - 1) ds) (sym outside) (subst (λ n. AreWithin n h.names.declared) (sym depth) st.within);
            depth = depth ∙ st.depth;
            outside = ap₂ outer depth outside ∙ st.outside;
            locals = sym none;
            table = omega (arith, x.table, st.table);
          },
          subst (λ t. IsStmt (scope_with (length params) g.locals 0) t)
              (sym (fold-roll-TypedStmt tree.Stmt (tree.Sections → tree.Sections) stmt_layer section_layer (TypedStmt-F.Block body)))
              (one.1 (front_none g.locals)).0,
        )
    go h st there (Breaks line kind) led = tt

fronted_keeps : (o : Here) (number : ℕ) (f : Function) (sp : Specified) (types : List Ty) (names : Aside) → o.locals ≡ [] → length types ≤ length f.parameters
    → IsAside (o.names.depth + 1) (length types) names.names → Keeps (only 0) o IsBoundFunction (fronted number f sp types names)
fronted_keeps o number f sp types names none le is =
    and (tests (not (is_library f.name.name)) f.name.line kinds.Library) (λ u a0.
    and (link_keeps (only 0) o number f.name sp.storage true standings.Defined (entities.Function sp.ty types)) (λ l a1.
    and (binds f.name.name (bindings.Function l.pid l.internal) tt) (λ u1 a2.
    and (named_parameters_keep (only 0) o types f.parameters) (λ params named.
    bodied_keeps o l.pid sp.ty params names f.body none (subst (λ n. IsAside (o.names.depth + 1) n names.names) (sym (named le)) is)))))

pub function_keeps : (o : Here) (number : ℕ) (f : Function) → o.locals ≡ [] → Keeps (only 0) o IsBoundFunction (typing.function number f)
function_keeps o number f none =
    and (specifying_keeps (only 0) o f.specifiers sites.File) (λ sp a0. record {
      by = λ h st. go sp h st (parameters f.parameters (enter h)) ((parameters_widen (enter h) f.parameters).by (enter h) (entered o h st));
    })
  where
    go : (sp : Specified) (h : Here) → Stays (only 0) o h → (r : Reply (List Ty)) → Widened (enter h) length (IsParameters f.parameters) r
        → Holds (only 0) o IsBoundFunction (followed r (λ types. (known aside >>= λ names. (change leave >> fronted number f sp types names))))
    go sp h st (Gives types g) ok =
        let x = ok.0 in
        let depth : g.names.depth ≡ o.names.depth + 1 = omega (arith, x.depth, st.depth) in
        (fronted_keeps o number f sp types (aside g) none ok.1
        (subst (λ n. IsAside n (length types) (inner g.names.depth g.names.declared)) depth
        (record {
          named = inner_named (only (length types)) g.names.depth g.names.declared x.named;
          within = inner_within g.names.depth g.names.declared;
          inside = outer_inner g.names.depth g.names.declared;
        }))).by (leave g) (left_again (length types) o h g st x)
    go sp h st (Breaks line kind) ok = tt
