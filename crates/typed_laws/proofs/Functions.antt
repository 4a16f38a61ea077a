-- The parameters and the block of a definition: the function that the rules give is well typed.
use Rattle.std.proofs.Common.{◌≡◌, ◌≤◌, ℕ, suc, ◌+◌, List, [], ◌∷◌, ◌++◌, map, Option, Some, None, Bool, true, false, length, refl, sym, ap, ap₂}
use Rattle.std.proofs.Common.{◌∙◌, subst, arith, slice_get}
use Rattle.std.specs.Prelude.{if◌then◌else◌, ◌==◌, not, is_none, ⊤}
use Rattle.std.proofs.lemmas.List.{append-nil}
use Rattle.hlo_num.specs.declared.word.Ty.{Ty}
use Rattle.sym_tables.specs.declared.entity.Entity.TheVariants as entities
use Rattle.sym_tables.specs.declared.symbol.Standing.TheVariants as standings
use Rattle.sym_tables.specs.Table.{Table}
use Rattle.c_tree.specs.declared.expression.Identifier.{Identifier}
use Rattle.c_tree.specs.declared.declaration.Declaration.{Declaration}
use Rattle.c_tree.specs.declared.declaration.Declarator.{Declarator}
use Rattle.c_tree.specs.declared.declaration.Function.{Function as Defined}
use Rattle.c_tree.specs.declared.declaration.Parameter.{Parameter}
use Rattle.c_tree.specs.declared.declaration.Shape.{Shape}
use Rattle.c_tree.specs.declared.declaration.Shape.TheVariants as shapes
use Rattle.c_tree.specs.declared.statement.Block.{Block}
use Rattle.c_typed.specs.declared.function.Local.{Local}
use Rattle.c_typed.specs.declared.function.Parameter.{Parameter as TypedParameter}
use Rattle.c_typed.specs.declared.function.TypedFunction.{TypedFunction}
use Rattle.c_typed.specs.declared.statement.TypedStmt.{TypedStmt, roll-TypedStmt}
use Rattle.c_typed.specs.declared.statement.TypedStmt.TheOpen.{TypedStmt-F}
use Rattle.c_typed.specs.declared.statement.TypedStmt.TheFolds.{fold-roll-TypedStmt}
use Rattle.c_typed.specs.Trees as tree
use Rattle.c_typed.specs.Views.{stmt_layer, section_layer, function_of}
use Rattle.c_types.specs.declared.binding.Binding.{Binding}
use Rattle.c_types.specs.declared.binding.Binding.TheVariants as bindings
use Rattle.c_types.specs.declared.fault.TypeKind.TheVariants as kinds
use Rattle.c_types.specs.declared.specifiers.Site.TheVariants as sites
use Rattle.c_types.specs.declared.specifiers.Specified.{Specified}
use Rattle.c_types.specs.declared.statements.Around.{Around}
use Rattle.c_types.specs.DeclarationRules as rules
use Rattle.c_types.specs.DeclarationRules.{parameters, parameters_from, declare_parameter, parameter_line, unnamed_parameter, type_or_none}
use Rattle.c_types.specs.Enumerations.{is_library}
use Rattle.c_types.specs.Names.{enter, leave, scoped}
use Rattle.c_types.specs.Rules.{Here, Reply, Gives, Breaks, Rule, ◌>>=◌, ◌>>◌, followed, give, known, change}
use Rattle.c_types.specs.Scopes.{Declared, outer, inner}
use Rattle.c_types.specs.StatementRules.{blocking, declares}
use Rattle.c_types.specs.Typing as typing
use Rattle.c_types.specs.Typing.{Aside, aside, resume, named_parameter, named_parameters}
use Rattle.type_laws.proofs.Functions.{bodied, fronted, inner_within, outer_inner, within_append}
use Rattle.type_laws.proofs.Going.{within_more}
use Rattle.type_laws.proofs.Keeping.{AreWithin}
use Rattle.program_laws.specs.Growing.{entity_at}
use Rattle.typed_laws.specs.WellTyped.{IsStmt, scope_of, types_of}
use Rattle.typed_laws.proofs.FileScope.{declares_new, link_does, declare_function_does, no_initialiser_does, file_object_does}
use Rattle.typed_laws.proofs.Judging.{Any, Step, Holds, Does, DoesIf, step_none, step_then, less, plain, and, and_if, gives, breaks, if_tests, tests, binds}
use Rattle.typed_laws.proofs.Names.{Final, IsNamed, AreNamed, IsSound, Stays, sound_behind, stays_same, stays_then, sound_entered, stays_left, Before}
use Rattle.typed_laws.proofs.Statements.{value_type_does, whole, around, AreStatements, blocking_does}
use Rattle.typed_laws.proofs.Typings.{specifying_does}

-- ## Parameters of a function whose parameters have these types in the end

-- the types from a place on are those
abbrev HasTypes : Final → ℕ → List Ty → Type 0
HasTypes f place types = (i : ℕ) (t : Ty) → slice_get types i ≡ Some t → slice_get f.params (place + i) ≡ Some t

abbrev ParametersHold : Final → ℕ → ℕ → Here → Reply (List Ty) → Type 0
ParametersHold f place most h (Gives types g) =
    Step f h g × (length types ≤ most) × (Before f g → HasTypes f place types → IsSound f h → Stays f h g)
ParametersHold f place most h (Breaks line kind) = Unit {0}

module _ (f : Final) where
  record Lists (place most : ℕ) (rule : Rule (List Ty)) : Type 0 where
    pub by : (h : Here) → ParametersHold f place most h (rule h)

  lists_behind : {A : Type 0} {P : A → Type 0} {place most : ℕ} {rule : Rule A} {next : A → Rule (List Ty)} → Does f P rule
      → ((a : A) → Lists place most (next a)) → Lists place most (rule >>= next)
  lists_behind {A} {P} {place} {most} {rule} {next} p q = record { by = λ h. go h (rule h) (p.by h) }
    where
      later : (h g : Here) → Step f h g → (Before f g → IsSound f h → Stays f h g) → (r : Reply (List Ty)) → ParametersHold f place most g r
          → ParametersHold f place most h r
      later h g x stays (Gives types k) ok = (
        step_then f h g k x ok.0,
        ok.1,
        λ before has sound.
            let one = stays (ok.0.before before) sound in stays_then f h g k one (ok.2 before has (sound_behind f h g one)),
      )
      later h g x stays (Breaks line kind) ok = tt

      go : (h : Here) (r : Reply A) → Holds f ⊤ h P r → ParametersHold f place most h (followed r next)
      go h (Gives a g) ok = later h g ok.0 (λ before sound. (ok.1 before tt sound).0) (next a g) ((q a).by g)
      go h (Breaks line kind) ok = tt

  first_type : (place : ℕ) (ty : Ty) (types : List Ty) → HasTypes f place (ty ∷ types) → slice_get f.params place ≡ Some ty
  first_type place ty types has = subst (λ n. slice_get f.params n ≡ Some ty) (omega arith) (has 0 ty refl)

  later_types : (place : ℕ) (ty : Ty) (types : List Ty) → HasTypes f place (ty ∷ types) → HasTypes f (place + 1) types
  later_types place ty types has i t is = subst (λ n. slice_get f.params n ≡ Some t) (omega arith) (has (suc i) t is)

  -- one parameter in front of others
  lists_one : {P : Unit {0} → Type 0} (place most : ℕ) (ty : Ty) (rule : Rule (Unit {0})) (rest : Rule (List Ty))
      → DoesIf f (slice_get f.params place ≡ Some ty) P rule → Lists (place + 1) most rest
      → Lists place (suc most) (rule >>= λ u. (rest >>= λ types. give (ty ∷ types)))
  lists_one {P} place most ty rule rest p q = record { by = λ h. go h (rule h) (p.by h) }
    where
      later : (h g : Here) → Step f h g → (Before f g → slice_get f.params place ≡ Some ty → IsSound f h → Stays f h g) → (r : Reply (List Ty))
          → ParametersHold f (place + 1) most g r → ParametersHold f place (suc most) h (followed r (λ types. give (ty ∷ types)))
      later h g x stays (Gives types k) ok = (
        step_then f h g k x ok.0,
        omega (arith, ok.1),
        λ before has sound.
            let one = stays (ok.0.before before) (first_type place ty types has) sound in
            stays_then f h g k one (ok.2 before (later_types place ty types has) (sound_behind f h g one)),
      )
      later h g x stays (Breaks line kind) ok = tt

      go : (h : Here) (r : Reply (Unit {0})) → Holds f (slice_get f.params place ≡ Some ty) h P r
          → ParametersHold f place (suc most) h (followed r (λ u. (rest >>= λ types. give (ty ∷ types))))
      go h (Gives u g) ok = later h g ok.0 (λ before is sound. (ok.1 before is sound).0) (rest g) (q.by g)
      go h (Breaks line kind) ok = tt

  declare_parameter_does : (place : ℕ) (ty : Ty) (fixed : Bool) (x : Option Identifier)
      → DoesIf f (slice_get f.params place ≡ Some ty) Any (declare_parameter place ty fixed x)
  declare_parameter_does place ty fixed None = gives f tt (λ g. tt)
  declare_parameter_does place ty fixed (Some x) = declares_new f x (bindings.Parameter place ty fixed) (λ g. g)

  from_lists : (place : ℕ) (ps : List Parameter) → Lists place (length ps) (parameters_from place ps)
  from_lists place [] = record { by = λ h. (step_none f h, omega arith, λ before has sound. stays_same f h h refl sound) }
  from_lists place (p ∷ ps) =
      lists_behind (specifying_does f p.specifiers sites.Parameter) (λ s.
      lists_behind (value_type_does f (parameter_line p) s.ty) (λ ty.
      lists_one place (length ps) ty (declare_parameter place ty s.fixed p.name) (parameters_from (place + 1) ps)
      (declare_parameter_does place ty s.fixed p.name) (from_lists (place + 1) ps)))

  one_at_most : (ty : Option Ty) → length (type_or_none ty) ≤ 1
  one_at_most None = omega arith
  one_at_most (Some ty) = omega arith

  either : {place most : ℕ} {x y : Rule (List Ty)} (b : Bool) → Lists place most x → Lists place most y → Lists place most (if b then x else y)
  either true p q = p
  either false p q = q

  unnamed_lists : (p : Parameter) → Lists 0 1 (unnamed_parameter p)
  unnamed_lists p =
      lists_behind (specifying_does f p.specifiers sites.Parameter) (λ s. record {
        by = λ h. (step_none f h, one_at_most s.ty, λ before has sound. stays_same f h h refl sound);
      })

  parameters_list : (ps : List Parameter) → Lists 0 (length ps) (parameters ps)
  parameters_list [] = from_lists 0 []
  parameters_list (p ∷ []) = either (is_none p.name) (unnamed_lists p) (from_lists 0 (p ∷ []))
  parameters_list (p ∷ q ∷ ps) = from_lists 0 (p ∷ q ∷ ps)

-- ## At file scope, and inside

abbrev pub at_file : Table → Final
at_file table = record { params = []; inner = None; table = table }

abbrev with_types : Table → List Ty → Final
with_types table types = record { params = types; inner = None; table = table }

no_type : {t : Ty} → None ≡ Some t → ⊥
no_type e = cc

-- what is named where no local is stays so where there are some, with more parameters
named_inside : (table : Table) (ps qs : List Ty) (locals : Option (List Local))
    → ((x : ℕ) (t : Ty) → slice_get ps x ≡ Some t → slice_get qs x ≡ Some t) → (ds : List (Declared Binding))
    → AreNamed (record { params = ps; inner = None; table = table }) ds → AreNamed (record { params = qs; inner = locals; table = table }) ds
named_inside table ps qs locals more [] ok = tt
named_inside table ps qs locals more (d ∷ ds) ok = (one d.stands_for ok.0, named_inside table ps qs locals more ds ok.1)
  where
    one : (b : Binding) → IsNamed (record { params = ps; inner = None; table = table }) b
        → IsNamed (record { params = qs; inner = locals; table = table }) b
    one (bindings.Parameter place ty fixed) good = more place ty good
    one (bindings.Local place ty fixed extent) good = absurd (let e : None ≡ Some _ = good.2 in cc)
    one (bindings.Constant w) good = tt
    one (bindings.Library x) good = tt
    one (bindings.Function pid internal) good = tt
    one (bindings.Object pid internal ty fixed extent) good = good

named_append : (f : Final) (xs ys : List (Declared Binding)) → AreNamed f xs → AreNamed f ys → AreNamed f (xs ++ ys)
named_append f [] ys p q = q
named_append f (x ∷ xs) ys p q = (p.0, named_append f xs ys p.1 q)

inner_named : (f : Final) (n : ℕ) (ds : List (Declared Binding)) → AreNamed f ds → AreNamed f (inner n ds)
inner_named f n [] ok = tt
inner_named f n (d ∷ ds) ok = by_test (d.depth == n) (inner_named f n ds ok.1)
  where
    by_test : (b : Bool) → AreNamed f (inner n ds) → AreNamed f (if b then d ∷ inner n ds else [])
    by_test true more = (ok.0, more)
    by_test false more = tt

none_at : (qs : List Ty) (x : ℕ) (t : Ty) → slice_get [] x ≡ Some t → slice_get qs x ≡ Some t
none_at qs x t is = absurd (no_type is)

module _ (table : Table) where
  -- the scope of the parameters, from the file's
  sound_inside : (types : List Ty) (h : Here) → IsSound (at_file table) h → IsSound (with_types table types) (enter h)
  sound_inside types h sound =
      sound_entered (with_types table types) h
      (record { named = named_inside table [] types None (none_at types) h.names.declared sound.named; within = sound.within })

  all_types : (types : List Ty) → HasTypes (with_types table types) 0 types
  all_types types i t is = subst (λ n. slice_get types n ≡ Some t) (omega arith) is

  scoped_parameters_do : (ps : List Parameter) → Does (at_file table) Any (scoped (parameters ps))
  scoped_parameters_do ps = record {
    by = λ h. go h (parameters ps (enter h)) (λ types. (parameters_list (with_types table types) ps).by (enter h));
  }
    where
      go : (h : Here) (r : Reply (List Ty)) → ((types : List Ty) → ParametersHold (with_types table types) 0 (length ps) (enter h) r)
          → Holds (at_file table) ⊤ h Any (followed r (λ a. change leave >> give a))
      go h (Gives types g) all =
          let x = all types in (
            record { before = x.0.before; depth = omega (arith, x.0.depth); seen = x.0.seen },
            λ before given sound. (
              stays_left (at_file table) (with_types table types) h (enter h) g sound x.0.depth refl
                  (x.2 before (all_types types) (sound_inside types h sound)),
              tt,
            ),
          )
      go h (Breaks line kind) all = tt

  -- ## Declarations at file scope

  file_function_does : {G : Type 0} (number : ℕ) (sp : Specified) (d : Declarator) (ps : List Parameter)
      → DoesIf (at_file table) G Any (rules.file_function number sp d ps)
  file_function_does number sp d ps =
      and (at_file table) (scoped_parameters_do ps) (λ types.
      and (at_file table) (declare_function_does (at_file table) number d.name sp.storage (entities.Function sp.ty types)) (λ u.
      no_initialiser_does (at_file table) d.initialiser))

  file_shape_does : {G : Type 0} (number : ℕ) (sp : Specified) (d : Declarator) (x : Shape) → DoesIf (at_file table) G Any (rules.file_shape number sp d x)
  file_shape_does number sp d shapes.Plain = file_object_does (at_file table) number sp d
  file_shape_does number sp d (shapes.Array n) = file_object_does (at_file table) number sp d
  file_shape_does number sp d (shapes.Function ps) = file_function_does number sp d ps

  file_declarators_do : {G : Type 0} (number : ℕ) (sp : Specified) (ds : List Declarator)
      → DoesIf (at_file table) G Any (rules.file_declarators number sp ds)
  file_declarators_do number sp [] = gives (at_file table) tt (λ g. tt)
  file_declarators_do number sp (d ∷ ds) = and (at_file table) (file_shape_does number sp d d.shape) (λ u. file_declarators_do number sp ds)

  pub file_declaration_does : (number : ℕ) (d : Declaration) → Does (at_file table) Any (rules.file_declaration number d)
  file_declaration_does number d =
      and (at_file table) (specifying_does (at_file table) d.specifiers sites.File) (λ sp.
      if_tests (at_file table) (declares sp d.declarators) d.specifiers.line kinds.Specifiers (λ o is. file_declarators_do number sp d.declarators))

  -- ## Rules from states of one depth

  record DoesAt {A : Type 0} (depth : ℕ) (G : Type 0) (Good : A → Type 0) (rule : Rule A) : Type 0 where
    pub by : (h : Here) → h.names.depth ≡ depth → Holds (at_file table) G h Good (rule h)

  at_and : {A B G : Type 0} {depth : ℕ} {P : A → Type 0} {Q : B → Type 0} {rule : Rule A} {next : A → Rule B} → DoesIf (at_file table) G P rule
      → ((a : A) → DoesAt depth (G × P a) Q (next a)) → DoesAt depth G Q (rule >>= next)
  at_and {A} {B} {G} {depth} {P} {Q} {rule} {next} p q = record { by = λ h at. go h at (rule h) (p.by h) }
    where
      later : (h g : Here) (a : A) → Step (at_file table) h g → (Before (at_file table) g → G → IsSound (at_file table) h → Stays (at_file table) h g × P a)
          → (r : Reply B) → Holds (at_file table) (G × P a) g Q r → Holds (at_file table) G h Q r
      later h g a x good (Gives b k) ok = (
        step_then (at_file table) h g k x ok.0,
        λ before given sound.
            let one = good (ok.0.before before) given sound in
            let two = ok.1 before (given, one.1) (sound_behind (at_file table) h g one.0) in
            (stays_then (at_file table) h g k one.0 two.0, two.1),
      )
      later h g a x good (Breaks line kind) ok = tt

      go : (h : Here) → h.names.depth ≡ depth → (r : Reply A) → Holds (at_file table) G h P r → Holds (at_file table) G h Q (followed r next)
      go h at (Gives a g) ok = later h g a ok.0 ok.1 (next a g) ((q a).by g (ok.0.depth ∙ at))
      go h at (Breaks line kind) ok = tt

  -- ## Definitions

  -- the names of the parameters, at a depth
  record IsAside (types : List Ty) (depth : ℕ) (names : List (Declared Binding)) : Type 0 where
    pub named : AreNamed (with_types table types) names
    pub within : AreWithin depth names
    pub inside : (es : List (Declared Binding)) → outer depth (names ++ es) ≡ outer depth es

  -- the function has its entity, and its block is well typed
  pub record IsWell (t : TypedFunction) : Type 0 where
    pub entity : entity_at table t.pid ≡ Some (entities.Function t.result (types_of (function_of t)))
    pub body : IsStmt (scope_of table (function_of t)) (record { result = t.result; breaks = false; continues = false }) (function_of t).body

  abbrev IsNamedFor : List Ty → List Parameter → List TypedParameter → Type 0
  IsNamedFor types ps xs = length types ≤ length ps → map (λ (p : TypedParameter). p.ty) xs ≡ types

  named_parameter_does : {G : Type 0} (ty : Ty) (line : ℕ) (x : Option Identifier)
      → DoesIf (at_file table) G (λ (p : TypedParameter). p.ty ≡ ty) (named_parameter ty line x)
  named_parameter_does ty line None = breaks (at_file table) line kinds.NoName
  named_parameter_does ty line (Some x) = gives (at_file table) (record { ty = ty; name = x.name }) (λ g. refl)

  named_parameters_do : {G : Type 0} (types : List Ty) (ps : List Parameter) → DoesIf (at_file table) G (IsNamedFor types ps) (named_parameters types ps)
  named_parameters_do [] ps = gives (at_file table) [] (λ g le. refl)
  named_parameters_do (ty ∷ types) [] = gives (at_file table) [] (λ g le. absurd (omega (arith, le)))
  named_parameters_do (ty ∷ types) (p ∷ ps) =
      and (at_file table) (named_parameter_does ty p.specifiers.line p.name) (λ x. and_if (at_file table) (named_parameters_do types ps) (λ xs.
      gives (at_file table) (x ∷ xs) (λ g le. ap₂ (λ t ts. t ∷ ts) g.0.1 (g.1 (omega (arith, le))))))

  -- what is known in front of a block
  record IsHead (depth pid : ℕ) (result : Option Ty) (params : List TypedParameter) (types : List Ty) (names : Aside) : Type 0 where
    pub aside : IsAside types (depth + 1) names.names
    pub named : map (λ (p : TypedParameter). p.ty) params ≡ types
    pub entity : entity_at table pid ≡ Some (entities.Function result types)

  bodied_does : (depth pid : ℕ) (result : Option Ty) (params : List TypedParameter) (types : List Ty) (names : Aside) (b : Block)
      → DoesAt depth (IsHead depth pid result params types names) IsWell (bodied pid result params names b)
  bodied_does depth pid result params types names b = record {
    by = λ h at.
        go h at ((blocking b).statements here (begun h)) (λ final. ((blocking_does types final table b).statements here).by (begun h));
  }
    where
      here : Around
      here = record { result = result; breaks = false; continues = false }

      begun : Here → Here
      begun h = record (resume names h) { locals = [] }

      -- the names in front of the block
      sound_begun : (h : Here) (locals : List Local) → h.names.depth ≡ depth → IsAside types (depth + 1) names.names → IsSound (at_file table) h
          → IsSound (whole types locals table) (begun h)
      sound_begun h locals at aside sound = record {
        named = named_append (whole types locals table) names.names h.names.declared
            (named_inside table types types (Some locals) (λ x t is. is) names.names aside.named)
            (named_inside table [] types (Some locals) (none_at types) h.names.declared sound.named);
        within = within_append (h.names.depth + 1) names.names h.names.declared
            (subst (λ n. AreWithin (n + 1) names.names) (sym at) aside.within)
            (within_more h.names.depth (h.names.depth + 1) h.names.declared (omega arith) sound.within);
      }

      well : (locals : List Local) (body : List TypedStmt) → IsHead depth pid result params types names
          → AreStatements types locals table here body
          → IsWell (record { pid = pid; result = result; params = params; locals = locals; body = roll-TypedStmt (TypedStmt-F.Block body) })
      well locals body head good = record {
        entity = head.entity ∙ ap (λ ts. Some (entities.Function result ts)) (sym head.named);
        body = subst (λ ts. IsStmt (record { params = ts; locals = locals; syms = table }) (around types locals table here)
            (function_of (record
            { pid = pid; result = result; params = params; locals = locals; body = roll-TypedStmt (TypedStmt-F.Block body) })).body)
            (sym head.named)
            (subst (λ t. IsStmt (record { params = types; locals = locals; syms = table }) (around types locals table here) t)
            (sym (fold-roll-TypedStmt tree.Stmt (tree.Sections → tree.Sections) stmt_layer section_layer (TypedStmt-F.Block body))) good);
      }

      go : (h : Here) → h.names.depth ≡ depth → (r : Reply (List TypedStmt))
          → ((final : List Local) → Holds (whole types final table) ⊤ (begun h) (AreStatements types final table here) r)
          → Holds (at_file table) (IsHead depth pid result params types names) h IsWell
          (followed r (λ body. (known (λ (g : Here). g.locals) >>= λ locals. (change (λ (g : Here). record g { locals = [] }) >>
          (change leave >> give (record { pid = pid; result = result; params = params; locals = locals; body = roll-TypedStmt (TypedStmt-F.Block body) }))))))
      go h at (Gives body g) all =
          let one = all g.locals in (
            record {
              before = λ b. (tt, (one.0.before (([], sym (append-nil g.locals)), b.1)).1);
              depth = omega (arith, one.0.depth);
              seen = one.0.seen;
            },
            λ before head sound.
                let two = one.1 (([], sym (append-nil g.locals)), before.1) tt (sound_begun h g.locals at head.aside sound) in
                let stays : Stays (whole types g.locals table) (begun h) (record g { locals = [] }) = record {
                  named = two.0.named;
                  within = two.0.within;
                  outside = two.0.outside;
                } in (
                  stays_left (at_file table) (whole types g.locals table) h (begun h) (record g { locals = [] }) sound one.0.depth
                      (subst (λ n. outer (n + 1) (names.names ++ h.names.declared) ≡ outer (n + 1) h.names.declared) (sym at)
                      (head.aside.inside h.names.declared)) stays,
                  well g.locals body head two.1,
                ),
          )
      go h at (Breaks line kind) all = tt

  front_does : (depth number : ℕ) (d : Defined) (sp : Specified) (types : List Ty) (names : Aside) → length types ≤ length d.parameters
      → DoesAt depth (IsAside types (depth + 1) names.names) IsWell (fronted number d sp types names)
  front_does depth number d sp types names le =
      at_and (tests (at_file table) (not (is_library d.name.name)) d.name.line kinds.Library) (λ u.
      at_and (plain (at_file table)
      (link_does (at_file table) number d.name sp.storage true standings.Defined (entities.Function sp.ty types))) (λ l.
      at_and (binds (at_file table) d.name.name (bindings.Function l.pid l.internal) (λ g. tt)) (λ u1.
      at_and (named_parameters_do types d.parameters) (λ params.
      record {
        by = λ h at.
            less (at_file table) IsWell h (bodied l.pid sp.ty params names d.body h)
            (λ g. record { aside = g.0.0.0.0; named = g.1 le; entity = g.0.0.1.1 ∙ ap Some g.0.0.1.2 })
            ((bodied_does depth l.pid sp.ty params types names d.body).by h at);
      }))))

  pub function_does : (number : ℕ) (d : Defined) → Does (at_file table) IsWell (typing.function number d)
  function_does number d =
      and (at_file table) (specifying_does (at_file table) d.specifiers sites.File) (λ sp. record {
        by = λ h. go _ sp h (parameters d.parameters (enter h)) (λ types. (parameters_list (with_types table types) d.parameters).by (enter h));
      })
    where
      behind : (G : Type 0) (sp : Specified) (h : Here) (types : List Ty) (e : Here) → ParametersHold (with_types table types) 0 (length d.parameters)
          (enter h) (Gives types e) → (r : Reply TypedFunction)
          → Holds (at_file table) (IsAside types (h.names.depth + 1) (aside e).names) (leave e) IsWell r → Holds (at_file table) G h IsWell r
      behind G sp h types e x (Gives t g) ok =
          let left : Step (at_file table) h (leave e) = record { before = x.0.before; depth = omega (arith, x.0.depth); seen = x.0.seen } in (
            step_then (at_file table) h (leave e) g left ok.0,
            λ before given sound.
                let inside = x.2 (ok.0.before before) (all_types types) (sound_inside types h sound) in
                let stays =
                stays_left (at_file table) (with_types table types) h (enter h) e sound x.0.depth refl inside in
                let names : IsAside types (h.names.depth + 1) (aside e).names =
                subst (λ n. IsAside types n (inner e.names.depth e.names.declared)) x.0.depth
                (record {
                  named = inner_named (with_types table types) e.names.depth e.names.declared inside.named;
                  within = inner_within e.names.depth e.names.declared;
                  inside = outer_inner e.names.depth e.names.declared;
                }) in
                let two = ok.1 before names (sound_behind (at_file table) h (leave e) stays) in
                (stays_then (at_file table) h (leave e) g stays two.0, two.1),
          )
      behind G sp h types e x (Breaks line kind) ok = tt

      go : (G : Type 0) (sp : Specified) (h : Here) (r : Reply (List Ty))
          → ((types : List Ty) → ParametersHold (with_types table types) 0 (length d.parameters) (enter h) r)
          → Holds (at_file table) G h IsWell (followed r (λ types. (known aside >>= λ names. (change leave >> fronted number d sp types names))))
      go G sp h (Gives types e) all =
          let x = all types in
          behind G sp h types e x (fronted number d sp types (aside e) (leave e))
          ((front_does h.names.depth number d sp types (aside e) x.1).by (leave e) (omega (arith, x.0.depth)))
      go G sp h (Breaks line kind) all = tt
