-- The definition of a function: its name is defined, and the function stands in the table behind it.
use Rattle.std.proofs.Common.{◌≡◌, ◌≢◌, ℕ, suc, ◌+◌, ◌-◌, ◌≤◌, Bool, true, false, List, [], ◌∷◌, ◌++◌, length, Option, Some, None, refl, sym, ap, ◌∙◌}
use Rattle.std.proofs.Common.{subst, arith}
use Rattle.std.specs.Prelude.{if◌then◌else◌, not, is_some, IsTrue, nat_eq}
use Rattle.std.specs.List.{AllByRecursion}
use Rattle.std.proofs.lemmas.Bool.{true≢false, false≢true}
use Rattle.hlo_num.specs.declared.word.Ty.{Ty}
use Rattle.il_core.specs.declared.shape.Shape.TheVariants as shape
use Rattle.il_core.specs.declared.shape.ShapeRow.{ShapeRow}
use Rattle.il_core.specs.Program.{found}
use Rattle.il_core.proofs.Found.{found_here}
use Rattle.sym_tables.specs.declared.entity.Entity.{Entity}
use Rattle.sym_tables.specs.declared.entity.Entity.TheVariants as entities
use Rattle.sym_tables.specs.declared.symbol.Standing.{Standing}
use Rattle.sym_tables.specs.declared.symbol.Standing.TheVariants as standings
use Rattle.sym_tables.specs.declared.symbol.Symbol.{Symbol}
use Rattle.sym_tables.specs.Symbols.{later, is_defined}
use Rattle.sym_tables.specs.Table.{Table, symbol_at}
use Rattle.c_tree.specs.declared.expression.Identifier.{Identifier}
use Rattle.c_tree.specs.declared.declaration.Function.{Function as Defined}
use Rattle.c_tree.specs.declared.declaration.Parameter.{Parameter}
use Rattle.c_tree.specs.declared.statement.Block.{Block}
use Rattle.c_typed.specs.declared.function.Parameter.{Parameter as TypedParameter}
use Rattle.c_typed.specs.declared.function.TypedFunction.{TypedFunction}
use Rattle.c_typed.specs.declared.statement.TypedStmt.{TypedStmt, roll-TypedStmt}
use Rattle.c_typed.specs.declared.statement.TypedStmt.TheOpen.{TypedStmt-F}
use Rattle.c_typed.specs.declared.statement.TypedStmt.TheFolds.{fold-roll-TypedStmt}
use Rattle.c_typed.specs.Trees as tree
use Rattle.c_typed.specs.Trees.{Function}
use Rattle.c_typed.specs.Views.{stmt_layer, section_layer, function_of}
use Rattle.c_types.specs.declared.binding.Binding.{Binding}
use Rattle.c_types.specs.declared.binding.Binding.TheVariants as bindings
use Rattle.c_types.specs.declared.fault.TypeKind.TheVariants as kinds
use Rattle.c_types.specs.declared.linkage.Linked.{Linked}
use Rattle.c_types.specs.declared.specifiers.Site.TheVariants as sites
use Rattle.c_types.specs.declared.specifiers.Specified.{Specified}
use Rattle.c_types.specs.declared.statements.Around.{Around}
use Rattle.c_types.specs.DeclarationRules.{link, parameters}
use Rattle.c_types.specs.Enumerations.{is_library}
use Rattle.c_types.specs.ExpressionRules.{specifying}
use Rattle.c_types.specs.Names.{enter, leave, bind}
use Rattle.c_types.specs.Rules.{Here, Reply, Gives, Breaks, ◌>>=◌, ◌>>◌, followed, give, known, change, unless}
use Rattle.c_types.specs.Scopes.{Declared, inner}
use Rattle.c_types.specs.StatementRules.{blocking}
use Rattle.c_types.specs.Typing as typing
use Rattle.c_types.specs.Typing.{Aside, aside, resume, named_parameter, named_parameters}
use Rattle.lower_laws.specs.Fits.{FitsFunction, FitsStmt}
use Rattle.type_laws.proofs.Functions.{bodied, fronted}
use Rattle.program_laws.specs.Growing.{standing_in, entity_at, standing_at, Covers, Grows}
use Rattle.program_laws.specs.Settled.{Stands, HasFunction, HaveOwnPids, IsProvided, AreSettled}
use Rattle.program_laws.proofs.Declarations.{parameters_fine, parameters_sure, holding_function}
use Rattle.program_laws.proofs.Files.{SureHolds}
use Rattle.program_laws.proofs.Fine as fine
use Rattle.program_laws.proofs.Fine.{Any}
use Rattle.program_laws.proofs.Holding.{Holding, all_map, holding_after, settled_function, some_is}
use Rattle.program_laws.proofs.Links.{IsLinked, LinkHolds, link_does}
use Rattle.program_laws.proofs.States.{AreCoherent, IsNested, IsOk, After, after_left, after_then, ok_entered, all_grown, coherent_inner}
use Rattle.program_laws.proofs.States.{coherent_outer, coherent_append, nested_inner, nested_outer, file_inner, file_outer, at_file}
use Rattle.program_laws.proofs.Statements.{FitStatements, blocking_fine}
use Rattle.program_laws.proofs.Tables.{Accepts, standing_met, entity_here, standing_here, said_here, entering_grows, at_or_not, marked_grows, grows_then}
use Rattle.program_laws.proofs.Typings.{specifying_fine}

-- ## The names of the parameters

-- a scope that was left, whose names go with a table
record IsAside (number : ℕ) (syms : Table) (a : Aside) : Type 0 where
  pub before : List (Declared Binding)
  pub names : a.names ≡ inner 1 before
  pub coherent : AreCoherent number syms a.names

abbrev NamedHolds : Here → List Ty → List Parameter → Reply (List TypedParameter) → Type 0
NamedHolds h types ps (Gives xs g) = (g ≡ h) × (length types ≤ length ps → length xs ≡ length types)
NamedHolds h types ps (Breaks line kind) = Unit {0}

named_does : (h : Here) (types : List Ty) (ps : List Parameter) → NamedHolds h types ps (named_parameters types ps h)
named_does h [] ps = (refl, λ le. refl)
named_does h (ty ∷ types) [] = (refl, λ le. absurd (omega (arith, le)))
named_does h (ty ∷ types) (p ∷ ps) = by_name p.name (named_does h types ps)
  where
    rest : (x : TypedParameter) (r : Reply (List TypedParameter)) → NamedHolds h types ps r
        → NamedHolds h (ty ∷ types) (p ∷ ps) (followed r (λ xs. give (x ∷ xs)))
    rest x (Gives xs g) ok = (ok.0, λ le. ap suc (ok.1 (omega (arith, le))))
    rest x (Breaks line kind) ok = tt

    by_name : (x : Option Identifier) → NamedHolds h types ps (named_parameters types ps h)
        → NamedHolds h (ty ∷ types) (p ∷ ps) ((named_parameter ty p.specifiers.line x >>= λ y. (named_parameters types ps >>= λ xs. give (y ∷ xs))) h)
    by_name None ok = tt
    by_name (Some x) ok = rest (record { ty = ty; name = x.name }) (named_parameters types ps h) ok

-- ## The body

module _ (number : ℕ) where
  -- behind a definition's body, in the scope before it
  pub record IsBodied (pid : ℕ) (result : Option Ty) (params : List TypedParameter) (h : Here) (t : TypedFunction) (g : Here) : Type 0 where
    pub after : After number h g
    pub pid_is : t.pid ≡ pid
    pub result_is : t.result ≡ result
    pub params_are : t.params ≡ params
    pub fits : (rows : List ShapeRow) → Covers rows g.syms → FitsFunction rows (function_of t)

  abbrev BodyHolds : ℕ → Option Ty → List TypedParameter → Here → Reply TypedFunction → Type 0
  BodyHolds pid result params h (Gives t g) = IsBodied pid result params h t g
  BodyHolds pid result params h (Breaks line kind) = Unit {0}

  abbrev begun : Aside → Here → Here
  begun names h = record (resume names h) { locals = [] }

  ok_begun : (names : Aside) (h : Here) → IsOk number h → h.names.depth ≡ 0 → IsAside number h.syms names → IsOk number (begun names h)
  ok_begun names h ok none aside = record {
    coherent = coherent_append number h.syms names.names h.names.declared aside.coherent ok.coherent;
    nested = subst (λ n. IsNested (n + 1) (names.names ++ h.names.declared)) (sym none)
        (subst (λ l. IsNested 1 (l ++ h.names.declared)) (sym aside.names)
        (nested_inner 1 h.names.depth aside.before h.names.declared (omega (arith, none)) ok.nested));
  }

  after_body : (names : Aside) (h b : Here) → h.names.depth ≡ 0 → IsAside number h.syms names → After number (begun names h) b
      → After number h (leave (record b { locals = [] }))
  after_body names h b none aside x =
      let depth : b.names.depth ≡ 1 = omega (arith, x.depth, none) in
      record {
        ok = record {
          coherent = coherent_outer number b.syms b.names.depth b.names.declared x.ok.coherent;
          nested = nested_outer b.names.depth (b.names.depth - 1) b.names.declared (omega (arith, depth)) x.ok.nested;
        };
        depth = omega (arith, depth, none);
        files = λ name y is.
            file_outer name b.names.depth b.names.declared (λ e. absurd (omega (arith, e, depth)))
            ∙ x.files name y
            (ap (λ l. at_file name (l ++ h.names.declared)) aside.names
            ∙ file_inner name 1 aside.before h.names.declared (λ e. absurd (omega (arith, e))) ∙ is);
        awaited = x.awaited;
        table = x.table;
      }

  body_does : (pid : ℕ) (result : Option Ty) (params : List TypedParameter) (names : Aside) (b : Block) (h : Here) → IsOk number h → h.names.depth ≡ 0
      → IsAside number h.syms names → BodyHolds pid result params h (bodied pid result params names b h)
  body_does pid result params names b h ok none aside =
      go ((blocking b).statements around (begun names h))
      (λ rows. ((blocking_fine number rows b).statements around).by (begun names h) (ok_begun names h ok none aside) tt)
    where
      around : Around
      around = record { result = result; breaks = false; continues = false }

      go : (r : Reply (List TypedStmt)) → ((rows : List ShapeRow) → fine.Holds number rows (begun names h) (FitStatements number rows around) r)
          → BodyHolds pid result params h
          (followed r (λ body. (known (λ (g : Here). g.locals) >>= λ locals. (change (λ (g : Here). record g { locals = [] }) >>
          (change leave >> give (record { pid = pid; result = result; params = params; locals = locals; body = roll-TypedStmt (TypedStmt-F.Block body) }))))))
      go (Gives body g) all = record {
        after = after_body names h g none aside (all []).0;
        pid_is = refl;
        result_is = refl;
        params_are = refl;
        fits = λ rows c.
            subst (λ t. FitsStmt rows (record { value = is_some result; breaks = false; continues = false }) t)
            (sym (fold-roll-TypedStmt tree.Stmt (tree.Sections → tree.Sections) stmt_layer section_layer (TypedStmt-F.Block body)))
            ((all rows).1 c);
      }
      go (Breaks line kind) all = tt

-- ## Functions by PID

found_more : {X : Type 0} (key : X → ℕ) (n : ℕ) (xs ys : List X) → IsTrue (is_some (found key n xs)) → IsTrue (is_some (found key n (xs ++ ys)))
found_more key n [] ys h = absurd (false≢true h)
found_more key n (x ∷ xs) ys h = by_test (nat_eq (key x) n) h (found_more key n xs ys)
  where
    by_test : (b : Bool) → IsTrue (is_some (if b then Some x else found key n xs))
        → (IsTrue (is_some (found key n xs)) → IsTrue (is_some (found key n (xs ++ ys)))) → IsTrue (is_some (if b then Some x else found key n (xs ++ ys)))
    by_test true h more = refl
    by_test false h more = more h

found_last : {X : Type 0} (key : X → ℕ) (xs : List X) (y : X) → IsTrue (is_some (found key (key y) (xs ++ y ∷ [])))
found_last key [] y = ap is_some (found_here key (key y) y [] refl)
found_last key (x ∷ xs) y = by_test (nat_eq (key x) (key y)) (found_last key xs y)
  where
    by_test : (b : Bool) → IsTrue (is_some (found key (key y) (xs ++ y ∷ []))) → IsTrue (is_some (if b then Some x else found key (key y) (xs ++ y ∷ [])))
    by_test true more = refl
    by_test false more = more

all_last : {X : Type 0} (P : X → Type 0) (xs : List X) (y : X) → AllByRecursion P xs → P y → AllByRecursion P (xs ++ y ∷ [])
all_last P [] y ok p = (p, tt)
all_last P (x ∷ xs) y ok p = (ok.0, all_last P xs y ok.1 p)

own_last : (fs : List Function) (f : Function) → HaveOwnPids fs → AllByRecursion (λ (g : Function). f.pid ≢ g.pid) fs → HaveOwnPids (fs ++ f ∷ [])
own_last [] f own others = (tt, tt)
own_last (g ∷ fs) f own others = (all_last (λ (other : Function). other.pid ≢ g.pid) fs f own.0 others.0, own_last fs f own.1 others.1)

-- what is defined isn't defined again
not_before : (o : Option Symbol) (said : Entity) → Accepts o standings.Defined said → standing_in o ≡ Some standings.Defined → ⊥
not_before None said ok is = let c : None ≡ Some standings.Defined = is in cc
not_before (Some s) said ok is =
    let defined : s.standing ≡ standings.Defined = (let c : Some s.standing ≡ Some standings.Defined = is in cc) in
    true≢false (ap is_defined (sym defined) ∙ ok.1)

later_defined : (a : Standing) → later a standings.Defined ≡ standings.Defined
later_defined standings.Declared = refl
later_defined standings.Tentative = refl
later_defined standings.Defined = refl

defined_met : (o : Option Symbol) → standing_met o standings.Defined ≡ standings.Defined
defined_met None = refl
defined_met (Some s) = later_defined s.standing

-- ## The definition

module _ (number : ℕ) (fs : List Function) where
  abbrev with_one : TypedFunction → List Function
  with_one t = fs ++ function_of t ∷ []

  abbrev pub DefinedHolds : Here → Reply TypedFunction → Type 0
  DefinedHolds o (Gives t g) = Holding number (HasFunction (with_one t)) (with_one t) g × Grows o.syms g.syms
  DefinedHolds o (Breaks line kind) = Unit {0}

  -- all have functions but this one, whose body isn't there yet
  abbrev HasOthers : ℕ → ℕ → Type 0
  HasOthers pid p = (p ≡ pid → ⊥) → HasFunction fs p

  provided_with : (t : TypedFunction) (pid : ℕ) (p : ℕ) (s : Standing) → t.pid ≡ pid → IsProvided (HasOthers pid) p s
      → IsProvided (HasFunction (with_one t)) p s
  provided_with t pid p standings.Declared is ok = tt
  provided_with t pid p standings.Tentative is ok = ok
  provided_with t pid p standings.Defined is ok =
      at_or_not p pid
      (λ same. subst (λ n. HasFunction (with_one t) n) (is ∙ sym same) (found_last (λ (f : Function). f.pid) fs (function_of t)))
      (λ ne. found_more (λ (f : Function). f.pid) p fs (function_of t ∷ []) (ok ne))

  module _ (sp : Specified) (types : List Ty) (h : Here) (hold : Holding number (HasFunction fs) fs h) (name : List ℕ) (l : Linked) (g : Here)
      (k : IsLinked number name standings.Defined (entities.Function sp.ty types) h l g) where
    abbrev bound : Here
    bound = bind name (bindings.Function l.pid l.internal) g

    settled_defined : AreSettled (HasOthers l.pid) fs g.syms
    settled_defined =
        settled_function (HasFunction fs) fs hold.settled sp.ty types (HasOthers l.pid) (λ p has ne. has)
        (λ s is before.
        let defined : standings.Defined ≡ s = some_is (ap Some (sym (defined_met (symbol_at h.syms l.pid))) ∙ sym (standing_here k.entering) ∙ is) in
        subst (λ x. IsProvided (HasOthers l.pid) l.pid x) defined (λ ne. absurd (ne refl)))
        k.entering

    holding_named : Holding number (HasOthers l.pid) fs bound
    holding_named =
        holding_function number (HasFunction fs) fs (HasOthers l.pid) name standings.Defined sp.ty types h l g hold k settled_defined

    -- the whole definition
    holding_defined : (params : List TypedParameter) (t : TypedFunction) (e : Here) → length params ≡ length types
        → IsBodied number l.pid sp.ty params bound t e → DefinedHolds h (Gives t e)
    holding_defined params t e count x =
        let there = holding_after number (HasOthers l.pid) fs bound e x.after holding_named in
        let entity : entity_at e.syms l.pid ≡ Some (entities.Function sp.ty types) =
        x.after.table.entities l.pid ∙ entity_here k.entering ∙ ap Some (said_here k.entering) in
        let stands : Stands e.syms (function_of t) = record {
          entity = entities.Function sp.ty types;
          is = subst (λ p. entity_at e.syms p ≡ Some (entities.Function sp.ty types)) (sym x.pid_is) entity;
          shape = ap (λ n. shape.Routine n (is_some sp.ty)) (sym count ∙ ap (λ l. length l) (sym x.params_are))
              ∙ ap (λ r. shape.Routine (length t.params) (is_some r)) (sym x.result_is);
          defined = ap (standing_at e.syms) x.pid_is ∙ x.after.table.standings l.pid ∙ standing_here k.entering
              ∙ ap Some (defined_met (symbol_at h.syms l.pid));
          fits = x.fits;
        } in
        let others : AllByRecursion (λ (f : Function). (function_of t).pid ≢ f.pid) fs =
        all_map (λ f st e1.
        not_before (symbol_at h.syms l.pid) (entities.Function sp.ty types) k.entering.accepts
        (ap (standing_at h.syms) (sym x.pid_is ∙ e1) ∙ st.defined)) fs hold.settled.functions in (
          record {
            ok = there.ok;
            depth = there.depth;
            settled = record {
              sound = there.settled.sound;
              names = there.settled.names;
              lengths = there.settled.lengths;
              routines = λ p gives ps s is st. provided_with t l.pid p s x.pid_is (there.settled.routines p gives ps s is st);
              functions = all_last (Stands e.syms) fs (function_of t) there.settled.functions stands;
              apart = own_last fs (function_of t) there.settled.apart others;
            };
            waits = there.waits;
          },
          grows_then h.syms g.syms e.syms (entering_grows k.entering) (marked_grows g.syms e.syms x.after.table),
        )

  front_does : (f : Defined) (sp : Specified) (types : List Ty) (names : Aside) (h : Here) → Holding number (HasFunction fs) fs h
      → length types ≤ length f.parameters → IsAside number h.syms names → DefinedHolds h (fronted number f sp types names h)
  front_does f sp types names h hold le aside = by_library (not (is_library f.name.name))
    where
      bodied_does : (l : Linked) (g : Here) (k : IsLinked number f.name.name standings.Defined (entities.Function sp.ty types) h l g)
          (params : List TypedParameter)
          → length params ≡ length types → (r : Reply TypedFunction)
          → BodyHolds number l.pid sp.ty params (bind f.name.name (bindings.Function l.pid l.internal) g) r → DefinedHolds h r
      bodied_does l g k params count (Gives t e) x = holding_defined sp types h hold f.name.name l g k params t e count x
      bodied_does l g k params count (Breaks line kind) x = tt

      named : (l : Linked) (g : Here) (k : IsLinked number f.name.name standings.Defined (entities.Function sp.ty types) h l g)
          → (r : Reply (List TypedParameter))
          → NamedHolds (bind f.name.name (bindings.Function l.pid l.internal) g) types f.parameters r
          → DefinedHolds h (followed r (λ params. bodied l.pid sp.ty params names f.body))
      named l g k (Gives params e) ok =
          let there = holding_named sp types h hold f.name.name l g k in
          let kept : IsAside number g.syms names = record {
            before = aside.before;
            names = aside.names;
            coherent = all_grown number h.syms g.syms (entering_grows k.entering) names.names aside.coherent;
          } in
          subst (λ (s : Here). DefinedHolds h (bodied l.pid sp.ty params names f.body s)) (sym ok.0)
          (bodied_does l g k params (ok.1 le)
          (bodied l.pid sp.ty params names f.body (bind f.name.name (bindings.Function l.pid l.internal) g))
          (body_does number l.pid sp.ty params names f.body (bind f.name.name (bindings.Function l.pid l.internal) g) there.ok there.depth kept))
      named l g k (Breaks line kind) ok = tt

      linked : (r : Reply Linked) → LinkHolds number f.name.name standings.Defined (entities.Function sp.ty types) h r
          → DefinedHolds h (followed r (λ l. (change (bind f.name.name (bindings.Function l.pid l.internal)) >>= λ u.
          (named_parameters types f.parameters >>= λ params. bodied l.pid sp.ty params names f.body))))
      linked (Gives l g) k =
          named l g k (named_parameters types f.parameters (bind f.name.name (bindings.Function l.pid l.internal) g))
          (named_does (bind f.name.name (bindings.Function l.pid l.internal) g) types f.parameters)
      linked (Breaks line kind) k = tt

      by_library : (b : Bool) → DefinedHolds h ((unless b f.name.line kinds.Library >>= λ u.
          (link number f.name sp.storage true standings.Defined (entities.Function sp.ty types) >>= λ l.
          (change (bind f.name.name (bindings.Function l.pid l.internal)) >>= λ u1.
          (named_parameters types f.parameters >>= λ params. bodied l.pid sp.ty params names f.body)))) h)
      by_library true =
          linked (link number f.name sp.storage true standings.Defined (entities.Function sp.ty types) h)
          (link_does number f.name sp.storage true standings.Defined (entities.Function sp.ty types) h)
      by_library false = tt

  defined_further : (o h : Here) → Grows o.syms h.syms → (r : Reply TypedFunction) → DefinedHolds h r → DefinedHolds o r
  defined_further o h x (Gives t g) ok = (ok.0, grows_then o.syms h.syms g.syms x ok.1)
  defined_further o h x (Breaks line kind) ok = tt

  pub function_does : (f : Defined) (h : Here) → Holding number (HasFunction fs) fs h → DefinedHolds h (typing.function number f h)
  function_does f h hold =
      specified (specifying f.specifiers sites.File h) ((specifying_fine number [] f.specifiers sites.File).by h hold.ok tt)
    where
      parametered : (sp : Specified) (g : Here) → After number h g → (r : Reply (List Ty)) → fine.Holds number [] (enter g) Any r
          → SureHolds (λ (types : List Ty). length types ≤ length f.parameters) r
          → DefinedHolds h (followed r (λ types. (known aside >>= λ names. (change leave >> fronted number f sp types names))))
      parametered sp g x (Gives types e) ok le =
          let left = after_left number g e ok.0 in
          let y = after_then number h g (leave e) x left in
          let depth : e.names.depth ≡ 1 = omega (arith, ok.0.depth, x.depth, hold.depth) in
          let names : IsAside number e.syms (aside e) = record {
            before = e.names.declared;
            names = ap (λ n. inner n e.names.declared) depth;
            coherent = coherent_inner number e.syms e.names.depth e.names.declared ok.0.ok.coherent;
          } in
          defined_further h (leave e) (marked_grows h.syms e.syms y.table) (fronted number f sp types (aside e) (leave e))
          (front_does f sp types (aside e) (leave e) (holding_after number (HasFunction fs) fs h (leave e) y hold) le names)
      parametered sp g x (Breaks line kind) ok le = tt

      specified : (r : Reply Specified) → fine.Holds number [] h Any r
          → DefinedHolds h (followed r (λ sp. (change enter >> (parameters f.parameters >>= λ types.
          (known aside >>= λ names. (change leave >> fronted number f sp types names))))))
      specified (Gives sp g) ok =
          parametered sp g ok.0 (parameters f.parameters (enter g))
          ((parameters_fine number [] f.parameters).by (enter g) (ok_entered number g ok.0.ok) tt)
          ((parameters_sure f.parameters).by (enter g))
      specified (Breaks line kind) ok = tt
