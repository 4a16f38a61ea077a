-- Declarations at file scope: functions, the library's names, objects.
use Rattle.std.proofs.Common.{◌≡◌, ℕ, ◌+◌, ◌≤◌, Bool, true, false, List, [], ◌∷◌, length, Option, Some, None, refl, sym, ap, ◌∙◌, subst, arith}
use Rattle.std.specs.Prelude.{if◌then◌else◌, ◌&&◌, not, is_none, codes}
use Rattle.std.proofs.lemmas.Bool.{true≢false, false≢true}
use Rattle.hlo_num.specs.declared.word.Ty.{Ty}
use Rattle.il_core.specs.declared.shape.ShapeRow.{ShapeRow}
use Rattle.sym_tables.specs.declared.entity.Entity.{Entity}
use Rattle.sym_tables.specs.declared.entity.Entity.TheVariants as entities
use Rattle.sym_tables.specs.declared.symbol.Standing.{Standing}
use Rattle.sym_tables.specs.declared.symbol.Standing.TheVariants as standings
use Rattle.sym_tables.specs.declared.symbol.Symbol.{Symbol}
use Rattle.sym_tables.specs.Entities.{compatible}
use Rattle.sym_tables.specs.Symbols.{later}
use Rattle.sym_tables.specs.Table.{Table, same_name, symbol_at}
use Rattle.c_tree.specs.declared.expression.Identifier.{Identifier}
use Rattle.c_tree.specs.declared.declaration.Declaration.{Declaration}
use Rattle.c_tree.specs.declared.declaration.Declarator.{Declarator}
use Rattle.c_tree.specs.declared.declaration.Parameter.{Parameter}
use Rattle.c_tree.specs.declared.declaration.Shape.{Shape}
use Rattle.c_tree.specs.declared.declaration.Shape.TheVariants as shapes
use Rattle.c_tree.specs.declared.declaration.Initialiser.{Initialiser}
use Rattle.c_typed.specs.Trees.{Function}
use Rattle.c_types.specs.declared.binding.Binding.{Binding}
use Rattle.c_types.specs.declared.binding.Binding.TheVariants as bindings
use Rattle.c_types.specs.declared.binding.Extent.TheVariants as extents
use Rattle.c_types.specs.declared.binding.Library.TheVariants as library
use Rattle.c_types.specs.declared.fault.TypeKind.TheVariants as kinds
use Rattle.c_types.specs.declared.linkage.Linked.{Linked}
use Rattle.c_types.specs.declared.specifiers.Site.TheVariants as sites
use Rattle.c_types.specs.declared.specifiers.Specified.{Specified}
use Rattle.c_types.specs.declared.specifiers.Storage.{Storage}
use Rattle.c_types.specs.DeclarationRules as rules
use Rattle.c_types.specs.DeclarationRules.{parameters, parameters_from, declare_parameter, parameter_line, unnamed_parameter, type_or_none}
use Rattle.c_types.specs.Enumerations.{is_library}
use Rattle.c_types.specs.ExpressionRules.{specifying}
use Rattle.c_types.specs.Names.{bound_here, bind, declare_new}
use Rattle.c_types.specs.Rules.{Here, Reply, Gives, Breaks, Rule, ◌>>=◌, followed, known, change, unless}
use Rattle.c_types.specs.Scopes.{innermost}
use Rattle.c_types.specs.StatementRules.{declares, value_type}
use Rattle.program_laws.specs.Growing.{entity_in, standing_in, entity_at, standing_at}
use Rattle.program_laws.specs.Settled.{IsProvided, AreSettled}
use Rattle.program_laws.proofs.Files.{Sure, sure_and, sure_any, sure_gives, FileHolds, Files, files_and, files_quiet, files_gives, files_breaks}
use Rattle.program_laws.proofs.Files.{files_if, files_tests}
use Rattle.program_laws.proofs.Fine as fine
use Rattle.program_laws.proofs.Fine.{Any}
use Rattle.program_laws.proofs.Holding.{Holding, Lacks, IsAwaited, file_of, holding_bound, settled_function, some_is, array_function}
use Rattle.program_laws.proofs.Links.{IsLinked, LinkHolds, link_does}
use Rattle.program_laws.proofs.Objects.{file_object_files}
use Rattle.program_laws.proofs.States.{AreCoherent, IsNested, at_file, all_grown}
use Rattle.program_laws.proofs.Statements.{value_type_fine}
use Rattle.program_laws.proofs.Tables.{IsEntering, Accepts, standing_met, entity_here, standing_here, entity_other, standing_other, said_here}
use Rattle.program_laws.proofs.Tables.{entering_grows, at_or_not, grows_same}
use Rattle.program_laws.proofs.Typings.{specifying_fine}

-- ## Parameters

module _ (number : ℕ) (rows : List ShapeRow) where
  declare_new_fine : (x : Identifier) (b : Binding) → fine.IsPlain number rows b → fine.Fine number rows Any (declare_new x b)
  declare_new_fine x b plain =
      fine.if_knows number rows (bound_here x.name) (λ old.
      fine.if_tests number rows (is_none old) x.line kinds.Redeclared (λ u e.
      fine.binds_end number rows x.name b (λ h asked. asked.1 ∙ fine.none_if number rows old e) plain tt))

  declare_parameter_fine : (place : ℕ) (ty : Ty) (fixed : Bool) (x : Option Identifier) → fine.Fine number rows Any (declare_parameter place ty fixed x)
  declare_parameter_fine place ty fixed None = fine.gives number rows tt tt
  declare_parameter_fine place ty fixed (Some x) = declare_new_fine x (bindings.Parameter place ty fixed) tt

  parameters_from_fine : (place : ℕ) (ps : List Parameter) → fine.Fine number rows Any (parameters_from place ps)
  parameters_from_fine place [] = fine.gives number rows [] tt
  parameters_from_fine place (p ∷ ps) =
      fine.and number rows (specifying_fine number rows p.specifiers sites.Parameter) (λ s.
      fine.and number rows (value_type_fine number rows {Q = λ t. Unit {0}} (parameter_line p) s.ty (λ t is. tt)) (λ ty.
      fine.and number rows (declare_parameter_fine place ty s.fixed p.name) (λ u.
      fine.and number rows (parameters_from_fine (place + 1) ps) (λ types. fine.gives number rows (ty ∷ types) (λ a b c d. tt)))))

  unnamed_fine : (p : Parameter) → fine.Fine number rows Any (unnamed_parameter p)
  unnamed_fine p = fine.and number rows (specifying_fine number rows p.specifiers sites.Parameter) (λ s. fine.gives number rows (type_or_none s.ty) (λ a. tt))

  pub parameters_fine : (ps : List Parameter) → fine.Fine number rows Any (parameters ps)
  parameters_fine [] = parameters_from_fine 0 []
  parameters_fine (p ∷ []) = fine.choose number rows (is_none p.name) (unnamed_fine p) (parameters_from_fine 0 (p ∷ []))
  parameters_fine (p ∷ q ∷ ps) = parameters_from_fine 0 (p ∷ q ∷ ps)

from_sure : (place : ℕ) (ps : List Parameter) → Sure (λ (types : List Ty). length types ≤ length ps) (parameters_from place ps)
from_sure place [] = sure_gives [] (omega arith)
from_sure place (p ∷ ps) =
    sure_and (sure_any (specifying p.specifiers sites.Parameter)) (λ s a.
    sure_and (sure_any (value_type (parameter_line p) s.ty)) (λ ty b.
    sure_and (sure_any (declare_parameter place ty s.fixed p.name)) (λ u c.
    sure_and (from_sure (place + 1) ps) (λ types le. sure_gives (ty ∷ types) (omega (arith, le))))))

one_at_most : (ty : Option Ty) → length (type_or_none ty) ≤ 1
one_at_most None = omega arith
one_at_most (Some ty) = omega arith

sure_if : {A : Type 0} {P : A → Type 0} {x y : Rule A} (b : Bool) → Sure P x → Sure P y → Sure P (if b then x else y)
sure_if true p q = p
sure_if false p q = q

pub parameters_sure : (ps : List Parameter) → Sure (λ (types : List Ty). length types ≤ length ps) (parameters ps)
parameters_sure [] = from_sure 0 []
parameters_sure (p ∷ []) =
    sure_if (is_none p.name)
    (sure_and (sure_any (specifying p.specifiers sites.Parameter)) (λ s a. sure_gives (type_or_none s.ty) (one_at_most s.ty)))
    (from_sure 0 (p ∷ []))
parameters_sure (p ∷ q ∷ ps) = from_sure 0 (p ∷ q ∷ ps)

-- ## Functions

function_if : (e : Entity) (gives : Option Ty) (params : List Ty) → compatible e (entities.Function gives params) ≡ true
    → (r : Option Ty) × (ps : List Ty) × (e ≡ entities.Function r ps)
function_if (entities.Function r ps) gives params h = (r, ps, refl)
function_if (entities.Scalar ty fixed) gives params h = absurd (false≢true h)
function_if (entities.Array ty fixed n) gives params h = absurd (false≢true h)

declared_again : (a : Standing) → later a standings.Declared ≡ a
declared_again standings.Declared = refl
declared_again standings.Tentative = refl
declared_again standings.Defined = refl

module _ (number : ℕ) (has : ℕ → Type 0) (fs : List Function) where
  -- a function's name is taken in and bound
  pub holding_function : (now : ℕ → Type 0) (name : List ℕ) (standing : Standing) (gives : Option Ty) (params : List Ty) (h : Here) (l : Linked) (g : Here)
      → Holding number has fs h → IsLinked number name standing (entities.Function gives params) h l g → AreSettled now fs g.syms
      → Holding number now fs (bind name (bindings.Function l.pid l.internal) g)
  holding_function now name standing gives params h l g hold k settled =
      holding_bound number now fs name (bindings.Function l.pid l.internal) g
      (record {
        ok = record {
          coherent = subst (λ n. AreCoherent number g.syms n.declared) (sym k.names)
              (all_grown number h.syms g.syms (entering_grows k.entering) h.names.declared hold.ok.coherent);
          nested = subst (λ n. IsNested n.depth n.declared) (sym k.names) hold.ok.nested;
        };
        depth = ap (λ n. n.depth) k.names ∙ hold.depth;
        settled = settled;
        waits = λ pid t f s is st given.
            at_or_not pid l.pid
            (λ same. absurd (array_function (sym (some_is (sym (entity_here k.entering) ∙ ap (entity_at g.syms) (sym same) ∙ is)) ∙ said_here k.entering)))
            (λ ne. subst (λ n. IsAwaited g.awaited (λ other. at_file other n.declared) pid) (sym k.names)
            (subst (λ a. IsAwaited a (file_of h) pid) (sym k.awaited)
            (hold.waits pid t f s (sym (entity_other k.entering pid ne) ∙ is) (sym (standing_other k.entering pid ne) ∙ st) given)));
      })
      tt
      (λ pid x. object_goes pid x.internal x.ty x.fixed (ap (λ n. innermost name n) (sym k.names) ∙ x.is) k.goes)
    where
      object_goes : (pid : ℕ) (i : Bool) (t : Ty) (f : Bool) → bound_here name h ≡ Some (bindings.Object pid i t f (extents.Array None))
          → rules.goes_with h.syms (bound_here name h) (entities.Function gives params) ≡ true → ⊥
      object_goes pid i t f is goes =
          false≢true (ap (λ o. rules.goes_with h.syms o (entities.Function gives params)) (sym is) ∙ goes)

  -- a declaration changes nothing of how far a function is defined
  settled_declared : (name : List ℕ) (gives : Option Ty) (params : List Ty) (syms : Table) (at : ℕ) (new : Table) → AreSettled has fs syms
      → IsEntering standings.Declared (entities.Function gives params) name syms at new → AreSettled has fs new
  settled_declared name gives params syms at new old x =
      settled_function has fs old gives params has (λ pid h. h) (λ s is before. by_symbol (symbol_at syms at) refl s is before x.accepts) x
    where
      by_symbol : (o : Option Symbol) → symbol_at syms at ≡ o → (s : Standing) → standing_at new at ≡ Some s
          → ((r : Option Ty) (ps : List Ty) (t : Standing) → entity_at syms at ≡ Some (entities.Function r ps) → standing_at syms at ≡ Some t
          → IsProvided has at t)
          → Accepts (symbol_at syms at) standings.Declared (entities.Function gives params) → IsProvided has at s
      by_symbol None there s is before ok =
          let declared : standings.Declared ≡ s = some_is (ap (λ o. Some (standing_met o standings.Declared)) (sym there) ∙ sym (standing_here x) ∙ is) in
          subst (IsProvided has at) declared tt
      by_symbol (Some y) there s is before ok =
          let goes = subst (λ o. Accepts o standings.Declared (entities.Function gives params)) there ok in
          let f = function_if y.entity gives params goes.0 in
          let same : later y.standing standings.Declared ≡ s =
          some_is (ap (λ o. Some (standing_met o standings.Declared)) (sym there) ∙ sym (standing_here x) ∙ is) in
          before f.0 f.1 s (ap entity_in there ∙ ap Some f.2) (ap standing_in there ∙ ap Some (sym (declared_again y.standing) ∙ same))

  link_declares : (x : Identifier) (storage : Option Storage) (gives : Option Ty) (params : List Ty)
      → Files number has fs Any (rules.link number x storage true standings.Declared (entities.Function gives params) >>= λ l.
      change (bind x.name (bindings.Function l.pid l.internal)))
  link_declares x storage gives params = record {
    by = λ h hold.
        linked h hold (rules.link number x storage true standings.Declared (entities.Function gives params) h)
        (link_does number x storage true standings.Declared (entities.Function gives params) h);
  }
    where
      linked : (h : Here) → Holding number has fs h → (r : Reply Linked)
          → LinkHolds number x.name standings.Declared (entities.Function gives params) h r
          → FileHolds number has fs h Any (followed r (λ l. change (bind x.name (bindings.Function l.pid l.internal))))
      linked h hold (Gives l g) k = (
        holding_function has x.name standings.Declared gives params h l g hold k
            (settled_declared (rules.program_name number l.internal x.name) gives params h.syms l.pid g.syms hold.settled k.entering),
        entering_grows k.entering,
        tt,
      )
      linked h hold (Breaks line kind) k = tt

  library_plain : (b c : Bool) → fine.IsPlain number [] (if b then bindings.Library library.GetChar else
      (if c then bindings.Library library.PutChar else bindings.Library library.Exit))
  library_plain true c = tt
  library_plain false true = tt
  library_plain false false = tt

  library_declares : (x : Identifier) (storage : Option Storage) (said : Entity) (defines : Bool)
      → Files number has fs Any (rules.declare_library x storage said defines)
  library_declares x storage said defines = record {
    by = λ h hold. by_type h hold (not defines && not (rules.is_static storage) && rules.is_library_type (rules.library_entity x.name) said);
  }
    where
      plain : fine.IsPlain number [] (rules.library_binding x.name)
      plain = library_plain (same_name (codes "getchar") x.name) (same_name (codes "putchar") x.name)

      otherwise : (h : Here) (pid : ℕ) → Lacks pid (bound_here x.name h) → rules.is_bound_otherwise (bound_here x.name h) ≡ false → ⊥
      otherwise h pid l none = true≢false (ap rules.is_bound_otherwise (sym l.is) ∙ none)

      by_old : (h : Here) → Holding number has fs h → (b : Bool) → rules.is_bound_otherwise (bound_here x.name h) ≡ b
          → FileHolds number has fs h Any ((unless (not b) x.line kinds.Redeclared >>= λ u. change (bind x.name (rules.library_binding x.name))) h)
      by_old h hold true is = tt
      by_old h hold false is = (
        holding_bound number has fs x.name (rules.library_binding x.name) h hold
            (fine.plain_coherent number [] h.syms x.name (rules.library_binding x.name) plain) (λ pid l. otherwise h pid l is),
        grows_same h.syms,
        tt,
      )

      by_type : (h : Here) → Holding number has fs h → (b : Bool) → FileHolds number has fs h Any
          ((unless b x.line kinds.Library
          >>= λ u. (known (bound_here x.name) >>= λ old. (unless (not (rules.is_bound_otherwise old)) x.line kinds.Redeclared >>= λ u1.
          change (bind x.name (rules.library_binding x.name))))) h)
      by_type h hold true = by_old h hold (rules.is_bound_otherwise (bound_here x.name h)) refl
      by_type h hold false = tt

  declare_function_files : (x : Identifier) (storage : Option Storage) (gives : Option Ty) (params : List Ty)
      → Files number has fs Any (rules.declare_function number x storage (entities.Function gives params))
  declare_function_files x storage gives params =
      files_if number has fs (is_library x.name) (library_declares x storage (entities.Function gives params) false) (link_declares x storage gives params)

  no_initialiser_files : (i : Option Initialiser) → Files number has fs Any (rules.no_initialiser i)
  no_initialiser_files None = files_gives number has fs tt tt
  no_initialiser_files (Some i) = files_breaks number has fs _ _

  file_function_files : (s : Specified) (d : Declarator) (ps : List Parameter) → Files number has fs Any (rules.file_function number s d ps)
  file_function_files s d ps =
      files_and number has fs
      (files_quiet number has fs {P = λ t. Unit {0}} (fine.scoped_fine number [] (parameters_fine number [] ps)) (sure_any _)) (λ types a.
      files_and number has fs (declare_function_files d.name s.storage s.ty types) (λ u b. no_initialiser_files d.initialiser))

  -- ## Declarations

  file_shape_files : (s : Specified) (d : Declarator) (x : Shape) → Files number has fs Any (rules.file_shape number s d x)
  file_shape_files s d shapes.Plain = file_object_files number has fs s d
  file_shape_files s d (shapes.Array n) = file_object_files number has fs s d
  file_shape_files s d (shapes.Function ps) = file_function_files s d ps

  file_declarators_files : (s : Specified) (ds : List Declarator) → Files number has fs Any (rules.file_declarators number s ds)
  file_declarators_files s [] = files_gives number has fs tt tt
  file_declarators_files s (d ∷ ds) = files_and number has fs (file_shape_files s d d.shape) (λ u a. file_declarators_files s ds)

  pub file_declaration_files : (d : Declaration) → Files number has fs Any (rules.file_declaration number d)
  file_declaration_files d =
      files_and number has fs (files_quiet number has fs {P = λ t. Unit {0}} (specifying_fine number [] d.specifiers sites.File) (sure_any _)) (λ s a.
      files_and number has fs (files_tests number has fs (declares s d.declarators) d.specifiers.line kinds.Specifiers) (λ u b.
      file_declarators_files s d.declarators))
