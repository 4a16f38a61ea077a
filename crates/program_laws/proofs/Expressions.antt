-- Each rule of expressions makes trees that fit shapes which cover the table behind it: one term for each form.
use Rattle.std.proofs.Common.{◌≡◌, ℕ, suc, ℤ, pos, List, [], ◌∷◌, map, Option, Some, None, Bool, true, false, length, refl, sym, ap, ◌∙◌, subst}
use Rattle.std.specs.Prelude.{if◌then◌else◌, ◌==◌, ◌&&◌, ◌+ℤ◌, not, is_some, is_none, ⊤}
use Rattle.std.proofs.lemmas.Bool.{eqb-true}
use Rattle.hlo_num.specs.declared.word.Ty.{Ty}
use Rattle.hlo_num.specs.declared.word.Ty.TheVariants.{Int}
use Rattle.hlo_num.specs.Words.{word_of}
use Rattle.il_core.specs.declared.shape.Shape.{Shape}
use Rattle.il_core.specs.declared.shape.Shape.TheVariants as shape
use Rattle.il_core.specs.declared.shape.ShapeRow.{ShapeRow}
use Rattle.il_core.specs.Program.{shape_at}
use Rattle.il_core.specs.Valid.{NamesObject, IsRoutineShape}
use Rattle.sym_tables.specs.declared.entity.Entity.{Entity}
use Rattle.sym_tables.specs.declared.entity.Entity.TheVariants as entities
use Rattle.sym_tables.specs.declared.symbol.Symbol.{Symbol}
use Rattle.sym_tables.specs.Entities.{same_type}
use Rattle.sym_tables.specs.Table.{symbol_at, mark}
use Rattle.c_tree.specs.declared.expression.BinaryOp.{BinaryOp as Written}
use Rattle.c_tree.specs.declared.expression.Identifier.{Identifier}
use Rattle.c_tree.specs.declared.expression.Expr.TheOpen.{Expr-F, Specifier-F, Specifiers-F, Enumerator-F}
use Rattle.c_typed.specs.declared.expression.Variable.{Variable}
use Rattle.c_typed.specs.declared.expression.Variable.TheVariants as variables
use Rattle.c_typed.specs.declared.expression.Array.TheVariants as arrays
use Rattle.c_typed.specs.declared.expression.Place.{Place, roll-Place, map-Place}
use Rattle.c_typed.specs.declared.expression.Place.TheOpen.{TypedExpr-F, Place-F}
use Rattle.c_typed.specs.declared.expression.Place.TheFolds.{fold-roll-Place, fold-roll-TypedExpr}
use Rattle.c_typed.specs.declared.expression.TypedExpr.{TypedExpr, roll-TypedExpr, map-TypedExpr}
use Rattle.c_typed.specs.Trees as tree
use Rattle.c_typed.specs.Views.{arguments_from, place_layer, expr_layer, place_of, expr_of}
use Rattle.c_types.specs.declared.binding.Binding.{Binding}
use Rattle.c_types.specs.declared.binding.Binding.TheVariants as bindings
use Rattle.c_types.specs.declared.binding.Extent.{Extent}
use Rattle.c_types.specs.declared.binding.Extent.TheVariants as extents
use Rattle.c_types.specs.declared.binding.Library.TheVariants as library
use Rattle.c_types.specs.declared.constant.Constant.{Constant}
use Rattle.c_types.specs.declared.constant.Evaluated.{Evaluated}
use Rattle.c_types.specs.declared.constant.Evaluated.TheVariants as evaluated
use Rattle.c_types.specs.declared.conversion.Typed.{Typed}
use Rattle.c_types.specs.declared.conversion.Valued.{Valued}
use Rattle.c_types.specs.declared.conversion.Target.{Target}
use Rattle.c_types.specs.declared.conversion.Operator.{Operator}
use Rattle.c_types.specs.declared.conversion.Operator.TheVariants.{Skipping, Working}
use Rattle.c_types.specs.declared.fault.TypeKind.TheVariants as kinds
use Rattle.c_types.specs.declared.nodes.Arms.{Arms}
use Rattle.c_types.specs.declared.specifiers.Part.{Part}
use Rattle.c_types.specs.declared.specifiers.Part.TheVariants.{One, Tagged, Listed}
use Rattle.c_types.specs.declared.specifiers.Site.{Site}
use Rattle.c_types.specs.declared.specifiers.Site.TheVariants as sites
use Rattle.c_types.specs.declared.specifiers.Specified.{Specified}
use Rattle.c_types.specs.declared.uses.Called.{Called}
use Rattle.c_types.specs.declared.uses.Subscripted.{Subscripted}
use Rattle.c_types.specs.Constants.{word_of_value, constant_name, constant_element}
use Rattle.c_types.specs.Conversions.{converted, sorted, left_type, right_type, unary_type, operand_type, arms_type, arm}
use Rattle.c_types.specs.DeclarationRules.{object_entity}
use Rattle.c_types.specs.Enumerations.{value_in, enumerator, is_library, fits_int}
use Rattle.c_types.specs.ExpressionRules as rules
use Rattle.c_types.specs.ExpressionRules.{Typing}
use Rattle.c_types.specs.Names.{bound_here}
use Rattle.c_types.specs.Rules.{Here, Rule, ◌>>=◌, give}
use Rattle.c_types.specs.Specifiers.{meaning}
use Rattle.c_types.specs.Uses.{read, variable, element, use_name, written, target_name, subscripted, use_function, function_entity, function_symbol, use_pid}
use Rattle.lower_laws.specs.Fits.{FitsVariable, FitsArray, FitsExpr, FitsPlace, FitsArguments, argument_count}
use Rattle.program_laws.specs.Growing.{entity_in, entity_at, IsMore, Shows}
use Rattle.program_laws.proofs.States.{IsOk, after_beside}
use Rattle.program_laws.proofs.Tables.{marked, used_now}
use Rattle.program_laws.proofs.Fine as fine
use Rattle.program_laws.proofs.Fine.{Any, Always}

module _ (number : ℕ) (rows : List ShapeRow) where
  abbrev Fine : {A : Type 0} → (A → Type 0) → Rule A → Type 0
  Fine P rule = fine.Fine number rows P rule

  -- ## What rules give

  abbrev pub FitsTyped : Typed → Type 0
  FitsTyped t = FitsExpr rows (expr_of t.expr)

  abbrev pub FitsValued : Valued → Type 0
  FitsValued v = FitsExpr rows (expr_of v.expr)

  abbrev pub FitsTarget : Target → Type 0
  FitsTarget t = FitsPlace rows (place_of t.place)

  abbrev pub FitsTree : TypedExpr → Type 0
  FitsTree e = FitsExpr rows (expr_of e)

  abbrev layer : TypedExpr-F Place TypedExpr → tree.Expr
  layer x = expr_layer (map-TypedExpr Place TypedExpr tree.Place tree.Expr place_of expr_of x)

  -- a node fits where its layer does
  node : (x : TypedExpr-F Place TypedExpr) → FitsExpr rows (layer x) → FitsTree (roll-TypedExpr x)
  node x ok = subst (FitsExpr rows) (sym (fold-roll-TypedExpr tree.Place tree.Expr place_layer expr_layer x)) ok

  spot : (x : Place-F Place TypedExpr) → FitsPlace rows (place_layer (map-Place Place TypedExpr tree.Place tree.Expr place_of expr_of x))
      → FitsPlace rows (place_of (roll-Place x))
  spot x ok = subst (FitsPlace rows) (sym (fold-roll-Place tree.Place tree.Expr place_layer expr_layer x)) ok

  pub conversion : (to : Ty) (v : Valued) → FitsValued v → FitsTree (converted to v)
  conversion to v ok = by_test (same_type v.ty to)
    where
      by_test : (b : Bool) → FitsTree (if b then v.expr else roll-TypedExpr (TypedExpr-F.Convert to v.expr))
      by_test true = ok
      by_test false = node (TypedExpr-F.Convert to v.expr) ok

  pub record IsFine (e : Typing) : Type 0 where
    pub typed : Fine FitsTyped e.typed
    pub target : (line : ℕ) → Fine FitsTarget (e.target line)
    pub constant : Fine Any e.constant

  abbrev pub AllFine : List Typing → Type 0
  AllFine [] = ⊤
  AllFine (e ∷ es) = IsFine e × AllFine es

  -- ## Values

  valued_of_fine : (line : ℕ) (ty : Option Ty) (e : TypedExpr) → Fine (λ v. FitsTree e → FitsValued v) (rules.valued_of line (rules.node ty e))
  valued_of_fine line None e = fine.breaks number rows line kinds.VoidValue
  valued_of_fine line (Some ty) e = fine.gives number rows (record { ty = ty; expr = e }) (λ ok. ok)

  pub valued_fine : (e : Typing) → IsFine e → Fine FitsValued (rules.valued e)
  valued_fine e ok = fine.and number rows ok.typed (λ t. valued_of_fine e.line t.ty t.expr)

  constant_valued_of_fine : (line : ℕ) (ty : Option Ty) (v : Evaluated)
      → Fine (λ x. Unit {0} → Any x) (rules.constant_valued_of line (record { ty = ty; value = v }))
  constant_valued_of_fine line None v = fine.breaks number rows line kinds.VoidValue
  constant_valued_of_fine line (Some ty) v = fine.gives number rows (record { ty = ty; value = v }) (λ a. tt)

  pub constant_valued_fine : (e : Typing) → IsFine e → Fine Any (rules.constant_valued e)
  constant_valued_fine e ok = fine.and number rows ok.constant (λ c. constant_valued_of_fine e.line c.ty c.value)

  pub word_fine : {Q : ℕ → Type 0} (v : Evaluated) → ((w : ℕ) → Q w) → Fine Q (word_of_value v)
  word_fine (evaluated.Word w) q = fine.gives number rows w (q w)
  word_fine (evaluated.Traps line) q = fine.breaks number rows line kinds.ConstTrap

  no_target_fine : (typed : Rule Typed) (line : ℕ) → Fine FitsTyped typed → Fine FitsTarget (rules.no_target typed line)
  no_target_fine typed line ok = fine.and number rows ok (λ t. fine.breaks number rows line kinds.NotLvalue)

  not_constant_fine : {Q : Constant → Type 0} (part : Rule Constant) (line : ℕ) → Fine Any part → Fine Q (rules.not_constant part line)
  not_constant_fine part line ok = fine.and number rows ok (λ c. fine.breaks number rows line kinds.NotConstant)

  -- ## Names

  shows_object : (pid : ℕ) (ty : Ty) (fixed : Bool) (extent : Extent) (e : Entity) → IsMore (object_entity ty fixed extent) e → Shows rows pid e
      → NamesObject rows pid
  shows_object pid ty fixed extents.Scalar e more h = subst (λ x. Shows rows pid x) more h
  shows_object pid ty fixed (extents.Array (Some n)) e more h = subst (λ x. Shows rows pid x) more h
  shows_object pid ty fixed (extents.Array None) e more h = subst (λ x. Shows rows pid x) more.1 h

  abbrev FineIf : {A : Type 0} → (Here → Type 0) → (A → Type 0) → Rule A → Type 0
  FineIf Asked P rule = fine.FineIf number rows Asked P rule

  abbrev IsKnown : Binding → Here → Type 0
  IsKnown b h = fine.IsKnown number rows b h

  -- an object is used
  uses_object : (pid : ℕ) (internal : Bool) (ty : Ty) (fixed : Bool) (extent : Extent)
      → FineIf (IsKnown (bindings.Object pid internal ty fixed extent)) (λ u. NamesObject rows pid) (use_pid pid)
  uses_object pid internal ty fixed extent = record {
    by = λ h ok is.
        let x = after_beside number h (record h { syms = mark h.syms pid }) refl refl (marked h.syms pid) ok in (
          x,
          λ c. shows_object pid ty fixed extent is.0 is.2
              (c pid is.0 (x.table.entities pid ∙ is.1) (used_now h.syms pid is.0 is.1)),
        );
  }

  read_variable : (ty : Ty) (x : Variable) → FitsVariable rows x → FitsTyped (read ty (variable x))
  read_variable ty x ok = node (TypedExpr-F.Read ty (variable x)) (spot (Place-F.Variable x) ok)

  use_name_fine : (line : ℕ) (b : Binding) → FineIf (IsKnown b) FitsTyped (use_name line b)
  use_name_fine line (bindings.Constant w) = fine.gives number rows (rules.constant_node Int w) (node (TypedExpr-F.Constant Int w) tt)
  use_name_fine line (bindings.Library f) = fine.breaks number rows line kinds.NotObject
  use_name_fine line (bindings.Function pid internal) = fine.breaks number rows line kinds.NotObject
  use_name_fine line (bindings.Object pid internal ty fixed extents.Scalar) =
      fine.and number rows (uses_object pid internal ty fixed extents.Scalar) (λ u.
      fine.gives number rows (read ty (variable (variables.Object pid))) (λ is. read_variable ty (variables.Object pid) is))
  use_name_fine line (bindings.Object pid internal ty fixed (extents.Array n)) = fine.breaks number rows line kinds.NotObject
  use_name_fine line (bindings.Local place ty fixed extents.Scalar) =
      fine.gives number rows (read ty (variable (variables.Local place))) (read_variable ty (variables.Local place) tt)
  use_name_fine line (bindings.Local place ty fixed (extents.Array n)) = fine.breaks number rows line kinds.NotObject
  use_name_fine line (bindings.Parameter place ty fixed) =
      fine.gives number rows (read ty (variable (variables.Parameter place))) (read_variable ty (variables.Parameter place) tt)

  written_fine : {Asked : Here → Type 0} (line : ℕ) (fixed : Bool) (ty : Ty) (x : Variable) → FitsVariable rows x
      → FineIf Asked FitsTarget (written line fixed ty x)
  written_fine line fixed ty x ok =
      fine.if_tests number rows (not fixed) line kinds.ConstWrite
      (λ u e. fine.gives number rows (record { ty = ty; place = variable x }) (spot (Place-F.Variable x) ok))

  target_object : (pid : ℕ) (internal : Bool) (ty : Ty) (fixed : Bool) (t : Target) → (NamesObject rows pid → FitsTarget t)
      → FineIf (IsKnown (bindings.Object pid internal ty fixed extents.Scalar)) FitsTarget (use_pid pid >>= λ u. give t)
  target_object pid internal ty fixed t ok = fine.and number rows (uses_object pid internal ty fixed extents.Scalar) (λ u. fine.gives number rows t ok)

  target_name_fine : (whole line : ℕ) (b : Binding) → FineIf (IsKnown b) FitsTarget (target_name whole line b)
  target_name_fine whole line (bindings.Constant w) = fine.breaks number rows whole kinds.NotLvalue
  target_name_fine whole line (bindings.Library f) = fine.breaks number rows whole kinds.NotLvalue
  target_name_fine whole line (bindings.Function pid internal) = fine.breaks number rows whole kinds.NotLvalue
  target_name_fine whole line (bindings.Object pid internal ty fixed extents.Scalar) = by_test fixed
    where
      by_test : (b : Bool) → FineIf (IsKnown (bindings.Object pid internal ty fixed extents.Scalar)) FitsTarget
          (written line b ty (variables.Object pid) >>= λ t. (use_pid pid >>= λ u. give t))
      by_test true = record { by = λ h ok is. tt }
      by_test false = record {
        by = λ h ok is.
            (target_object pid internal ty fixed (record { ty = ty; place = variable (variables.Object pid) })
            (λ there. spot (Place-F.Variable (variables.Object pid)) there)).by h ok is;
      }
  target_name_fine whole line (bindings.Object pid internal ty fixed (extents.Array n)) = fine.breaks number rows whole kinds.NotLvalue
  target_name_fine whole line (bindings.Local place ty fixed extents.Scalar) = written_fine line fixed ty (variables.Local place) tt
  target_name_fine whole line (bindings.Local place ty fixed (extents.Array n)) = fine.breaks number rows whole kinds.NotLvalue
  target_name_fine whole line (bindings.Parameter place ty fixed) = written_fine line fixed ty (variables.Parameter place) tt

  abbrev FitsSubscripted : Subscripted → Type 0
  FitsSubscripted x = FitsArray rows x.array

  subscripted_fine : (writes : Bool) (line : ℕ) (b : Binding) → FineIf (IsKnown b) FitsSubscripted (subscripted writes line b)
  subscripted_fine writes line (bindings.Constant w) = fine.breaks number rows line kinds.NotObject
  subscripted_fine writes line (bindings.Library f) = fine.breaks number rows line kinds.NotObject
  subscripted_fine writes line (bindings.Function pid internal) = fine.breaks number rows line kinds.NotObject
  subscripted_fine writes line (bindings.Object pid internal ty fixed extents.Scalar) = fine.breaks number rows line kinds.NotObject
  subscripted_fine writes line (bindings.Object pid internal ty fixed (extents.Array n)) =
      fine.if_tests number rows (not (if writes then fixed else false)) line kinds.ConstWrite (λ u0 e.
      fine.and number rows (uses_object pid internal ty fixed (extents.Array n)) (λ u.
      fine.gives number rows (record { array = arrays.Object pid; ty = ty }) (λ is. is)))
  subscripted_fine writes line (bindings.Local place ty fixed extents.Scalar) = fine.breaks number rows line kinds.NotObject
  subscripted_fine writes line (bindings.Local place ty fixed (extents.Array n)) =
      fine.if_tests number rows (not (if writes then fixed else false)) line kinds.ConstWrite (λ u0 e.
      fine.gives number rows (record { array = arrays.Local place; ty = ty }) tt)
  subscripted_fine writes line (bindings.Parameter place ty fixed) = fine.breaks number rows line kinds.NotObject

  -- a function that is called has its row
  abbrev IsCalled : Called → Type 0
  IsCalled f = shape_at rows f.pid ≡ Some (shape.Routine (length f.params) (is_some f.result))

  use_function_fine : (line pid : ℕ) → Fine IsCalled (use_function line pid)
  use_function_fine line pid = record { by = λ h ok asked. by_symbol h ok (symbol_at h.syms pid) refl }
    where
      by_entity : (h : Here) → IsOk number h → (e : Entity) → entity_at h.syms pid ≡ Some e
          → fine.Holds number rows h IsCalled (function_entity line pid e h)
      by_entity h ok (entities.Function result params) is =
          let x = after_beside number h (record h { syms = mark h.syms pid }) refl refl (marked h.syms pid) ok in (
            x,
            λ c. c pid (entities.Function result params) (x.table.entities pid ∙ is) (used_now h.syms pid (entities.Function result params) is),
          )
      by_entity h ok (entities.Scalar ty fixed) is = tt
      by_entity h ok (entities.Array ty fixed len) is = tt

      by_symbol : (h : Here) → IsOk number h → (o : Option Symbol) → symbol_at h.syms pid ≡ o
          → fine.Holds number rows h IsCalled (function_symbol line pid o h)
      by_symbol h ok None is = tt
      by_symbol h ok (Some s) is = by_entity h ok s.entity (ap entity_in is)

  element_fine : (writes : Bool) (a : Identifier) (i : Typing) → IsFine i → Fine FitsTarget (rules.element_of writes a i)
  element_fine writes a i ok =
      fine.finds number rows a (λ b.
      fine.and number rows (subscripted_fine writes a.line b) (λ x.
      fine.and number rows (valued_fine i ok) (λ v.
      fine.gives number rows (record { ty = x.ty; place = element x.array v.expr })
      (λ good is. spot (Place-F.Element x.array v.expr) (is, good)))))

  -- ## Calls

  abbrev AreFit : List TypedExpr → Type 0
  AreFit vs = FitsArguments rows (arguments_from (map expr_of vs))

  counted : (vs : List TypedExpr) → argument_count (arguments_from (map expr_of vs)) ≡ length vs
  counted [] = refl
  counted (v ∷ vs) = ap suc (counted vs)

  -- arguments fit, one for each parameter
  abbrev AreFor : List Ty → List Typing → List TypedExpr → Type 0
  AreFor ps es vs = AreFit vs × (length es ≡ length ps → length vs ≡ length ps)

  arguments_fine : (ps : List Ty) (es : List Typing) → AllFine es → Fine (AreFor ps es) (rules.arguments ps es)
  arguments_fine [] es ok = fine.gives number rows [] (tt, λ e. refl)
  arguments_fine (p ∷ ps) [] ok = fine.gives number rows [] (tt, λ e. e)
  arguments_fine (p ∷ ps) (e ∷ es) ok =
      fine.and number rows (valued_fine e ok.0) (λ v. fine.and number rows (arguments_fine ps es ok.1) (λ vs.
      fine.gives number rows (converted p v ∷ vs) (λ goods good.
      ((conversion p v good, goods.0), λ is. ap suc (goods.1 (let q : length es ≡ length ps = cc in q))))))

  only_argument_fine : (line : ℕ) (es : List Typing) → AllFine es → Fine FitsValued (rules.only_argument line es)
  only_argument_fine line [] ok = fine.breaks number rows line kinds.Arguments
  only_argument_fine line (e ∷ []) ok = valued_fine e ok.0
  only_argument_fine line (e ∷ f ∷ es) ok = fine.breaks number rows line kinds.Arguments

  no_argument_fine : (line : ℕ) (es : List Typing) → Fine FitsTyped (rules.no_argument rules.get_char_node line es)
  no_argument_fine line [] = fine.gives number rows rules.get_char_node (node TypedExpr-F.GetChar tt)
  no_argument_fine line (e ∷ es) = fine.breaks number rows line kinds.Arguments

  routine_shape : (o : Option Shape) (n m : ℕ) (b : Bool) → o ≡ Some (shape.Routine n b) → m ≡ n → IsRoutineShape o m b
  routine_shape o n m b is same = subst (λ x. IsRoutineShape x m b) (sym is) (sym same, refl)

  call_program_fine : (line : ℕ) (f : Called) (es : List Typing) → AllFine es → Fine (λ t. IsCalled f → FitsTyped t) (rules.call_program line f es)
  call_program_fine line f es ok =
      fine.and number rows (fine.tests number rows (length es == length f.params) line kinds.Arguments) (λ u.
      fine.and number rows (arguments_fine f.params es ok) (λ vs.
      fine.gives number rows (rules.call_node f vs) (λ goods is called.
      node (TypedExpr-F.Call f.result f.pid vs) (
        goods.0,
        routine_shape (shape_at rows f.pid) (length f.params) (argument_count (arguments_from (map expr_of vs))) (is_some f.result) called
            (counted vs ∙ goods.1 (eqb-true (length es) (length f.params) is)),
      ))))

  call_fine : (line : ℕ) (b : Binding) (es : List Typing) → AllFine es → Fine FitsTyped (rules.call line b es)
  call_fine line (bindings.Constant w) es ok = fine.breaks number rows line kinds.NotFunction
  call_fine line (bindings.Library library.GetChar) es ok = no_argument_fine line es
  call_fine line (bindings.Library library.PutChar) es ok =
      fine.and number rows (only_argument_fine line es ok) (λ v.
      fine.gives number rows (rules.put_char_node v) (λ good. node (TypedExpr-F.PutChar (converted Int v)) (conversion Int v good)))
  call_fine line (bindings.Library library.Exit) es ok =
      fine.and number rows (only_argument_fine line es ok) (λ v.
      fine.gives number rows (rules.exit_node v) (λ good. node (TypedExpr-F.Exit (converted Int v)) (conversion Int v good)))
  call_fine line (bindings.Function pid internal) es ok = fine.and number rows (use_function_fine line pid) (λ f. call_program_fine line f es ok)
  call_fine line (bindings.Object pid internal ty fixed extent) es ok = fine.breaks number rows line kinds.NotFunction
  call_fine line (bindings.Local place ty fixed extent) es ok = fine.breaks number rows line kinds.NotFunction
  call_fine line (bindings.Parameter place ty fixed) es ok = fine.breaks number rows line kinds.NotFunction

  -- ## Operators

  binary_fit : (q : Operator) (x y : Valued) → FitsValued x → FitsValued y → FitsTyped (rules.binary q x y)
  binary_fit (Skipping q) x y gx gy = node (TypedExpr-F.Logical q x.expr y.expr) (gx, gy)
  binary_fit (Working q) x y gx gy =
      let a = left_type q x.ty y.ty in
      let b = right_type q x.ty y.ty in
      node (TypedExpr-F.Binary a q (converted a x) (converted b y)) (conversion a x gx, conversion b y gy)

  assigned_fine : (line : ℕ) (q : Operator) (t : Target) (v : Valued) → Fine (λ x. FitsValued v → FitsTarget t → FitsTyped x) (rules.assigned line q t v)
  assigned_fine line (Skipping q) t v = fine.breaks number rows line kinds.NotLvalue
  assigned_fine line (Working q) t v =
      let b = right_type q t.ty v.ty in
      fine.gives number rows (rules.compound_node q t v)
      (λ good is. node (TypedExpr-F.Compound t.ty q (left_type q t.ty v.ty) t.place (converted b v)) (is, conversion b v good))

  assignment_fine : (line : ℕ) (q : Option Written) (t : Target) (v : Valued)
      → Fine (λ x. FitsValued v → FitsTarget t → FitsTyped x) (rules.assignment line q t v)
  assignment_fine line None t v =
      fine.gives number rows (rules.assign_node t v) (λ good is. node (TypedExpr-F.Assign t.ty t.place (converted t.ty v)) (is, conversion t.ty v good))
  assignment_fine line (Some q) t v = assigned_fine line (sorted q) t v

  cast_fine : (to : Option Ty) (e : Typing) → IsFine e → Fine (λ t. Unit {0} → FitsTyped t) (rules.cast to e)
  cast_fine None e ok = fine.and number rows ok.typed (λ t. fine.gives number rows (rules.discard_node t) (λ good a. node (TypedExpr-F.Discard t.expr) good))
  cast_fine (Some ty) e ok = fine.and number rows (valued_fine e ok) (λ v. fine.gives number rows (rules.cast_node ty v) (λ good a. conversion ty v good))

  constant_cast_fine : (to : Option Ty) (e : Typing) → IsFine e → Fine (λ t. Unit {0} → Any t) (rules.constant_cast to e)
  constant_cast_fine None e ok = fine.and number rows ok.constant (λ c. fine.gives number rows _ (λ a b. tt))
  constant_cast_fine (Some ty) e ok = fine.and number rows (constant_valued_fine e ok) (λ v. fine.gives number rows _ (λ a b. tt))

  -- ## The arms of `?:`

  arms_type_fine : {Q : Option Ty → Type 0} (la : ℕ) (a : Option Ty) (lb : ℕ) (b : Option Ty) → ((ty : Option Ty) → Q ty) → Fine Q (arms_type la a lb b)
  arms_type_fine la None lb None q = fine.gives number rows None (q None)
  arms_type_fine la None lb (Some b) q = fine.breaks number rows la kinds.VoidValue
  arms_type_fine la (Some a) lb None q = fine.breaks number rows lb kinds.VoidValue
  arms_type_fine la (Some a) lb (Some b) q = fine.gives number rows _ (q _)

  arm_fit : (to from : Option Ty) (e : TypedExpr) → FitsTree e → FitsTree (arm to from e)
  arm_fit None from e good = good
  arm_fit (Some to) None e good = good
  arm_fit (Some to) (Some from) e good = conversion to (record { ty = from; expr = e }) good

  abbrev AreArms : Arms → Type 0
  AreArms x = FitsTree x.yes × FitsTree x.no

  both_fine : (a b : Typing) → IsFine a → IsFine b → Fine AreArms (rules.both a b)
  both_fine a b ka kb =
      fine.and number rows ka.typed (λ x.
      fine.and number rows kb.typed (λ y.
      fine.and number rows (arms_type_fine {Q = λ x. Unit {0}} a.line x.ty b.line y.ty (λ ty. tt)) (λ ty.
      fine.gives number rows (rules.both_arms ty x y) (λ any gy gx. (arm_fit ty x.ty x.expr gx, arm_fit ty y.ty y.expr gy)))))

  conditional_fine : (c a b : Typing) → IsFine c → IsFine a → IsFine b → Fine FitsTyped (rules.conditional c a b)
  conditional_fine c a b kc ka kb =
      fine.and number rows (valued_fine c kc) (λ v.
      fine.and number rows (both_fine a b ka kb) (λ x.
      fine.gives number rows (rules.conditional_node v.expr x) (λ is good.
      node (TypedExpr-F.Conditional x.ty v.expr x.yes x.no) (good, is.0, is.1))))

  -- ## Layers

  abbrev pub Layer : Type 0
  Layer = Expr-F Typing (Rule Part) (ℤ → Rule ℤ) (Site → Rule Specified)

  abbrev pub AllSites : (Site → Rule Specified) → Type 0
  AllSites r = (site : Site) → Fine Any (r site)

  abbrev pub AllNumbers : (ℤ → Rule ℤ) → Type 0
  AllNumbers r = (next : ℤ) → Fine Any (r next)

  -- the parts of a form do what they are to do
  abbrev pub Parts : Layer → Type 0
  Parts (Expr-F.Name x) = ⊤
  Parts (Expr-F.Index a i) = IsFine i
  Parts (Expr-F.Call f es) = AllFine es
  Parts (Expr-F.Constant l v ty) = ⊤
  Parts (Expr-F.Paren l e) = IsFine e
  Parts (Expr-F.Postfix l d e) = IsFine e
  Parts (Expr-F.Prefix l d e) = IsFine e
  Parts (Expr-F.Unary l u e) = IsFine e
  Parts (Expr-F.Cast l r e) = AllSites r × IsFine e
  Parts (Expr-F.Binary l q a b) = IsFine a × IsFine b
  Parts (Expr-F.Conditional l c a b) = IsFine c × (IsFine a × IsFine b)
  Parts (Expr-F.Assign l q a b) = IsFine a × IsFine b
  Parts (Expr-F.Comma l a b) = IsFine a × IsFine b

  typed_fine : (x : Layer) → Parts x → Fine FitsTyped (rules.typed_layer x)
  typed_fine (Expr-F.Name x) ok = fine.finds number rows x (λ b. use_name_fine x.line b)
  typed_fine (Expr-F.Index a i) ok =
      fine.and number rows (element_fine false a i ok) (λ t. fine.gives number rows (read t.ty t.place) (λ is. node (TypedExpr-F.Read t.ty t.place) is))
  typed_fine (Expr-F.Call f es) ok = fine.finds number rows f (λ b. fine.asking number rows (call_fine f.line b es ok))
  typed_fine (Expr-F.Constant l v ty) ok = fine.gives number rows (rules.constant_node ty v) (node (TypedExpr-F.Constant ty v) tt)
  typed_fine (Expr-F.Paren l e) ok = ok.typed
  typed_fine (Expr-F.Postfix l d e) ok =
      fine.and number rows (ok.target e.line) (λ t. fine.gives number rows (rules.postfix_node d t) (λ is. node (TypedExpr-F.Postfix t.ty d t.place) is))
  typed_fine (Expr-F.Prefix l d e) ok =
      fine.and number rows (ok.target e.line) (λ t. fine.gives number rows (rules.prefix_node d t) (λ is. node (TypedExpr-F.Prefix t.ty d t.place) is))
  typed_fine (Expr-F.Unary l u e) ok =
      fine.and number rows (valued_fine e ok) (λ v. fine.gives number rows (rules.unary_node u v)
      (λ good. node (TypedExpr-F.Unary (unary_type u v.ty) u (converted (operand_type u v.ty) v)) (conversion (operand_type u v.ty) v good)))
  typed_fine (Expr-F.Cast l r e) ok = fine.and number rows (ok.0 sites.Cast) (λ to. cast_fine to.ty e ok.1)
  typed_fine (Expr-F.Binary l q a b) ok =
      fine.and number rows (valued_fine a ok.0) (λ x. fine.and number rows (valued_fine b ok.1) (λ y.
      fine.gives number rows (rules.binary (sorted q) x y) (λ gy gx. binary_fit (sorted q) x y gx gy)))
  typed_fine (Expr-F.Conditional l c a b) ok = conditional_fine c a b ok.0 ok.1.0 ok.1.1
  typed_fine (Expr-F.Assign l q a b) ok =
      fine.and number rows (ok.0.target a.line) (λ t. fine.and number rows (valued_fine b ok.1) (λ v. assignment_fine l q t v))
  typed_fine (Expr-F.Comma l a b) ok =
      fine.and number rows ok.0.typed (λ x. fine.and number rows ok.1.typed (λ y.
      fine.gives number rows (rules.comma_node x y) (λ gy gx. node (TypedExpr-F.Comma y.ty x.expr y.expr) (gx, gy))))

  target_fine : (x : Layer) → Parts x → (line : ℕ) → Fine FitsTarget (rules.target_layer x line)
  target_fine (Expr-F.Name x) ok line = fine.finds number rows x (λ b. target_name_fine line x.line b)
  target_fine (Expr-F.Index a i) ok line = element_fine true a i ok
  target_fine (Expr-F.Call f es) ok line = no_target_fine _ line (typed_fine (Expr-F.Call f es) ok)
  target_fine (Expr-F.Constant l v ty) ok line = no_target_fine _ line (typed_fine (Expr-F.Constant l v ty) ok)
  target_fine (Expr-F.Paren l e) ok line = ok.target line
  target_fine (Expr-F.Postfix l d e) ok line = no_target_fine _ line (typed_fine (Expr-F.Postfix l d e) ok)
  target_fine (Expr-F.Prefix l d e) ok line = no_target_fine _ line (typed_fine (Expr-F.Prefix l d e) ok)
  target_fine (Expr-F.Unary l u e) ok line = no_target_fine _ line (typed_fine (Expr-F.Unary l u e) ok)
  target_fine (Expr-F.Cast l r e) ok line = no_target_fine _ line (typed_fine (Expr-F.Cast l r e) ok)
  target_fine (Expr-F.Binary l q a b) ok line = no_target_fine _ line (typed_fine (Expr-F.Binary l q a b) ok)
  target_fine (Expr-F.Conditional l c a b) ok line = no_target_fine _ line (typed_fine (Expr-F.Conditional l c a b) ok)
  target_fine (Expr-F.Assign l q a b) ok line = no_target_fine _ line (typed_fine (Expr-F.Assign l q a b) ok)
  target_fine (Expr-F.Comma l a b) ok line = no_target_fine _ line (typed_fine (Expr-F.Comma l a b) ok)

  constant_name_fine : (line : ℕ) (b : Binding) → Fine Any (constant_name line b)
  constant_name_fine line (bindings.Constant w) = fine.gives number rows _ tt
  constant_name_fine line (bindings.Library f) = fine.breaks number rows line kinds.NotConstant
  constant_name_fine line (bindings.Function pid internal) = fine.breaks number rows line kinds.NotConstant
  constant_name_fine line (bindings.Object pid internal ty fixed extent) = fine.breaks number rows line kinds.NotConstant
  constant_name_fine line (bindings.Local place ty fixed extent) = fine.breaks number rows line kinds.NotConstant
  constant_name_fine line (bindings.Parameter place ty fixed) = fine.breaks number rows line kinds.NotConstant

  constant_element_fine : (line : ℕ) (b : Binding) → Fine Any (constant_element line b)
  constant_element_fine line (bindings.Constant w) = fine.breaks number rows line kinds.NotObject
  constant_element_fine line (bindings.Library f) = fine.breaks number rows line kinds.NotObject
  constant_element_fine line (bindings.Function pid internal) = fine.breaks number rows line kinds.NotObject
  constant_element_fine line (bindings.Object pid internal ty fixed extents.Scalar) = fine.breaks number rows line kinds.NotObject
  constant_element_fine line (bindings.Object pid internal ty fixed (extents.Array n)) = fine.breaks number rows line kinds.NotConstant
  constant_element_fine line (bindings.Local place ty fixed extents.Scalar) = fine.breaks number rows line kinds.NotObject
  constant_element_fine line (bindings.Local place ty fixed (extents.Array n)) = fine.breaks number rows line kinds.NotConstant
  constant_element_fine line (bindings.Parameter place ty fixed) = fine.breaks number rows line kinds.NotObject

  constant_fine : (x : Layer) → Parts x → Fine Any (rules.constant_layer x)
  constant_fine (Expr-F.Name x) ok = fine.finds number rows x (λ b. fine.asking number rows (constant_name_fine x.line b))
  constant_fine (Expr-F.Index a i) ok = fine.finds number rows a (λ b. fine.asking number rows (constant_element_fine a.line b))
  constant_fine (Expr-F.Call f es) ok = fine.finds number rows f (λ b. fine.breaks number rows f.line kinds.NotConstant)
  constant_fine (Expr-F.Constant l v ty) ok = fine.gives number rows _ tt
  constant_fine (Expr-F.Paren l e) ok = ok.constant
  constant_fine (Expr-F.Postfix l d e) ok = not_constant_fine e.constant l ok.constant
  constant_fine (Expr-F.Prefix l d e) ok = not_constant_fine e.constant l ok.constant
  constant_fine (Expr-F.Unary l u e) ok = fine.and number rows (constant_valued_fine e ok) (λ v. fine.gives number rows (rules.constant_unary l u v) (λ a. tt))
  constant_fine (Expr-F.Cast l r e) ok = fine.and number rows (ok.0 sites.Cast) (λ to. constant_cast_fine to.ty e ok.1)
  constant_fine (Expr-F.Binary l q a b) ok =
      fine.and number rows (constant_valued_fine a ok.0) (λ x. fine.and number rows (constant_valued_fine b ok.1) (λ y.
      fine.gives number rows (rules.constant_binary l (sorted q) x y) (λ a1 a2. tt)))
  constant_fine (Expr-F.Conditional l c a b) ok =
      fine.and number rows (constant_valued_fine c ok.0) (λ x. fine.and number rows ok.1.0.constant (λ y. fine.and number rows ok.1.1.constant (λ z.
      fine.and number rows (arms_type_fine {Q = λ x. Unit {0}} a.line y.ty b.line z.ty (λ ty. tt)) (λ ty. fine.gives number rows _ (λ a1 a2 a3 a4. tt)))))
  constant_fine (Expr-F.Assign l q a b) ok = not_constant_fine a.constant l ok.0.constant
  constant_fine (Expr-F.Comma l a b) ok = fine.and number rows ok.0.constant (λ x. not_constant_fine b.constant l ok.1.constant)

  pub expression_fine : (x : Layer) → Parts x → IsFine (rules.expression x)
  expression_fine x ok = record { typed = typed_fine x ok; target = target_fine x ok; constant = constant_fine x ok }

  -- ## Specifiers

  enumerator_fine : {Q : ℤ → Type 0} (x : Identifier) (v : ℤ) → ((w : ℤ) → Q w) → Fine Q (enumerator x v)
  enumerator_fine x v q =
      fine.if_knows number rows (λ (h : Here). h.names.depth == 0) (λ at_file.
      fine.if_tests number rows (not (at_file && is_library x.name)) x.line kinds.Library (λ u1 e1.
      fine.if_knows number rows (bound_here x.name) (λ old.
      fine.if_tests number rows (is_none old) x.line kinds.Redeclared (λ u2 e2.
      fine.if_tests number rows (fits_int v) x.line kinds.EnumRange (λ u3 e3.
      fine.binds_new number rows x.name (bindings.Constant (record { 0 = word_of v })) (λ h asked. asked.1 ∙ fine.none_if number rows old e2) tt
      (λ u4. fine.gives number rows (v +ℤ pos 1) (q (v +ℤ pos 1))))))))

  abbrev pub IsValueFine : Option Typing → Type 0
  IsValueFine None = ⊤
  IsValueFine (Some e) = IsFine e

  given_value_fine : (e : Option Typing) (next : ℤ) → IsValueFine e → Fine Any (rules.given_value e next)
  given_value_fine None next ok = fine.gives number rows next tt
  given_value_fine (Some e) next ok =
      fine.and number rows (constant_valued_fine e ok) (λ c. fine.and number rows (word_fine {Q = λ x. Unit {0}} c.value (λ w. tt)) (λ w.
      fine.gives number rows (value_in c.ty w) (λ a1 a2. tt)))

  pub enumeration_constant_fine : (c : Enumerator-F Typing (Rule Part) (ℤ → Rule ℤ) (Site → Rule Specified)) → IsValueFine c.value
      → AllNumbers (rules.enumeration_constant c)
  enumeration_constant_fine c ok next = fine.and number rows (given_value_fine c.value next ok) (λ v. enumerator_fine c.name v (λ w a. tt))

  abbrev pub AllCounted : List (ℤ → Rule ℤ) → Type 0
  AllCounted [] = ⊤
  AllCounted (r ∷ rs) = AllNumbers r × AllCounted rs

  all_enumerators_fine : (next : ℤ) (es : List (ℤ → Rule ℤ)) → AllCounted es → Fine Any (rules.all_enumerators next es)
  all_enumerators_fine next [] ok = fine.gives number rows Listed tt
  all_enumerators_fine next (e ∷ es) ok = fine.and number rows (ok.0 next) (λ after. fine.loosely number rows (λ a b. tt) (all_enumerators_fine after es ok.1))

  declare_optional_tag_fine : (x : Option Identifier) → Fine Any (rules.declare_optional_tag x)
  declare_optional_tag_fine None = fine.gives number rows tt tt
  declare_optional_tag_fine (Some x) = fine.declares_tag number rows x

  abbrev pub SpecifierParts : Specifier-F Typing (Rule Part) (ℤ → Rule ℤ) (Site → Rule Specified) → Type 0
  SpecifierParts (Specifier-F.Word l w) = ⊤
  SpecifierParts (Specifier-F.EnumTag l x) = ⊤
  SpecifierParts (Specifier-F.Enum l x es) = AllCounted es

  pub specifier_fine : (x : Specifier-F Typing (Rule Part) (ℤ → Rule ℤ) (Site → Rule Specified)) → SpecifierParts x → Fine Any (rules.specifier x)
  specifier_fine (Specifier-F.Word l w) ok = fine.gives number rows (One w) tt
  specifier_fine (Specifier-F.EnumTag l x) ok = fine.and number rows (fine.uses_tag number rows x) (λ u. fine.gives number rows Tagged (λ a. tt))
  specifier_fine (Specifier-F.Enum l x es) ok =
      fine.and number rows (declare_optional_tag_fine x) (λ u. fine.loosely number rows (λ a b. tt) (all_enumerators_fine (pos 0) es ok))

  specified_or_fine : {Q : Specified → Type 0} (line : ℕ) (x : Option Specified) → ((y : Specified) → Q y) → Fine Q (rules.specified_or line x)
  specified_or_fine line None q = fine.breaks number rows line kinds.Specifiers
  specified_or_fine line (Some x) q = fine.gives number rows x (q x)

  pub specifiers_fine : (x : Specifiers-F Typing (Rule Part) (ℤ → Rule ℤ) (Site → Rule Specified)) → fine.AllFine number rows Any x.items
      → AllSites (rules.specifiers x)
  specifiers_fine x ok site =
      fine.and number rows (fine.in_order_fine number rows Any x.items ok) (λ parts. specified_or_fine x.line (meaning site parts) (λ y a. tt))
