-- Each rule of expressions makes bound trees: one term for each form.
use Rattle.std.proofs.Common.{◌≡◌, ℕ, ℤ, pos, List, [], ◌∷◌, map, Option, Some, None, Bool, true, false, length, refl, sym, ap, ◌∙◌, subst}
use Rattle.std.specs.Prelude.{if◌then◌else◌, ◌==◌, ◌&&◌, ◌+ℤ◌, not, IsTrue, is_some, is_none, ⊤}
use Rattle.hlo_num.specs.declared.word.Ty.{Ty}
use Rattle.hlo_num.specs.declared.word.Ty.TheVariants.{Int}
use Rattle.hlo_num.specs.Words.{word_of}
use Rattle.sym_tables.specs.declared.entity.Entity.{Entity}
use Rattle.sym_tables.specs.declared.entity.Entity.TheVariants as entities
use Rattle.sym_tables.specs.declared.symbol.Symbol.{Symbol}
use Rattle.sym_tables.specs.Entities.{same_type}
use Rattle.sym_tables.specs.Table.{symbol_at}
use Rattle.sym_tables.proofs.Agreement.{same_type_is}
use Rattle.c_tree.specs.declared.expression.BinaryOp.{BinaryOp as Written}
use Rattle.c_tree.specs.declared.expression.UnaryOp.{UnaryOp}
use Rattle.c_tree.specs.declared.expression.Identifier.{Identifier}
use Rattle.c_tree.specs.declared.expression.Expr.TheOpen.{Expr-F, Specifier-F, Specifiers-F, Enumerator-F}
use Rattle.c_typed.specs.declared.expression.BinaryOp.{BinaryOp}
use Rattle.c_typed.specs.declared.expression.Variable.{Variable}
use Rattle.c_typed.specs.declared.expression.Variable.TheVariants as variables
use Rattle.c_typed.specs.declared.expression.Array.TheVariants as arrays
use Rattle.c_typed.specs.declared.expression.Place.{Place, roll-Place, map-Place}
use Rattle.c_typed.specs.declared.expression.Place.TheOpen.{TypedExpr-F, Place-F}
use Rattle.c_typed.specs.declared.expression.Place.TheFolds.{fold-roll-Place, fold-roll-TypedExpr}
use Rattle.c_typed.specs.declared.expression.TypedExpr.{TypedExpr, roll-TypedExpr, map-TypedExpr}
use Rattle.c_typed.specs.Trees as tree
use Rattle.c_typed.specs.Types.{result_type, type_of}
use Rattle.c_typed.specs.Views.{arguments_from, place_layer, expr_layer, place_of, expr_of}
use Rattle.c_types.specs.declared.binding.Binding.{Binding}
use Rattle.c_types.specs.declared.binding.Binding.TheVariants as bindings
use Rattle.c_types.specs.declared.binding.Extent.TheVariants as extents
use Rattle.c_types.specs.declared.binding.Library.TheVariants as library
use Rattle.c_types.specs.declared.constant.Constant.{Constant}
use Rattle.c_types.specs.declared.constant.Evaluated.{Evaluated}
use Rattle.c_types.specs.declared.constant.Evaluated.TheVariants as evaluated
use Rattle.c_types.specs.declared.conversion.Typed.{Typed}
use Rattle.c_types.specs.declared.conversion.Valued.{Valued}
use Rattle.c_types.specs.declared.conversion.Target.{Target}
use Rattle.c_types.specs.declared.conversion.Operator.{Operator}
use Rattle.c_types.specs.declared.conversion.Operator.TheVariants.{Skipping, Working}
use Rattle.c_types.specs.declared.fault.TypeKind.TheVariants as kinds
use Rattle.c_types.specs.declared.nodes.Arms.{Arms}
use Rattle.c_types.specs.declared.specifiers.Part.{Part}
use Rattle.c_types.specs.declared.specifiers.Part.TheVariants.{One, Tagged, Listed}
use Rattle.c_types.specs.declared.specifiers.Site.{Site}
use Rattle.c_types.specs.declared.specifiers.Site.TheVariants as sites
use Rattle.c_types.specs.declared.specifiers.Specified.{Specified}
use Rattle.c_types.specs.declared.uses.Called.{Called}
use Rattle.c_types.specs.declared.uses.Subscripted.{Subscripted}
use Rattle.c_types.specs.Constants.{word_of_value, constant_name, constant_element}
use Rattle.c_types.specs.Conversions.{converted, sorted, left_type, right_type, unary_type, operand_type, arms_type, arm}
use Rattle.c_types.specs.Enumerations.{value_in, enumerator, is_library, fits_int}
use Rattle.c_types.specs.ExpressionRules as rules
use Rattle.c_types.specs.ExpressionRules.{Typing}
use Rattle.c_types.specs.Names.{bound_here}
use Rattle.c_types.specs.Rules.{Here, Rule}
use Rattle.c_types.specs.Specifiers.{meaning}
use Rattle.c_types.specs.Uses.{read, variable, element, use_name, written, target_name, subscripted, use_function, function_entity, function_symbol}
use Rattle.lower_laws.specs.Bound.{Scope, IsVariable, IsArray, IsExpr, IsPlace, AreArguments, HasValue}
use Rattle.type_laws.proofs.Keeping.{IsNamed, Keeps, Any, AllKeep, and, gives, breaks, knows, tests, in_order_keeps, finds, binds, uses_pid, uses_tag}
use Rattle.type_laws.proofs.Keeping.{declares_tag}

-- ## What rules give

abbrev pub IsTyped : Scope → Typed → Type 0
IsTyped s t = IsExpr s (expr_of t.expr) × (type_of (expr_of t.expr) ≡ t.ty)

abbrev pub IsValued : Scope → Valued → Type 0
IsValued s v = IsExpr s (expr_of v.expr) × (type_of (expr_of v.expr) ≡ Some v.ty)

abbrev pub IsTarget : Scope → Target → Type 0
IsTarget s t = IsPlace s (place_of t.place)

abbrev pub IsValue : Scope → TypedExpr → Type 0
IsValue s e = IsExpr s (expr_of e) × HasValue (expr_of e)

module _ (s : Scope) where
  -- ## Nodes

  abbrev layer : TypedExpr-F Place TypedExpr → tree.Expr
  layer x = expr_layer (map-TypedExpr Place TypedExpr tree.Place tree.Expr place_of expr_of x)

  node_typed : (x : TypedExpr-F Place TypedExpr) (ty : Option Ty) → IsExpr s (layer x) × (type_of (layer x) ≡ ty)
      → (IsTyped s) (rules.node ty (roll-TypedExpr x))
  node_typed x ty ok =
      let made : expr_of (roll-TypedExpr x) ≡ layer x = fold-roll-TypedExpr tree.Place tree.Expr place_layer expr_layer x in
      (subst (IsExpr s) (sym made) ok.0, ap type_of made ∙ ok.1)

  abbrev spot : Place-F Place TypedExpr → tree.Place
  spot x = place_layer (map-Place Place TypedExpr tree.Place tree.Expr place_of expr_of x)

  place_bound : (x : Place-F Place TypedExpr) → IsPlace s (spot x) → IsPlace s (place_of (roll-Place x))
  place_bound x ok = subst (IsPlace s) (sym (fold-roll-Place tree.Place tree.Expr place_layer expr_layer x)) ok

  pub has_value : (e : tree.Expr) (ty : Ty) → type_of e ≡ Some ty → HasValue e
  has_value e ty h = subst (λ t. IsTrue (is_some t)) (sym h) refl

  pub value_of : (v : Valued) → (IsValued s) v → (IsValue s) v.expr
  value_of v ok = (ok.0, has_value (expr_of v.expr) v.ty ok.1)

  convert_if : (to : Ty) (v : Valued) (b : Bool) → (b ≡ true → v.ty ≡ to) → (IsValued s) v
      → (IsTyped s) (rules.node (Some to) (if b then v.expr else roll-TypedExpr (TypedExpr-F.Convert to v.expr)))
  convert_if to v true same ok = (ok.0, ok.1 ∙ ap Some (same refl))
  convert_if to v false same ok = node_typed (TypedExpr-F.Convert to v.expr) (Some to) (value_of v ok, refl)

  pub converted_is : (to : Ty) (v : Valued) → (IsValued s) v → (IsTyped s) (rules.node (Some to) (converted to v))
  converted_is to v ok = convert_if to v (same_type v.ty to) (same_type_is v.ty to) ok

  pub converted_value : (to : Ty) (v : Valued) → (IsValued s) v → (IsValue s) (converted to v)
  converted_value to v ok = let c = converted_is to v ok in (c.0, has_value (expr_of (converted to v)) to c.1)

  read_typed : (ty : Ty) (p : Place) → IsPlace s (place_of p) → (IsTyped s) (read ty p)
  read_typed ty p ok = node_typed (TypedExpr-F.Read ty p) (Some ty) (ok, refl)

module _ (s : Scope) (o : Here) where
  pub record AreKept (e : Typing) : Type 0 where
    pub typed : Keeps s o (IsTyped s) e.typed
    pub target : (line : ℕ) → Keeps s o (IsTarget s) (e.target line)
    pub constant : Keeps s o Any e.constant

  abbrev pub AllKept : List Typing → Type 0
  AllKept [] = ⊤
  AllKept (e ∷ es) = AreKept e × AllKept es

  -- ## Values

  valued_of_keeps : (line : ℕ) (ty : Option Ty) (e : TypedExpr) → (IsTyped s) (rules.node ty e)
      → Keeps s o (IsValued s) (rules.valued_of line (rules.node ty e))
  valued_of_keeps line None e ok = breaks line kinds.VoidValue
  valued_of_keeps line (Some ty) e ok = gives (record { ty = ty; expr = e }) ok

  pub valued_keeps : (e : Typing) → AreKept e → Keeps s o (IsValued s) (rules.valued e)
  valued_keeps e ok = and ok.typed (λ t good. valued_of_keeps e.line t.ty t.expr good)

  constant_valued_of_keeps : (line : ℕ) (ty : Option Ty) (v : Evaluated) → Keeps s o Any (rules.constant_valued_of line (record { ty = ty; value = v }))
  constant_valued_of_keeps line None v = breaks line kinds.VoidValue
  constant_valued_of_keeps line (Some ty) v = gives (record { ty = ty; value = v }) tt

  pub constant_valued_keeps : (e : Typing) → AreKept e → Keeps s o Any (rules.constant_valued e)
  constant_valued_keeps e ok = and ok.constant (λ c any. constant_valued_of_keeps e.line c.ty c.value)

  pub word_keeps : (v : Evaluated) → Keeps s o Any (word_of_value v)
  word_keeps (evaluated.Word w) = gives w tt
  word_keeps (evaluated.Traps line) = breaks line kinds.ConstTrap

  no_target_keeps : (typed : Rule Typed) (line : ℕ) → Keeps s o (IsTyped s) typed → Keeps s o (IsTarget s) (rules.no_target typed line)
  no_target_keeps typed line ok = and ok (λ t good. breaks line kinds.NotLvalue)

  not_constant_keeps : (part : Rule Constant) (line : ℕ) → Keeps s o Any part → Keeps s o Any (rules.not_constant part line)
  not_constant_keeps part line ok = and ok (λ c any. breaks line kinds.NotConstant)

  -- ## Names

  use_name_keeps : (line : ℕ) (b : Binding) → IsNamed s b → Keeps s o (IsTyped s) (use_name line b)
  use_name_keeps line (bindings.Constant w) ok = gives (rules.constant_node Int w) (node_typed s (TypedExpr-F.Constant Int w) (Some Int) (tt, refl))
  use_name_keeps line (bindings.Library f) ok = breaks line kinds.NotObject
  use_name_keeps line (bindings.Function pid internal) ok = breaks line kinds.NotObject
  use_name_keeps line (bindings.Object pid internal ty fixed extents.Scalar) ok =
      let x = variables.Object pid in
      and (uses_pid pid) (λ u any. gives (read ty (variable x)) (read_typed s ty (variable x) (place_bound s (Place-F.Variable x) tt)))
  use_name_keeps line (bindings.Object pid internal ty fixed (extents.Array n)) ok = breaks line kinds.NotObject
  use_name_keeps line (bindings.Local place ty fixed extents.Scalar) ok =
      let x = variables.Local place in gives (read ty (variable x)) (read_typed s ty (variable x) (place_bound s (Place-F.Variable x) ok))
  use_name_keeps line (bindings.Local place ty fixed (extents.Array n)) ok = breaks line kinds.NotObject
  use_name_keeps line (bindings.Parameter place ty fixed) ok =
      let x = variables.Parameter place in gives (read ty (variable x)) (read_typed s ty (variable x) (place_bound s (Place-F.Variable x) ok))

  written_keeps : (line : ℕ) (fixed : Bool) (ty : Ty) (x : Variable) → IsVariable s x → Keeps s o (IsTarget s) (written line fixed ty x)
  written_keeps line fixed ty x ok =
      and (tests (not fixed) line kinds.ConstWrite) (λ u any. gives (record { ty = ty; place = variable x }) (place_bound s (Place-F.Variable x) ok))

  target_name_keeps : (whole line : ℕ) (b : Binding) → IsNamed s b → Keeps s o (IsTarget s) (target_name whole line b)
  target_name_keeps whole line (bindings.Constant w) ok = breaks whole kinds.NotLvalue
  target_name_keeps whole line (bindings.Library f) ok = breaks whole kinds.NotLvalue
  target_name_keeps whole line (bindings.Function pid internal) ok = breaks whole kinds.NotLvalue
  target_name_keeps whole line (bindings.Object pid internal ty fixed extents.Scalar) ok =
      and (written_keeps line fixed ty (variables.Object pid) tt) (λ t good. and (uses_pid pid) (λ u any. gives t good))
  target_name_keeps whole line (bindings.Object pid internal ty fixed (extents.Array n)) ok = breaks whole kinds.NotLvalue
  target_name_keeps whole line (bindings.Local place ty fixed extents.Scalar) ok = written_keeps line fixed ty (variables.Local place) ok
  target_name_keeps whole line (bindings.Local place ty fixed (extents.Array n)) ok = breaks whole kinds.NotLvalue
  target_name_keeps whole line (bindings.Parameter place ty fixed) ok = written_keeps line fixed ty (variables.Parameter place) ok

  abbrev IsSubscripted : Subscripted → Type 0
  IsSubscripted x = IsArray s x.array

  subscripted_keeps : (writes : Bool) (line : ℕ) (b : Binding) → IsNamed s b → Keeps s o IsSubscripted (subscripted writes line b)
  subscripted_keeps writes line (bindings.Constant w) ok = breaks line kinds.NotObject
  subscripted_keeps writes line (bindings.Library f) ok = breaks line kinds.NotObject
  subscripted_keeps writes line (bindings.Function pid internal) ok = breaks line kinds.NotObject
  subscripted_keeps writes line (bindings.Object pid internal ty fixed extents.Scalar) ok = breaks line kinds.NotObject
  subscripted_keeps writes line (bindings.Object pid internal ty fixed (extents.Array n)) ok =
      and (tests (not (if writes then fixed else false)) line kinds.ConstWrite) (λ u any.
      and (uses_pid pid) (λ u1 any1. gives (record { array = arrays.Object pid; ty = ty }) tt))
  subscripted_keeps writes line (bindings.Local place ty fixed extents.Scalar) ok = breaks line kinds.NotObject
  subscripted_keeps writes line (bindings.Local place ty fixed (extents.Array n)) ok =
      and (tests (not (if writes then fixed else false)) line kinds.ConstWrite) (λ u any. gives (record { array = arrays.Local place; ty = ty }) ok)
  subscripted_keeps writes line (bindings.Parameter place ty fixed) ok = breaks line kinds.NotObject

  function_entity_keeps : (line pid : ℕ) (e : Entity) → Keeps s o Any (function_entity line pid e)
  function_entity_keeps line pid (entities.Function result params) =
      and (uses_pid pid) (λ u any. gives (record { pid = pid; result = result; params = params }) tt)
  function_entity_keeps line pid (entities.Scalar ty fixed) = breaks line kinds.NotFunction
  function_entity_keeps line pid (entities.Array ty fixed len) = breaks line kinds.NotFunction

  function_symbol_keeps : (line pid : ℕ) (x : Option Symbol) → Keeps s o Any (function_symbol line pid x)
  function_symbol_keeps line pid None = breaks line kinds.NotFunction
  function_symbol_keeps line pid (Some x) = function_entity_keeps line pid x.entity

  use_function_keeps : (line pid : ℕ) → Keeps s o Any (use_function line pid)
  use_function_keeps line pid = and (knows (λ (h : Here). h.syms)) (λ syms any. function_symbol_keeps line pid (symbol_at syms pid))

  element_keeps : (writes : Bool) (a : Identifier) (i : Typing) → AreKept i → Keeps s o (IsTarget s) (rules.element_of writes a i)
  element_keeps writes a i ok =
      and (finds a) (λ b named.
      and (subscripted_keeps writes a.line b named) (λ x is.
      and (valued_keeps i ok) (λ v good.
      gives (record { ty = x.ty; place = element x.array v.expr }) (place_bound s (Place-F.Element x.array v.expr) (is, value_of s v good)))))

  -- ## Calls

  abbrev AreGood : List TypedExpr → Type 0
  AreGood vs = AreArguments s (arguments_from (map expr_of vs))

  arguments_keep : (ps : List Ty) (es : List Typing) → AllKept es → Keeps s o AreGood (rules.arguments ps es)
  arguments_keep [] es ok = gives [] tt
  arguments_keep (p ∷ ps) [] ok = gives [] tt
  arguments_keep (p ∷ ps) (e ∷ es) ok =
      and (valued_keeps e ok.0) (λ v good. and (arguments_keep ps es ok.1) (λ vs goods. gives (converted p v ∷ vs) (converted_value s p v good, goods)))

  only_argument_keeps : (line : ℕ) (es : List Typing) → AllKept es → Keeps s o (IsValued s) (rules.only_argument line es)
  only_argument_keeps line [] ok = breaks line kinds.Arguments
  only_argument_keeps line (e ∷ []) ok = valued_keeps e ok.0
  only_argument_keeps line (e ∷ f ∷ es) ok = breaks line kinds.Arguments

  no_argument_keeps : (line : ℕ) (es : List Typing) → Keeps s o (IsTyped s) (rules.no_argument rules.get_char_node line es)
  no_argument_keeps line [] = gives rules.get_char_node (node_typed s TypedExpr-F.GetChar (Some Int) (tt, refl))
  no_argument_keeps line (e ∷ es) = breaks line kinds.Arguments

  call_program_keeps : (line : ℕ) (f : Called) (es : List Typing) → AllKept es → Keeps s o (IsTyped s) (rules.call_program line f es)
  call_program_keeps line f es ok =
      and (tests (length es == length f.params) line kinds.Arguments) (λ u any.
      and (arguments_keep f.params es ok) (λ vs goods.
      gives (rules.call_node f vs) (node_typed s (TypedExpr-F.Call f.result f.pid vs) f.result (goods, refl))))

  call_keeps : (line : ℕ) (b : Binding) (es : List Typing) → AllKept es → Keeps s o (IsTyped s) (rules.call line b es)
  call_keeps line (bindings.Constant w) es ok = breaks line kinds.NotFunction
  call_keeps line (bindings.Library library.GetChar) es ok = no_argument_keeps line es
  call_keeps line (bindings.Library library.PutChar) es ok =
      and (only_argument_keeps line es ok) (λ v good.
      gives (rules.put_char_node v) (node_typed s (TypedExpr-F.PutChar (converted Int v)) (Some Int) (converted_value s Int v good, refl)))
  call_keeps line (bindings.Library library.Exit) es ok =
      and (only_argument_keeps line es ok) (λ v good.
      gives (rules.exit_node v) (node_typed s (TypedExpr-F.Exit (converted Int v)) None (converted_value s Int v good, refl)))
  call_keeps line (bindings.Function pid internal) es ok = and (use_function_keeps line pid) (λ f any. call_program_keeps line f es ok)
  call_keeps line (bindings.Object pid internal ty fixed extent) es ok = breaks line kinds.NotFunction
  call_keeps line (bindings.Local place ty fixed extent) es ok = breaks line kinds.NotFunction
  call_keeps line (bindings.Parameter place ty fixed) es ok = breaks line kinds.NotFunction

  -- ## Operators

  unary_typed : (u : UnaryOp) (v : Valued) → (IsValued s) v → (IsTyped s) (rules.unary_node u v)
  unary_typed u v good =
      let ty = unary_type u v.ty in
      let to = operand_type u v.ty in
      node_typed s (TypedExpr-F.Unary ty u (converted to v)) (Some ty) (converted_value s to v good, refl)

  working_typed : (q : BinaryOp) (x y : Valued) → (IsValued s) x → (IsValued s) y → (IsTyped s) (rules.working_node q x y)
  working_typed q x y gx gy =
      let a = left_type q x.ty y.ty in
      let b = right_type q x.ty y.ty in
      node_typed s (TypedExpr-F.Binary a q (converted a x) (converted b y)) (Some (result_type q a))
      ((converted_value s a x gx, converted_value s b y gy), refl)

  binary_typed : (q : Operator) (x y : Valued) → (IsValued s) x → (IsValued s) y → (IsTyped s) (rules.binary q x y)
  binary_typed (Skipping q) x y gx gy = node_typed s (TypedExpr-F.Logical q x.expr y.expr) (Some Int) ((value_of s x gx, value_of s y gy), refl)
  binary_typed (Working q) x y gx gy = working_typed q x y gx gy

  assigned_keeps : (line : ℕ) (q : Operator) (t : Target) (v : Valued) → (IsTarget s) t → (IsValued s) v → Keeps s o (IsTyped s) (rules.assigned line q t v)
  assigned_keeps line (Skipping q) t v is good = breaks line kinds.NotLvalue
  assigned_keeps line (Working q) t v is good =
      let b = right_type q t.ty v.ty in
      gives (rules.compound_node q t v)
      (node_typed s (TypedExpr-F.Compound t.ty q (left_type q t.ty v.ty) t.place (converted b v)) (Some t.ty) ((is, converted_value s b v good), refl))

  assignment_keeps : (line : ℕ) (q : Option Written) (t : Target) (v : Valued) → (IsTarget s) t → (IsValued s) v
      → Keeps s o (IsTyped s) (rules.assignment line q t v)
  assignment_keeps line None t v is good =
      gives (rules.assign_node t v) (node_typed s (TypedExpr-F.Assign t.ty t.place (converted t.ty v)) (Some t.ty)
      ((is, converted_value s t.ty v good), refl))
  assignment_keeps line (Some q) t v is good = assigned_keeps line (sorted q) t v is good

  cast_keeps : (to : Option Ty) (e : Typing) → AreKept e → Keeps s o (IsTyped s) (rules.cast to e)
  cast_keeps None e ok = and ok.typed (λ t good. gives (rules.discard_node t) (node_typed s (TypedExpr-F.Discard t.expr) None (good.0, refl)))
  cast_keeps (Some ty) e ok = and (valued_keeps e ok) (λ v good. gives (rules.cast_node ty v) (converted_is s ty v good))

  constant_cast_keeps : (to : Option Ty) (e : Typing) → AreKept e → Keeps s o Any (rules.constant_cast to e)
  constant_cast_keeps None e ok = and ok.constant (λ c any. gives _ tt)
  constant_cast_keeps (Some ty) e ok = and (constant_valued_keeps e ok) (λ v any. gives _ tt)

  -- ## The arms of `?:`

  abbrev Fit : Option Ty → Option Ty → Option Ty → Type 0
  Fit a b ty = (is_some ty ≡ is_some a) × (is_some ty ≡ is_some b)

  arms_type_keeps : (la : ℕ) (a : Option Ty) (lb : ℕ) (b : Option Ty) → Keeps s o (Fit a b) (arms_type la a lb b)
  arms_type_keeps la None lb None = gives None (refl, refl)
  arms_type_keeps la None lb (Some b) = breaks la kinds.VoidValue
  arms_type_keeps la (Some a) lb None = breaks lb kinds.VoidValue
  arms_type_keeps la (Some a) lb (Some b) = gives _ (refl, refl)

  arm_typed : (to from : Option Ty) (e : TypedExpr) → is_some to ≡ is_some from → (IsTyped s) (rules.node from e)
      → (IsTyped s) (rules.node to (arm to from e))
  arm_typed None None e fit good = good
  arm_typed None (Some from) e fit good = absurd cc
  arm_typed (Some to) None e fit good = absurd cc
  arm_typed (Some to) (Some from) e fit good = converted_is s to (record { ty = from; expr = e }) good

  abbrev AreArms : Arms → Type 0
  AreArms x = (IsTyped s) (rules.node x.ty x.yes) × (IsTyped s) (rules.node x.ty x.no)

  both_keep : (a b : Typing) → AreKept a → AreKept b → Keeps s o AreArms (rules.both a b)
  both_keep a b ka kb =
      and ka.typed (λ x gx.
      and kb.typed (λ y gy.
      and (arms_type_keeps a.line x.ty b.line y.ty) (λ ty fit.
      gives (rules.both_arms ty x y) (arm_typed ty x.ty x.expr fit.0 gx, arm_typed ty y.ty y.expr fit.1 gy))))

  conditional_keeps : (c a b : Typing) → AreKept c → AreKept a → AreKept b → Keeps s o (IsTyped s) (rules.conditional c a b)
  conditional_keeps c a b kc ka kb =
      and (valued_keeps c kc) (λ v good.
      and (both_keep a b ka kb) (λ x is.
      gives (rules.conditional_node v.expr x)
      (node_typed s (TypedExpr-F.Conditional x.ty v.expr x.yes x.no) x.ty ((value_of s v good, is.0, is.1), refl))))

  -- ## Layers

  abbrev pub Layer : Type 0
  Layer = Expr-F Typing (Rule Part) (ℤ → Rule ℤ) (Site → Rule Specified)

  abbrev pub AllSites : (Site → Rule Specified) → Type 0
  AllSites r = (site : Site) → Keeps s o Any (r site)

  abbrev pub AllNumbers : (ℤ → Rule ℤ) → Type 0
  AllNumbers r = (next : ℤ) → Keeps s o Any (r next)

  -- the parts of a form keep what they are to keep
  abbrev pub Parts : Layer → Type 0
  Parts (Expr-F.Name x) = ⊤
  Parts (Expr-F.Index a i) = AreKept i
  Parts (Expr-F.Call f es) = AllKept es
  Parts (Expr-F.Constant l v ty) = ⊤
  Parts (Expr-F.Paren l e) = AreKept e
  Parts (Expr-F.Postfix l d e) = AreKept e
  Parts (Expr-F.Prefix l d e) = AreKept e
  Parts (Expr-F.Unary l u e) = AreKept e
  Parts (Expr-F.Cast l r e) = AllSites r × AreKept e
  Parts (Expr-F.Binary l q a b) = AreKept a × AreKept b
  Parts (Expr-F.Conditional l c a b) = AreKept c × (AreKept a × AreKept b)
  Parts (Expr-F.Assign l q a b) = AreKept a × AreKept b
  Parts (Expr-F.Comma l a b) = AreKept a × AreKept b

  typed_keeps : (x : Layer) → Parts x → Keeps s o (IsTyped s) (rules.typed_layer x)
  typed_keeps (Expr-F.Name x) ok = and (finds x) (λ b named. use_name_keeps x.line b named)
  typed_keeps (Expr-F.Index a i) ok = and (element_keeps false a i ok) (λ t is. gives (read t.ty t.place) (read_typed s t.ty t.place is))
  typed_keeps (Expr-F.Call f es) ok = and (finds f) (λ b named. call_keeps f.line b es ok)
  typed_keeps (Expr-F.Constant l v ty) ok = gives (rules.constant_node ty v) (node_typed s (TypedExpr-F.Constant ty v) (Some ty) (tt, refl))
  typed_keeps (Expr-F.Paren l e) ok = ok.typed
  typed_keeps (Expr-F.Postfix l d e) ok =
      and (ok.target e.line) (λ t is. gives (rules.postfix_node d t) (node_typed s (TypedExpr-F.Postfix t.ty d t.place) (Some t.ty) (is, refl)))
  typed_keeps (Expr-F.Prefix l d e) ok =
      and (ok.target e.line) (λ t is. gives (rules.prefix_node d t) (node_typed s (TypedExpr-F.Prefix t.ty d t.place) (Some t.ty) (is, refl)))
  typed_keeps (Expr-F.Unary l u e) ok = and (valued_keeps e ok) (λ v good. gives (rules.unary_node u v) (unary_typed u v good))
  typed_keeps (Expr-F.Cast l r e) ok = and (ok.0 sites.Cast) (λ to any. cast_keeps to.ty e ok.1)
  typed_keeps (Expr-F.Binary l q a b) ok =
      and (valued_keeps a ok.0) (λ x gx. and (valued_keeps b ok.1) (λ y gy. gives (rules.binary (sorted q) x y) (binary_typed (sorted q) x y gx gy)))
  typed_keeps (Expr-F.Conditional l c a b) ok = conditional_keeps c a b ok.0 ok.1.0 ok.1.1
  typed_keeps (Expr-F.Assign l q a b) ok =
      and (ok.0.target a.line) (λ t is. and (valued_keeps b ok.1) (λ v good. assignment_keeps l q t v is good))
  typed_keeps (Expr-F.Comma l a b) ok =
      and ok.0.typed (λ x gx. and ok.1.typed (λ y gy.
      gives (rules.comma_node x y) (node_typed s (TypedExpr-F.Comma y.ty x.expr y.expr) y.ty ((gx.0, gy.0, gy.1), refl))))

  target_keeps : (x : Layer) → Parts x → (line : ℕ) → Keeps s o (IsTarget s) (rules.target_layer x line)
  target_keeps (Expr-F.Name x) ok line = and (finds x) (λ b named. target_name_keeps line x.line b named)
  target_keeps (Expr-F.Index a i) ok line = element_keeps true a i ok
  target_keeps (Expr-F.Call f es) ok line = no_target_keeps _ line (typed_keeps (Expr-F.Call f es) ok)
  target_keeps (Expr-F.Constant l v ty) ok line = no_target_keeps _ line (typed_keeps (Expr-F.Constant l v ty) ok)
  target_keeps (Expr-F.Paren l e) ok line = ok.target line
  target_keeps (Expr-F.Postfix l d e) ok line = no_target_keeps _ line (typed_keeps (Expr-F.Postfix l d e) ok)
  target_keeps (Expr-F.Prefix l d e) ok line = no_target_keeps _ line (typed_keeps (Expr-F.Prefix l d e) ok)
  target_keeps (Expr-F.Unary l u e) ok line = no_target_keeps _ line (typed_keeps (Expr-F.Unary l u e) ok)
  target_keeps (Expr-F.Cast l r e) ok line = no_target_keeps _ line (typed_keeps (Expr-F.Cast l r e) ok)
  target_keeps (Expr-F.Binary l q a b) ok line = no_target_keeps _ line (typed_keeps (Expr-F.Binary l q a b) ok)
  target_keeps (Expr-F.Conditional l c a b) ok line = no_target_keeps _ line (typed_keeps (Expr-F.Conditional l c a b) ok)
  target_keeps (Expr-F.Assign l q a b) ok line = no_target_keeps _ line (typed_keeps (Expr-F.Assign l q a b) ok)
  target_keeps (Expr-F.Comma l a b) ok line = no_target_keeps _ line (typed_keeps (Expr-F.Comma l a b) ok)

  constant_name_keeps : (line : ℕ) (b : Binding) → Keeps s o Any (constant_name line b)
  constant_name_keeps line (bindings.Constant w) = gives _ tt
  constant_name_keeps line (bindings.Library f) = breaks line kinds.NotConstant
  constant_name_keeps line (bindings.Function pid internal) = breaks line kinds.NotConstant
  constant_name_keeps line (bindings.Object pid internal ty fixed extent) = breaks line kinds.NotConstant
  constant_name_keeps line (bindings.Local place ty fixed extent) = breaks line kinds.NotConstant
  constant_name_keeps line (bindings.Parameter place ty fixed) = breaks line kinds.NotConstant

  constant_element_keeps : (line : ℕ) (b : Binding) → Keeps s o Any (constant_element line b)
  constant_element_keeps line (bindings.Constant w) = breaks line kinds.NotObject
  constant_element_keeps line (bindings.Library f) = breaks line kinds.NotObject
  constant_element_keeps line (bindings.Function pid internal) = breaks line kinds.NotObject
  constant_element_keeps line (bindings.Object pid internal ty fixed extents.Scalar) = breaks line kinds.NotObject
  constant_element_keeps line (bindings.Object pid internal ty fixed (extents.Array n)) = breaks line kinds.NotConstant
  constant_element_keeps line (bindings.Local place ty fixed extents.Scalar) = breaks line kinds.NotObject
  constant_element_keeps line (bindings.Local place ty fixed (extents.Array n)) = breaks line kinds.NotConstant
  constant_element_keeps line (bindings.Parameter place ty fixed) = breaks line kinds.NotObject

  constant_keeps : (x : Layer) → Parts x → Keeps s o Any (rules.constant_layer x)
  constant_keeps (Expr-F.Name x) ok = and (finds x) (λ b named. constant_name_keeps x.line b)
  constant_keeps (Expr-F.Index a i) ok = and (finds a) (λ b named. constant_element_keeps a.line b)
  constant_keeps (Expr-F.Call f es) ok = and (finds f) (λ b named. breaks f.line kinds.NotConstant)
  constant_keeps (Expr-F.Constant l v ty) ok = gives _ tt
  constant_keeps (Expr-F.Paren l e) ok = ok.constant
  constant_keeps (Expr-F.Postfix l d e) ok = not_constant_keeps e.constant l ok.constant
  constant_keeps (Expr-F.Prefix l d e) ok = not_constant_keeps e.constant l ok.constant
  constant_keeps (Expr-F.Unary l u e) ok = and (constant_valued_keeps e ok) (λ v any. gives (rules.constant_unary l u v) tt)
  constant_keeps (Expr-F.Cast l r e) ok = and (ok.0 sites.Cast) (λ to any. constant_cast_keeps to.ty e ok.1)
  constant_keeps (Expr-F.Binary l q a b) ok =
      and (constant_valued_keeps a ok.0) (λ x ax. and (constant_valued_keeps b ok.1) (λ y ay. gives (rules.constant_binary l (sorted q) x y) tt))
  constant_keeps (Expr-F.Conditional l c a b) ok =
      and (constant_valued_keeps c ok.0) (λ x ax. and ok.1.0.constant (λ y ay. and ok.1.1.constant (λ z az.
      and (arms_type_keeps a.line y.ty b.line z.ty) (λ ty fit. gives _ tt))))
  constant_keeps (Expr-F.Assign l q a b) ok = not_constant_keeps a.constant l ok.0.constant
  constant_keeps (Expr-F.Comma l a b) ok = and ok.0.constant (λ x ax. not_constant_keeps b.constant l ok.1.constant)

  pub expression_keeps : (x : Layer) → Parts x → AreKept (rules.expression x)
  expression_keeps x ok = record { typed = typed_keeps x ok; target = target_keeps x ok; constant = constant_keeps x ok }

  -- ## Specifiers

  enumerator_keeps : (x : Identifier) (v : ℤ) → Keeps s o Any (enumerator x v)
  enumerator_keeps x v =
      and (knows (λ (h : Here). h.names.depth == 0)) (λ at_file a0.
      and (tests (not (at_file && is_library x.name)) x.line kinds.Library) (λ u1 a1.
      and (knows (bound_here x.name)) (λ old a2.
      and (tests (is_none old) x.line kinds.Redeclared) (λ u3 a3.
      and (tests (fits_int v) x.line kinds.EnumRange) (λ u4 a4.
      and (binds x.name (bindings.Constant (record { 0 = word_of v })) tt) (λ u5 a5. gives (v +ℤ pos 1) tt))))))

  abbrev pub IsValueKept : Option Typing → Type 0
  IsValueKept None = ⊤
  IsValueKept (Some e) = AreKept e

  given_value_keeps : (e : Option Typing) (next : ℤ) → IsValueKept e → Keeps s o Any (rules.given_value e next)
  given_value_keeps None next ok = gives next tt
  given_value_keeps (Some e) next ok =
      and (constant_valued_keeps e ok) (λ c any. and (word_keeps c.value) (λ w any1. gives (value_in c.ty w) tt))

  pub enumeration_constant_keeps : (c : Enumerator-F Typing (Rule Part) (ℤ → Rule ℤ) (Site → Rule Specified)) → IsValueKept c.value
      → AllNumbers (rules.enumeration_constant c)
  enumeration_constant_keeps c ok next = and (given_value_keeps c.value next ok) (λ v any. enumerator_keeps c.name v)

  abbrev pub AllCounted : List (ℤ → Rule ℤ) → Type 0
  AllCounted [] = ⊤
  AllCounted (r ∷ rs) = AllNumbers r × AllCounted rs

  all_enumerators_keep : (next : ℤ) (es : List (ℤ → Rule ℤ)) → AllCounted es → Keeps s o Any (rules.all_enumerators next es)
  all_enumerators_keep next [] ok = gives Listed tt
  all_enumerators_keep next (e ∷ es) ok = and (ok.0 next) (λ after any. all_enumerators_keep after es ok.1)

  declare_optional_tag_keeps : (x : Option Identifier) → Keeps s o Any (rules.declare_optional_tag x)
  declare_optional_tag_keeps None = gives tt tt
  declare_optional_tag_keeps (Some x) = declares_tag x

  abbrev pub SpecifierParts : Specifier-F Typing (Rule Part) (ℤ → Rule ℤ) (Site → Rule Specified) → Type 0
  SpecifierParts (Specifier-F.Word l w) = ⊤
  SpecifierParts (Specifier-F.EnumTag l x) = ⊤
  SpecifierParts (Specifier-F.Enum l x es) = AllCounted es

  pub specifier_keeps : (x : Specifier-F Typing (Rule Part) (ℤ → Rule ℤ) (Site → Rule Specified)) → SpecifierParts x → Keeps s o Any (rules.specifier x)
  specifier_keeps (Specifier-F.Word l w) ok = gives (One w) tt
  specifier_keeps (Specifier-F.EnumTag l x) ok = and (uses_tag x) (λ u any. gives Tagged tt)
  specifier_keeps (Specifier-F.Enum l x es) ok = and (declare_optional_tag_keeps x) (λ u any. all_enumerators_keep (pos 0) es ok)

  specified_or_keeps : (line : ℕ) (x : Option Specified) → Keeps s o Any (rules.specified_or line x)
  specified_or_keeps line None = breaks line kinds.Specifiers
  specified_or_keeps line (Some x) = gives x tt

  pub specifiers_keep : (x : Specifiers-F Typing (Rule Part) (ℤ → Rule ℤ) (Site → Rule Specified)) → AllKeep s o Any x.items → AllSites (rules.specifiers x)
  specifiers_keep x ok site = and (in_order_keeps Any x.items ok) (λ parts any. specified_or_keeps x.line (meaning site parts))
