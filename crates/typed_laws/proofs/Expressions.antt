-- Each rule of expressions makes well-typed trees: one term for each form.
use Rattle.std.proofs.Common.{◌≡◌, ℕ, ℤ, pos, List, [], ◌∷◌, map, Option, Some, None, Bool, true, false, length, refl, sym, ap, ◌∙◌, subst, arith}
use Rattle.std.specs.Prelude.{if◌then◌else◌, ◌==◌, ◌&&◌, ◌+ℤ◌, not, IsTrue, is_some, is_none, ⊤}
use Rattle.std.proofs.lemmas.Bool.{true≢false, eqb-true}
use Rattle.hlo_num.specs.declared.word.Ty.{Ty}
use Rattle.hlo_num.specs.declared.word.Ty.TheVariants.{Int}
use Rattle.hlo_num.specs.Words.{word_of}
use Rattle.sym_tables.specs.declared.entity.Entity.{Entity}
use Rattle.sym_tables.specs.declared.entity.Entity.TheVariants as entities
use Rattle.sym_tables.specs.declared.symbol.Symbol.{Symbol}
use Rattle.sym_tables.specs.Entities.{same_type}
use Rattle.sym_tables.specs.Table.{symbol_at, mark}
use Rattle.sym_tables.proofs.Agreement.{same_type_is, same_type_itself}
use Rattle.c_tree.specs.declared.expression.BinaryOp.{BinaryOp as Written}
use Rattle.c_tree.specs.declared.expression.UnaryOp.{UnaryOp}
use Rattle.c_tree.specs.declared.expression.Identifier.{Identifier}
use Rattle.c_tree.specs.declared.expression.Expr.TheOpen.{Expr-F, Specifier-F, Specifiers-F, Enumerator-F}
use Rattle.c_typed.specs.declared.expression.BinaryOp.{BinaryOp}
use Rattle.c_typed.specs.declared.expression.Variable.{Variable}
use Rattle.c_typed.specs.declared.expression.Variable.TheVariants as variables
use Rattle.c_typed.specs.declared.expression.Array.TheVariants as arrays
use Rattle.c_typed.specs.declared.expression.Place.{Place, roll-Place, map-Place}
use Rattle.c_typed.specs.declared.expression.Place.TheOpen.{TypedExpr-F, Place-F}
use Rattle.c_typed.specs.declared.expression.Place.TheFolds.{fold-roll-Place, fold-roll-TypedExpr}
use Rattle.c_typed.specs.declared.expression.TypedExpr.{TypedExpr, roll-TypedExpr, map-TypedExpr}
use Rattle.c_typed.specs.Trees as tree
use Rattle.c_typed.specs.Types.{result_type, type_of}
use Rattle.c_typed.specs.Views.{arguments_from, place_layer, expr_layer, place_of, expr_of}
use Rattle.c_types.specs.declared.binding.Binding.{Binding}
use Rattle.c_types.specs.declared.binding.Binding.TheVariants as bindings
use Rattle.c_types.specs.declared.binding.Extent.TheVariants as extents
use Rattle.c_types.specs.declared.binding.Library.TheVariants as library
use Rattle.c_types.specs.declared.constant.Constant.{Constant}
use Rattle.c_types.specs.declared.constant.Evaluated.{Evaluated}
use Rattle.c_types.specs.declared.constant.Evaluated.TheVariants as evaluated
use Rattle.c_types.specs.declared.conversion.Typed.{Typed}
use Rattle.c_types.specs.declared.conversion.Valued.{Valued}
use Rattle.c_types.specs.declared.conversion.Target.{Target}
use Rattle.c_types.specs.declared.conversion.Operator.{Operator}
use Rattle.c_types.specs.declared.conversion.Operator.TheVariants.{Skipping, Working}
use Rattle.c_types.specs.declared.fault.TypeKind.TheVariants as kinds
use Rattle.c_types.specs.declared.nodes.Arms.{Arms}
use Rattle.c_types.specs.declared.specifiers.Part.{Part}
use Rattle.c_types.specs.declared.specifiers.Part.TheVariants.{One, Tagged, Listed}
use Rattle.c_types.specs.declared.specifiers.Site.{Site}
use Rattle.c_types.specs.declared.specifiers.Site.TheVariants as sites
use Rattle.c_types.specs.declared.specifiers.Specified.{Specified}
use Rattle.c_types.specs.declared.uses.Called.{Called}
use Rattle.c_types.specs.declared.uses.Subscripted.{Subscripted}
use Rattle.c_types.specs.Constants.{word_of_value, constant_name, constant_element}
use Rattle.c_types.specs.Conversions.{converted, sorted, left_type, right_type, unary_type, operand_type, common, arms_type, arm}
use Rattle.c_types.specs.Enumerations.{value_in, enumerator, is_library, fits_int}
use Rattle.c_types.specs.ExpressionRules as rules
use Rattle.c_types.specs.ExpressionRules.{Typing}
use Rattle.c_types.specs.Names.{bound_here}
use Rattle.c_types.specs.Rules.{Here, Rule}
use Rattle.c_types.specs.Specifiers.{meaning}
use Rattle.c_types.specs.Uses.{read, variable, element, use_name, written, target_name, subscripted, use_function, function_entity, function_symbol}
use Rattle.lower_laws.specs.Bound.{HasValue}
use Rattle.program_laws.specs.Growing.{entity_in, entity_at}
use Rattle.program_laws.proofs.Tables.{marked, marked_grows}
use Rattle.typed_laws.specs.WellTyped.{Scope, IsVariable, IsArray, IsExpr, IsPlace, AreArguments, HasType, IsArm}
use Rattle.typed_laws.proofs.Conversions.{common_promoted, unary_is, sides}
use Rattle.typed_laws.proofs.Judging.{Any, Holds, DoesIf, Does, AllDo, step_beside, and_if, and, gives, breaks, knows, if_tests, in_order_does, finds}
use Rattle.typed_laws.proofs.Judging.{binds, uses_pid, uses_tag, declares_tag}
use Rattle.typed_laws.proofs.Names.{Final, scope, IsNamed, stays_same}

-- ## What rules give

abbrev pub IsTyped : Scope → Typed → Type 0
IsTyped s t = IsExpr s (expr_of t.expr) × (type_of (expr_of t.expr) ≡ t.ty)

abbrev pub IsValued : Scope → Valued → Type 0
IsValued s v = IsExpr s (expr_of v.expr) × HasType (expr_of v.expr) v.ty

abbrev pub IsTarget : Scope → Bool → Target → Type 0
IsTarget s writes t = IsPlace s writes t.ty (place_of t.place)

module _ (s : Scope) where
  -- ## Nodes

  abbrev layer : TypedExpr-F Place TypedExpr → tree.Expr
  layer x = expr_layer (map-TypedExpr Place TypedExpr tree.Place tree.Expr place_of expr_of x)

  node_typed : (x : TypedExpr-F Place TypedExpr) (ty : Option Ty) → IsExpr s (layer x) × (type_of (layer x) ≡ ty)
      → (IsTyped s) (rules.node ty (roll-TypedExpr x))
  node_typed x ty ok =
      let made : expr_of (roll-TypedExpr x) ≡ layer x = fold-roll-TypedExpr tree.Place tree.Expr place_layer expr_layer x in
      (subst (IsExpr s) (sym made) ok.0, ap type_of made ∙ ok.1)

  abbrev spot : Place-F Place TypedExpr → tree.Place
  spot x = place_layer (map-Place Place TypedExpr tree.Place tree.Expr place_of expr_of x)

  place_typed : (writes : Bool) (ty : Ty) (x : Place-F Place TypedExpr) → IsPlace s writes ty (spot x) → IsPlace s writes ty (place_of (roll-Place x))
  place_typed writes ty x ok = subst (IsPlace s writes ty) (sym (fold-roll-Place tree.Place tree.Expr place_layer expr_layer x)) ok

  pub has_value : (e : tree.Expr) (ty : Ty) → HasType e ty → HasValue e
  has_value e ty h = subst (λ t. IsTrue (is_some t)) (sym h) refl

  convert_if : (to : Ty) (v : Valued) (b : Bool) → same_type v.ty to ≡ b → (IsValued s) v
      → (IsValued s) (record { ty = to; expr = if b then v.expr else roll-TypedExpr (TypedExpr-F.Convert to v.expr) })
  convert_if to v true same ok = (ok.0, ok.1 ∙ ap Some (same_type_is v.ty to same))
  convert_if to v false other ok =
      node_typed (TypedExpr-F.Convert to v.expr) (Some to)
      ((ok.0, has_value (expr_of v.expr) v.ty ok.1, λ e. true≢false (sym (itself (some_same (sym ok.1 ∙ e))) ∙ other)), refl)
    where
      some_same : {t u : Ty} → Some t ≡ Some u → t ≡ u
      some_same e = cc

      itself : v.ty ≡ to → same_type v.ty to ≡ true
      itself e = subst (λ u. same_type v.ty u ≡ true) e (same_type_itself v.ty)

  pub converted_is : (to : Ty) (v : Valued) → (IsValued s) v → (IsValued s) (record { ty = to; expr = converted to v })
  converted_is to v ok = convert_if to v (same_type v.ty to) refl ok

  read_typed : (ty : Ty) (p : Place) → IsPlace s false ty (place_of p) → (IsTyped s) (read ty p)
  read_typed ty p ok = node_typed (TypedExpr-F.Read ty p) (Some ty) (ok, refl)

module _ (f : Final) where
  pub record IsDone (e : Typing) : Type 0 where
    pub typed : Does f (IsTyped (scope f)) e.typed
    pub target : (line : ℕ) → Does f (IsTarget (scope f) true) (e.target line)
    pub constant : Does f Any e.constant

  abbrev pub AllDone : List Typing → Type 0
  AllDone [] = ⊤
  AllDone (e ∷ es) = IsDone e × AllDone es

  -- ## Values

  valued_of_does : {G : Type 0} (line : ℕ) (ty : Option Ty) (e : TypedExpr) → (G → IsTyped (scope f) (rules.node ty e))
      → DoesIf f G (IsValued (scope f)) (rules.valued_of line (rules.node ty e))
  valued_of_does line None e ok = breaks f line kinds.VoidValue
  valued_of_does line (Some ty) e ok = gives f (record { ty = ty; expr = e }) ok

  pub valued_does : (e : Typing) → IsDone e → Does f (IsValued (scope f)) (rules.valued e)
  valued_does e ok = and f ok.typed (λ t. valued_of_does e.line t.ty t.expr (λ g. g.1))

  constant_valued_of_does : {G : Type 0} (line : ℕ) (ty : Option Ty) (v : Evaluated)
      → DoesIf f G Any (rules.constant_valued_of line (record { ty = ty; value = v }))
  constant_valued_of_does line None v = breaks f line kinds.VoidValue
  constant_valued_of_does line (Some ty) v = gives f (record { ty = ty; value = v }) (λ g. tt)

  pub constant_valued_does : (e : Typing) → IsDone e → Does f Any (rules.constant_valued e)
  constant_valued_does e ok = and f ok.constant (λ c. constant_valued_of_does e.line c.ty c.value)

  pub word_does : {G : Type 0} (v : Evaluated) → DoesIf f G Any (word_of_value v)
  word_does (evaluated.Word w) = gives f w (λ g. tt)
  word_does (evaluated.Traps line) = breaks f line kinds.ConstTrap

  no_target_does : (typed : Rule Typed) (line : ℕ) → Does f (IsTyped (scope f)) typed → Does f (IsTarget (scope f) true) (rules.no_target typed line)
  no_target_does typed line ok = and f ok (λ t. breaks f line kinds.NotLvalue)

  not_constant_does : {G : Type 0} (part : Rule Constant) (line : ℕ) → Does f Any part → DoesIf f G Any (rules.not_constant part line)
  not_constant_does part line ok = and f ok (λ c. breaks f line kinds.NotConstant)

  -- ## Names

  variable_typed : (ty : Ty) (x : Variable) → IsVariable (scope f) false ty x → IsTyped (scope f) (read ty (variable x))
  variable_typed ty x ok = read_typed (scope f) ty (variable x) (place_typed (scope f) false ty (Place-F.Variable x) ok)

  use_name_does : {G : Type 0} (line : ℕ) (b : Binding) → (G → IsNamed f b) → DoesIf f G (IsTyped (scope f)) (use_name line b)
  use_name_does line (bindings.Constant w) ok =
      gives f (rules.constant_node Int w) (λ g. node_typed (scope f) (TypedExpr-F.Constant Int w) (Some Int) (tt, refl))
  use_name_does line (bindings.Library x) ok = breaks f line kinds.NotObject
  use_name_does line (bindings.Function pid internal) ok = breaks f line kinds.NotObject
  use_name_does line (bindings.Object pid internal ty fixed extents.Scalar) ok =
      and f (uses_pid f pid) (λ u. gives f (read ty (variable (variables.Object pid))) (λ g.
      let x = ok g.0 in variable_typed ty (variables.Object pid) (fixed, x.1 ∙ ap Some x.2, refl)))
  use_name_does line (bindings.Object pid internal ty fixed (extents.Array n)) ok = breaks f line kinds.NotObject
  use_name_does line (bindings.Local place ty fixed extents.Scalar) ok =
      gives f (read ty (variable (variables.Local place))) (λ g. let x = ok g in variable_typed ty (variables.Local place) (x.1, x.2))
  use_name_does line (bindings.Local place ty fixed (extents.Array n)) ok = breaks f line kinds.NotObject
  use_name_does line (bindings.Parameter place ty fixed) ok =
      gives f (read ty (variable (variables.Parameter place))) (λ g. variable_typed ty (variables.Parameter place) (ok g))

  written_does : {G : Type 0} (line : ℕ) (fixed : Bool) (ty : Ty) (x : Variable) → (not fixed ≡ true → G → IsVariable (scope f) true ty x)
      → DoesIf f G (IsTarget (scope f) true) (written line fixed ty x)
  written_does line fixed ty x ok =
      if_tests f (not fixed) line kinds.ConstWrite (λ o is.
      gives f (record { ty = ty; place = variable x }) (λ g. place_typed (scope f) true ty (Place-F.Variable x) (ok is g)))

  -- what isn't const may be written
  free : (fixed : Bool) → not fixed ≡ true → (true && fixed) ≡ false
  free true h = absurd (true≢false (sym h))
  free false h = refl

  target_name_does : {G : Type 0} (whole line : ℕ) (b : Binding) → (G → IsNamed f b) → DoesIf f G (IsTarget (scope f) true) (target_name whole line b)
  target_name_does whole line (bindings.Constant w) ok = breaks f whole kinds.NotLvalue
  target_name_does whole line (bindings.Library x) ok = breaks f whole kinds.NotLvalue
  target_name_does whole line (bindings.Function pid internal) ok = breaks f whole kinds.NotLvalue
  target_name_does whole line (bindings.Object pid internal ty fixed extents.Scalar) ok =
      and_if f
      (written_does line fixed ty (variables.Object pid) (λ is g. let x = ok g in (fixed, x.1 ∙ ap Some x.2, free fixed is))) (λ t.
      and f (uses_pid f pid) (λ u. gives f t (λ g. g.0.1)))
  target_name_does whole line (bindings.Object pid internal ty fixed (extents.Array n)) ok = breaks f whole kinds.NotLvalue
  target_name_does whole line (bindings.Local place ty fixed extents.Scalar) ok =
      written_does line fixed ty (variables.Local place) (λ is g. let x = ok g in (x.1, x.2))
  target_name_does whole line (bindings.Local place ty fixed (extents.Array n)) ok = breaks f whole kinds.NotLvalue
  target_name_does whole line (bindings.Parameter place ty fixed) ok = written_does line fixed ty (variables.Parameter place) (λ is g. ok g)

  abbrev IsSubscripted : Bool → Subscripted → Type 0
  IsSubscripted writes x = IsArray (scope f) writes x.ty x.array

  allowed : (writes fixed : Bool) → not (if writes then fixed else false) ≡ true → (writes && fixed) ≡ false
  allowed true fixed h = free fixed h
  allowed false fixed h = refl

  subscripted_does : {G : Type 0} (writes : Bool) (line : ℕ) (b : Binding) → (G → IsNamed f b)
      → DoesIf f G (IsSubscripted writes) (subscripted writes line b)
  subscripted_does writes line (bindings.Constant w) ok = breaks f line kinds.NotObject
  subscripted_does writes line (bindings.Library x) ok = breaks f line kinds.NotObject
  subscripted_does writes line (bindings.Function pid internal) ok = breaks f line kinds.NotObject
  subscripted_does writes line (bindings.Object pid internal ty fixed extents.Scalar) ok = breaks f line kinds.NotObject
  subscripted_does writes line (bindings.Object pid internal ty fixed (extents.Array n)) ok =
      if_tests f (not (if writes then fixed else false)) line kinds.ConstWrite (λ o is.
      and f (uses_pid f pid) (λ u. gives f (record { array = arrays.Object pid; ty = ty }) (λ g.
      let x = ok g.0 in (fixed, x.2.0, x.1 ∙ ap Some x.2.1, allowed writes fixed is))))
  subscripted_does writes line (bindings.Local place ty fixed extents.Scalar) ok = breaks f line kinds.NotObject
  subscripted_does writes line (bindings.Local place ty fixed (extents.Array None)) ok =
      if_tests f (not (if writes then fixed else false)) line kinds.ConstWrite (λ o is.
      gives f (record { array = arrays.Local place; ty = ty }) (λ g. absurd (true≢false (sym (ok g).0))))
  subscripted_does writes line (bindings.Local place ty fixed (extents.Array (Some n))) ok =
      if_tests f (not (if writes then fixed else false)) line kinds.ConstWrite (λ o is.
      gives f (record { array = arrays.Local place; ty = ty }) (λ g. let x = ok g in (n, x.1, x.2)))
  subscripted_does writes line (bindings.Parameter place ty fixed) ok = breaks f line kinds.NotObject

  -- a function of the program
  abbrev IsCalled : Called → Type 0
  IsCalled x = entity_at f.table x.pid ≡ Some (entities.Function x.result x.params)

  use_function_does : (line pid : ℕ) → Does f IsCalled (use_function line pid)
  use_function_does line pid = record { by = λ h. by_symbol h (symbol_at h.syms pid) refl }
    where
      by_entity : (h : Here) (e : Entity) → entity_at h.syms pid ≡ Some e → Holds f ⊤ h IsCalled (function_entity line pid e h)
      by_entity h (entities.Function result params) is =
          let there = step_beside f h (record h { syms = mark h.syms pid }) refl refl (marked_grows h.syms (mark h.syms pid) (marked h.syms pid)) refl refl in (
            there,
            λ before given sound.
                let now = (there.before before).1.entities pid (entities.Function result params) is in
                (stays_same f h (record h { syms = mark h.syms pid }) refl sound, now.1 ∙ ap Some now.2),
          )
      by_entity h (entities.Scalar ty fixed) is = tt
      by_entity h (entities.Array ty fixed len) is = tt

      by_symbol : (h : Here) (x : Option Symbol) → symbol_at h.syms pid ≡ x → Holds f ⊤ h IsCalled (function_symbol line pid x h)
      by_symbol h None is = tt
      by_symbol h (Some x) is = by_entity h x.entity (ap entity_in is)

  element_does : (writes : Bool) (a : Identifier) (i : Typing) → IsDone i → Does f (IsTarget (scope f) writes) (rules.element_of writes a i)
  element_does writes a i ok =
      and f (finds f a) (λ b.
      and_if f (subscripted_does writes a.line b (λ g. g.1)) (λ x.
      and f (valued_does i ok) (λ v.
      gives f (record { ty = x.ty; place = element x.array v.expr }) (λ g.
      place_typed (scope f) writes x.ty (Place-F.Element x.array v.expr)
      (g.0.1, g.1.0, has_value (scope f) (expr_of v.expr) v.ty g.1.1)))))

  -- ## Calls

  abbrev AreGiven : List Ty → List TypedExpr → Type 0
  AreGiven ps vs = AreArguments (scope f) ps (arguments_from (map expr_of vs))

  arguments_do : (ps : List Ty) (es : List Typing) → AllDone es → length es ≡ length ps → Does f (AreGiven ps) (rules.arguments ps es)
  arguments_do [] [] ok count = gives f [] (λ g. tt)
  arguments_do [] (e ∷ es) ok count = absurd (omega (arith, count))
  arguments_do (p ∷ ps) [] ok count = absurd (omega (arith, count))
  arguments_do (p ∷ ps) (e ∷ es) ok count =
      and f (valued_does e ok.0) (λ v. and f (arguments_do ps es ok.1 (omega (arith, count))) (λ vs.
      gives f (converted p v ∷ vs) (λ g. let x = converted_is (scope f) p v g.0.1 in (x.0, x.1, g.1))))

  only_argument_does : (line : ℕ) (es : List Typing) → AllDone es → Does f (IsValued (scope f)) (rules.only_argument line es)
  only_argument_does line [] ok = breaks f line kinds.Arguments
  only_argument_does line (e ∷ []) ok = valued_does e ok.0
  only_argument_does line (e ∷ d ∷ es) ok = breaks f line kinds.Arguments

  no_argument_does : {G : Type 0} (line : ℕ) (es : List Typing) → DoesIf f G (IsTyped (scope f)) (rules.no_argument rules.get_char_node line es)
  no_argument_does line [] = gives f rules.get_char_node (λ g. node_typed (scope f) TypedExpr-F.GetChar (Some Int) (tt, refl))
  no_argument_does line (e ∷ es) = breaks f line kinds.Arguments

  call_program_does : {G : Type 0} (line : ℕ) (x : Called) (es : List Typing) → AllDone es → (G → IsCalled x)
      → DoesIf f G (IsTyped (scope f)) (rules.call_program line x es)
  call_program_does line x es ok called =
      if_tests f (length es == length x.params) line kinds.Arguments (λ o is.
      and f (arguments_do x.params es ok (eqb-true (length es) (length x.params) is)) (λ vs.
      gives f (rules.call_node x vs) (λ g.
      node_typed (scope f) (TypedExpr-F.Call x.result x.pid vs) x.result ((x.params, called g.0, g.1), refl))))

  call_does : {G : Type 0} (line : ℕ) (b : Binding) (es : List Typing) → AllDone es → DoesIf f G (IsTyped (scope f)) (rules.call line b es)
  call_does line (bindings.Constant w) es ok = breaks f line kinds.NotFunction
  call_does line (bindings.Library library.GetChar) es ok = no_argument_does line es
  call_does line (bindings.Library library.PutChar) es ok =
      and f (only_argument_does line es ok) (λ v. gives f (rules.put_char_node v) (λ g.
      node_typed (scope f) (TypedExpr-F.PutChar (converted Int v)) (Some Int) (converted_is (scope f) Int v g.1, refl)))
  call_does line (bindings.Library library.Exit) es ok =
      and f (only_argument_does line es ok) (λ v. gives f (rules.exit_node v) (λ g.
      node_typed (scope f) (TypedExpr-F.Exit (converted Int v)) None (converted_is (scope f) Int v g.1, refl)))
  call_does line (bindings.Function pid internal) es ok =
      and f (use_function_does line pid) (λ x. call_program_does line x es ok (λ g. g.1))
  call_does line (bindings.Object pid internal ty fixed extent) es ok = breaks f line kinds.NotFunction
  call_does line (bindings.Local place ty fixed extent) es ok = breaks f line kinds.NotFunction
  call_does line (bindings.Parameter place ty fixed) es ok = breaks f line kinds.NotFunction

  -- ## Operators

  unary_typed : (u : UnaryOp) (v : Valued) → IsValued (scope f) v → IsTyped (scope f) (rules.unary_node u v)
  unary_typed u v good =
      let ty = unary_type u v.ty in
      let to = operand_type u v.ty in
      let x = converted_is (scope f) to v good in
      node_typed (scope f) (TypedExpr-F.Unary ty u (converted to v)) (Some ty) ((x.0, to, x.1, unary_is u v.ty), refl)

  working_typed : (q : BinaryOp) (x y : Valued) → IsValued (scope f) x → IsValued (scope f) y → IsTyped (scope f) (rules.working_node q x y)
  working_typed q x y gx gy =
      let l = left_type q x.ty y.ty in
      let r = right_type q x.ty y.ty in
      let a = converted_is (scope f) l x gx in
      let b = converted_is (scope f) r y gy in
      let both = sides q x.ty y.ty in
      node_typed (scope f) (TypedExpr-F.Binary l q (converted l x) (converted r y)) (Some (result_type q l))
      ((a.0, a.1, both.left, b.0, r, b.1, both.right), refl)

  value_of : (v : Valued) → IsValued (scope f) v → HasValue (expr_of v.expr)
  value_of v ok = has_value (scope f) (expr_of v.expr) v.ty ok.1

  binary_typed : (q : Operator) (x y : Valued) → IsValued (scope f) x → IsValued (scope f) y → IsTyped (scope f) (rules.binary q x y)
  binary_typed (Skipping q) x y gx gy =
      node_typed (scope f) (TypedExpr-F.Logical q x.expr y.expr) (Some Int) ((gx.0, value_of x gx, gy.0, value_of y gy), refl)
  binary_typed (Working q) x y gx gy = working_typed q x y gx gy

  assigned_does : {G : Type 0} (line : ℕ) (q : Operator) (t : Target) (v : Valued) → (G → IsTarget (scope f) true t) → (G → IsValued (scope f) v)
      → DoesIf f G (IsTyped (scope f)) (rules.assigned line q t v)
  assigned_does line (Skipping q) t v is good = breaks f line kinds.NotLvalue
  assigned_does line (Working q) t v is good =
      gives f (rules.compound_node q t v) (λ g.
      let r = right_type q t.ty v.ty in
      let x = converted_is (scope f) r v (good g) in
      let both = sides q t.ty v.ty in
      node_typed (scope f) (TypedExpr-F.Compound t.ty q (left_type q t.ty v.ty) t.place (converted r v)) (Some t.ty)
      ((is g, both.working, x.0, r, x.1, both.right), refl))

  assignment_does : {G : Type 0} (line : ℕ) (q : Option Written) (t : Target) (v : Valued) → (G → IsTarget (scope f) true t) → (G → IsValued (scope f) v)
      → DoesIf f G (IsTyped (scope f)) (rules.assignment line q t v)
  assignment_does line None t v is good =
      gives f (rules.assign_node t v) (λ g.
      let x = converted_is (scope f) t.ty v (good g) in
      node_typed (scope f) (TypedExpr-F.Assign t.ty t.place (converted t.ty v)) (Some t.ty) ((is g, x.0, x.1), refl))
  assignment_does line (Some q) t v is good = assigned_does line (sorted q) t v is good

  cast_does : {G : Type 0} (to : Option Ty) (e : Typing) → IsDone e → DoesIf f G (IsTyped (scope f)) (rules.cast to e)
  cast_does None e ok =
      and f ok.typed (λ t. gives f (rules.discard_node t) (λ g. node_typed (scope f) (TypedExpr-F.Discard t.expr) None (g.1.0, refl)))
  cast_does (Some ty) e ok = and f (valued_does e ok) (λ v. gives f (rules.cast_node ty v) (λ g. converted_is (scope f) ty v g.1))

  constant_cast_does : {G : Type 0} (to : Option Ty) (e : Typing) → IsDone e → DoesIf f G Any (rules.constant_cast to e)
  constant_cast_does None e ok = and f ok.constant (λ c. gives f _ (λ g. tt))
  constant_cast_does (Some ty) e ok = and f (constant_valued_does e ok) (λ v. gives f _ (λ g. tt))

  -- ## The arms of `?:`

  abbrev Fit : Option Ty → Option Ty → Option Ty → Type 0
  Fit a b ty = (is_some ty ≡ is_some a) × (is_some ty ≡ is_some b) × IsArm ty

  arms_type_does : {G : Type 0} (la : ℕ) (a : Option Ty) (lb : ℕ) (b : Option Ty) → DoesIf f G (Fit a b) (arms_type la a lb b)
  arms_type_does la None lb None = gives f None (λ g. (refl, refl, tt))
  arms_type_does la None lb (Some b) = breaks f la kinds.VoidValue
  arms_type_does la (Some a) lb None = breaks f lb kinds.VoidValue
  arms_type_does la (Some a) lb (Some b) = gives f (Some (common a b)) (λ g. (refl, refl, common_promoted a b))

  arm_typed : (to from : Option Ty) (e : TypedExpr) → is_some to ≡ is_some from → IsTyped (scope f) (rules.node from e)
      → IsTyped (scope f) (rules.node to (arm to from e))
  arm_typed None None e fit good = good
  arm_typed None (Some from) e fit good = absurd cc
  arm_typed (Some to) None e fit good = absurd cc
  arm_typed (Some to) (Some from) e fit good = converted_is (scope f) to (record { ty = from; expr = e }) good

  abbrev AreArms : Arms → Type 0
  AreArms x = IsTyped (scope f) (rules.node x.ty x.yes) × IsTyped (scope f) (rules.node x.ty x.no) × IsArm x.ty

  both_do : (a b : Typing) → IsDone a → IsDone b → Does f AreArms (rules.both a b)
  both_do a b ka kb =
      and f ka.typed (λ x. and f kb.typed (λ y. and f (arms_type_does a.line x.ty b.line y.ty) (λ ty.
      gives f (rules.both_arms ty x y) (λ g.
      (arm_typed ty x.ty x.expr g.1.0 g.0.0.1, arm_typed ty y.ty y.expr g.1.1 g.0.1, g.1.2)))))

  conditional_does : (c a b : Typing) → IsDone c → IsDone a → IsDone b → Does f (IsTyped (scope f)) (rules.conditional c a b)
  conditional_does c a b kc ka kb =
      and f (valued_does c kc) (λ v. and f (both_do a b ka kb) (λ x.
      gives f (rules.conditional_node v.expr x) (λ g.
      node_typed (scope f) (TypedExpr-F.Conditional x.ty v.expr x.yes x.no) x.ty
      ((g.0.1.0, value_of v g.0.1, g.1.0.0, g.1.0.1, g.1.1.0, g.1.1.1, g.1.2), refl))))

  -- ## Layers

  abbrev pub Layer : Type 0
  Layer = Expr-F Typing (Rule Part) (ℤ → Rule ℤ) (Site → Rule Specified)

  abbrev pub AllSites : (Site → Rule Specified) → Type 0
  AllSites r = (site : Site) → Does f Any (r site)

  abbrev pub AllNumbers : (ℤ → Rule ℤ) → Type 0
  AllNumbers r = (next : ℤ) → Does f Any (r next)

  -- the parts of a form do what they are to do
  abbrev pub Parts : Layer → Type 0
  Parts (Expr-F.Name x) = ⊤
  Parts (Expr-F.Index a i) = IsDone i
  Parts (Expr-F.Call x es) = AllDone es
  Parts (Expr-F.Constant l v ty) = ⊤
  Parts (Expr-F.Paren l e) = IsDone e
  Parts (Expr-F.Postfix l d e) = IsDone e
  Parts (Expr-F.Prefix l d e) = IsDone e
  Parts (Expr-F.Unary l u e) = IsDone e
  Parts (Expr-F.Cast l r e) = AllSites r × IsDone e
  Parts (Expr-F.Binary l q a b) = IsDone a × IsDone b
  Parts (Expr-F.Conditional l c a b) = IsDone c × (IsDone a × IsDone b)
  Parts (Expr-F.Assign l q a b) = IsDone a × IsDone b
  Parts (Expr-F.Comma l a b) = IsDone a × IsDone b

  typed_does : (x : Layer) → Parts x → Does f (IsTyped (scope f)) (rules.typed_layer x)
  typed_does (Expr-F.Name x) ok = and f (finds f x) (λ b. use_name_does x.line b (λ g. g.1))
  typed_does (Expr-F.Index a i) ok =
      and f (element_does false a i ok) (λ t. gives f (read t.ty t.place) (λ g. read_typed (scope f) t.ty t.place g.1))
  typed_does (Expr-F.Call x es) ok = and f (finds f x) (λ b. call_does x.line b es ok)
  typed_does (Expr-F.Constant l v ty) ok =
      gives f (rules.constant_node ty v) (λ g. node_typed (scope f) (TypedExpr-F.Constant ty v) (Some ty) (tt, refl))
  typed_does (Expr-F.Paren l e) ok = ok.typed
  typed_does (Expr-F.Postfix l d e) ok =
      and f (ok.target e.line) (λ t. gives f (rules.postfix_node d t) (λ g.
      node_typed (scope f) (TypedExpr-F.Postfix t.ty d t.place) (Some t.ty) (g.1, refl)))
  typed_does (Expr-F.Prefix l d e) ok =
      and f (ok.target e.line) (λ t. gives f (rules.prefix_node d t) (λ g.
      node_typed (scope f) (TypedExpr-F.Prefix t.ty d t.place) (Some t.ty) (g.1, refl)))
  typed_does (Expr-F.Unary l u e) ok = and f (valued_does e ok) (λ v. gives f (rules.unary_node u v) (λ g. unary_typed u v g.1))
  typed_does (Expr-F.Cast l r e) ok = and f (ok.0 sites.Cast) (λ to. cast_does to.ty e ok.1)
  typed_does (Expr-F.Binary l q a b) ok =
      and f (valued_does a ok.0) (λ x. and f (valued_does b ok.1) (λ y.
      gives f (rules.binary (sorted q) x y) (λ g. binary_typed (sorted q) x y g.0.1 g.1)))
  typed_does (Expr-F.Conditional l c a b) ok = conditional_does c a b ok.0 ok.1.0 ok.1.1
  typed_does (Expr-F.Assign l q a b) ok =
      and f (ok.0.target a.line) (λ t. and f (valued_does b ok.1) (λ v. assignment_does l q t v (λ g. g.0.1) (λ g. g.1)))
  typed_does (Expr-F.Comma l a b) ok =
      and f ok.0.typed (λ x. and f ok.1.typed (λ y. gives f (rules.comma_node x y) (λ g.
      node_typed (scope f) (TypedExpr-F.Comma y.ty x.expr y.expr) y.ty ((g.0.1.0, g.1.0, g.1.1), refl))))

  target_does : (x : Layer) → Parts x → (line : ℕ) → Does f (IsTarget (scope f) true) (rules.target_layer x line)
  target_does (Expr-F.Name x) ok line = and f (finds f x) (λ b. target_name_does line x.line b (λ g. g.1))
  target_does (Expr-F.Index a i) ok line = element_does true a i ok
  target_does (Expr-F.Call x es) ok line = no_target_does _ line (typed_does (Expr-F.Call x es) ok)
  target_does (Expr-F.Constant l v ty) ok line = no_target_does _ line (typed_does (Expr-F.Constant l v ty) ok)
  target_does (Expr-F.Paren l e) ok line = ok.target line
  target_does (Expr-F.Postfix l d e) ok line = no_target_does _ line (typed_does (Expr-F.Postfix l d e) ok)
  target_does (Expr-F.Prefix l d e) ok line = no_target_does _ line (typed_does (Expr-F.Prefix l d e) ok)
  target_does (Expr-F.Unary l u e) ok line = no_target_does _ line (typed_does (Expr-F.Unary l u e) ok)
  target_does (Expr-F.Cast l r e) ok line = no_target_does _ line (typed_does (Expr-F.Cast l r e) ok)
  target_does (Expr-F.Binary l q a b) ok line = no_target_does _ line (typed_does (Expr-F.Binary l q a b) ok)
  target_does (Expr-F.Conditional l c a b) ok line = no_target_does _ line (typed_does (Expr-F.Conditional l c a b) ok)
  target_does (Expr-F.Assign l q a b) ok line = no_target_does _ line (typed_does (Expr-F.Assign l q a b) ok)
  target_does (Expr-F.Comma l a b) ok line = no_target_does _ line (typed_does (Expr-F.Comma l a b) ok)

  -- ## Constants

  constant_name_does : {G : Type 0} (line : ℕ) (b : Binding) → DoesIf f G Any (constant_name line b)
  constant_name_does line (bindings.Constant w) = gives f _ (λ g. tt)
  constant_name_does line (bindings.Library x) = breaks f line kinds.NotConstant
  constant_name_does line (bindings.Function pid internal) = breaks f line kinds.NotConstant
  constant_name_does line (bindings.Object pid internal ty fixed extent) = breaks f line kinds.NotConstant
  constant_name_does line (bindings.Local place ty fixed extent) = breaks f line kinds.NotConstant
  constant_name_does line (bindings.Parameter place ty fixed) = breaks f line kinds.NotConstant

  constant_element_does : {G : Type 0} (line : ℕ) (b : Binding) → DoesIf f G Any (constant_element line b)
  constant_element_does line (bindings.Constant w) = breaks f line kinds.NotObject
  constant_element_does line (bindings.Library x) = breaks f line kinds.NotObject
  constant_element_does line (bindings.Function pid internal) = breaks f line kinds.NotObject
  constant_element_does line (bindings.Object pid internal ty fixed extents.Scalar) = breaks f line kinds.NotObject
  constant_element_does line (bindings.Object pid internal ty fixed (extents.Array n)) = breaks f line kinds.NotConstant
  constant_element_does line (bindings.Local place ty fixed extents.Scalar) = breaks f line kinds.NotObject
  constant_element_does line (bindings.Local place ty fixed (extents.Array n)) = breaks f line kinds.NotConstant
  constant_element_does line (bindings.Parameter place ty fixed) = breaks f line kinds.NotObject

  constant_does : (x : Layer) → Parts x → Does f Any (rules.constant_layer x)
  constant_does (Expr-F.Name x) ok = and f (finds f x) (λ b. constant_name_does x.line b)
  constant_does (Expr-F.Index a i) ok = and f (finds f a) (λ b. constant_element_does a.line b)
  constant_does (Expr-F.Call x es) ok = and f (finds f x) (λ b. breaks f x.line kinds.NotConstant)
  constant_does (Expr-F.Constant l v ty) ok = gives f _ (λ g. tt)
  constant_does (Expr-F.Paren l e) ok = ok.constant
  constant_does (Expr-F.Postfix l d e) ok = not_constant_does e.constant l ok.constant
  constant_does (Expr-F.Prefix l d e) ok = not_constant_does e.constant l ok.constant
  constant_does (Expr-F.Unary l u e) ok = and f (constant_valued_does e ok) (λ v. gives f (rules.constant_unary l u v) (λ g. tt))
  constant_does (Expr-F.Cast l r e) ok = and f (ok.0 sites.Cast) (λ to. constant_cast_does to.ty e ok.1)
  constant_does (Expr-F.Binary l q a b) ok =
      and f (constant_valued_does a ok.0) (λ x. and f (constant_valued_does b ok.1) (λ y.
      gives f (rules.constant_binary l (sorted q) x y) (λ g. tt)))
  constant_does (Expr-F.Conditional l c a b) ok =
      and f (constant_valued_does c ok.0) (λ x. and f ok.1.0.constant (λ y. and f ok.1.1.constant (λ z.
      and f (arms_type_does a.line y.ty b.line z.ty) (λ ty. gives f _ (λ g. tt)))))
  constant_does (Expr-F.Assign l q a b) ok = not_constant_does a.constant l ok.0.constant
  constant_does (Expr-F.Comma l a b) ok = and f ok.0.constant (λ x. not_constant_does b.constant l ok.1.constant)

  pub expression_does : (x : Layer) → Parts x → IsDone (rules.expression x)
  expression_does x ok = record { typed = typed_does x ok; target = target_does x ok; constant = constant_does x ok }

  -- ## Specifiers

  enumerator_does : {G : Type 0} (x : Identifier) (v : ℤ) → DoesIf f G Any (enumerator x v)
  enumerator_does x v =
      and f (knows f (λ (h : Here). h.names.depth == 0)) (λ at_file.
      if_tests f (not (at_file && is_library x.name)) x.line kinds.Library (λ o a1.
      and f (knows f (bound_here x.name)) (λ old.
      if_tests f (is_none old) x.line kinds.Redeclared (λ o a2.
      if_tests f (fits_int v) x.line kinds.EnumRange (λ o a3.
      and_if f (binds f x.name (bindings.Constant (record { 0 = word_of v })) (λ g. tt)) (λ u. gives f (v +ℤ pos 1) (λ g. tt)))))))

  abbrev pub IsValueDone : Option Typing → Type 0
  IsValueDone None = ⊤
  IsValueDone (Some e) = IsDone e

  given_value_does : (e : Option Typing) (next : ℤ) → IsValueDone e → Does f Any (rules.given_value e next)
  given_value_does None next ok = gives f next (λ g. tt)
  given_value_does (Some e) next ok =
      and f (constant_valued_does e ok) (λ c. and f (word_does c.value) (λ w. gives f (value_in c.ty w) (λ g. tt)))

  pub enumeration_constant_does : (c : Enumerator-F Typing (Rule Part) (ℤ → Rule ℤ) (Site → Rule Specified)) → IsValueDone c.value
      → AllNumbers (rules.enumeration_constant c)
  enumeration_constant_does c ok next = and f (given_value_does c.value next ok) (λ v. enumerator_does c.name v)

  abbrev pub AllCounted : List (ℤ → Rule ℤ) → Type 0
  AllCounted [] = ⊤
  AllCounted (r ∷ rs) = AllNumbers r × AllCounted rs

  all_enumerators_do : {G : Type 0} (next : ℤ) (es : List (ℤ → Rule ℤ)) → AllCounted es → DoesIf f G Any (rules.all_enumerators next es)
  all_enumerators_do next [] ok = gives f Listed (λ g. tt)
  all_enumerators_do next (e ∷ es) ok = and f (ok.0 next) (λ after. all_enumerators_do after es ok.1)

  declare_optional_tag_does : (x : Option Identifier) → Does f Any (rules.declare_optional_tag x)
  declare_optional_tag_does None = gives f tt (λ g. tt)
  declare_optional_tag_does (Some x) = declares_tag f x

  abbrev pub SpecifierParts : Specifier-F Typing (Rule Part) (ℤ → Rule ℤ) (Site → Rule Specified) → Type 0
  SpecifierParts (Specifier-F.Word l w) = ⊤
  SpecifierParts (Specifier-F.EnumTag l x) = ⊤
  SpecifierParts (Specifier-F.Enum l x es) = AllCounted es

  pub specifier_does : (x : Specifier-F Typing (Rule Part) (ℤ → Rule ℤ) (Site → Rule Specified)) → SpecifierParts x → Does f Any (rules.specifier x)
  specifier_does (Specifier-F.Word l w) ok = gives f (One w) (λ g. tt)
  specifier_does (Specifier-F.EnumTag l x) ok = and f (uses_tag f x) (λ u. gives f Tagged (λ g. tt))
  specifier_does (Specifier-F.Enum l x es) ok = and f (declare_optional_tag_does x) (λ u. all_enumerators_do (pos 0) es ok)

  specified_or_does : {G : Type 0} (line : ℕ) (x : Option Specified) → DoesIf f G Any (rules.specified_or line x)
  specified_or_does line None = breaks f line kinds.Specifiers
  specified_or_does line (Some x) = gives f x (λ g. tt)

  pub specifiers_do : (x : Specifiers-F Typing (Rule Part) (ℤ → Rule ℤ) (Site → Rule Specified)) → AllDo f Any x.items → AllSites (rules.specifiers x)
  specifiers_do x ok site = and f (in_order_does f Any x.items ok) (λ parts. specified_or_does x.line (meaning site parts))
