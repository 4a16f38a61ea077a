-- Each rule of statements makes well-typed trees: one term for each form.
use Rattle.std.proofs.Common.{◌≡◌, ℕ, List, [], ◌∷◌, ◌++◌, map, Option, Some, None, length, refl, sym, ap, ap₂, ◌∙◌, subst, slice_get}
use Rattle.std.specs.Prelude.{not, is_none, ⊤}
use Rattle.hlo_num.specs.declared.word.Ty.{Ty}
use Rattle.hlo_num.specs.Words.{convert, promote}
use Rattle.sym_tables.specs.Table.{Table}
use Rattle.c_tree.specs.declared.expression.Expr.{Expr}
use Rattle.c_tree.specs.declared.declaration.Declaration.{Declaration}
use Rattle.c_tree.specs.declared.declaration.Declarator.{Declarator}
use Rattle.c_tree.specs.declared.declaration.Shape.{Shape}
use Rattle.c_tree.specs.declared.declaration.Shape.TheVariants as shapes
use Rattle.c_tree.specs.declared.declaration.Initialiser.{Initialiser}
use Rattle.c_tree.specs.declared.declaration.Initialiser.TheVariants as initialisers
use Rattle.c_tree.specs.declared.statement.Stmt.TheOpen.{Stmt-F, Block-F}
use Rattle.c_tree.specs.declared.statement.Stmt.TheFolds.{ind-Block, fold-roll-Stmt, fold-roll-Block}
use Rattle.c_tree.specs.declared.statement.Stmt.{Stmt, roll-Stmt, map-Stmt}
use Rattle.c_tree.specs.declared.statement.Block.{Block, roll-Block, map-Block}
use Rattle.c_typed.specs.declared.expression.TypedExpr.{TypedExpr}
use Rattle.c_typed.specs.declared.function.Local.{Local}
use Rattle.c_typed.specs.declared.statement.Label.{Label}
use Rattle.c_typed.specs.declared.statement.Label.TheVariants as labels
use Rattle.c_typed.specs.declared.statement.Section.{Section}
use Rattle.c_typed.specs.declared.statement.TypedStmt.{TypedStmt, roll-TypedStmt, map-TypedStmt}
use Rattle.c_typed.specs.declared.statement.TypedStmt.TheOpen.{TypedStmt-F}
use Rattle.c_typed.specs.declared.statement.TypedStmt.TheFolds.{fold-roll-TypedStmt, fold-roll-Section}
use Rattle.c_typed.specs.Trees as tree
use Rattle.c_typed.specs.Views.{optional_of, expr_of, sequence_from, sections_from, section_layer, stmt_layer, stmt_of, section_of}
use Rattle.c_types.specs.declared.binding.Binding.TheVariants as bindings
use Rattle.c_types.specs.declared.binding.Extent.{Extent}
use Rattle.c_types.specs.declared.binding.Extent.TheVariants as extents
use Rattle.c_types.specs.declared.conversion.Valued.{Valued}
use Rattle.c_types.specs.declared.fault.TypeKind.TheVariants as kinds
use Rattle.c_types.specs.declared.specifiers.Site.TheVariants as sites
use Rattle.c_types.specs.declared.specifiers.Specified.{Specified}
use Rattle.c_types.specs.declared.statements.Around.{Around}
use Rattle.c_types.specs.declared.statements.ForHead.{ForHead}
use Rattle.c_types.specs.Conversions.{converted}
use Rattle.c_types.specs.ExpressionRules.{typing, valued}
use Rattle.c_types.specs.Names.{bound_here}
use Rattle.c_types.specs.Rules.{◌>>=◌, give}
use Rattle.c_types.specs.StatementRules as rules
use Rattle.c_types.specs.StatementRules.{Ruled, Blocked, Labelled}
use Rattle.lower_laws.specs.Bound.{HasValue}
use Rattle.list_laws.proofs.Elements.{onto}
use Rattle.type_laws.proofs.Going.{slice_next}
use Rattle.typed_laws.specs.WellTyped as well
use Rattle.typed_laws.specs.WellTyped.{Scope, HasType, IsExpr, IsOptional, IsOptionalValue, IsStmt, AreSections, AreApart, labels_of}
use Rattle.typed_laws.proofs.Conversions.{promoted}
use Rattle.typed_laws.proofs.Expressions.{IsValued, has_value, converted_is, valued_does, constant_valued_does, word_does}
use Rattle.typed_laws.proofs.Judging.{Any, Does, DoesIf, and, and_if, plain, gives, breaks, knows, if_tests, binds, scoped_does}
use Rattle.typed_laws.proofs.Laying.{Lays, quiet, quiet_and, lays_and, lays_map, scoped_lays, labelling_does, new_case_lays, new_default_lays}
use Rattle.typed_laws.proofs.Names.{Final, scope, HasLength, stays_same}
use Rattle.typed_laws.proofs.Typings.{typing_does, specifying_does}

module _ (f : Final) where
  -- ## Rules that declare no local

  pub value_does : (e : Expr) → Does f (IsValued (scope f)) (valued (typing e))
  value_does e = valued_does f (typing e) (typing_does f e)

  pub constant_word_does : (e : Expr) → Does f Any (rules.constant_word e)
  constant_word_does e = and f (constant_valued_does f (typing e) (typing_does f e)) (λ c. word_does f c.value)

  pub length_does : (line : ℕ) (e : Expr) → Does f Any (rules.length_of line e)
  length_does line e =
      and f (constant_word_does e) (λ n. if_tests f (rules.is_length n) line kinds.ArraySize (λ o is. gives f n (λ g. tt)))

  pub value_type_does : {G : Type 0} (line : ℕ) (ty : Option Ty) → DoesIf f G Any (rules.value_type line ty)
  value_type_does line None = breaks f line kinds.Specifiers
  value_type_does line (Some ty) = gives f ty (λ g. tt)

  local_extent_does : (line : ℕ) (x : Shape) → Does f HasLength (rules.local_extent line x)
  local_extent_does line shapes.Plain = gives f extents.Scalar (λ g. refl)
  local_extent_does line (shapes.Array None) = breaks f line kinds.ArraySize
  local_extent_does line (shapes.Array (Some e)) = and f (length_does line e) (λ n. gives f (extents.Array (Some n)) (λ g. refl))
  local_extent_does line (shapes.Function ps) = breaks f line kinds.Specifiers

  optional_typed_does : (e : Option Expr) → Does f (λ x. IsOptional (scope f) (optional_of x)) (rules.optional_typed e)
  optional_typed_does None = gives f None (λ g. tt)
  optional_typed_does (Some e) = and f (typing_does f e).typed (λ t. gives f (Some t.expr) (λ g. g.1.0))

  value_of : (v : Valued) → IsValued (scope f) v → HasValue (expr_of v.expr)
  value_of v ok = has_value (scope f) (expr_of v.expr) v.ty ok.1

  optional_valued_does : (e : Option Expr) → Does f (λ x. IsOptionalValue (scope f) (optional_of x)) (rules.optional_valued e)
  optional_valued_does None = gives f None (λ g. tt)
  optional_valued_does (Some e) = and f (value_does e) (λ v. gives f (Some v.expr) (λ g. (g.1.0, value_of v g.1)))

  abbrev IsHead : ForHead → Type 0
  IsHead x = IsOptional (scope f) (optional_of x.first) × IsOptionalValue (scope f) (optional_of x.condition) × IsOptional (scope f) (optional_of x.step)

  for_head_does : (a c b : Option Expr) → Does f IsHead (rules.for_head a c b)
  for_head_does a c b =
      and f (optional_typed_does a) (λ x. and f (optional_valued_does c) (λ y. and f (optional_typed_does b) (λ z.
      gives f (record { first = x; condition = y; step = z }) (λ g. (g.0.0.1, g.0.1, g.1)))))

  -- an array has no initialiser, and a variable one of its type
  abbrev IsInitial : Ty → Extent → Option TypedExpr → Type 0
  IsInitial ty extent None = ⊤
  IsInitial ty extents.Scalar (Some e) = IsExpr (scope f) (expr_of e) × HasType (expr_of e) ty
  IsInitial ty (extents.Array n) (Some e) = ⊥

  local_value_does : (ty : Ty) (extent : Extent) (init : Option Initialiser) → Does f (IsInitial ty extent) (rules.local_value ty extent init)
  local_value_does ty extent None = gives f None (λ g. tt)
  local_value_does ty extents.Scalar (Some (initialisers.Value e)) =
      and f (value_does e) (λ v. gives f (Some (converted ty v)) (λ g. converted_is (scope f) ty v g.1))
  local_value_does ty extents.Scalar (Some (initialisers.List line es)) = breaks f _ _
  local_value_does ty (extents.Array n) (Some i) = breaks f _ _

module _ (params : List Ty) (final : List Local) (table : Table) where
  abbrev pub whole : Final
  whole = record { params = params; inner = Some final; table = table }

  abbrev at : Scope
  at = record { params = params; locals = final; syms = table }

  -- ## What statements give

  abbrev pub around : Around → well.Around
  around a = record { result = a.result; breaks = a.breaks; continues = a.continues }

  abbrev IsStatement : Around → TypedStmt → Type 0
  IsStatement a t = IsStmt at (around a) (stmt_of t)

  abbrev pub AreStatements : Around → List TypedStmt → Type 0
  AreStatements a ts = IsStmt at (around a) (sequence_from (map stmt_of ts))

  abbrev IsLabelled : Around → Labelled → List Label → Type 0
  IsLabelled a x ls = (x.labels ≡ ls) × IsStatement a x.stmt

  -- sections with these labels
  abbrev AreAll : Around → tree.Sections → List Label → Type 0
  AreAll a ss ls = (labels_of ss ≡ ls) × AreSections at (around a) ss

  abbrev AreSectionsOf : Around → List Section → List Label → Type 0
  AreSectionsOf a xs ls = AreAll a (sections_from (map section_of xs)) ls

  -- what stands in front of further sections
  abbrev IsSection : Around → Section → List Label → Type 0
  IsSection a x ls = (rest : tree.Sections) (more : List Label) → AreAll a rest more → AreAll a (section_of x rest) (ls ++ more)

  done : (a : Around) (x : TypedStmt-F TypedStmt Section)
      → IsStmt at (around a) (stmt_layer (map-TypedStmt TypedStmt Section tree.Stmt (tree.Sections → tree.Sections) stmt_of section_of x))
      → IsStatement a (roll-TypedStmt x)
  done a x ok = subst (λ t. IsStmt at (around a) t) (sym (fold-roll-TypedStmt tree.Stmt (tree.Sections → tree.Sections) stmt_layer section_layer x)) ok

  sequence_more : (a : Around) (ts us : List TypedStmt) → AreStatements a ts → AreStatements a us → AreStatements a (ts ++ us)
  sequence_more a [] us p q = q
  sequence_more a (t ∷ ts) us p q = (p.0, sequence_more a ts us p.1 q)

  section_good : (a : Around) (x : Labelled) (ls : List Label) → IsLabelled a x ls → IsSection a (rules.section x) ls
  section_good a x ls p =
      subst (λ (make : tree.Sections → tree.Sections). (rest : tree.Sections) (more : List Label) → AreAll a rest more → AreAll a (make rest) (ls ++ more))
      (sym (fold-roll-Section tree.Stmt (tree.Sections → tree.Sections) stmt_layer section_layer (record { labels = x.labels; body = x.stmt })))
      (λ rest more q. (ap₂ (λ k l. k ++ l) p.0 q.0, (p.1, q.1)))

  sections_more : (a : Around) (ts : List TypedStmt) (xs : List Section) (ls : List Label) → AreStatements a ts → AreSectionsOf a xs ls
      → AreSectionsOf a (map (λ t. rules.section (rules.unlabelled t)) ts ++ xs) ls
  sections_more a [] xs ls p q = q
  sections_more a (t ∷ ts) xs ls p q = section_good a (rules.unlabelled t) [] (refl, p.0) _ ls (sections_more a ts xs ls p.1 q)

  -- ## Declarators

  abbrev local_of : List ℕ → Ty → Extent → Local
  local_of name ty extent = record { ty = ty; length = rules.length_in extent; name = name }

  abbrev IsThere : Local → ℕ → Type 0
  IsThere local place = slice_get final place ≡ Some local

  new_local_does : (local : Local) → Does whole (IsThere local) (rules.new_local local)
  new_local_does local = record {
    by = λ h. (
      record {
        before = λ b. ((local ∷ b.0.0, b.0.1 ∙ onto h.locals local b.0.0), b.1);
        depth = refl;
        seen = λ l s. s;
      },
      λ before given sound. (
        stays_same whole h (record h { locals = h.locals ++ local ∷ [] }) refl sound,
        ap (λ l. slice_get l (length h.locals)) (before.0.1 ∙ onto h.locals local before.0.0) ∙ slice_next h.locals before.0.0 local,
      ),
    );
  }

  initial_done : (a : Around) (name : List ℕ) (ty : Ty) (extent : Extent) (value : Option TypedExpr) (place : ℕ)
      → IsInitial whole ty extent value → IsThere (local_of name ty extent) place → IsStatement a (roll-TypedStmt (TypedStmt-F.Declaration place value))
  initial_done a name ty extent None place good is = done a (TypedStmt-F.Declaration place None) (local_of name ty extent, is)
  initial_done a name ty extents.Scalar (Some e) place good is =
      done a (TypedStmt-F.Declaration place (Some e)) (good.0, ty, good.1, (name, is))
  initial_done a name ty (extents.Array n) (Some e) place good is = absurd good

  declarator_does : (a : Around) (s : Specified) (d : Declarator) → Does whole (IsStatement a) (rules.declarator s d)
  declarator_does a s d =
      if_tests whole (not (rules.is_function_shape d.shape)) d.name.line kinds.Specifiers (λ o a0.
      and whole (value_type_does whole d.name.line s.ty) (λ ty.
      and whole (local_extent_does whole d.name.line d.shape) (λ extent.
      and whole (knows whole (bound_here d.name.name)) (λ old.
      if_tests whole (is_none old) d.name.line kinds.Redeclared (λ o a1.
      and whole (new_local_does (local_of d.name.name ty extent)) (λ place.
      and_if whole (binds whole d.name.name (bindings.Local place ty s.fixed extent) (λ g. (g.0.0.1, d.name.name, g.1))) (λ u.
      and whole (local_value_does whole ty extent d.initialiser) (λ value.
      gives whole (roll-TypedStmt (TypedStmt-F.Declaration place value)) (λ g.
      initial_done a d.name.name ty extent value place g.1 g.0.0.1)))))))))

  declarators_do : (a : Around) (s : Specified) (ds : List Declarator) → Does whole (AreStatements a) (rules.declarators s ds)
  declarators_do a s [] = gives whole [] (λ g. tt)
  declarators_do a s (d ∷ ds) =
      and whole (declarator_does a s d) (λ x. and whole (declarators_do a s ds) (λ xs. gives whole (x ∷ xs) (λ g. (g.0.1, g.1))))

  declaration_does : (a : Around) (d : Declaration) → Does whole (AreStatements a) (rules.declaration d)
  declaration_does a d =
      and whole (specifying_does whole d.specifiers sites.Block) (λ s.
      if_tests whole (rules.declares s d.declarators) d.specifiers.line kinds.Specifiers (λ o is. plain whole (declarators_do a s d.declarators)))

  declarations_do : (a : Around) (ds : List Declaration) → Does whole (AreStatements a) (rules.declarations ds)
  declarations_do a [] = gives whole [] (λ g. tt)
  declarations_do a (d ∷ ds) =
      and whole (declaration_does a d) (λ ts. and whole (declarations_do a ds) (λ us. gives whole (ts ++ us) (λ g. sequence_more a ts us g.0.1 g.1)))

  -- ## Statements

  pub record RuledDoes (r : Ruled) : Type 0 where
    pub stmt : (a : Around) → Does whole (IsStatement a) (r.stmt a)
    pub body : (a : Around) (ty : Ty) → Lays whole (AreSectionsOf a) (r.body a ty)
    pub item : (a : Around) (ty : Ty) → Lays whole (IsLabelled a) (r.item a ty)
    pub section : (a : Around) (ty : Ty) → Lays whole (IsSection a) (r.section a ty)

  pub record BlockedDoes (b : Blocked) : Type 0 where
    pub statements : (a : Around) → Does whole (AreStatements a) (b.statements a)
    pub sections : (a : Around) (ty : Ty) → Lays whole (AreSectionsOf a) (b.sections a ty)

  abbrev pub AllRuled : List Ruled → Type 0
  AllRuled [] = ⊤
  AllRuled (r ∷ rs) = RuledDoes r × AllRuled rs

  statements_do : (a : Around) (rs : List Ruled) → AllRuled rs → Does whole (AreStatements a) (rules.statements a rs)
  statements_do a [] ok = gives whole [] (λ g. tt)
  statements_do a (r ∷ rs) ok =
      and whole (ok.0.stmt a) (λ x. and whole (statements_do a rs ok.1) (λ xs. gives whole (x ∷ xs) (λ g. (g.0.1, g.1))))

  sections_do : (a : Around) (ty : Ty) (rs : List Ruled) → AllRuled rs → Lays whole (AreSectionsOf a) (rules.sections a ty rs)
  sections_do a ty [] ok = quiet whole {P = λ xs. AreSectionsOf a xs []} (gives whole [] (λ g. (refl, tt))) (λ xs g p. p)
  sections_do a ty (r ∷ rs) ok =
      lays_and whole (ok.0.section a ty) (λ x ls. lays_map whole (λ xs. x ∷ xs) (sections_do a ty rs ok.1) (λ xs more g p.
      g.1 (sections_from (map section_of xs)) more p))

  pub block_does : (b : Block-F Ruled Blocked) → AllRuled b.statements → BlockedDoes (rules.block b)
  block_does b ok = record {
    statements = λ a.
        and whole (declarations_do a b.declarations) (λ ds. and whole (statements_do a b.statements ok) (λ ss.
        gives whole (ds ++ ss) (λ g. sequence_more a ds ss g.0.1 g.1)));
    sections = λ a ty.
        quiet_and whole (declarations_do a b.declarations) (λ ds.
        lays_map whole (λ ss. map (λ t. rules.section (rules.unlabelled t)) ds ++ ss) (sections_do a ty b.statements ok)
        (λ ss ls g p. sections_more a ds ss ls g.1 p));
  }

  abbrev pub StmtParts : Stmt-F Ruled Blocked → Type 0
  StmtParts (Stmt-F.Block b) = BlockedDoes b
  StmtParts (Stmt-F.Empty l) = ⊤
  StmtParts (Stmt-F.Expression e) = ⊤
  StmtParts (Stmt-F.If l c s) = RuledDoes s
  StmtParts (Stmt-F.IfElse l c s t) = RuledDoes s × RuledDoes t
  StmtParts (Stmt-F.Switch l e s) = RuledDoes s
  StmtParts (Stmt-F.While l c s) = RuledDoes s
  StmtParts (Stmt-F.Do l s c) = RuledDoes s
  StmtParts (Stmt-F.For l first c step s) = RuledDoes s
  StmtParts (Stmt-F.Case l e s) = RuledDoes s
  StmtParts (Stmt-F.Default l s) = RuledDoes s
  StmtParts (Stmt-F.Break l) = ⊤
  StmtParts (Stmt-F.Continue l) = ⊤
  StmtParts (Stmt-F.Return l e) = ⊤

  returned_does : (line : ℕ) (a : Around) (ty : Option Ty) (e : Expr) → a.result ≡ ty → Does whole (IsStatement a) (rules.returned line ty e)
  returned_does line a None e is = breaks whole line kinds.ReturnValue
  returned_does line a (Some ty) e is =
      and whole (value_does whole e) (λ v. gives whole (roll-TypedStmt (TypedStmt-F.Return (Some (converted ty v)))) (λ g.
      let x = converted_is at ty v g.1 in done a (TypedStmt-F.Return (Some (converted ty v))) (x.0, ty, x.1, is)))

  stmt_does : (x : Stmt-F Ruled Blocked) → StmtParts x → (a : Around) → Does whole (IsStatement a) (rules.stmt_layer x a)
  stmt_does (Stmt-F.Block b) ok a =
      and whole (scoped_does whole (ok.statements a)) (λ ss. gives whole (roll-TypedStmt (TypedStmt-F.Block ss)) (λ g. done a (TypedStmt-F.Block ss) g.1))
  stmt_does (Stmt-F.Empty l) ok a = gives whole (roll-TypedStmt TypedStmt-F.Empty) (λ g. done a TypedStmt-F.Empty tt)
  stmt_does (Stmt-F.Expression e) ok a =
      and whole (typing_does whole e).typed (λ t. gives whole (roll-TypedStmt (TypedStmt-F.Expression t.expr)) (λ g.
      done a (TypedStmt-F.Expression t.expr) g.1.0))
  stmt_does (Stmt-F.If l c s) ok a =
      and whole (value_does whole c) (λ v. and whole (ok.stmt a) (λ t. gives whole (roll-TypedStmt (TypedStmt-F.If v.expr t)) (λ g.
      done a (TypedStmt-F.If v.expr t) (g.0.1.0, value_of whole v g.0.1, g.1))))
  stmt_does (Stmt-F.IfElse l c s t) ok a =
      and whole (value_does whole c) (λ v. and whole (ok.0.stmt a) (λ x. and whole (ok.1.stmt a) (λ y.
      gives whole (roll-TypedStmt (TypedStmt-F.IfElse v.expr x y)) (λ g.
      done a (TypedStmt-F.IfElse v.expr x y) (g.0.0.1.0, value_of whole v g.0.0.1, g.0.1, g.1)))))
  stmt_does (Stmt-F.Switch l e s) ok a =
      and whole (value_does whole e) (λ v.
      and whole (labelling_does whole (ok.body (rules.in_switch a) (promote v.ty))) (λ xs.
      gives whole (roll-TypedStmt (TypedStmt-F.Switch (converted (promote v.ty) v) xs)) (λ g.
      let x = converted_is at (promote v.ty) v g.0.1 in
      done a (TypedStmt-F.Switch (converted (promote v.ty) v) xs)
      (x.0, promote v.ty, x.1, promoted v.ty, subst AreApart (sym g.1.2.0) g.1.1, g.1.2.1))))
  stmt_does (Stmt-F.While l c s) ok a =
      and whole (value_does whole c) (λ v. and whole (ok.stmt (rules.in_loop a)) (λ t. gives whole (roll-TypedStmt (TypedStmt-F.While v.expr t)) (λ g.
      done a (TypedStmt-F.While v.expr t) (g.0.1.0, value_of whole v g.0.1, g.1))))
  stmt_does (Stmt-F.Do l s c) ok a =
      and whole (ok.stmt (rules.in_loop a)) (λ t. and whole (value_does whole c) (λ v. gives whole (roll-TypedStmt (TypedStmt-F.Do t v.expr)) (λ g.
      done a (TypedStmt-F.Do t v.expr) (g.0.1, g.1.0, value_of whole v g.1))))
  stmt_does (Stmt-F.For l first c step s) ok a =
      and whole (for_head_does whole first c step) (λ h. and whole (ok.stmt (rules.in_loop a)) (λ t.
      gives whole (roll-TypedStmt (TypedStmt-F.For h.first h.condition h.step t)) (λ g.
      done a (TypedStmt-F.For h.first h.condition h.step t) (g.0.1.0, g.0.1.1, g.0.1.2, g.1))))
  stmt_does (Stmt-F.Case l e s) ok a = breaks whole l kinds.CaseOutside
  stmt_does (Stmt-F.Default l s) ok a = breaks whole l kinds.CaseOutside
  stmt_does (Stmt-F.Break l) ok a =
      if_tests whole a.breaks l kinds.BreakOutside (λ o is. gives whole (roll-TypedStmt TypedStmt-F.Break) (λ g. done a TypedStmt-F.Break is))
  stmt_does (Stmt-F.Continue l) ok a =
      if_tests whole a.continues l kinds.ContinueOutside (λ o is. gives whole (roll-TypedStmt TypedStmt-F.Continue) (λ g. done a TypedStmt-F.Continue is))
  stmt_does (Stmt-F.Return l None) ok a = gives whole (roll-TypedStmt (TypedStmt-F.Return None)) (λ g. done a (TypedStmt-F.Return None) tt)
  stmt_does (Stmt-F.Return l (Some e)) ok a = returned_does l a a.result e refl

  -- ## The body of a switch

  plain_body : (x : Stmt-F Ruled Blocked) → StmtParts x → (a : Around)
      → Lays whole (AreSectionsOf a) (rules.stmt_layer x a >>= λ t. give (rules.section (rules.unlabelled t) ∷ []))
  plain_body x ok a =
      quiet whole {P = λ xs. AreSectionsOf a xs []}
      (and whole (stmt_does x ok a) (λ t. gives whole (rules.section (rules.unlabelled t) ∷ []) (λ g.
      section_good a (rules.unlabelled t) [] (refl, g.1) tree.End [] (refl, tt))))
      (λ xs g p. p)

  body_does : (x : Stmt-F Ruled Blocked) → StmtParts x → (a : Around) (ty : Ty) → Lays whole (AreSectionsOf a) (rules.body_layer x a ty)
  body_does (Stmt-F.Block b) ok a ty = scoped_lays whole (ok.sections a ty)
  body_does (Stmt-F.Empty l) ok a ty = plain_body (Stmt-F.Empty l) ok a
  body_does (Stmt-F.Expression e) ok a ty = plain_body (Stmt-F.Expression e) ok a
  body_does (Stmt-F.If l c s) ok a ty = plain_body (Stmt-F.If l c s) ok a
  body_does (Stmt-F.IfElse l c s t) ok a ty = plain_body (Stmt-F.IfElse l c s t) ok a
  body_does (Stmt-F.Switch l e s) ok a ty = plain_body (Stmt-F.Switch l e s) ok a
  body_does (Stmt-F.While l c s) ok a ty = plain_body (Stmt-F.While l c s) ok a
  body_does (Stmt-F.Do l s c) ok a ty = plain_body (Stmt-F.Do l s c) ok a
  body_does (Stmt-F.For l first c step s) ok a ty = plain_body (Stmt-F.For l first c step s) ok a
  body_does (Stmt-F.Case l e s) ok a ty = plain_body (Stmt-F.Case l e s) ok a
  body_does (Stmt-F.Default l s) ok a ty = plain_body (Stmt-F.Default l s) ok a
  body_does (Stmt-F.Break l) ok a ty = plain_body (Stmt-F.Break l) ok a
  body_does (Stmt-F.Continue l) ok a ty = plain_body (Stmt-F.Continue l) ok a
  body_does (Stmt-F.Return l e) ok a ty = plain_body (Stmt-F.Return l e) ok a

  plain_item : (x : Stmt-F Ruled Blocked) → StmtParts x → (a : Around)
      → Lays whole (IsLabelled a) (rules.stmt_layer x a >>= λ t. give (rules.unlabelled t))
  plain_item x ok a =
      quiet whole {P = λ y. IsLabelled a y []} (and whole (stmt_does x ok a) (λ t. gives whole (rules.unlabelled t) (λ g. (refl, g.1)))) (λ y g p. p)

  -- a label in front of an item
  labelled : (a : Around) (l : Label) (ls more : List Label) (x : Labelled) → ls ≡ l ∷ [] → IsLabelled a x more
      → IsLabelled a (record { labels = l ∷ x.labels; stmt = x.stmt }) (ls ++ more)
  labelled a l ls more x one p = (ap (λ k. l ∷ k) p.0 ∙ ap (λ k. k ++ more) (sym one), p.1)

  item_does : (x : Stmt-F Ruled Blocked) → StmtParts x → (a : Around) (ty : Ty) → Lays whole (IsLabelled a) (rules.item_layer x a ty)
  item_does (Stmt-F.Block b) ok a ty = plain_item (Stmt-F.Block b) ok a
  item_does (Stmt-F.Empty l) ok a ty = plain_item (Stmt-F.Empty l) ok a
  item_does (Stmt-F.Expression e) ok a ty = plain_item (Stmt-F.Expression e) ok a
  item_does (Stmt-F.If l c s) ok a ty = plain_item (Stmt-F.If l c s) ok a
  item_does (Stmt-F.IfElse l c s t) ok a ty = plain_item (Stmt-F.IfElse l c s t) ok a
  item_does (Stmt-F.Switch l e s) ok a ty = plain_item (Stmt-F.Switch l e s) ok a
  item_does (Stmt-F.While l c s) ok a ty = plain_item (Stmt-F.While l c s) ok a
  item_does (Stmt-F.Do l s c) ok a ty = plain_item (Stmt-F.Do l s c) ok a
  item_does (Stmt-F.For l first c step s) ok a ty = plain_item (Stmt-F.For l first c step s) ok a
  item_does (Stmt-F.Case l e s) ok a ty =
      quiet_and whole (constant_word_does whole e) (λ w.
      lays_and whole (new_case_lays whole l (convert ty w)) (λ u ls.
      lays_map whole (λ (x : Labelled). record { labels = labels.Case (record { 0 = convert ty w }) ∷ x.labels; stmt = x.stmt }) (ok.item a ty)
      (λ x more g p. labelled a (labels.Case (record { 0 = convert ty w })) ls more x g.1 p)))
  item_does (Stmt-F.Default l s) ok a ty =
      lays_and whole (new_default_lays whole l) (λ u ls.
      lays_map whole (λ (x : Labelled). record { labels = labels.Default ∷ x.labels; stmt = x.stmt }) (ok.item a ty)
      (λ x more g p. labelled a labels.Default ls more x g.1 p))
  item_does (Stmt-F.Break l) ok a ty = plain_item (Stmt-F.Break l) ok a
  item_does (Stmt-F.Continue l) ok a ty = plain_item (Stmt-F.Continue l) ok a
  item_does (Stmt-F.Return l e) ok a ty = plain_item (Stmt-F.Return l e) ok a

  section_does : (x : Stmt-F Ruled Blocked) → StmtParts x → (a : Around) (ty : Ty) → Lays whole (IsSection a) (rules.section_layer x a ty)
  section_does x ok a ty = lays_map whole rules.section (item_does x ok a ty) (λ y ls g p. section_good a y ls p)

  pub statement_does : (x : Stmt-F Ruled Blocked) → StmtParts x → RuledDoes (rules.statement x)
  statement_does x ok = record { stmt = stmt_does x ok; body = body_does x ok; item = item_does x ok; section = section_does x ok }

  -- ## The trees

  abbrev GoodStmt : Stmt → Type 0
  GoodStmt s = RuledDoes (rules.ruling s)

  abbrev GoodBlock : Block → Type 0
  GoodBlock b = BlockedDoes (rules.blocking b)

  stmt_by : (x : Stmt-F Stmt Block) → StmtParts (map-Stmt Stmt Block Ruled Blocked rules.ruling rules.blocking x) → GoodStmt (roll-Stmt x)
  stmt_by x ok =
      subst RuledDoes (sym (fold-roll-Stmt Ruled Blocked rules.statement rules.block x))
      (statement_does (map-Stmt Stmt Block Ruled Blocked rules.ruling rules.blocking x) ok)

  block_by : (x : Block-F Stmt Block) → AllRuled (map-Block Stmt Block Ruled Blocked rules.ruling rules.blocking x).statements → GoodBlock (roll-Block x)
  block_by x ok =
      subst BlockedDoes (sym (fold-roll-Block Ruled Blocked rules.statement rules.block x))
      (block_does (map-Block Stmt Block Ruled Blocked rules.ruling rules.blocking x) ok)

  abbrev S : Type 0
  S = (s : Stmt) × GoodStmt s

  abbrev B : Type 0
  B = (b : Block) × GoodBlock b

  all_good : (ss : List S) → AllRuled (map rules.ruling (map (λ s. s.0) ss))
  all_good [] = tt
  all_good (s ∷ ss) = (s.1, all_good ss)

  stmt_step : (y : Stmt-F S B) → GoodStmt (roll-Stmt (map-Stmt S B Stmt Block (λ s. s.0) (λ b. b.0) y))
  stmt_step (Stmt-F.Block b) = stmt_by (Stmt-F.Block b.0) b.1
  stmt_step (Stmt-F.Empty l) = stmt_by (Stmt-F.Empty l) tt
  stmt_step (Stmt-F.Expression e) = stmt_by (Stmt-F.Expression e) tt
  stmt_step (Stmt-F.If l c s) = stmt_by (Stmt-F.If l c s.0) s.1
  stmt_step (Stmt-F.IfElse l c s t) = stmt_by (Stmt-F.IfElse l c s.0 t.0) (s.1, t.1)
  stmt_step (Stmt-F.Switch l e s) = stmt_by (Stmt-F.Switch l e s.0) s.1
  stmt_step (Stmt-F.While l c s) = stmt_by (Stmt-F.While l c s.0) s.1
  stmt_step (Stmt-F.Do l s c) = stmt_by (Stmt-F.Do l s.0 c) s.1
  stmt_step (Stmt-F.For l first c step s) = stmt_by (Stmt-F.For l first c step s.0) s.1
  stmt_step (Stmt-F.Case l e s) = stmt_by (Stmt-F.Case l e s.0) s.1
  stmt_step (Stmt-F.Default l s) = stmt_by (Stmt-F.Default l s.0) s.1
  stmt_step (Stmt-F.Break l) = stmt_by (Stmt-F.Break l) tt
  stmt_step (Stmt-F.Continue l) = stmt_by (Stmt-F.Continue l) tt
  stmt_step (Stmt-F.Return l e) = stmt_by (Stmt-F.Return l e) tt

  block_step : (y : Block-F S B) → GoodBlock (roll-Block (map-Block S B Stmt Block (λ s. s.0) (λ b. b.0) y))
  block_step y = block_by (record { line = y.line; declarations = y.declarations; statements = map (λ s. s.0) y.statements }) (all_good y.statements)

  pub blocking_does : (b : Block) → BlockedDoes (rules.blocking b)
  blocking_does b =
      ind-Block GoodStmt GoodBlock (λ x y is. subst (λ z. GoodStmt (roll-Stmt z)) is (stmt_step y))
      (λ x y is. subst (λ z. GoodBlock (roll-Block z)) is (block_step y)) b
