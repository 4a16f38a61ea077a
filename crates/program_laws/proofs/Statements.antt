-- Each rule of statements makes trees that fit: one term for each form.
use Rattle.std.proofs.Common.{◌≡◌, ℕ, List, [], ◌∷◌, ◌++◌, map, Option, Some, None, true, length, refl, sym, ap, ◌∙◌, subst}
use Rattle.std.specs.Prelude.{◌==◌, not, is_some, is_none, ⊤}
use Rattle.std.specs.List.{list_any}
use Rattle.hlo_num.specs.declared.word.Ty.{Ty}
use Rattle.hlo_num.specs.Words.{convert, promote}
use Rattle.il_core.specs.declared.shape.ShapeRow.{ShapeRow}
use Rattle.c_tree.specs.declared.expression.Expr.{Expr}
use Rattle.c_tree.specs.declared.declaration.Declaration.{Declaration}
use Rattle.c_tree.specs.declared.declaration.Declarator.{Declarator}
use Rattle.c_tree.specs.declared.declaration.Shape.{Shape}
use Rattle.c_tree.specs.declared.declaration.Shape.TheVariants as shapes
use Rattle.c_tree.specs.declared.declaration.Initialiser.{Initialiser}
use Rattle.c_tree.specs.declared.declaration.Initialiser.TheVariants as initialisers
use Rattle.c_tree.specs.declared.statement.Stmt.TheOpen.{Stmt-F, Block-F}
use Rattle.c_tree.specs.declared.statement.Stmt.TheFolds.{ind-Block, fold-roll-Stmt, fold-roll-Block}
use Rattle.c_tree.specs.declared.statement.Stmt.{Stmt, roll-Stmt, map-Stmt}
use Rattle.c_tree.specs.declared.statement.Block.{Block, roll-Block, map-Block}
use Rattle.c_typed.specs.declared.expression.TypedExpr.{TypedExpr}
use Rattle.c_typed.specs.declared.function.Local.{Local}
use Rattle.c_typed.specs.declared.statement.Label.{Label}
use Rattle.c_typed.specs.declared.statement.Label.TheVariants as labels
use Rattle.c_typed.specs.declared.statement.Section.{Section}
use Rattle.c_typed.specs.declared.statement.TypedStmt.{TypedStmt, roll-TypedStmt, map-TypedStmt}
use Rattle.c_typed.specs.declared.statement.TypedStmt.TheOpen.{TypedStmt-F}
use Rattle.c_typed.specs.declared.statement.TypedStmt.TheFolds.{fold-roll-TypedStmt, fold-roll-Section}
use Rattle.c_typed.specs.Trees as tree
use Rattle.c_typed.specs.Views.{optional_of, sequence_from, sections_from, section_layer, stmt_layer, stmt_of, section_of}
use Rattle.c_types.specs.declared.binding.Binding.TheVariants as bindings
use Rattle.c_types.specs.declared.binding.Extent.{Extent}
use Rattle.c_types.specs.declared.binding.Extent.TheVariants as extents
use Rattle.c_types.specs.declared.fault.TypeKind.TheVariants as kinds
use Rattle.c_types.specs.declared.specifiers.Site.TheVariants as sites
use Rattle.c_types.specs.declared.specifiers.Specified.{Specified}
use Rattle.c_types.specs.declared.statements.Around.{Around}
use Rattle.c_types.specs.declared.statements.ForHead.{ForHead}
use Rattle.c_types.specs.Conversions.{converted}
use Rattle.c_types.specs.ExpressionRules.{typing, valued}
use Rattle.c_types.specs.Names.{bound_here}
use Rattle.c_types.specs.Rules.{Here, Rule, ◌>>=◌, give, known, unless}
use Rattle.c_types.specs.StatementRules as rules
use Rattle.c_types.specs.StatementRules.{Ruled, Blocked, Labelled}
use Rattle.lower_laws.specs.Fits.{FitsOptional, FitsStmt, FitsSections, Around as FitsAround}
use Rattle.program_laws.proofs.Expressions.{FitsValued, conversion, valued_fine, constant_valued_fine, word_fine}
use Rattle.program_laws.proofs.Fine as fine
use Rattle.program_laws.proofs.Fine.{Any, Always}
use Rattle.program_laws.proofs.States.{after_beside}
use Rattle.program_laws.proofs.Tables.{marked_same}
use Rattle.program_laws.proofs.Typings.{typing_fine, specifying_fine}

module _ (number : ℕ) (rows : List ShapeRow) where
  abbrev Fine : {A : Type 0} → (A → Type 0) → Rule A → Type 0
  Fine P rule = fine.Fine number rows P rule

  -- ## Rules that make no statement

  pub value_fine : (e : Expr) → Fine (FitsValued number rows) (valued (typing e))
  value_fine e = valued_fine number rows (typing e) (typing_fine number rows e)

  pub constant_word_fine : {Q : ℕ → Type 0} (e : Expr) → ((n : ℕ) → Q n) → Fine Q (rules.constant_word e)
  constant_word_fine e q = fine.and number rows (constant_valued_fine number rows (typing e) (typing_fine number rows e)) (λ c.
      word_fine number rows c.value (λ w a. q w))

  pub length_fine : (line : ℕ) (e : Expr) → Fine (λ n. rules.is_length n ≡ true) (rules.length_of line e)
  length_fine line e =
      fine.and number rows (constant_word_fine {Q = λ n. Unit {0}} e (λ n. tt)) (λ n.
      fine.and number rows (fine.tests number rows (rules.is_length n) line kinds.ArraySize) (λ u. fine.gives number rows n (λ is a. is)))

  pub value_type_fine : {Asked : Here → Type 0} {Q : Ty → Type 0} (line : ℕ) (ty : Option Ty) → ((x : Ty) → ty ≡ Some x → Q x)
      → fine.FineIf number rows Asked Q (rules.value_type line ty)
  value_type_fine line None q = fine.breaks number rows line kinds.Specifiers
  value_type_fine line (Some ty) q = fine.gives number rows ty (q ty refl)

  local_extent_fine : (line : ℕ) (x : Shape) → Fine Any (rules.local_extent line x)
  local_extent_fine line shapes.Plain = fine.gives number rows extents.Scalar tt
  local_extent_fine line (shapes.Array None) = fine.breaks number rows line kinds.ArraySize
  local_extent_fine line (shapes.Array (Some e)) = fine.and number rows (length_fine line e) (λ n. fine.gives number rows (extents.Array (Some n)) (λ a. tt))
  local_extent_fine line (shapes.Function ps) = fine.breaks number rows line kinds.Specifiers

  new_case_fine : (line w : ℕ) → Fine Any (rules.new_case line w)
  new_case_fine line w =
      fine.and number rows (fine.knows number rows (λ (h : Here). h.cases)) (λ cases.
      fine.and number rows (fine.tests number rows (not (list_any (λ v. w == v) cases)) line kinds.CaseRepeat) (λ u.
      fine.changes_end number rows (λ (h : Here). record h { cases = h.cases ++ w ∷ [] })
      (λ h ok. after_beside number h (record h { cases = h.cases ++ w ∷ [] }) refl refl (marked_same h.syms) ok) (λ a b. tt)))

  new_default_fine : (line : ℕ) → Fine Any (rules.new_default line)
  new_default_fine line =
      fine.and number rows (fine.knows number rows (λ (h : Here). h.default)) (λ default.
      fine.and number rows (fine.tests number rows (not default) line kinds.CaseRepeat) (λ u.
      fine.changes_end number rows (λ (h : Here). record h { default = true })
      (λ h ok. after_beside number h (record h { default = true }) refl refl (marked_same h.syms) ok) (λ a b. tt)))

  abbrev FitsMaybe : Option TypedExpr → Type 0
  FitsMaybe x = FitsOptional rows (optional_of x)

  optional_typed_fine : (e : Option Expr) → Fine FitsMaybe (rules.optional_typed e)
  optional_typed_fine None = fine.gives number rows None tt
  optional_typed_fine (Some e) = fine.and number rows (typing_fine number rows e).typed (λ t. fine.gives number rows (Some t.expr) (λ good. good))

  optional_valued_fine : (e : Option Expr) → Fine FitsMaybe (rules.optional_valued e)
  optional_valued_fine None = fine.gives number rows None tt
  optional_valued_fine (Some e) = fine.and number rows (value_fine e) (λ v. fine.gives number rows (Some v.expr) (λ good. good))

  abbrev FitsHead : ForHead → Type 0
  FitsHead x = FitsMaybe x.first × FitsMaybe x.condition × FitsMaybe x.step

  for_head_fine : (a c b : Option Expr) → Fine FitsHead (rules.for_head a c b)
  for_head_fine a c b =
      fine.and number rows (optional_typed_fine a) (λ x.
      fine.and number rows (optional_valued_fine c) (λ y.
      fine.and number rows (optional_typed_fine b) (λ z.
      fine.gives number rows (record { first = x; condition = y; step = z }) (λ gz gy gx. (gx, gy, gz)))))

  local_value_fine : (ty : Ty) (extent : Extent) (init : Option Initialiser) → Fine FitsMaybe (rules.local_value ty extent init)
  local_value_fine ty extent None = fine.gives number rows None tt
  local_value_fine ty extents.Scalar (Some (initialisers.Value e)) =
      fine.and number rows (value_fine e) (λ v. fine.gives number rows (Some (converted ty v)) (λ good. conversion number rows ty v good))
  local_value_fine ty extents.Scalar (Some (initialisers.List line es)) = fine.breaks number rows _ _
  local_value_fine ty (extents.Array n) (Some i) = fine.breaks number rows _ _

  -- ## What statements give

  abbrev pub around_of : Around → FitsAround
  around_of a = record { value = is_some a.result; breaks = a.breaks; continues = a.continues }

  abbrev FitsStatement : Around → TypedStmt → Type 0
  FitsStatement a t = FitsStmt rows (around_of a) (stmt_of t)

  abbrev pub FitStatements : Around → List TypedStmt → Type 0
  FitStatements a ts = FitsStmt rows (around_of a) (sequence_from (map stmt_of ts))

  abbrev FitsLabelled : Around → Labelled → Type 0
  FitsLabelled a x = FitsStatement a x.stmt

  -- what stands in front of further sections
  abbrev FitsSection : Around → Section → Type 0
  FitsSection a x = (rest : tree.Sections) → FitsSections rows (around_of a) rest → FitsSections rows (around_of a) (section_of x rest)

  abbrev FitSections : Around → List Section → Type 0
  FitSections a xs = FitsSections rows (around_of a) (sections_from (map section_of xs))

  done : (a : Around) (x : TypedStmt-F TypedStmt Section)
      → FitsStmt rows (around_of a) (stmt_layer (map-TypedStmt TypedStmt Section tree.Stmt (tree.Sections → tree.Sections) stmt_of section_of x))
      → FitsStatement a (roll-TypedStmt x)
  done a x ok =
      subst (λ t. FitsStmt rows (around_of a) t)
      (sym (fold-roll-TypedStmt tree.Stmt (tree.Sections → tree.Sections) stmt_layer section_layer x)) ok

  sequence_more : (a : Around) (ts us : List TypedStmt) → FitStatements a ts → FitStatements a us → FitStatements a (ts ++ us)
  sequence_more a [] us p q = q
  sequence_more a (t ∷ ts) us p q = (p.0, sequence_more a ts us p.1 q)

  section_fit : (a : Around) (ls : List Label) (t : TypedStmt) → FitsStatement a t → FitsSection a (rules.section (record { labels = ls; stmt = t }))
  section_fit a ls t p =
      subst (λ (f : tree.Sections → tree.Sections). (rest : tree.Sections) → FitsSections rows (around_of a) rest → FitsSections rows (around_of a) (f rest))
      (sym (fold-roll-Section tree.Stmt (tree.Sections → tree.Sections) stmt_layer section_layer (record { labels = ls; body = t })))
      (λ rest q. (p, q))

  sections_more : (a : Around) (ts : List TypedStmt) (xs : List Section) → FitStatements a ts → FitSections a xs
      → FitSections a (map (λ t. rules.section (rules.unlabelled t)) ts ++ xs)
  sections_more a [] xs p q = q
  sections_more a (t ∷ ts) xs p q =
      section_fit a [] t p.0 (sections_from (map section_of (map (λ t. rules.section (rules.unlabelled t)) ts ++ xs))) (sections_more a ts xs p.1 q)

  -- ## Declarators

  -- the place of a new local doesn't matter here
  new_local_fine : {B : Type 0} {Q : B → Type 0} {next : ℕ → Rule B} (name : List ℕ) (local : Local)
      → ((place : ℕ) → fine.FineIf number rows (λ h. bound_here name h ≡ None) Q (next place))
      → fine.FineIf number rows (λ h. bound_here name h ≡ None) Q (rules.new_local local >>= next)
  new_local_fine {B} {Q} {next} name local p = record {
    by = λ h ok none.
        let g : Here = record h { locals = h.locals ++ local ∷ [] } in
        let x = after_beside number h g refl refl (marked_same h.syms) ok in
        fine.onward number rows Q h g x (next (length h.locals) g) ((p (length h.locals)).by g x.ok none);
  }

  -- what was known of the state in front is what is asked behind
  with_name : {B : Type 0} {Q : B → Type 0} {rule : Rule B} (name : List ℕ) (line : ℕ)
      → fine.FineIf number rows (λ h. bound_here name h ≡ None) Q rule
      → Fine Q (known (bound_here name) >>= λ old. (unless (is_none old) line kinds.Redeclared >>= λ u. rule))
  with_name {B} {Q} {rule} name line p =
      fine.if_knows number rows (bound_here name) (λ old. fine.if_tests number rows (is_none old) line kinds.Redeclared (λ u e.
      record { by = λ h ok asked. p.by h ok (asked.1 ∙ fine.none_if number rows old e) }))

  declarator_fine : (a : Around) (s : Specified) (d : Declarator) → Fine (FitsStatement a) (rules.declarator s d)
  declarator_fine a s d =
      fine.if_tests number rows (not (rules.is_function_shape d.shape)) d.name.line kinds.Specifiers (λ u0 e0.
      fine.and number rows (value_type_fine {Q = λ ty. Unit {0}} d.name.line s.ty (λ ty is. tt)) (λ ty.
      fine.and number rows (local_extent_fine d.name.line d.shape) (λ extent.
      with_name d.name.name d.name.line
      (new_local_fine d.name.name (record { ty = ty; length = rules.length_in extent; name = d.name.name }) (λ place.
      fine.binds_new number rows d.name.name (bindings.Local place ty s.fixed extent) (λ h none. none) tt (λ u1.
      fine.and number rows (local_value_fine ty extent d.initialiser) (λ value.
      fine.gives number rows (roll-TypedStmt (TypedStmt-F.Declaration place value)) (λ good a1 a2. done a (TypedStmt-F.Declaration place value) good))))))))

  declarators_fine : (a : Around) (s : Specified) (ds : List Declarator) → Fine (FitStatements a) (rules.declarators s ds)
  declarators_fine a s [] = fine.gives number rows [] tt
  declarators_fine a s (d ∷ ds) =
      fine.and number rows (declarator_fine a s d) (λ x. fine.and number rows (declarators_fine a s ds) (λ xs.
      fine.gives number rows (x ∷ xs) (λ qs q. (q, qs))))

  declaration_fine : (a : Around) (d : Declaration) → Fine (FitStatements a) (rules.declaration d)
  declaration_fine a d =
      fine.and number rows (specifying_fine number rows d.specifiers sites.Block) (λ s.
      fine.if_tests number rows (rules.declares s d.declarators) d.specifiers.line kinds.Specifiers (λ u e.
      fine.whatever number rows (declarators_fine a s d.declarators)))

  declarations_fine : (a : Around) (ds : List Declaration) → Fine (FitStatements a) (rules.declarations ds)
  declarations_fine a [] = fine.gives number rows [] tt
  declarations_fine a (d ∷ ds) =
      fine.and number rows (declaration_fine a d) (λ ts. fine.and number rows (declarations_fine a ds) (λ us.
      fine.gives number rows (ts ++ us) (λ qs q. sequence_more a ts us q qs)))

  -- ## Statements

  pub record RuledFine (r : Ruled) : Type 0 where
    pub stmt : (a : Around) → Fine (FitsStatement a) (r.stmt a)
    pub body : (a : Around) (ty : Ty) → Fine (FitSections a) (r.body a ty)
    pub item : (a : Around) (ty : Ty) → Fine (FitsLabelled a) (r.item a ty)
    pub section : (a : Around) (ty : Ty) → Fine (FitsSection a) (r.section a ty)

  pub record BlockedFine (b : Blocked) : Type 0 where
    pub statements : (a : Around) → Fine (FitStatements a) (b.statements a)
    pub sections : (a : Around) (ty : Ty) → Fine (FitSections a) (b.sections a ty)

  abbrev pub AllFine : List Ruled → Type 0
  AllFine [] = ⊤
  AllFine (r ∷ rs) = RuledFine r × AllFine rs

  statements_fine : (a : Around) (rs : List Ruled) → AllFine rs → Fine (FitStatements a) (rules.statements a rs)
  statements_fine a [] ok = fine.gives number rows [] tt
  statements_fine a (r ∷ rs) ok =
      fine.and number rows (ok.0.stmt a) (λ x. fine.and number rows (statements_fine a rs ok.1) (λ xs.
      fine.gives number rows (x ∷ xs) (λ qs q. (q, qs))))

  sections_fine : (a : Around) (ty : Ty) (rs : List Ruled) → AllFine rs → Fine (FitSections a) (rules.sections a ty rs)
  sections_fine a ty [] ok = fine.gives number rows [] tt
  sections_fine a ty (r ∷ rs) ok =
      fine.and number rows (ok.0.section a ty) (λ x. fine.and number rows (sections_fine a ty rs ok.1) (λ xs.
      fine.gives number rows (x ∷ xs) (λ qs q. q (sections_from (map section_of xs)) qs)))

  block_fine : (b : Block-F Ruled Blocked) → AllFine b.statements → BlockedFine (rules.block b)
  block_fine b ok = record {
    statements = λ a.
        fine.and number rows (declarations_fine a b.declarations) (λ ds. fine.and number rows (statements_fine a b.statements ok) (λ ss.
        fine.gives number rows (ds ++ ss) (λ qs q. sequence_more a ds ss q qs)));
    sections = λ a ty.
        fine.and number rows (declarations_fine a b.declarations) (λ ds. fine.and number rows (sections_fine a ty b.statements ok) (λ ss.
        fine.gives number rows (map (λ t. rules.section (rules.unlabelled t)) ds ++ ss) (λ qs q. sections_more a ds ss q qs)));
  }

  abbrev StmtParts : Stmt-F Ruled Blocked → Type 0
  StmtParts (Stmt-F.Block b) = BlockedFine b
  StmtParts (Stmt-F.Empty l) = ⊤
  StmtParts (Stmt-F.Expression e) = ⊤
  StmtParts (Stmt-F.If l c s) = RuledFine s
  StmtParts (Stmt-F.IfElse l c s t) = RuledFine s × RuledFine t
  StmtParts (Stmt-F.Switch l e s) = RuledFine s
  StmtParts (Stmt-F.While l c s) = RuledFine s
  StmtParts (Stmt-F.Do l s c) = RuledFine s
  StmtParts (Stmt-F.For l first c step s) = RuledFine s
  StmtParts (Stmt-F.Case l e s) = RuledFine s
  StmtParts (Stmt-F.Default l s) = RuledFine s
  StmtParts (Stmt-F.Break l) = ⊤
  StmtParts (Stmt-F.Continue l) = ⊤
  StmtParts (Stmt-F.Return l e) = ⊤

  returned_fine : (a : Around) (line : ℕ) (ty : Option Ty) (e : Expr) → a.result ≡ ty → Fine (FitsStatement a) (rules.returned line ty e)
  returned_fine a line None e is = fine.breaks number rows line kinds.ReturnValue
  returned_fine a line (Some ty) e is =
      fine.and number rows (value_fine e) (λ v. fine.gives number rows _ (λ good.
      done a (TypedStmt-F.Return (Some (converted ty v))) (ap is_some is, conversion number rows ty v good)))

  stmt_fine : (x : Stmt-F Ruled Blocked) → StmtParts x → (a : Around) → Fine (FitsStatement a) (rules.stmt_layer x a)
  stmt_fine (Stmt-F.Block b) ok a =
      fine.and number rows (fine.scoped_fine number rows (ok.statements a)) (λ ss. fine.gives number rows _ (λ q. done a (TypedStmt-F.Block ss) q))
  stmt_fine (Stmt-F.Empty l) ok a = fine.gives number rows _ (done a TypedStmt-F.Empty tt)
  stmt_fine (Stmt-F.Expression e) ok a =
      fine.and number rows (typing_fine number rows e).typed (λ t. fine.gives number rows _ (λ good. done a (TypedStmt-F.Expression t.expr) good))
  stmt_fine (Stmt-F.If l c s) ok a =
      fine.and number rows (value_fine c) (λ v. fine.and number rows (ok.stmt a) (λ t. fine.gives number rows _ (λ q good.
      done a (TypedStmt-F.If v.expr t) (good, q))))
  stmt_fine (Stmt-F.IfElse l c s t) ok a =
      fine.and number rows (value_fine c) (λ v. fine.and number rows (ok.0.stmt a) (λ x. fine.and number rows (ok.1.stmt a) (λ y.
      fine.gives number rows _ (λ qy qx good. done a (TypedStmt-F.IfElse v.expr x y) (good, qx, qy)))))
  stmt_fine (Stmt-F.Switch l e s) ok a =
      fine.and number rows (value_fine e) (λ v.
      fine.and number rows (fine.labelling_fine number rows (ok.body (rules.in_switch a) (promote v.ty))) (λ xs. fine.gives number rows _ (λ q good.
      done a (TypedStmt-F.Switch (converted (promote v.ty) v) xs) (conversion number rows (promote v.ty) v good, q))))
  stmt_fine (Stmt-F.While l c s) ok a =
      fine.and number rows (value_fine c) (λ v. fine.and number rows (ok.stmt (rules.in_loop a)) (λ t. fine.gives number rows _ (λ q good.
      done a (TypedStmt-F.While v.expr t) (good, q))))
  stmt_fine (Stmt-F.Do l s c) ok a =
      fine.and number rows (ok.stmt (rules.in_loop a)) (λ t. fine.and number rows (value_fine c) (λ v. fine.gives number rows _ (λ good q.
      done a (TypedStmt-F.Do t v.expr) (q, good))))
  stmt_fine (Stmt-F.For l first c step s) ok a =
      fine.and number rows (for_head_fine first c step) (λ h. fine.and number rows (ok.stmt (rules.in_loop a)) (λ t. fine.gives number rows _ (λ q good.
      done a (TypedStmt-F.For h.first h.condition h.step t) (good.0, good.1, good.2, q))))
  stmt_fine (Stmt-F.Case l e s) ok a = fine.breaks number rows l kinds.CaseOutside
  stmt_fine (Stmt-F.Default l s) ok a = fine.breaks number rows l kinds.CaseOutside
  stmt_fine (Stmt-F.Break l) ok a =
      fine.and number rows (fine.tests number rows a.breaks l kinds.BreakOutside) (λ u. fine.gives number rows _ (λ is. done a TypedStmt-F.Break is))
  stmt_fine (Stmt-F.Continue l) ok a =
      fine.and number rows (fine.tests number rows a.continues l kinds.ContinueOutside) (λ u. fine.gives number rows _ (λ is. done a TypedStmt-F.Continue is))
  stmt_fine (Stmt-F.Return l None) ok a = fine.gives number rows _ (done a (TypedStmt-F.Return None) tt)
  stmt_fine (Stmt-F.Return l (Some e)) ok a = returned_fine a l a.result e refl

  -- ## The body of a switch

  plain_body : (x : Stmt-F Ruled Blocked) → StmtParts x → (a : Around)
      → Fine (FitSections a) (rules.stmt_layer x a >>= λ t. give (rules.section (rules.unlabelled t) ∷ []))
  plain_body x ok a =
      fine.and number rows (stmt_fine x ok a) (λ t. fine.gives number rows (rules.section (rules.unlabelled t) ∷ []) (λ q. section_fit a [] t q tree.End tt))

  body_fine : (x : Stmt-F Ruled Blocked) → StmtParts x → (a : Around) (ty : Ty) → Fine (FitSections a) (rules.body_layer x a ty)
  body_fine (Stmt-F.Block b) ok a ty = fine.scoped_fine number rows (ok.sections a ty)
  body_fine (Stmt-F.Empty l) ok a ty = plain_body (Stmt-F.Empty l) ok a
  body_fine (Stmt-F.Expression e) ok a ty = plain_body (Stmt-F.Expression e) ok a
  body_fine (Stmt-F.If l c s) ok a ty = plain_body (Stmt-F.If l c s) ok a
  body_fine (Stmt-F.IfElse l c s t) ok a ty = plain_body (Stmt-F.IfElse l c s t) ok a
  body_fine (Stmt-F.Switch l e s) ok a ty = plain_body (Stmt-F.Switch l e s) ok a
  body_fine (Stmt-F.While l c s) ok a ty = plain_body (Stmt-F.While l c s) ok a
  body_fine (Stmt-F.Do l s c) ok a ty = plain_body (Stmt-F.Do l s c) ok a
  body_fine (Stmt-F.For l first c step s) ok a ty = plain_body (Stmt-F.For l first c step s) ok a
  body_fine (Stmt-F.Case l e s) ok a ty = plain_body (Stmt-F.Case l e s) ok a
  body_fine (Stmt-F.Default l s) ok a ty = plain_body (Stmt-F.Default l s) ok a
  body_fine (Stmt-F.Break l) ok a ty = plain_body (Stmt-F.Break l) ok a
  body_fine (Stmt-F.Continue l) ok a ty = plain_body (Stmt-F.Continue l) ok a
  body_fine (Stmt-F.Return l e) ok a ty = plain_body (Stmt-F.Return l e) ok a

  plain_item : (x : Stmt-F Ruled Blocked) → StmtParts x → (a : Around)
      → Fine (FitsLabelled a) (rules.stmt_layer x a >>= λ t. give (rules.unlabelled t))
  plain_item x ok a = fine.and number rows (stmt_fine x ok a) (λ t. fine.gives number rows (rules.unlabelled t) (λ q. q))

  item_fine : (x : Stmt-F Ruled Blocked) → StmtParts x → (a : Around) (ty : Ty) → Fine (FitsLabelled a) (rules.item_layer x a ty)
  item_fine (Stmt-F.Block b) ok a ty = plain_item (Stmt-F.Block b) ok a
  item_fine (Stmt-F.Empty l) ok a ty = plain_item (Stmt-F.Empty l) ok a
  item_fine (Stmt-F.Expression e) ok a ty = plain_item (Stmt-F.Expression e) ok a
  item_fine (Stmt-F.If l c s) ok a ty = plain_item (Stmt-F.If l c s) ok a
  item_fine (Stmt-F.IfElse l c s t) ok a ty = plain_item (Stmt-F.IfElse l c s t) ok a
  item_fine (Stmt-F.Switch l e s) ok a ty = plain_item (Stmt-F.Switch l e s) ok a
  item_fine (Stmt-F.While l c s) ok a ty = plain_item (Stmt-F.While l c s) ok a
  item_fine (Stmt-F.Do l s c) ok a ty = plain_item (Stmt-F.Do l s c) ok a
  item_fine (Stmt-F.For l first c step s) ok a ty = plain_item (Stmt-F.For l first c step s) ok a
  item_fine (Stmt-F.Case l e s) ok a ty =
      fine.and number rows (constant_word_fine {Q = λ n. Unit {0}} e (λ n. tt)) (λ w.
      fine.and number rows (new_case_fine l (convert ty w)) (λ u.
      fine.and number rows (ok.item a ty) (λ x.
      fine.gives number rows (record { labels = labels.Case (record { 0 = convert ty w }) ∷ x.labels; stmt = x.stmt }) (λ q a1 a2. q))))
  item_fine (Stmt-F.Default l s) ok a ty =
      fine.and number rows (new_default_fine l) (λ u.
      fine.and number rows (ok.item a ty) (λ x. fine.gives number rows (record { labels = labels.Default ∷ x.labels; stmt = x.stmt }) (λ q a1. q)))
  item_fine (Stmt-F.Break l) ok a ty = plain_item (Stmt-F.Break l) ok a
  item_fine (Stmt-F.Continue l) ok a ty = plain_item (Stmt-F.Continue l) ok a
  item_fine (Stmt-F.Return l e) ok a ty = plain_item (Stmt-F.Return l e) ok a

  section_fine : (x : Stmt-F Ruled Blocked) → StmtParts x → (a : Around) (ty : Ty) → Fine (FitsSection a) (rules.section_layer x a ty)
  section_fine x ok a ty =
      fine.and number rows (item_fine x ok a ty) (λ y. fine.gives number rows (rules.section y) (λ q. section_fit a y.labels y.stmt q))

  statement_fine : (x : Stmt-F Ruled Blocked) → StmtParts x → RuledFine (rules.statement x)
  statement_fine x ok = record { stmt = stmt_fine x ok; body = body_fine x ok; item = item_fine x ok; section = section_fine x ok }

  -- ## The trees

  abbrev GoodStmt : Stmt → Type 0
  GoodStmt s = RuledFine (rules.ruling s)

  abbrev GoodBlock : Block → Type 0
  GoodBlock b = BlockedFine (rules.blocking b)

  stmt_by : (x : Stmt-F Stmt Block) → StmtParts (map-Stmt Stmt Block Ruled Blocked rules.ruling rules.blocking x) → GoodStmt (roll-Stmt x)
  stmt_by x ok =
      subst RuledFine (sym (fold-roll-Stmt Ruled Blocked rules.statement rules.block x))
      (statement_fine (map-Stmt Stmt Block Ruled Blocked rules.ruling rules.blocking x) ok)

  block_by : (x : Block-F Stmt Block) → AllFine (map-Block Stmt Block Ruled Blocked rules.ruling rules.blocking x).statements → GoodBlock (roll-Block x)
  block_by x ok =
      subst BlockedFine (sym (fold-roll-Block Ruled Blocked rules.statement rules.block x))
      (block_fine (map-Block Stmt Block Ruled Blocked rules.ruling rules.blocking x) ok)

  abbrev S : Type 0
  S = (s : Stmt) × GoodStmt s

  abbrev B : Type 0
  B = (b : Block) × GoodBlock b

  all_good : (ss : List S) → AllFine (map rules.ruling (map (λ s. s.0) ss))
  all_good [] = tt
  all_good (s ∷ ss) = (s.1, all_good ss)

  stmt_step : (y : Stmt-F S B) → GoodStmt (roll-Stmt (map-Stmt S B Stmt Block (λ s. s.0) (λ b. b.0) y))
  stmt_step (Stmt-F.Block b) = stmt_by (Stmt-F.Block b.0) b.1
  stmt_step (Stmt-F.Empty l) = stmt_by (Stmt-F.Empty l) tt
  stmt_step (Stmt-F.Expression e) = stmt_by (Stmt-F.Expression e) tt
  stmt_step (Stmt-F.If l c s) = stmt_by (Stmt-F.If l c s.0) s.1
  stmt_step (Stmt-F.IfElse l c s t) = stmt_by (Stmt-F.IfElse l c s.0 t.0) (s.1, t.1)
  stmt_step (Stmt-F.Switch l e s) = stmt_by (Stmt-F.Switch l e s.0) s.1
  stmt_step (Stmt-F.While l c s) = stmt_by (Stmt-F.While l c s.0) s.1
  stmt_step (Stmt-F.Do l s c) = stmt_by (Stmt-F.Do l s.0 c) s.1
  stmt_step (Stmt-F.For l first c step s) = stmt_by (Stmt-F.For l first c step s.0) s.1
  stmt_step (Stmt-F.Case l e s) = stmt_by (Stmt-F.Case l e s.0) s.1
  stmt_step (Stmt-F.Default l s) = stmt_by (Stmt-F.Default l s.0) s.1
  stmt_step (Stmt-F.Break l) = stmt_by (Stmt-F.Break l) tt
  stmt_step (Stmt-F.Continue l) = stmt_by (Stmt-F.Continue l) tt
  stmt_step (Stmt-F.Return l e) = stmt_by (Stmt-F.Return l e) tt

  block_step : (y : Block-F S B) → GoodBlock (roll-Block (map-Block S B Stmt Block (λ s. s.0) (λ b. b.0) y))
  block_step y = block_by (record { line = y.line; declarations = y.declarations; statements = map (λ s. s.0) y.statements }) (all_good y.statements)

  pub blocking_fine : (b : Block) → BlockedFine (rules.blocking b)
  blocking_fine b =
      ind-Block GoodStmt GoodBlock (λ x y is. subst (λ z. GoodStmt (roll-Stmt z)) is (stmt_step y))
      (λ x y is. subst (λ z. GoodBlock (roll-Block z)) is (block_step y)) b
