-- Each rule of statements makes bound trees: one term for each form.
use Rattle.std.proofs.Common.{◌≡◌, ℕ, suc, List, [], ◌∷◌, ◌++◌, map, Option, Some, None, Bool, true, false, length, refl, sym, ap, ◌∙◌, subst, arith, slice_get}
use Rattle.std.specs.Prelude.{◌==◌, not, is_some, is_none, ⊤}
use Rattle.std.specs.List.{list_any}
use Rattle.std.proofs.lemmas.List.{length_push}
use Rattle.hlo_num.specs.declared.word.Ty.{Ty}
use Rattle.hlo_num.specs.Words.{convert, promote}
use Rattle.c_tree.specs.declared.expression.Expr.{Expr}
use Rattle.c_tree.specs.declared.declaration.Declaration.{Declaration}
use Rattle.c_tree.specs.declared.declaration.Declarator.{Declarator}
use Rattle.c_tree.specs.declared.declaration.Shape.{Shape}
use Rattle.c_tree.specs.declared.declaration.Shape.TheVariants as shapes
use Rattle.c_tree.specs.declared.declaration.Initialiser.{Initialiser}
use Rattle.c_tree.specs.declared.declaration.Initialiser.TheVariants as initialisers
use Rattle.c_tree.specs.declared.statement.Stmt.TheOpen.{Stmt-F, Block-F}
use Rattle.c_tree.specs.declared.statement.Stmt.TheFolds.{ind-Block, fold-roll-Stmt, fold-roll-Block}
use Rattle.c_tree.specs.declared.statement.Stmt.{Stmt, roll-Stmt, map-Stmt}
use Rattle.c_tree.specs.declared.statement.Block.{Block, roll-Block, map-Block}
use Rattle.c_typed.specs.declared.expression.TypedExpr.{TypedExpr}
use Rattle.c_typed.specs.declared.function.Local.{Local}
use Rattle.c_typed.specs.declared.statement.Label.{Label}
use Rattle.c_typed.specs.declared.statement.Label.TheVariants as labels
use Rattle.c_typed.specs.declared.statement.Section.{Section}
use Rattle.c_typed.specs.declared.statement.TypedStmt.{TypedStmt, roll-TypedStmt, map-TypedStmt}
use Rattle.c_typed.specs.declared.statement.TypedStmt.TheOpen.{TypedStmt-F}
use Rattle.c_typed.specs.declared.statement.TypedStmt.TheFolds.{fold-roll-TypedStmt, fold-roll-Section}
use Rattle.c_typed.specs.Trees as tree
use Rattle.c_typed.specs.Views.{optional_of, sequence_from, sections_from, section_layer, stmt_layer, stmt_of, section_of}
use Rattle.c_types.specs.declared.binding.Binding.TheVariants as bindings
use Rattle.c_types.specs.declared.binding.Extent.{Extent}
use Rattle.c_types.specs.declared.binding.Extent.TheVariants as extents
use Rattle.c_types.specs.declared.conversion.Valued.{Valued}
use Rattle.c_types.specs.declared.fault.TypeKind.TheVariants as kinds
use Rattle.c_types.specs.declared.specifiers.Site.TheVariants as sites
use Rattle.c_types.specs.declared.specifiers.Specified.{Specified}
use Rattle.c_types.specs.declared.statements.Around.{Around}
use Rattle.c_types.specs.declared.statements.ForHead.{ForHead}
use Rattle.c_types.specs.Conversions.{converted}
use Rattle.c_types.specs.DeclarationRules.{is_array}
use Rattle.c_types.specs.ExpressionRules.{typing, valued}
use Rattle.c_types.specs.Names.{bound_here, bind}
use Rattle.c_types.specs.Rules.{Here, ◌>>=◌, give, change}
use Rattle.c_types.specs.StatementRules as rules
use Rattle.c_types.specs.StatementRules.{Ruled, Blocked, Labelled}
use Rattle.lower_laws.specs.Bound.{Scope, IsOptional, IsOptionalValue, IsStmt, AreSections, locals_behind, sections_behind}
use Rattle.lower_laws.specs.Functions.{is_some_array}
use Rattle.type_laws.proofs.Expressions.{IsTyped, IsValued, IsValue, value_of, converted_value, valued_keeps, constant_valued_keeps, word_keeps}
use Rattle.type_laws.proofs.Going.{IsFront, front_then, slice_next, all_wider, Sound, Goes, scope, Does, led, loud, followed_by, then_outside}
use Rattle.type_laws.proofs.Going.{after_good, after_fact, ends, refused, scoped_does, labelling_does}
use Rattle.type_laws.proofs.Keeping.{Keeps, Any, and, gives, breaks, knows, changes, tests, outer_more, stays_beside}
use Rattle.type_laws.proofs.Typings.{typing_keeps, specifying_keeps}

-- ## Rules that declare no local

pub value_keeps : (e : Expr) (s : Scope) (o : Here) → Keeps s o (IsValued s) (valued (typing e))
value_keeps e s o = valued_keeps s o (typing e) (typing_keeps s o e)

pub constant_word_keeps : (e : Expr) (s : Scope) (o : Here) → Keeps s o Any (rules.constant_word e)
constant_word_keeps e s o = and (constant_valued_keeps s o (typing e) (typing_keeps s o e)) (λ c any. word_keeps s o c.value)

pub length_keeps : (line : ℕ) (e : Expr) (s : Scope) (o : Here) → Keeps s o Any (rules.length_of line e)
length_keeps line e s o =
    and (constant_word_keeps e s o) (λ n any. and (tests (rules.is_length n) line kinds.ArraySize) (λ u any1. gives n tt))

pub value_type_keeps : (line : ℕ) (ty : Option Ty) (s : Scope) (o : Here) → Keeps s o Any (rules.value_type line ty)
value_type_keeps line None s o = breaks line kinds.Specifiers
value_type_keeps line (Some ty) s o = gives ty tt

-- an array of a block has its length
abbrev HasLength : Extent → Type 0
HasLength x = is_some (rules.length_in x) ≡ is_array x

local_extent_keeps : (line : ℕ) (x : Shape) (s : Scope) (o : Here) → Keeps s o HasLength (rules.local_extent line x)
local_extent_keeps line shapes.Plain s o = gives extents.Scalar refl
local_extent_keeps line (shapes.Array None) s o = breaks line kinds.ArraySize
local_extent_keeps line (shapes.Array (Some e)) s o = and (length_keeps line e s o) (λ n any. gives (extents.Array (Some n)) refl)
local_extent_keeps line (shapes.Function ps) s o = breaks line kinds.Specifiers

new_case_keeps : (line w : ℕ) (s : Scope) (o : Here) → Keeps s o Any (rules.new_case line w)
new_case_keeps line w s o =
    and (knows (λ (h : Here). h.cases)) (λ cases a0.
    and (tests (not (list_any (λ v. w == v) cases)) line kinds.CaseRepeat) (λ u a1.
    changes (λ (h : Here). record h { cases = h.cases ++ w ∷ [] })
    (λ h st. stays_beside h (record h { cases = h.cases ++ w ∷ [] }) refl refl (omega arith) st)))

new_default_keeps : (line : ℕ) (s : Scope) (o : Here) → Keeps s o Any (rules.new_default line)
new_default_keeps line s o =
    and (knows (λ (h : Here). h.default)) (λ default a0.
    and (tests (not default) line kinds.CaseRepeat) (λ u a1.
    changes (λ (h : Here). record h { default = true })
    (λ h st. stays_beside h (record h { default = true }) refl refl (omega arith) st)))

optional_typed_keeps : (e : Option Expr) (s : Scope) (o : Here) → Keeps s o (λ x. IsOptional s (optional_of x)) (rules.optional_typed e)
optional_typed_keeps None s o = gives None tt
optional_typed_keeps (Some e) s o = and (typing_keeps s o e).typed (λ t good. gives (Some t.expr) good.0)

optional_valued_keeps : (e : Option Expr) (s : Scope) (o : Here) → Keeps s o (λ x. IsOptionalValue s (optional_of x)) (rules.optional_valued e)
optional_valued_keeps None s o = gives None tt
optional_valued_keeps (Some e) s o = and (value_keeps e s o) (λ v good. gives (Some v.expr) (value_of s v good))

abbrev IsHead : Scope → ForHead → Type 0
IsHead s x = IsOptional s (optional_of x.first) × IsOptionalValue s (optional_of x.condition) × IsOptional s (optional_of x.step)

for_head_keeps : (a c b : Option Expr) (s : Scope) (o : Here) → Keeps s o (IsHead s) (rules.for_head a c b)
for_head_keeps a c b s o =
    and (optional_typed_keeps a s o) (λ x gx.
    and (optional_valued_keeps c s o) (λ y gy.
    and (optional_typed_keeps b s o) (λ z gz. gives (record { first = x; condition = y; step = z }) (gx, gy, gz))))

-- an array has no initialiser
abbrev IsInitial : Extent → Scope → Option TypedExpr → Type 0
IsInitial extent s None = ⊤
IsInitial extent s (Some e) = (is_array extent ≡ false) × IsValue s e

local_value_keeps : (ty : Ty) (extent : Extent) (init : Option Initialiser) (s : Scope) (o : Here)
    → Keeps s o (IsInitial extent s) (rules.local_value ty extent init)
local_value_keeps ty extent None s o = gives None tt
local_value_keeps ty extents.Scalar (Some (initialisers.Value e)) s o =
    and (value_keeps e s o) (λ v good. gives (Some (converted ty v)) (refl, converted_value s ty v good))
local_value_keeps ty extents.Scalar (Some (initialisers.List line es)) s o = breaks _ _
local_value_keeps ty (extents.Array n) (Some i) s o = breaks _ _

-- ## What statements give

module _ (params : ℕ) (final : List Local) where
  -- a tree of statements in front of which n locals are declared, and m behind
  abbrev pub IsOne : tree.Stmt → ℕ → ℕ → Type 0
  IsOne t n m = IsStmt (scope params final n) t × (locals_behind t n ≡ m)

  abbrev AreAll : tree.Sections → ℕ → ℕ → Type 0
  AreAll ss n m = AreSections (scope params final n) ss × (sections_behind ss n ≡ m)

  abbrev IsStatement : TypedStmt → ℕ → ℕ → Type 0
  IsStatement t n m = IsOne (stmt_of t) n m

  abbrev pub AreStatements : List TypedStmt → ℕ → ℕ → Type 0
  AreStatements ts n m = IsOne (sequence_from (map stmt_of ts)) n m

  abbrev IsLabelled : Labelled → ℕ → ℕ → Type 0
  IsLabelled x n m = IsStatement x.stmt n m

  -- what stands in front of further sections
  abbrev IsSection : Section → ℕ → ℕ → Type 0
  IsSection x n m = (rest : tree.Sections) (k : ℕ) → AreAll rest m k → AreAll (section_of x rest) n k

  abbrev AreSectionsOf : List Section → ℕ → ℕ → Type 0
  AreSectionsOf xs n m = AreAll (sections_from (map section_of xs)) n m

  done : (x : TypedStmt-F TypedStmt Section) (n m : ℕ)
      → IsOne (stmt_layer (map-TypedStmt TypedStmt Section tree.Stmt (tree.Sections → tree.Sections) stmt_of section_of x)) n m → IsStatement
      (roll-TypedStmt x) n m
  done x n m ok = subst (λ t. IsOne t n m) (sym (fold-roll-TypedStmt tree.Stmt (tree.Sections → tree.Sections) stmt_layer section_layer x)) ok

  -- a tree that is good behind a statement is so at the place that the statement tells
  one_behind : (a b : tree.Stmt) (n m k : ℕ) → IsOne a n m → IsOne b m k → IsOne b (locals_behind a n) k
  one_behind a b n m k p q = subst (λ j. IsOne b j k) (sym p.1) q

  sequence : (t : TypedStmt) (ts : List TypedStmt) (n m k : ℕ) → IsStatement t n m → AreStatements ts m k → AreStatements (t ∷ ts) n k
  sequence t ts n m k p q = let r = one_behind (stmt_of t) (sequence_from (map stmt_of ts)) n m k p q in ((p.0, r.0), r.1)

  sequence_more : (ts us : List TypedStmt) (n m k : ℕ) → AreStatements ts n m → AreStatements us m k → AreStatements (ts ++ us) n k
  sequence_more [] us n m k p q = subst (λ j. AreStatements us j k) (sym p.1) q
  sequence_more (t ∷ ts) us n m k p q =
      sequence t (ts ++ us) n (locals_behind (stmt_of t) n) k (p.0.0, refl) (sequence_more ts us (locals_behind (stmt_of t) n) m k (p.0.1, p.1) q)

  section_good : (ls : List Label) (t : TypedStmt) (n m : ℕ) → IsStatement t n m → IsSection (rules.section (record { labels = ls; stmt = t })) n m
  section_good ls t n m p =
      subst (λ (f : tree.Sections → tree.Sections). (rest : tree.Sections) (k : ℕ) → AreAll rest m k → AreAll (f rest) n k)
      (sym (fold-roll-Section tree.Stmt (tree.Sections → tree.Sections) stmt_layer section_layer (record { labels = ls; body = t })))
      (λ rest k q. let r : AreAll rest (locals_behind (stmt_of t) n) k = subst (λ j. AreAll rest j k) (sym p.1) q in ((p.0, r.0), r.1))

  sections_more : (ts : List TypedStmt) (xs : List Section) (n m k : ℕ) → AreStatements ts n m → AreSectionsOf xs m k
      → AreSectionsOf (map (λ t. rules.section (rules.unlabelled t)) ts ++ xs) n k
  sections_more [] xs n m k p q = subst (λ j. AreSectionsOf xs j k) (sym p.1) q
  sections_more (t ∷ ts) xs n m k p q =
      section_good [] t n (locals_behind (stmt_of t) n) (p.0.0, refl) _ k (sections_more ts xs (locals_behind (stmt_of t) n) m k (p.0.1, p.1) q)

  -- ## Declarators

  initial_done : (extent : Extent) (value : Option TypedExpr) (place n : ℕ) → IsInitial extent (scope params final n) value → n ≡ suc place
      → is_some_array (slice_get final place) ≡ is_array extent → IsStatement (roll-TypedStmt (TypedStmt-F.Declaration place value)) place n
  initial_done extent None place n good next is = done (TypedStmt-F.Declaration place None) place n (refl, sym next)
  initial_done extent (Some e) place n good next is =
      done (TypedStmt-F.Declaration place (Some e)) place n
      ((refl, is ∙ good.0, subst (λ j. IsValue (scope params final j) e) next good.1), sym next)

  value_done : (ty : Ty) (extent : Extent) (init : Option Initialiser) (place : ℕ)
      → Does params final false (λ t n1 n2. (n1 ≡ suc place) → is_some_array (slice_get final place) ≡ is_array extent → IsStatement t place n2)
      (rules.local_value ty extent init >>= λ value. give (roll-TypedStmt (TypedStmt-F.Declaration place value)))
  value_done ty extent init place =
      after_good params final (IsInitial extent) (local_value_keeps ty extent init) (λ value.
      ends params final (roll-TypedStmt (TypedStmt-F.Declaration place value)) (λ n good next is. initial_done extent value place n good next is))

  -- the state with one more local, and its name
  abbrev with_local : List ℕ → Ty → Bool → Extent → Here → Here
  with_local name ty fixed extent h =
      bind name (bindings.Local (length h.locals) ty fixed extent) (record h
      { locals = h.locals ++ record { ty = ty; length = rules.length_in extent; name = name } ∷ [] })

  goes_local : (name : List ℕ) (ty : Ty) (fixed : Bool) (extent : Extent) → HasLength extent → (h : Here) → Sound params h
      → Goes params false h (with_local name ty fixed extent h)
  goes_local name ty fixed extent known h ok =
      let local : Local = record { ty = ty; length = rules.length_in extent; name = name } in
      let longer = length_push h.locals local in
      record {
        named = (
          (omega (arith, longer), ap is_some_array (slice_next h.locals [] local) ∙ known),
          all_wider params h.locals (h.locals ++ local ∷ []) (length (h.locals ++ local ∷ [])) (local ∷ [], refl)
              (omega (arith, longer)) h.names.declared ok.named,
        );
        within = (omega arith, ok.within);
        depth = refl;
        outside = outer_more h.names.depth (record {
          name = name;
          depth = h.names.depth;
          stands_for = bindings.Local
              (length h.locals) ty fixed extent;
        }) h.names.declared refl;
        front = (local ∷ [], refl);
        table = omega arith;
        still = λ q. absurd cc;
      }

  local_done : (name : List ℕ) (ty : Ty) (fixed : Bool) (extent : Extent) (init : Option Initialiser) → HasLength extent
      → Does params final false IsStatement
      (rules.new_local (record { ty = ty; length = rules.length_in extent; name = name }) >>= λ place.
      (change (bind name (bindings.Local place ty fixed extent)) >>= λ u.
      (rules.local_value ty extent init >>= λ value. give (roll-TypedStmt (TypedStmt-F.Declaration place value)))))
  local_done name ty fixed extent init known = record {
    by = λ h ok.
        let local : Local = record { ty = ty; length = rules.length_in extent; name = name } in
        let g = with_local name ty fixed extent h in
        let x = goes_local name ty fixed extent known h ok in
        led params final (λ t n1 n2. (n1 ≡ suc (length h.locals)) → is_some_array
        (slice_get final (length h.locals)) ≡ is_array extent → IsStatement t (length h.locals) n2) IsStatement h g x _
        ((value_done ty extent init (length h.locals)).by g (record { named = x.named; within = x.within }))
        (λ t k y front good.
        let whole : IsFront (h.locals ++ local ∷ []) final = front_then (h.locals ++ local ∷ []) k.locals final y.front front in
        let there : slice_get final (length h.locals) ≡ Some local =
        ap (λ l. slice_get l (length h.locals)) whole.1 ∙ ap (λ l. slice_get l (length h.locals)) (append_one h.locals local whole.0)
        ∙ slice_next h.locals whole.0 local in
        good (omega (arith, length_push h.locals local)) (ap is_some_array there ∙ known));
  }
    where
      append_one : (xs : List Local) (x : Local) (ys : List Local) → (xs ++ x ∷ []) ++ ys ≡ xs ++ x ∷ ys
      append_one [] x ys = refl
      append_one (z ∷ xs) x ys = ap (λ l. z ∷ l) (append_one xs x ys)

  declarator_does : (s : Specified) (d : Declarator) → Does params final false IsStatement (rules.declarator s d)
  declarator_does s d =
      after_fact params final Any (λ c o. tests (not (rules.is_function_shape d.shape)) d.name.line kinds.Specifiers) (λ u a0.
      after_fact params final Any (value_type_keeps d.name.line s.ty) (λ ty a1.
      after_fact params final HasLength (local_extent_keeps d.name.line d.shape) (λ extent known.
      after_fact params final Any (λ c o. knows (bound_here d.name.name)) (λ old a3.
      after_fact params final Any (λ c o. tests (is_none old) d.name.line kinds.Redeclared) (λ u1 a4.
      local_done d.name.name ty s.fixed extent d.initialiser known)))))

  declarators_do : (s : Specified) (ds : List Declarator) → Does params final false AreStatements (rules.declarators s ds)
  declarators_do s [] = ends params final [] (λ n. (tt, refl))
  declarators_do s (d ∷ ds) =
      followed_by params final (declarator_does s d) (λ x. followed_by params final (declarators_do s ds) (λ xs.
      ends params final (x ∷ xs) (λ k m qs n q. sequence x xs n m k q qs)))

  declaration_does : (d : Declaration) → Does params final false AreStatements (rules.declaration d)
  declaration_does d =
      after_fact params final Any (λ c o. specifying_keeps c o d.specifiers sites.Block) (λ s a0.
      after_fact params final Any (λ c o. tests (rules.declares s d.declarators) d.specifiers.line kinds.Specifiers) (λ u a1. declarators_do s d.declarators))

  declarations_do : (ds : List Declaration) → Does params final false AreStatements (rules.declarations ds)
  declarations_do [] = ends params final [] (λ n. (tt, refl))
  declarations_do (d ∷ ds) =
      followed_by params final (declaration_does d) (λ ts. followed_by params final (declarations_do ds) (λ us.
      ends params final (ts ++ us) (λ k m qs n q. sequence_more ts us n m k q qs)))

  -- ## Statements

  pub record RuledDoes (r : Ruled) : Type 0 where
    pub stmt : (a : Around) → Does params final true IsStatement (r.stmt a)
    pub body : (a : Around) (ty : Ty) → Does params final true AreSectionsOf (r.body a ty)
    pub item : (a : Around) (ty : Ty) → Does params final true IsLabelled (r.item a ty)
    pub section : (a : Around) (ty : Ty) → Does params final true IsSection (r.section a ty)

  pub record BlockedDoes (b : Blocked) : Type 0 where
    pub statements : (a : Around) → Does params final false AreStatements (b.statements a)
    pub sections : (a : Around) (ty : Ty) → Does params final false AreSectionsOf (b.sections a ty)

  abbrev pub AllDo : List Ruled → Type 0
  AllDo [] = ⊤
  AllDo (r ∷ rs) = RuledDoes r × AllDo rs

  statements_do : (a : Around) (rs : List Ruled) → AllDo rs → Does params final true AreStatements (rules.statements a rs)
  statements_do a [] ok = ends params final [] (λ n. (tt, refl))
  statements_do a (r ∷ rs) ok =
      followed_by params final (ok.0.stmt a) (λ x. followed_by params final (statements_do a rs ok.1) (λ xs.
      ends params final (x ∷ xs) (λ k m qs n q. sequence x xs n m k q qs)))

  sections_do : (a : Around) (ty : Ty) (rs : List Ruled) → AllDo rs → Does params final true AreSectionsOf (rules.sections a ty rs)
  sections_do a ty [] ok = ends params final [] (λ n. (tt, refl))
  sections_do a ty (r ∷ rs) ok =
      followed_by params final (ok.0.section a ty) (λ x. followed_by params final (sections_do a ty rs ok.1) (λ xs.
      ends params final (x ∷ xs) (λ k m qs n q. q (sections_from (map section_of xs)) k qs)))

  pub block_does : (b : Block-F Ruled Blocked) → AllDo b.statements → BlockedDoes (rules.block b)
  block_does b ok = record {
    statements = λ a.
        followed_by params final (declarations_do b.declarations) (λ ds. followed_by params final (loud params final (statements_do a b.statements ok)) (λ ss.
        ends params final (ds ++ ss) (λ k m qs n q. sequence_more ds ss n m k q qs)));
    sections = λ a ty.
        followed_by params final (declarations_do b.declarations) (λ ds. followed_by params final
        (loud params final (sections_do a ty b.statements ok)) (λ ss.
        ends params final (map (λ t. rules.section (rules.unlabelled t)) ds ++ ss) (λ k m qs n q. sections_more ds ss n m k q qs)));
  }

  abbrev pub StmtParts : Stmt-F Ruled Blocked → Type 0
  StmtParts (Stmt-F.Block b) = BlockedDoes b
  StmtParts (Stmt-F.Empty l) = ⊤
  StmtParts (Stmt-F.Expression e) = ⊤
  StmtParts (Stmt-F.If l c s) = RuledDoes s
  StmtParts (Stmt-F.IfElse l c s t) = RuledDoes s × RuledDoes t
  StmtParts (Stmt-F.Switch l e s) = RuledDoes s
  StmtParts (Stmt-F.While l c s) = RuledDoes s
  StmtParts (Stmt-F.Do l s c) = RuledDoes s
  StmtParts (Stmt-F.For l first c step s) = RuledDoes s
  StmtParts (Stmt-F.Case l e s) = RuledDoes s
  StmtParts (Stmt-F.Default l s) = RuledDoes s
  StmtParts (Stmt-F.Break l) = ⊤
  StmtParts (Stmt-F.Continue l) = ⊤
  StmtParts (Stmt-F.Return l e) = ⊤

  returned_does : (line : ℕ) (ty : Option Ty) (e : Expr) → Does params final true IsStatement (rules.returned line ty e)
  returned_does line None e = refused params final line kinds.ReturnValue
  returned_does line (Some ty) e =
      after_good params final IsValued (value_keeps e) (λ v. ends params final _ (λ n good.
      done (TypedStmt-F.Return (Some (converted ty v))) n n (converted_value (scope params final n) ty v good, refl)))

  stmt_does : (x : Stmt-F Ruled Blocked) → StmtParts x → (a : Around) → Does params final true IsStatement (rules.stmt_layer x a)
  stmt_does (Stmt-F.Block b) ok a =
      followed_by params final (scoped_does params final (ok.statements a)) (λ ss. ends params final _ (λ m n q. done (TypedStmt-F.Block ss) n m q))
  stmt_does (Stmt-F.Empty l) ok a = ends params final _ (λ n. done TypedStmt-F.Empty n n (tt, refl))
  stmt_does (Stmt-F.Expression e) ok a =
      after_good params final IsTyped (λ s o. (typing_keeps s o e).typed) (λ t. ends params final _ (λ n good.
      done (TypedStmt-F.Expression t.expr) n n (good.0, refl)))
  stmt_does (Stmt-F.If l c s) ok a =
      after_good params final IsValued (value_keeps c) (λ v. followed_by params final (ok.stmt a) (λ t. ends params final _ (λ m n q good.
      done (TypedStmt-F.If v.expr t) n m ((value_of (scope params final n) v good, q.0), q.1))))
  stmt_does (Stmt-F.IfElse l c s t) ok a =
      after_good params final IsValued (value_keeps c) (λ v. followed_by params final (ok.0.stmt a) (λ x. followed_by params final (ok.1.stmt a) (λ y.
      ends params final _ (λ k m qy n qx good.
      let r = one_behind (stmt_of x) (stmt_of y) n m k qx qy in
      done (TypedStmt-F.IfElse v.expr x y) n k ((value_of (scope params final n) v good, qx.0, r.0), r.1)))))
  stmt_does (Stmt-F.Switch l e s) ok a =
      after_good params final IsValued (value_keeps e) (λ v.
      followed_by params final (labelling_does params final (ok.body (rules.in_switch a) (promote v.ty))) (λ xs. ends params final _ (λ m n q good.
      done (TypedStmt-F.Switch (converted (promote v.ty) v) xs) n m ((converted_value (scope params final n) (promote v.ty) v good, q.0), q.1))))
  stmt_does (Stmt-F.While l c s) ok a =
      after_good params final IsValued (value_keeps c) (λ v. followed_by params final (ok.stmt (rules.in_loop a)) (λ t. ends params final _ (λ m n q good.
      done (TypedStmt-F.While v.expr t) n m ((value_of (scope params final n) v good, q.0), q.1))))
  stmt_does (Stmt-F.Do l s c) ok a =
      then_outside params final (λ (t : TypedStmt) (v : Valued). roll-TypedStmt (TypedStmt-F.Do t v.expr)) IsValued (ok.stmt (rules.in_loop a))
      (value_keeps c)
      (λ t v n m q good. done (TypedStmt-F.Do t v.expr) n m ((q.0, value_of (scope params final n) v good), q.1))
  stmt_does (Stmt-F.For l first c step s) ok a =
      after_good params final IsHead (for_head_keeps first c step) (λ h. followed_by params final (ok.stmt (rules.in_loop a))
      (λ t. ends params final _ (λ m n q good.
      done (TypedStmt-F.For h.first h.condition h.step t) n m ((good.0, good.1, good.2, q.0), q.1))))
  stmt_does (Stmt-F.Case l e s) ok a = refused params final l kinds.CaseOutside
  stmt_does (Stmt-F.Default l s) ok a = refused params final l kinds.CaseOutside
  stmt_does (Stmt-F.Break l) ok a =
      after_fact params final Any (λ s o. tests a.breaks l kinds.BreakOutside) (λ u any. ends params final _ (λ n. done TypedStmt-F.Break n n (tt, refl)))
  stmt_does (Stmt-F.Continue l) ok a =
      after_fact params final Any (λ s o. tests a.continues l kinds.ContinueOutside)
      (λ u any. ends params final _ (λ n. done TypedStmt-F.Continue n n (tt, refl)))
  stmt_does (Stmt-F.Return l None) ok a = ends params final _ (λ n. done (TypedStmt-F.Return None) n n (tt, refl))
  stmt_does (Stmt-F.Return l (Some e)) ok a = returned_does l a.result e

  -- ## The body of a switch

  plain_body : (x : Stmt-F Ruled Blocked) → StmtParts x → (a : Around)
      → Does params final true AreSectionsOf (rules.stmt_layer x a >>= λ t. give (rules.section (rules.unlabelled t) ∷ []))
  plain_body x ok a =
      followed_by params final (stmt_does x ok a) (λ t. ends params final (rules.section (rules.unlabelled t) ∷ []) (λ m n q.
      section_good [] t n m q tree.End m (tt, refl)))

  body_does : (x : Stmt-F Ruled Blocked) → StmtParts x → (a : Around) (ty : Ty) → Does params final true AreSectionsOf (rules.body_layer x a ty)
  body_does (Stmt-F.Block b) ok a ty = scoped_does params final (ok.sections a ty)
  body_does (Stmt-F.Empty l) ok a ty = plain_body (Stmt-F.Empty l) ok a
  body_does (Stmt-F.Expression e) ok a ty = plain_body (Stmt-F.Expression e) ok a
  body_does (Stmt-F.If l c s) ok a ty = plain_body (Stmt-F.If l c s) ok a
  body_does (Stmt-F.IfElse l c s t) ok a ty = plain_body (Stmt-F.IfElse l c s t) ok a
  body_does (Stmt-F.Switch l e s) ok a ty = plain_body (Stmt-F.Switch l e s) ok a
  body_does (Stmt-F.While l c s) ok a ty = plain_body (Stmt-F.While l c s) ok a
  body_does (Stmt-F.Do l s c) ok a ty = plain_body (Stmt-F.Do l s c) ok a
  body_does (Stmt-F.For l first c step s) ok a ty = plain_body (Stmt-F.For l first c step s) ok a
  body_does (Stmt-F.Case l e s) ok a ty = plain_body (Stmt-F.Case l e s) ok a
  body_does (Stmt-F.Default l s) ok a ty = plain_body (Stmt-F.Default l s) ok a
  body_does (Stmt-F.Break l) ok a ty = plain_body (Stmt-F.Break l) ok a
  body_does (Stmt-F.Continue l) ok a ty = plain_body (Stmt-F.Continue l) ok a
  body_does (Stmt-F.Return l e) ok a ty = plain_body (Stmt-F.Return l e) ok a

  plain_item : (x : Stmt-F Ruled Blocked) → StmtParts x → (a : Around)
      → Does params final true IsLabelled (rules.stmt_layer x a >>= λ t. give (rules.unlabelled t))
  plain_item x ok a = followed_by params final (stmt_does x ok a) (λ t. ends params final (rules.unlabelled t) (λ m n q. q))

  item_does : (x : Stmt-F Ruled Blocked) → StmtParts x → (a : Around) (ty : Ty) → Does params final true IsLabelled (rules.item_layer x a ty)
  item_does (Stmt-F.Block b) ok a ty = plain_item (Stmt-F.Block b) ok a
  item_does (Stmt-F.Empty l) ok a ty = plain_item (Stmt-F.Empty l) ok a
  item_does (Stmt-F.Expression e) ok a ty = plain_item (Stmt-F.Expression e) ok a
  item_does (Stmt-F.If l c s) ok a ty = plain_item (Stmt-F.If l c s) ok a
  item_does (Stmt-F.IfElse l c s t) ok a ty = plain_item (Stmt-F.IfElse l c s t) ok a
  item_does (Stmt-F.Switch l e s) ok a ty = plain_item (Stmt-F.Switch l e s) ok a
  item_does (Stmt-F.While l c s) ok a ty = plain_item (Stmt-F.While l c s) ok a
  item_does (Stmt-F.Do l s c) ok a ty = plain_item (Stmt-F.Do l s c) ok a
  item_does (Stmt-F.For l first c step s) ok a ty = plain_item (Stmt-F.For l first c step s) ok a
  item_does (Stmt-F.Case l e s) ok a ty =
      after_fact params final Any (constant_word_keeps e) (λ w a0.
      after_fact params final Any (new_case_keeps l (convert ty w)) (λ u a1.
      followed_by params final (ok.item a ty) (λ x. ends params final (record
      { labels = labels.Case (record { 0 = convert ty w }) ∷ x.labels; stmt = x.stmt }) (λ m n q. q))))
  item_does (Stmt-F.Default l s) ok a ty =
      after_fact params final Any (new_default_keeps l) (λ u a1.
      followed_by params final (ok.item a ty) (λ x. ends params final (record { labels = labels.Default ∷ x.labels; stmt = x.stmt }) (λ m n q. q)))
  item_does (Stmt-F.Break l) ok a ty = plain_item (Stmt-F.Break l) ok a
  item_does (Stmt-F.Continue l) ok a ty = plain_item (Stmt-F.Continue l) ok a
  item_does (Stmt-F.Return l e) ok a ty = plain_item (Stmt-F.Return l e) ok a

  section_does : (x : Stmt-F Ruled Blocked) → StmtParts x → (a : Around) (ty : Ty) → Does params final true IsSection (rules.section_layer x a ty)
  section_does x ok a ty =
      followed_by params final (item_does x ok a ty) (λ y. ends params final (rules.section y) (λ m n q. section_good y.labels y.stmt n m q))

  pub statement_does : (x : Stmt-F Ruled Blocked) → StmtParts x → RuledDoes (rules.statement x)
  statement_does x ok = record { stmt = stmt_does x ok; body = body_does x ok; item = item_does x ok; section = section_does x ok }

  -- ## The trees

  abbrev GoodStmt : Stmt → Type 0
  GoodStmt s = RuledDoes (rules.ruling s)

  abbrev GoodBlock : Block → Type 0
  GoodBlock b = BlockedDoes (rules.blocking b)

  stmt_by : (x : Stmt-F Stmt Block) → StmtParts (map-Stmt Stmt Block Ruled Blocked rules.ruling rules.blocking x) → GoodStmt (roll-Stmt x)
  stmt_by x ok =
      subst RuledDoes (sym (fold-roll-Stmt Ruled Blocked rules.statement rules.block x))
      (statement_does (map-Stmt Stmt Block Ruled Blocked rules.ruling rules.blocking x) ok)

  block_by : (x : Block-F Stmt Block) → AllDo (map-Block Stmt Block Ruled Blocked rules.ruling rules.blocking x).statements → GoodBlock (roll-Block x)
  block_by x ok =
      subst BlockedDoes (sym (fold-roll-Block Ruled Blocked rules.statement rules.block x))
      (block_does (map-Block Stmt Block Ruled Blocked rules.ruling rules.blocking x) ok)

  abbrev S : Type 0
  S = (s : Stmt) × GoodStmt s

  abbrev B : Type 0
  B = (b : Block) × GoodBlock b

  all_good : (ss : List S) → AllDo (map rules.ruling (map (λ s. s.0) ss))
  all_good [] = tt
  all_good (s ∷ ss) = (s.1, all_good ss)

  stmt_step : (y : Stmt-F S B) → GoodStmt (roll-Stmt (map-Stmt S B Stmt Block (λ s. s.0) (λ b. b.0) y))
  stmt_step (Stmt-F.Block b) = stmt_by (Stmt-F.Block b.0) b.1
  stmt_step (Stmt-F.Empty l) = stmt_by (Stmt-F.Empty l) tt
  stmt_step (Stmt-F.Expression e) = stmt_by (Stmt-F.Expression e) tt
  stmt_step (Stmt-F.If l c s) = stmt_by (Stmt-F.If l c s.0) s.1
  stmt_step (Stmt-F.IfElse l c s t) = stmt_by (Stmt-F.IfElse l c s.0 t.0) (s.1, t.1)
  stmt_step (Stmt-F.Switch l e s) = stmt_by (Stmt-F.Switch l e s.0) s.1
  stmt_step (Stmt-F.While l c s) = stmt_by (Stmt-F.While l c s.0) s.1
  stmt_step (Stmt-F.Do l s c) = stmt_by (Stmt-F.Do l s.0 c) s.1
  stmt_step (Stmt-F.For l first c step s) = stmt_by (Stmt-F.For l first c step s.0) s.1
  stmt_step (Stmt-F.Case l e s) = stmt_by (Stmt-F.Case l e s.0) s.1
  stmt_step (Stmt-F.Default l s) = stmt_by (Stmt-F.Default l s.0) s.1
  stmt_step (Stmt-F.Break l) = stmt_by (Stmt-F.Break l) tt
  stmt_step (Stmt-F.Continue l) = stmt_by (Stmt-F.Continue l) tt
  stmt_step (Stmt-F.Return l e) = stmt_by (Stmt-F.Return l e) tt

  block_step : (y : Block-F S B) → GoodBlock (roll-Block (map-Block S B Stmt Block (λ s. s.0) (λ b. b.0) y))
  block_step y = block_by (record { line = y.line; declarations = y.declarations; statements = map (λ s. s.0) y.statements }) (all_good y.statements)

  pub blocking_does : (b : Block) → BlockedDoes (rules.blocking b)
  blocking_does b =
      ind-Block GoodStmt GoodBlock (λ x y is. subst (λ z. GoodStmt (roll-Stmt z)) is (stmt_step y))
      (λ x y is. subst (λ z. GoodBlock (roll-Block z)) is (block_step y)) b
