-- The code of a statement is valid where that of what follows is, and where `break` and `continue` lead on.
use Rattle.std.proofs.Common.{◌≡◌, ℕ, suc, ◌<◌, ◌≤◌, Bool, true, false, if◌then◌else◌, List, [], ◌∷◌, length, Option, Some, None, refl, ◌∙◌, arith}
use Rattle.std.specs.Prelude.{IsTrue}
use Rattle.il_core.specs.declared.instr.End.{End}
use Rattle.il_core.specs.declared.instr.End.TheVariants as ends
use Rattle.il_core.specs.declared.shape.ShapeRow.{ShapeRow}
use Rattle.il_core.specs.Routine.{RoutineParts}
use Rattle.il_core.specs.Valid.{IsValidEnd}
use Rattle.c_typed.specs.declared.expression.Variable.TheVariants as variables
use Rattle.c_typed.specs.declared.statement.Label.{Label}
use Rattle.c_typed.specs.declared.statement.Label.TheVariants as labels
use Rattle.c_typed.specs.Expressions.{Whole}
use Rattle.c_typed.specs.Statements.{is_default}
use Rattle.c_typed.specs.Trees as tree
use Rattle.c_typed.specs.Trees.{Expr, Stmt, Sections}
use Rattle.lower_laws.specs.Bound.{Scope}
use Rattle.lower_laws.specs.Code.{Code, Numbers, past_instr, past_end, past_new, past_label}
use Rattle.lower_laws.specs.Expressions.{past, result}
use Rattle.lower_laws.specs.Fits.{FitsOptional, Around, in_loop, in_switch, FitsStmt, FitsSections}
use Rattle.lower_laws.specs.Layouts.{Layout}
use Rattle.lower_laws.specs.Statements.{optional_past, optional_open, optional_code, condition_past, condition_code, no_value_past, no_value_code}
use Rattle.lower_laws.specs.Statements.{local_past, open_behind, sections_open, stmt_past, sections_past, section_block, tests_code, stmt_code}
use Rattle.lower_laws.specs.Statements.{sections_code}
use Rattle.lower_laws.specs.Switches.{labels_past, labels_open, labels_code, label_block, test_past, label_tests_past, tests_past, label_tests}
use Rattle.lower_laws.proofs.Fine.{FineOptional, FineCondition, Fine, FineSections}
use Rattle.lower_laws.proofs.Growing.{grow, grow_label}
use Rattle.lower_laws.proofs.Passing.{IsPast, past_either, label_is_past}
use Rattle.lower_laws.proofs.Sizes.{local_same}
use Rattle.lower_laws.proofs.Stands.{HasRoom, Stands, block_below, stands_same, stands_put, stands_close, stands_label, valid_store}
use Rattle.lower_laws.proofs.StatementsGrow.{grow_optional, grow_condition, grow_labels, grow_label_tests, grow_tests, grow_stmt, grow_sections}
use Rattle.lower_laws.proofs.StatementsGrow.{past_stmt, past_sections}
use Rattle.lower_laws.proofs.ValidExpressions.{there, stands_expr}

-- what is past a label is past the place before it
before_label : (opened : Bool) (n : Numbers) (t : ℕ) → (past_label opened n).block < t → IsPast opened n.block t
before_label true n t lt = omega arith
before_label false n t lt = omega arith

if_within : (b : Bool) (lo hi x z : ℕ) → (lo ≤ x) × (x < hi) → (lo ≤ z) × (z < hi) → (lo ≤ (if b then x else z)) × ((if b then x else z) < hi)
if_within true lo hi x z p q = p
if_within false lo hi x z p q = q

-- the block of a label lies between the first and the last
label_within : (is : Label → Bool) (ls : List Label) (opened : Bool) (n : Numbers) (none lo hi : ℕ) → lo ≤ n.block
    → (labels_past ls opened n).block < hi → (lo ≤ none) × (none < hi)
    → (lo ≤ label_block is ls opened n none) × (label_block is ls opened n none < hi)
label_within is [] opened n none lo hi le lt h = h
label_within is (l ∷ ls) opened n none lo hi le lt h =
    let n1 = past_label opened n in
    let g = grow_label opened n in
    if_within (is l) lo hi n1.block (label_block is ls true n1 none) (omega (arith, g.block), omega (arith, (grow_labels ls true n1).block))
    (label_within is ls true n1 none lo hi (omega (arith, g.block)) lt h)

module _ (rows : List ShapeRow) (r : RoutineParts) (y : Layout) (s : Scope) (room : HasRoom r y s) where
  section_within : (is : Label → Bool) (ss : Sections) (opened : Bool) (n : Numbers) (none lo hi : ℕ) → lo ≤ n.block
      → (sections_past y.outline ss opened n).block < hi → (lo ≤ none) × (none < hi)
      → (lo ≤ section_block y.outline is ss opened n none) × (section_block y.outline is ss opened n none < hi)
  section_within is tree.End opened n none lo hi le lt h = h
  section_within is (tree.Section ls st rest) opened n none lo hi le lt h =
      let inside = labels_open ls opened in
      let n1 = labels_past ls opened n in
      let n2 = stmt_past y.outline st inside n1 in
      let g1 = grow_labels ls opened n in
      let g2 = grow_stmt y.outline st inside n1 in
      let g3 = grow_sections y.outline rest (open_behind st inside) n2 in
      label_within is ls opened n (section_block y.outline is rest (open_behind st inside) n2 none) lo hi le (omega (arith, g2.block, g3.block))
      (section_within is rest (open_behind st inside) n2 none lo hi (omega (arith, g1.block, g2.block)) lt h)

  -- where an end leads from any block from lo on, and before what stands behind a statement
  abbrev pub LeadsOn : Bool → ℕ → ℕ → End → Type 0
  LeadsOn opened lo hi (ends.Jump t) = IsPast opened hi t × (t < length r.blocks)
  LeadsOn opened lo hi (ends.Branch x t u) = ⊥
  LeadsOn opened lo hi (ends.Loop t) = t ≤ lo
  LeadsOn opened lo hi (ends.Return x) = ⊥
  LeadsOn opened lo hi (ends.Exit x) = ⊥

  leads_less : (p : End) (opened opened1 : Bool) (lo lo1 hi hi1 : ℕ) → lo ≤ lo1 → ((t : ℕ) → IsPast opened hi t → IsPast opened1 hi1 t)
      → LeadsOn opened lo hi p → LeadsOn opened1 lo1 hi1 p
  leads_less (ends.Jump t) opened opened1 lo lo1 hi hi1 le go h = (go t h.0, h.1)
  leads_less (ends.Branch x t u) opened opened1 lo lo1 hi hi1 le go h = absurd h
  leads_less (ends.Loop t) opened opened1 lo lo1 hi hi1 le go h = omega (arith, h, le)
  leads_less (ends.Return x) opened opened1 lo lo1 hi hi1 le go h = absurd h
  leads_less (ends.Exit x) opened opened1 lo lo1 hi hi1 le go h = absurd h

  -- an end that is asked for leads on
  pub record Way (asked opened : Bool) (lo hi : ℕ) (p : End) : Type 0 where
    pub by : IsTrue asked → LeadsOn opened lo hi p

  way_less : {asked : Bool} (p : End) (opened opened1 : Bool) (lo lo1 hi hi1 : ℕ) → lo ≤ lo1
      → ((t : ℕ) → IsPast opened hi t → IsPast opened1 hi1 t) → Way asked opened lo hi p → Way asked opened1 lo1 hi1 p
  way_less p opened opened1 lo lo1 hi hi1 le go h = record { by = λ asked. leads_less p opened opened1 lo lo1 hi hi1 le go (h.by asked) }

  -- `break` and `continue`
  valid_way : (p : End) (b : ℕ) → LeadsOn false b (suc b) p → IsValidEnd r.regs r.value (length r.blocks) b p
  valid_way (ends.Jump t) b h = (omega (arith, h.0), h.1)
  valid_way (ends.Branch x t u) b h = absurd h
  valid_way (ends.Loop t) b h = h
  valid_way (ends.Return x) b h = absurd h
  valid_way (ends.Exit x) b h = absurd h

  stands_no_value : {k : Code} (v : Bool) (n : Numbers) → r.value ≡ v → (no_value_past v n).reg ≤ r.regs → Stands rows r (no_value_past v n) k
      → Stands rows r n (no_value_code v n k)
  stands_no_value false n e top h = stands_close rows r n (past_end n) refl (tt, e) h
  stands_no_value true n e top h =
      stands_put rows r n (past_new n) refl (omega (arith, top)) (stands_close rows r (past_new n) (past_end (past_new n)) refl (omega (arith, top), e) h)

  stands_optional : {k : Code} (e : Option Expr) (n : Numbers) → FineOptional y s e n → FitsOptional rows e → (optional_past e n).reg ≤ r.regs
      → Stands rows r (optional_past e n) k → Stands rows r n (optional_code y e n k)
  stands_optional None n fine fit top h = h
  stands_optional (Some e) n fine fit top h = stands_expr rows r y s room e n fine.bound fit top h

  stands_condition : {k : Code} (e : Option Expr) (n : Numbers) (a b : ℕ) → FineCondition y s e n → FitsOptional rows e
      → (condition_past e n).reg ≤ r.regs → a ≡ (condition_past e n).block → ((condition_past e n).block ≤ b) × (b < length r.blocks)
      → Stands rows r (condition_past e n) k → Stands rows r n (condition_code y e n a b k)
  stands_condition None n a b fine fit top same far h =
      stands_close rows r n (past_end n) refl (omega (arith, same), omega (arith, same, block_below rows r h)) h
  stands_condition (Some e) n a b fine fit top same far h =
      stands_expr rows r y s room e n fine.bound fit top
      (stands_close rows r (past e n) (past_end (past e n)) refl
      (there rows r y s room e n fine.bound fine.has top, (omega (arith, same), omega (arith, same, block_below rows r h)), (omega (arith, far.0), far.1)) h)

  stands_labels : {k : Code} (ls : List Label) (opened : Bool) (n : Numbers) → Stands rows r (labels_past ls opened n) k
      → Stands rows r n (labels_code ls opened n k)
  stands_labels [] opened n h = h
  stands_labels (l ∷ ls) opened n h = stands_label rows r opened n (stands_labels ls true (past_label opened n) h)

  -- tests of cases lead to the labels, which come later
  stands_label_tests : {k : Code} (z : ℕ) (ls : List Label) (opened : Bool) (at n : Numbers) → z < r.regs → (label_tests_past ls n).reg ≤ r.regs
      → (label_tests_past ls n).block < at.block → (labels_past ls opened at).block < length r.blocks
      → Stands rows r (label_tests_past ls n) k → Stands rows r n (label_tests z ls opened at n k)
  stands_label_tests z [] opened at n lz top lt far h = h
  stands_label_tests z (labels.Case c ∷ ls) opened at n lz top lt far h =
      let n1 = test_past n in
      let at1 = past_label opened at in
      let g = grow_label_tests ls n1 in
      let gl = grow_label opened at in
      let two : suc (suc n.reg) ≤ r.regs = omega (arith, g.reg, top) in
      let rest = stands_label_tests z ls true at1 n1 lz top (omega (arith, lt, gl.block)) far h in
      stands_put rows r n (past_new n) refl (omega (arith, two))
      (stands_put rows r (past_new n) (past_new (past_new n)) refl (two, lz, omega (arith, two))
      (stands_close rows r (past_new (past_new n)) n1 refl
      (two, (omega (arith, g.block, lt, gl.block), omega (arith, (grow_labels ls true at1).block, far)), (omega arith, block_below rows r rest)) rest))
  stands_label_tests z (labels.Default ∷ ls) opened at n lz top lt far h =
      stands_label_tests z ls true (past_label opened at) n lz top (omega (arith, lt, (grow_label opened at).block)) far h

  stands_tests : {k : Code} (z : ℕ) (ss : Sections) (opened : Bool) (at n : Numbers) → z < r.regs → (tests_past ss n).reg ≤ r.regs
      → (tests_past ss n).block < at.block → (sections_past y.outline ss opened at).block < length r.blocks
      → Stands rows r (tests_past ss n) k → Stands rows r n (tests_code y z ss opened at n k)
  stands_tests z tree.End opened at n lz top lt far h = h
  stands_tests z (tree.Section ls st rest) opened at n lz top lt far h =
      let inside = labels_open ls opened in
      let at1 = labels_past ls opened at in
      let at2 = stmt_past y.outline st inside at1 in
      let n1 = label_tests_past ls n in
      let g = grow_tests rest n1 in
      let g1 = grow_labels ls opened at in
      let g2 = grow_stmt y.outline st inside at1 in
      let g3 = grow_sections y.outline rest (open_behind st inside) at2 in
      stands_label_tests z ls opened at n lz (omega (arith, g.reg, top)) (omega (arith, g.block, lt)) (omega (arith, g2.block, g3.block, far))
      (stands_tests z rest (open_behind st inside) at2 n1 lz top (omega (arith, lt, g1.block, g2.block)) far h)

  mutual
    pub stands_stmt : {k : Code} (a : Around) (st : Stmt) (p q : End) (opened : Bool) (n : Numbers) → r.value ≡ a.value → Fine y s st opened n
        → FitsStmt rows a st → Way a.breaks (open_behind st opened) n.block (stmt_past y.outline st opened n).block p
        → Way a.continues (open_behind st opened) n.block (stmt_past y.outline st opened n).block q
        → (stmt_past y.outline st opened n).reg ≤ r.regs → Stands rows r (stmt_past y.outline st opened n) k
        → Stands rows r n (stmt_code y p q st opened n k)
    stands_stmt a tree.Empty p q opened n v fine fit bp bq top h = h
    stands_stmt a (tree.Sequence x z) p q opened n v fine fit bp bq top h =
        let o = y.outline in
        let o1 = open_behind x opened in
        let o2 = open_behind z o1 in
        let n1 = stmt_past o x opened n in
        let n2 = stmt_past o z o1 n1 in
        let g1 = grow_stmt o x opened n in
        let g2 = grow_stmt o z o1 n1 in
        let first = λ (e : End) (asked : Bool) (w : Way asked o2 n.block n2.block e).
        way_less e o2 o1 n.block n.block n2.block n1.block (omega arith) (λ t later. past_stmt o z o1 n1 t later) w in
        let second = λ (e : End) (asked : Bool) (w : Way asked o2 n.block n2.block e).
        way_less e o2 o2 n.block n1.block n2.block n2.block g1.block (λ t later. later) w in
        stands_stmt a x p q opened n v fine.0 fit.0 (first p a.breaks bp) (first q a.continues bq) (omega (arith, g2.reg, top))
        (stands_stmt a z p q o1 n1 v fine.1 fit.1 (second p a.breaks bp) (second q a.continues bq) top h)
    stands_stmt a (tree.Declaration z None) p q opened n v fine fit bp bq top h =
        stands_same rows r n (local_past (y.outline.is_array z) n) (local_same (y.outline.is_array z) n).1 h
    stands_stmt a (tree.Declaration z (Some e)) p q opened n v fine fit bp bq top h =
        let n1 = local_past (y.outline.is_array z) n in
        stands_same rows r n n1 (local_same (y.outline.is_array z) n).1
        (stands_expr rows r y s room e n1 fine.1.bound fit top
        (stands_put rows r (past e n1) (past_instr (past e n1)) refl
        (valid_store rows r y s room (Whole (variables.Local z)) (result e n1) fine.0 (there rows r y s room e n1 fine.1.bound fine.1.has top)) h))
    stands_stmt a (tree.Expression e) p q opened n v fine fit bp bq top h = stands_expr rows r y s room e n fine.bound fit top h
    stands_stmt a (tree.If e x) p q opened n v fine fit bp bq top h =
        let o = y.outline in
        let test = past e n in
        let n1 = past_end test in
        let o1 = open_behind x true in
        let n2 = stmt_past o x true n1 in
        let n3 = past_label o1 n2 in
        let g0 = grow e n in
        let g1 = grow_stmt o x true n1 in
        let g2 = grow_label o1 n2 in
        let inner = λ (d : End) (asked : Bool) (w : Way asked true n.block n3.block d).
        way_less d true o1 n.block n1.block n3.block n2.block (omega (arith, g0.block)) (λ t later. before_label o1 n2 t later) w in
        let hx = stands_stmt a x p q true n1 v fine.1 fit.1 (inner p a.breaks bp) (inner q a.continues bq) (omega (arith, g2.reg, top))
        (stands_label rows r o1 n2 h) in
        let le : test.reg ≤ r.regs = omega (arith, g1.reg, g2.reg, top) in
        stands_expr rows r y s room e n fine.0.bound fit.0 le
        (stands_close rows r test n1 refl (
          there rows r y s room e n fine.0.bound fine.0.has le,
          (omega arith, block_below rows r hx),
          (omega (arith, g1.block, g2.block), block_below rows r h),
        ) hx)
    stands_stmt a (tree.IfElse e x z) p q opened n v fine fit bp bq top h =
        let o = y.outline in
        let test = past e n in
        let n1 = past_end test in
        let o1 = open_behind x true in
        let m1 = stmt_past o x true n1 in
        let n2 = past_end m1 in
        let o2 = open_behind z true in
        let m2 = stmt_past o z true n2 in
        let n3 = past_label o2 m2 in
        let g0 = grow e n in
        let g1 = grow_stmt o x true n1 in
        let g2 = grow_stmt o z true n2 in
        let g3 = grow_label o2 m2 in
        let first = λ (d : End) (asked : Bool) (w : Way asked true n.block n3.block d).
        way_less d true o1 n.block n1.block n3.block m1.block (omega (arith, g0.block))
        (λ t later. past_either o1 m1.block t (omega (arith, later, g2.block, g3.block))) w in
        let second = λ (d : End) (asked : Bool) (w : Way asked true n.block n3.block d).
        way_less d true o2 n.block n2.block n3.block m2.block (omega (arith, g0.block, g1.block)) (λ t later. before_label o2 m2 t later) w in
        let hz = stands_stmt a z p q true n2 v fine.2 fit.2 (second p a.breaks bp) (second q a.continues bq) (omega (arith, g3.reg, top))
        (stands_label rows r o2 m2 h) in
        let hj = stands_close rows r {e = ends.Jump n3.block} m1 n2 refl (omega (arith, g2.block, g3.block), block_below rows r h) hz in
        let hx = stands_stmt a x p q true n1 v fine.1 fit.1 (first p a.breaks bp) (first q a.continues bq) (omega (arith, g2.reg, g3.reg, top)) hj in
        let le : test.reg ≤ r.regs = omega (arith, g1.reg, g2.reg, g3.reg, top) in
        stands_expr rows r y s room e n fine.0.bound fit.0 le
        (stands_close rows r test n1 refl
        (there rows r y s room e n fine.0.bound fine.0.has le, (omega arith, block_below rows r hx), (omega (arith, g1.block), block_below rows r hz)) hx)
    stands_stmt a (tree.Switch e ss) p q opened n v fine fit bp bq top h =
        let o = y.outline in
        let test = past e n in
        let last_test = tests_past ss test in
        let body = past_end last_test in
        let oss = sections_open ss false in
        let last = sections_past o ss false body in
        let n3 = past_label oss last in
        let g0 = grow e n in
        let g1 = grow_tests ss test in
        let g2 = grow_sections o ss false body in
        let g3 = grow_label oss last in
        let h1 = stands_label rows r oss last h in
        let far = block_below rows r h in
        let out : Way true oss body.block last.block (ends.Jump n3.block) = record { by = λ asked. (label_is_past oss last, far) } in
        let on = way_less q true oss n.block body.block n3.block last.block (omega (arith, g0.block, g1.block))
        (λ t later. before_label oss last t later) bq in
        let hs = stands_sections (in_switch a) ss (ends.Jump n3.block) q false body v fine.2 fit.1 out on (omega (arith, g3.reg, top)) h1 in
        let target = section_within is_default ss false body n3.block body.block (length r.blocks) (omega arith) (block_below rows r h1)
        (omega (arith, g2.block, g3.block), far) in
        let hj = stands_close rows r last_test body refl (omega (arith, target.0), target.1) hs in
        let le : test.reg ≤ r.regs = omega (arith, g1.reg, g2.reg, g3.reg, top) in
        stands_expr rows r y s room e n fine.0.bound fit.0 le
        (stands_tests (result e n) ss false body test (there rows r y s room e n fine.0.bound fine.0.has le) (omega (arith, g2.reg, g3.reg, top))
        (omega arith)
        (block_below rows r h1) hj)
    stands_stmt a (tree.While e x) p q opened n v fine fit bp bq top h =
        let o = y.outline in
        let head = past_label opened n in
        let test = past e head in
        let body = past_end test in
        let last = stmt_past o x true body in
        let n3 = past_end last in
        let o1 = open_behind x true in
        let g0 = grow e head in
        let g1 = grow_stmt o x true body in
        let far = block_below rows r h in
        let out : Way true o1 body.block last.block (ends.Jump n3.block) = record { by = λ asked. (past_either o1 last.block n3.block (omega arith), far) } in
        let back : Way true o1 body.block last.block (ends.Loop head.block) = record { by = λ asked. omega (arith, g0.block) } in
        let hl = stands_close rows r {e = ends.Loop head.block} last n3 refl (omega (arith, g0.block, g1.block)) h in
        let hx = stands_stmt (in_loop a) x (ends.Jump n3.block) (ends.Loop head.block) true body v fine.1 fit.1 out back top hl in
        let le : test.reg ≤ r.regs = omega (arith, g1.reg, top) in
        stands_label rows r opened n
        (stands_expr rows r y s room e head fine.0.bound fit.0 le
        (stands_close rows r test body refl
        (there rows r y s room e head fine.0.bound fine.0.has le, (omega arith, block_below rows r hx), (omega (arith, g1.block), far)) hx))
    stands_stmt a (tree.Do x e) p q opened n v fine fit bp bq top h =
        let o = y.outline in
        let body = past_label opened n in
        let o1 = open_behind x true in
        let last = stmt_past o x true body in
        let asked = past_label o1 last in
        let test = past e asked in
        let again = past_end test in
        let n3 = past_end again in
        let g1 = grow_stmt o x true body in
        let g2 = grow_label o1 last in
        let g3 = grow e asked in
        let far = block_below rows r h in
        let hl = stands_close rows r {e = ends.Loop body.block} again n3 refl (omega (arith, g1.block, g2.block, g3.block)) h in
        let hb = stands_close rows r test again refl
        (there rows r y s room e asked fine.1.bound fine.1.has top, (omega arith, block_below rows r hl), (omega arith, far)) hl in
        let he = stands_expr rows r y s room e asked fine.1.bound fit.1 top hb in
        let out : Way true o1 body.block last.block (ends.Jump n3.block) = record
        { by = λ w. (past_either o1 last.block n3.block (omega (arith, g2.block, g3.block)), far) } in
        let on : Way true o1 body.block last.block (ends.Jump asked.block) = record { by = λ w. (label_is_past o1 last, block_below rows r he) } in
        stands_label rows r opened n
        (stands_stmt (in_loop a) x (ends.Jump n3.block) (ends.Jump asked.block) true body v fine.0 fit.0 out on (omega (arith, g2.reg, g3.reg, top))
        (stands_label rows r o1 last he))
    stands_stmt a (tree.For f c d x) p q opened n v fine fit bp bq top h =
        let o = y.outline in
        let m0 = optional_past f n in
        let head = past_label (optional_open f opened) m0 in
        let body = condition_past c head in
        let o1 = open_behind x true in
        let last = stmt_past o x true body in
        let step = past_label o1 last in
        let m1 = optional_past d step in
        let n3 = past_end m1 in
        let g0 = grow_label (optional_open f opened) m0 in
        let g1 = grow_condition c head in
        let g2 = grow_stmt o x true body in
        let g3 = grow_label o1 last in
        let g4 = grow_optional d step in
        let far = block_below rows r h in
        let hl = stands_close rows r {e = ends.Loop head.block} m1 n3 refl (omega (arith, g1.block, g2.block, g3.block, g4.block)) h in
        let hd = stands_optional d step fine.3 fit.2 top hl in
        let out : Way true o1 body.block last.block (ends.Jump n3.block) = record
        { by = λ w. (past_either o1 last.block n3.block (omega (arith, g3.block, g4.block)), far) } in
        let on : Way true o1 body.block last.block (ends.Jump step.block) = record { by = λ w. (label_is_past o1 last, block_below rows r hd) } in
        let le2 : last.reg ≤ r.regs = omega (arith, g3.reg, g4.reg, top) in
        let le1 : body.reg ≤ r.regs = omega (arith, g2.reg, le2) in
        let hx = stands_stmt (in_loop a) x (ends.Jump n3.block) (ends.Jump step.block) true body v fine.2 fit.3 out on le2 (stands_label rows r o1 last hd) in
        let hc = stands_condition c head body.block n3.block fine.1 fit.1 le1 refl (omega (arith, g2.block, g3.block, g4.block), far) hx in
        stands_optional f n fine.0 fit.0 (omega (arith, g0.reg, g1.reg, le1)) (stands_label rows r (optional_open f opened) m0 hc)
    stands_stmt a tree.Break p q opened n v fine fit bp bq top h = stands_close rows r n (past_end n) refl (valid_way p n.block (bp.by fit)) h
    stands_stmt a tree.Continue p q opened n v fine fit bp bq top h = stands_close rows r n (past_end n) refl (valid_way q n.block (bq.by fit)) h
    stands_stmt a (tree.Return None) p q opened n v fine fit bp bq top h = stands_no_value y.outline.value n room.value top h
    stands_stmt a (tree.Return (Some e)) p q opened n v fine fit bp bq top h =
        stands_expr rows r y s room e n fine.bound fit.1 top
        (stands_close rows r (past e n) (past_end (past e n)) refl (there rows r y s room e n fine.bound fine.has top, v ∙ fit.0) h)

    pub stands_sections : {k : Code} (a : Around) (ss : Sections) (p q : End) (opened : Bool) (n : Numbers) → r.value ≡ a.value
        → FineSections y s ss opened n → FitsSections rows a ss → Way a.breaks (sections_open ss opened) n.block (sections_past y.outline ss opened n).block p
        → Way a.continues (sections_open ss opened) n.block (sections_past y.outline ss opened n).block q
        → (sections_past y.outline ss opened n).reg ≤ r.regs → Stands rows r (sections_past y.outline ss opened n) k
        → Stands rows r n (sections_code y p q ss opened n k)
    stands_sections a tree.End p q opened n v fine fit bp bq top h = h
    stands_sections a (tree.Section ls x rest) p q opened n v fine fit bp bq top h =
        let o = y.outline in
        let inside = labels_open ls opened in
        let n1 = labels_past ls opened n in
        let o2 = open_behind x inside in
        let n2 = stmt_past o x inside n1 in
        let o3 = sections_open rest o2 in
        let n3 = sections_past o rest o2 n2 in
        let g0 = grow_labels ls opened n in
        let g1 = grow_stmt o x inside n1 in
        let g2 = grow_sections o rest o2 n2 in
        let first = λ (e : End) (asked : Bool) (w : Way asked o3 n.block n3.block e).
        way_less e o3 o2 n.block n1.block n3.block n2.block g0.block (λ t later. past_sections o rest o2 n2 t later) w in
        let second = λ (e : End) (asked : Bool) (w : Way asked o3 n.block n3.block e).
        way_less e o3 o3 n.block n2.block n3.block n3.block (omega (arith, g0.block, g1.block)) (λ t later. later) w in
        stands_labels ls opened n
        (stands_stmt a x p q inside n1 v fine.0 fit.0 (first p a.breaks bp) (first q a.continues bq) (omega (arith, g2.reg, top))
        (stands_sections a rest p q o2 n2 v fine.1 fit.1 (second p a.breaks bp) (second q a.continues bq) top h))
