-- The code of a statement does what the statement does, where calls and ways back do.
use Rattle.std.proofs.Common.{◌≡◌, ℕ, ◌<◌, ◌≤◌, List, Bool, true, false, Option, Some, None, refl, sym, ap, ◌∙◌, arith}
use Rattle.std.specs.Prelude.{if◌then◌else◌}
use Rattle.std.specs.List.{list_any}
use Rattle.il_core.specs.declared.instr.End.{End}
use Rattle.il_core.specs.declared.instr.End.TheVariants as ends
use Rattle.il_core.specs.World.{World, Outcome, Returns}
use Rattle.il_core.specs.Meaning.{Frame, Next}
use Rattle.c_typed.specs.declared.expression.Variable.TheVariants as variables
use Rattle.c_typed.specs.declared.statement.Label.{Label}
use Rattle.c_typed.specs.Expressions as c_meaning
use Rattle.c_typed.specs.Expressions.{Whole, expr}
use Rattle.c_typed.specs.Results.{Locals, Flow, Normal, and_next, and_again}
use Rattle.c_typed.specs.Statements as meaning
use Rattle.c_typed.specs.Statements.{is_default}
use Rattle.c_typed.specs.Trees as tree
use Rattle.c_typed.specs.Trees.{Expr, Stmt, Sections}
use Rattle.lower_laws.specs.Code.{Code, put, close, Numbers, past_instr, past_end, past_label, label}
use Rattle.lower_laws.specs.Expressions.{is_open, past, result, code}
use Rattle.lower_laws.specs.Operations.{store}
use Rattle.lower_laws.specs.Statements.{optional_past, optional_open, optional_code, condition_past, condition_code, no_value_code, local_past}
use Rattle.lower_laws.specs.Statements.{open_behind, sections_open, stmt_past, sections_past, section_block, tests_code, stmt_code, sections_code}
use Rattle.lower_laws.specs.Switches.{labels_past, labels_open, labels_code, tests_past}
use Rattle.lower_laws.proofs.Coming.{Setting, goes, from, Passes, Leads, leads_here, leads_by, branch_is, jump_is, goes_label, passes_then}
use Rattle.lower_laws.proofs.Coming.{passes_close, passes_label}
use Rattle.lower_laws.proofs.ExpressionsMeet.{CallsMeet, expr_meets}
use Rattle.lower_laws.proofs.Fine.{FineValue, FineOptional, FineCondition, Fine, FineSections, LeadsPast, leads_past_by}
use Rattle.lower_laws.proofs.Flowing.{ends_same, Flows, flows_by, comes_here, breaks_here, continues_here, flows_do, flows_next, flows_on, flows_choose}
use Rattle.lower_laws.proofs.Flowing.{flows_again, At, LoopsMeet}
use Rattle.lower_laws.proofs.Frames.{IsLaidOut, put_here}
use Rattle.lower_laws.proofs.Growing.{grow, grow_label, result_new}
use Rattle.lower_laws.proofs.Meeting.{Ready, Meets, meets_weak}
use Rattle.lower_laws.proofs.Passing.{IsPast, past_either, label_is_past, passes_expr}
use Rattle.lower_laws.proofs.StandsAt.{at_expr, at_close, at_label, at_stmt, at_open, at_tests, at_closed, at_labels, at_first, at_condition}
use Rattle.lower_laws.proofs.StatementsGrow.{grow_optional, grow_tests, grow_stmt, grow_sections, past_stmt, past_sections}
use Rattle.lower_laws.proofs.StatementsPass.{passes_labels, passes_optional, local_block, passes_stmt, passes_sections}
use Rattle.lower_laws.proofs.Steps.{Has, meets_store}
use Rattle.lower_laws.proofs.SwitchesMeet.{label_missed, tests_meet, goes_labels, labels_lead, section_behind, flows_switched, flows_if}

module _ {S : Type 0} (c : Setting S) where
  goes_same : (k : Code) (n n1 : Numbers) (f : Frame) (w : World S) → n1.block ≡ n.block → goes c k n f w ≡ goes c k n1 f w
  goes_same k n n1 f w e = ap (λ z. goes c k (record n { block = z }) f w) (sym e)

  -- what a return without a value does
  no_value_meets : (v : Bool) (n : Numbers) (k : Code) (f : Frame) (w : World S) → goes c (no_value_code v n k) n f w ≡ Returns 0 w
  no_value_meets false n k f w = refl
  no_value_meets true n k f w = ap (λ v. Returns v w) (put_here f.regs n.reg 0)

  -- from the tests of a switch to its target
  to_target : (found : Bool) (jump body : Code) (nt n2 : Numbers) (t : ℕ) (is : Label → Bool) (ss : Sections) (none : ℕ) (f : Frame) (w : World S)
      → (found ≡ true → from c jump nt t f w ≡ from c body n2 t f w)
      → goes c jump nt f w ≡ from c body n2 (section_block c.layout.outline is_default ss false n2 none) f w
      → t ≡ section_block c.layout.outline is ss false n2 none
      → (if found then from c jump nt t f w else goes c jump nt f w)
      ≡ from c body n2 (section_block c.layout.outline (if found then is else is_default) ss false n2 none) f w
  to_target true jump body nt n2 t is ss none f w there otherwise same = there refl ∙ ap (λ u. from c body n2 u f w) same
  to_target false jump body nt n2 t is ss none f w there otherwise same = otherwise

  module _ (laid : IsLaidOut c.routine c.function c.layout c.scope) (calls : CallsMeet c) (E : ℕ → Next S) (loops : LoopsMeet c E) where
    -- the execution of a statement
    abbrev runs : Stmt → Locals → World S → Flow S
    runs s l w = meaning.stmt c.c_call c.c_again c.function s l w

    valued : (e : Expr) (n : Numbers) {k : Code} {l : Locals} {f : Frame} {w : World S} → FineValue c.layout c.scope e n → Ready c l f w
        → Meets c (Has c (result e n)) n.reg k (past e n) f w.turns (goes c (code c.layout e n k) n f w) (expr c.c_call c.function e l w)
    valued e n fine ready = meets_weak c _ (λ u g implies. implies fine.has) (expr_meets c laid calls e n fine.bound fine.room ready)

    -- an expression that may be absent
    optional_flows : {p q : End} {k2 : Code} {n2 : Numbers} {l : Locals} {f : Frame} {w : World S} {go : Locals → World S → Flow S} (k1 : Code)
        (e : Option Expr) (n : Numbers)
        → FineOptional c.layout c.scope e n → Ready c l f w
        → ((l1 : Locals) (w1 : World S) (g : Frame) → Ready c l1 g w1 → Flows c p q k2 n2 w1.turns (goes c k1 (optional_past e n) g w1) (go l1 w1))
        → Flows c p q k2 n2 w.turns (goes c (optional_code c.layout e n k1) n f w) (meaning.optional c.c_call c.function e go l w)
    optional_flows {l = l} {f = f} {w = w} k1 None n fine ready next = next l w f ready
    optional_flows {l = l} {w = w} k1 (Some e) n fine ready next =
        flows_do c {k1 = k1} {n1 = past e n} (expr c.c_call c.function e l w) ready.turns (expr_meets c laid calls e n fine.bound fine.room ready)
        (λ v l1 w1 g ready1 has1. next l1 w1 g ready1)

    -- ---- `for`, whose head has the numbers n: behind the body, at the third part, behind the loop, and the code there

    abbrev for_last : Option Expr → Stmt → Numbers → Numbers
    for_last b s n = stmt_past c.layout.outline s true (condition_past b n)

    abbrev for_step : Option Expr → Stmt → Numbers → Numbers
    for_step b s n = past_label (open_behind s true) (for_last b s n)

    abbrev for_behind : Option Expr → Option Expr → Stmt → Numbers → Numbers
    for_behind b d s n = past_end (optional_past d (for_step b s n))

    abbrev for_rest : Option Expr → Option Expr → Stmt → Numbers → Code → Code
    for_rest b d s n k = label (open_behind s true) (for_last b s n) (optional_code c.layout d (for_step b s n) (close (ends.Loop n.block) k))

    abbrev for_body : Option Expr → Option Expr → Stmt → Numbers → Code → Code
    for_body b d s n k =
        stmt_code c.layout (ends.Jump (for_behind b d s n).block) (ends.Jump (for_step b s n).block) s true (condition_past b n) (for_rest b d s n k)

    for_passes : (b d : Option Expr) (s : Stmt) (n : Numbers) (k : Code)
        → Passes c (for_behind b d s n).block (for_last b s n) (for_rest b d s n k) (for_behind b d s n) k
    for_passes b d s n k =
        let g5 = grow_optional d (for_step b s n) in
        passes_then c (passes_label c (open_behind s true) (for_last b s n) (omega (arith, g5.block)))
        (passes_then c (passes_optional c c.layout d (for_step b s n) (omega arith))
        (passes_close c (ends.Loop n.block) (optional_past d (for_step b s n)) (for_behind b d s n) refl (omega arith)))

    for_exit : (b d : Option Expr) (s : Stmt) (n : Numbers) (k : Code)
        → Leads c (for_behind b d s n).block (condition_past b n) (for_body b d s n k) (for_behind b d s n) k
    for_exit b d s n k =
        let g4 = grow_label (open_behind s true) (for_last b s n) in
        let g5 = grow_optional d (for_step b s n) in
        leads_by c (for_behind b d s n)
        (passes_then c (passes_stmt c c.layout _ _ s true (condition_past b n) (past_either (open_behind s true) _ _ (omega (arith, g4.block, g5.block))))
        (for_passes b d s n k))

    -- one turn of `for`, from its body on
    for_turn : (b d : Option Expr) (s : Stmt) (p q : End) (n1 : Numbers) {k : Code} {l : Locals} {f : Frame} {w : World S}
        → Fine c.layout c.scope (tree.For None b d s) false n1 → LeadsPast true (for_behind b d s n1).block p → LeadsPast true (for_behind b d s n1).block q
        → At c E false n1 (stmt_code c.layout p q (tree.For None b d s) false n1 k) → Ready c l f w
        → ((l1 : Locals) (f1 : Frame) (w1 : World S) → Ready c l1 f1 w1
        → Flows c (ends.Jump (for_behind b d s n1).block) (ends.Jump (for_step b s n1).block) (for_rest b d s n1 k) (for_last b s n1) w1.turns
        (goes c (for_body b d s n1 k) (condition_past b n1) f1 w1) (runs s l1 w1))
        → Flows c p q k (for_behind b d s n1) w.turns (goes c (for_body b d s n1 k) (condition_past b n1) f w)
        (and_again (runs s l w) (λ l3 w3. meaning.optional c.c_call c.function d (λ l4 w4. c.c_again (tree.For None b d s) l4 w4) l3 w3))
    for_turn b d s p q n1 {k} {l} {f} {w} fine bp bq there ready body =
        let y = c.layout in
        let last = for_last b s n1 in
        let o = open_behind s true in
        let step = for_step b s n1 in
        let behind = for_behind b d s n1 in
        let back = close (ends.Loop n1.block) k in
        let third = optional_code y d step back in
        flows_again c {k1 = label o last third} {n1 = last} (λ f1 w1. goes c third step f1 w1) (runs s l w) ready.turns
        (λ f1 w1. goes_label c third o last f1 w1)
        (λ f1 w1. (leads_by c {k = label o last third} {k1 = third} step (passes_label c o last (omega arith))).by f1 w1)
        (λ f1 w1. (leads_by c {k = label o last third} {k1 = k} behind (for_passes b d s n1 k)).by f1 w1) (body l f w ready)
        (λ l3 w3 f3 ready3.
        optional_flows back d step fine.3 ready3 (λ l4 w4 f4 ready4. loops.by (tree.For None b d s) p q n1 k l4 f4 w4 fine bp bq there ready4))

    -- the condition of `for`
    condition_flows : {k : Code} {l : Locals} {f : Frame} {w : World S} {go : Locals → World S → Flow S} (b d : Option Expr) (s : Stmt) (p q : End)
        (n1 : Numbers)
        → FineCondition c.layout c.scope b n1 → Ready c l f w
        → ((l1 : Locals) (f1 : Frame) (w1 : World S) → Ready c l1 f1 w1
        → Flows c p q k (for_behind b d s n1) w1.turns (goes c (for_body b d s n1 k) (condition_past b n1) f1 w1) (go l1 w1))
        → Flows c p q k (for_behind b d s n1) w.turns
        (goes c (condition_code c.layout b n1 (condition_past b n1).block (for_behind b d s n1).block (for_body b d s n1 k)) n1 f w)
        (meaning.condition c.c_call c.function b go (λ l2 w2. Normal l2 w2) l w)
    condition_flows {k} {l} {f} {w} {go} None d s p q n1 fine ready next =
        flows_by c
        (jump_is c {k = for_body None d s n1 k} {k1 = for_body None d s n1 k} {n1 = past_end n1} f w n1 (past_end n1) refl (leads_here c (past_end n1)))
        (next l f w ready)
    condition_flows {k} {l} {f} {w} {go} (Some e) d s p q n1 fine ready next =
        let n2 = past_end (past e n1) in
        let n5 = for_behind (Some e) d s n1 in
        let body = for_body (Some e) d s n1 k in
        flows_do c {k1 = close (ends.Branch (result e n1) n2.block n5.block) body} {n1 = past e n1} (expr c.c_call c.function e l w) ready.turns
        (valued e n1 fine ready)
        (λ v l1 w1 f1 ready1 has1.
        flows_by c (branch_is c f1 w1 (past e n1) n2 refl has1 (leads_here c n2) (for_exit (Some e) d s n1 k))
        (flows_choose c v (next l1 f1 w1 ready1) (comes_here c ready1)))

    -- a section and those behind it, given that its statement and they do what they should
    section_meets : (ls : List Label) (s : Stmt) (rest : Sections) (p q : End) (opened : Bool) (n : Numbers) {k : Code} {t : ℕ} {o : Outcome S} {v : Flow S}
        {go : Locals → World S → Flow S} → t ≤ c.most
        → let y = c.layout in
        let inside = labels_open ls opened in
        let n1 = labels_past ls opened n in
        let o2 = open_behind s inside in
        let n2 = stmt_past y.outline s inside n1 in
        let o3 = sections_open rest o2 in
        let n3 = sections_past y.outline rest o2 n2 in
        let more = sections_code y p q rest o2 n2 k in
        LeadsPast o3 n3.block p → LeadsPast o3 n3.block q
        → (LeadsPast o2 n2.block p → LeadsPast o2 n2.block q → Flows c p q more n2 t o v)
        → ((l : Locals) (w : World S) (g : Frame) → Ready c l g w → Flows c p q k n3 w.turns (goes c more n2 g w) (go l w))
        → Flows c p q k n3 t o (and_next v go)
    section_meets ls s rest p q opened n {k} {t} {o} {v} tm bp bq h next =
        let y = c.layout in
        let inside = labels_open ls opened in
        let n1 = labels_past ls opened n in
        let o2 = open_behind s inside in
        let n2 = stmt_past y.outline s inside n1 in
        let o3 = sections_open rest o2 in
        let n3 = sections_past y.outline rest o2 n2 in
        let earlier = λ (u : ℕ) (later : IsPast o3 n3.block u). past_sections y.outline rest o2 n2 u later in
        flows_next c {k1 = sections_code y p q rest o2 n2 k} {n1 = n2} v tm (ends_same c p o3 bp (λ u later. passes_sections c y p q rest o2 n2 later))
        (ends_same c q o3 bq (λ u later. passes_sections c y p q rest o2 n2 later))
        (h (leads_past_by p o3 o2 n3.block n2.block earlier bp) (leads_past_by q o3 o2 n3.block n2.block earlier bq)) next

    mutual
      pub stmt_meets : (s : Stmt) (p q : End) (opened : Bool) (n : Numbers) {k : Code} {l : Locals} {f : Frame} {w : World S} → Fine c.layout c.scope s opened n
          → LeadsPast (open_behind s opened) (stmt_past c.layout.outline s opened n).block p
          → LeadsPast (open_behind s opened) (stmt_past c.layout.outline s opened n).block q → At c E opened n (stmt_code c.layout p q s opened n k)
          → Ready c l f w
          → Flows c p q k (stmt_past c.layout.outline s opened n) w.turns (goes c (stmt_code c.layout p q s opened n k) n f w)
          (meaning.stmt c.c_call c.c_again c.function s l w)
      stmt_meets tree.Empty p q opened n fine bp bq there ready = comes_here c ready
      stmt_meets (tree.Sequence s t) p q opened n {k} {l} {f} {w} fine bp bq there ready =
          let y = c.layout in
          let o1 = open_behind s opened in
          let n1 = stmt_past y.outline s opened n in
          let o2 = open_behind t o1 in
          let n2 = stmt_past y.outline t o1 n1 in
          flows_next c {k1 = stmt_code y p q t o1 n1 k} {n1 = n1} (runs s l w) ready.turns
          (ends_same c p o2 bp (λ u later. passes_stmt c y p q t o1 n1 later)) (ends_same c q o2 bq (λ u later. passes_stmt c y p q t o1 n1 later))
          (stmt_meets s p q opened n fine.0 (leads_past_by p o2 o1 n2.block n1.block (λ u later. past_stmt y.outline t o1 n1 u later) bp)
          (leads_past_by q o2 o1 n2.block n1.block (λ u later. past_stmt y.outline t o1 n1 u later) bq) there ready)
          (λ l1 w1 f1 ready1. stmt_meets t p q o1 n1 fine.1 bp bq (at_stmt c E p q s opened n there) ready1)
      stmt_meets (tree.Declaration z None) p q opened n {k} {l} {f} {w} fine bp bq there ready =
          flows_by c (goes_same k n (local_past (c.layout.outline.is_array z) n) f w (local_block c (c.layout.outline.is_array z) n)) (comes_here c ready)
      stmt_meets (tree.Declaration z (Some e)) p q opened n {k} {l} {f} {w} fine bp bq there ready =
          let n1 = local_past (c.layout.outline.is_array z) n in
          let n2 = past e n1 in
          let new = result_new c.scope e n1 fine.1.bound fine.1.has in
          let last = put (store c.layout (Whole (variables.Local z)) (result e n1)) k in
          flows_by c (goes_same (code c.layout e n1 last) n n1 f w (local_block c (c.layout.outline.is_array z) n))
          (flows_do c {k1 = last} {n1 = n2} (expr c.c_call c.function e l w) ready.turns (valued e n1 fine.1 ready)
          (λ v l1 w1 f1 ready1 has1.
          flows_do c {k1 = k} {n1 = past_instr n2} (c_meaning.store c.function (Whole (variables.Local z)) v l1 w1) ready1.turns
          (meets_store c laid {r = n2.reg} {n = past_instr n2} (Whole (variables.Local z)) (Whole (variables.Local z)) (result e n1) v fine.0 refl has1
          (fine.1.room.by (result e n1) new.from new.below) ready1) (λ v2 l2 w2 f2 ready2 has2. comes_here c ready2)))
      stmt_meets (tree.Expression e) p q opened n {k} {l} {f} {w} fine bp bq there ready =
          flows_do c {k1 = k} {n1 = past e n} (expr c.c_call c.function e l w) ready.turns (expr_meets c laid calls e n fine.bound fine.room ready)
          (λ v l1 w1 f1 ready1 has1. comes_here c ready1)
      stmt_meets (tree.If e s) p q opened n {k} {l} {f} {w} fine bp bq there ready =
          let y = c.layout in
          let n0 = past e n in
          let n1 = past_end n0 in
          let n2 = stmt_past y.outline s true n1 in
          let o = open_behind s true in
          let n3 = past_label o n2 in
          let last = label o n2 k in
          let first = stmt_code y p q s true n1 last in
          let g1 = grow_stmt y.outline s true n1 in
          let g2 = grow_label o n2 in
          let earlier = λ (t : ℕ) (later : n3.block < t). past_either o n2.block t (omega (arith, g2.block)) in
          let to_end : Leads c n3.block n1 first n3 k =
          leads_by c n3 (passes_then c (passes_stmt c y p q s true n1 (label_is_past o n2)) (passes_label c o n2 (omega arith))) in
          flows_do c {k1 = close (ends.Branch (result e n) n1.block n3.block) first} {n1 = n0} (expr c.c_call c.function e l w) ready.turns
          (valued e n fine.0 ready)
          (λ v l1 w1 f1 ready1 has1.
          flows_by c (branch_is c f1 w1 n0 n1 refl has1 (leads_here c n1) to_end)
          (flows_choose c v
          (flows_on c {k1 = last} {n1 = n2} (runs s l1 w1) (ends_same c p true bp (λ t later. passes_label c o n2 (omega arith)))
          (ends_same c q true bq (λ t later. passes_label c o n2 (omega arith))) (λ f2 w2. goes_label c k o n2 f2 w2)
          (stmt_meets s p q true n1 fine.1 (leads_past_by p true o n3.block n2.block earlier bp) (leads_past_by q true o n3.block n2.block earlier bq)
          (at_close c E _ true n0 n1 refl (at_open c E (is_open e) n0 (at_expr c E e opened n there))) ready1))
          (comes_here c ready1)))
      stmt_meets (tree.IfElse e s t) p q opened n {k} {l} {f} {w} fine bp bq there ready =
          let y = c.layout in
          let n0 = past e n in
          let n1 = past_end n0 in
          let ns = stmt_past y.outline s true n1 in
          let n2 = past_end ns in
          let n3 = stmt_past y.outline t true n2 in
          let o = open_behind t true in
          let os = open_behind s true in
          let n4 = past_label o n3 in
          let last = label o n3 k in
          let second = stmt_code y p q t true n2 last in
          let middle = close (ends.Jump n4.block) second in
          let first = stmt_code y p q s true n1 middle in
          let g1 = grow_stmt y.outline s true n1 in
          let g2 = grow_stmt y.outline t true n2 in
          let g3 = grow_label o n3 in
          let past1 = λ (u : ℕ) (later : n4.block < u). past_either os ns.block u (omega (arith, g2.block, g3.block)) in
          let past2 = λ (u : ℕ) (later : n4.block < u). past_either o n3.block u (omega (arith, g3.block)) in
          let to_second : Leads c n2.block n1 first n2 second =
          leads_by c n2 (passes_then c (passes_stmt c y p q s true n1 (past_either os _ _ (omega arith))) (passes_close c _ ns n2 refl (omega arith))) in
          let to_end : Leads c n4.block n2 second n4 k =
          leads_by c n4 (passes_then c (passes_stmt c y p q t true n2 (label_is_past o n3)) (passes_label c o n3 (omega arith))) in
          let pass1 = λ (u : ℕ) (later : n4.block < u). passes_then c (passes_close c (ends.Jump n4.block) ns n2 refl (omega (arith, g2.block, g3.block)))
          (passes_then c (passes_stmt c y p q t true n2 (past2 u later)) (passes_label c {k = k} o n3 (omega arith))) in
          let pass2 = λ (u : ℕ) (later : n4.block < u). passes_label c {t = u} {k = k} o n3 (omega arith) in
          let there1 = at_close c E _ true n0 n1 refl (at_open c E (is_open e) n0 (at_expr c E e opened n there)) in
          flows_do c {k1 = close (ends.Branch (result e n) n1.block n2.block) first} {n1 = n0} (expr c.c_call c.function e l w) ready.turns
          (valued e n fine.0 ready)
          (λ v l1 w1 f1 ready1 has1.
          flows_by c (branch_is c f1 w1 n0 n1 refl has1 (leads_here c n1) to_second)
          (flows_choose c v
          (flows_on c {k1 = middle} {n1 = ns} (runs s l1 w1) (ends_same c p true bp pass1) (ends_same c q true bq pass1)
          (λ f2 w2. jump_is c {k = second} {k1 = k} {n1 = n4} f2 w2 ns n2 refl to_end)
          (stmt_meets s p q true n1 fine.1 (leads_past_by p true os n4.block ns.block past1 bp) (leads_past_by q true os n4.block ns.block past1 bq) there1
          ready1))
          (flows_on c {k1 = last} {n1 = n3} (runs t l1 w1) (ends_same c p true bp pass2) (ends_same c q true bq pass2) (λ f2 w2. goes_label c k o n3 f2 w2)
          (stmt_meets t p q true n2 fine.2 (leads_past_by p true o n4.block n3.block past2 bp) (leads_past_by q true o n4.block n3.block past2 bq)
          (at_close c E _ true ns n2 refl (at_open c E os ns (at_stmt c E p q s true n1 there1))) ready1))))
      stmt_meets (tree.While e s) p q opened n {k} {l} {f} {w} fine bp bq there ready =
          let y = c.layout in
          let n1 = past_label opened n in
          let n0 = past e n1 in
          let n2 = past_end n0 in
          let nb = stmt_past y.outline s true n2 in
          let n3 = past_end nb in
          let os = open_behind s true in
          let back = close (ends.Loop n1.block) k in
          let body = stmt_code y (ends.Jump n3.block) (ends.Loop n1.block) s true n2 back in
          let test = close (ends.Branch (result e n1) n2.block n3.block) body in
          let whole = code y e n1 test in
          let past1 = past_either os nb.block n3.block (omega arith) in
          let to_end : Leads c n3.block n2 body n3 k =
          leads_by c n3 (passes_then c (passes_stmt c y _ _ s true n2 past1) (passes_close c _ nb n3 refl (omega arith))) in
          let there0 = at_label c E opened n there in
          flows_by c (goes_label c whole opened n f w)
          (flows_do c {k1 = test} {n1 = n0} (expr c.c_call c.function e l w) ready.turns (valued e n1 fine.0 ready)
          (λ v l1 w1 f1 ready1 has1.
          flows_by c (branch_is c f1 w1 n0 n2 refl has1 (leads_here c n2) to_end)
          (flows_choose c v
          (flows_again c {k1 = back} {n1 = nb} (λ f2 w2. c.back n1.block f2 w2) (runs s l1 w1) ready1.turns (λ f2 w2. refl) (λ f2 w2. refl)
          (λ f2 w2. (leads_by c {k = back} {k1 = k} n3 (passes_close c (ends.Loop n1.block) nb n3 refl (omega arith))).by f2 w2)
          (stmt_meets s (ends.Jump n3.block) (ends.Loop n1.block) true n2 fine.1 past1 tt
          (at_close c E _ true n0 n2 refl (at_open c E (is_open e) n0 (at_expr c E e false n1 there0))) ready1)
          (λ l2 w2 f2 ready2. loops.by (tree.While e s) p q n1 k l2 f2 w2 fine bp bq there0 ready2))
          (comes_here c ready1))))
      stmt_meets (tree.Do s e) p q opened n {k} {l} {f} {w} fine bp bq there ready =
          let y = c.layout in
          let n1 = past_label opened n in
          let n2 = stmt_past y.outline s true n1 in
          let o = open_behind s true in
          let n3 = past_label o n2 in
          let n0 = past e n3 in
          let n4 = past_end n0 in
          let n5 = past_end n4 in
          let back = close (ends.Loop n1.block) k in
          let test = close (ends.Branch (result e n3) n4.block n5.block) back in
          let asking = code y e n3 test in
          let last = label o n2 asking in
          let whole = stmt_code y (ends.Jump n5.block) (ends.Jump n3.block) s true n1 last in
          let g1 = grow_label o n2 in
          let g2 = grow e n3 in
          let to_end : Leads c n5.block n4 back n5 k = leads_by c n5 (passes_close c (ends.Loop n1.block) n4 n5 refl (omega arith)) in
          let there0 = at_label c E opened n there in
          flows_by c (goes_label c whole opened n f w)
          (flows_again c {k1 = last} {n1 = n2} (λ f1 w1. goes c asking n3 f1 w1) (runs s l w) ready.turns (λ f1 w1. goes_label c asking o n2 f1 w1)
          (λ f1 w1. (leads_by c {k = last} {k1 = asking} n3 (passes_label c o n2 (omega arith))).by f1 w1)
          (λ f1 w1.
          (leads_by c {k = last} {k1 = k} n5
          (passes_then c (passes_label c o n2 (omega (arith, g2.block)))
          (passes_then c (passes_expr c y e n3 (past_either (is_open e) _ _ (omega arith)))
          (passes_then c (passes_close c (ends.Branch (result e n3) n4.block n5.block) n0 n4 refl (omega arith))
          (passes_close c (ends.Loop n1.block) n4 n5 refl (omega arith)))))).by f1 w1)
          (stmt_meets s (ends.Jump n5.block) (ends.Jump n3.block) true n1 fine.0 (past_either o n2.block n5.block (omega (arith, g1.block, g2.block)))
          (label_is_past o n2) (at_open c E false n1 there0) ready)
          (λ l1 w1 f1 ready1.
          flows_do c {k1 = test} {n1 = n0} (expr c.c_call c.function e l1 w1) ready1.turns (valued e n3 fine.1 ready1)
          (λ v l2 w2 f2 ready2 has2.
          flows_by c (branch_is c f2 w2 n0 n4 refl has2 (leads_here c n4) to_end)
          (flows_choose c v (loops.by (tree.Do s e) p q n1 k l2 f2 w2 fine bp bq there0 ready2) (comes_here c ready2)))))
      stmt_meets (tree.For a b d s) p q opened n {k} {l} {f} {w} fine bp bq there ready =
          let y = c.layout in
          let n0 = optional_past a n in
          let oa = optional_open a opened in
          let n1 = past_label oa n0 in
          let n2 = condition_past b n1 in
          let n3 = stmt_past y.outline s true n2 in
          let o = open_behind s true in
          let n4 = past_label o n3 in
          let n5 = past_end (optional_past d n4) in
          let head = condition_code y b n1 n2.block n5.block (for_body b d s n1 k) in
          let g4 = grow_label o n3 in
          let g5 = grow_optional d n4 in
          let there1 = at_first c E a opened n there in
          optional_flows (label oa n0 head) a n fine.0 ready
          (λ l1 w1 f1 ready1.
          flows_by c (goes_label c head oa n0 f1 w1)
          (condition_flows b d s p q n1 fine.1 ready1
          (λ l2 f2 w2 ready2.
          for_turn b d s p q n1 (tt, fine.1, fine.2, fine.3) bp bq there1 ready2
          (λ l3 f3 w3 ready3.
          stmt_meets s (ends.Jump n5.block) (ends.Jump n4.block) true n2 fine.2 (past_either o n3.block n5.block (omega (arith, g4.block, g5.block)))
          (label_is_past o n3) (at_condition c E n2.block n5.block b n1 there1) ready3))))
      stmt_meets tree.Break p q opened n fine bp bq there ready = breaks_here c ready
      stmt_meets tree.Continue p q opened n fine bp bq there ready = continues_here c ready
      stmt_meets (tree.Return None) p q opened n {k} {l} {f} {w} fine bp bq there ready =
          record { by = (no_value_meets c.layout.outline.value n k f w, omega arith) }
      stmt_meets (tree.Return (Some e)) p q opened n {k} {l} {f} {w} fine bp bq there ready =
          flows_do c {k1 = close (ends.Return (Some (result e n))) k} {n1 = past e n} (expr c.c_call c.function e l w) ready.turns (valued e n fine ready)
          (λ v l1 w1 f1 ready1 has1. record { by = (ap (λ a. Returns a w1) has1, omega arith) })
      stmt_meets (tree.Switch e ss) p q opened n {k} {l} {f} {w} fine bp bq there ready =
          let y = c.layout in
          let n1 = past e n in
          let nt = tests_past ss n1 in
          let n2 = past_end nt in
          let n3 = sections_past y.outline ss false n2 in
          let o = sections_open ss false in
          let n4 = past_label o n3 in
          let z = result e n in
          let last = label o n3 k in
          let j = ends.Jump n4.block in
          let body = sections_code y j q ss false n2 last in
          let jump = close (ends.Jump (section_block y.outline is_default ss false n2 n4.block)) body in
          let g1 = grow_tests ss n1 in
          let g2 = grow_sections y.outline ss false n2 in
          let g3 = grow_label o n3 in
          let new = result_new c.scope e n fine.0.bound fine.0.has in
          let past1 = λ (t : ℕ) (later : n4.block < t). past_either o n3.block t (omega (arith, g3.block)) in
          let none_is = λ (f1 : Frame) (w1 : World S). (leads_by c {k = last} {k1 = k} n4 (passes_label c o n3 (omega arith))).by f1 w1
          ∙ sym (goes_label c k o n3 f1 w1) in
          let there1 = at_closed c E nt n2 refl (at_tests c E z ss false n2 n1 (at_expr c E e opened n there)) in
          flows_do c {k1 = tests_code y z ss false n2 n1 jump} {n1 = n1} (expr c.c_call c.function e l w) ready.turns (valued e n fine.0 ready)
          (λ v l1 w1 f1 ready1 has1.
          let tested = tests_meet c {k = jump} z v ss false n2 n1 n4.block f1 w1 has1 (fine.0.room.by z new.from new.below) new.below fine.1 (omega arith)
          ready1.agrees in
          let ready2 : Ready c l1 tested.frame w1 = record { turns = ready1.turns; agrees = tested.agrees } in
          flows_by c tested.runs
          (flows_switched c {k = k} {n = n3} o (meaning.enter c.c_call c.c_again c.function (meaning.is_target v ss) ss l1 w1)
          (ends_same c q true bq (λ t later. passes_label c o n3 (omega arith)))
          (flows_by c
          (to_target (meaning.some_label (meaning.is_case v) ss) jump body nt n2 (section_block y.outline (meaning.is_case v) ss false n2 n4.block)
          (meaning.is_case v) ss n4.block tested.frame w1
          (λ found.
          (passes_close c {k = body} (ends.Jump (section_block y.outline is_default ss false n2 n4.block)) nt n2 refl
          (section_behind c (meaning.is_case v) ss false n2 n4.block (label_is_past o n3))).by tested.frame w1)
          refl refl)
          (enter_meets (meaning.is_target v ss) ss j q false n2 n4.block fine.2 (label_is_past o n3) (leads_past_by q true o n4.block n3.block past1 bq) there1
          none_is (label_is_past o n3) ready2))))

      run_meets : (ss : Sections) (p q : End) (opened : Bool) (n : Numbers) {k : Code} {l : Locals} {f : Frame} {w : World S}
          → FineSections c.layout c.scope ss opened n → LeadsPast (sections_open ss opened) (sections_past c.layout.outline ss opened n).block p
          → LeadsPast (sections_open ss opened) (sections_past c.layout.outline ss opened n).block q
          → At c E opened n (sections_code c.layout p q ss opened n k) → Ready c l f w
          → Flows c p q k (sections_past c.layout.outline ss opened n) w.turns (goes c (sections_code c.layout p q ss opened n k) n f w)
          (meaning.run c.c_call c.c_again c.function ss l w)
      run_meets tree.End p q opened n fine bp bq there ready = comes_here c ready
      run_meets (tree.Section ls s rest) p q opened n {k} {l} {f} {w} fine bp bq there ready =
          let y = c.layout in
          let inside = labels_open ls opened in
          let n1 = labels_past ls opened n in
          let o2 = open_behind s inside in
          let n2 = stmt_past y.outline s inside n1 in
          let there1 = at_labels c E ls opened n there in
          flows_by c (goes_labels c (stmt_code y p q s inside n1 (sections_code y p q rest o2 n2 k)) ls opened n f w)
          (section_meets ls s rest p q opened n ready.turns bp bq (λ bp1 bq1. stmt_meets s p q inside n1 fine.0 bp1 bq1 there1 ready)
          (λ l1 w1 f1 ready1. run_meets rest p q o2 n2 fine.1 bp bq (at_stmt c E p q s inside n1 there1) ready1))

      enter_meets : (is : Label → Bool) (ss : Sections) (p q : End) (opened : Bool) (n : Numbers) (none : ℕ) {k : Code} {l : Locals} {f : Frame} {w : World S}
          → FineSections c.layout c.scope ss opened n → LeadsPast (sections_open ss opened) (sections_past c.layout.outline ss opened n).block p
          → LeadsPast (sections_open ss opened) (sections_past c.layout.outline ss opened n).block q
          → At c E opened n (sections_code c.layout p q ss opened n k)
          → ((f1 : Frame) (w1 : World S) → from c k (sections_past c.layout.outline ss opened n) none f1 w1
          ≡ goes c k (sections_past c.layout.outline ss opened n) f1 w1)
          → IsPast (sections_open ss opened) (sections_past c.layout.outline ss opened n).block none → Ready c l f w
          → Flows c p q k (sections_past c.layout.outline ss opened n) w.turns
          (from c (sections_code c.layout p q ss opened n k) n (section_block c.layout.outline is ss opened n none) f w)
          (meaning.enter c.c_call c.c_again c.function is ss l w)
      enter_meets is tree.End p q opened n none {f = f} {w = w} fine bp bq there none_is later ready = flows_by c (none_is f w) (comes_here c ready)
      enter_meets is (tree.Section ls s rest) p q opened n none {k} {l} {f} {w} fine bp bq there none_is later ready =
          let y = c.layout in
          let inside = labels_open ls opened in
          let n1 = labels_past ls opened n in
          let o2 = open_behind s inside in
          let n2 = stmt_past y.outline s inside n1 in
          let more = sections_code y p q rest o2 n2 k in
          let t = section_block y.outline is rest o2 n2 none in
          let later2 = section_behind c is rest o2 n2 none later in
          let there1 = at_labels c E ls opened n there in
          flows_if c (list_any is ls)
          (λ found.
          flows_by c (labels_lead c (stmt_code y p q s inside n1 more) is ls opened n t f w found)
          (section_meets ls s rest p q opened n ready.turns bp bq (λ bp1 bq1. stmt_meets s p q inside n1 fine.0 bp1 bq1 there1 ready)
          (λ l1 w1 f1 ready1. run_meets rest p q o2 n2 fine.1 bp bq (at_stmt c E p q s inside n1 there1) ready1)))
          (λ missed.
          flows_by c
          (ap (λ u. from c (labels_code ls opened n (stmt_code y p q s inside n1 more)) n u f w) (label_missed is ls opened n t missed)
          ∙ (passes_labels c ls opened n (past_stmt y.outline s inside n1 t later2)).by f w ∙ (passes_stmt c y p q s inside n1 later2).by f w)
          (enter_meets is rest p q o2 n2 none fine.1 bp bq (at_stmt c E p q s inside n1 there1) none_is later ready))
