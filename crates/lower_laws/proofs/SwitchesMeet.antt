-- Where a switch goes: its tests find the block of the case, and each label's block leads into its section.
use Rattle.std.proofs.Common.{◌≡◌, ℕ, suc, ◌<◌, ◌≤◌, List, [], ◌∷◌, Bool, true, false, refl, sym, ap, ◌∙◌, arith}
use Rattle.std.specs.Prelude.{nat_eq, ◌==◌, ◌||◌, if◌then◌else◌}
use Rattle.std.specs.List.{list_any}
use Rattle.std.proofs.lemmas.Bool.{eqb-true, eqb-false}
use Rattle.hlo_num.specs.Operators.{truth}
use Rattle.il_core.specs.declared.instr.End.{End}
use Rattle.il_core.specs.declared.instr.End.TheVariants as ends
use Rattle.il_core.specs.World.{World, Outcome, choose}
use Rattle.il_core.specs.Meaning.{Frame, with_reg}
use Rattle.c_typed.specs.declared.statement.Label.{Label}
use Rattle.c_typed.specs.declared.statement.Label.TheVariants as labels
use Rattle.c_typed.specs.Results.{Locals, Flow, Normal, Breaks, Continues, Leaves as Gone, switched}
use Rattle.c_typed.specs.Statements as meaning
use Rattle.c_typed.specs.Trees as tree
use Rattle.c_typed.specs.Trees.{Sections}
use Rattle.lower_laws.specs.Code.{Code, Numbers, past_label, label}
use Rattle.lower_laws.specs.Statements.{open_behind, sections_open, stmt_past, sections_past, section_block, tests_code}
use Rattle.lower_laws.specs.Switches.{labels_past, labels_open, labels_code, label_block, test_past, label_tests_past, tests_past, label_tests}
use Rattle.lower_laws.proofs.Coming.{Setting, goes, from, arrives, leads_by, passes_label, goes_label}
use Rattle.lower_laws.proofs.Flowing.{EndsSame, Flows}
use Rattle.lower_laws.proofs.Frames.{IsFree, IsRoom, room_part, Agrees, Keeps, keeps_none, keeps_then, keeps_put, agrees_free, put_here, put_other}
use Rattle.lower_laws.proofs.Growing.{grow_label}
use Rattle.lower_laws.proofs.Passing.{IsPast, past_either, label_is_past}
use Rattle.lower_laws.proofs.StatementsGrow.{grow_labels, grow_label_tests, grow_tests, grow_stmt, past_row, past_stmt}
use Rattle.lower_laws.proofs.StatementsPass.{passes_label_tests, passes_tests}

swap_test : (a b : ℕ) → (a == b) ≡ (b == a)
swap_test a b = go (nat_eq a b) (nat_eq b a) refl refl
  where
    go : (p q : Bool) → nat_eq a b ≡ p → nat_eq b a ≡ q → (a == b) ≡ (b == a)
    go true true e f = e ∙ sym f
    go false false e f = e ∙ sym f
    go true false e f = absurd (eqb-false b a f (sym (eqb-true a b e)))
    go false true e f = absurd (eqb-false a b e (sym (eqb-true b a f)))

-- ---- the block of the first label that passes a test

found_at : (b q : Bool) (here there m : ℕ) → m < here → (q ≡ true → m < there) → (b || q) ≡ true → m < (if b then here else there)
found_at true q here there m lt more e = lt
found_at false q here there m lt more e = more e

missed_at : (b q : Bool) (here there none : ℕ) → (q ≡ false → there ≡ none) → (b || q) ≡ false → (if b then here else there) ≡ none
missed_at true q here there none more e = absurd cc
missed_at false q here there none more e = more e

past_at : (b opened : Bool) (here there m : ℕ) → IsPast opened m here → IsPast opened m there → IsPast opened m (if b then here else there)
past_at true opened here there m h h1 = h
past_at false opened here there m h h1 = h1

pub label_found : (is : Label → Bool) (ls : List Label) (opened : Bool) (n : Numbers) (m none : ℕ) → m < (past_label opened n).block
    → list_any is ls ≡ true → m < label_block is ls opened n none
label_found is [] opened n m none lt e = absurd cc
label_found is (l ∷ ls) opened n m none lt e =
    found_at (is l) (list_any is ls) _ _ m lt (λ more. label_found is ls true (past_label opened n) m none (omega arith) more) e

pub label_missed : (is : Label → Bool) (ls : List Label) (opened : Bool) (n : Numbers) (none : ℕ) → list_any is ls ≡ false
    → label_block is ls opened n none ≡ none
label_missed is [] opened n none e = refl
label_missed is (l ∷ ls) opened n none e =
    missed_at (is l) (list_any is ls) _ _ none (λ more. label_missed is ls true (past_label opened n) none more) e

label_behind : (is : Label → Bool) (ls : List Label) (opened : Bool) (n : Numbers) (none : ℕ)
    → IsPast (labels_open ls opened) (labels_past ls opened n).block none → IsPast opened n.block (label_block is ls opened n none)
label_behind is [] opened n none h = h
label_behind is (l ∷ ls) opened n none h =
    past_at (is l) opened _ _ n.block (label_is_past opened n)
    (past_either opened n.block _
    (omega (arith, (grow_label opened n).block, label_behind is ls true (past_label opened n) none (past_row ls h))))

module _ {S : Type 0} (c : Setting S) where
  -- the run o goes on, with the same locals, at block t as it is found from k where a test holds, and else at k
  pub record Tested (l : Locals) (w : World S) (r : ℕ) (k : Code) (n : Numbers) (found : Bool) (t : ℕ) (f : Frame) (o : Outcome S) : Type 0 where
    pub frame : Frame
    pub agrees : Agrees c.layout c.scope l frame
    pub keeps : Keeps c.layout c.scope r f frame
    pub runs : o ≡ (if found then from c k n t frame w else goes c k n frame w)

  -- the test of one case, and then the others
  decided : {l : Locals} {k : Code} {r : ℕ} {n : Numbers} {t : ℕ} {w : World S} {f f2 : Frame} {o o1 o2 o3 : Outcome S} {found : Bool} (here : ℕ) (b : Bool)
      → o ≡ choose (truth b) o1 o2 → Agrees c.layout c.scope l f2 → Keeps c.layout c.scope r f f2 → (Unit {0} → o1 ≡ from c k n here f2 w)
      → o2 ≡ o3 → Tested l w (suc (suc r)) k n found t f2 o3 → Tested l w r k n (b || found) (if b then here else t) f o
  decided {f2 = f2} here true e a keeps there next h = record { frame = f2; agrees = a; keeps = keeps; runs = e ∙ there tt }
  decided here false e a keeps there next h = record {
    frame = h.frame;
    agrees = h.agrees;
    keeps = keeps_then (omega arith) keeps h.keeps;
    runs = e ∙ next ∙ h.runs;
  }

  label_tests_meet : {l : Locals} {k : Code} (z v : ℕ) (ls : List Label) (opened : Bool) (there n : Numbers) (none : ℕ) (f : Frame) (w : World S)
      → f.regs z ≡ v → IsFree c.layout c.scope z → z < n.reg → IsRoom c.layout c.scope n.reg (label_tests_past ls n).reg
      → (label_tests_past ls n).block < there.block → Agrees c.layout c.scope l f
      → Tested l w n.reg k (label_tests_past ls n) (list_any (meaning.is_case v) ls) (label_block (meaning.is_case v) ls opened there none) f
      (goes c (label_tests z ls opened there n k) n f w)
  label_tests_meet z v [] opened there n none f w e fz zn room later agrees =
      record { frame = f; agrees = agrees; keeps = keeps_none f; runs = refl }
  label_tests_meet z v (labels.Default ∷ ls) opened there n none f w e fz zn room later agrees =
      label_tests_meet z v ls true (past_label opened there) n none f w e fz zn room (omega (arith, (grow_label opened there).block)) agrees
  label_tests_meet {l} {k} z v (labels.Case q ∷ ls) opened there n none f w e fz zn room later agrees =
      let gt = grow_label_tests ls (test_past n) in
      let gl = grow_label opened there in
      let f1 = with_reg f n.reg q.0 in
      let bit = truth (f1.regs z == f1.regs n.reg) in
      let f2 = with_reg f1 (suc n.reg) bit in
      let a1 = agrees_free n.reg q.0 (room.by n.reg (omega arith) (omega (arith, gt.reg))) agrees in
      let a2 = agrees_free (suc n.reg) bit (room.by (suc n.reg) (omega arith) (omega (arith, gt.reg))) a1 in
      let kept : Keeps c.layout c.scope n.reg f f2 = keeps_then {r1 = n.reg} (omega arith) (keeps_put f n.reg q.0 (omega arith))
      (keeps_put f1 (suc n.reg) bit (omega arith)) in
      let here = (past_label opened there).block in
      let rest = label_tests z ls true (past_label opened there) (test_past n) k in
      let e1 : f1.regs z ≡ v = put_other f.regs n.reg q.0 z (λ h. omega arith) ∙ e in
      let test : f2.regs (suc n.reg) ≡ truth (q.0 == v) =
      put_here f1.regs (suc n.reg) bit ∙ ap (λ a. truth (a == f1.regs n.reg)) e1 ∙ ap (λ a. truth (v == a)) (put_here f.regs n.reg q.0)
      ∙ ap truth (swap_test v q.0) in
      let e2 : f2.regs z ≡ v = put_other f1.regs (suc n.reg) bit z (λ h. omega arith) ∙ e1 in
      decided here (q.0 == v)
      (ap (λ a. choose a (from c rest (test_past n) here f2 w) (from c rest (test_past n) (test_past n).block f2 w)) test) a2 kept
      (λ h. (passes_label_tests c z ls true (past_label opened there) (test_past n) (omega arith)).by f2 w) (arrives c rest (test_past n) f2 w)
      (label_tests_meet z v ls true (past_label opened there) (test_past n) none f2 w e2 fz (omega arith)
      (room_part (omega arith) (omega arith) room) (omega (arith, gl.block)) a2)

  -- the tests of one section's labels, and then of the others'
  joined : {l : Locals} {w : World S} {r r2 tl tr : ℕ} {x k : Code} {n1 n : Numbers} {f : Frame} {o : Outcome S} (b d : Bool) → r ≤ r2
      → (h : Tested l w r x n1 b tl f o) → (b ≡ true → (g : Frame) → from c x n1 tl g w ≡ from c k n tl g w) → (b ≡ false → tl ≡ tr)
      → Tested l w r2 k n d tr h.frame (goes c x n1 h.frame w) → Tested l w r k n (b || d) tl f o
  joined true d le h there same h2 = record { frame = h.frame; agrees = h.agrees; keeps = h.keeps; runs = h.runs ∙ there refl h.frame }
  joined {w = w} {k = k} {n = n} false d le h there same h2 = record {
    frame = h2.frame;
    agrees = h2.agrees;
    keeps = keeps_then le h.keeps h2.keeps;
    runs = h.runs ∙ h2.runs ∙ ap (λ t. if d then from c k n t h2.frame w else goes c k n h2.frame w) (sym (same refl));
  }

  -- all tests of a switch
  pub tests_meet : {l : Locals} {k : Code} (z v : ℕ) (ss : Sections) (opened : Bool) (there n : Numbers) (none : ℕ) (f : Frame) (w : World S)
      → f.regs z ≡ v → IsFree c.layout c.scope z → z < n.reg → IsRoom c.layout c.scope n.reg (tests_past ss n).reg
      → (tests_past ss n).block < there.block → Agrees c.layout c.scope l f
      → Tested l w n.reg k (tests_past ss n) (meaning.some_label (meaning.is_case v) ss)
      (section_block c.layout.outline (meaning.is_case v) ss opened there none) f (goes c (tests_code c.layout z ss opened there n k) n f w)
  tests_meet z v tree.End opened there n none f w e fz zn room later agrees =
      record { frame = f; agrees = agrees; keeps = keeps_none f; runs = refl }
  tests_meet {l} {k} z v (tree.Section ls s rest) opened there n none f w e fz zn room later agrees =
      let y = c.layout in
      let inside = labels_open ls opened in
      let there1 = labels_past ls opened there in
      let behind = open_behind s inside in
      let there2 = stmt_past y.outline s inside there1 in
      let n1 = label_tests_past ls n in
      let g1 = grow_label_tests ls n in
      let g2 = grow_tests rest n1 in
      let h1 = grow_labels ls opened there in
      let h2 = grow_stmt y.outline s inside there1 in
      let tests = tests_code y z rest behind there2 n1 k in
      let is = meaning.is_case v in
      let first = label_tests_meet {k = tests} z v ls opened there n (section_block y.outline is rest behind there2 none) f w e fz zn
      (room_part (omega arith) g2.reg room) (omega (arith, g2.block)) agrees in
      joined (list_any is ls) (meaning.some_label is rest) g1.reg first
      (λ found g.
      (passes_tests c y z rest behind there2 n1
      (label_found is ls opened there (tests_past rest n1).block _ (omega (arith, (grow_label opened there).block)) found)).by g w)
      (label_missed is ls opened there _)
      (tests_meet z v rest behind there2 n1 none first.frame w (first.keeps.by z fz zn ∙ e) fz (omega (arith, g1.reg))
      (room_part g1.reg (omega arith) room) (omega (arith, h1.block, h2.block)) first.agrees)

  pub goes_labels : (k : Code) (ls : List Label) (opened : Bool) (n : Numbers) (f : Frame) (w : World S)
      → goes c (labels_code ls opened n k) n f w ≡ goes c k (labels_past ls opened n) f w
  goes_labels k [] opened n f w = refl
  goes_labels k (l ∷ ls) opened n f w =
      goes_label c (labels_code ls true (past_label opened n) k) opened n f w ∙ goes_labels k ls true (past_label opened n) f w

  led : {o : Outcome S} {q : Bool} (k : Code) (n : Numbers) (f : Frame) (w : World S) (here t : ℕ) (b : Bool) → (b || q) ≡ true
      → from c k n here f w ≡ o → (q ≡ true → from c k n t f w ≡ o) → from c k n (if b then here else t) f w ≡ o
  led k n f w here t true e first others = first
  led k n f w here t false e first others = others e

  no_more : {a b : ℕ} → a < b → a ≤ b
  no_more lt = omega arith

  -- the block of a label leads behind all labels of its row
  pub labels_lead : (k : Code) (is : Label → Bool) (ls : List Label) (opened : Bool) (n : Numbers) (none : ℕ) (f : Frame) (w : World S)
      → list_any is ls ≡ true → from c (labels_code ls opened n k) n (label_block is ls opened n none) f w ≡ goes c k (labels_past ls opened n) f w
  labels_lead k is [] opened n none f w found = absurd cc
  labels_lead k is (l ∷ ls) opened n none f w found =
      let n1 = past_label opened n in
      let x = labels_code ls true n1 k in
      led (label opened n x) n f w n1.block (label_block is ls true n1 none) (is l) found
      ((leads_by c {k = label opened n x} {k1 = x} n1 (passes_label c opened n (omega arith))).by f w ∙ goes_labels k ls true n1 f w)
      (λ more.
      (passes_label c {k = x} opened n (no_more (label_found is ls true n1 n1.block none (omega arith) more))).by f w
      ∙ labels_lead k is ls true n1 none f w more)

  -- where a switch goes is past its start
  pub section_behind : (is : Label → Bool) (ss : Sections) (opened : Bool) (n : Numbers) (none : ℕ)
      → IsPast (sections_open ss opened) (sections_past c.layout.outline ss opened n).block none
      → IsPast opened n.block (section_block c.layout.outline is ss opened n none)
  section_behind is tree.End opened n none h = h
  section_behind is (tree.Section ls s rest) opened n none h =
      let inside = labels_open ls opened in
      let n1 = labels_past ls opened n in
      label_behind is ls opened n _
      (past_stmt c.layout.outline s inside n1 _
      (section_behind is rest (open_behind s inside) (stmt_past c.layout.outline s inside n1) none h))

  -- behind the sections of a switch
  pub flows_switched : {p q : End} {k : Code} {n : Numbers} {t : ℕ} {o : Outcome S} (opened : Bool) (v : Flow S)
      → EndsSame c q n (label opened n k) (past_label opened n) k → Flows c (ends.Jump (past_label opened n).block) q (label opened n k) n t o v
      → Flows c p q k (past_label opened n) t o (switched v)
  flows_switched {k = k} {n = n} opened (Normal l w) sq h = record {
    by = record { frame = h.by.frame; falls = h.by.falls; agrees = h.by.agrees; runs = h.by.runs ∙ goes_label c k opened n h.by.frame w };
  }
  flows_switched {k = k} {n = n} opened (Breaks l w) sq h = record {
    by = record {
      frame = h.by.frame;
      falls = h.by.falls;
      agrees = h.by.agrees;
      runs = h.by.runs ∙ (leads_by c {k = label opened n k} {k1 = k} (past_label opened n) (passes_label c opened n (omega arith))).by h.by.frame w;
    };
  }
  flows_switched opened (Continues l w) sq h = record {
    by = record { frame = h.by.frame; falls = h.by.falls; agrees = h.by.agrees; runs = h.by.runs ∙ sq.by h.by.frame w };
  }
  flows_switched opened (Gone e) sq h = record { by = h.by }

  pub flows_if : {p q : End} {k : Code} {n : Numbers} {t : ℕ} {o : Outcome S} {a b : Flow S} (test : Bool) → (test ≡ true → Flows c p q k n t o a)
      → (test ≡ false → Flows c p q k n t o b) → Flows c p q k n t o (if test then a else b)
  flows_if true a b = a refl
  flows_if false a b = b refl
