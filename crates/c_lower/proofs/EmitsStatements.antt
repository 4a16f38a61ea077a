-- The draft of a statement is its code.
use Rattle.std.proofs.Common.{ℕ, suc, ◌<◌, ◌≤◌, List, [], ◌∷◌, ◌++◌, length, sym, ap, ◌∙◌, subst, arith, Bool, true, false, Option, Some, None, refl}
use Rattle.std.proofs.Common.{append_assoc, length-append}
use Rattle.il_core.specs.declared.instr.End.{End}
use Rattle.il_core.specs.declared.instr.End.TheVariants as ends
use Rattle.c_typed.specs.declared.expression.Variable.TheVariants as variables
use Rattle.c_typed.specs.Expressions.{Whole}
use Rattle.c_typed.specs.Statements.{is_default}
use Rattle.c_typed.specs.Trees as tree
use Rattle.c_typed.specs.Trees.{Expr, Stmt, Sections}
use Rattle.lower_laws.specs.Bound.{Scope, IsStmt, AreSections, IsOptional, IsOptionalValue, behind, declared as declared_scope, locals_behind, sections_behind}
use Rattle.lower_laws.specs.Code.{Code, Numbers, close, label, past_end, past_label}
use Rattle.lower_laws.specs.Expressions as exprs
use Rattle.lower_laws.specs.Functions.{declarators, section_declarators}
use Rattle.lower_laws.specs.Statements as laws
use Rattle.lower_laws.specs.Switches as switches
use Rattle.c_lower.specs.Drafts.{Draft, Fixed, layout_with, finish, next_label, mark, reach, declare, begin_block}
use Rattle.c_lower.specs.Expressions.{written}
use Rattle.c_lower.specs.Settled.{settle}
use Rattle.c_lower.specs.Statements.{arrived, turned, looped, optional, condition, no_value, returned, declared, stated, sections, cases_marked}
use Rattle.c_lower.specs.Statements.{cases_tested, default_label, labels_at, labels_arrived}
use Rattle.lower_laws.specs.Statements.{section_block, tests_code}
use Rattle.c_lower.proofs.EmitsSwitches.{cases_at, labels_up, cases_up, marked_cases, cases_size, CasesAt, cases_by, cases_tests, cases_right}
use Rattle.c_lower.proofs.EmitsSwitches.{default_right, Right, Fills, fills_none, fills_then, labels_fill}
use Rattle.c_lower.proofs.Emits.{Grown, Agrees, Emits, joined, grown_none, grown_one, grown_then, none, one_then, puts, closes, marks, known, hole}
use Rattle.c_lower.proofs.Emits.{begins, branches, still}
use Rattle.c_lower.proofs.EmitsExpressions.{emits_expr, stores}

-- a declarator gives the next local its register
declares : {f r : ℕ → ℕ} (x : ℕ) (s : Draft) → Emits f r (λ l. x ∷ l) (λ k. k) s (declare x s)
unfolding declare
declares x s = record {
  targets = grown_none s.targets;
  locals = grown_one s.locals x;
  declares = λ k. append_assoc s.locals (x ∷ []) k;
  code = λ g k. refl;
}

declare_more : (x n : ℕ) (s : Draft) → n ≤ length s.locals → suc n ≤ length (declare x s).locals
unfolding declare
declare_more x n s w = omega (arith, w, length-append s.locals (x ∷ []))

no_values : {f r : ℕ → ℕ} (b : Bool) (n : Numbers) (s : Draft) → Emits f r (λ l. l) (laws.no_value_code b n) s (no_value b n s)
no_values false n s = closes (ends.Return None) s
no_values true n s = one_then (puts _ s) (closes (ends.Return (Some n.reg)) _)

-- a statement's draft, and how many locals are declared behind it
pub record Does (f r : ℕ → ℕ) (d : List ℕ → List ℕ) (c : Code → Code) (n : ℕ) (s s1 : Draft) : Type 0 where
  pub emits : Emits f r d c s s1
  pub locals : n ≤ length s1.locals

-- what declares nothing
does : {f r : ℕ → ℕ} {d : List ℕ → List ℕ} {c : Code → Code} {n : ℕ} {s s1 : Draft} → n ≤ length s.locals → Emits f r d c s s1 → Does f r d c n s s1
does w p = record { emits = p; locals = still w p }

reach_more : (l b n : ℕ) (s : Draft) → n ≤ length s.locals → n ≤ length (reach l b s).locals
unfolding reach
reach_more l b n s w = w

finish_more : (e : End) (n : ℕ) (s : Draft) → n ≤ length s.locals → n ≤ length (finish e s).locals
unfolding finish
finish_more e n s w = w

mark_more : (b n : ℕ) (s : Draft) → n ≤ length s.locals → n ≤ length (mark b s).locals
unfolding mark
mark_more b n s w = w

begin_more : (b : Bool) (m : Numbers) (n : ℕ) (s : Draft) → n ≤ length s.locals → n ≤ length (begin_block b m s).locals
begin_more true m n s w = finish_more _ n _ (mark_more _ n s w)
begin_more false m n s w = w

arrived_more : (l : ℕ) (b : Bool) (m : Numbers) (n : ℕ) (s : Draft) → n ≤ length s.locals → n ≤ length (arrived l b m s).locals
arrived_more l b m n s w = reach_more l _ n _ (begin_more b m n s w)

looped_more : (top l : ℕ) (m : Numbers) (n : ℕ) (s : Draft) → n ≤ length s.locals → n ≤ length (looped top l m s).locals
looped_more top l m n s w = reach_more l _ n _ (finish_more _ n s w)

turned_more : (l other : ℕ) (m : Numbers) (n : ℕ) (s : Draft) → n ≤ length s.locals → n ≤ length (turned l other m s).locals
turned_more l other m n s w = reach_more other _ n _ (finish_more _ n s w)

module _ (f r : ℕ → ℕ) (y : Fixed) where
  optionals : (e : Option Expr) (sc : Scope) (n : Numbers) (s : Draft) → sc.locals ≤ length s.locals → IsOptional sc e →
      Emits f r (λ l. l) (laws.optional_code (layout_with y r) e n) s (optional y e n s)
  optionals None sc n s w h = none s
  optionals (Some e) sc n s w h = emits_expr f r y sc e n s w h

  conditions : (e : Option Expr) (sc : Scope) (l : ℕ) (n : Numbers) (s : Draft) → sc.locals ≤ length s.locals → IsOptionalValue sc e →
      Emits f r (λ l. l) (laws.condition_code (layout_with y r) e n (laws.condition_past e n).block (f l)) s (condition y e l n s)
  conditions None sc l n s w h = begins true n s
  conditions (Some e) sc l n s w h = one_then (emits_expr f r y sc e n s w h.0) (branches (exprs.result e n) l (exprs.past e n) _)

  returns : (e : Option Expr) (sc : Scope) (n : Numbers) (s : Draft) (p q : End) (opened : Bool) → sc.locals ≤ length s.locals → IsOptionalValue sc e →
      Emits f r (λ l. l) (laws.stmt_code (layout_with y r) p q (tree.Return e) opened n) s (returned y e n s)
  returns None sc n s p q opened w h = no_values y.outline.value n s
  returns (Some e) sc n s p q opened w h = one_then (emits_expr f r y sc e n s w h.0) (closes (ends.Return (Some (exprs.result e n))) _)

  declarations : (x : ℕ) (e : Option Expr) (sc : Scope) (n : Numbers) (s : Draft) (p q : End) (opened : Bool) → sc.locals ≤ length s.locals →
      IsStmt sc (tree.Declaration x e) →
      Does f r (declarators y.outline (tree.Declaration x e) opened n) (laws.stmt_code (layout_with y r) p q (tree.Declaration x e) opened n)
      (suc sc.locals) s (declared y x e n s)
  declarations x None sc n s p q opened w h = record { emits = declares n.reg s; locals = declare_more n.reg sc.locals s w }
  declarations x (Some e) sc n s p q opened w h =
      let value = laws.local_past (y.outline.is_array x) n in
      let d = declares {f = f} {r = r} n.reg s in
      let more = declare_more n.reg sc.locals s w in
      let v = emits_expr f r y (declared_scope sc) e value (declare n.reg s) more h.2.0 in
      let is = h.0 in
      let below : x < suc sc.locals = omega (arith, is) in
      let t = stores f r y (Whole (variables.Local x)) (exprs.result e value) (suc sc.locals) _ (still more v) below in
      record { emits = one_then d (one_then v t); locals = still (still more v) t }

-- the sections of a switch
pub record Filled (f r : ℕ → ℕ) (y : Fixed) (p q : End) (ss : Sections) (at : ℕ) (opened : Bool) (n : Numbers) (m : ℕ) (s s1 : Draft) : Type 0 where
  pub fills : Fills f r (section_declarators y.outline ss opened n) (laws.sections_code (layout_with y r) p q ss opened n)
      (CasesAt f y.outline ss at opened n) at (cases_at ss at) s s1
  pub locals : m ≤ length s1.locals

says_of : {f r : ℕ → ℕ} {d : List ℕ → List ℕ} {c : Code → Code} {P Q : Type 0} {lo hi : ℕ} {s s1 : Draft} → (P → Q) → Fills f r d c P lo hi s s1 →
    Fills f r d c Q lo hi s s1
says_of t p = record {
  more = p.more;
  before = p.before;
  behind = p.behind;
  locals = p.locals;
  declares = p.declares;
  says = λ g. t (p.says g);
  code = p.code;
}

-- the labels of the cases stand in a row behind those that were there
cases_room : (ss : Sections) (s : Draft) → cases_at ss (next_label s) ≤ length (cases_marked ss s).targets
unfolding next_label
cases_room ss s = let e = cases_size ss s in omega (arith, e)

cases_more : (ss : Sections) (n : ℕ) (s : Draft) → n ≤ length s.locals → n ≤ length (cases_marked ss s).locals
cases_more ss n s w = subst (λ (l : List ℕ). n ≤ length l) (sym (marked_cases (λ a. a) ss s).locals) w

-- the whole of a switch, behind its word in register x
switched : (f r : ℕ → ℕ) (y : Fixed) (x : ℕ) (ss : Sections) (l : ℕ) (q : End) (body tests : Numbers) (held start end : Draft) →
    Emits f r (λ k. k) (λ k. cases_by f x ss (next_label held) tests (close (ends.Jump (f (default_label ss (next_label held) l))) k))
    (cases_marked ss held) start →
    Fills f r (section_declarators y.outline ss false body) (laws.sections_code (layout_with y r) (ends.Jump (f l)) (settle f q) ss false body)
    (CasesAt f y.outline ss (next_label held) false body) (next_label held) (cases_at ss (next_label held)) start end →
    Emits f r (section_declarators y.outline ss false body) (λ k. tests_code (layout_with y r) x ss false body tests
    (close (ends.Jump (section_block y.outline is_default ss false body (f l)))
    (laws.sections_code (layout_with y r) (ends.Jump (f l)) (settle f q) ss false body k))) held end
unfolding next_label
switched f r y x ss l q body tests held start end t p =
    let at = length held.targets in
    let m = marked_cases f ss held in
    let size = cases_size ss held in
    let up = cases_up ss at in
    let right : Agrees f r held end → Right f r at (cases_at ss at) start end = λ g. record {
      row = λ a h i j. g.labels a h j;
      labels = λ a h i. let v : length held.targets ≤ a = omega (arith, h, t.targets.more, m.targets.more) in g.labels a v i;
      locals = g.locals;
    } in
    let agrees : Agrees f r held end → Agrees f r (cases_marked ss held) start = λ g. record {
      labels = λ a h i.
          let v : length held.targets ≤ a = omega (arith, h, m.targets.more) in
          let j : a < length end.targets = omega (arith, i, p.more) in
          let u : cases_at ss at ≤ a = omega (arith, h, size) in
          g.labels a v j ∙ p.behind a i u;
      locals = λ a h. let j : a < length end.locals = omega (arith, h, p.locals.more) in g.locals a j ∙ p.locals.keeps a h;
    } in
    record {
      targets = record {
        more = omega (arith, m.targets.more, t.targets.more, p.more);
        keeps = λ a h.
            let h1 : a < length (cases_marked ss held).targets = omega (arith, h, m.targets.more) in
            let h2 : a < length start.targets = omega (arith, h1, t.targets.more) in
            p.before a h2 h ∙ t.targets.keeps a h1 ∙ m.targets.keeps a h;
      };
      locals = subst (λ (v : List ℕ). Grown v end.locals) m.locals (grown_then t.locals p.locals);
      declares = λ k. p.declares k ∙ t.declares (section_declarators y.outline ss false body k)
          ∙ ap (λ (v : List ℕ). v ++ section_declarators y.outline ss false body k) m.locals;
      code = λ g k.
          let there = p.says (right g) in
          let rest = laws.sections_code (layout_with y r) (ends.Jump (f l)) (settle f q) ss false body k in
          p.code (right g) k ∙ t.code (agrees g) rest ∙ m.code _
          ∙ ap (λ b. joined f held (cases_by f x ss at tests (close (ends.Jump b) rest))) (default_right f y.outline ss at false body l there)
          ∙ ap (λ j. joined f held j) (cases_right f (layout_with y r) x ss at false body tests _ there);
    }

module _ (f r : ℕ → ℕ) (y : Fixed) where
  mutual
    pub states : (a : Stmt) (sc : Scope) (p q : End) (opened : Bool) (n : Numbers) (s : Draft) → sc.locals ≤ length s.locals → IsStmt sc a →
        Does f r (declarators y.outline a opened n) (laws.stmt_code (layout_with y r) (settle f p) (settle f q) a opened n)
        (locals_behind a sc.locals) s (stated y p q a opened n s)
    states tree.Empty sc p q opened n s w h = record { emits = none s; locals = w }
    states (tree.Sequence a b) sc p q opened n s w h =
        let g = states a sc p q opened n s w h.0 in
        let j = states b (behind a sc) p q (laws.open_behind a opened) (laws.stmt_past y.outline a opened n) _ g.locals h.1 in
        record { emits = one_then g.emits j.emits; locals = j.locals }
    states (tree.Declaration x e) sc p q opened n s w h = declarations f r y x e sc n s (settle f p) (settle f q) opened w h
    states (tree.Expression e) sc p q opened n s w h = does w (emits_expr f r y sc e n s w h)
    states (tree.If e a) sc p q opened n s w h =
        let asked = exprs.past e n in
        let inside = past_end asked in
        let tested = written y e n s in
        let l = next_label tested in
        let last = laws.stmt_past y.outline a true inside in
        let after = past_label (laws.open_behind a true) last in
        let x = exprs.result e n in
        let g = emits_expr f r y sc e n s w h.0.0 in
        let m = marks {f = f} {r = r} 0 tested in
        let b = branches {f = f} {r = r} x l asked (mark 0 tested) in
        let body = states a sc p q true inside _ (still (still (still w g) m) b) h.1 in
        let inner = one_then b (one_then body.emits (begins (laws.open_behind a true) last _)) in
        let held = hole {f = f} {r = r} after.block (λ v k. close (ends.Branch x inside.block v)
        (laws.stmt_code (layout_with y r) (settle f p) (settle f q) a true inside (label (laws.open_behind a true) last k))) inner in
        record { emits = one_then g held; locals = arrived_more l _ last _ _ body.locals }
    states (tree.IfElse e a b) sc p q opened n s w h =
        let asked = exprs.past e n in
        let first = past_end asked in
        let turn = laws.stmt_past y.outline a true first in
        let second = past_end turn in
        let last = laws.stmt_past y.outline b true second in
        let after = past_label (laws.open_behind b true) last in
        let x = exprs.result e n in
        let tested = written y e n s in
        let l = next_label tested in
        let other = next_label (mark 0 tested) in
        let g = emits_expr f r y sc e n s w h.0.0 in
        let m1 = marks {f = f} {r = r} 0 tested in
        let m2 = marks {f = f} {r = r} 0 (mark 0 tested) in
        let c = branches {f = f} {r = r} x other asked (mark 0 (mark 0 tested)) in
        let yes = states a sc p q true first _ (still (still (still (still w g) m1) m2) c) h.1 in
        let inner = one_then c (one_then yes.emits (closes (ends.Jump l) _)) in
        let held = hole {f = f} {r = r} second.block (λ v k. close (ends.Branch x first.block v)
        (laws.stmt_code (layout_with y r) (settle f p) (settle f q) a true first (close (ends.Jump (f l)) k))) inner in
        let no = states b (behind a sc) p q true second _ (turned_more l other turn _ _ yes.locals) h.2 in
        let outer = one_then held (one_then no.emits (begins (laws.open_behind b true) last _)) in
        record {
          emits = one_then g (hole {f = f} {r = r} after.block (λ v k. close (ends.Branch x first.block second.block)
              (laws.stmt_code (layout_with y r) (settle f p) (settle f q) a true first (close (ends.Jump v)
              (laws.stmt_code (layout_with y r) (settle f p) (settle f q) b true second (label (laws.open_behind b true) last k))))) outer);
          locals = arrived_more l _ last _ _ no.locals;
        }
    states (tree.Switch e ss) sc p q opened n s w h =
        let tests = exprs.past e n in
        let body = past_end (switches.tests_past ss tests) in
        let last = laws.sections_past y.outline ss false body in
        let going = laws.sections_open ss false in
        let x = exprs.result e n in
        let asked = written y e n s in
        let l = next_label asked in
        let held = mark 0 asked in
        let g = emits_expr f r y sc e n s w h.0.0 in
        let m = marks {f = f} {r = r} 0 asked in
        let at = next_label held in
        let marked = cases_marked ss held in
        let to = default_label ss at l in
        let tested = one_then (cases_tests {f = f} {r = r} x ss at tests marked) (closes (ends.Jump to) _) in
        let start = finish (ends.Jump to) (cases_tested x ss at tests marked) in
        let w1 = cases_more ss sc.locals held (still (still w g) m) in
        let room = cases_room ss held in
        let room1 : cases_at ss at ≤ length start.targets = omega (arith, room, tested.targets.more) in
        let fill = section_states ss sc (ends.Jump l) q at false body start (still w1 tested) room1 h.1 in
        let inside = switched f r y x ss l q body tests held start _ tested fill.fills in
        let inner = one_then inside (begins going last _) in
        record {
          emits = one_then g (hole {f = f} {r = r} (past_label going last).block (λ v k. tests_code (layout_with y r) x ss false body tests
              (close (ends.Jump (section_block y.outline is_default ss false body v))
              (laws.sections_code (layout_with y r) (ends.Jump v) (settle f q) ss false body (label going last k)))) inner);
          locals = arrived_more l going last _ _ fill.locals;
        }
    states (tree.While e a) sc p q opened n s w h =
        let head = past_label opened n in
        let body = past_end (exprs.past e head) in
        let begun = begin_block opened n s in
        let top = next_label begun in
        let tested = written y e head (mark head.block begun) in
        let l = next_label tested in
        let last = laws.stmt_past y.outline a true body in
        let x = exprs.result e head in
        let g = begins {f = f} {r = r} opened n s in
        let m1 = marks {f = f} {r = r} head.block begun in
        let v = emits_expr f r y sc e head (mark head.block begun) (still (still w g) m1) h.0.0 in
        let m2 = marks {f = f} {r = r} 0 tested in
        let b = branches {f = f} {r = r} x l (exprs.past e head) (mark 0 tested) in
        let d = states a sc (ends.Jump l) (ends.Loop top) true body _ (still (still (still (still (still w g) m1) v) m2) b) h.1 in
        let inner = one_then b (one_then d.emits (closes (ends.Loop top) _)) in
        let held = hole {f = f} {r = r} (past_end last).block (λ t k. close (ends.Branch x body.block t)
        (laws.stmt_code (layout_with y r) (ends.Jump t) (ends.Loop (f top)) a true body (close (ends.Loop (f top)) k))) inner in
        let all = one_then v held in
        let whole = known {f = f} {r = r} head.block (λ t k. exprs.code (layout_with y r) e head (close (ends.Branch x body.block (past_end last).block)
        (laws.stmt_code (layout_with y r) (ends.Jump (past_end last).block) (ends.Loop t) a true body (close (ends.Loop t) k)))) all in
        record { emits = one_then g whole; locals = looped_more top l last _ _ d.locals }
    states (tree.Do a e) sc p q opened n s w h =
        let body = past_label opened n in
        let last = laws.stmt_past y.outline a true body in
        let asked = past_label (laws.open_behind a true) last in
        let again = past_end (exprs.past e asked) in
        let after = past_end again in
        let begun = begin_block opened n s in
        let top = next_label begun in
        let held = mark body.block begun in
        let l = next_label held in
        let ask = next_label (mark 0 held) in
        let x = exprs.result e asked in
        let g = begins {f = f} {r = r} opened n s in
        let m1 = marks {f = f} {r = r} body.block begun in
        let m2 = marks {f = f} {r = r} 0 held in
        let m3 = marks {f = f} {r = r} 0 (mark 0 held) in
        let d = states a sc (ends.Jump l) (ends.Jump ask) true body (mark 0 (mark 0 held)) (still (still (still (still w g) m1) m2) m3) h.0 in
        let inside = hole {f = f} {r = r} asked.block
        (λ t k. laws.stmt_code (layout_with y r) (ends.Jump (f l)) (ends.Jump t) a true body (label (laws.open_behind a true) last k))
        (one_then d.emits (begins (laws.open_behind a true) last _)) in
        let here = arrived_more ask (laws.open_behind a true) last (locals_behind a sc.locals) _ d.locals in
        let w1 = still (still (still (still w g) m1) m2) inside in
        let v = emits_expr f r y sc e asked _ w1 h.1.0 in
        let b = branches {f = f} {r = r} x l (exprs.past e asked)
        (written y e asked (arrived ask (laws.open_behind a true) last (stated y (ends.Jump l) (ends.Jump ask) a true body (mark 0 (mark 0 held))))) in
        let outer = one_then inside (one_then v (one_then b (closes (ends.Loop top) _))) in
        let all = hole {f = f} {r = r} after.block
        (λ t k. laws.stmt_code (layout_with y r) (ends.Jump t) (ends.Jump asked.block) a true body (label (laws.open_behind a true) last
        (exprs.code (layout_with y r) e asked (close (ends.Branch x again.block t) (close (ends.Loop (f top)) k))))) outer in
        let whole = known {f = f} {r = r} body.block
        (λ t k. laws.stmt_code (layout_with y r) (ends.Jump after.block) (ends.Jump asked.block) a true body (label (laws.open_behind a true) last
        (exprs.code (layout_with y r) e asked (close (ends.Branch x again.block after.block) (close (ends.Loop t) k))))) all in
        record { emits = one_then g whole; locals = looped_more top l again _ _ (still (still here v) b) }
    states (tree.For a b c t) sc p q opened n s w h =
        let first = laws.optional_past a n in
        let started = laws.optional_open a opened in
        let head = past_label started first in
        let body = laws.condition_past b head in
        let last = laws.stmt_past y.outline t true body in
        let step = past_label (laws.open_behind t true) last in
        let again = laws.optional_past c step in
        let after = past_end again in
        let begun = begin_block started first (optional y a n s) in
        let top = next_label begun in
        let held = mark head.block begun in
        let l = next_label held in
        let next = next_label (mark 0 held) in
        let g0 = optionals f r y a sc n s w h.0 in
        let g = one_then g0 (begins {f = f} {r = r} started first (optional y a n s)) in
        let m1 = marks {f = f} {r = r} head.block begun in
        let m2 = marks {f = f} {r = r} 0 held in
        let m3 = marks {f = f} {r = r} 0 (mark 0 held) in
        let w3 = still (still (still (still w g) m1) m2) m3 in
        let v = conditions f r y b sc l head (mark 0 (mark 0 held)) w3 h.1 in
        let d = states t sc (ends.Jump l) (ends.Jump next) true body _ (still w3 v) h.3 in
        let inside = hole {f = f} {r = r} step.block
        (λ u k. laws.condition_code (layout_with y r) b head body.block (f l)
        (laws.stmt_code (layout_with y r) (ends.Jump (f l)) (ends.Jump u) t true body (label (laws.open_behind t true) last k)))
        (one_then v (one_then d.emits (begins (laws.open_behind t true) last _))) in
        let here = arrived_more next (laws.open_behind t true) last (locals_behind t sc.locals) _ d.locals in
        let w1 = still (still (still (still w g) m1) m2) inside in
        let u = optionals f r y c sc step _ w1 h.2 in
        let outer = one_then inside (one_then u (closes (ends.Loop top) _)) in
        let all = hole {f = f} {r = r} after.block
        (λ z k. laws.condition_code (layout_with y r) b head body.block z
        (laws.stmt_code (layout_with y r) (ends.Jump z) (ends.Jump step.block) t true body (label (laws.open_behind t true) last
        (laws.optional_code (layout_with y r) c step (close (ends.Loop (f top)) k))))) outer in
        let whole = known {f = f} {r = r} head.block
        (λ z k. laws.condition_code (layout_with y r) b head body.block after.block
        (laws.stmt_code (layout_with y r) (ends.Jump after.block) (ends.Jump step.block) t true body (label (laws.open_behind t true) last
        (laws.optional_code (layout_with y r) c step (close (ends.Loop z) k))))) all in
        record { emits = one_then g whole; locals = looped_more top l again _ _ (still here u) }
    states tree.Break sc p q opened n s w h = does w (closes p s)
    states tree.Continue sc p q opened n s w h = does w (closes q s)
    states (tree.Return e) sc p q opened n s w h = does w (returns f r y e sc n s (settle f p) (settle f q) opened w h)

    pub section_states : (ss : Sections) (sc : Scope) (p q : End) (at : ℕ) (opened : Bool) (n : Numbers) (s : Draft) → sc.locals ≤ length s.locals →
        cases_at ss at ≤ length s.targets → AreSections sc ss →
        Filled f r y (settle f p) (settle f q) ss at opened n (sections_behind ss sc.locals) s (sections y p q ss at opened n s)
    section_states tree.End sc p q at opened n s w room h = record { fills = fills_none at (none s); locals = w }
    section_states (tree.Section ls a rest) sc p q at opened n s w room h =
        let next = labels_at ls at in
        let up = labels_up ls at in
        let over = cases_up rest next in
        let inside = switches.labels_open ls opened in
        let there = switches.labels_past ls opened n in
        let room0 : next ≤ length s.targets = omega (arith, over, room) in
        let b = labels_fill {f = f} {r = r} ls at opened n s room0 in
        let w1 : sc.locals ≤ length (labels_arrived ls at opened n s).locals = omega (arith, w, b.locals.more) in
        let d = states a sc p q inside there (labels_arrived ls at opened n s) w1 h.0 in
        let first = fills_then at next next up (omega arith) room0 b (fills_none next d.emits) in
        let room1 : cases_at rest next ≤ length (stated y p q a inside there (labels_arrived ls at opened n s)).targets = omega (arith, room, first.more) in
        let others = section_states rest (behind a sc) p q next (laws.open_behind a inside) (laws.stmt_past y.outline a inside there) _ d.locals room1 h.1 in
        let all = fills_then at next (cases_at rest next) up over room first others.fills in
        record { fills = says_of (λ v. (v.0.0, v.1)) all; locals = others.locals }
