-- The layout that lowering gives a function is sound: each local has a register of its own, and no temporary has it.
use Rattle.std.proofs.Common.{◌≡◌, ℕ, zero, suc, ◌<◌, ◌≤◌, List, [], ◌∷◌, Bool, true, false, Option, Some, None, refl, sym, ap, ◌∙◌, subst, ⊎_elim, arith}
use Rattle.std.proofs.lemmas.Bool.{cases_lt, false≢true}
use Rattle.std.specs.Option.{unwrap_or}
use Rattle.std.specs.Prelude.{drop, is_some, length, map, slice_get, slice_index, take}
use Rattle.c_typed.specs.declared.function.Local.{Local}
use Rattle.c_typed.specs.Meaning.{elements}
use Rattle.c_typed.specs.Trees as tree
use Rattle.c_typed.specs.Trees.{Expr, Stmt, Sections}
use Rattle.lower_laws.specs.Bound.{Scope, HasValue, IsExpr, IsOptional, IsOptionalValue, locals_behind, sections_behind, IsStmt, AreSections}
use Rattle.lower_laws.specs.Code.{Numbers, past_end, past_label}
use Rattle.lower_laws.specs.Expressions.{past}
use Rattle.lower_laws.specs.Functions.{declarators, section_declarators, is_some_array, with_length, array_lengths, arrays_before}
use Rattle.lower_laws.specs.Layouts.{Layout}
use Rattle.lower_laws.specs.Statements.{optional_past, optional_open, condition_past, local_past, open_behind, sections_open, stmt_past, sections_past}
use Rattle.lower_laws.specs.Switches.{labels_past, labels_open, tests_past}
use Rattle.lower_laws.proofs.Declarators.{AllFrom, all_lower, least_at, drop_next, declarators_from, sections_from}
use Rattle.lower_laws.proofs.Fine.{FineExpr, FineValue, FineOptional, FineCondition, Fine, FineSections}
use Rattle.lower_laws.proofs.Frames.{IsRoom}
use Rattle.lower_laws.proofs.Growing.{grow, grow_label}
use Rattle.lower_laws.proofs.StatementsGrow.{grow_optional, grow_condition, grow_labels, grow_tests, grow_stmt}
use Rattle.lower_laws.proofs.Widening.{with_locals, wider, wider_optional, locals_grow, sections_grow}

module _ (y : Layout) (s : Scope) (ds : List ℕ) (reg : (x : ℕ) → y.register x ≡ slice_index ds x) (same : (x : ℕ)
    → y.outline.is_array x ≡ s.is_array x) (few : s.locals ≤ length ds) where
  -- the first known locals have registers below r, which rise
  pub record Placed (known r : ℕ) : Type 0 where
    pub behind : s.params ≤ r
    pub before : (x : ℕ) → x < known → s.is_array x ≡ false → y.register x < r
    pub rising : (x z : ℕ) → x < z → z < known → s.is_array x ≡ false → s.is_array z ≡ false → y.register x < y.register z

  placed_more : {known r r1 : ℕ} → r ≤ r1 → Placed known r → Placed known r1
  placed_more le h = record { behind = omega (arith, h.behind); before = λ x lt a. omega (arith, h.before x lt a); rising = h.rising }

  placed_next : (a : Bool) (known : ℕ) (n : Numbers) → y.outline.is_array known ≡ a → slice_index ds known ≡ n.reg → Placed known n.reg
      → Placed (suc known) (local_past a n).reg
  placed_next true known n e at h =
      let array : s.is_array known ≡ true = sym (same known) ∙ e in
      record {
        behind = h.behind;
        before = λ x lt a. h.before x (other x lt a array) a;
        rising = λ x z xz lt ax az. h.rising x z xz (other z lt az array) ax az;
      }
    where
      other : (x : ℕ) → x < suc known → s.is_array x ≡ false → s.is_array known ≡ true → x < known
      other x lt a array = ⊎_elim (λ below. below) (λ above. absurd (clash (x_is x known lt above) a array)) (cases_lt x known)
        where
          x_is : (x known : ℕ) → x < suc known → known ≤ x → x ≡ known
          x_is x known lt le = omega arith

          clash : {x : ℕ} → x ≡ known → s.is_array x ≡ false → s.is_array known ≡ true → ⊥
          clash e a b = false≢true (sym a ∙ ap s.is_array e ∙ b)
  placed_next false known n e at h =
      let here : y.register known ≡ n.reg = reg known ∙ at in
      record {
        behind = omega (arith, h.behind);
        before = λ x lt a. below x lt a here;
        rising = λ x z xz lt ax az. above x z xz lt ax az here;
      }
    where
      below : (x : ℕ) → x < suc known → s.is_array x ≡ false → y.register known ≡ n.reg → y.register x < suc n.reg
      below x lt a here = ⊎_elim (λ b. omega (arith, h.before x b a)) (λ b. omega (arith, here, ap y.register (x_is x known lt b))) (cases_lt x known)
        where
          x_is : (x known : ℕ) → x < suc known → known ≤ x → x ≡ known
          x_is x known lt le = omega arith

      above : (x z : ℕ) → x < z → z < suc known → s.is_array x ≡ false → s.is_array z ≡ false → y.register known ≡ n.reg
          → y.register x < y.register z
      above x z xz lt ax az here = ⊎_elim (λ b. h.rising x z xz b ax az)
          (λ b. omega (arith, here, ap y.register (x_is z known lt b), h.before x (omega arith) ax)) (cases_lt z known)
        where
          x_is : (x known : ℕ) → x < suc known → known ≤ x → x ≡ known
          x_is x known lt le = omega arith

  -- registers from r up to r1 are no local's, where known locals are declared and those to come have registers from r1 opened
  room_is : (known r r1 : ℕ) (k : List ℕ) → Placed known r → drop known ds ≡ k → AllFrom r1 k → IsRoom y s r r1
  room_is known r r1 k h e later = record {
    by = λ d from below. record {
      behind = omega (arith, h.behind);
      other = λ x ok is. ⊎_elim (λ b. absurd (omega (arith, h.before x b ok.1, is)))
          (λ b. absurd (omega (arith, reg x, is, least_at ds known x r1 (subst (AllFrom r1) (sym e) later) b (omega (arith, ok.0, few)))))
          (cases_lt x known);
    };
  }

  -- an expression at a place, in front of these declarators
  fine_expr : (e : Expr) (n : Numbers) (known : ℕ) (k : List ℕ) → IsExpr (with_locals s known) e → known ≤ s.locals → Placed known n.reg
      → drop known ds ≡ k → AllFrom (past e n).reg k → FineExpr y s e n
  fine_expr e n known k ok le h here later = record { bound = wider s known s.locals e le ok; room = room_is known n.reg (past e n).reg k h here later }

  fine_value : (e : Expr) (n : Numbers) (known : ℕ) (k : List ℕ) → IsExpr (with_locals s known) e → HasValue e → known ≤ s.locals
      → Placed known n.reg → drop known ds ≡ k → AllFrom (past e n).reg k → FineValue y s e n
  fine_value e n known k ok has le h here later = record {
    bound = wider s known s.locals e le ok;
    room = room_is known n.reg (past e n).reg k h here later;
    has = has;
  }

  fine_optional : (e : Option Expr) (n : Numbers) (known : ℕ) (k : List ℕ) → IsOptional (with_locals s known) e → known ≤ s.locals
      → Placed known n.reg → drop known ds ≡ k → AllFrom (optional_past e n).reg k → FineOptional y s e n
  fine_optional None n known k ok le h here later = tt
  fine_optional (Some e) n known k ok le h here later = fine_expr e n known k ok le h here later

  fine_condition : (e : Option Expr) (n : Numbers) (known : ℕ) (k : List ℕ) → IsOptionalValue (with_locals s known) e → known ≤ s.locals
      → Placed known n.reg → drop known ds ≡ k → AllFrom (condition_past e n).reg k → FineCondition y s e n
  fine_condition None n known k ok le h here later = tt
  fine_condition (Some e) n known k ok le h here later = fine_value e n known k ok.0 ok.1 le h here later

  -- what is so behind a statement
  pub record Behind (known r : ℕ) (k : List ℕ) : Type 0 where
    pub placed : Placed known r
    pub here : drop known ds ≡ k

  behind_more : {known r r1 : ℕ} {k : List ℕ} → r ≤ r1 → Behind known r k → Behind known r1 k
  behind_more le h = record { placed = placed_more le h.placed; here = h.here }

  mutual
    pub fine_stmt : (st : Stmt) (opened : Bool) (n : Numbers) (known : ℕ) (k : List ℕ) → IsStmt (with_locals s known) st
        → locals_behind st known ≤ s.locals → Behind known n.reg (declarators y.outline st opened n k) → AllFrom
        (stmt_past y.outline st opened n).reg k → Fine y s st opened n × Behind (locals_behind st known) (stmt_past y.outline st opened n).reg k
    fine_stmt tree.Empty opened n known k ok le h later = (tt, h)
    fine_stmt (tree.Sequence a b) opened n known k ok le h later =
        let o = y.outline in
        let o1 = open_behind a opened in
        let n1 = stmt_past o a opened n in
        let p = fine_stmt a opened n known (declarators o b o1 n1 k) ok.0 (omega (arith, locals_grow b (locals_behind a known))) h
        (declarators_from o b o1 n1 k later) in
        let q = fine_stmt b o1 n1 (locals_behind a known) k ok.1 le p.1 later in
        ((p.0, q.0), q.1)
    fine_stmt (tree.Declaration x None) opened n known k ok le h later =
        let d = drop_next ds known n.reg k h.here in (
          tt,
          record {
            placed = subst (λ z. Placed (suc known) (local_past (y.outline.is_array z) n).reg) (sym ok)
                (placed_next (y.outline.is_array known) known n refl d.1 h.placed);
            here = d.0;
          },
        )
    fine_stmt (tree.Declaration x (Some e)) opened n known k ok le h later =
        let d = drop_next ds known n.reg k h.here in
        let n1 = local_past (y.outline.is_array x) n in
        let placed : Placed (suc known) n1.reg = subst (λ z. Placed (suc known) (local_past (y.outline.is_array z) n).reg) (sym ok.0)
        (placed_next (y.outline.is_array known) known n refl d.1 h.placed) in (
          ((omega (arith, ok.0), ok.1), fine_value e n1 (suc known) k ok.2.0 ok.2.1 le placed d.0 later),
          record
              { placed = placed_more (grow e n1).reg placed; here = d.0 },
        )
    fine_stmt (tree.Expression e) opened n known k ok le h later = (fine_expr e n known k ok le h.placed h.here later, behind_more (grow e n).reg h)
    fine_stmt (tree.If e a) opened n known k ok le h later =
        let o = y.outline in
        let n1 = past_end (past e n) in
        let g = grow_label (open_behind a true) (stmt_past o a true n1) in
        let later1 = all_lower _ _ k g.reg later in
        let p = fine_stmt a true n1 known k ok.1 le (behind_more (grow e n).reg h) later1 in (
          (
            fine_value e n known _ ok.0.0 ok.0.1 (omega (arith, locals_grow a known)) h.placed h.here
                (declarators_from o a true n1 k later1),
            p.0,
          ),
          behind_more g.reg p.1,
        )
    fine_stmt (tree.IfElse e a b) opened n known k ok le h later =
        let o = y.outline in
        let n1 = past_end (past e n) in
        let n2 = past_end (stmt_past o a true n1) in
        let g = grow_label (open_behind b true) (stmt_past o b true n2) in
        let later1 = all_lower _ _ k g.reg later in
        let later2 = declarators_from o b true n2 k later1 in
        let p = fine_stmt a true n1 known (declarators o b true n2 k) ok.1 (omega (arith, locals_grow b (locals_behind a known)))
        (behind_more (grow e n).reg h) later2 in
        let q = fine_stmt b true n2 (locals_behind a known) k ok.2 le p.1 later1 in (
          (
            fine_value e n known _ ok.0.0 ok.0.1 (omega (arith, locals_grow a known, locals_grow b (locals_behind a known))) h.placed h.here
                (declarators_from o a true n1 _ later2),
            p.0,
            q.0,
          ),
          behind_more g.reg q.1,
        )
    fine_stmt (tree.Switch e ss) opened n known k ok le h later =
        let o = y.outline in
        let n1 = past e n in
        let nt = tests_past ss n1 in
        let n2 = past_end nt in
        let g1 = grow e n in
        let g2 = grow_tests ss n1 in
        let g = grow_label (sections_open ss false) (sections_past o ss false n2) in
        let later1 = all_lower _ _ k g.reg later in
        let later2 = sections_from o ss false n2 k later1 in
        let p = fine_sections ss false n2 known k ok.1 le (behind_more (omega (arith, g1.reg, g2.reg)) h) later1 in (
          (
            fine_value e n known _ ok.0.0 ok.0.1 (omega (arith, sections_grow ss known)) h.placed h.here
                (all_lower _ _ (section_declarators o ss false n2 k) g2.reg later2),
            room_is known n1.reg nt.reg _
                (placed_more g1.reg h.placed) h.here later2,
            p.0,
          ),
          behind_more g.reg p.1,
        )
    fine_stmt (tree.While e a) opened n known k ok le h later =
        let o = y.outline in
        let n1 = past_label opened n in
        let n2 = past_end (past e n1) in
        let h1 = behind_more (grow_label opened n).reg h in
        let p = fine_stmt a true n2 known k ok.1 le (behind_more (grow e n1).reg h1) later in
        ((fine_value e n1 known _ ok.0.0 ok.0.1 (omega (arith, locals_grow a known)) h1.placed h1.here (declarators_from o a true n2 k later), p.0), p.1)
    fine_stmt (tree.Do a e) opened n known k ok le h later =
        let o = y.outline in
        let n1 = past_label opened n in
        let n2 = stmt_past o a true n1 in
        let n3 = past_label (open_behind a true) n2 in
        let g = grow_label (open_behind a true) n2 in
        let p = fine_stmt a true n1 known k ok.0 le (behind_more (grow_label opened n).reg h)
        (all_lower _ _ k (omega (arith, g.reg, (grow e n3).reg)) later) in
        let h1 = behind_more g.reg p.1 in (
          (
            p.0,
            fine_value e n3 (locals_behind a known) k (wider s known (locals_behind a known) e
                (locals_grow a known) ok.1.0) ok.1.1 le h1.placed h1.here later,
          ),
          behind_more (grow e n3).reg h1,
        )
    fine_stmt (tree.For f e d a) opened n known k ok le h later =
        let o = y.outline in
        let n0 = optional_past f n in
        let n1 = past_label (optional_open f opened) n0 in
        let n2 = condition_past e n1 in
        let n3 = stmt_past o a true n2 in
        let n4 = past_label (open_behind a true) n3 in
        let g0 = grow_optional f n in
        let g1 = grow_label (optional_open f opened) n0 in
        let g2 = grow_condition e n1 in
        let g4 = grow_label (open_behind a true) n3 in
        let g5 = grow_optional d n4 in
        let l = locals_grow a known in
        let later3 = all_lower _ _ k (omega (arith, g4.reg, g5.reg)) later in
        let later2 = declarators_from o a true n2 k later3 in
        let later1 = all_lower _ _ (declarators o a true n2 k) g2.reg later2 in
        let h1 = behind_more (omega (arith, g0.reg, g1.reg)) h in
        let p = fine_stmt a true n2 known k ok.3 le (behind_more g2.reg h1) later3 in
        let h4 = behind_more g4.reg p.1 in (
          (
            fine_optional f n known _ ok.0 (omega arith) h.placed h.here
                (all_lower _ _ (declarators o a true n2 k) g1.reg later1),
            fine_condition e n1 known _ ok.1
                (omega arith) h1.placed h1.here later2,
            p.0,
            fine_optional d n4 (locals_behind a known) k
                (wider_optional s known (locals_behind a known) d l ok.2) le h4.placed h4.here later,
          ),
          behind_more g5.reg h4,
        )
    fine_stmt tree.Break opened n known k ok le h later = (tt, h)
    fine_stmt tree.Continue opened n known k ok le h later = (tt, h)
    fine_stmt (tree.Return None) opened n known k ok le h later = (tt, behind_more (grow_stmt y.outline (tree.Return None) opened n).reg h)
    fine_stmt (tree.Return (Some e)) opened n known k ok le h later = (
      fine_value e n known k ok.0 ok.1 le h.placed h.here later,
      behind_more
          (grow e n).reg h,
    )

    pub fine_sections : (ss : Sections) (opened : Bool) (n : Numbers) (known : ℕ) (k : List ℕ) → AreSections (with_locals s known) ss
        → sections_behind ss known ≤ s.locals → Behind known n.reg (section_declarators y.outline ss opened n k) → AllFrom
        (sections_past y.outline ss opened n).reg k → FineSections y s ss opened n × Behind (sections_behind ss known)
        (sections_past y.outline ss opened n).reg k
    fine_sections tree.End opened n known k ok le h later = (tt, h)
    fine_sections (tree.Section ls a rest) opened n known k ok le h later =
        let o = y.outline in
        let n1 = labels_past ls opened n in
        let o1 = labels_open ls opened in
        let o2 = open_behind a o1 in
        let n2 = stmt_past o a o1 n1 in
        let p = fine_stmt a o1 n1 known (section_declarators o rest o2 n2 k) ok.0 (omega (arith, sections_grow rest (locals_behind a known)))
        (behind_more (grow_labels ls opened n).reg h) (sections_from o rest o2 n2 k later) in
        let q = fine_sections rest o2 n2 (locals_behind a known) k ok.1 le p.1 later in
        ((p.0, q.0), q.1)

-- ## Arrays

first_length : (o : Option ℕ) (k : List ℕ) → is_some o ≡ true → slice_index (with_length o k) 0 ≡ unwrap_or o 0
first_length (Some n) k e = refl
first_length None k e = absurd cc

next_length : (o : Option ℕ) (k t : List ℕ) → slice_index (with_length o k) (length (with_length o t)) ≡ slice_index k (length t)
next_length (Some n) k t = refl
next_length None k t = refl

pub length_of_array : (xs : List Local) (a : ℕ) → is_some_array (slice_get xs a) ≡ true
    → slice_index (array_lengths xs) (arrays_before xs a) ≡ slice_index (map elements xs) a
length_of_array [] a e = absurd cc
length_of_array (x ∷ xs) zero e = first_length x.length (array_lengths xs) e
length_of_array (x ∷ xs) (suc a) e = next_length x.length (array_lengths xs) (array_lengths (take a xs)) ∙ length_of_array xs a e

some_before : (o : Option ℕ) (k : List ℕ) → is_some o ≡ true → 0 < length (with_length o k)
some_before (Some n) k e = omega arith
some_before None k e = absurd cc

more_before : (o : Option ℕ) (k t : List ℕ) → length k < length t → length (with_length o k) < length (with_length o t)
more_before (Some n) k t lt = omega arith
more_before None k t lt = lt

pub array_below : (xs : List Local) (a b : ℕ) → is_some_array (slice_get xs a) ≡ true → a < b → arrays_before xs a < arrays_before xs b
array_below [] a b e lt = absurd cc
array_below (x ∷ xs) a zero e lt = absurd (omega arith)
array_below (x ∷ xs) zero (suc b) e lt = some_before x.length (array_lengths (take b xs)) e
array_below (x ∷ xs) (suc a) (suc b) e lt = more_before x.length (array_lengths (take a xs)) (array_lengths (take b xs)) (array_below xs a b e (omega arith))

pub array_within : (xs : List Local) (a : ℕ) → is_some_array (slice_get xs a) ≡ true → arrays_before xs a < length (array_lengths xs)
array_within [] a e = absurd cc
array_within (x ∷ xs) zero e = some_before x.length (array_lengths xs) e
array_within (x ∷ xs) (suc a) e = more_before x.length (array_lengths (take a xs)) (array_lengths xs) (array_within xs a e)
