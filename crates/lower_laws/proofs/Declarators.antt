-- The registers of declarators: they rise, and lie behind what stood before.
use Rattle.std.proofs.Common.{◌≡◌, ℕ, zero, suc, ◌<◌, ◌≤◌, List, [], ◌∷◌, Bool, true, false, Some, None, length, drop, arith}
use Rattle.std.specs.Prelude.{slice_index, ⊤}
use Rattle.c_typed.specs.Trees as tree
use Rattle.c_typed.specs.Trees.{Stmt, Sections}
use Rattle.lower_laws.specs.Code.{Numbers, past_end, past_label}
use Rattle.lower_laws.specs.Expressions.{past}
use Rattle.lower_laws.specs.Functions.{declarators, section_declarators}
use Rattle.lower_laws.specs.Layouts.{Outline}
use Rattle.lower_laws.specs.Statements.{optional_past, optional_open, condition_past, open_behind, sections_open, stmt_past, sections_past}
use Rattle.lower_laws.specs.Switches.{labels_past, labels_open, tests_past}
use Rattle.lower_laws.proofs.Growing.{grow, grow_label}
use Rattle.lower_laws.proofs.StatementsGrow.{grow_optional, grow_condition, grow_labels, grow_tests, grow_local, grow_stmt}

-- each number of a list is at least r
abbrev pub AllFrom : ℕ → List ℕ → Type 0
AllFrom r [] = ⊤
AllFrom r (v ∷ k) = (r ≤ v) × AllFrom r k

pub all_lower : (r r1 : ℕ) (k : List ℕ) → r ≤ r1 → AllFrom r1 k → AllFrom r k
all_lower r r1 [] le h = tt
all_lower r r1 (v ∷ k) le h = (omega (arith, h.0), all_lower r r1 k le h.1)

pub least_at : (ds : List ℕ) (n x r : ℕ) → AllFrom r (drop n ds) → n ≤ x → x < length ds → r ≤ slice_index ds x
least_at [] n x r h le lt = absurd (omega arith)
least_at (d ∷ ds) zero zero r h le lt = h.0
least_at (d ∷ ds) zero (suc x) r h le lt = least_at ds zero x r h.1 (omega arith) (omega arith)
least_at (d ∷ ds) (suc n) zero r h le lt = absurd (omega arith)
least_at (d ∷ ds) (suc n) (suc x) r h le lt = least_at ds n x r h (omega arith) (omega arith)

-- the next one of a list, and those behind it
pub drop_next : (ds : List ℕ) (n v : ℕ) (k : List ℕ) → drop n ds ≡ v ∷ k → (drop (suc n) ds ≡ k) × (slice_index ds n ≡ v)
drop_next [] zero v k e = absurd cc
drop_next [] (suc n) v k e = absurd cc
drop_next (d ∷ ds) zero v k e =
    let tails : ds ≡ k = cc in
    let heads : d ≡ v = cc in
    (tails, heads)
drop_next (d ∷ ds) (suc n) v k e = drop_next ds n v k e

-- declarators take registers from the place on, where those behind do from behind it on
mutual
  pub declarators_from : (o : Outline) (st : Stmt) (opened : Bool) (n : Numbers) (k : List ℕ) → AllFrom (stmt_past o st opened n).reg k
      → AllFrom n.reg (declarators o st opened n k)
  declarators_from o tree.Empty opened n k h = h
  declarators_from o (tree.Sequence a b) opened n k h =
      declarators_from o a opened n _ (declarators_from o b (open_behind a opened) (stmt_past o a opened n) k h)
  declarators_from o (tree.Declaration x None) opened n k h = (omega arith, all_lower n.reg _ k (grow_local (o.is_array x) n).reg h)
  declarators_from o (tree.Declaration x (Some e)) opened n k h =
      (omega arith, all_lower n.reg _ k (grow_stmt o (tree.Declaration x (Some e)) opened n).reg h)
  declarators_from o (tree.Expression e) opened n k h = all_lower n.reg _ k (grow e n).reg h
  declarators_from o (tree.If e a) opened n k h =
      let n1 = past_end (past e n) in
      all_lower n.reg _ (declarators o a true n1 k) (grow e n).reg
      (declarators_from o a true n1 k (all_lower _ _ k (grow_label (open_behind a true) _).reg h))
  declarators_from o (tree.IfElse e a b) opened n k h =
      let n1 = past_end (past e n) in
      let n2 = past_end (stmt_past o a true n1) in
      all_lower n.reg _ (declarators o a true n1 (declarators o b true n2 k)) (grow e n).reg
      (declarators_from o a true n1 _ (declarators_from o b true n2 k (all_lower _ _ k (grow_label (open_behind b true) _).reg h)))
  declarators_from o (tree.Switch e ss) opened n k h =
      let n1 = past e n in
      let n2 = past_end (tests_past ss n1) in
      all_lower n.reg _ (section_declarators o ss false n2 k) (omega (arith, (grow e n).reg, (grow_tests ss n1).reg))
      (sections_from o ss false n2 k (all_lower _ _ k (grow_label (sections_open ss false) _).reg h))
  declarators_from o (tree.While e a) opened n k h =
      let n1 = past_label opened n in
      all_lower n.reg _ (declarators o a true (past_end (past e n1)) k) (omega (arith, (grow_label opened n).reg, (grow e n1).reg))
      (declarators_from o a true (past_end (past e n1)) k h)
  declarators_from o (tree.Do a e) opened n k h =
      let n1 = past_label opened n in
      let n2 = stmt_past o a true n1 in
      let n3 = past_label (open_behind a true) n2 in
      all_lower n.reg _ (declarators o a true n1 k) (grow_label opened n).reg
      (declarators_from o a true n1 k (all_lower _ _ k (omega (arith, (grow_label (open_behind a true) n2).reg, (grow e n3).reg)) h))
  declarators_from o (tree.For f e d a) opened n k h =
      let n0 = optional_past f n in
      let n1 = past_label (optional_open f opened) n0 in
      let n2 = condition_past e n1 in
      let n3 = stmt_past o a true n2 in
      let n4 = past_label (open_behind a true) n3 in
      all_lower n.reg _ (declarators o a true n2 k)
      (omega (arith, (grow_optional f n).reg, (grow_label (optional_open f opened) n0).reg, (grow_condition e n1).reg))
      (declarators_from o a true n2 k (all_lower _ _ k (omega (arith, (grow_label (open_behind a true) n3).reg, (grow_optional d n4).reg)) h))
  declarators_from o tree.Break opened n k h = h
  declarators_from o tree.Continue opened n k h = h
  declarators_from o (tree.Return e) opened n k h = all_lower n.reg _ k (grow_stmt o (tree.Return e) opened n).reg h

  pub sections_from : (o : Outline) (ss : Sections) (opened : Bool) (n : Numbers) (k : List ℕ) → AllFrom (sections_past o ss opened n).reg k
      → AllFrom n.reg (section_declarators o ss opened n k)
  sections_from o tree.End opened n k h = h
  sections_from o (tree.Section ls a rest) opened n k h =
      let n1 = labels_past ls opened n in
      let inside = labels_open ls opened in
      all_lower n.reg _ (declarators o a inside n1 (section_declarators o rest (open_behind a inside) (stmt_past o a inside n1) k))
      (grow_labels ls opened n).reg
      (declarators_from o a inside n1 _ (sections_from o rest (open_behind a inside) (stmt_past o a inside n1) k h))
