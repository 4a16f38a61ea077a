-- The lowered program of linked modules has the routines of their functions, and their `main`.
use Rattle.std.proofs.Common.{◌≡◌, ℕ, zero, suc, ◌+◌, ◌<◌, ◌≤◌, nat_eq, Bool, true, false, if◌then◌else◌, List, [], ◌∷◌, ◌++◌, length, Option, Some}
use Rattle.std.proofs.Common.{None, get_or, refl, sym, ap, subst, ◌∙◌, arith, inl, inr, ne_eqb, eq-eqb}
use Rattle.std.specs.Prelude.{◌||◌, IsTrue, codes, is_some}
use Rattle.std.specs.Cmp.Lexicographic.{pointwise, same_text, other_text}
use Rattle.std.specs.Map.{keys_of}
use Rattle.std.proofs.lemmas.Bool.{cases_lt, false≢true}
use Rattle.std.proofs.lemmas.List.Quantifiers.{position-Some}
use Rattle.il_core.specs.declared.shape.ShapeRow.{ShapeRow}
use Rattle.il_core.specs.Program.{routine_at, main_pid, pid_named}
use Rattle.il_core.specs.Routine.{RoutineParts}
use Rattle.il_core.proofs.Found.{found_number}
use Rattle.sym_tables.specs.Table.{Table, same_name}
use Rattle.c_typed.specs.Linked.{words_at_start, run_main, program_of}
use Rattle.c_typed.specs.Meaning.{function_at}
use Rattle.c_typed.specs.Trees.{Function}
use Rattle.c_typed.specs.Views.{functions_of}
use Rattle.c_typed.proofs.Objects.{words_meet, start_meet}
use Rattle.lower_laws.specs.Functions.{lowered}
use Rattle.lower_laws.specs.Laws.{routine_of, IsLowered}
use Rattle.lower_laws.specs.ProgramLaws.{LoweredMeansTheSame}
use Rattle.lower_laws.specs.Programs.{routines_at, routines_from, rows_from, lowered_program}
use Rattle.lower_laws.proofs.Whole.{runs_mean_the_same}

-- two names are compared either way
other_way : (a b : List ℕ) (v w : Bool) → pointwise nat_eq a b ≡ v → pointwise nat_eq b a ≡ w → w ≡ v
other_way a b true true e h = refl
other_way a b false false e h = refl
other_way a b true false e h = absurd (other_text b a (sym h) (sym (same_text a b (sym e))))
other_way a b false true e h = absurd (other_text a b (sym e) (sym (same_text b a (sym h))))

swapped : (a b : List ℕ) (v : Bool) → same_name a b ≡ v → pointwise nat_eq b a ≡ v
swapped a b v e = other_way a b v (pointwise nat_eq b a) e refl

module _ (entry : ℕ → ℕ) (count : ℕ → ℕ → ℕ) (fs : List Function) where
  -- the routine of another PID is none that is looked for
  skipped : (m pid : ℕ) (o : Option Function) (rest : List RoutineParts) → function_at fs m ≡ o → (m ≡ pid → ⊥)
      → routine_at (routines_at entry count o ++ rest) pid ≡ routine_at rest pid
  skipped m pid None rest is ne = refl
  skipped m pid (Some f) rest is ne =
      let number : f.pid ≡ m = found_number (λ (x : Function). x.pid) m fs f is in
      ap (λ (b : Bool). if b then Some (lowered (entry f.pid) (count f.pid) f) else routine_at rest pid) (ne_eqb f.pid pid (λ e. ne (sym number ∙ e)))

  taken : (m : ℕ) (o : Option Function) (rest : List RoutineParts) → function_at fs m ≡ o → routine_at rest m ≡ None
      → routine_at (routines_at entry count o ++ rest) m ≡ routine_of entry count o
  taken m None rest is none = none
  taken m (Some f) rest is none =
      let number : f.pid ≡ m = found_number (λ (x : Function). x.pid) m fs f is in
      ap (λ (b : Bool). if b then Some (lowered (entry f.pid) (count f.pid) f) else routine_at rest m) (eq-eqb f.pid m number)

  none_below : (n pid : ℕ) (es : Table) → pid < n → routine_at (routines_from entry count fs n es) pid ≡ None
  none_below n pid [] lt = refl
  none_below n pid (e ∷ es) lt =
      skipped n pid (function_at fs n) (routines_from entry count fs (suc n) es) refl (λ h. absurd (omega (arith, h, lt)))
      ∙ none_below (suc n) pid es (omega (arith, lt))

  none_behind : (n pid : ℕ) (es : Table) → n + length es ≤ pid → routine_at (routines_from entry count fs n es) pid ≡ None
  none_behind n pid [] le = refl
  none_behind n pid (e ∷ es) le =
      skipped n pid (function_at fs n) (routines_from entry count fs (suc n) es) refl (λ h. absurd (omega (arith, h, le)))
      ∙ none_behind (suc n) pid es (omega (arith, le))

  -- the routine of each PID
  routine_found : (n k : ℕ) (es : Table) → k < length es
      → routine_at (routines_from entry count fs n es) (n + k) ≡ routine_of entry count (function_at fs (n + k))
  routine_found n k [] lt = absurd (omega (arith, lt))
  routine_found n zero (e ∷ es) lt =
      let q : n + 0 ≡ n = omega arith in
      let rest = routines_from entry count fs (suc n) es in
      ap (λ m. routine_at (routines_from entry count fs n (e ∷ es)) m) q
      ∙ taken n (function_at fs n) rest refl (none_below (suc n) n es (omega arith))
      ∙ ap (λ m. routine_of entry count (function_at fs m)) (sym q)
  routine_found n (suc k) (e ∷ es) lt =
      let q : n + suc k ≡ suc n + k = omega arith in
      let rest = routines_from entry count fs (suc n) es in
      skipped n (n + suc k) (function_at fs n) rest refl (λ h. absurd (omega (arith, h)))
      ∙ ap (λ m. routine_at rest m) q ∙ routine_found (suc n) k es (omega (arith, lt))
      ∙ ap (λ m. routine_of entry count (function_at fs m)) (sym q)

  no_function : (syms : Table) (pid : ℕ) (o : Option Function) → function_at fs pid ≡ o
      → ((f : Function) → function_at fs pid ≡ Some f → pid < length syms) → length syms ≤ pid → routine_of entry count o ≡ None
  no_function syms pid None is named le = refl
  no_function syms pid (Some f) is named le = absurd (omega (arith, named f is, le))

  routines_meet : (syms : Table) (pid : ℕ) → ((f : Function) → function_at fs pid ≡ Some f → pid < length syms)
      → routine_at (routines_from entry count fs 0 syms) pid ≡ routine_of entry count (function_at fs pid)
  routines_meet syms pid named =
      let zero_plus : 0 + pid ≡ pid = omega arith in
      elim (cases_lt pid (length syms)) [
        | inl lt ↦ subst (λ m. routine_at (routines_from entry count fs 0 syms) m ≡ routine_of entry count (function_at fs m)) zero_plus
            (routine_found 0 pid syms lt)
        | inr le ↦ none_behind 0 pid syms (omega (arith, le)) ∙ sym (no_function syms pid (function_at fs pid) refl named le)
      ]

  -- the first row of a name that the table has first at a function
  row_skipped : (b : Bool) (name : List ℕ) (row : ShapeRow) (rest : List ShapeRow) → pointwise nat_eq row.name name ≡ false
      → pid_named name ((if b then row ∷ [] else []) ++ rest) ≡ pid_named name rest
  row_skipped false name row rest other = refl
  row_skipped true name row rest other = ap (λ (c : Bool). if c then row.pid else pid_named name rest) other

  row_taken : (a b : Bool) (name : List ℕ) (row : ShapeRow) (rest : List ShapeRow) → IsTrue a → pointwise nat_eq row.name name ≡ true
      → pid_named name ((if a || b then row ∷ [] else []) ++ rest) ≡ row.pid
  row_taken true b name row rest has same = ap (λ (c : Bool). if c then row.pid else pid_named name rest) same
  row_taken false b name row rest has same = absurd (false≢true has)

  main_found : (name : List ℕ) (n k : ℕ) (es : Table) → k < length (keys_of es) → same_name name (get_or (keys_of es) k []) ≡ true
      → ((j : ℕ) → j < k → same_name name (get_or (keys_of es) j []) ≡ false) → IsTrue (is_some (function_at fs (n + k)))
      → pid_named name (rows_from fs n es) ≡ n + k
  main_found name n k [] lt here before has = absurd (omega (arith, lt))
  main_found name n zero (e ∷ es) lt here before has =
      let q : n + 0 ≡ n = omega arith in
      row_taken (is_some (function_at fs n)) _ name _ (rows_from fs (suc n) es) (subst (λ m. IsTrue (is_some (function_at fs m))) q has)
      (swapped name e.0 true here) ∙ sym q
  main_found name n (suc k) (e ∷ es) lt here before has =
      let q : n + suc k ≡ suc n + k = omega arith in
      row_skipped _ name _ (rows_from fs (suc n) es) (swapped name e.0 false (before 0 (omega arith)))
      ∙ main_found name (suc n) k es (omega (arith, lt)) here (λ j below. before (suc j) (omega (arith, below)))
      (subst (λ m. IsTrue (is_some (function_at fs m))) q has) ∙ sym q

pub lowered_means_the_same : LoweredMeansTheSame
lowered_means_the_same modules syms linked entry count input turns =
    let fs = functions_of modules in
    let q = lowered_program entry count fs syms in
    let is : IsLowered (program_of fs syms) q entry count = record {
      routines = λ pid. routines_meet entry count fs syms pid (λ f is. linked.named pid f is);
      words = λ g. words_meet syms g;
    } in
    let first = position-Some (same_name (codes "main")) (keys_of syms) linked.main [] linked.is_main in
    let zero_plus : 0 + linked.main ≡ linked.main = omega arith in
    let has : IsTrue (is_some (function_at fs (0 + linked.main))) = subst (λ m. IsTrue (is_some (function_at fs m))) (sym zero_plus) linked.has_main in
    let main : main_pid q.shapes ≡ linked.main =
    main_found entry count fs (codes "main") 0 linked.main syms first.0 first.1 first.2 has ∙ zero_plus in
    runs_mean_the_same (program_of fs syms) q entry count is (λ pid f found. linked.bound pid f found) (words_at_start syms)
    (λ g i. start_meet syms g i linked.fits) input turns
    ∙ ap (λ m. run_main fs syms input turns (Some m)) main ∙ ap (λ o. run_main fs syms input turns o) (sym linked.is_main)
