-- The layout of every function whose names are bound is sound, and so a lowered program does what its functions do.
use Rattle.std.proofs.Common.{◌≡◌, ℕ, ◌+◌, ◌<◌, ◌≤◌, List, [], Bool, true, false, length, refl, ap, ◌∙◌, ⊎_elim, arith}
use Rattle.std.proofs.lemmas.Bool.{cases_order}
use mathlib.Core.Path.{fun_ext}
use Rattle.il_core.specs.declared.program.IlProgram.{IlProgram}
use Rattle.il_core.specs.Meaning.{act, run_of}
use Rattle.il_core.specs.Program.{initial_word, main_pid}
use Rattle.il_core.specs.World.{World}
use Rattle.c_typed.specs.Meaning.{Program, call_function}
use Rattle.c_typed.specs.Trees as tree
use Rattle.c_typed.specs.Trees.{Stmt, Sections, Function}
use Rattle.lower_laws.specs.Bound.{IsBound, locals_behind, sections_behind}
use Rattle.lower_laws.specs.Code.{Numbers, past_end}
use Rattle.lower_laws.specs.Expressions.{past}
use Rattle.lower_laws.specs.Functions.{declarators, section_declarators, outline_of, layout_of, first_numbers, body_past}
use Rattle.lower_laws.specs.Laws.{IsLowered, AreBound, CallsMeanTheSame, RunsMeanTheSame, world_at_start}
use Rattle.lower_laws.specs.Layouts.{Outline}
use Rattle.lower_laws.specs.Statements.{open_behind, stmt_past}
use Rattle.lower_laws.specs.Switches.{labels_past, labels_open}
use Rattle.lower_laws.proofs.Declarators.{AllFrom, least_at, declarators_from}
use Rattle.lower_laws.proofs.Fine.{Fine}
use Rattle.lower_laws.proofs.Frames.{IsScalarLocal}
use Rattle.lower_laws.proofs.Layouts.{fine_stmt, array_below, length_of_array}
use Rattle.lower_laws.proofs.Runs.{whole, IsSound, same_calls}

-- there is a declarator for each local
mutual
  declared : (o : Outline) (st : Stmt) (opened : Bool) (n : Numbers) (known : ℕ) (k : List ℕ)
      → locals_behind st known + length k ≡ known + length (declarators o st opened n k)
  declared o tree.Empty opened n known k = refl
  declared o (tree.Sequence a b) opened n known k = declared o b (open_behind a opened) (stmt_past o a opened n) (locals_behind a known) k
      ∙ declared o a opened n known _
  declared o (tree.Declaration x e) opened n known k = omega arith
  declared o (tree.Expression e) opened n known k = refl
  declared o (tree.If e a) opened n known k = declared o a true _ known k
  declared o (tree.IfElse e a b) opened n known k =
      let n1 = past_end (past e n) in
      declared o b true (past_end (stmt_past o a true n1)) (locals_behind a known) k ∙ declared o a true n1 known _
  declared o (tree.Switch e ss) opened n known k = all_declared o ss false _ known k
  declared o (tree.While e a) opened n known k = declared o a true _ known k
  declared o (tree.Do a e) opened n known k = declared o a true _ known k
  declared o (tree.For f e d a) opened n known k = declared o a true _ known k
  declared o tree.Break opened n known k = refl
  declared o tree.Continue opened n known k = refl
  declared o (tree.Return e) opened n known k = refl

  all_declared : (o : Outline) (ss : Sections) (opened : Bool) (n : Numbers) (known : ℕ) (k : List ℕ)
      → sections_behind ss known + length k ≡ known + length (section_declarators o ss opened n k)
  all_declared o tree.End opened n known k = refl
  all_declared o (tree.Section ls a rest) opened n known k =
      let n1 = labels_past ls opened n in
      let inside = labels_open ls opened in
      all_declared o rest (open_behind a inside) (stmt_past o a inside n1) (locals_behind a known) k ∙ declared o a inside n1 known _

-- what the layout of a function whose names are bound gives
pub record IsPlaced (count : ℕ → ℕ) (f : Function) : Type 0 where
  pub fine : Fine (layout_of count f) (whole f) f.body true (first_numbers f)
  pub behind : (x : ℕ) → IsScalarLocal (whole f) x → length f.params ≤ (layout_of count f).register x
  pub before : (x : ℕ) → IsScalarLocal (whole f) x → (layout_of count f).register x < (body_past f).reg
  pub rising : (x z : ℕ) → x < z → IsScalarLocal (whole f) x → IsScalarLocal (whole f) z
      → (layout_of count f).register x < (layout_of count f).register z

pub placed : (count : ℕ → ℕ) (f : Function) → IsBound f → IsPlaced count f
placed count f bound =
    let y = layout_of count f in
    let o = outline_of f in
    let s = whole f in
    let n = first_numbers f in
    let ds = declarators o f.body true n [] in
    let few : locals_behind f.body 0 ≤ length ds = omega (arith, declared o f.body true n 0 []) in
    let from : AllFrom (length f.params) ds = declarators_from o f.body true n [] tt in
    let h = fine_stmt y s ds (λ x. refl) (λ x. refl) few f.body true n 0 [] bound (omega arith)
    (record {
      placed = record { behind = omega arith; before = λ x lt a. absurd (omega arith); rising = λ x z xz lt ax az. absurd (omega arith) };
      here = refl;
    }) tt in
    let at = h.1.placed in
    record {
      fine = h.0;
      behind = λ x ok. least_at ds 0 x (length f.params) from (omega arith) (omega (arith, ok.0, few));
      before = λ x ok. at.before x ok.0 ok.1;
      rising = λ x z lt ox oz. at.rising x z lt oz.0 ox.1 oz.1;
    }

module _ (p : Program) (q : IlProgram) (entry : ℕ → ℕ) (count : ℕ → ℕ → ℕ) (is : IsLowered p q entry count) where
  sound : (f : Function) → IsBound f → IsSound p q entry count f
  sound f bound =
      let h = placed (count f.pid) f bound in
      record {
        laid = record {
          behind = h.behind;
          apart = λ x z ox oz e. ⊎_elim (λ same. same)
              (λ b. ⊎_elim (λ lt. absurd (omega (arith, e, h.rising x z lt ox oz))) (λ lt. absurd (omega (arith, e, h.rising z x lt oz ox))) b)
              (cases_order x z);
          arrays = λ a b oa ob e. ⊎_elim (λ same. same)
              (λ c. ⊎_elim (λ lt. absurd (omega (arith, e, array_below f.locals a b oa.1 lt)))
              (λ lt. absurd (omega (arith, e, array_below f.locals b a ob.1 lt))) c)
              (cases_order a b);
          lengths = λ a ok. length_of_array f.locals a ok.1;
          objects = λ g. is.words g;
        };
        fine = h.fine;
      }

  same : AreBound p → (pid : ℕ) (args : List ℕ) (w : World (Unit {0})) → act q pid args w ≡ call_function p pid args w
  same bound pid args w = same_calls p q entry count (Unit {0}) is (λ pid f found. sound f (bound pid f found)) pid args w

pub calls_mean_the_same : CallsMeanTheSame
calls_mean_the_same p q entry count is bound pid args w = same p q entry count is bound pid args w

pub runs_mean_the_same : RunsMeanTheSame
runs_mean_the_same p q entry count is bound start words input turns =
    let objects : initial_word q.objects ≡ start = fun_ext (λ g. fun_ext (λ i. words g i)) in
    ap (λ (o : ℕ → ℕ → ℕ). run_of (act q (main_pid q.shapes) [] (world_at_start o input turns))) objects
    ∙ ap run_of (same p q entry count is bound (main_pid q.shapes) [] (world_at_start start input turns))
