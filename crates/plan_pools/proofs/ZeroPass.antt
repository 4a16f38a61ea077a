-- What a pass makes where nothing may be spent: no clone is made, no call goes elsewhere, and no callee is spliced in.
use Rattle.std.proofs.Common.{◌≡◌, ℕ, zero, suc, ◌+◌, Bool, true, false, List, [], ◌∷◌, map, Option, None, refl, ap, ◌∙◌}
use Rattle.std.specs.Prelude.{filter, nat_lt, if◌then◌else◌}
use Rattle.il_core.specs.declared.instr.Block.{Block}
use Rattle.il_core.specs.declared.instr.Instr.{Instr}
use Rattle.il_core.specs.declared.instr.Instr.TheVariants.{Const, Move, Conv, Bin, Get, Set, GetX, SetX, GetA, SetA, Clear, Turn, Call, GetChar, PutChar}
use Rattle.il_core.specs.declared.shape.ShapeRow.{ShapeRow}
use Rattle.il_core.specs.Meaning.{sites_in, sites_of}
use Rattle.il_core.specs.Program.{main_pid}
use Rattle.il_core.specs.Routine.{RoutineParts}
use Rattle.il_laws.specs.Known.{KnownSite, known_sites}
use Rattle.il_laws.specs.Reach.{is_live}
use Rattle.il_laws.specs.Retarget.{retarget, retarget_blocks, retarget_instr, retarget_instrs}
use Rattle.il_laws.specs.Simplify.{simplify}
use Rattle.plan_laws.specs.Summary.{CallSite}
use Rattle.plan_laws.specs.Groups.{clone_of_site, may_move, moves, with_move}
use Rattle.il_laws.specs.Inline.{inlined}
use Rattle.plan_laws.specs.Inlining.{bodies, inlined_by, inlined_routine}
use Rattle.plan_laws.specs.Numbers.{falling}
use Rattle.plan_laws.specs.Plan.{Pass, State, each_routine, one_pass, prune, retargeted}
use Rattle.plan_laws.specs.Summary.{Summary, numbered, summaries}
use Rattle.plan_pools.specs.BudgetLaws.{simplifying_pass}

-- without a table no site goes elsewhere
no_clone : (ss : List Summary) (main : ℕ) (x : CallSite) → clone_of_site ss [] main x ≡ None
no_clone ss main x = by (may_move ss main x) None
  where
    by : (b : Bool) (o : Option ℕ) → (if b then o else o) ≡ o
    by true o = refl
    by false o = refl

no_moves : (ss : List Summary) (main : ℕ) (xs : List CallSite) → moves ss [] main xs ≡ []
no_moves ss main [] = refl
no_moves ss main (x ∷ xs) = ap (λ o. with_move o x.number (moves ss [] main xs)) (no_clone ss main x) ∙ no_moves ss main xs

same_instr : (k : ℕ) (i : Instr) → retarget_instr [] k i ≡ i
same_instr k (Const d w) = refl
same_instr k (Move d s) = refl
same_instr k (Conv d t s) = refl
same_instr k (Bin o d a b) = refl
same_instr k (Get d g) = refl
same_instr k (Set g s) = refl
same_instr k (GetX d g i) = refl
same_instr k (SetX g i s) = refl
same_instr k (GetA d a i) = refl
same_instr k (SetA a i s) = refl
same_instr k (Clear a b c d) = refl
same_instr k Turn = refl
same_instr k (Call dest callee count args) = refl
same_instr k (GetChar d) = refl
same_instr k (PutChar d s) = refl

same_instrs : (k : ℕ) (is : List Instr) → retarget_instrs [] k is ≡ is
same_instrs k [] = refl
same_instrs k (i ∷ is) = λ j. same_instr k i j ∷ same_instrs (sites_in i + k) is j

same_blocks : (k : ℕ) (bs : List Block) → retarget_blocks [] k bs ≡ bs
same_blocks k [] = refl
same_blocks k (b ∷ bs) = λ j. record { instrs = same_instrs k b.instrs j; end = b.end } ∷ same_blocks (sites_of b.instrs + k) bs j

-- a routine without moves is the same
pub same_calls : (r : RoutineParts) → retarget r [] ≡ r
same_calls r = λ j. record r { blocks = same_blocks 0 r.blocks j }

same_retargeted : (ss : List Summary) (main below : ℕ) (r : RoutineParts) → retargeted ss [] main below r ≡ r
same_retargeted ss main below r =
    ap (λ ms. if nat_lt r.pid below then retarget r ms else r) (no_moves ss main (numbered r.pid 0 (known_sites r))) ∙ by (nat_lt r.pid below)
  where
    by : (b : Bool) → (if b then retarget r [] else r) ≡ r
    by true = same_calls r
    by false = refl

-- without accepted sites nothing is spliced in
none_falls : (pid k : ℕ) (xs : List KnownSite) → falling [] pid k xs [] ≡ []
none_falls pid k [] = refl
none_falls pid k (x ∷ xs) = none_falls pid (suc k) xs

same_inlined : (rs : List RoutineParts) (r : RoutineParts) → inlined_routine rs [] r ≡ r
same_inlined rs r = ap (λ sites. inlined r (bodies (inlined_by rs [] zero) rs sites)) (none_falls r.pid 0 (known_sites r))

map_same : {X : Type 0} (f : X → X) → ((x : X) → f x ≡ x) → (xs : List X) → map f xs ≡ xs
map_same f same [] = refl
map_same f same (x ∷ xs) = λ j. same x j ∷ map_same f same xs j

same_each : (f : RoutineParts → RoutineParts) → ((r : RoutineParts) → f r ≡ r) → (st : State) → each_routine f st ≡ st
same_each f same st = λ j. record st { program = record st.program { routines = map_same f same st.program.routines j } }

module _ (names : List ShapeRow) (limit : ℕ) (st : State) (none : st.table ≡ []) where
  -- the pass with that state behind the calls and that one behind the splices
  made : State → State → Pass
  made b d = record {
    added = st;
    retargeted = b;
    simplified = each_routine simplify b;
    inlined = d;
    simplified_again = each_routine simplify d;
    pruned = prune (each_routine simplify d);
  }

  calls : State
  calls = each_routine (retargeted (summaries st.program) st.table (main_pid st.program.shapes) st.next) st

  calls_same : calls ≡ st
  unfolding calls
  calls_same =
      ap (λ table. each_routine (retargeted (summaries st.program) table (main_pid st.program.shapes) st.next) st) none
      ∙ same_each (retargeted (summaries st.program) [] (main_pid st.program.shapes) st.next)
      (same_retargeted (summaries st.program) (main_pid st.program.shapes) st.next) st

  splices_same : (b : State) → each_routine (inlined_routine (each_routine simplify b).program.routines []) (each_routine simplify b) ≡ each_routine simplify b
  splices_same b =
      same_each (inlined_routine (each_routine simplify b).program.routines []) (same_inlined (each_routine simplify b).program.routines)
      (each_routine simplify b)

  -- A pass of budget 0 simplifies twice and prunes.
  pub pass_at_zero : one_pass names 0 limit st ≡ simplifying_pass st
  unfolding made calls
  pass_at_zero = ap (λ d. made calls d) (splices_same calls) ∙ ap (λ z. made z (each_routine simplify z)) calls_same

-- no row comes into the table
pub table_at_zero : (st : State) → st.table ≡ [] → (simplifying_pass st).pruned.table ≡ []
table_at_zero st none = ap (filter (λ row. is_live (each_routine simplify (each_routine simplify st)).program row.clone)) none
