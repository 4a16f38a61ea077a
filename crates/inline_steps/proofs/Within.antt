-- Routines in pools are within the limits, and so are those that take in the callees of the choice.
use Rattle.std.proofs.Common.{◌≡◌, ℕ, suc, Bool, true, List, [], ◌∷◌, map, length, refl, ap, subst, arith, ◌∙◌}
use Rattle.std.proofs.Common.{leb-true, le-leb}
use Rattle.std.specs.Prelude.{◌&&◌, nat_le, option_map, sum, Option, Some, None}
use Rattle.std.specs.List.{AllByRecursion, list_all}
use Rattle.std.proofs.lemmas.Option.{same_Some}
use Rattle.list_laws.proofs.Tests.{and_first, and_second}
use Rattle.il_core.specs.Limits.{IsBlock, IsWithinLimits, max_arrays, max_elements, max_registers, max_size}
use Rattle.il_core.specs.Program.{routine_at}
use Rattle.il_core.specs.Routine.{RoutineParts}
use Rattle.il_core.specs.Size.{charge, size}
use Rattle.il_core.specs.Valid.{IsProgram}
use Rattle.il_core.specs.declared.program.IlProgram.{IlProgram}
use Rattle.il_laws.specs.Known.{known_sites}
use Rattle.il_laws.proofs.Grown.{all_to}
use Rattle.il_laws.proofs.Serving.{each_found}
use Rattle.compact_form.specs.Compact.{IsRoutine, compact}
use Rattle.compact_form.specs.declared.body.RoutineBody.{RoutineBody}
use Rattle.naim_loader.specs.Contents.{StandsFor}
use Rattle.naim_loader.specs.Paged.{Paged, content_at}
use Rattle.one_owner.proofs.Pools.{pool_there}
use Rattle.plan_pools.specs.Contents.{IsContents, routine_in}
use Rattle.plan_laws.specs.Choosing.{choice}
use Rattle.plan_laws.specs.Inlining.{inlined_routine, inlined_routines}
use Rattle.plan_laws.specs.Numbers.{Choice, inlined_numbers, is_within, numbers, own, with_calls}
use Rattle.plan_laws.specs.Summary.{Summary, summaries, summary}
use Rattle.plan_laws.proofs.Chosen.{StandsHere, all_here, choice_within}
use Rattle.plan_laws.proofs.Inlines.{by_serves}
use Rattle.plan_laws.proofs.InstrLimits.{by_within}
use Rattle.plan_laws.proofs.Sizes.{numbers_are}
use Rattle.plan_laws.proofs.Spending.{none_chosen}

abbrev AllWithin : List RoutineParts → Type 0
AllWithin rs = AllByRecursion IsWithinLimits rs

-- what pools have is within the limits, and so is a program that lies in them
module _ {D : Type 0} (reach : D → ℕ) (honest : D → Bool) (bytes : D → Option (List ℕ)) (l : Paged RoutineBody (Unit {0}) D)
    (s : StandsFor (λ b. charge b.routine) (λ b. compact b.routine) (λ b. IsRoutine b.routine) bytes reach honest l) where
  standing_within : (q : ℕ) (r : RoutineParts) → routine_in l q ≡ Some r → IsWithinLimits r
  standing_within q r e = by (content_at l q) refl e
    where
      by : (o : Option RoutineBody) → content_at l q ≡ o → option_map (λ b. b.routine) o ≡ Some r → IsWithinLimits r
      by None at h = let bad : None ≡ Some r = h in absurd cc
      by (Some b) at h =
          let z = pool_there (λ b. charge b.routine) (λ b. compact b.routine) (λ b. IsRoutine b.routine) bytes reach honest l q b s at in
          subst IsWithinLimits (same_Some b.routine r h) z.2.value.limits

  pub held_within : (p : IlProgram) → IsProgram p → IsContents l p → AllWithin p.routines
  held_within p valid held = each_found (λ r. r.pid) IsWithinLimits p.routines valid.routines (λ q r e. standing_within q r (held.by q ∙ e))

-- routines with their callees have the numbers that the choice computed
module _ (p : IlProgram) (valid : IsProgram p) (cs : List Choice) (all : AllWithin p.routines) where
  abbrev test : Summary → Bool
  test s = is_within (inlined_numbers (summaries p) cs s)

  whole_within : (r : RoutineParts) → routine_at p.routines r.pid ≡ Some r → IsWithinLimits r → test (summary r) ≡ true
      → IsWithinLimits (inlined_routine p.routines cs r)
  whole_within r here h e =
      let n = inlined_numbers (summaries p) cs (summary r) in
      let is = numbers_are p valid cs r.pid r here in
      let serves = by_serves p valid cs (suc (length cs)) r.pid r here in
      let a = nat_le n.size max_size in
      let b = nat_le n.regs max_registers in
      let c = nat_le n.arrays max_arrays in
      let d = nat_le n.elements max_elements in
      let size = leb-true n.size max_size (and_first a b (and_first (a && b) c (and_first (a && b && c) d e))) in
      let regs = leb-true n.regs max_registers (and_second a b (and_first (a && b) c (and_first (a && b && c) d e))) in
      let arrays = leb-true n.arrays max_arrays (and_second (a && b) c (and_first (a && b && c) d e)) in
      let elements = leb-true n.elements max_elements (and_second (a && b && c) d e) in
      let pid = h.pid in
      let params = h.params in
      let same_pid = serves.pid in
      let same_params = serves.params in
      let is_size = is.size in
      let is_regs = is.regs in
      let is_arrays = is.arrays in
      let is_elements = is.elements in
      let blocks = all_to IsWithinLimits (λ q. AllByRecursion IsBlock q.blocks) p.routines (λ q g. g.instrs) all in
      record {
        pid = omega arith;
        params = omega arith;
        regs = omega arith;
        arrays = omega arith;
        elements = omega arith;
        size = omega arith;
        instrs = by_within p.routines blocks cs (suc (length cs)) r h.instrs;
      }

  all_whole : (rs : List RoutineParts) → AllByRecursion (StandsHere p.routines) rs → AllWithin rs → list_all test (map summary rs) ≡ true
      → AllWithin (map (inlined_routine p.routines cs) rs)
  all_whole [] here h e = tt
  all_whole (r ∷ rs) here h e = (
    whole_within r here.0 h.0 (and_first (test (summary r)) (list_all test (map summary rs)) e),
    all_whole rs here.1 h.1 (and_second (test (summary r)) (list_all test (map summary rs)) e),
  )

-- nothing chosen: the routines' own numbers
own_within : (known : List Summary) (r : RoutineParts) → IsWithinLimits r → is_within (inlined_numbers known [] (summary r)) ≡ true
own_within known r h =
    let none = ap (λ xs. is_within (with_calls known (numbers known [] 0) (own (summary r)) xs)) (none_chosen r.pid 0 (known_sites r)) in
    let size = le-leb (size r) max_size h.size in
    let regs = le-leb r.regs max_registers h.regs in
    let arrays = le-leb (length r.arrays) max_arrays h.arrays in
    let elements = le-leb (sum r.arrays) max_elements h.elements in
    none ∙ ap (λ (b : Bool). b && nat_le r.regs max_registers && nat_le (length r.arrays) max_arrays && nat_le (sum r.arrays) max_elements) size
    ∙ ap (λ (b : Bool). b && nat_le (length r.arrays) max_arrays && nat_le (sum r.arrays) max_elements) regs
    ∙ ap (λ (b : Bool). b && nat_le (sum r.arrays) max_elements) arrays ∙ elements

all_own : (known : List Summary) (rs : List RoutineParts) → AllWithin rs → list_all (λ s. is_within (inlined_numbers known [] s)) (map summary rs) ≡ true
all_own known [] h = refl
all_own known (r ∷ rs) h =
    ap (λ (b : Bool). b && list_all (λ s. is_within (inlined_numbers known [] s)) (map summary rs)) (own_within known r h.0) ∙ all_own known rs h.1

-- each routine with the callees of the choice is within the limits
pub chosen_whole : (p : IlProgram) → IsProgram p → AllWithin p.routines → (main limit : ℕ)
    → AllWithin (inlined_routines p.routines (choice (summaries p) main limit))
chosen_whole p valid all main limit =
    all_whole p valid (choice (summaries p) main limit) all p.routines (all_here p valid) all
    (choice_within (summaries p) main limit (all_own (summaries p) p.routines all))
