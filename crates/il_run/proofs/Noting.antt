-- A call is counted by the place of its instruction.
use Rattle.std.proofs.Common.{◌≡◌, ℕ, ◌+◌, ◌-◌, ◌<◌, List, [], ◌∷◌, ◌++◌, length, get_or, refl, ap, subst, sym, ◌∙◌, arith}
use Rattle.std.specs.Prelude.{slice_index, slice_index_or}
use Rattle.std.proofs.lemmas.List.{get_or_read, get_or_push, length_push}
use Rattle.il_core.specs.declared.program.IlProgram.{IlProgram}
use Rattle.il_core.specs.Valid.{IsProgram}
use Rattle.il_run.specs.declared.counter.Counter.{Counter}
use Rattle.il_run.specs.declared.counts.Counts.{Counts}
use Rattle.il_run.specs.declared.numbering.Numbering.{Numbering}
use Rattle.il_run.specs.declared.machine.Machine.{Machine}
use Rattle.il_run.specs.declared.machine.Suspended.{Suspended}
use Rattle.il_run.specs.Counts.{Counted, HasShape, IsCounter, IsNumbered, counted, sites_of_blocks}
use Rattle.il_run.specs.Machine.{IsCalled, call_into, routine_in, site_at}
use Rattle.il_run.proofs.Counting.{counted_more, row_there, shape_counted, site_within}

pub last_one : (p : IlProgram) (m : Machine) (ss : List Suspended) (d : Suspended) → ss ≡ m.stack.items → (c : IsCalled p m)
    → slice_index_or ss (length ss - 1) d ≡ c.caller
last_one p m ss d e c =
    let whole : ss ≡ c.others ++ c.caller ∷ [] = e ∙ c.last in
    let count : length ss - 1 ≡ length c.others = omega (arith, ap length whole, length_push c.others c.caller) in
    ap (λ (n : ℕ). get_or ss n d) count ∙ ap (λ (xs : List Suspended). get_or xs (length c.others) d) whole ∙ get_or_push c.others c.caller d (length c.others)
    refl

module _ (p : IlProgram) (m : Machine) (valid : IsProgram p) (counter : Counter) (ok : IsCounter p counter) (called : IsCalled p m) (caller : Suspended)
    (same : caller ≡ called.caller) (row : Numbering) (read : row ≡ slice_index_or counter.numbers.items caller.routine row) where
  numbered : IsNumbered (routine_in p called.caller.routine) row
  numbered = ok.each called.caller.routine row called.at.in_program (read ∙ ap (λ (s : Suspended). slice_index_or counter.numbers.items s.routine row) same)

  pub block_there : caller.block < length row.starts.items
  block_there = omega (arith, ap (λ (s : Suspended). s.block) same, called.at.in_routine, numbered.count)

  instr_is : caller.instr ≡ called.instr + 1
  instr_is = ap (λ (s : Suspended). s.instr) same ∙ called.before

  module _ (start : ℕ) (at : start ≡ slice_index_or row.starts.items caller.block start) where
    start_is : start ≡ slice_index row.starts.items called.caller.block
    start_is = get_or_read row.starts.items caller.block start block_there at 0 ∙ ap (λ (s : Suspended). slice_index row.starts.items s.block) same

    pub place_there : start + called.instr < length row.numbers.items
    place_there = omega (arith, start_is, numbered.within called.caller.block called.instr called.at.in_routine called.at.in_block)

    pub place_is : start + caller.instr ≡ start + called.instr + 1
    place_is = omega (arith, instr_is)

    pub within : start + caller.instr - 1 < length row.numbers.items
    within = omega (arith, place_is, place_there)

    module _ (site : ℕ) (is : site ≡ slice_index_or row.numbers.items (start + caller.instr - 1) site) where
      site_is : site ≡ site_at (routine_in p called.caller.routine) called.caller.block called.instr
      site_is =
          get_or_read row.numbers.items (start + caller.instr - 1) site within is 0
          ∙ ap (λ (n : ℕ). slice_index row.numbers.items n) (let e : start + caller.instr - 1 ≡ start + called.instr = omega (arith, place_is) in e)
          ∙ ap (λ (n : ℕ). slice_index row.numbers.items (n + called.instr)) start_is
          ∙ numbered.number called.caller.block called.instr called.at.in_routine called.at.in_block

      site_few : site < sites_of_blocks (routine_in p called.caller.routine).blocks
      site_few = omega (arith, site_is, site_within p called.caller.routine called.caller.block called.instr called.at)

      pub site_there : (xs : List ℕ) → xs ≡ slice_index_or counter.counts.sites caller.routine xs → site < length xs
      site_there xs e = omega (
        arith,
        site_few,
        row_there p counter.counts called.caller.routine xs ok.shape called.at.in_program
            (e ∙ ap (λ (s : Suspended). slice_index_or counter.counts.sites s.routine xs) same),
      )

      pub counted_here : (new : Counts) → m.routine < length p.routines → new ≡ counted counter.counts caller.routine site m.routine
          → Counted p counter (record counter { counts = new }) (call_into p m called ∷ [])
      counted_here new lt e =
          let e1 : new ≡ counted counter.counts called.caller.routine site m.routine = e ∙ ap
          (λ (s : Suspended). counted counter.counts s.routine site m.routine) same in
          record {
            counter = record {
              count = ok.count;
              each = ok.each;
              shape = subst (λ (c : Counts). HasShape p c) (sym e1) (shape_counted p counter.counts called.caller.routine site m.routine ok.shape);
            };
            counts = λ calls h. e1 ∙ ap (λ (c : Counts). counted c called.caller.routine site m.routine) h
                ∙ counted_more p calls (call_into p m called) called.caller.routine site m.routine valid called.at.in_program lt refl (sym site_is) site_few
                refl;
          }
