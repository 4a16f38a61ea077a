use Rattle.std.proofs.Common.{rules, ◌≡◌, ℕ, List, ap, sym, ◌∙◌, refl, length, arith}
use Rattle.std.specs.Prelude.{Some, slice_get}
use Rattle.std.specs.Option.{option_map}
use Rattle.sym_tables.specs.declared.symbol.Symbol.{Symbol}
use Rattle.profile.specs.Counts.{counts_of}
use Rattle.c_typed.specs.declared.function.Local.{Local}
use Rattle.c_typed.specs.Views.{function_of}
use Rattle.lower_laws.specs.Functions.{array_lengths}
use Rattle.c_lower.specs.Lowering.{array_places, name_at}
use Rattle.c_lower.proofs.Routines.{past_pids, past_parameters, past_arrays, past_elements, named, routine_is, ok_for, err_for}
use Rattle.c_lower.proofs.Whole.{fixed_is}
use Rattle.c_lower.proofs.lowering.lower.Goals as goal
use Rattle.c_lower.proofs.lowering.lower.Goals.{then-f-ge-PIDS-via-then-f-ge-PIDS, then-f-ge-PIDS-via-else-f-ge-PIDS+then-len}
use Rattle.c_lower.proofs.lowering.lower.Goals.{then-len-2-via-then-len-2, then-len-2-via-else-len-2+then-not-has_few_elements}

pub returns-then-f-ge-PIDS-clause-too_large : goal.returns-then-f-ge-PIDS-clause-too_large
returns-then-f-ge-PIDS-clause-too_large c =
    let f = function_of c.args.f.now in
    λ e. elim c.then-f-ge-PIDS.branch [
      | then-f-ge-PIDS-via-then-f-ge-PIDS w ↦ past_pids c.args.syms.now (counts_of c.args.p.now) f w.if-f-ge-PIDS.true
      | then-f-ge-PIDS-via-else-f-ge-PIDS+then-len w ↦ past_parameters c.args.syms.now (counts_of c.args.p.now) f
          (omega (arith, w.len.ensures, w.if-len.true))
    ]

pub returns-then-len-2-clause-too_large : goal.returns-then-len-2-clause-too_large
returns-then-len-2-clause-too_large c =
    let f = function_of c.args.f.now in
    let lengths : c.in-Ok.lengths.items ≡ array_lengths f.locals = c.in-Ok.ensures ∙ ap array_lengths c.as_slice-locals.ensures in
    λ e. elim c.then-len-2.branch [
      | then-len-2-via-then-len-2 w ↦ past_arrays c.args.syms.now (counts_of c.args.p.now) f c.in-Ok.lengths.items lengths
          (omega (arith, c.len-2.ensures, c.in-Ok.lengths.ok.0, w.if-len-2.true))
      | then-len-2-via-else-len-2+then-not-has_few_elements w ↦ past_elements c.args.syms.now (counts_of c.args.p.now) f w.as_slice.result.now
          (w.as_slice.ensures.value ∙ lengths) (sym w.has_few_elements.ensures ∙ w.if-not-has_few_elements.true)
    ]

pub routine-requires-clause-setting : goal.routine-requires-clause-setting
routine-requires-clause-setting c =
    let f = function_of c.args.f.now in
    let places = c.in-Ok-array_places.ensures ∙ ap (λ (l : List Local). array_places l 0) c.as_slice-locals.ensures in
    let lengths : c.in-Ok.lengths.items ≡ array_lengths f.locals = c.in-Ok.ensures ∙ ap array_lengths c.as_slice-locals.ensures in
    let total : c.len-3.result ≡ length (array_lengths f.locals) = c.len-3.ensures ∙ c.in-Ok.lengths.ok.0 ∙ ap (λ (l : List ℕ). length l) lengths in
    fixed_is c.as_slice-locals.result.now c.in-Ok-array_places.arrays.items c.len-3.result c.is_some.result _ _ f c.as_slice-locals.ensures places
    total c.is_some.ensures refl

pub returns-clause-routine : goal.returns-clause-routine
returns-clause-routine c =
    let f = function_of c.args.f.now in
    let name : c.unwrap-name.result.now ≡ name_at c.args.syms.now f.pid = named (slice_get c.args.syms.now f.pid) c.unwrap-name.result.now
    (let p : Some c.unwrap-name.result.now ≡ option_map (λ (e : List ℕ × Symbol). e.0) (slice_get c.args.syms.now c.args.f.now.pid) = search rules in
    p) in
    ok_for c.routine.result _ _
    (routine_is c.args.syms.now (counts_of c.args.p.now) f c.unwrap-name.result.now c.entry.result name c.entry.ensures) c.routine.ensures.routine

pub returns-clause-too_large : goal.returns-clause-too_large
returns-clause-too_large c =
    let f = function_of c.args.f.now in
    let name : c.unwrap-name.result.now ≡ name_at c.args.syms.now f.pid = named (slice_get c.args.syms.now f.pid) c.unwrap-name.result.now
    (let p : Some c.unwrap-name.result.now ≡ option_map (λ (e : List ℕ × Symbol). e.0) (slice_get c.args.syms.now c.args.f.now.pid) = search rules in
    p) in
    err_for c.routine.result _ _
    (routine_is c.args.syms.now (counts_of c.args.p.now) f c.unwrap-name.result.now c.entry.result name c.entry.ensures) c.routine.ensures.too_large
