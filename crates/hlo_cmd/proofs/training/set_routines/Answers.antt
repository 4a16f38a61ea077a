use Rattle.std.proofs.Common.{◌<◌, ◌∙◌, ℕ, List, ap, arith, length, map, get_or}
use Rattle.hlo_cmd.specs.Training.{routine_lines}
use Rattle.il_core.specs.Program.{name_at}
use Rattle.hlo_cmd.proofs.Trainings.{as_many, routine_next, sets, sites_at}
use Rattle.hlo_cmd.proofs.training.set_routines.Goals as goal

pub set_routine-requires-clause-sites : goal.set_routine-requires-clause-sites
set_routine-requires-clause-sites c =
    ap (λ (xs : List ℕ). length xs) c.as_slice.ensures
    ∙ sites_at c.args.routines.now c.as_slice-sites.result.now c.loop-i.i c.index-routines-i.result c.index-sites-i.result
    (ap (λ (ss : List (List ℕ)). map length ss) c.as_slice-sites.ensures ∙ c.requires.counts.sites_fit) c.loop-i-test.true c.index-routines-i.is
    c.index-sites-i.is

pub loop-i-preserved : goal.loop-i-preserved
loop-i-preserved c =
    let shapes = c.args.shapes.now in
    let rs = c.args.routines.now in
    let test = c.loop-i-test.true in
    let entries = c.requires.counts.entries_fit in
    let rows = as_many rs c.args.counts.now.sites c.requires.counts.sites_fit in
    let le : c.loop-i.i < length c.args.counts.now.entries = omega arith in
    let ls : c.loop-i.i < length c.args.counts.now.sites = omega arith in
    routine_next shapes rs c.args.counts.now.entries c.args.counts.now.sites c.loop-i.i c.index-routines-i.result c.index-sites-i.result c.loop-i.profile
    c.set_routine.new.profile _
    test c.index-routines-i.is le ls (c.index-sites-i.is ∙ ap (λ (ss : List (List ℕ)). get_or ss c.loop-i.i c.index-sites-i.result) c.as_slice-sites.ensures)
    (c.in_ok-set_routine.ensures
    ∙ ap (λ (es : List ℕ). sets (routine_lines (name_at shapes c.index-routines-i.result.pid) (get_or es c.loop-i.i 0) c.as_slice.result.now) c.loop-i.profile)
    c.as_slice-entries.ensures
    ∙ ap (λ (s : List ℕ). sets (routine_lines (name_at shapes c.index-routines-i.result.pid) (get_or c.args.counts.now.entries c.loop-i.i 0) s)
    c.loop-i.profile) c.as_slice.ensures)
    c.loop-i.invariant
