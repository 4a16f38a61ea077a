use Rattle.std.proofs.Common.{ℕ, List, ap, arith, sym, subst, ◌∙◌, ◌≡◌, ◌<◌}
use Rattle.std.specs.Prelude.{replicate, sum}
use Rattle.std.specs.List.{AllByRecursion}
use Rattle.il_core.specs.Object.{ObjectParts}
use Rattle.il_core.specs.Routine.{RoutineParts}
use Rattle.il_core.specs.Program.{words_of}
use Rattle.il_core.specs.Shapes.{IsRising}
use Rattle.il_run.specs.Machine.{routine_in}
use Rattle.il_run.specs.Start.{HasWords}
use Rattle.il_run.proofs.Main.{main_small, main_at, starts}
use Rattle.il_run.proofs.Steps.{routine_read}
use Rattle.il_run.proofs.start.start.Goals as goal

pub index-position-requires : goal.index-position-requires
index-position-requires c = omega (
  arith,
  main_small c.args.p.now c.requires.valid c.args.t.now c.requires.tabled,
  c.main_of-pid.ensures,
  c.requires.tabled.pids,
  c.args.t.now.position.ok,
)

pub bounds-as_slice-position : goal.bounds-as_slice-position
bounds-as_slice-position c = let m = main_at c.args.p.now c.requires.valid c.args.t.now c.requires.tabled c.index-position.result.now c.main_of-pid.result
    c.main_of-pid.ensures c.index-position.ensures in omega (arith, m.within, ap Rattle.std.proofs.Common.length c.as_slice.ensures)

pub index-requires : goal.index-requires
index-requires c = let m = main_at c.args.p.now c.requires.valid c.args.t.now c.requires.tabled c.index-position.result.now c.main_of-pid.result
    c.main_of-pid.ensures c.index-position.ensures in omega (arith, m.within, c.requires.tabled.count, c.args.t.now.arrays.ok)

pub total-requires : goal.total-requires
total-requires c = let m = main_at c.args.p.now c.requires.valid c.args.t.now c.requires.tabled c.index-position.result.now c.main_of-pid.result
    c.main_of-pid.ensures c.index-position.ensures in (c.requires.tabled.arrays _ _ m.within c.index.ensures).1

pub initial_words-requires : goal.initial_words-requires
initial_words-requires c = record {
  starts = c.requires.tabled.starts;
  sizes = λ g. c.requires.tabled.sizes g ∙ ap (λ (os : List ObjectParts). words_of os g) (sym c.as_slice-2.ensures);
  rising = subst (λ (os : List ObjectParts). IsRising (λ o. o.pid) os) (sym c.as_slice-2.ensures) c.requires.valid.objects;
  some = subst (λ (os : List ObjectParts). AllByRecursion (λ o. 0 < o.words) os) (sym c.as_slice-2.ensures) c.requires.valid.words;
}

pub returns : goal.returns
returns c =
    let m = main_at c.args.p.now c.requires.valid c.args.t.now c.requires.tabled c.index-position.result.now c.main_of-pid.result c.main_of-pid.ensures
    c.index-position.ensures in
    let same : routine_in c.args.p.now c.index-position.result.now ≡ c.index-as_slice-position.result = routine_read c.args.p.now c.as_slice.result.now
    c.index-position.result.now c.index-as_slice-position.result c.as_slice.ensures m.within c.index-as_slice-position.is in
    starts c.args.p.now c.requires.valid c.args.t.now c.requires.tabled c.index-position.result.now _ c.new.result c.args.turns m
    (c.in_ok-regs.ensures ∙ ap (λ (r : RoutineParts). replicate r.regs 0) (c.routine.view_is ∙ sym same))
    (c.in_ok-elements.ensures ∙ ap (λ (n : ℕ). replicate n 0) (c.total.ensures ∙ ap sum (c.requires.tabled.arrays _ _ m.within c.index.ensures).0))
    c.in_ok-words.ensures.count
    (subst (λ (os : List ObjectParts). HasWords os c.args.t.now.objects.sizes.items 0 c.in_ok-words.words.items) c.as_slice-2.ensures
    c.in_ok-words.ensures.each)
    Rattle.std.proofs.Common.refl Rattle.std.proofs.Common.refl c.new.ensures.items
