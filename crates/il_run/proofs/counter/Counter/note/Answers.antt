use Rattle.std.proofs.Common.{arith}
use Rattle.il_run.proofs.Noting.{last_one, place_there, place_is, within, site_there, counted_here}
use Rattle.il_run.proofs.counter.Counter.note.Goals as goal

pub overflow_add-at : goal.overflow_add-at
overflow_add-at c =
    let same = last_one _ _ c.as_slice-stack.result.now _ c.as_slice-stack.ensures.value c.requires.called in
    let there = place_there _ _ c.requires.valid _ c.requires.counter c.requires.called _ same _ c.index-row.ensures _ c.index.ensures in
    let is = place_is _ _ c.requires.valid _ c.requires.counter c.requires.called _ same _ c.index-row.ensures _ c.index.ensures in
    omega (arith, is, there, c.index-row.result.now.numbers.ok, c.index-row.result.now.numbers.small)

pub index-requires-2 : goal.index-requires-2
index-requires-2 c =
    let same = last_one _ _ c.as_slice-stack.result.now _ c.as_slice-stack.ensures.value c.requires.called in
    omega (
      arith,
      within _ _ c.requires.valid _ c.requires.counter c.requires.called _ same _ c.index-row.ensures _ c.index.ensures,
      c.index-row.result.now.numbers.ok,
    )

pub count-requires-clause-site : goal.count-requires-clause-site
count-requires-clause-site c =
    let same = last_one _ _ c.as_slice-stack.result.now _ c.as_slice-stack.ensures.value c.requires.called in
    site_there _ _ c.requires.valid _ c.requires.counter c.requires.called _ same _ c.index-row.ensures _ c.index.ensures _ c.index-2.ensures

pub returns : goal.returns
returns c = λ called.
    let same = last_one _ _ c.as_slice-stack.result.now _ c.as_slice-stack.ensures.value called in
    counted_here _ _ c.requires.valid _ c.requires.counter called _ same _ c.index-row.ensures _ c.index.ensures _ c.index-2.ensures c.count.new.self
    c.requires.routine c.count.ensures
