use Rattle.std.proofs.Common.{◌∙◌, ◌<◌, sym, subst, ap, arith, length, get_or, false}
use Rattle.std.proofs.lemmas.List.{get_or_default}
use Rattle.cleanup.specs.Marks.{ArePlaces}
use Rattle.cleanup.proofs.Keeping.{keep_named, keep_more}
use Rattle.cleanup.proofs.unreachable.keep_marked.Goals as goal

pub keep-requires : goal.keep-requires
keep-requires c =
    let test = c.loop-b-test.true in
    let count = c.loop-b.invariant.count in
    let lt : c.loop-b.b < length c.loop-b.blocks = omega arith in
    keep_named c.args.marks.now c.args.blocks.now c.loop-b.b c.index-blocks-b.result c.loop-b.blocks c.loop-b.kept.items c.in_ok-numbers.numbers.items
    c.requires.size c.requires.inside lt c.index-blocks-b.is c.loop-b.invariant (length c.as_slice.result.now)
    (ap length c.as_slice.ensures.value ∙ c.in_ok-numbers.ensures.size)

pub loop-b-preserved : goal.loop-b-preserved
loop-b-preserved c =
    let test = c.loop-b-test.true in
    let count = c.loop-b.invariant.count in
    let size = c.requires.size in
    let ms = c.args.marks.now in
    let lt : c.loop-b.b < length c.loop-b.blocks = omega arith in
    let within : c.loop-b.b < length ms = omega arith in
    keep_more ms c.args.blocks.now c.loop-b.b c.index-blocks-b.result c.loop-b.blocks c.loop-b.kept.items c.as_slice.result.now
    size c.requires.inside lt c.index-blocks-b.is c.loop-b.invariant (get_or ms c.loop-b.b false) c.keep.new.block c.keep.new.kept.items
    (get_or_default ms c.loop-b.b false (get_or ms c.loop-b.b false) within)
    (subst (ArePlaces ms) (sym c.as_slice.ensures.value) c.in_ok-numbers.ensures) c.in_ok-keep.ensures
