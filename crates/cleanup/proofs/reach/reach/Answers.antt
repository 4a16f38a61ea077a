use Rattle.std.proofs.Common.{rules, ◌≡◌, ◌∙◌, ◌<◌, ◌+◌, ◌-◌, [], ap, arith, length, false}
use Rattle.std.specs.Prelude.{replicate}
use Rattle.cleanup.proofs.Spreading.{spread_few, init_as, block_inside, block_names, more_as}
use Rattle.cleanup.proofs.reach.reach.Goals as goal

pub spread-init : goal.spread-init
spread-init c =
    let marks : c.as_mut_slice.result.now ≡ replicate (length c.args.blocks.now) false = search rules in
    let found : c.in_ok-found.found.items ≡ [] = search rules in
    init_as c.args.blocks.now c.as_mut_slice.result.now c.find.new.marks _ c.in_ok-found.found.items c.find.new.found.items c.in_ok-marks.marks.len
    c.requires.some
    marks found c.in_ok-find.ensures.marks c.in_ok-find.ensures.found (c.find.auto.marks ∙ c.as_mut_slice.ensures.len)

pub bounds-blocks-index : goal.bounds-blocks-index
bounds-blocks-index c =
    let len : c.len.result ≡ length c.spread.found.items = c.len.ensures ∙ c.spread.found.ok.0 in
    let test = c.spread-test.true in
    let lt : c.spread.next < length c.spread.found.items = omega arith in
    block_inside c.args.blocks.now c.spread.next c.spread.marks.items c.spread.found.items c.requires.inside c.spread.invariant lt c.index.result.now
    c.index.ensures

pub bounds-blocks-index-in-spread : goal.bounds-blocks-index-in-spread
bounds-blocks-index-in-spread c =
    let len : c.len.result ≡ length c.spread.found.items = c.len.ensures ∙ c.spread.found.ok.0 in
    let test = c.spread-test.true in
    let lt : c.spread.next < length c.spread.found.items = omega arith in
    block_inside c.args.blocks.now c.spread.next c.spread.marks.items c.spread.found.items c.requires.inside c.spread.invariant lt c.index.result.now
    c.index.ensures

pub find_targets-requires : goal.find_targets-requires
find_targets-requires c =
    let len : c.len.result ≡ length c.spread.found.items = c.len.ensures ∙ c.spread.found.ok.0 in
    let test = c.spread-test.true in
    let lt : c.spread.next < length c.spread.found.items = omega arith in
    block_names c.args.blocks.now c.spread.next c.spread.marks.items c.spread.found.items c.requires.inside c.spread.invariant lt c.index.result.now
    c.index.ensures
    c.index-blocks-index.result c.index-blocks-index.is (length c.as_mut_slice-in-spread.result.now) (ap length c.as_mut_slice-in-spread.ensures.value)

pub spread-smaller : goal.spread-smaller
spread-smaller c =
    let len : c.len.result ≡ length c.spread.found.items = c.len.ensures ∙ c.spread.found.ok.0 in
    let test = c.spread-test.true in
    let few = spread_few c.args.blocks.now c.spread.next c.spread.marks.items c.spread.found.items c.spread.invariant in
    let less : length c.args.blocks.now - (c.spread.next + 1) < length c.args.blocks.now - c.spread.next = omega arith in
    less

pub spread-preserved : goal.spread-preserved
spread-preserved c =
    let len : c.len.result ≡ length c.spread.found.items = c.len.ensures ∙ c.spread.found.ok.0 in
    let test = c.spread-test.true in
    let lt : c.spread.next < length c.spread.found.items = omega arith in
    more_as c.args.blocks.now c.spread.next c.spread.marks.items c.spread.found.items c.requires.inside c.spread.invariant lt c.index.result.now c.index.ensures
    c.index-blocks-index.result c.index-blocks-index.is c.as_mut_slice-in-spread.result.now c.find_targets.new.marks _ c.find_targets.new.found.items
    c.spread.marks.len c.as_mut_slice-in-spread.ensures.value c.in_ok-find_targets.ensures.marks c.in_ok-find_targets.ensures.found
    (c.find_targets.auto.marks ∙ c.as_mut_slice-in-spread.ensures.len)
