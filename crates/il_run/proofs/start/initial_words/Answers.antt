use Rattle.std.proofs.Common.{ℕ, ap, arith, ◌∙◌, length, ◌≡◌, ◌≤◌, sym, subst}
use Rattle.std.proofs.lemmas.List.{length-replicate}
use Rattle.il_core.specs.Object.{ObjectParts}
use Rattle.il_run.specs.Words.{start_of}
use Rattle.il_run.proofs.Starting.{words_none, words_step, place_at, size_at}
use Rattle.il_run.proofs.Words.{start_read, fits_end}
use Rattle.il_run.proofs.start.initial_words.Goals as goal

pub back-init : goal.back-init
back-init c = record {
  within = omega arith;
  count = ap length c.in_ok-words.ensures ∙ length-replicate {A = ℕ} c.total.result 0 ∙ c.total.ensures;
  each =
      words_none _ _ _ c.total.result _ c.in_ok-words.ensures (omega arith);
}

pub back-preserved : goal.back-preserved
back-preserved c =
    let pid = ap (λ (o : ObjectParts). o.pid) c.object.view_is in
    record {
      within = omega (arith, c.back.invariant.within);
      count = c.copy.ensures.count ∙ c.back.invariant.count;
      each = words_step c.args.objects.now c.args.layout.now.sizes.items c.back.words.items c.copy.new.words.items c.back.i c.index-at.result.now
          c.object.inside.pid 0 c.as_slice.result.now c.index-objects-i.result c.requires.rising c.requires.sizes c.back-test.true c.back.invariant.within
          c.index-objects-i.is pid
          (start_read _ _ _ _ c.requires.starts (omega (
            arith,
            pid,
            place_at c.args.objects.now c.args.layout.now.sizes.items _ c.index-objects-i.result
                c.requires.rising c.requires.sizes c.requires.some (omega (arith, c.back.invariant.within)) c.index-objects-i.is,
          )) c.index-at.ensures)
          (c.as_slice.ensures ∙ ap (λ (o : ObjectParts). o.init) c.object.view_is)
          (subst (λ (o : ObjectParts). length o.init ≤ o.words) c.object.view_is c.object.invariant.few) c.copy.ensures c.back.invariant.each;
    }

pub index-at-requires : goal.index-at-requires
index-at-requires c = omega (
  arith,
  ap (λ (o : ObjectParts). o.pid) c.object.view_is,
  place_at c.args.objects.now c.args.layout.now.sizes.items _
      c.index-objects-i.result c.requires.rising c.requires.sizes c.requires.some (omega (arith, c.back.invariant.within)) c.index-objects-i.is,
  c.requires.starts.count,
  c.args.layout.now.starts.ok,
)

pub copy-requires : goal.copy-requires
copy-requires c =
    let pid = ap (λ (o : ObjectParts). o.pid) c.object.view_is in
    let few : length c.as_slice.result.now ≤ c.index-objects-i.result.words = subst (λ (n : ℕ). n ≤ c.index-objects-i.result.words)
    (sym (ap length (c.as_slice.ensures ∙ ap (λ (o : ObjectParts). o.init) c.object.view_is)))
    (subst (λ (o : ObjectParts). length o.init ≤ o.words) c.object.view_is c.object.invariant.few) in
    let at : c.index-at.result.now ≡ start_of c.args.layout.now.sizes.items c.index-objects-i.result.pid = start_read _ _ _ _ c.requires.starts
    (omega (
      arith,
      pid,
      place_at c.args.objects.now c.args.layout.now.sizes.items _ c.index-objects-i.result c.requires.rising c.requires.sizes
          c.requires.some (omega (arith, c.back.invariant.within)) c.index-objects-i.is,
    )) c.index-at.ensures ∙ ap (start_of c.args.layout.now.sizes.items) pid in
    omega (
      arith,
      few,
      at,
      fits_end c.args.layout.now.sizes.items c.index-objects-i.result.pid,
      size_at c.args.objects.now c.args.layout.now.sizes.items _
          c.index-objects-i.result c.requires.rising c.requires.sizes (omega (arith, c.back.invariant.within)) c.index-objects-i.is,
      c.back.invariant.count,
    )
