use Rattle.std.proofs.Common.{ℕ, ◌∙◌, length, ap, arith, rules}
use Rattle.std.proofs.lemmas.List.{length-replicate}
use Rattle.il_core.specs.Limits.{max_pids}
use Rattle.il_core.specs.Object.{ObjectParts}
use Rattle.il_run.proofs.Tabling.{sizes_none, sizes_step, sizes_whole, small_at}
use Rattle.il_run.proofs.tables.sizes_of.Goals as goal

pub back-init : goal.back-init
back-init c = record {
  within = omega arith;
  count = ap length c.in_ok-sizes.ensures ∙ length-replicate {A = ℕ} max_pids 0;
  each = sizes_none _ _ max_pids _
      c.in_ok-sizes.ensures (omega arith);
}

pub back-preserved : goal.back-preserved
back-preserved c =
    let small = small_at c.args.objects.now c.index-objects-i.result _ c.requires (omega (arith, c.back.invariant.within)) c.index-objects-i.is in
    record {
      within = omega (arith, c.back.invariant.within);
      count = search rules;
      each = sizes_step c.args.objects.now c.index-objects-i.result c.back.sizes.items c.back.i c.object.inside.pid c.object.inside.words c.back-test.true
          c.back.invariant.within c.index-objects-i.is (ap (λ (o : ObjectParts). o.pid) c.object.view_is) (ap (λ (o : ObjectParts). o.words) c.object.view_is)
          (omega (arith, small, ap (λ (o : ObjectParts). o.pid) c.object.view_is, c.back.invariant.count)) c.back.invariant.each;
    }

pub returns-clause-each : goal.returns-clause-each
returns-clause-each c = sizes_whole _ _ _ c.back-test.false c.back.invariant.each

pub index_mut-requires : goal.index_mut-requires
index_mut-requires c = omega (
  arith,
  small_at c.args.objects.now c.index-objects-i.result _ c.requires (omega (arith, c.back.invariant.within))
      c.index-objects-i.is,
  ap (λ (o : ObjectParts). o.pid) c.object.view_is,
  c.back.invariant.count,
  c.back.sizes.ok,
)
