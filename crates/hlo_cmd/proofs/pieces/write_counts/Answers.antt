use Rattle.std.proofs.Common.{◌≡◌, refl, [], ◌∷◌, ◌++◌, length, take, subst, arith}
use Rattle.std.specs.Prelude.{decimal, flat_map}
use Rattle.std.specs.Io.KnownBytes.{Appends}
use Rattle.std.proofs.lemmas.Result.{err_from_is_err_and}
use Rattle.std.proofs.Math.Seq.{take-length}
use Rattle.hlo_cmd.proofs.Fronts.{first_failed, takes_line, then_takes}
use Rattle.hlo_cmd.proofs.OneByOne.{counts_of_borrowed, next_failed}
use Rattle.hlo_cmd.proofs.pieces.write_counts.Goals as goal

pub returns-in_err-write_count-clause-bytes : goal.returns-in_err-write_count-clause-bytes
returns-in_err-write_count-clause-bytes g c =
    let p = err_from_is_err_and c.from_residual.result c.from_residual.ensures.1 in
    let h = next_failed (λ c. c.0.now ++ decimal c.1) c.args.counts.now c.loop-count.count-index _ _ c.loop-count-test.true refl
    _ _ _ c.loop-count.invariant.taken c.in_err-write_count.ensures.bytes in
    let f = first_failed _ _ h.0 (flat_map (λ c. c.0.now ++ decimal c.1) c.args.counts.now) (10 ∷ []) h.1 in
    rw p.1 (
      f.0,
      subst (λ l. Appends (g.O.Sink.taken c.args.o.now) (g.O.Sink.taken c.write_count.new.o) (take f.0 l))
          (counts_of_borrowed c.args.counts.now) f.1,
    )

pub returns-clause-bytes : goal.returns-clause-bytes
returns-clause-bytes g c =
    let end : c.loop-count.count-index ≡ length c.args.counts.now = omega (arith, c.loop-count.auto.count-index-end, c.loop-count-test.false) in
    let taken = subst (λ k. Appends (g.O.Sink.taken c.args.o.now) (g.O.Sink.taken c.loop-count.o)
    (flat_map (λ c. c.0.now ++ decimal c.1) (take k c.args.counts.now)))
    end c.loop-count.invariant.taken in
    let whole = subst (λ l. Appends (g.O.Sink.taken c.args.o.now) (g.O.Sink.taken c.loop-count.o) (flat_map (λ c. c.0.now ++ decimal c.1) l))
    (take-length c.args.counts.now) taken in
    takes_line _ _ c.write_all.result _ _ (counts_of_borrowed c.args.counts.now)
    (then_takes _ _ _ c.write_all.result (flat_map (λ c. c.0.now ++ decimal c.1) c.args.counts.now) (10 ∷ []) whole c.write_all.ensures.bytes)
