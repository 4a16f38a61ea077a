use Rattle.std.proofs.Common.{◌++◌, ◌∷◌, ◌<◌, slice_set, subst, arith}
use Rattle.naim_core.specs.Links.{IsRing}
use Rattle.naim_core.proofs.Chains.{read_is, last_of, first_of, behind_is, before_is, first_within, last_within, all_left, all_right, ring_out}
use Rattle.naim_core.proofs.ring.Ring.unlink.Goals as goal

pub index_mut-requires : goal.index_mut-requires
index_mut-requires c =
    let at = c.requires in
    let e = read_is c.args.self.now.before.items c.args.slot (last_of 4096 at.newer) c.index-before.result.now
    (before_is c.args.self.now.behind.items c.args.self.now.before.items at.newer c.args.slot at.older at.ring) c.index-before.ensures in
    let k = last_within 4096 at.newer (omega arith) (all_left (λ i. i < 4096) at.newer (c.args.slot ∷ at.older) at.ring.below) in
    let s = at.ring.behind_sized in let v = c.args.self.now.behind.ok in omega arith

pub index_mut-requires-2 : goal.index_mut-requires-2
index_mut-requires-2 c =
    let at = c.requires in
    let e = read_is c.args.self.now.behind.items c.args.slot (first_of 4096 at.older) c.index-behind.result.now
    (behind_is c.args.self.now.behind.items c.args.self.now.before.items at.newer c.args.slot at.older at.ring) c.index-behind.ensures in
    let k = first_within at.older (all_right (λ i. i < 4096) at.newer (c.args.slot ∷ at.older) at.ring.below).1 in
    let s = at.ring.before_sized in let v = c.args.self.now.before.ok in omega arith

pub returns : goal.returns
returns c = λ at.
    let b = read_is c.args.self.now.before.items c.args.slot (last_of 4096 at.newer) c.index-before.result.now
    (before_is c.args.self.now.behind.items c.args.self.now.before.items at.newer c.args.slot at.older at.ring) c.index-before.ensures in
    let f = read_is c.args.self.now.behind.items c.args.slot (first_of 4096 at.older) c.index-behind.result.now
    (behind_is c.args.self.now.behind.items c.args.self.now.before.items at.newer c.args.slot at.older at.ring) c.index-behind.ensures in
    let r = ring_out c.args.self.now.behind.items c.args.self.now.before.items at.newer c.args.slot at.older at.ring in
    let r' = subst (λ n. IsRing (slice_set c.args.self.now.behind.items n (first_of 4096 at.older))
    (slice_set c.args.self.now.before.items (first_of 4096 at.older) n) (at.newer ++ at.older)) b r in
    subst (λ n. IsRing (slice_set c.args.self.now.behind.items c.index-before.result.now n) (slice_set c.args.self.now.before.items n c.index-before.result.now)
    (at.newer ++ at.older)) f r'
