use Rattle.std.proofs.Common.{◌++◌, ◌∷◌, slice_set, subst, arith}
use Rattle.naim_core.specs.Links.{IsRing}
use Rattle.naim_core.proofs.Chains.{read_is, first_of, chain_first, first_within, ring_in}
use Rattle.naim_core.proofs.ring.Ring.link.Goals as goal

pub index_mut-requires-3 : goal.index_mut-requires-3
index_mut-requires-3 c =
    let r = c.requires.ring in let xs = c.requires.newer ++ c.requires.older in
    let e = read_is c.args.self.now.behind.items 4096 (first_of 4096 xs) c.index-first.result.now
    (chain_first c.args.self.now.behind.items 4096 xs 4096 r.forth) c.index-first.ensures in
    let k = first_within xs r.below in let s = r.before_sized in let v = c.args.self.now.before.ok in omega arith

pub returns : goal.returns
returns c = λ at.
    let xs = at.newer ++ at.older in
    let e = read_is c.args.self.now.behind.items 4096 (first_of 4096 xs) c.index-first.result.now
    (chain_first c.args.self.now.behind.items 4096 xs 4096 at.ring.forth) c.index-first.ensures in
    subst (λ f. IsRing (slice_set (slice_set c.args.self.now.behind.items c.args.slot f) 4096 c.args.slot)
    (slice_set (slice_set c.args.self.now.before.items f c.args.slot) c.args.slot 4096) (c.args.slot ∷ xs)) e
    (ring_in c.args.self.now.behind.items c.args.self.now.before.items xs c.args.slot at.ring at.apart at.fits)
