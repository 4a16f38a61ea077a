use Rattle.std.proofs.Common.{refl, arith}
use Rattle.named_lock.proofs.Handed.{seen_me, seen_pass}
use Rattle.named_lock.proofs.Views.{gone_on}
use Rattle.named_lock.proofs.Moves.{looks}
use Rattle.named_lock.proofs.waiting.Lock+R.look.Goals as goal

pub load-requires : goal.load-requires
load-requires g c = let p = c.requires.pass in (p.same, omega (arith, c.args.self.now.one), looks g.R.Rule.holds _ _ _ _ _ p.placed)

pub returns-clause-pass : goal.returns-clause-pass
returns-clause-pass g c = let t = c.load.ensures.2 in seen_pass _ c.args.p.now _ t.gives t.has c.load.ensures.0 refl c.requires.pass

pub returns-clause-number : goal.returns-clause-number
returns-clause-number g c = let t = c.load.ensures.2 in (seen_me t.gives c.args.p.now.seat.me.0 c.args.p.now.seat.me.1 c.load.new.seat.me t.has
    c.requires.pass.placed).1

pub returns-clause-view : goal.returns-clause-view
returns-clause-view g c = let t = c.load.ensures.2 in (seen_me t.gives c.args.p.now.seat.me.0 c.args.p.now.seat.me.1 c.load.new.seat.me t.has
    c.requires.pass.placed).0

pub returns-clause-given : goal.returns-clause-given
returns-clause-given g c = let t = c.load.ensures.2 in (seen_me t.gives c.args.p.now.seat.me.0 c.args.p.now.seat.me.1 c.load.new.seat.me t.has
    c.requires.pass.placed).3

pub returns-clause-since : goal.returns-clause-since
returns-clause-since g c = λ other.
    let t = c.load.ensures.2 in let f = (seen_me t.gives c.args.p.now.seat.me.0 c.args.p.now.seat.me.1 c.load.new.seat.me t.has c.requires.pass.placed).4 in
    gone_on _ _ _ _ _ t.count c.requires.pass.given other t.more f
