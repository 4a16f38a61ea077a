use Rattle.std.proofs.Common.{◌<◌, ◌++◌, ◌∷◌, [], ap, subst, sym, ◌∙◌}
use Rattle.one_owner.proofs.Frames.{err_so, ok_so}
use Rattle.plan_pools.specs.Adding.{clone_of, row_of}
use Rattle.plan_pools.proofs.Added.{absent_still, added, added_pools, added_program, added_row, added_stops, both}
use Rattle.plan_pools.proofs.adding.add_clone.Goals as goal

pub put_clone-requires-clause-absent : goal.put_clone-requires-clause-absent
put_clone-requires-clause-absent g c =
    absent_still g.D.Disk.reach g.D.Disk.honest g.D.Disk.faults (clone_of c.args.wanted) c.args.loader.now c.read_clone.new.loader c.in-Ok.ensures.ok.reads
    c.requires.absent

pub put_clone-requires-clause-room : goal.put_clone-requires-clause-room
put_clone-requires-clause-room g c = subst (λ n. n < 4096) (sym c.in-Ok.ensures.ok.reads.used) c.requires.room

pub returns-in-Ok-clause-ok : goal.returns-in-Ok-clause-ok
returns-in-Ok-clause-ok g c =
    ok_so _ _ c.put_clone.result
    (λ s w. added g.D.Disk.reach g.D.Disk.honest g.D.Disk.faults (clone_of c.args.wanted) c.args.loader.now c.read_clone.new.loader c.put_clone.new.loader
    c.in-Ok.clone c.in-Ok.ensures.ok.reads c.in-Ok.ensures.clone c.requires.present w)
    c.put_clone.ensures.ok

pub returns-in-Ok-clause-row : goal.returns-in-Ok-clause-row
returns-in-Ok-clause-row g c =
    ok_so _ _ c.put_clone.result (λ s h. added_row c.args.wanted.pid c.args.wanted.name c.args.shapes s c.in-Ok.clone c.in-Ok.ensures.pid h)
    c.put_clone.ensures.shapes

pub returns-in-Ok-clause-pools : goal.returns-in-Ok-clause-pools
returns-in-Ok-clause-pools g c =
    both _ _ _ c.put_clone.result
    (λ s a h. added_pools g.D.Disk.reach g.D.Disk.honest g.D.Disk.faults (clone_of c.args.wanted) c.args.loader.now c.read_clone.new.loader
    c.put_clone.new.loader c.in-Ok.clone c.in-Ok.ensures.ok.reads c.args.shapes s c.requires.pools a c.in-Ok.ensures.pid h)
    (returns-in-Ok-clause-ok g c) c.put_clone.ensures.shapes

pub returns-in-Ok-clause-program : goal.returns-in-Ok-clause-program
returns-in-Ok-clause-program g c = λ p trusted shapes held.
    both _ _ _ c.put_clone.result
    (λ s a h. added_program g.D.Disk.reach g.D.Disk.honest g.D.Disk.faults (clone_of c.args.wanted) c.args.loader.now c.read_clone.new.loader
    c.put_clone.new.loader c.in-Ok.clone c.in-Ok.ensures.ok.reads p s trusted c.in-Ok.ensures.clone c.requires.present c.requires.absent held a
    (h ∙ ap (λ rows. rows ++ row_of c.args.wanted.name c.in-Ok.clone ∷ []) (sym shapes)))
    (returns-in-Ok-clause-ok g c) c.put_clone.ensures.shapes

pub returns-in-Ok-clause-err : goal.returns-in-Ok-clause-err
returns-in-Ok-clause-err g c =
    err_so _ _ c.put_clone.result
    (λ e s. added_stops g.D.Disk.reach g.D.Disk.honest g.D.Disk.faults (clone_of c.args.wanted) c.args.loader.now c.read_clone.new.loader
    c.put_clone.new.loader c.in-Ok.clone c.in-Ok.ensures.ok.reads c.args.shapes e c.in-Ok.ensures.clone s)
    c.put_clone.ensures.err
