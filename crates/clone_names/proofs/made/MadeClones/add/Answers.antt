use Rattle.std.proofs.Common.{◌≡◌, ◌<◌, ◌+◌, ℕ, List, [], ap, arith, subst, sym, ◌∙◌}
use Rattle.std.specs.Prelude.{slice_set}
use Rattle.std.specs.List.{AllByRecursion}
use Rattle.il_core.specs.Limits.{max_pids}
use Rattle.plan_laws.specs.Plan.{root_of}
use Rattle.clone_names.specs.Made.{AreCounted, Clones, made_from, next_pid}
use Rattle.clone_names.proofs.Roots.{clones_few, counted_more, made_length, old_is, pushed, root_below, seen, with_root}
use Rattle.clone_names.proofs.made.MadeClones.add.Goals as goal

-- the root is of the first program
below : (first callee root : ℕ) (roots : List ℕ) (v : Clones) → seen first roots ≡ v
    → AllByRecursion (λ r. r < first) roots → callee < next_pid v → root ≡ root_of v.made callee → root < first
below first callee root roots v same all less is =
    let known = subst (λ (z : Clones). callee < next_pid z) (sym same) less in
    let long = made_length first roots [] in
    subst (λ n. n < first) (sym (is ∙ ap (λ (z : Clones). root_of z.made callee) (sym same))) (root_below first roots callee all (omega arith))

pub index_mut-requires : goal.index_mut-requires
index_mut-requires c =
    let lt = below c.self.inside.first c.args.callee c.root_of-root.result c.self.inside.roots.items c.args.self.now c.self.view_is
    c.self.invariant.below c.requires.known
    c.root_of-root.ensures in
    omega (arith, lt, c.self.invariant.long, c.self.inside.counts.ok)

pub overflow_add-index_mut : goal.overflow_add-index_mut
overflow_add-index_mut c =
    let lt = below c.self.inside.first c.args.callee c.root_of-root.result c.self.inside.roots.items c.args.self.now c.self.view_is
    c.self.invariant.below c.requires.known
    c.root_of-root.ensures in
    let is = old_is c.self.inside.first c.root_of-root.result c.index_mut.result.now c.self.inside.roots.items c.self.inside.counts.items c.self.invariant lt
    c.index_mut.ensures.value in
    let few = clones_few (made_from c.self.inside.first c.self.inside.roots.items []) c.root_of-root.result in
    let room = subst (λ (z : Clones). next_pid z < max_pids) (sym c.self.view_is) c.requires.room in
    omega (arith, is, few, room)

pub invariant_of-self-2 : goal.invariant_of-self-2
invariant_of-self-2 c =
    let lt = below c.self.inside.first c.args.callee c.root_of-root.result c.self.inside.roots.items c.args.self.now c.self.view_is
    c.self.invariant.below c.requires.known
    c.root_of-root.ensures in
    subst (λ rs. AreCounted c.self.inside.first rs (slice_set c.self.inside.counts.items c.root_of-root.result (c.index_mut.result.now + 1)))
    (sym c.in_ok-push.ensures.items)
    (counted_more c.self.inside.first c.root_of-root.result c.index_mut.result.now c.self.inside.roots.items c.self.inside.counts.items c.self.invariant lt
    c.index_mut.ensures.value)

pub returns-clause-ok : goal.returns-clause-ok
returns-clause-ok c =
    pushed c.self.inside.first c.root_of-root.result c.self.inside.roots.items _ c.args.self.now c.self.view_is c.in_ok-push.ensures.items
    ∙ ap (λ r. with_root r c.args.self.now) c.root_of-root.ensures
