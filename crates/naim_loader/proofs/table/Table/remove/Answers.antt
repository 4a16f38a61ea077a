use Rattle.std.proofs.Common.{arith, ◌<◌, ◌≤◌, length, get_or, nat_eq, Some, None, IsSome, refl, sym, ap, subst, ◌∙◌}
use Rattle.std.specs.List.{slice_set}
use Rattle.std.specs.Map.{lookup}
use Rattle.naim_loader.specs.Rows.{IsTable}
use Rattle.std.proofs.lemmas.Option.{slice_get_read}
use Rattle.naim_loader.proofs.Removals.{last_within, removed_inside, removed_last, taken_out}
use Rattle.naim_loader.proofs.Rows.{within_index}
use Rattle.naim_loader.proofs.table.Table.remove.Goals as goal

pub invariant_of-self : goal.invariant_of-self
invariant_of-self g c =
    let s = c.self.inside in let i = c.unwrap-slot.result in
    let out = taken_out s.rows.items c.args.self.now c.swap_remove.new.self.items s.index.items _ _ c.args.pid i c.index.result.now c.swap_remove.result
    c.self.invariant c.self.view_is c.requires c.index.ensures c.unwrap-slot.ensures s.rows.ok.0
    c.swap_remove.ensures.value c.swap_remove.ensures.items c.swap_remove.ensures.by_index in
    let there = subst (λ z. IsSome (lookup (nat_eq c.args.pid) z)) (sym c.self.view_is) c.requires in
    let below = within_index s.rows.items s.index.items _ c.args.pid c.self.invariant there in
    subst (IsTable c.swap_remove.new.self.items (slice_set s.index.items c.args.pid None)) (sym c.swap_remove.ensures.capacity)
    (removed_last s.rows.items c.swap_remove.new.self.items s.index.items _ c.args.pid i out.entry c.self.invariant out.at below out.left
    (subst (λ z. length z ≤ i) c.deref.ensures.value c.in_default.ensures.lookup.3))

pub returns-in_default : goal.returns-in_default
returns-in_default g c =
    let s = c.self.inside in let i = c.unwrap-slot.result in
    let out = taken_out s.rows.items c.args.self.now c.swap_remove.new.self.items s.index.items _ _ c.args.pid i c.index.result.now c.swap_remove.result
    c.self.invariant c.self.view_is c.requires c.index.ensures c.unwrap-slot.ensures s.rows.ok.0
    c.swap_remove.ensures.value c.swap_remove.ensures.items c.swap_remove.ensures.by_index in
    record { found = out.found; differ = out.left.differ }

pub index_mut-requires-2 : goal.index_mut-requires-2
index_mut-requires-2 g c =
    let s = c.self.inside in let i = c.unwrap-slot.result in
    let out = taken_out s.rows.items c.args.self.now c.swap_remove.new.self.items s.index.items _ _ c.args.pid i c.index.result.now c.swap_remove.result
    c.self.invariant c.self.view_is c.requires c.index.ensures c.unwrap-slot.ensures s.rows.ok.0
    c.swap_remove.ensures.value c.swap_remove.ensures.items c.swap_remove.ensures.by_index in
    let l = c.in-Some.ensures.lookup in let e = c.deref.ensures.value in
    let here = slice_get_read c.swap_remove.new.self.items (length c.swap_remove.new.self.items) i c.in-Some.row.now refl (subst (λ z. i < length z) e l.3.0)
    (l.3.1 c.in-Some.row.now ∙ ap (λ z. get_or z i c.in-Some.row.now) e) in
    let below = last_within s.rows.items c.swap_remove.new.self.items s.index.items _ c.args.pid i c.in-Some.row.now.0 c.in-Some.row.now.1 c.self.invariant
    out.left here in let o = s.index.ok.0 in omega arith

pub invariant_of-self-2 : goal.invariant_of-self-2
invariant_of-self-2 g c =
    let s = c.self.inside in let i = c.unwrap-slot.result in
    let out = taken_out s.rows.items c.args.self.now c.swap_remove.new.self.items s.index.items _ _ c.args.pid i c.index.result.now c.swap_remove.result
    c.self.invariant c.self.view_is c.requires c.index.ensures c.unwrap-slot.ensures s.rows.ok.0
    c.swap_remove.ensures.value c.swap_remove.ensures.items c.swap_remove.ensures.by_index in
    let there = subst (λ z. IsSome (lookup (nat_eq c.args.pid) z)) (sym c.self.view_is) c.requires in
    let below = within_index s.rows.items s.index.items _ c.args.pid c.self.invariant there in
    let l = c.in-Some.ensures.lookup in let e = c.deref.ensures.value in
    let here = slice_get_read c.swap_remove.new.self.items (length c.swap_remove.new.self.items) i c.in-Some.row.now refl (subst (λ z. i < length z) e l.3.0)
    (l.3.1 c.in-Some.row.now ∙ ap (λ z. get_or z i c.in-Some.row.now) e) in
    subst (IsTable c.swap_remove.new.self.items (slice_set (slice_set s.index.items c.args.pid None) c.in-Some.row.now.0 (Some i)))
    (sym c.swap_remove.ensures.capacity) (removed_inside s.rows.items c.swap_remove.new.self.items s.index.items _ c.args.pid i c.in-Some.row.now.0
    out.entry c.in-Some.row.now.1 c.self.invariant out.at below out.left here)

pub returns : goal.returns
returns g c =
    let s = c.self.inside in let i = c.unwrap-slot.result in
    let out = taken_out s.rows.items c.args.self.now c.swap_remove.new.self.items s.index.items _ _ c.args.pid i c.index.result.now c.swap_remove.result
    c.self.invariant c.self.view_is c.requires c.index.ensures c.unwrap-slot.ensures s.rows.ok.0
    c.swap_remove.ensures.value c.swap_remove.ensures.items c.swap_remove.ensures.by_index in
    record { found = out.found; differ = out.left.differ }
