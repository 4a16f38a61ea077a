use Rattle.std.proofs.Common.{◌≡◌, ◌+◌, ◌-◌, Some, None, refl, sym, ap, ◌∙◌, subst, arith}
use Rattle.indexmap.specs.Layout.{set_value_at}
use Rattle.sym_tables.specs.Entities.{parameters}
use Rattle.sym_tables.specs.Symbols.{met, is_open}
use Rattle.sym_tables.specs.Sound.{IsKept}
use Rattle.sym_tables.specs.Table.{Table, symbol_at, refusal_of}
use Rattle.sym_tables.proofs.Changes.{kept_met}
use Rattle.sym_tables.proofs.Refusals.{clash, repeat, many, none, past_met, set_met, routines_counted, elements_counted}
use Rattle.sym_tables.proofs.Tables.{known_at, known_mut, routine_there, element_there}
use Rattle.sym_tables.proofs.table.ProgramSyms.meet.Goals as goal

pub returns-then-not-compatible-clause-err : goal.returns-then-not-compatible-clause-err
returns-then-not-compatible-clause-err c = (
  refl,
  subst (λ (l : Table). refusal_of (symbol_at l c.args.at) c.args.standing c.args.said
      (set_met c.args.standing c.args.said c.args.init l c.args.at (symbol_at l c.args.at)) ≡ Some _) c.self.view_is
      (clash c.args.standing c.args.said c.args.init c.self.inside.symbols.entries c.args.at _ c.unwrap.result.1.now
      (known_at _ c.args.at _ c.unwrap.result c.get_index.ensures.entry c.unwrap.ensures) (sym c.compatible.ensures ∙ c.if-not-compatible.true)),
)

pub returns-then-repeats-clause-err : goal.returns-then-repeats-clause-err
returns-then-repeats-clause-err c = (
  refl,
  subst (λ (l : Table). refusal_of (symbol_at l c.args.at) c.args.standing c.args.said
      (set_met c.args.standing c.args.said c.args.init l c.args.at (symbol_at l c.args.at)) ≡ Some _) c.self.view_is
      (repeat c.args.standing c.args.said c.args.init c.self.inside.symbols.entries c.args.at _ c.unwrap.result.1.now
      (known_at _ c.args.at _ c.unwrap.result c.get_index.ensures.entry c.unwrap.ensures) (sym c.compatible.ensures ∙ c.if-not-compatible.false)
      (sym c.repeats.ensures ∙ c.if-repeats.true)),
)

pub overflow_sub-routines : goal.overflow_sub-routines
overflow_sub-routines c = let k = routine_there _ c.args.at c.unwrap.result.1.now
    (known_at c.self.inside.symbols.entries c.args.at _ c.unwrap.result c.get_index.ensures.entry c.unwrap.ensures) in let r = c.self.invariant.routines_counted
    in let e = c.routine_part.ensures in omega arith

pub overflow_sub-elements : goal.overflow_sub-elements
overflow_sub-elements c = let k = element_there _ c.args.at c.unwrap.result.1.now
    (known_at c.self.inside.symbols.entries c.args.at _ c.unwrap.result c.get_index.ensures.entry c.unwrap.ensures) in let r = c.self.invariant.elements_counted
    in let e = c.element_part.ensures in omega arith

pub returns-then-is_too_many-clause-err : goal.returns-then-is_too_many-clause-err
returns-then-is_too_many-clause-err c =
    let known = known_at c.self.inside.symbols.entries c.args.at _ c.unwrap.result c.get_index.ensures.entry c.unwrap.ensures in
    let r = routines_counted c.self.inside.routines c.routine_part.result c.routine_part-2.result c.unwrap.result.1.now _ _ _ _
    (let k = routine_there _ c.args.at c.unwrap.result.1.now known in let r = c.self.invariant.routines_counted in let e = c.routine_part.ensures
    in omega arith) c.routine_part.ensures c.routine_part-2.ensures c.composite-entity.ensures c.later-later.ensures in
    let e = elements_counted c.self.inside.elements c.element_part.result c.element_part-2.result c.unwrap.result.1.now _ _ _ _
    (let k = element_there _ c.args.at c.unwrap.result.1.now known in let r = c.self.invariant.elements_counted in let e = c.element_part.ensures
    in omega arith) c.element_part.ensures c.element_part-2.ensures c.composite-entity.ensures c.later-later.ensures in
    let compat = sym c.compatible.ensures ∙ c.if-not-compatible.false in (
      refl,
      subst (λ (l : Table). refusal_of (symbol_at l c.args.at) c.args.standing c.args.said
          (set_met c.args.standing c.args.said c.args.init l c.args.at (symbol_at l c.args.at)) ≡ Some _) c.self.view_is
          (many c.args.standing c.args.said c.args.init c.self.inside.symbols.entries c.args.at _ c.unwrap.result.1.now known compat
          (sym c.repeats.ensures ∙ c.if-repeats.false)
          (past_met c.args.standing c.args.said c.args.init c.self.inside.symbols.entries c.args.at c.unwrap.result.1.now _ _ _ _ _ _ _ _ c.self.invariant
          c.len.ensures.len known compat (r, e, c.parameters.ensures ∙ ap parameters c.composite-entity.ensures) c.is_too_many.ensures ∙
          c.if-is_too_many.true)),
    )

pub invariant_of-self : goal.invariant_of-self
invariant_of-self c =
    let known = known_at c.self.inside.symbols.entries c.args.at _ c.unwrap.result c.get_index.ensures.entry c.unwrap.ensures in
    let r = routines_counted c.self.inside.routines c.routine_part.result c.routine_part-2.result c.unwrap.result.1.now _ _ _ _
    (let k = routine_there _ c.args.at c.unwrap.result.1.now known in let r = c.self.invariant.routines_counted in let e = c.routine_part.ensures
    in omega arith) c.routine_part.ensures c.routine_part-2.ensures c.composite-entity.ensures c.later-later.ensures in
    let e = elements_counted c.self.inside.elements c.element_part.result c.element_part-2.result c.unwrap.result.1.now _ _ _ _
    (let k = element_there _ c.args.at c.unwrap.result.1.now known in let r = c.self.invariant.elements_counted in let e = c.element_part.ensures
    in omega arith) c.element_part.ensures c.element_part-2.ensures c.composite-entity.ensures c.later-later.ensures in
    let compat = sym c.compatible.ensures ∙ c.if-not-compatible.false in
    let past = past_met c.args.standing c.args.said c.args.init c.self.inside.symbols.entries c.args.at c.unwrap.result.1.now _ _ _ _ _ _ _ _ c.self.invariant
    c.len.ensures.len known compat (r, e, c.parameters.ensures ∙ ap parameters c.composite-entity.ensures) c.is_too_many.ensures ∙ c.if-is_too_many.false in
    let is = c.meet.ensures ∙ ap (met c.args.standing c.args.said c.args.init)
    (sym (known_mut _ c.args.at _ c.unwrap-symbol.result c.get_index_mut.ensures.value c.unwrap-symbol.ensures) ∙ known) in
    subst (λ v. IsKept (set_value_at c.self.inside.symbols.entries c.args.at v) (c.self.inside.routines - c.routine_part.result + c.routine_part-2.result)
    (c.self.inside.elements - c.element_part.result + c.element_part-2.result) c.least_past-self-inside.result) (sym is)
    (kept_met c.args.standing c.args.said c.args.init c.self.inside.symbols.entries c.args.at _ _ _ _ _ _ c.unwrap.result.1.now _ c.self.invariant known compat
    c.requires.fits (r, e, c.is_open.ensures ∙ ap is_open is) past c.least_past-self-inside.ensures)

pub returns-clause-ok : goal.returns-clause-ok
returns-clause-ok c =
    let known = known_at c.self.inside.symbols.entries c.args.at _ c.unwrap.result c.get_index.ensures.entry c.unwrap.ensures in
    let r = routines_counted c.self.inside.routines c.routine_part.result c.routine_part-2.result c.unwrap.result.1.now _ _ _ _
    (let k = routine_there _ c.args.at c.unwrap.result.1.now known in let r = c.self.invariant.routines_counted in let e = c.routine_part.ensures
    in omega arith) c.routine_part.ensures c.routine_part-2.ensures c.composite-entity.ensures c.later-later.ensures in
    let e = elements_counted c.self.inside.elements c.element_part.result c.element_part-2.result c.unwrap.result.1.now _ _ _ _
    (let k = element_there _ c.args.at c.unwrap.result.1.now known in let r = c.self.invariant.elements_counted in let e = c.element_part.ensures
    in omega arith) c.element_part.ensures c.element_part-2.ensures c.composite-entity.ensures c.later-later.ensures in
    let compat = sym c.compatible.ensures ∙ c.if-not-compatible.false in
    let past = past_met c.args.standing c.args.said c.args.init c.self.inside.symbols.entries c.args.at c.unwrap.result.1.now _ _ _ _ _ _ _ _ c.self.invariant
    c.len.ensures.len known compat (r, e, c.parameters.ensures ∙ ap parameters c.composite-entity.ensures) c.is_too_many.ensures ∙ c.if-is_too_many.false in
    let is = c.meet.ensures ∙ ap (met c.args.standing c.args.said c.args.init)
    (sym (known_mut _ c.args.at _ c.unwrap-symbol.result c.get_index_mut.ensures.value c.unwrap-symbol.ensures) ∙ known) in (
      refl,
      ap (λ v. set_value_at c.self.inside.symbols.entries c.args.at v) is ∙ ap
          (λ o. set_met c.args.standing c.args.said c.args.init c.self.inside.symbols.entries c.args.at o) (sym known) ∙ ap
          (λ l. set_met c.args.standing c.args.said c.args.init l c.args.at (symbol_at l c.args.at)) c.self.view_is,
      subst (λ (l : Table). refusal_of (symbol_at l c.args.at) c.args.standing c.args.said
          (set_met c.args.standing c.args.said c.args.init l c.args.at (symbol_at l c.args.at)) ≡ None) c.self.view_is
          (none c.args.standing c.args.said c.args.init c.self.inside.symbols.entries c.args.at _ c.unwrap.result.1.now known compat
          (sym c.repeats.ensures ∙ c.if-repeats.false) past),
    )
