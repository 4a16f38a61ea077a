use Rattle.std.proofs.Common.{◌∙◌, ◌++◌, List, refl, ap, sym, subst}
use Rattle.std.specs.Prelude.{Option}
use Rattle.hlo_num.specs.declared.word.Word.{Word}
use Rattle.il_core.specs.contracts.routine.Routine.{the_view}
use Rattle.il_core.specs.Routine.{RoutineParts}
use Rattle.il_laws.specs.Known.{known_from}
use Rattle.const_prop.specs.Flow.{bare}
use Rattle.const_prop.specs.Sites.{words_of}
use Rattle.const_prop.specs.Tables.{IsValidRoutine}
use Rattle.const_prop.proofs.SiteSteps.{sites_are, words_in}
use Rattle.const_prop.proofs.Whole.{named_as}
use Rattle.const_prop.proofs.sites.site_constants.Goals as goal

pub new-requires : goal.new-requires
new-requires c =
    named_as (the_view c.r.inside) c.r.inside.regs c.r.inside.blocks c.as_slice-blocks.result.now
    (subst IsValidRoutine (sym c.r.view_is) c.requires) refl c.as_slice-blocks.ensures refl

pub put_blocks-requires-clause-named : goal.put_blocks-requires-clause-named
put_blocks-requires-clause-named c =
    named_as (the_view c.r.inside) c.in_ok-flow.flow.regs c.r.inside.blocks c.as_slice-blocks.result.now
    (subst IsValidRoutine (sym c.r.view_is) c.requires) c.in_ok-flow.ensures.regs c.as_slice-blocks.ensures refl

pub returns : goal.returns
returns c =
    c.in_ok-put_blocks.ensures
    ∙ ap (λ (ws : List (List (Option Word))). words_of ws ++ words_in
    (known_from (bare c.in_ok-flow.flow.params c.as_slice-blocks.result.now) 0 c.as_slice-blocks.result.now))
    c.new-known.ensures
    ∙ sites_are c.args.r.now c.in_ok-flow.flow.params c.as_slice-blocks.result.now
    (c.in_ok-flow.ensures.params ∙ ap (λ (r : RoutineParts). r.params) c.r.view_is)
    (c.as_slice-blocks.ensures ∙ ap (λ (r : RoutineParts). r.blocks) c.r.view_is)
