-- `picked` makes a value of no bytes, whose ghost field is what the caller picked. It is a walk by hand, since the borrow checker makes no such value.
use mathlib.Core.Path.{refl}
use mathlib.Core.List.{[], ◌∷◌}
use mir.Syntax.{Fn, a_type}
use mir.Val.{Val, vstruct, vcons, vnil}
use mir.MapTy.{inst_fn}
use base.Fml.{Fml}
use types.Kit.{‵, raw, ◌⊛◌, ◌$◌, ◌∵◌, !, qed, move, keep, split, join, use0, suffices, done}
use types.Run.{no_more, and_then, returns, enter}
use types.Part.{agg}
use types.ByLocal.{alloc_all, pass_all, free_all, look_at, get, sets}
use denote.RattleType.{owns}
use denote.Param.{layouts}
use denote.Shadow.{makes_shadow}
use denote.Signature.{types_at, type_at}
use denote.Steps.{nothing}
use denote.Triple.Entry.{alive}
use denote.Triple.Walked.{says, Stays, walk_of, ends_at}
use contract.Running.{tables}
use Rattle.std.proofs.raw_atomic.Walks.{proved}
use Rattle.outside.specs.contracts.unkept.Unkept.picked.{ended, clauses}
use Rattle.outside.specs.contracts.unkept.Unkept.picked.Key.{name as #self}
use Rattle.outside.proofs.unkept.Unkept.picked.Statement.{statement}
use Rattle.outside.proofs.unkept.Unkept.picked.Code as code

pub picked_spec : {M : Type 1} → statement M
picked_spec 𝓤 𝓛 𝓜 𝓡 wired T laws =
    let run = tables 𝓤 𝓛.H 𝓜 𝓡 𝓡.env in
    let sort = layouts (a_type ∷ []) (T, tt) in
    let body : Fn = inst_fn sort code.function in
    let E = ended T in
    let stays : Stays E.signature.params E.kept = tt in
    let said = clauses T 𝓛 𝓜.mem 𝓡.returns in
    proved 𝓛 E stays said 𝓜 𝓡 tt (#self sort) body (code.unfolded 𝓤 𝓛.H 𝓜 𝓡 wired (T, tt))
    (λ κs. tt) (λ κs. tt) (λ κs qs bounds args pick are.
    -- the struct that the body makes: its marker, and no field of bytes
    let made : Val = vstruct (vcons (vstruct vnil) vnil) in
    let answer : denote.Triple.Entry.Res E.signature κs = record { marker = record {}; value = pick } in
    let owned : Fml = (type_at E.signature.result κs).own_val answer (made ∷ []) in
    let start : (walk_of 𝓛 E stays said).Ghost = ((κs, qs, bounds, args, tt), pick) in
    qed 𝓛 ((raw (alive 𝓛 E.signature κs qs) ⊛ ‵ (owns (types_at E.signature.params κs) args tt)) ∷ raw ((said κs args).requires pick) ∷ []) ∵ split ! $ keep !
    (0 ∷ []) $
    enter ! run.C run.Λ body [] _ $ alloc_all ! (λ l. pass_all ! refl tt $
    sets ! (agg ! (no_more !)) refl (tt, tt) $ sets ! (agg ! (and_then ! (get ! refl) (no_more !))) refl (tt, (tt, tt)) $
    returns ! (look_at ! 0 refl) $ free_all ! refl $
    use0 𝓛 (‵ owned) (makes_shadow 𝓛 owned ((λ vss. (tt, ((λ uss. (tt, tt)), tt))), tt) (((vstruct vnil ∷ [], tt), (refl, ((tt, (refl, tt)), tt))), tt)) $
    suffices ! _ (ends_at 𝓛 E stays said start made answer tt tt) $ says ! refl $
    nothing ! $ join ! $ move ! (1 ∷ 0 ∷ []) $ join ! $ done !))
