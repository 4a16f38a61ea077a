-- How a program ended: its word as it is written, and its status.
use Rattle.std.proofs.Common.{◌≡◌, ℕ, ◌<◌, ◌+◌, ◌-◌, ◌^◌, false, [], ◌∷◌, ◌++◌, refl, sym, ◌∙◌, ap, arith, nat_lt}
use Rattle.std.specs.Prelude.{codes, decimal, if◌then◌else◌}
use Rattle.std.proofs.lemmas.Bool.{le-ltb}
use Rattle.il_core.specs.World as world
use Rattle.il_run.specs.declared.ending.Ending.{Ending}
use Rattle.il_run.specs.declared.ending.Ending.TheVariants.{Exit, Trapped, OutOfTurns}
use Rattle.il_run.specs.Machine.{ending_of}
use Rattle.hlo_cmd.specs.Messages.{ending_status, signed_decimal}

-- a word of at least 2^31, as it is written
pub negative_exit : (w : ℕ) → 2147483647 < w → w < 2 ^ 32
    → codes "hlo: exit -" ++ (decimal (4294967295 - w + 1) ++ 10 ∷ []) ≡ codes "hlo: exit " ++ (signed_decimal w ++ 10 ∷ [])
negative_exit w low high =
    let same : 4294967295 - w + 1 ≡ 2 ^ 32 - w = omega arith in
    let other : nat_lt w (2 ^ 31) ≡ false = le-ltb w (2 ^ 31) (omega arith) in
    ap (λ n. codes "hlo: exit -" ++ (decimal n ++ 10 ∷ [])) same
    ∙ ap (λ b. codes "hlo: exit " ++ ((if b then decimal w else 45 ∷ decimal (2 ^ 32 - w)) ++ 10 ∷ [])) (sym other)

-- the status goes by the ending as the meaning has it
status_of : world.Ending → ℕ
status_of (world.Exit w) = 0
status_of (world.Trapped t) = 12
status_of world.OutOfTurns = 13

status_is : (e : Ending) → ending_status e ≡ status_of (ending_of e)
unfolding status_of
status_is (Exit w) = refl
status_is (Trapped t) = refl
status_is OutOfTurns = refl

pub same_status : (d e : Ending) → ending_of d ≡ ending_of e → ending_status d ≡ ending_status e
same_status d e same = status_is d ∙ ap status_of same ∙ sym (status_is e)
