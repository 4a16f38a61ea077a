use Rattle.std.proofs.Common.{◌∷◌, [], ◌++◌, ap, ap₂, ◌∙◌}
use Rattle.std.specs.Prelude.{codes, decimal}
use Rattle.hlo_cmd.proofs.Fronts.{takes_line}
use Rattle.hlo_cmd.proofs.messages.write_damage.Goals as goal

pub returns-clause-bytes : goal.returns-clause-bytes
returns-clause-bytes g c =
    takes_line _ _ c.write_pieces.result _ _
    (ap (λ l. codes "hlo: repository damaged at " ++ (l ++ (codes ": kept " ++
    (c.digits-kept.result ++ (codes " found " ++ (c.digits-found.result ++ 10 ∷ []))))))
    (c.as_bytes.ensures.value ∙ c.format-number.ensures.text)
    ∙ ap₂ (λ k f. codes "hlo: repository damaged at " ++ (decimal c.args.place ++ (codes ": kept " ++ (k ++ (codes " found " ++ (f ++ 10 ∷ []))))))
    c.digits-kept.ensures c.digits-found.ensures)
    c.write_pieces.ensures.bytes
