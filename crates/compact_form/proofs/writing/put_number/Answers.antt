use Rattle.std.proofs.Common.{◌++◌, ◌∙◌, ap, arith}
use Rattle.std.proofs.lemmas.Result.{on_ok_weaker}
use Rattle.compact_form.specs.Spellings.{spelled_once}
use Rattle.compact_form.proofs.writing.put_number.Goals as goal

pub returns : goal.returns
returns c = on_ok_weaker c.put.result (λ a. a.appended ∙ ap (λ us. c.args.out.now.items ++ us) (spelled_once c.args.n a.bytes (omega arith) a.spelled))
    c.put.ensures.ok
