use Rattle.c_module.proofs.Modules.{holds_module}
use Rattle.c_module.proofs.typing.read_module.Goals as goal

pub returns-in-Ok-clause-ok : goal.returns-in-Ok-clause-ok
returns-in-Ok-clause-ok g c = holds_module _ c.in_ok-tokens.tokens.items c.as_slice.result.now c.in-Ok.module c.in_ok-tokens.ensures.ok
    c.as_slice.ensures.value c.in-Ok.ensures.answers
