use Rattle.hlo_cmd.proofs.Trainings.{puts}
use Rattle.hlo_cmd.proofs.training.put_profile.Goals as goal

pub returns-clause-put : goal.returns-clause-put
returns-clause-put g c =
    puts _ _ _ c.put.result _ _ _ c.put.ensures.bytes c.as_slice.ensures.value c.in-Ok-write.ensures.text c.in-Ok.ensures c.put.ensures.fault
