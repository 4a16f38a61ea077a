use Rattle.il_laws.proofs.CloneRows as rows
use Rattle.il_laws.proofs.cloning.clone_is_right.Goals as goal

pub returns-clause-right : goal.returns-clause-right
returns-clause-right c = rows.clone_is_right

pub returns-clause-stays : goal.returns-clause-stays
returns-clause-stays c = rows.row_stays
