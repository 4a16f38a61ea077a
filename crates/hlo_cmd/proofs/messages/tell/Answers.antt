use Rattle.std.proofs.Common.{sym, ap, ◌∙◌}
use Rattle.hlo_cmd.specs.Messages.{refusal_line, unfit_line, unread_line}
use Rattle.hlo_cmd.proofs.Fronts.{says}
use Rattle.hlo_cmd.proofs.messages.tell.Goals as goal

pub returns-in-CannotRead : goal.returns-in-CannotRead
returns-in-CannotRead g c = says _ _ _ _ _ _ _ (ap unread_line c.as_bytes-in-CannotRead.ensures.value
    ∙ ap (refusal_line c.args.syms.now) (sym c.in-CannotRead.is)) c.write_three.ensures.bytes c.write_three.ensures.cause

pub returns-in-CannotWrite : goal.returns-in-CannotWrite
returns-in-CannotWrite g c = says _ _ _ _ _ _ _
    (ap (refusal_line c.args.syms.now) (sym c.in-CannotWrite.is)) c.write_all-in-CannotWrite.ensures.bytes c.write_all-in-CannotWrite.ensures.cause

pub returns-in-CannotReadInput : goal.returns-in-CannotReadInput
returns-in-CannotReadInput g c = says _ _ _ _ _ _ _
    (ap (refusal_line c.args.syms.now)
    (sym c.in-CannotReadInput.is)) c.write_all-in-CannotReadInput.ensures.bytes c.write_all-in-CannotReadInput.ensures.cause

pub returns-in-Memory : goal.returns-in-Memory
returns-in-Memory g c = says _ _ _ _ _ _ _
    (ap (refusal_line c.args.syms.now) (sym c.in-Memory.is)) c.write_all-in-Memory.ensures.bytes c.write_all-in-Memory.ensures.cause

pub returns-in-Profile : goal.returns-in-Profile
returns-in-Profile g c = says _ _ _ _ _ _ _
    (ap (refusal_line c.args.syms.now) (sym c.in-Profile.is)) c.write_number.ensures.bytes c.write_number.ensures.cause

pub returns-in-Repository : goal.returns-in-Repository
returns-in-Repository g c = says _ _ _ _ _ _ _
    (ap (refusal_line c.args.syms.now) (sym c.in-Repository.is)) c.write_all-in-Repository.ensures.bytes c.write_all-in-Repository.ensures.cause

pub returns-in-Damaged : goal.returns-in-Damaged
returns-in-Damaged g c = says _ _ _ _ _ _ _
    (ap (refusal_line c.args.syms.now) (sym c.in-Damaged.is)) c.write_damage.ensures.bytes c.write_damage.ensures.cause

pub returns-in-Unreadable : goal.returns-in-Unreadable
returns-in-Unreadable g c = says _ _ _ _ _ _ _
    (ap (refusal_line c.args.syms.now) (sym c.in-Unreadable.is)) c.write_counts.ensures.bytes c.write_counts.ensures.cause

pub returns-in-Unfit : goal.returns-in-Unfit
returns-in-Unfit g c = says _ _ _ _ _ _ _
    (ap unfit_line c.from.ensures ∙ ap (refusal_line c.args.syms.now) (sym c.in-Unfit.is)) c.write_counts-in-Unfit.ensures.bytes
    c.write_counts-in-Unfit.ensures.cause

pub returns-in-TooSmall : goal.returns-in-TooSmall
returns-in-TooSmall g c = says _ _ _ _ _ _ _
    (ap (refusal_line c.args.syms.now) (sym c.in-TooSmall.is)) c.write_small.ensures.bytes c.write_small.ensures.cause
