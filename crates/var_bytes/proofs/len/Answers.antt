use Rattle.std.proofs.Common.{sym}
use Rattle.var_bytes.proofs.Numbers.{one_byte, two_bytes, three_bytes, four_bytes, five_bytes}
use Rattle.var_bytes.proofs.len.Goals as goal

pub returns-then-n-lt128 : goal.returns-then-n-lt128
returns-then-n-lt128 c = λ bytes h. sym (one_byte c.args.n bytes c.if-n-lt128.true h)

pub returns-then-n-lt16384 : goal.returns-then-n-lt16384
returns-then-n-lt16384 c = λ bytes h. sym (two_bytes c.args.n bytes c.if-n-lt128.false c.if-n-lt16384.true h)

pub returns-then-n-lt2097152 : goal.returns-then-n-lt2097152
returns-then-n-lt2097152 c = λ bytes h. sym (three_bytes c.args.n bytes c.if-n-lt16384.false c.if-n-lt2097152.true h)

pub returns-then-n-lt268435456 : goal.returns-then-n-lt268435456
returns-then-n-lt268435456 c = λ bytes h. sym (four_bytes c.args.n bytes c.if-n-lt2097152.false c.if-n-lt268435456.true h)

pub returns-else-n-lt268435456 : goal.returns-else-n-lt268435456
returns-else-n-lt268435456 c = λ bytes h. sym (five_bytes c.args.n bytes c.if-n-lt268435456.false c.ranges.n.fits h)
