use Rattle.c_lex.proofs.NameBytes.{name_bytes}
use Rattle.c_lex.proofs.close.emit.Goals as goal

pub new-requires : goal.new-requires
new-requires c = name_bytes c.args.w c.args.x c.args.read.now c.requires.piece c.in-Name.is
