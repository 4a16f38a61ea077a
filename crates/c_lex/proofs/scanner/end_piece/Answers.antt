use Rattle.std.proofs.Common.{sym, ◌∙◌}
use Rattle.c_lex.proofs.ReaderLemmas.{piece_of}
use Rattle.c_lex.proofs.scanner.end_piece.Goals as goal

pub emit-requires-clause-piece : goal.emit-requires-clause-piece
emit-requires-clause-piece c = piece_of c.args.r.context c.args.read.now c.args.r.phase c.in-Ok.x c.requires.leads (sym c.close.ensures ∙ c.in-Ok.is)
