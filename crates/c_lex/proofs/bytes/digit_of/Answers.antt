use Rattle.std.proofs.Common.{◌≤◌, arith, sym, ◌∙◌}
use Rattle.c_lex.specs.declared.phase.Class.TheVariants as class
use Rattle.c_lex.proofs.ByteLemmas.{byte_of}
use Rattle.c_lex.proofs.bytes.digit_of.Goals as goal

pub overflow_sub-value : goal.overflow_sub-value
overflow_sub-value c = let k : 49 ≤ c.args.c = byte_of c.args.c class.Digit (sym c.class_of.ensures ∙ c.in-Digit.is) in omega (arith, k)
