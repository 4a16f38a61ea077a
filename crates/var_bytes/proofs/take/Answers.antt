use Rattle.std.proofs.Common.{◌≡◌, ◌-◌, ◌≤◌, min, length, take, drop, arith, length-drop, sym, subst}
use Rattle.std.proofs.lemmas.List.{take_rest}
use Rattle.var_bytes.specs.Spelling.{IsSpelling}
use Rattle.var_bytes.proofs.Numbers.{in_five}
use Rattle.var_bytes.proofs.take.Goals as goal

pub returns-in_err-number-clause-none : goal.returns-in_err-number-clause-none
returns-in_err-number-clause-none c = rw c.from_residual.ensures (λ n end lt within (behind, h).
    let rest = drop c.args.at c.args.b.now in
    let len = length-drop c.args.at c.args.b.now in
    let five : c.min.result ≡ min (length rest) 5 = omega (arith, c.min.ensures, len) in
    let inside : end - c.args.at ≤ length rest = omega (arith, len) in
    c.in_err-number.ensures.none n (end - c.args.at) lt (rw take_rest
    (subst (λ m. IsSpelling n (take (end - c.args.at) (take m rest))) (sym five) (in_five n (end - c.args.at) rest lt inside h))))
