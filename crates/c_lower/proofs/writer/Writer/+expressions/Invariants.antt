use Rattle.std.proofs.Common.{◌≡◌, ◌++◌, map, drop}
use Rattle.c_typed.specs.Views.{arguments_from, expr_of}
use Rattle.lower_laws.specs.Expressions as laws
use Rattle.c_lower.specs.Expressions as specs
use Rattle.c_lower.specs.Settings.{fixed_of}
use Rattle.c_lower.proofs.writer.Writer.+expressions.Given as goal

abbrev pub invariant-arguments-loop-e : goal.invariant-arguments-loop-e
invariant-arguments-loop-e l =
    let left = arguments_from (map expr_of (drop l.e-index l.es)) in
    let all = arguments_from (map expr_of l.es) in
    let old = l.fn.self in
    record {
      registers : l.registers.items ++ laws.results left l.self.numbers ≡ laws.results all old.numbers;
      numbers : laws.arguments_past left l.self.numbers ≡ laws.arguments_past all old.numbers;
      draft : specs.arguments (fixed_of l.c) left l.self.numbers l.self.draft ≡ specs.arguments (fixed_of l.c) all old.numbers old.draft;
    }
