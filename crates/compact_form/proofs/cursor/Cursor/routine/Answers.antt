use Rattle.std.proofs.Common.{rules, ap, arith, length}
use Rattle.il_core.specs.Limits.{max_arrays}
use Rattle.compact_form.specs.Reading.{read_number}
use Rattle.compact_form.specs.Lists.{few}
use Rattle.compact_form.specs.Routines.{routine_sound}
use Rattle.compact_form.proofs.cursor.Cursor.routine.Goals as goal

pub has_few_elements-requires : goal.has_few_elements-requires
has_few_elements-requires c = omega (
  arith,
  ap length c.as_slice.ensures.value,
  few read_number max_arrays c.in_ok-length.length c.number.new.self.rest.now
      c.in_ok-arrays.arrays.items c.numbers.new.self.rest.now c.in_ok-arrays.ensures.found,
)

pub invariant_of-result : goal.invariant_of-result
invariant_of-result c = (routine_sound c.args.self.now.rest.now _ c.blocks-2.new.self.rest.now (search rules)).1.limits
