use Rattle.std.proofs.Common.{◌≡◌, ◌++◌, take}
use Rattle.std.specs.Prelude.{flat_map, string_bytes}
use Rattle.il_core.specs.Program.{name_at}
use Rattle.il_core.specs.Text.{line, object_parts}
use Rattle.il_text.proofs.head.write_objects.Given as goal

abbrev pub invariant-loop-object : goal.invariant-loop-object
invariant-loop-object l = string_bytes l.out ≡ string_bytes l.initial.out ++ flat_map (λ o. line (object_parts (name_at l.shapes o.pid) o))
    (take l.object-index l.objects)
