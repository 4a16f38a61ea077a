use Rattle.std.proofs.Common.{arith}
use Rattle.clone_names.proofs.Roots.{clones_few}
use Rattle.clone_names.proofs.made.MadeClones.name.Goals as goal

pub overflow_add-number : goal.overflow_add-number
overflow_add-number c =
    let few = clones_few c.args.self.now.made c.root_of-root.result in
    omega (arith, few, c.count-number.ensures, c.requires)
