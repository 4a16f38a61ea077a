use Rattle.profile.specs.Counts.{counts_of}
use Rattle.c_module.proofs.Taken.{none_taken}
use Rattle.c_module.proofs.lowering.lowered_module.Goals as goal

pub take_module-requires : goal.take_module-requires
take_module-requires g c = record {
  taken = none_taken (counts_of c.args.p.now) c.new-routines.result.items c.args.syms.now c.requires.names c.new-routines.ensures.items;
  takes = tt;
}
