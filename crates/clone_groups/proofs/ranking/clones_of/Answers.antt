use Rattle.std.proofs.Common.{◌∙◌}
use Rattle.clone_groups.proofs.Clones.{no_clones}
use Rattle.clone_groups.proofs.ranking.clones_of.Goals as goal

pub note_clones-requires : goal.note_clones-requires
note_clones-requires c = c.as_mut_slice.ensures.value ∙ c.in_ok-clones.ensures ∙ no_clones c.args.groups.now.entries c.len.result c.len.ensures.len
