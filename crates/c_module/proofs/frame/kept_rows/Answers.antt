use Rattle.std.proofs.Common.{◌∙◌, ap, sym}
use Rattle.c_module.specs.Frames as specs
use Rattle.c_module.proofs.Framed.{kept_step, marks_more, objects_more}
use Rattle.c_module.proofs.frame.kept_rows.Goals as goal

pub loop-row-preserved : goal.loop-row-preserved
loop-row-preserved c =
    let known = c.loop-row.invariant in
    let row = c.in-Some.row in
    record {
      kept = kept_step c.args.table.now c.args.objects.now c.loop-row.yielded row c.loop-row.kept.items c.push_if.new.kept.items c.loop-row.others.now
          c.loop-row.left.now
          c.first_mark.result c.has_object.result known.kept known.others known.left c.first_mark.ensures c.has_object.ensures c.in_ok-push_if.ensures;
      others = c.other_marks-others.ensures ∙ ap specs.other_marks known.others ∙ sym (marks_more c.args.table.now c.loop-row.yielded row);
      left = c.other_objects-left.ensures ∙ ap (λ l. specs.other_objects l row.pid) known.left
          ∙ sym (objects_more c.args.objects.now c.loop-row.yielded row);
    }
