use Rattle.std.proofs.Common.{◌≡◌}
use Rattle.profile.specs.Texts.{text}
use Rattle.profile.proofs.ReadAgain.{all_fit, read_again, written}
use Rattle.profile.proofs.Written.{whole_text}
use Rattle.profile.proofs.writing.write.Goals as goal

spelled : (c : goal.In_ok-extend_from_slice-2) → c.extend_from_slice-2.new.self.items ≡ text c.in_ok-write_names.ensures.lines.lines
spelled c =
    let a = c.in_ok-write_names.ensures.lines in
    whole_text a.lines c.new-out.result.items c.extend_from_slice.new.self.items c.write_names.new.out.items c.extend_from_slice-2.new.self.items
    c.new-out.ensures.items c.in_ok-extend_from_slice.ensures.items a.adds c.in_ok-extend_from_slice-2.ensures.items

pub returns-clause-text : goal.returns-clause-text
returns-clause-text c =
    let a = c.in_ok-write_names.ensures.lines in
    written c.names.result.now.entries a.lines a.of a.adds.are c.extend_from_slice-2.new.self.items (spelled c) c.args.p.now c.names.ensures

pub returns-clause-read : goal.returns-clause-read
returns-clause-read c q r =
    let h = c.in_ok-write_names.ensures in
    let a = h.lines in
    read_again c.names.result.now.entries a.lines a.of a.adds.are c.extend_from_slice-2.new.self.items (spelled c) a.once h.names c.args.p.now q c.names.ensures
    r

pub returns-clause-fits : goal.returns-clause-fits
returns-clause-fits c n d =
    let a = c.in_ok-write_names.ensures.lines in
    all_fit a.lines a.adds.are c.extend_from_slice-2.new.self.items n (spelled c) d
