use Rattle.std.proofs.Common.{◌≡◌, ◌∙◌, ◌++◌, arith}
use Rattle.std.specs.Fmt.{decimal}
use Rattle.clone_names.proofs.Names.{numbered}
use Rattle.clone_names.proofs.made.numbered_name.Goals as goal

pub new-requires : goal.new-requires
new-requires c =
    let digits : c.as_bytes.result.now ≡ decimal c.args.number = c.as_bytes.ensures.value ∙ c.format.ensures.text in
    let whole : c.as_slice.result.now ≡ c.push.new.self.items ++ c.as_bytes.result.now = c.as_slice.ensures.value ∙ c.in_ok-extend_from_slice.ensures.items in
    numbered c.args.name.now _ _ _ _ c.args.number c.requires (omega (arith, c.ranges.number.fits))
    c.in_ok-bytes.ensures.items c.in_ok-push.ensures.items digits whole
