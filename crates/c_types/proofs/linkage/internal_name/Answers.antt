use Rattle.std.proofs.Common.{◌≡◌, ◌∙◌, ◌++◌, arith, subst}
use Rattle.std.specs.Fmt.{decimal}
use Rattle.hlo_num.specs.Name.{IsName}
use Rattle.c_types.proofs.ProgramNames.{numbered}
use Rattle.c_types.proofs.linkage.internal_name.Goals as goal

pub new-requires : goal.new-requires
new-requires c =
    let name : c.in_ok-bytes.bytes.items ≡ c.args.name.now = c.in_ok-bytes.ensures.items ∙ c.bytes.ensures.value in
    let digits : c.as_bytes.result.now ≡ decimal c.args.number = c.as_bytes.ensures.value ∙ c.format.ensures.text in
    let whole : c.as_slice.result.now ≡ c.push.new.self.items ++ c.as_bytes.result.now = c.as_slice.ensures.value ∙ c.in_ok-extend_from_slice.ensures.items in
    numbered c.args.name.now _ _ _ _ c.args.number (subst IsName c.bytes.ensures.value c.bytes.ensures.named) (omega (arith, c.ranges.number.fits)) name
    c.in_ok-push.ensures.items digits whole
