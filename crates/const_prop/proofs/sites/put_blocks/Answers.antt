use Rattle.std.proofs.Common.{◌≡◌, ◌∙◌, ◌++◌, List, ℕ, sym, subst, length}
use Rattle.std.specs.List.{AllByRecursion}
use Rattle.il_core.specs.declared.instr.Instr.{Instr}
use Rattle.il_laws.specs.Facts.{through}
use Rattle.il_laws.specs.Known.{known_in}
use Rattle.const_prop.specs.Sites.{words_of}
use Rattle.const_prop.specs.Tables.{NamesRegisters, Has, facts_in}
use Rattle.list_laws.proofs.Elements.{drop_read}
use Rattle.const_prop.proofs.BlockSteps.{named_block}
use Rattle.const_prop.proofs.SiteSteps.{words_in, put_next, put_all}
use Rattle.const_prop.proofs.sites.put_blocks.Goals as goal

pub put_sites-requires : goal.put_sites-requires
put_sites-requires c =
    let here = drop_read c.args.blocks.now c.loop-b.b c.index-blocks-b.result c.loop-b-test.true c.index-blocks-b.is in
    let size = c.enter.ensures.size ∙ c.loop-b.invariant.size in
    subst (AllByRecursion (NamesRegisters (length c.enter.new.table))) (sym c.as_slice.ensures)
    (subst (λ (n : ℕ). AllByRecursion (NamesRegisters n) c.index-blocks-b.result.instrs) (sym size)
    (named_block c.args.flow.now.regs c.args.blocks.now c.loop-b.b c.index-blocks-b.result c.requires.named here))

pub loop-b-preserved : goal.loop-b-preserved
loop-b-preserved c =
    let sites : words_of c.put_sites.new.known ≡ words_of c.loop-b.known ++ words_in (known_in (facts_in c.enter.new.table) c.as_slice.result.now) =
    c.in_ok-put_sites.ensures.sites in
    let facts : Has (length c.enter.new.table) c.put_sites.new.table (through c.as_slice.result.now (facts_in c.enter.new.table)) =
    c.in_ok-put_sites.ensures.facts in
    put_next c.args.flow.now.regs c.args.flow.now.params c.args.blocks.now c.args.known.now c.loop-b.b c.index-blocks-b.result c.loop-b.flow c.enter.new.self
    c.leave.new.self
    c.loop-b.table c.enter.new.table c.put_sites.new.table c.loop-b.known c.put_sites.new.known c.requires.named c.loop-b-test.true c.index-blocks-b.is
    c.loop-b.invariant
    c.enter.ensures.size c.enter.ensures.starts c.enter.ensures.flow
    (subst (λ (is : List Instr). words_of c.put_sites.new.known ≡ words_of c.loop-b.known ++ words_in (known_in (facts_in c.enter.new.table) is))
    c.as_slice.ensures sites)
    (subst (λ (is : List Instr). Has (length c.enter.new.table) c.put_sites.new.table (through is (facts_in c.enter.new.table))) c.as_slice.ensures facts)
    c.in_ok-leave.ensures

pub returns : goal.returns
returns c =
    put_all c.args.flow.now.regs c.args.flow.now.params c.args.blocks.now c.args.known.now c.loop-b.b c.loop-b.flow c.loop-b.table c.loop-b.known
    c.loop-b-test.false c.loop-b.invariant
