use Rattle.std.proofs.Common.{ℕ, List, ◌∷◌, [], subst, sym}
use Rattle.std.specs.List.Sorted.{IsPermutation, IsNonDecreasingBy}
use Rattle.std.proofs.lemmas.Result.{IfOk-weaker}
use Rattle.profile.specs.Texts.{Entry}
use Rattle.profile.specs.Writing.{Adds, AddsName, site_lines}
use Rattle.profile.proofs.Written.{adds_line, adds_name}
use Rattle.profile.proofs.writing.write_name.Goals as goal

pub returns : goal.returns
returns c =
    let name = c.args.name.now in
    let tally = c.args.tally.now in
    let old = c.args.out.now.items in
    let mid = c.write_entry.new.out.items in
    let new = c.write_sites.new.out.items in
    let entry = subst (λ (n : ℕ). Adds (Entry name n ∷ []) old mid) c.entry.ensures
    (adds_line (Entry name c.entry.result) old mid c.in_ok-write_entry.ensures.line c.in_ok-write_entry.ensures.bytes) in
    let same = sym c.as_slice.ensures.value in
    let each = subst (λ (ss : List (ℕ × ℕ)). IsPermutation tally.sites ss) same c.in_ok-sites.ensures.each in
    let rising = subst (λ (ss : List (ℕ × ℕ)). IsNonDecreasingBy (λ s. s.0) ss) same c.in_ok-sites.ensures.rising in
    IfOk-weaker c.write_sites.result (λ x. Adds (site_lines name c.as_slice.result.now) mid new) (λ x. AddsName name tally old new)
    (λ x h. adds_name name tally c.as_slice.result.now old mid new each rising c.sites_by_number.ensures.distinct entry h) c.write_sites.ensures
