use Rattle.std.proofs.Common.{◌≡◌, ℕ, ◌*◌, ◌/◌, List, Bool, replicate, rules, sym, ap, ◌∙◌, arith, subst, false}
use Rattle.tag_mem.specs.Areas.{Area, IsArea}
use Rattle.tag_mem.specs.Granules.{area_of}
use Rattle.tag_mem.specs.Regions.{fresh_area}
use Rattle.tag_mem.proofs.Granules.{zero_granules}
use Rattle.tag_mem.proofs.Fresh.{IsArea-fresh}
use Rattle.tag_mem.proofs.area.Area.zeroed.Goals as goal

is_fresh : (c : goal.In_ok-tags) →
    area_of c.args.region.base c.resize.new.self.items c.in_ok-tags.tags ≡ fresh_area c.args.region
is_fresh c =
    let count : ℕ = c.args.region.length / 16 in
    let all : c.resize.new.self.items ≡ replicate count (replicate 16 0) = search rules in
    let tags : c.in_ok-tags.tags ≡ replicate count false = search rules in
    let size : 16 * count ≡ c.args.region.length = omega (arith, c.requires.length) in
    ap (λ (gs : List (List ℕ)). area_of c.args.region.base gs c.in_ok-tags.tags) all
    ∙ ap (λ (ts : List Bool). area_of c.args.region.base (replicate count (replicate 16 0)) ts) tags
    ∙ ap (λ (bs : List ℕ). record { base = c.args.region.base; bytes = bs; tags = replicate count false })
    (zero_granules count ∙ ap (λ (n : ℕ). replicate n 0) size)

pub invariant_of-result : goal.invariant_of-result
invariant_of-result c = subst (λ (a : Area). IsArea a) (sym (is_fresh c)) (IsArea-fresh c.args.region c.requires)

pub returns : goal.returns
returns c = is_fresh c
