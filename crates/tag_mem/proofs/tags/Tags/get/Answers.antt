use Rattle.std.specs.Prelude.{bit_and}
use Rattle.std.proofs.Common.{ℕ, ◌<◌, ◌/◌, ◌%◌, ◌^◌, List, Bool, false, get_or, length, eqb, sym, ap, ◌∙◌, arith}
use Rattle.std.proofs.lemmas.Nat.Bits.{shr_and_one}
use Rattle.std.proofs.lemmas.List.{get_or_default}
use Rattle.tag_mem.proofs.Bits.{long, get_or-unpacked}
use Rattle.tag_mem.proofs.tags.Tags.get.Goals as goal

pub index-requires : goal.index-requires
index-requires c = omega (arith, long c.self.inside.words.items c.self.inside.count c.args.self.now c.self.view_is)

pub returns : goal.returns
returns c =
    let place : c.args.i / 64 < length c.self.inside.words.items =
    omega (arith, long c.self.inside.words.items c.self.inside.count c.args.self.now c.self.view_is) in
    let is = c.index.ensures ∙ get_or_default c.self.inside.words.items (c.args.i / 64) c.index.result.now 0 place in
    let lt : c.args.i < c.self.inside.count =
    omega (arith, long c.self.inside.words.items c.self.inside.count c.args.self.now c.self.view_is) in
    sym (ap (λ (xs : List Bool). get_or xs c.args.i false) (sym c.self.view_is)
    ∙ get_or-unpacked c.self.inside.words.items c.self.inside.count c.args.i lt
    ∙ sym (ap (λ (x : ℕ). eqb (bit_and (x / 2 ^ (c.args.i % 64)) 1) 1) is
    ∙ ap (λ (x : ℕ). eqb x 1) (shr_and_one (get_or c.self.inside.words.items (c.args.i / 64) 0) (c.args.i % 64))))
