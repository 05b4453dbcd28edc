use Rattle.std.proofs.Common.{ℕ, ◌*◌, ◌<◌, ◌/◌, ◌%◌, ◌^◌, List, Bool, cond, get_or, set, length}
use Rattle.std.proofs.Common.{ap, ◌∙◌, arith}
use Rattle.std.specs.Prelude.{bit_and, bit_or}
use Rattle.std.specs.Int.{bit_not, w64}
use Rattle.std.proofs.lemmas.List.{get_or_default}
use Rattle.tag_mem.proofs.Bits.{long, set-is, changed}
use Rattle.tag_mem.proofs.tags.Tags.set.Goals as goal

pub index-requires : goal.index-requires
index-requires c = omega (arith, long c.self.inside.words.items c.self.inside.count c.args.self.now c.self.view_is)

pub index_mut-requires : goal.index_mut-requires
index_mut-requires c = omega (arith, long c.self.inside.words.items c.self.inside.count c.args.self.now c.self.view_is)

pub returns : goal.returns
returns c =
    let place : c.args.i / 64 < length c.self.inside.words.items =
    omega (arith, long c.self.inside.words.items c.self.inside.count c.args.self.now c.self.view_is) in
    let is = c.index.ensures ∙ get_or_default c.self.inside.words.items (c.args.i / 64) c.index.result.now 0 place in
    let i : ℕ = c.args.i in
    let lt : i < c.self.inside.count =
    omega (arith, long c.self.inside.words.items c.self.inside.count c.args.self.now c.self.view_is) in
    let e = c.with_bit-word.ensures
    ∙ ap (λ (x : ℕ). cond c.args.tag (bit_or x (1 * 2 ^ (i % 64) % 2 ^ 64))
    (bit_and x (bit_not w64 (1 * 2 ^ (i % 64) % 2 ^ 64)))) is in
    let w = changed (get_or c.self.inside.words.items (i / 64) 0) (i % 64) c.args.tag c.with_bit-word.result
    (omega arith) e in
    set-is c.self.inside.words.items c.self.inside.count i c.with_bit-word.result c.args.tag lt c.self.invariant w.0 w.1
    ∙ ap (λ (xs : List Bool). set xs i c.args.tag) c.self.view_is
