use Rattle.std.proofs.Common.{◌≡◌, ◌+◌, ◌≤◌, ◌∙◌, map, length, sym, ap, arith, subst}
use Rattle.obj_mem.specs.Needs.{global_need, literal_need}
use Rattle.bounds_place.specs.Parts.{IsTable, HasParts}
use Rattle.bounds_place.proofs.Entries.{few}
use Rattle.bounds_place.proofs.Legal.{data_law, placed_law, within_law}
use Rattle.bounds_place.proofs.placing.place.Goals as goal

pub data_of-requires-clause-positive : goal.data_of-requires-clause-positive
data_of-requires-clause-positive c =
    let p = c.args.p.now in
    let xs = c.deref-3.ensures.value ∙ c.in_ok-globals.ensures in
    let ys = c.deref-4.ensures.value ∙ c.in_ok-literals.ensures in
    data_law (map (global_need p.types) p.globals)
    (map literal_need p.literals) c.deref-3.result.now c.deref-4.result.now xs ys
    (within_law p c.deref-3.result.now c.deref-4.result.now xs ys (sym c.exceeds.ensures ∙ c.if-exceeds.false))

-- the entries of functions are distinct multiples of 4 in a text of at most 2^30 bytes
pub data_of-requires-clause-few : goal.data_of-requires-clause-few
data_of-requires-clause-few c =
    let funs : length c.as_slice-functions.result.now ≡ length c.args.p.now.funs =
    ap length c.as_slice-functions.ensures in
    let one_each = c.requires.entries in
    omega (arith, funs, one_each, few c.args.entries.now.items c.args.text c.requires.offsets c.requires.most)

pub returns-clause-placed : goal.returns-clause-placed
returns-clause-placed c =
    let p = c.args.p.now in
    let xs = c.deref-3.ensures.value ∙ c.in_ok-globals.ensures in
    let ys = c.deref-4.ensures.value ∙ c.in_ok-literals.ensures in
    let made = c.in_ok-made.made in
    let m = c.in_ok-map_of.field-0 in
    let funs : length c.as_slice-functions.result.now ≡ length p.funs = ap length c.as_slice-functions.ensures in
    let parts =
    subst (λ v. HasParts made.table made.globals.items made.literals.items v c.args.entries.now.items c.args.text
    c.args.sizes m) c.deref-5.ensures.value
    (subst (λ v. HasParts made.table made.globals.items made.literals.items c.deref-5.result.now v c.args.text
    c.args.sizes m) c.deref-6.ensures.value c.in_ok-map_of.ensures) in
    let table = subst (λ v. IsTable (length c.deref-3.result.now + length c.deref-4.result.now + v + 2) made.table) funs
    c.in_ok-made.ensures.table in
    let one_each = c.requires.entries in
    let few_funs : length p.funs ≤ 268435456 =
    omega (arith, one_each, few c.args.entries.now.items c.args.text c.requires.offsets c.requires.most) in
    placed_law p c.args.frames.now.items c.args.entries.now.items c.args.text made.table c.args.sizes m
    c.deref-3.result.now c.deref-4.result.now made.globals.items made.literals.items
    xs ys c.in_ok-made.ensures.globals c.in_ok-made.ensures.literals parts table few_funs
    (within_law p c.deref-3.result.now c.deref-4.result.now xs ys (sym c.exceeds.ensures ∙ c.if-exceeds.false))
    c.requires.entries c.requires.offsets c.requires.owned c.requires.most c.requires.sizes
