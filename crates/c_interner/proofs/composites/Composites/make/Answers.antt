use Rattle.std.proofs.Common.{◌≡◌, ℕ, ◌<◌, ◌≤◌, length, map, List, sym, ap, subst, ◌∙◌}
use Rattle.std.specs.Prelude.{All}
use Rattle.c_tree.specs.Types.{composite}
use Rattle.c_tree.specs.Views.{type_from}
use Rattle.c_type_levels.specs.declared.heads.Head.{Head}
use Rattle.c_type_levels.specs.Heads.{built, OfPart}
use Rattle.c_type_levels.specs.Levels.{parts_of, pair_composite}
use Rattle.c_interner.specs.Levels.{rank, RankBelow, AreBelow}
use Rattle.c_interner.specs.Known.{type_in, LastIsOpen}
use Rattle.c_interner.proofs.Pairing.{parts_are_below, parts_fall}
use Rattle.c_interner.proofs.Keeping.{adds_none, first_composite, new_composite, if_none}
use Rattle.c_interner.proofs.composites.Composites.make.Goals as goal

-- the parts of two types of the list are types of the list
parts_below : (n void x y : ℕ) (h g : Head) (ps qs : List ℕ) (parts items : List (ℕ × ℕ)) → void < n → x < n → y < n →
    OfPart (λ t. rank void t ≤ x) h → All (λ t. rank void t ≤ x) ps → OfPart (λ t. rank void t ≤ y) g →
    All (λ t. rank void t ≤ y) qs → parts ≡ items → items ≡ parts_of h ps g qs → AreBelow n parts
parts_below n void x y h g ps qs parts items v a b hp ha gp ga e f =
    subst (λ (rs : List (ℕ × ℕ)). AreBelow n rs) (sym (e ∙ f))
    (parts_are_below n void x y h ps g qs v a b hp ha gp ga)

pub returns-in_default-clause-last : goal.returns-in_default-clause-last
returns-in_default-clause-last c =
    let void = c.args.self.now.void in
    let n = rank void c.args.pair.0 in
    let types = c.args.p.now.types in
    let a : type_in types c.args.pair.0 ≡ built c.in_ok-c.c.head c.in_ok-c.c.params.items (type_in types) =
    rw c.as_slice.ensures at c.in_ok-c.ensures.is in
    let fall : RankBelow void n c.as_slice-3.result.now =
    subst (λ (qs : List (ℕ × ℕ)). RankBelow void n qs) (sym (c.as_slice-3.ensures.value ∙ c.in_ok-parts.ensures))
    (parts_fall types void c.args.pair.0 c.args.pair.1 c.in_ok-c.c.head c.in_ok-c.c.params.items c.in_ok-d.d.head
    c.in_ok-d.d.params.items c.requires.known.void a c.in_ok-c.ensures.part c.in_ok-c.ensures.params
    c.in_ok-d.ensures.part c.in_ok-d.ensures.params) in
    if_none c.in_ok-made.field-0 ((v m : ℕ) → RankBelow v m c.as_slice-3.result.now →
    LastIsOpen c.args.self.now.known.entries v m c.look_all.new.waiting.items) c.in_default.not-Some
    c.in_ok-made.ensures.last void n fall

pub returns-in_default-clause-waiting : goal.returns-in_default-clause-waiting
returns-in_default-clause-waiting c =
    let n = length c.args.p.now.types in
    c.in_ok-made.ensures.waiting n
    (parts_below n c.args.self.now.void c.args.pair.0 c.args.pair.1 c.in_ok-c.c.head c.in_ok-d.d.head
    c.in_ok-c.c.params.items c.in_ok-d.d.params.items c.as_slice-3.result.now c.in_ok-parts.parts.items
    c.requires.known.there
    c.requires.first c.requires.second c.in_ok-c.ensures.part c.in_ok-c.ensures.params c.in_ok-d.ensures.part
    c.in_ok-d.ensures.params c.as_slice-3.ensures.value c.in_ok-parts.ensures)
    c.requires.waiting

pub returns-in-None-clause-waiting : goal.returns-in-None-clause-waiting
returns-in-None-clause-waiting c =
    let n = length c.args.p.now.types in
    c.in_ok-made.ensures.waiting n
    (parts_below n c.args.self.now.void c.args.pair.0 c.args.pair.1 c.in_ok-c.c.head c.in_ok-d.d.head
    c.in_ok-c.c.params.items c.in_ok-d.d.params.items c.as_slice-3.result.now c.in_ok-parts.parts.items
    c.requires.known.there
    c.requires.first c.requires.second c.in_ok-c.ensures.part c.in_ok-c.ensures.params c.in_ok-d.ensures.part
    c.in_ok-d.ensures.params c.as_slice-3.ensures.value c.in_ok-parts.ensures)
    c.requires.waiting

pub returns-clause-waiting : goal.returns-clause-waiting
returns-clause-waiting c =
    let n = length c.args.p.now.types in
    c.in_ok-made.ensures.waiting n
    (parts_below n c.args.self.now.void c.args.pair.0 c.args.pair.1 c.in_ok-c.c.head c.in_ok-d.d.head
    c.in_ok-c.c.params.items c.in_ok-d.d.params.items c.as_slice-3.result.now c.in_ok-parts.parts.items
    c.requires.known.there
    c.requires.first c.requires.second c.in_ok-c.ensures.part c.in_ok-c.ensures.params c.in_ok-d.ensures.part
    c.in_ok-d.ensures.params c.as_slice-3.ensures.value c.in_ok-parts.ensures)
    c.requires.waiting

pub returns-in-None-clause-is : goal.returns-in-None-clause-is
returns-in-None-clause-is c =
    let types = c.args.p.now.types in
    let n = length types in
    let go = type_in types in
    let h = c.in_ok-c.c.head in
    let ps = c.in_ok-c.c.params.items in
    let g = c.in_ok-d.d.head in
    let qs = c.in_ok-d.d.params.items in
    let a : go c.args.pair.0 ≡ built h ps go = rw c.as_slice.ensures at c.in_ok-c.ensures.is in
    let b : go c.args.pair.1 ≡ built g qs go = rw c.as_slice-2.ensures at c.in_ok-d.ensures.is in
    let below =
    parts_below n c.args.self.now.void c.args.pair.0 c.args.pair.1 h g ps qs c.as_slice-3.result.now
    c.in_ok-parts.parts.items c.requires.known.there c.requires.first c.requires.second c.in_ok-c.ensures.part
    c.in_ok-c.ensures.params
    c.in_ok-d.ensures.part c.in_ok-d.ensures.params c.as_slice-3.ensures.value c.in_ok-parts.ensures in
    let names = (rw c.in-Some.is at c.in_ok-made.ensures.known) types c.requires.known below in
    let made : map go c.as_slice-4.result.now ≡ map (pair_composite go) (parts_of h ps g qs) =
    ap (map go) c.as_slice-4.ensures.value ∙ names.are
    ∙ ap (map (pair_composite go)) (c.as_slice-3.ensures.value ∙ c.in_ok-parts.ensures) in
    let first : composite (built h ps go) (built g qs go) ≡ built h ps go =
    (rw c.in-None.is at c.in_ok-composed.ensures.is) go made in
    first_composite types c.args.pair h ps g qs c.requires.first c.requires.second a b first

pub returns-clause-is : goal.returns-clause-is
returns-clause-is c =
    let types = c.args.p.now.types in
    let n = length types in
    let go = type_in types in
    let h = c.in_ok-c.c.head in
    let ps = c.in_ok-c.c.params.items in
    let g = c.in_ok-d.d.head in
    let qs = c.in_ok-d.d.params.items in
    let a : go c.args.pair.0 ≡ built h ps go = rw c.as_slice.ensures at c.in_ok-c.ensures.is in
    let b : go c.args.pair.1 ≡ built g qs go = rw c.as_slice-2.ensures at c.in_ok-d.ensures.is in
    let below =
    parts_below n c.args.self.now.void c.args.pair.0 c.args.pair.1 h g ps qs c.as_slice-3.result.now
    c.in_ok-parts.parts.items c.requires.known.there c.requires.first c.requires.second c.in_ok-c.ensures.part
    c.in_ok-c.ensures.params
    c.in_ok-d.ensures.part c.in_ok-d.ensures.params c.as_slice-3.ensures.value c.in_ok-parts.ensures in
    let names = (rw c.in-Some.is at c.in_ok-made.ensures.known) types c.requires.known below in
    let made : map go c.as_slice-4.result.now ≡ map (pair_composite go) (parts_of h ps g qs) =
    ap (map go) c.as_slice-4.ensures.value ∙ names.are
    ∙ ap (map (pair_composite go)) (c.as_slice-3.ensures.value ∙ c.in_ok-parts.ensures) in
    let whole : type_from c.in-Some-2.t go ≡ composite (built h ps go) (built g qs go) =
    (rw c.in-Some-2.is at c.in_ok-composed.ensures.is) go made in
    new_composite c.args.p.now c.number_of.new.p c.args.pair c.in_ok-k-in-Some-2.k c.in-Some-2.t h ps g qs
    c.in_ok-k-in-Some-2.ensures.adds c.in_ok-k-in-Some-2.ensures.ok c.requires.first c.requires.second a b whole

pub returns-in_err-c-clause-adds : goal.returns-in_err-c-clause-adds
returns-in_err-c-clause-adds c = adds_none c.args.p.now

pub returns-in_err-d-clause-adds : goal.returns-in_err-d-clause-adds
returns-in_err-d-clause-adds c = adds_none c.args.p.now

pub returns-in_err-parts-clause-adds : goal.returns-in_err-parts-clause-adds
returns-in_err-parts-clause-adds c = adds_none c.args.p.now

pub returns-in_err-made-clause-adds : goal.returns-in_err-made-clause-adds
returns-in_err-made-clause-adds c = adds_none c.args.p.now

pub returns-in_default-clause-adds : goal.returns-in_default-clause-adds
returns-in_default-clause-adds c = adds_none c.args.p.now

pub returns-in_err-composed-clause-adds : goal.returns-in_err-composed-clause-adds
returns-in_err-composed-clause-adds c = adds_none c.args.p.now

pub returns-in-None-clause-adds : goal.returns-in-None-clause-adds
returns-in-None-clause-adds c = adds_none c.args.p.now

pub returns-in_err-k-in-Some-2-clause-adds : goal.returns-in_err-k-in-Some-2-clause-adds
returns-in_err-k-in-Some-2-clause-adds c = c.in_err-k-in-Some-2.ensures.adds

pub returns-clause-adds : goal.returns-clause-adds
returns-clause-adds c = c.in_ok-k-in-Some-2.ensures.adds
