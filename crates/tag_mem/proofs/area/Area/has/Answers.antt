use Rattle.std.proofs.Common.{◌≡◌, ℕ, ◌+◌, ◌-◌, ◌*◌, ◌%◌, ◌^◌, ◌<◌, ◌≤◌, List, ltb, leb, ◌&&◌, length, sym, ap, ◌∙◌}
use Rattle.std.proofs.Common.{inl, inr, arith}
use Rattle.std.specs.Prelude.{flat_map}
use Rattle.std.proofs.lemmas.Bool.{cases_Bool, and_from, and_parts, le-leb, lt-ltb, leb-true, ltb-true, ltb-false}
use Rattle.tag_mem.specs.Areas.{Area, has}
use Rattle.tag_mem.specs.Granules.{granule_bytes}
use Rattle.tag_mem.proofs.Granules.{length_granules}
use Rattle.tag_mem.proofs.area.Area.has.Goals as goal

-- by the distance from the base, modulo 2^64
by_distance : (base at size : ℕ) → base + size ≤ 2 ^ 40 → at < 2 ^ 64 →
    ltb ((at + (2 ^ 64 - base)) % 2 ^ 64) size ≡ (leb base at && ltb at (base + size))
by_distance base at size end below = elim (cases_Bool (ltb ((at + (2 ^ 64 - base)) % 2 ^ 64) size)) [
  | inl t ↦
      let near = ltb-true ((at + (2 ^ 64 - base)) % 2 ^ 64) size t in
      t ∙ sym (and_from (leb base at) (ltb at (base + size)) (le-leb base at (omega arith))
      (lt-ltb at (base + size) (omega arith)))
  | inr f ↦
      let far = ltb-false ((at + (2 ^ 64 - base)) % 2 ^ 64) size f in
      elim (cases_Bool (leb base at && ltb at (base + size))) [
        | inl inside ↦
            let parts = and_parts (leb base at) (ltb at (base + size)) inside in
            let from = leb-true base at parts.0 in
            let to = ltb-true at (base + size) parts.1 in
            absurd (omega arith)
        | inr outside ↦ f ∙ sym outside
      ]
]

pub overflow_mul-result : goal.overflow_mul-result
overflow_mul-result c = omega (arith, length_granules c.self.inside.granules.items, c.self.invariant.end)

pub returns : goal.returns
returns c =
    let gs : List (List ℕ) = c.self.inside.granules.items in
    let base : ℕ = c.self.inside.base in
    let size : length (flat_map granule_bytes gs) ≡ c.len.result * 16 =
    omega (arith, length_granules gs, c.len.ensures) in
    let end : base + c.len.result * 16 ≤ 2 ^ 40 = omega (arith, c.self.invariant.end, size) in
    sym (ap (λ (a : Area). has a c.args.at) (sym c.self.view_is)
    ∙ ap (λ n. leb base c.args.at && ltb c.args.at (base + n)) size
    ∙ sym (by_distance base c.args.at (c.len.result * 16) end (omega arith)))
