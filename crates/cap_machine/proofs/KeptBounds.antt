-- The bounds that fields give, by their block of addresses.
use Rattle.std.proofs.Common.{◌≡◌, ℕ, ◌*◌, ◌/◌, Bool, true, sym, ap, ◌∙◌, arith, eq-eqb}
use Rattle.std.specs.Prelude.{◌==◌}
use Rattle.std.proofs.Math.Bool.{and-true}
use Rattle.cap_ops.specs.declared.capability.Cap.{Cap}
use Rattle.cap_ops.specs.Capability.{usable, moved, with_address}
use Rattle.cap_concentrate.specs.declared.fields.Fields.{Fields}
use Rattle.cap_concentrate.specs.Decoding.{base_of, top_of, base_at, top_at}
use Rattle.cap_concentrate.proofs.Block.{same_in_block}

-- at the first address of the block
pub at_block : (internal : Bool) (t b a : ℕ) →
    (base_of internal t b (a / 2048 * 2048) ≡ base_of internal t b a) ×
    (top_of internal t b (a / 2048 * 2048) ≡ top_of internal t b a)
at_block internal t b a = same_in_block internal t b (a / 2048 * 2048) a (omega arith)

-- at each address of the block
pub of_block : (f : Fields) (internal : Bool) (t b block base top : ℕ) → block ≡ f.address / 2048 → b ≡ f.b → t ≡ f.t →
    internal ≡ f.internal
    → base_of internal t b (block * 2048) ≡ base → top_of internal t b (block * 2048) ≡ top →
    (base_at f f.address ≡ base) × (top_at f f.address ≡ top)
of_block f internal t b block base top block_is b_is t_is internal_is low high =
    let same = same_in_block f.internal f.t f.b f.address (block * 2048) (omega (arith, block_is)) in (
      same.0 ∙ sym (ap (λ (l : Bool). base_of l t b (block * 2048)) internal_is
          ∙ ap (λ (x : ℕ). base_of f.internal x b (block * 2048)) t_is
          ∙ ap (λ (x : ℕ). base_of f.internal f.t x (block * 2048)) b_is) ∙ low,
      same.1 ∙ sym (ap (λ (l : Bool). top_of l t b (block * 2048)) internal_is
          ∙ ap (λ (x : ℕ). top_of f.internal x b (block * 2048)) t_is
          ∙ ap (λ (x : ℕ). top_of f.internal f.t x (block * 2048)) b_is) ∙ high,
    )

-- a capability moved within its block: it keeps its bounds
pub moved_in_block : (c : Cap) (a : ℕ) → a / 2048 ≡ c.fields.address / 2048 →
    moved c a ≡ record { tag = usable c; fields = with_address c.fields a }
unfolding moved
moved_in_block c a same =
    let bounds = same_in_block c.fields.internal c.fields.t c.fields.b a c.fields.address same in
    let low : (base_at c.fields a == base_at c.fields c.fields.address) ≡ true = eq-eqb _ _ bounds.0 in
    let high : (top_at c.fields a == top_at c.fields c.fields.address) ≡ true = eq-eqb _ _ bounds.1 in
    rw (low, high) (ap (λ (t : Bool). record { tag = t; fields = with_address c.fields a }) (and-true (usable c)))
