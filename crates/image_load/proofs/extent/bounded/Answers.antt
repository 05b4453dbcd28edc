use Rattle.std.proofs.Common.{◌≡◌, ◌+◌, refl, ap, ◌∙◌, arith, true}
use Rattle.cap_concentrate.specs.declared.fields.Fields.{Fields}
use Rattle.cap_concentrate.specs.Packing.{same_fields}
use Rattle.cap_concentrate.specs.Encoding.{with_bounds, encoded_internal, encoded_t, encoded_b}
use Rattle.cap_ops.specs.declared.capability.Cap.{Cap}
use Rattle.image_load.proofs.Exact.{exact_facts}
use Rattle.image_load.proofs.extent.bounded.Goals as goal

pub set_bounds-bounds-requires : goal.set_bounds-bounds-requires
set_bounds-bounds-requires c = (exact_facts c.args.e c.requires.exact).0

pub returns : goal.returns
unfolding with_bounds
returns c =
    let f = exact_facts c.args.e c.requires.exact in
    let low : c.set_bounds-bounds.result.base ≡ c.args.e.0 = c.set_bounds-bounds.ensures.base ∙ f.1 in
    let high : c.set_bounds-bounds.result.top ≡ c.args.e.0 + c.args.e.1 = c.set_bounds-bounds.ensures.top ∙ f.2 in
    let is = c.set_bounds-bounds.ensures.encoded in
    ap (λ (x : Fields). let cap : Cap = record { tag = true; fields = x } in cap) (same_fields _ _ (record {
      user = refl;
      perms = omega arith;
      reserved = refl;
      flag = refl;
      otype = omega arith;
      internal = is.internal_is ∙ ap (λ b. encoded_internal b c.set_bounds-bounds.result.top) low
          ∙ ap (λ t. encoded_internal c.args.e.0 t) high;
      t = is.t_is ∙ ap (λ b. encoded_t b c.set_bounds-bounds.result.top) low ∙ ap (λ t. encoded_t c.args.e.0 t) high;
      b = is.b_is ∙ ap (λ b. encoded_b b c.set_bounds-bounds.result.top) low ∙ ap (λ t. encoded_b c.args.e.0 t) high;
      address = refl;
    }))
