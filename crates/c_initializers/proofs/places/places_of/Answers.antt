use Rattle.std.proofs.Common.{◌≡◌, ◌*◌, sym, ap, ◌∙◌, arith}
use Rattle.std.specs.Prelude.{nat_lt, ◌==◌, ◌||◌, if◌then◌else◌, Some, None}
use Rattle.c_tree.specs.Initializers.{item_place}
use Rattle.c_expressions.specs.Nodes.{type_in}
use Rattle.c_plain_rules.specs.Members.{place_in}
use Rattle.c_initializers.proofs.PlaceLaws.{item_place-stripped, array-place, option_map-if, alone-place, stripped_base}
use Rattle.c_initializers.proofs.PlaceLaws.{elements-near, members-near, alone-near}
use Rattle.c_initializers.proofs.places.places_of.Goals as goal

pub returns-in-Array : goal.returns-in-Array
returns-in-Array c =
    let w = c.args.work.now in
    let t = type_in w.nodes c.args.of in
    record {
      there = c.in-Array.ensures.there;
      near = elements-near c.in-Array.element c.size_of.result c.in-Array.length (omega arith);
      are = λ s h k l.
          sym (item_place-stripped s t k)
          ∙ ap (λ u. item_place s u k) (sym c.stripped-base.ensures.is ∙ c.in-Array.ensures.is)
          ∙ array-place s (type_in w.nodes c.in-Array.element) c.in-Array.length k c.size_of.result
          (c.size_of.ensures.is s h)
          ∙ sym (option_map-if (place_in w) (nat_lt k c.in-Array.length || c.in-Array.length == 0)
          (record { at = k * c.size_of.result; of = c.in-Array.element }));
    }

pub returns-in_ok-first_members-in-Tagged : goal.returns-in_ok-first_members-in-Tagged
returns-in_ok-first_members-in-Tagged c =
    let w = c.args.work.now in
    let t = type_in w.nodes c.args.of in
    let a = c.in_ok-first_members-in-Tagged.ensures.are in
    record {
      there = a.there;
      near = members-near c.in_ok-first_members-in-Tagged.field-0 c.in_ok-first_members-in-Tagged.ensures.close;
      are = λ s h k l. sym (item_place-stripped s t k)
          ∙ ap (λ u. item_place s u k) (sym c.stripped-base.ensures.is ∙ c.in-Tagged.ensures.is) ∙ a.are s h k l;
    }

pub returns-in_default : goal.returns-in_default
returns-in_default c =
    let w = c.args.work.now in
    let t = type_in w.nodes c.args.of in
    let e = c.class.ensures.is in
    let b = c.stripped-base.ensures.is in
    record {
      there = c.stripped-base.ensures.there;
      near = alone-near c.stripped-base.result;
      are = λ s h k l.
          sym (item_place-stripped s t k) ∙ ap (λ u. item_place s u k) (sym b ∙ e)
          ∙ alone-place s c.class.result (type_in w.nodes) c.class.ensures.params k c.in_default.not-Array
          c.in_default.not-Tagged (λ u q. stripped_base t u (sym b ∙ e ∙ q))
          ∙ ap (λ u. (if k == 0 then Some (0, u) else None)) (sym e)
          ∙ sym (option_map-if (place_in w) (k == 0) (record { at = 0; of = c.stripped-base.result }));
    }
