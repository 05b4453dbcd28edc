use Rattle.std.proofs.Common.{◌≡◌, ℕ, ◌+◌, ◌-◌, ◌%◌, ◌≤◌, ◌⊎◌, leb, List, length, take, drop, true, false}
use Rattle.std.proofs.Common.{refl, sym, ap, ◌∙◌, subst, arith, rules, inl, inr}
use Rattle.std.specs.Prelude.{IsTrue}
use Rattle.std.proofs.lemmas.Bool.{cases_Bool, leb-true, leb-false}
use Rattle.std.proofs.lemmas.List.{length-take-le, length-drop}
use Rattle.std.proofs.Math.Nat.{min-eq_left, min-eq_right}
use Rattle.tag_mem.specs.Areas.{Area, IsArea, has, end_of}
use Rattle.tag_mem.specs.Memory.{area_with}
use Rattle.tag_mem.specs.Granules.{area_of}
use Rattle.tag_mem.proofs.ByAddress.{starts, ends}
use Rattle.tag_mem.proofs.Granules.{length_granules}
use Rattle.tag_mem.proofs.Filling.{area_with-none, area_with-more, take_more}
use Rattle.tag_mem.proofs.area.Area.fill.Goals as goal

pub overflow_sub-len : goal.overflow_sub-len
overflow_sub-len c =
    let before : Area = area_of c.self.inside.base c.self.inside.granules.items c.self.inside.tags in
    let is_here = subst (λ (a : Area). IsTrue (has a c.args.at)) (sym c.self.view_is) c.requires.place in
    let here : has before c.args.at ≡ true = search rules in
    let end = ends before c.args.at here in
    omega (arith, end, length_granules c.self.inside.granules.items)

past : (c : goal.Then-bytes-len) → leb (c.args.at + length c.args.bytes.now) (end_of c.args.self.now) ≡ false
past c = elim (cases_Bool (leb (c.args.at + length c.args.bytes.now) (end_of c.args.self.now))) [
  | inl t ↦
      let before : Area = area_of c.self.inside.base c.self.inside.granules.items c.self.inside.tags in
      let fits = leb-true (c.args.at + length c.args.bytes.now) (end_of c.args.self.now) t in
      let end : end_of before ≡ end_of c.args.self.now = ap (λ (a : Area). end_of a) c.self.view_is in
      let is_here = subst (λ (a : Area). IsTrue (has a c.args.at)) (sym c.self.view_is) c.requires.place in
      let here : has before c.args.at ≡ true = search rules in
      let low = starts before c.args.at here in
      absurd (omega (
        arith,
        fits,
        end,
        low,
        length_granules c.self.inside.granules.items,
        c.if-bytes-len.true,
        c.len.ensures,
      ))
  | inr f ↦ f
]

pub returns-then-bytes-len-clause-fits : goal.returns-then-bytes-len-clause-fits
returns-then-bytes-len-clause-fits c = sym (past c)

pub returns-then-bytes-len-clause-value : goal.returns-then-bytes-len-clause-value
returns-then-bytes-len-clause-value c = let is = past c in sym (rw is refl)

pub loop-done-init : goal.loop-done-init
loop-done-init c =
    let before : Area = area_of c.self.inside.base c.self.inside.granules.items c.self.inside.tags in
    let area = subst (λ (a : Area). IsArea a) c.self.view_is c.self.invariant in
    let end : end_of before ≡ end_of c.args.self.now = ap (λ (a : Area). end_of a) c.self.view_is in
    let base : c.self.inside.base ≡ c.args.self.now.base = ap (λ (a : Area). a.base) c.self.view_is in
    let is_here = c.requires.place in
    let here : has c.args.self.now c.args.at ≡ true = search rules in
    let low = starts c.args.self.now c.args.at here in
    let high = ends c.args.self.now c.args.at here in
    record {
      area = area;
      fits = omega (
        arith,
        end,
        base,
        low,
        high,
        length_granules c.self.inside.granules.items,
        c.if-bytes-len.false,
        c.len.ensures,
      );
      within = omega arith;
      whole = inl refl;
      so_far = sym (area_with-none c.args.self.now c.args.at area low c.requires.aligned (omega (arith, high)));
    }

pub loop-done-preserved : goal.loop-done-preserved
loop-done-preserved c =
    let now : Area = c.args.self.now in
    let at : ℕ = c.args.at in
    let bytes : List ℕ = c.args.bytes.now in
    let done : ℕ = c.loop-done.done in
    let n : ℕ = c.min-count.result in
    let so_far = c.loop-done.invariant in
    let count : (n ≡ length bytes - done) ⊎ ((n ≡ 16) × (16 ≤ length bytes - done)) =
    elim (cases_Bool (leb (length bytes - done) 16)) [
      | inl t ↦ inl (c.min-count.ensures ∙ min-eq_left (leb-true (length bytes - done) 16 t))
      | inr f ↦
          let more = leb-false (length bytes - done) 16 f in
          inr (c.min-count.ensures ∙ min-eq_right (omega (arith, more)), omega (arith, more))
    ] in
    let even : done % 16 ≡ 0 =
    elim so_far.whole [ inl e ↦ e | inr e ↦ absurd (omega (arith, e, c.loop-done-test.true)) ] in
    let within : done + n ≤ length bytes =
    elim count [ inl e ↦ omega (arith, e, so_far.within) | inr e ↦ omega (arith, e.0, e.1) ] in
    let back : done + n - done ≡ n = omega arith in
    let is_here = c.requires.place in
    let here : has now at ≡ true = search rules in
    let low = starts now at here in
    let size : length (take done bytes) ≡ done = length-take-le done bytes so_far.within in
    let part : length (take (done + n - done) (drop done bytes)) ≡ n =
    length-take-le (done + n - done) (drop done bytes) (omega (arith, within, length-drop done bytes)) ∙ back in
    record {
      area = so_far.area;
      fits = so_far.fits;
      within = within;
      whole = elim count [ inl e ↦ inr (omega (arith, e, so_far.within)) | inr e ↦ inl (omega (arith, e.0, even)) ];
      so_far = c.store.ensures
          ∙ ap (λ (a : Area). area_with a (at + done) (take (done + n - done) (drop done bytes)) false) so_far.so_far
          ∙ ap (λ (k : ℕ). area_with (area_with now at (take done bytes) false) (at + k)
          (take (done + n - done) (drop done bytes)) false) (sym size)
          ∙ area_with-more now at so_far.area low c.requires.aligned (take done bytes)
          (take (done + n - done) (drop done bytes)) (omega (arith, size, even))
          (omega (arith, size, part, within, so_far.fits))
          ∙ ap (λ (bs : List ℕ). area_with now at bs false) (take_more done (done + n - done) n bytes back);
    }
