-- What stands in frames stays where memory changes off the stack, and one object more stands off it.
use Rattle.std.proofs.Common.{◌≡◌, ◌⊎◌, ℕ, ◌+◌, ◌-◌, ◌*◌, ◌%◌, ◌<◌, ◌≤◌, ◌==◌, List, [], ◌∷◌, ◌++◌, length}
use Rattle.std.proofs.Common.{Option, Some, None, refl, sym, ap, ◌∙◌, subst, arith, inl}
use Rattle.std.specs.Prelude.{slice_get, position}
use Rattle.std.specs.Option.{option_map}
use Rattle.std.proofs.lemmas.Option.{cond_some}
use Rattle.tag_mem.specs.Areas.{Area, IsMemory}
use Rattle.obj_mem.specs.Agreement.{IsNotReturned}
use Rattle.obj_mem.specs.Legal.{Apart, ObjectNeed}
use Rattle.obj_mem.specs.Objects.{Shape}
use Rattle.obj_mem.specs.Table.{addresses_of}
use Rattle.obj_mem.specs.Values.{Value}
use Rattle.placement.proofs.Added as added
use Rattle.placement.proofs.Added.{Where, get_last, get_front, clear_add}
use Rattle.placement.proofs.Shapes.{smaller}
use Rattle.reg_alloc.specs.declared.places.Home.{Home}
use Rattle.reg_alloc.specs.declared.places.Home.TheVariants.{Register, Slot}
use Rattle.purecap_abi.specs.Saving.{kept_homes, stack_bytes, keeps_stack, slot_count, registers_at, behind_registers}
use Rattle.purecap_abi.specs.Saving.{stack_at, slots_at}
use Rattle.purecap_abi.proofs.Counts.{slot_count_each}
use Rattle.tac_ir.specs.Meaning.{Caller}
use Rattle.place_inject.specs.Parts.{Unchanged, kept_at}
use Rattle.place_inject.specs.Frames.{Setting, Registers, IsAt, LocalsFit, HomesFit, FrameFits, FramesFit, Waits}
use Rattle.place_inject.specs.Frames.{homes_of, functions_of, locals_by, slots_from, stack_top, at_home, from_place}
use Rattle.place_inject.specs.Frames.{behind_return}
use Rattle.place_inject.proofs.Altered.{homes_later}
use Rattle.place_inject.proofs.Elsewhere.{kept_same}
use Rattle.place_inject.proofs.FramesKept.{position_within, stack_multiple}
use Rattle.place_inject.proofs.Lying.{Lies, within}
use Rattle.place_inject.proofs.ReadBack.{under_top, newest}

module _ (s : Setting) (shapes : List Shape) (h : Shape) (off : Apart h.base h.owned s.map.stack.0 s.map.stack.1)
    (before after : List Area) (areas : IsMemory before) (areas' : IsMemory after)
    (still : Unchanged s.map.stack.0 s.map.stack.1 before after) where
  abbrev pub grown : List Shape
  grown = shapes ++ h ∷ []

  -- ---- objects that were there

  pub at_grown : (o : ℕ) (need : ObjectNeed) (b : ℕ) → IsAt shapes o need b → IsAt grown o need b
  at_grown o need b i = record {
    shape = i.shape;
    there = get_front shapes (h ∷ []) o i.shape i.there;
    length = i.length;
    base_is = i.base_is;
    stays = i.stays;
  }

  pub locals_grown : (fun first at : ℕ) → LocalsFit s shapes fun first at → LocalsFit s grown fun first at
  locals_grown fun first at f = record { each = λ n need q. at_grown (first + n) need _ (f.each n need q) }

  pub off_part : (from n : ℕ) → s.map.stack.0 ≤ from → from + n ≤ stack_top s → Apart h.base h.owned from n
  off_part from n low high = smaller h.base h.owned s.map.stack.0 s.map.stack.1 from n low high off

  -- ---- a frame in the stack

  module _ (fun first at above link : ℕ) (f : FrameFits s shapes before fun first at above link)
      (top_is : above ≤ stack_top s) where
    lies : Lies s.map.stack.0 above at f.frame
    lies = within s.map.stack.0 above at f.frame f.below

    there : (place : ℕ) → place % 16 ≡ 0 → place + 16 ≤ f.frame.saved
        → kept_at after (at + place) ≡ kept_at before (at + place)
    there place z l =
        let q = lies in let low = q.from in let high = q.to in
        let inside = f.for_homes.inside in let y = f.aligned in
        kept_same s.map.stack.0 s.map.stack.1 (at + place) before after areas areas' still (omega arith) (omega arith)
        (omega arith)

    link_there : kept_at after at ≡ kept_at before at
    link_there =
        let is = f.for_homes.saved in
        let z : at + 0 ≡ at = omega arith in
        subst (λ x. kept_at after x ≡ kept_at before x) z (there 0 refl (omega arith))

    stack_there : (place : ℕ) → stack_at (homes_of s fun) f.frame ≡ Some place
        → kept_at after (at + place) ≡ kept_at before (at + place)
    stack_there place e =
        let q = cond_some (keeps_stack f.frame.align) (behind_registers (homes_of s fun) f.frame) place e in
        let sixteen : stack_bytes f.frame.align ≡ 16 = rw q.0 refl in
        let is = f.for_homes.saved in
        let here = q.1 in
        there place (omega arith) (omega arith)

    alone_by : (i : ℕ) (g : Shape) → IsNotReturned g.life → Apart g.base g.owned s.map.stack.0 (at - s.map.stack.0)
        → Where shapes h i g
        → Apart g.base g.owned s.map.stack.0 (above - s.map.stack.0)
        ⊎ ((first ≤ i) × (i < first + length (locals_by (slice_get s.needs.functions fun))))
    alone_by i g stays under (added.old q) = f.alone.others i g q stays under
    alone_by i g stays under (added.new e q) =
        let l = lies in let low = l.from in let high = l.to in
        inl (subst (λ (x : Shape). Apart x.base x.owned s.map.stack.0 (above - s.map.stack.0)) q
        (off_part s.map.stack.0 (above - s.map.stack.0) (omega arith) (omega arith)))

    pub frame_on : FrameFits s grown after fun first at above link
    frame_on =
        let l = lies in let low = l.from in let high = l.to in let inside = f.for_homes.inside in
        record {
          frame = f.frame;
          is = f.is;
          for_homes = f.for_homes;
          below = f.below;
          aligned = f.aligned;
          link_kept = link_there ∙ f.link_kept;
          stack_kept = λ place e. stack_there place e ∙ f.stack_kept place e;
          clear = clear_add shapes h at f.frame.saved f.clear (off_part at f.frame.saved low (omega arith));
          alone = record { others = λ i g e stays under. alone_by i g stays under (get_last shapes h i g e) };
        }

    -- ---- registers and homes

    module _ (registers registers' : Registers) (alike : (r : ℕ) → registers' r ≡ registers r) where
      by_position : (r : ℕ) (w : Option ℕ) → position (λ x. x == r) (kept_homes (homes_of s fun)) ≡ w
          → from_place after (option_map (λ j. at + registers_at (homes_of s fun) f.frame + 16 * j) w) (registers' r)
          ≡ from_place before (option_map (λ j. at + registers_at (homes_of s fun) f.frame + 16 * j) w) (registers r)
      by_position r None e = alike r
      by_position r (Some j) e =
          let homes = homes_of s fun in
          let l : j < length (kept_homes homes) = position_within (λ x. x == r) (kept_homes homes) j e in
          let is = f.for_homes.saved in
          let z = stack_multiple f.frame.align in
          let place : at + registers_at homes f.frame + 16 * j ≡ at + (registers_at homes f.frame + 16 * j) =
          omega arith in
          rw place (there (registers_at homes f.frame + 16 * j) (omega arith) (omega arith))

      pub behind_on : (r : ℕ) → behind_return s after fun at registers' r ≡ behind_return s before fun at registers r
      behind_on r = rw f.is (by_position r (position (λ x. x == r) (kept_homes (homes_of s fun))) refl)

      home_there : (t : ℕ) (home : Home) → slice_get (homes_of s fun) t ≡ Some home
          → at_home after registers' (at + slots_at (homes_of s fun) f.frame) home
          ≡ at_home before registers (at + slots_at (homes_of s fun) f.frame) home
      home_there t (Register r) e = alike r
      home_there t (Slot j) e =
          let homes = homes_of s fun in
          let l : j < slot_count homes = slot_count_each homes t j e in
          let is = f.for_homes.saved in
          let z = stack_multiple f.frame.align in
          let place : at + slots_at homes f.frame + 16 * j ≡ at + (slots_at homes f.frame + 16 * j) = omega arith in
          rw place (there (slots_at homes f.frame + 16 * j) (omega arith) (omega arith))

      abbrev slots : ℕ
      slots = slots_from (slice_get s.map.frames fun) (homes_of s fun) at

      pub homes_on : (live : ℕ → Type 0) (temps : List (Option Value))
          → HomesFit (functions_of s) (addresses_of s.map) shapes before registers (homes_of s fun) (s.numbers fun)
          slots live temps
          → HomesFit (functions_of s) (addresses_of s.map) grown after registers' (homes_of s fun) (s.numbers fun)
          slots live temps
      homes_on live temps q =
          let here : slots ≡ at + slots_at (homes_of s fun) f.frame = ap (λ x. slots_from x (homes_of s fun) at) f.is in
          homes_later s shapes grown
          (record {
            forth = λ i g e. (
              g,
              get_front shapes (h ∷ []) i g e,
              record { base = refl; owned = refl; length = refl; stayed = λ y. y },
            );
          }) after registers' (homes_of s fun) (s.numbers fun) slots live temps
          (record {
            one_each = q.one_each;
            kept = λ t home l n e. ap (λ x. at_home after registers' x home) here ∙ home_there t home e
                ∙ sym (ap (λ x. at_home before registers x home) here) ∙ q.kept t home l n e;
            numbered = q.numbered;
            known = q.known;
          })

  -- ---- all frames

  pub frames_on : (registers registers' : Registers) → ((r : ℕ) → registers' r ≡ registers r) → (fun first at : ℕ)
      (cs : List Caller) → FramesFit s shapes before registers fun first at cs
      → FramesFit s grown after registers' fun first at cs
  frames_on registers registers' alike fun first at [] f =
      frame_on fun first at (stack_top s) s.stub f (omega arith)
  frames_on registers registers' alike fun first at (c ∷ cs) f =
      let link = s.back c.fun c.rest in
      let then_on = behind_return s before fun at registers in
      let then_on' = behind_return s after fun at registers' in
      let top_is = under_top s shapes before then_on c.fun c.first c.frame cs f.3 in
      let own = newest s shapes before then_on c.fun c.first c.frame cs f.3 in
      let behind = behind_on fun first at c.frame link f.0 top_is registers registers' alike in (
        frame_on fun first at c.frame link f.0 top_is,
        locals_grown c.fun c.first c.frame f.1,
        homes_on c.fun c.first c.frame own.above own.link own.frame own.inside then_on then_on' behind (Waits s c)
            c.vars f.2,
        frames_on then_on then_on' behind c.fun c.first c.frame cs f.3,
      )
