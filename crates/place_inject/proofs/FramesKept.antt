-- What stands in frames stays where an object changes.
use Rattle.std.proofs.Common.{◌≡◌, ℕ, ◌+◌, ◌*◌, ◌%◌, ◌<◌, ◌≤◌, ◌==◌, Bool, List, [], ◌∷◌, length, refl, sym, ap, ◌∙◌}
use Rattle.std.proofs.Common.{arith, Option, Some, None}
use Rattle.std.specs.Prelude.{slice_get, position, nat_lt}
use Rattle.std.specs.Option.{option_map}
use Rattle.std.specs.List.{position_or_len}
use Rattle.std.proofs.lemmas.Bool.{cond_both, ltb-true}
use Rattle.std.proofs.lemmas.Option.{cond_some}
use Rattle.tag_mem.specs.Areas.{Area, IsMemory}
use Rattle.obj_mem.specs.Values.{Value, Addresses}
use Rattle.obj_mem.specs.Objects.{Shape}
use Rattle.obj_mem.specs.Table.{addresses_of}
use Rattle.reg_alloc.specs.declared.places.Home.{Home}
use Rattle.reg_alloc.specs.declared.places.Home.TheVariants.{Register, Slot}
use Rattle.purecap_abi.specs.Saving.{kept_homes, stack_bytes, keeps_stack, slot_count, registers_at, behind_registers}
use Rattle.purecap_abi.specs.Saving.{stack_at, slots_at}
use Rattle.purecap_abi.proofs.Counts.{slot_count_each}
use Rattle.tac_ir.specs.Meaning.{Caller}
use Rattle.place_inject.specs.Registers.{UsesOnly, CallersUseOnly}
use Rattle.place_inject.specs.Parts.{Unchanged, kept_at}
use Rattle.place_inject.specs.Frames.{Setting, Registers, homes_of, functions_of, stack_top, slots_from, at_home}
use Rattle.place_inject.specs.Frames.{HomesFit, Waits, from_place, behind_return, FrameFits, FramesFit}
use Rattle.place_inject.proofs.Elsewhere.{kept_same}
use Rattle.place_inject.proofs.Lying.{within}

pub position_within : {X : Type 0} (test : X → Bool) (xs : List X) (k : ℕ) → position test xs ≡ Some k → k < length xs
position_within test xs k e =
    let q = cond_some (nat_lt (position_or_len test xs) (length xs)) (position_or_len test xs) k e in
    let l = ltb-true (position_or_len test xs) (length xs) q.0 in
    let same = q.1 in
    omega arith

pub stack_multiple : (align : ℕ) → stack_bytes align % 16 ≡ 0
stack_multiple align = cond_both (keeps_stack align) 16 0 (λ n. n % 16 ≡ 0) (λ e. refl) (λ e. refl)

pub all_use : (s : Setting) (Used : ℕ → Type 0)
    → ((fun t r : ℕ) → slice_get (homes_of s fun) t ≡ Some (Register r) → Used r)
    → (cs : List Caller) → CallersUseOnly s Used cs
all_use s Used h [] = tt
all_use s Used h (c ∷ cs) = (λ t r l e. h c.fun t r e, all_use s Used h cs)

-- between two memories in which the saved parts are alike from an address on, and for registers that are alike where a
-- home or a register of a caller may be
module _ (s : Setting) (shapes : List Shape) (old new : List Area) (h : IsMemory old) (h' : IsMemory new)
    (lowest : ℕ) (unchanged : (fun first at above link : ℕ) (f : FrameFits s shapes old fun first at above link)
    → lowest ≤ at → Unchanged at f.frame.saved old new)
    (Used : ℕ → Type 0) where
  module _ (fun first at above link : ℕ) (f : FrameFits s shapes old fun first at above link) (up : lowest ≤ at) where
    saved : Unchanged at f.frame.saved old new
    saved = unchanged fun first at above link f up

    in_saved : (place : ℕ) → place % 16 ≡ 0 → place + 16 ≤ f.frame.saved
        → kept_at new (at + place) ≡ kept_at old (at + place)
    in_saved place z l = let y = f.aligned in kept_same at f.frame.saved (at + place) old new h h' saved (omega arith)
        (omega arith) (omega arith)

    link_same : kept_at new at ≡ kept_at old at
    link_same =
        let y = f.aligned in
        let is = f.for_homes.saved in
        kept_same at f.frame.saved at old new h h' saved y (omega arith) (omega arith)

    stack_same : (place : ℕ) → stack_at (homes_of s fun) f.frame ≡ Some place
        → kept_at new (at + place) ≡ kept_at old (at + place)
    stack_same place e =
        let homes = homes_of s fun in
        let q = cond_some (keeps_stack f.frame.align) (behind_registers homes f.frame) place e in
        let sixteen : stack_bytes f.frame.align ≡ 16 = rw q.0 refl in
        let is = f.for_homes.saved in
        let there = q.1 in
        in_saved place (omega arith) (omega arith)

    pub frame_kept : FrameFits s shapes new fun first at above link
    frame_kept = record {
      frame = f.frame;
      is = f.is;
      for_homes = f.for_homes;
      below = f.below;
      aligned = f.aligned;
      link_kept = link_same ∙ f.link_kept;
      stack_kept = λ place e. stack_same place e ∙ f.stack_kept place e;
      clear = f.clear;
      alone = f.alone;
    }

    -- ---- registers and homes

    module _ (registers registers' : Registers) (alike : (r : ℕ) → Used r → registers' r ≡ registers r) where
      by_position : (r : ℕ) → Used r → (w : Option ℕ) → position (λ x. x == r) (kept_homes (homes_of s fun)) ≡ w
          → from_place new (option_map (λ j. at + registers_at (homes_of s fun) f.frame + 16 * j) w) (registers' r)
          ≡ from_place old (option_map (λ j. at + registers_at (homes_of s fun) f.frame + 16 * j) w) (registers r)
      by_position r u None e = alike r u
      by_position r u (Some j) e =
          let homes = homes_of s fun in
          let l : j < length (kept_homes homes) = position_within (λ x. x == r) (kept_homes homes) j e in
          let is = f.for_homes.saved in
          let z = stack_multiple f.frame.align in
          let place : at + registers_at homes f.frame + 16 * j ≡ at + (registers_at homes f.frame + 16 * j) =
          omega arith in
          rw place (in_saved (registers_at homes f.frame + 16 * j) (omega arith) (omega arith))

      pub registers_kept : (r : ℕ) → Used r
          → behind_return s new fun at registers' r ≡ behind_return s old fun at registers r
      registers_kept r u = rw f.is (by_position r u (position (λ x. x == r) (kept_homes (homes_of s fun))) refl)

      home_same : (t : ℕ) (home : Home) → slice_get (homes_of s fun) t ≡ Some home
          → ((r : ℕ) → slice_get (homes_of s fun) t ≡ Some (Register r) → Used r)
          → at_home new registers' (at + slots_at (homes_of s fun) f.frame) home ≡ at_home old registers
          (at + slots_at (homes_of s fun) f.frame) home
      home_same t (Register r) e used = alike r (used r e)
      home_same t (Slot j) e used =
          let homes = homes_of s fun in
          let l : j < slot_count homes = slot_count_each homes t j e in
          let is = f.for_homes.saved in
          let z = stack_multiple f.frame.align in
          let place : at + slots_at homes f.frame + 16 * j ≡ at + (slots_at homes f.frame + 16 * j) = omega arith in
          rw place (in_saved (slots_at homes f.frame + 16 * j) (omega arith) (omega arith))

      pub homes_kept : (functions : ℕ) (a : Addresses) (live : ℕ → Type 0) (temps : List (Option Value))
          → UsesOnly Used (homes_of s fun) live
          → HomesFit functions a shapes old registers (homes_of s fun) (s.numbers fun)
          (slots_from (slice_get s.map.frames fun) (homes_of s fun) at) live temps
          → HomesFit functions a shapes new registers' (homes_of s fun) (s.numbers fun)
          (slots_from (slice_get s.map.frames fun) (homes_of s fun) at) live temps
      homes_kept functions a live temps used q =
          let slots : slots_from (slice_get s.map.frames fun) (homes_of s fun) at ≡ at + slots_at
          (homes_of s fun) f.frame = ap (λ x. slots_from x (homes_of s fun) at) f.is in
          record {
            one_each = q.one_each;
            kept = λ t home l n e. ap (λ x. at_home new registers' x home) slots
                ∙ home_same t home e (λ r g. used t r l g)
                ∙ sym (ap (λ x. at_home old registers x home) slots) ∙ q.kept t home l n e;
            numbered = q.numbered;
            known = q.known;
          }

  -- ---- all frames

  record Newest (fun first at : ℕ) : Type 0 where
    above : ℕ
    link : ℕ
    frame : FrameFits s shapes old fun first at above link

  newest : (registers : Registers) (fun first at : ℕ) (cs : List Caller)
      → FramesFit s shapes old registers fun first at cs → Newest fun first at
  newest registers fun first at [] f = record { above = stack_top s; link = s.stub; frame = f }
  newest registers fun first at (c ∷ cs) f = record { above = c.frame; link = s.back c.fun c.rest; frame = f.0 }

  -- a frame lies below what it was made below
  rises : (fun first at above link : ℕ) → FrameFits s shapes old fun first at above link → lowest ≤ at → lowest ≤ above
  rises fun first at above link f up =
      let l = within s.map.stack.0 above at f.frame f.below in
      let to = l.to in
      omega arith

  -- for registers that are alike behind the return of the newest function
  pub frames_behind : (registers registers' : Registers) (fun first at : ℕ) (up : lowest ≤ at) (cs : List Caller)
      → ((r : ℕ) → Used r → behind_return s new fun at registers' r ≡ behind_return s old fun at registers r)
      → CallersUseOnly s Used cs
      → FramesFit s shapes old registers fun first at cs → FramesFit s shapes new registers' fun first at cs
  frames_behind registers registers' fun first at up [] behind used f =
      frame_kept fun first at (stack_top s) s.stub f up
  frames_behind registers registers' fun first at up (c ∷ cs) behind used f =
      let now = behind_return s old fun at registers in
      let now' = behind_return s new fun at registers' in
      let own = newest now c.fun c.first c.frame cs f.3 in
      let above = rises fun first at c.frame (s.back c.fun c.rest) f.0 up in (
        frame_kept fun first at c.frame (s.back c.fun c.rest) f.0 up,
        f.1,
        homes_kept c.fun c.first c.frame own.above own.link own.frame above now now' behind (functions_of s)
            (addresses_of s.map)
            (Waits s c) c.vars used.0 f.2,
        frames_behind now now' c.fun c.first c.frame above cs
            (registers_kept c.fun c.first c.frame own.above own.link own.frame above now now' behind) used.1 f.3,
      )

  pub calls_kept : (registers registers' : Registers) → ((r : ℕ) → Used r → registers' r ≡ registers r)
      → (fun first at : ℕ) (up : lowest ≤ at) (cs : List Caller)
      (functions : ℕ) (a : Addresses) (live : ℕ → Type 0) (temps : List (Option Value))
      → UsesOnly Used (homes_of s fun) live → CallersUseOnly s Used cs
      → HomesFit functions a shapes old registers (homes_of s fun) (s.numbers fun)
      (slots_from (slice_get s.map.frames fun) (homes_of s fun) at) live temps
      → FramesFit s shapes old registers fun first at cs
      → HomesFit functions a shapes new registers' (homes_of s fun) (s.numbers fun)
      (slots_from (slice_get s.map.frames fun) (homes_of s fun) at) live temps
      × FramesFit s shapes new registers' fun first at cs
  calls_kept registers registers' alike fun first at up cs functions a live temps own_use used q f =
      let own = newest registers fun first at cs f in (
        homes_kept fun first at own.above own.link own.frame up registers registers' alike functions a live temps
            own_use q,
        frames_behind registers registers' fun first at up cs
            (registers_kept fun first at own.above own.link own.frame up registers registers' alike) used f,
      )
