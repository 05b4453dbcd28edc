-- What stands in frames stands there still where objects get other lives.
use Rattle.std.proofs.Common.{◌≡◌, ◌⊎◌, ℕ, ◌+◌, ◌-◌, ◌<◌, ◌≤◌, length, inl, inr, List, [], ◌∷◌, sym, ap, ◌∙◌, Option}
use Rattle.std.proofs.Common.{Some}
use Rattle.std.specs.Prelude.{slice_get}
use Rattle.tag_mem.specs.Areas.{Area}
use Rattle.obj_mem.specs.Legal.{Apart, ObjectNeed}
use Rattle.obj_mem.specs.Objects.{Shape}
use Rattle.obj_mem.specs.Table.{addresses_of}
use Rattle.obj_mem.specs.Values.{Value}
use Rattle.placement.proofs.Shapes.{Alters, AreFrom, apart_as, clear_same, from_kept}
use Rattle.reg_alloc.specs.declared.places.Home.{Home}
use Rattle.tac_ir.specs.Meaning.{Caller}
use Rattle.place_inject.specs.Frames.{Setting, Registers, IsAlone, locals_by, IsAt, GlobalsFit, LocalsFit, HomesFit}
use Rattle.place_inject.specs.Frames.{FrameFits, FramesFit, Waits, functions_of, homes_of, slots_from, stack_top}
use Rattle.place_inject.specs.Frames.{behind_return}
use Rattle.place_inject.proofs.Reshaped.{Same, known_later, capability_later}

-- each object is where it was
module _ (s : Setting) (old new : List Shape) (same : Same old new) (memory : List Area) where
  pub homes_later : (registers : Registers) (homes : List Home) (numbers : ℕ → Option ℕ) (slots : ℕ)
      (live : ℕ → Type 0) (temps : List (Option Value))
      → HomesFit (functions_of s) (addresses_of s.map) old memory registers homes numbers slots live temps
      → HomesFit (functions_of s) (addresses_of s.map) new memory registers homes numbers slots live temps
  homes_later registers homes numbers slots live temps f = record {
    one_each = f.one_each;
    kept = λ t h l n e. f.kept t h l n e ∙ ap (λ c. Some c)
        (sym (capability_later old new same (functions_of s) (addresses_of s.map) _ (f.known t l)));
    numbered = λ t n l e. capability_later old new same (functions_of s) (addresses_of s.map) _ (f.known t l)
        ∙ f.numbered t n l e;
    known = λ t l. known_later old new same (functions_of s) _ (f.known t l);
  }

-- each was there, of which some may have returned since
module _ (s : Setting) (old new : List Shape) (back : AreFrom old new) where
  alone_later : (first count bottom at above : ℕ) → IsAlone old first count bottom at above
      → IsAlone new first count bottom at above
  alone_later first count bottom at above f = record {
    others = λ i h e x below.
        let y = back i h e in
        let g = y.0 in
        let below' = apart_as h.base h.owned bottom (at - bottom) g.base g.owned (sym y.2.base) (sym y.2.owned) below in
        by i g h y.2.base y.2.owned (f.others i g y.1 (y.2.stayed x) below');
  } where
    by : (i : ℕ) (g h : Shape) → h.base ≡ g.base → h.owned ≡ g.owned
        → Apart g.base g.owned bottom (above - bottom) ⊎ ((first ≤ i) × (i < first + count))
        → Apart h.base h.owned bottom (above - bottom) ⊎ ((first ≤ i) × (i < first + count))
    by i g h p q (inl apart) = inl (apart_as g.base g.owned bottom (above - bottom) h.base h.owned p q apart)
    by i g h p q (inr own) = inr own

  pub frame_later : (memory : List Area) (fun first at above link : ℕ)
      → FrameFits s old memory fun first at above link → FrameFits s new memory fun first at above link
  frame_later memory fun first at above link f = record {
    frame = f.frame;
    is = f.is;
    for_homes = f.for_homes;
    below = f.below;
    aligned = f.aligned;
    link_kept = f.link_kept;
    stack_kept = f.stack_kept;
    clear = clear_same old new back at f.frame.saved f.clear;
    alone = alone_later first (length (locals_by (slice_get s.needs.functions fun))) s.map.stack.0 at above f.alone;
  }

-- of those that have not returned, none returns
module _ (s : Setting) (old new : List Shape) (alters : Alters old new) where
  same : Same old new
  same = record {
    forth = λ i g e. let h = alters.forward.kept i g e in (h.0, h.1, from_kept g h.0 h.2);
  }

  is_at : (o : ℕ) (need : ObjectNeed) (base : ℕ) → IsAt old o need base → IsAt new o need base
  is_at o need base i =
      let h = alters.forward.kept o i.shape i.there in
      record {
        shape = h.0;
        there = h.1;
        length = h.2.length ∙ i.length;
        base_is = h.2.base ∙ i.base_is;
        stays = h.2.stays i.stays;
      }

  pub globals_altered : GlobalsFit s old → GlobalsFit s new
  globals_altered f = record { each = λ k base need e q. is_at k need base (f.each k base need e q) }

  pub locals_altered : (fun first at : ℕ) → LocalsFit s old fun first at → LocalsFit s new fun first at
  locals_altered fun first at f = record { each = λ n need e. is_at _ need _ (f.each n need e) }

  module _ (memory : List Area) where
    pub homes_altered : (registers : Registers) (homes : List Home) (numbers : ℕ → Option ℕ) (slots : ℕ)
        (live : ℕ → Type 0)
        (temps : List (Option Value))
        → HomesFit (functions_of s) (addresses_of s.map) old memory registers homes numbers slots live temps
        → HomesFit (functions_of s) (addresses_of s.map) new memory registers homes numbers slots live temps
    homes_altered registers homes numbers slots live temps f =
        homes_later s old new same memory registers homes numbers slots live temps f

    pub frames_altered : (registers : Registers) (fun first at : ℕ) (cs : List Caller)
        → FramesFit s old memory registers fun first at cs → FramesFit s new memory registers fun first at cs
    frames_altered registers fun first at [] f =
        frame_later s old new alters.back memory fun first at (stack_top s) s.stub f
    frames_altered registers fun first at (c ∷ cs) f =
        let behind = behind_return s memory fun at registers in (
          frame_later s old new alters.back memory fun first at c.frame (s.back c.fun c.rest) f.0,
          locals_altered c.fun c.first c.frame f.1,
          homes_altered behind (homes_of s c.fun) (s.numbers c.fun)
              (slots_from (slice_get s.map.frames c.fun) (homes_of s c.fun) c.frame) (Waits s c) c.vars f.2,
          frames_altered behind c.fun c.first c.frame cs f.3,
        )
