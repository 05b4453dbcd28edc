-- Objects that are there have numbers below those of new ones.
use Rattle.std.proofs.Common.{◌≡◌, ℕ, zero, suc, ◌+◌, ◌<◌, List, [], ◌∷◌, ◌++◌, length, refl, arith, Some}
use Rattle.std.specs.Prelude.{slice_get}
use Rattle.std.proofs.lemmas.List.{length-append}
use Rattle.std.proofs.lemmas.Option.{slice_get_within}
use Rattle.tag_mem.specs.Areas.{Area}
use Rattle.obj_mem.specs.Legal.{IsLegal}
use Rattle.obj_mem.specs.Objects.{Shape}
use Rattle.tac_ir.specs.Meaning.{Caller}
use Rattle.place_inject.specs.Frames.{Setting, Registers, GlobalsFit, FramesFit, behind_return}
use Rattle.place_inject.specs.Fits.{registers_in}
use Rattle.place_inject.specs.Leaving.{CallersAreOlder}
use Rattle.place_inject.proofs.Tables.{as_many}
use Rattle.place_inject.specs.Older.{OthersAreOlderAtEntries, GlobalsAreOlderAtStart}

-- as many bases as needs
element : {X : Type 0} (xs : List X) (k : ℕ) → k < length xs → (x : X) × (slice_get xs k ≡ Some x)
element [] k l = absurd (omega (arith, l))
element (x ∷ xs) zero l = (x, refl)
element (x ∷ xs) (suc k) l = element xs k (omega (arith, l))

globals_older : (s : Setting) → IsLegal s.needs s.map → (shapes : List Shape) → GlobalsFit s shapes
    → (k base : ℕ) → slice_get (s.map.globals ++ s.map.literals) k ≡ Some base → k < length shapes
globals_older s legal shapes g k base e =
    let l = slice_get_within (s.map.globals ++ s.map.literals) k base e in
    let a = length-append s.map.globals s.map.literals in
    let d = length-append s.needs.globals s.needs.literals in
    let one = as_many s.needs.globals s.map.globals legal.globals in
    let two = as_many s.needs.literals s.map.literals legal.literals in
    let need = element (s.needs.globals ++ s.needs.literals) k (omega (arith, l, a, d, one, two)) in
    let at = g.each k base need.0 e need.1 in
    slice_get_within shapes k at.shape at.there

callers_older : (s : Setting) (shapes : List Shape) (memory : List Area) (registers : Registers) (fun first at : ℕ)
    (cs : List Caller) → FramesFit s shapes memory registers fun first at cs
    → CallersAreOlder s (length shapes) cs
callers_older s shapes memory registers fun first at [] f = tt
callers_older s shapes memory registers fun first at (c ∷ cs) f = (
  λ n need e. let i = f.1.each n need e in slice_get_within shapes (c.first + n) i.shape i.there,
  callers_older s shapes memory (behind_return s memory fun at registers) c.fun c.first c.frame cs f.3,
)

pub others_are_older_at_entries_law : OthersAreOlderAtEntries
others_are_older_at_entries_law s legal p t m f rest to = record {
  globals = globals_older s legal t.mem.memory.shapes f.globals;
  callers = (
    λ n need e.
        let i = f.calls.0.each n need e in slice_get_within t.mem.memory.shapes (t.first + n) i.shape i.there,
    callers_older s t.mem.memory.shapes m.mem
        (registers_in m) p.running.fun t.first t.frame p.running.callers f.calls.2,
  );
}

pub globals_are_older_at_start_law : GlobalsAreOlderAtStart
globals_are_older_at_start_law s legal t m f = record {
  globals = globals_older s legal t.mem.memory.shapes f.globals;
  callers = tt;
}
