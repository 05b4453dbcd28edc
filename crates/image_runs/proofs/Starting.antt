-- The machine comes to the first function, or finds no room for its frame.
use Rattle.std.proofs.Common.{◌≡◌, ℕ, ◌+◌, ◌<◌, ℤ, List, [], length, Option, Some, None, refl, sym, ap, ◌∙◌}
use Rattle.std.proofs.Common.{subst, arith}
use Rattle.std.specs.Prelude.{slice_get}
use Rattle.std.proofs.lemmas.Option.{get_or_from_slice_get, slice_get_within}
use Rattle.ck_base.specs.World.{World, GivesBytes, nothing_done}
use Rattle.cap_ops.specs.declared.access.Cause.{Cause}
use Rattle.cap_machine.specs.declared.end.End.TheVariants as end
use Rattle.cap_machine.specs.declared.machine.Machine.{Machine}
use Rattle.obj_mem.specs.declared.ending.Ending.TheVariants as ending
use Rattle.cheri_c_sem.specs.Modes.{Store, frame_within, operations}
use Rattle.cheri_c_sem.specs.Programs.{program_tree}
use Rattle.cheri_c_sem.specs.Steps.{State}
use Rattle.purecap_abi.specs.Ends.{before_store}
use Rattle.tac_ir.specs.Costs.{prologue_cost}
use Rattle.tac_ir.specs.Meaning.{code_of, entry_temps, first_state, name_of}
use Rattle.tac_ir.specs.WellFormed.{Signature, int_result, signature_of_function}
use Rattle.tac_ir.specs.declared.code.TacInstr.{TacInstr}
use Rattle.place_inject.specs.Entering.{entered, first_of}
use Rattle.place_inject.specs.Frames.{IsLive}
use Rattle.select_runs.proofs.Calling.{first_is_entered_law}
use Rattle.select_runs.proofs.FarCalls.{far_first_is_entered_law}
use Rattle.select_runs.specs.Acts.{place}
use Rattle.select_runs.specs.Calling.{Begins, EntersWithin, begin_words}
use Rattle.select_runs.specs.Jumps.{LeadsTo}
use Rattle.select_runs.specs.Operands.{IsAtPoint, ground_of}
use Rattle.select_whole.specs.Matching.{Started, Starts}
use Rattle.select_whole.specs.Visited.{Whole, entry_of, gives_by, locals_of, main_of, ops_of, tac_at}
use Rattle.select_whole.proofs.Moves.{has_words}
use Rattle.rv_emit.specs.Leading.{IsHop}
use Rattle.image_runs.specs.Asked.{Enters, FunctionIs, IsCode, IsLoaded, IsSelected}
use Rattle.image_runs.specs.Starting.{CallsFirst, Far, FirstStarts, IsFirst, Near}
use Rattle.image_runs.proofs.Formed.{Coded, code_there}
use Rattle.image_runs.proofs.Labels.{hops}
use Rattle.image_runs.proofs.Standing.{begins_with}

module _ (g : Whole) (a : IsSelected g) (c : IsCode g) (l : IsLoaded g) (calls : CallsFirst g) (m : Machine)
    (x : IsFirst g m) (w : World) (bytes : GivesBytes w) where
  abbrev main : ℕ
  main = main_of g

  -- the first function has a type, and so its code
  coded_by : (o : Option Signature) → signature_of_function g.program main ≡ o → gives_by o ≡ Some int_result
      → Coded g.program g.setting.code.funs main
  coded_by None e h = cc
  coded_by (Some y) e h = code_there g.program g.setting.code main y c.formed e

  f : Coded g.program g.setting.code.funs main
  f = coded_by (signature_of_function g.program main) refl c.main_gives

  abbrev q : FunctionIs g main f.f
  q = a.functions main f.f f.is

  abbrev body : List TacInstr
  body = tac_at g main

  abbrev begins : Begins g.setting g.code main 0 body (IsLive g.setting (first_of main body))
  begins = begins_with g a c l w main f.f f.is 0 (c.main_takes f.f f.is) (IsLive g.setting (first_of main body))
      (λ temp now. now)

  abbrev state : ℕ → State Store
  state n = first_state (ops_of g) w g.setting.code g.program (locals_of g) (program_tree g.program) n

  abbrev entry_end : ℕ
  entry_end = begins.entry + length (begin_words g.setting main begins.frame begins.words)

  there : entry_end ≡ g.word main body
  there = sym q.stands.first ∙ ap (λ z. g.word main (code_of z)) (sym f.is)

  entry_is : (place n : ℕ) → entered g.setting main place begins.lengths (entry_temps begins.kinds []) (state n)
      ≡ entry_of g w place n
  unfolding operations
  entry_is place n = refl

  enter_is : (n : ℕ) → (ops_of g).enter main (ops_of g).stack_top
      ≡ frame_within g.setting.map.stack.0 (state n).frame (Some begins.frame)
  unfolding operations
  enter_is n = ap (frame_within g.setting.map.stack.0 (state n).frame) q.framed.is

  leads_to : (offset : ℤ) → ((at : ℕ) → Enters g main at → IsHop 0 at offset)
      → LeadsTo g.setting g.code 0 begins.entry offset
  leads_to offset leads =
      let room = l.text.room in
      let top = l.text.legal.in_range.1 in
      let last = q.stands.inside [] f.f.code refl in
      let first = q.stands.first in
      record {
        from = omega arith;
        inside = omega (arith, last, first);
        there = hops g.setting.map.text.0 0 q.entry offset (omega arith) (omega (arith, last, first))
            (leads q.entry q.enters);
      }

  few : prologue_cost 0 < g.setup main
  few = subst (λ n. prologue_cost n < g.setup main) (c.main_takes f.f f.is) (a.dear.entered main f.f f.is)

  sunk : (cause : Cause)
      → g.report (end.Trap cause (place (ground_of g.setting g.code)
      (begins.entry + length (before_store begins.frame))))
      ≡ Some (ending.Stack (name_of (slice_get g.setting.code.funs main)))
  sunk cause = q.stands.sinks cause ∙ ap (λ z. Some (ending.Stack (name_of z))) (sym f.is)

  abbrev EntersAs : ℕ → Option ℕ → Type 0
  EntersAs n o =
      EntersWithin g.setting g.code (prologue_cost 0) begins.entry entry_end begins.frame (first_of main body)
      (λ place. entered g.setting main place begins.lengths (entry_temps begins.kinds []) (state n)) m o

  enters_by : (n : ℕ) → CallsFirst g
      → EntersAs n (frame_within g.setting.map.stack.0 (state n).frame (Some begins.frame))
  enters_by n (Near offset calls leads stub) =
      first_is_entered_law g.setting g.code l.text l.stack main 0 body (state n) m (x.fits w n) x.counter
      (has_words w m nothing_done (x.addresses w bytes)) begins offset calls (leads_to offset leads) stub
  enters_by n (Far finds found has stub) =
      let word : length finds + 1 ≡ 0 + length finds + 1 = omega arith in
      far_first_is_entered_law g.setting g.code l.text l.stack l.table main 0 body (state n) m (x.fits w n) x.counter
      (has_words w m nothing_done (x.addresses w bytes)) begins finds found has
      (get_or_from_slice_get g.setting.map.entries main _ 0 q.enters)
      (stub ∙ ap (place (ground_of g.setting g.code)) word)

  started : (n : ℕ) (o : Option ℕ) → EntersAs n o → Started g w (0 + g.setup main) n o m
  started n (Some place) k =
      let le = k.le in
      let less = few in
      record {
        count = k.count;
        to = k.to;
        ge = omega arith;
        le = omega arith;
        leads = k.leads;
        point = subst (λ at. IsAtPoint g.setting g.code (first_of main body) at (entry_of g w place n) k.to) there
            (subst (λ u. IsAtPoint g.setting g.code (first_of main body) entry_end u k.to) (entry_is place n) k.point);
      }
  started n None k =
      let le = k.few in
      let less = few in (
        end.Trap k.cause (place (ground_of g.setting g.code) (begins.entry + length (before_store begins.frame))),
        record { count = k.count; to = k.sinks; lt = omega arith; leads = k.leads; ends = k.ends },
        sunk k.cause,
      )

  starts : Starts g w 0 m
  starts = record {
    main = slice_get_within g.setting.code.funs main f.f f.is;
    each = λ n. subst (λ o. Started g w (0 + g.setup main) n o m) (sym (enter_is n))
        (started n (frame_within g.setting.map.stack.0 (state n).frame (Some begins.frame))
        (enters_by n calls));
    addresses = x.addresses w bytes;
  }

pub first_starts_law : FirstStarts
first_starts_law g a c l calls m x w bytes = starts g a c l calls m x w bytes
