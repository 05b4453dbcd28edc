-- The words that keep what a call gives, and the call before the rest of some code.
use Rattle.std.proofs.Common.{◌≡◌, ℕ, zero, suc, ◌-◌, ◌≤◌, List, [], ◌∷◌, ◌++◌, Option, Some}
use Rattle.std.proofs.Common.{None, arith, length, refl, sym, ap, ◌∙◌, subst, max, if◌then◌else◌}
use Rattle.std.specs.Prelude.{slice_get}
use Rattle.std.proofs.lemmas.Bool.{ne_eqb}
use Rattle.std.proofs.lemmas.List.{length-append}
use Rattle.rv_instr.specs.declared.instr.Instr.{Instr}
use Rattle.reg_alloc.specs.declared.places.Home.TheVariants as home
use Rattle.purecap_abi.specs.Words.{store_code}
use Rattle.tac_ir.specs.Costs.{outgoing, outgoing_by}
use Rattle.tac_ir.specs.declared.code.TacInstr.{TacInstr}
use Rattle.tac_ir.specs.declared.code.TacInstr.TheVariants as instr
use Rattle.tac_live.specs.Calls.{arguments}
use Rattle.select_words.specs.Emitted.{Keep, Needless, Stays, Moved, Stored}
use Rattle.select_words.specs.Selecting.{Selecting}
use Rattle.select_words.specs.Services.{KeepSome}
use Rattle.image_runs.specs.Asked.{called_to}
use Rattle.image_runs.specs.Made.{before_rest, keep_length, kept_by}

kept_words : (s : Selecting) (t : ℕ) (words : List Instr) → Keep s t 10 words → length words ≡ keep_length s (Some t)
kept_words s t words (Needless value is e) =
    ap length e ∙ sym (ap (λ o. kept_by s.homes s.frame o (slice_get s.homes t)) is)
kept_words s t words (Stays is e) =
    ap length e ∙ sym (ap (λ o. kept_by s.homes s.frame o (slice_get s.homes t)) is.stands
    ∙ ap (kept_by s.homes s.frame None) is.home)
kept_words s t words (Moved r is other e) =
    ap length e ∙ sym (ap (λ o. kept_by s.homes s.frame o (slice_get s.homes t)) is.stands
    ∙ ap (kept_by s.homes s.frame None) is.home ∙ ap (λ b. if b then 0 else 1) (ne_eqb r 10 other))
kept_words s t words (Stored offset is e) =
    ap length e ∙ ap (λ n. length (store_code 10 2 n 31)) is.there
    ∙ sym (ap (λ o. kept_by s.homes s.frame o (slice_get s.homes t)) is.stands
    ∙ ap (kept_by s.homes s.frame None) is.home ∙ ap (λ f. kept_by s.homes f None (Some (home.Slot is.slot))) is.is)

pub kept_length : (s : Selecting) (to : Option ℕ) (keep : List Instr) → KeepSome s to keep
    → length keep ≡ keep_length s to
kept_length s None keep h = ap length h
kept_length s (Some t) keep h = kept_words s t keep h

-- ---- the call before the rest

at_end : (before : List TacInstr) (i : TacInstr) (rest : List TacInstr)
    → slice_get (before ++ i ∷ rest) (length before) ≡ Some i
at_end [] i rest = refl
at_end (x ∷ before) i rest = at_end before i rest

pub before_rest_is : (code before : List TacInstr) (i : TacInstr) (rest : List TacInstr) → code ≡ before ++ i ∷ rest
    → before_rest code rest ≡ Some i
before_rest_is code before i rest e =
    let long = ap length e ∙ length-append before (i ∷ rest) in
    let at : length code - suc (length rest) ≡ length before = omega (arith, long) in
    ap (slice_get code) at ∙ ap (λ c. slice_get c (length before)) e ∙ at_end before i rest

-- ---- places for arguments

of_call : (i : TacInstr) (to : Option ℕ) → called_to i ≡ Some to → outgoing_by i ≡ length (arguments i) - 8
of_call (instr.Call to' fun args) to e = refl
of_call (instr.CallValue to' v of args source) to e = refl
of_call i to e = cc

in_outgoing : (code : List TacInstr) (k : ℕ) (i : TacInstr) → slice_get code k ≡ Some i → outgoing_by i ≤ outgoing code
in_outgoing [] k i e = cc
in_outgoing (x ∷ code) zero i e =
    let same : x ≡ i = cc in subst (λ y. outgoing_by y ≤ max (outgoing_by x) (outgoing code)) same (omega arith)
in_outgoing (x ∷ code) (suc k) i e = let le = in_outgoing code k i e in omega arith

pub passed_places : (code : List TacInstr) (k : ℕ) (i : TacInstr) (to : Option ℕ) → slice_get code k ≡ Some i
    → called_to i ≡ Some to → length (arguments i) - 8 ≤ outgoing code
passed_places code k i to e call =
    let same = of_call i to call in let le = in_outgoing code k i e in omega (arith, same)
