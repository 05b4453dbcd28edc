-- Constants, copies and labels: what they mean, the machine does.
use Rattle.std.proofs.Common.{◌≡◌, ◌≢◌, ℕ, zero, ◌+◌, ◌%◌, ◌^◌, ◌<◌, ◌≤◌, pos, Bool, true, false, List, [], ◌∷◌, length}
use Rattle.std.proofs.Common.{Option, Some, None, refl, sym, ap, ◌∙◌, subst, arith, inl, inr, if◌then◌else◌}
use Rattle.std.specs.Prelude.{nat_lt, slice_get, slice_set, ◌++◌}
use Rattle.std.proofs.lemmas.Bool.{and_parts, eqb-true, ltb-true, cases_eq}
use Rattle.std.proofs.lemmas.List.{length-append}
use Rattle.ck_base.specs.World.{World}
use Rattle.ck_int.specs.Kinds.{wrapped}
use Rattle.cap_ops.specs.declared.capability.Cap.{Cap}
use Rattle.cap_ops.specs.Capability.{null_at}
use Rattle.rv_instr.specs.declared.instr.Instr.{Instr}
use Rattle.rv_instr.specs.declared.instr.Instr.TheVariants.{Upper, Store, Clc, CapReg, CapGet}
use Rattle.rv_instr.specs.declared.ops.UpperOp.TheVariants.{Lui}
use Rattle.rv_instr.specs.declared.ops.StoreOp.TheVariants.{Csc}
use Rattle.rv_instr.specs.declared.ops.CapRegOp.TheVariants.{Cincoffset}
use Rattle.rv_instr.specs.declared.ops.CapGetOp.TheVariants.{Cmove}
use Rattle.cap_machine.specs.declared.machine.Machine.{Machine}
use Rattle.cap_machine.specs.State.{register}
use Rattle.cap_machine.specs.Rows.{row, cap_get_row, set}
use Rattle.c_tree.specs.declared.typed.Typed.{Typed}
use Rattle.obj_mem.specs.Objects.{Shape, base_in}
use Rattle.obj_mem.specs.Table.{addresses_of}
use Rattle.obj_mem.specs.Values.{Value, Int, Raw, Addresses, capability_of}
use Rattle.cheri_c_sem.specs.Modes as modes
use Rattle.cheri_c_sem.specs.Steps.{State, Fate}
use Rattle.purecap_abi.specs.Words.{low, high, load_code}
use Rattle.tac_ir.specs.Costs.{cost}
use Rattle.tac_ir.specs.Effects.{Next, On, effect, kind_of, kind_at, temp_in}
use Rattle.tac_ir.specs.Meaning.{Running}
use Rattle.tac_ir.specs.Temps.{IsIn as IsAmong, falls, reads, writes, now}
use Rattle.tac_ir.specs.WellFormed.{has, is_temp, constant_fits}
use Rattle.tac_ir.specs.declared.code.TacInstr.{TacInstr}
use Rattle.tac_ir.specs.declared.code.TacInstr.TheVariants as instr
use Rattle.tac_ir.specs.declared.code.TacKind.{TacKind}
use Rattle.tac_ir.specs.declared.code.TacKind.TheVariants as kind
use Rattle.place_inject.specs.Values.{IsKnown}
use Rattle.place_inject.specs.Frames.{Setting, Point, IsLive, functions_of}
use Rattle.place_inject.specs.Spills.{StackIsThere}
use Rattle.place_inject.proofs.Results.{numbers_fit_law, moves_on_law, numbers_read_back_law, registers_read_back_law}
use Rattle.select_words.specs.Standing.{HasAt}
use Rattle.select_words.specs.Emitted as emitted
use Rattle.select_words.specs.Emitted.{IsSpilled, Operand, Target, Keep}
use Rattle.select_words.specs.Words.{Constant, Bring, Copied}
use Rattle.select_words.specs.Words as words
use Rattle.select_runs.specs.Acts.{Holds, counter_at}
use Rattle.select_runs.specs.Kinds.{IsOfKind, AreOfKinds}
use Rattle.select_runs.specs.Operands.{ground_of, IsText, IsAtPoint}
use Rattle.select_runs.specs.Results.{MayChange, MayTake, Arrives, before, behind, kinds_in, code_in, IsConstant}
use Rattle.select_runs.specs.Results.{IsSelectable}
use Rattle.select_runs.specs.Instructions.{ConstantsRun, CopiesRun, LabelsRun}
use Rattle.select_runs.proofs.Acts.{has_front, has_back, one_set, begins}
use Rattle.select_runs.proofs.Numbers.{numbers_are_made_law}
use Rattle.select_runs.proofs.Points.{laid, there}
use Rattle.select_runs.proofs.Operands.{load_slot, holds_by}
use Rattle.select_runs.proofs.Results.{reads_no_more, reads_as_before, results_go_home_law, target_may}
use Rattle.select_runs.proofs.Kinded.{kind_passes, kinded_set, raw_null, set_to_itself, has_kind}
use Rattle.select_runs.specs.Selecting.{selecting}

-- ---- few words

near_or_far : (b : Bool) (i : Instr) (x y z : Instr) → length (if b then i ∷ [] else x ∷ y ∷ z ∷ []) ≤ 3
near_or_far true i x y z = omega arith
near_or_far false i x y z = omega arith

pub keep_few : (s : Setting) (fun t from : ℕ) (ws : List Instr) → Keep (selecting s fun) t from ws → length ws ≤ 3
keep_few s fun t from ws (emitted.Needless n is e) = subst (λ u. length u ≤ 3) (sym e) (omega arith)
keep_few s fun t from ws (emitted.Stays i e) = subst (λ u. length u ≤ 3) (sym e) (omega arith)
keep_few s fun t from ws (emitted.Moved r i d e) = subst (λ u. length u ≤ 3) (sym e) (omega arith)
keep_few s fun t from ws (emitted.Stored offset i e) =
    subst (λ u. length u ≤ 3) (sym e)
    (near_or_far (nat_lt offset 2048) (Store Csc from 2 (pos offset)) (Upper Lui 31 (high offset % 2 ^ 20))
    (CapReg Cincoffset 31 2 31)
    (Store Csc from 31 (low offset)))

load_few : (to offset scratch : ℕ) → length (load_code to 2 offset scratch) ≤ 3
load_few to offset scratch =
    near_or_far (nat_lt offset 2048) (Clc to 2 (pos offset)) (Upper Lui scratch (high offset % 2 ^ 20))
    (CapReg Cincoffset scratch 2 scratch)
    (Clc to scratch (low offset))

pub operand_few : (s : Setting) (fun t scratch : ℕ) (ws : List Instr) (r : ℕ) → Operand (selecting s fun) t scratch ws r
    → length ws ≤ 3
operand_few s fun t scratch ws r (emitted.Nothing n e q) = subst (λ u. length u ≤ 3) (sym e) (omega arith)
operand_few s fun t scratch ws r (emitted.Made v n makes few e) = omega arith
operand_few s fun t scratch ws r (emitted.AtHome i e) = subst (λ u. length u ≤ 3) (sym e) (omega arith)
operand_few s fun t scratch ws r (emitted.Loaded offset i e q) = subst (λ u. length u ≤ 3) (sym e)
    (load_few scratch offset scratch)

pub bring_few : (s : Setting) (fun t r : ℕ) (ws : List Instr) → Bring (selecting s fun) t r ws → length ws ≤ 3
bring_few s fun t r ws (words.Made v n makes few) = omega arith
bring_few s fun t r ws (words.There i e) = subst (λ u. length u ≤ 3) (sym e) (omega arith)
bring_few s fun t r ws (words.Moved q i d e) = subst (λ u. length u ≤ 3) (sym e) (omega arith)
bring_few s fun t r ws (words.Loaded offset i e) = subst (λ u. length u ≤ 3) (sym e) (load_few r offset r)

-- ---- what the selectable instruction says of the temp that it writes

pub among_one : (t : ℕ) → IsAmong t (t ∷ [])
among_one t = (zero, refl)

pub may_take : (s : Setting) (p : Typed) (running : Running) (i : TacInstr) (rest : List TacInstr) (to : ℕ)
    → IsSelectable s p running i rest → IsAmong to (writes i) → ((n : ℕ) → IsConstant i n → ⊥) → MayTake s
    (behind running rest) to
may_take s p running i rest to sel among no_constant = by (s.numbers running.fun to) refl
  where
    by : (o : Option ℕ) → s.numbers running.fun to ≡ o → MayTake s (behind running rest) to
    by None e = sel.free to among e
    by (Some n) e = absurd (no_constant n (sel.numbers to n among e))

-- ---- labels

pub labels_run_law : LabelsRun
labels_run_law s code x stack w p running (instr.Label l) rest is sel at t m point kinded ws none has =
    let e : at ≡ at + 0 = omega arith in
    record {
      next = t;
      means = λ k. refl;
      kinded = kinded;
      does = record {
        count = 0;
        to = m;
        ge = omega arith;
        le = omega arith;
        leads = refl;
        point = record {
          fits = moves_on_law s (before running (instr.Label l) rest) t m point.fits rest
              (λ temp live. reads_as_before s running (instr.Label l) rest refl refl temp live);
          counter = point.counter ∙ ap (counter_at (ground_of s code)) (e ∙ ap (λ u. at + length u) (sym none));
        };
      };
    }
labels_run_law s code x stack w p running i rest is sel at t m point kinded ws none has = absurd is

-- ---- constants

abbrev constant_value : TacKind → ℕ → Value
constant_value (kind.Int k) v = Int v
constant_value (kind.Cap signed) v = Raw v 0

constant_known : (shapes : List Shape) (functions : ℕ) (k : TacKind) (v : ℕ) → v < 2 ^ 64 → IsKnown shapes functions
    (constant_value k v)
constant_known shapes functions (kind.Int k) v small = small
constant_known shapes functions (kind.Cap signed) v small = (small, omega arith)

constant_kind : (k : TacKind) (v : ℕ) → constant_fits k v ≡ true → IsOfKind (kind_of k) (constant_value k v)
constant_kind (kind.Int k) v h = record { kept = eqb-true (wrapped k (pos v)) v h }
constant_kind (kind.Cap signed) v h = refl

constant_means : (s : Setting) (w : World) (p : Typed) (running : Running) (to : ℕ) (k : TacKind) (v : ℕ)
    (t : State modes.Store)
    (go : Next → State modes.Store → Fate)
    → effect (modes.operations (modes.placed_plan s.map)) w p (kinds_in s running) (instr.Const to k v) t go
    ≡ go On (record t { vars = slice_set t.vars to (Some (constant_value k v)) })
constant_means s w p running to (kind.Int k) v t go = refl
constant_means s w p running to (kind.Cap signed) v t go = refl

integer_is : (a : Addresses) (base : ℕ → ℕ) (v : ℕ) → capability_of a base (Int v) ≡ null_at v
unfolding capability_of
integer_is a base v = refl

module _ (s : Setting) (code : List Instr) (x : IsText s code) (stack : StackIsThere s) (w : World) (p : Typed)
    (running : Running)
    (k : TacKind) (to v : ℕ) (rest : List TacInstr)
    (sel : IsSelectable s p running (instr.Const to k v) rest) (at : ℕ) (t : State modes.Store) (m : Machine)
    (point : IsAtPoint s code (before running (instr.Const to k v) rest) at t m)
    (kinded : AreOfKinds (kinds_in s running) t.vars) (small : v < 2 ^ 64) where
  abbrev i : TacInstr
  i = instr.Const to k v

  abbrev new : State modes.Store
  new = record t { vars = slice_set t.vars to (Some (constant_value k v)) }

  abbrev Behind : ℕ → Type 0
  Behind n = Arrives s code (behind running rest) 0 (cost i) (at + n) new m

  constant_bits : capability_of (addresses_of s.map) (base_in t.mem.memory.shapes) (constant_value k v) ≡ null_at v
  constant_bits = by k
    where
      by : (j : TacKind) → capability_of (addresses_of s.map) (base_in t.mem.memory.shapes)
          (constant_value j v) ≡ null_at v
      by (kind.Int j) = integer_is (addresses_of s.map) (base_in t.mem.memory.shapes) v
      by (kind.Cap signed) =
          raw_null (functions_of s) (addresses_of s.map) t.mem.memory.shapes point.fits.objects.spread v small

  parts : (to < length (kinds_in s running)) × (Rattle.tac_ir.specs.WellFormed.same_kind (kind_at
      (kinds_in s running) to) (kind_of k) ≡ true)
      × (constant_fits k v ≡ true)
  parts =
      let q = and_parts (has p sel.d (kinds_in s running) (code_in s running) to (kind_of k))
      (constant_fits k v) sel.fits in
      let h = has_kind p sel.d (kinds_in s running) (code_in s running) to (kind_of k) q.0 in
      (h.0, h.1, q.1)

  still_kinded : AreOfKinds (kinds_in s running) new.vars
  still_kinded =
      kinded_set (kinds_in s running) t.vars to (constant_value k v) kinded parts.0
      (kind_passes (kind_at (kinds_in s running) to) (kind_of k) (constant_value k v) parts.1
      (constant_kind k v parts.2))

  by_words : (ws : List Instr) → Constant (selecting s running.fun) to v ws → HasAt code at ws → Behind (length ws)
  by_words ws (words.Needless n none) has =
      let e : at ≡ at + 0 = omega arith in
      let l = parts.0 in let long = kinded.one_each in
      subst (λ u. Behind (length u)) (sym none) (record {
        count = 0;
        to = m;
        ge = omega arith;
        le = omega arith;
        leads = refl;
        point = record {
          fits = numbers_fit_law s (before running i rest) t m point.fits rest to v (omega arith) n
              (reads_no_more s running i rest to refl refl) (constant_value k v)
              (constant_known t.mem.memory.shapes (functions_of s) k v small) constant_bits;
          counter = point.counter ∙ ap (counter_at (ground_of s code)) e;
        };
      })
  by_words ws (words.Built stands r target makes keep number few kept e) has =
      let q = subst (HasAt code at) e has in
      let may = target_may s code x running.fun to r target in
      let take = sel.free to (among_one to) stands in
      let range = target_range target in
      let h = numbers_are_made_law (ground_of s code) (laid s code x) m at (there s code x
      (before running i rest) at t m point) r v
      range.0 range.1 makes number (has_front code at makes keep q) in
      let a = results_go_home_law s code x stack (before running i rest) at t m point rest to take
      (reads_no_more s running i rest to refl refl) (constant_value k v) (constant_known t.mem.memory.shapes
      (functions_of s) k v small) (length makes) (at + length makes) r r may.0 may.1
      (record {
        to = h.to;
        leads = h.leads;
        counter = h.counter;
        registers = h.registers;
        holds = h.holds ∙ sym constant_bits;
        others = λ y l d. h.others y d;
        memory = h.memory;
      })
      keep kept (has_back code at makes keep q) in
      let le = a.le in let kf = keep_few s running.fun to r keep kept in
      let size : at + length makes + length keep ≡ at + length (makes ++ keep) = omega
      (arith, length-append makes keep) in
      subst (λ u. Behind (length u)) (sym e) (record {
        count = a.count;
        to = a.to;
        ge = omega arith;
        le = omega arith;
        leads = a.leads;
        point = record { fits = a.point.fits; counter = a.point.counter ∙ ap (counter_at (ground_of s code)) size };
      })
    where
      target_range : {r : ℕ} → Target (selecting s running.fun) to r → (0 < r) × (r < 32)
      target_range {r} (emitted.Own i) =
          let take = sel.free to (among_one to) i.stands in
          let u = (take.register r i.home).usable in
          let low_is = u.0 in let high_is = u.1 in (omega arith, omega arith)
      target_range {r} (emitted.Number n is e) = (omega (arith, e), omega (arith, e))
      target_range {r} (emitted.Spilled offset i e) = (omega (arith, e), omega (arith, e))

pub constants_run_law : ConstantsRun
constants_run_law s code x stack w p running (instr.Const to k v) rest is sel at t m point kinded ws form has = record {
  next = record t { vars = slice_set t.vars to (Some (constant_value k v)) };
  means = constant_means s w p running to k v t;
  kinded = still_kinded s code x stack w p running k to v rest sel at t m point kinded form.0;
  does = by_words s code x stack w p running k to v rest sel at t m point kinded form.0 ws form.1 has;
}
constants_run_law s code x stack w p running i rest is sel at t m point kinded ws form has = absurd is

-- ---- copies

operand_unway : (s : Setting) (code : List Instr) → IsText s code → (fun t : ℕ) (ws : List Instr) (a : ℕ)
    → Operand (selecting s fun) t 28 ws a → a ≢ 31
operand_unway s code x fun t ws a (emitted.Nothing n e q) = λ z. absurd (omega (arith, q, z))
operand_unway s code x fun t ws a (emitted.Made v n makes few e) = λ z. absurd (omega (arith, e, z))
operand_unway s code x fun t ws a (emitted.AtHome i e) = let l : a < 28 = x.usable fun t a i.home in λ z. absurd
    (omega (arith, l, z))
operand_unway s code x fun t ws a (emitted.Loaded offset i e q) = λ z. absurd (omega (arith, q, z))

-- The temp gets a value that has the capability of another's
module _ (s : Setting) (code : List Instr) (x : IsText s code) (stack : StackIsThere s) (p : Typed)
    (running : Running) (i : TacInstr)
    (to from : ℕ) (rest : List TacInstr) (falls_on : falls i ≡ true) (wrote : writes i ≡ to ∷ []) (read : IsAmong from
    (reads i))
    (no_constant : (n : ℕ) → IsConstant i n → ⊥) (sel : IsSelectable s p running i rest) (at : ℕ)
    (t : State modes.Store) (m : Machine) (point : IsAtPoint s code (before running i rest) at t m) (v : Value)
    (same_bits : capability_of (addresses_of s.map) (base_in t.mem.memory.shapes) (temp_in t from)
    ≡ capability_of (addresses_of s.map) (base_in t.mem.memory.shapes) v)
    (known : IsKnown t.mem.memory.shapes (functions_of s) v)
    (itself : to ≡ from → slice_get t.vars from ≡ Some (Some v)) where
  abbrev here : Point
  here = before running i rest

  abbrev bits : Cap
  bits = capability_of (addresses_of s.map) (base_in t.mem.memory.shapes) v

  abbrev copied : State modes.Store
  copied = record t { vars = slice_set t.vars to (Some v) }

  abbrev Copy_behind : ℕ → Type 0
  Copy_behind n = Arrives s code (behind running rest) 0 6 (at + n) copied m

  live : IsLive s here from
  live = now read

  take : MayTake s (behind running rest) to
  take = may_take s p running i rest to sel (subst (IsAmong to) (sym wrote) (among_one to)) no_constant

  -- the register that was computed goes home
  finish : (count changed r : ℕ) (finds keep ws : List Instr) → length finds ≤ 3 → MayChange s running.fun to changed
      → r ≢ 31
      → count ≡ length finds → Holds (ground_of s code) m count (at + length finds) changed r bits
      → Keep (selecting s running.fun) to r keep → ws ≡ finds ++ keep → HasAt code at ws → Copy_behind (length ws)
  finish count changed r finds keep ws few may unway counted h kept e has =
      let q = subst (HasAt code at) e has in
      let a = results_go_home_law s code x stack here at t m point rest to take
      (reads_no_more s running i rest to falls_on wrote) v known
      count (at + length finds) changed r may unway
      (record {
        to = h.to;
        leads = h.leads;
        counter = h.counter;
        registers = h.registers;
        holds = h.holds;
        others = λ y l d. h.others y d;
        memory = h.memory;
      })
      keep kept (has_back code at finds keep q) in
      let le = a.le in let kf = keep_few s running.fun to r keep kept in
      let size : at + length finds + length keep ≡ at + length (finds ++ keep) = omega
      (arith, length-append finds keep) in
      subst (λ u. Copy_behind (length u)) (sym e) (record {
        count = a.count;
        to = a.to;
        ge = omega arith;
        le = omega arith;
        leads = a.leads;
        point = record { fits = a.point.fits; counter = a.point.counter ∙ ap (counter_at (ground_of s code)) size };
      })

  no_keep : (ws : List Instr) → ws ≡ ws ++ []
  no_keep [] = refl
  no_keep (i ∷ is) = ap (λ js. i ∷ js) (no_keep is)

  -- what is there already
  in_place : (r : ℕ) → register m r ≡ bits → Holds (ground_of s code) m 0 (at + 0) 28 r bits
  in_place r is =
      let e : at ≡ at + 0 = omega arith in
      subst (λ k. Holds (ground_of s code) m 0 k 28 r bits) e
      (subst (Holds (ground_of s code) m 0 at 28 r) is (begins (ground_of s code) (laid s code x) m at 28 r
      (there s code x here at t m point)))

  brought : (r : ℕ) → emitted.IsIn (selecting s running.fun) to r → (ws : List Instr) →
      Bring (selecting s running.fun) from r ws
      → HasAt code at ws
      → Copy_behind (length ws)
  unfolding row cap_get_row
  brought r home ws b has = by b
    where
      free : (5 ≤ r) × (r ≤ 27)
      free = (take.register r home.home).usable

      unway : r ≢ 31
      unway e = let to_is = free.1 in absurd (omega (arith, e, to_is))

      positive : 0 < r
      positive = let from_is = free.0 in omega (arith, from_is)

      below : r < 32
      below = let to_is = free.1 in omega (arith, to_is)

      end : (changed : ℕ) → MayChange s running.fun to changed → Holds (ground_of s code) m (length ws)
          (at + length ws) changed r bits
          → length ws ≤ 3 → Copy_behind (length ws)
      end changed may h few = finish (length ws) changed r ws [] ws few may unway refl h (emitted.Stays home refl)
          (no_keep ws) has

      by : Bring (selecting s running.fun) from r ws → Copy_behind (length ws)
      by (words.Made value n makes few) =
          end r (inr home)
          (subst (Holds (ground_of s code) m (length ws) (at + length ws) r r)
          (sym (numbers_read_back_law s here t m point.fits from value live n).0 ∙ same_bits)
          (numbers_are_made_law (ground_of s code) (laid s code x) m at
          (there s code x here at t m point) r value positive below ws makes has))
          (omega arith)
      by (words.There j e) =
          end 28 (inl (omega arith))
          (subst (λ u. Holds (ground_of s code) m (length u) (at + length u) 28 r bits) (sym e)
          (in_place r ((registers_read_back_law s here t m point.fits from r live j.stands j.home).0 ∙ same_bits)))
          (subst (λ u. length u ≤ 3) (sym e) (omega arith))
      by (words.Moved q j d e) =
          let here_words = subst (HasAt code at) e has in
          end r (inr home)
          (subst (λ u. Holds (ground_of s code) m (length u) (at + length u) r r bits) (sym e)
          (one_set (ground_of s code) (laid s code x) m at (there s code x here at t m point)
          (CapGet Cmove r q) r bits here_words.0 refl
          positive below (ap (set m r) ((registers_read_back_law s here t m point.fits from q live j.stands j.home).0
          ∙ same_bits))))
          (subst (λ u. length u ≤ 3) (sym e) (omega arith))
      by (words.Loaded offset j e) =
          let low_is = free.0 in
          end r (inr home)
          (subst (Holds (ground_of s code) m (length ws) (at + length ws) r r) same_bits
          (load_slot s code x here t m point.fits from r offset (omega (arith, low_is)) below j live m at
          (there s code x here at t m point) refl refl ws e has))
          (bring_few s running.fun from r ws (words.Loaded offset j e))

  pub copies : (ws : List Instr) → Copied (selecting s running.fun) to from ws → HasAt code at ws →
      Copy_behind (length ws)
  copies ws (words.Itself same none) has =
      let e : at ≡ at + 0 = omega arith in
      let again : slice_set t.vars to (Some v) ≡ t.vars =
      ap (λ j. slice_set t.vars j (Some v)) same ∙ set_to_itself t.vars from (Some v) (itself same) in
      subst (λ u. Copy_behind (length u)) (sym none) (record {
        count = 0;
        to = m;
        ge = omega arith;
        le = omega arith;
        leads = refl;
        point = record {
          fits = subst (λ vs. Rattle.place_inject.specs.Fits.Fits s (Some (behind running rest))
              (record t { vars = vs }) m) (sym again)
              (moves_on_law s here t m point.fits rest (λ temp after. same_reads same temp after));
          counter = point.counter ∙ ap (counter_at (ground_of s code)) e;
        };
      })
    where
      same_reads : to ≡ from → (temp : ℕ) → IsLive s (behind running rest) temp → IsLive s here temp
      same_reads same temp after = elim (cases_eq temp to) as (λ _. IsLive s here temp) [
        | inl q ↦ subst (IsLive s here) (sym (q ∙ same)) live
        | inr ne ↦ reads_no_more s running i rest to falls_on wrote temp after ne
      ]
  copies ws (words.Brought r home b) has = brought r home ws b has
  copies ws (words.Kept offset spilled a finds keep found kept e) has =
      let q = subst (HasAt code at) e has in
      finish (length finds) 28 a finds keep ws (operand_few s running.fun from 28 finds a found) (inl (omega arith))
      (operand_unway s code x running.fun from finds a found) refl
      (subst (Holds (ground_of s code) m (length finds) (at + length finds) 28 a) same_bits
      (holds_by s code x here at t m point from 28 a live (omega arith) (omega arith) finds
      (has_front code at finds keep q) found))
      kept e has

module _ (s : Setting) (code : List Instr) (x : IsText s code) (stack : StackIsThere s) (w : World) (p : Typed)
    (running : Running)
    (to from : ℕ) (rest : List TacInstr) (sel : IsSelectable s p running (instr.Copy to from) rest)
    (t : State modes.Store)
    (kinded : AreOfKinds (kinds_in s running) t.vars) where
  copy_parts : (to < length (kinds_in s running))
      × (Rattle.tac_ir.specs.WellFormed.same_kind (kind_at (kinds_in s running) to) (kind_at
      (kinds_in s running) from) ≡ true)
      × (from < length (kinds_in s running))
  copy_parts =
      let q = and_parts (has p sel.d (kinds_in s running) (code_in s running) to (kind_at (kinds_in s running) from))
      (is_temp p sel.d (kinds_in s running) (code_in s running) from) sel.fits in
      let h = has_kind p sel.d (kinds_in s running) (code_in s running) to (kind_at (kinds_in s running) from) q.0 in
      (h.0, h.1, ltb-true from (length (kinds_in s running)) q.1)

  copy_kinded : AreOfKinds (kinds_in s running) (slice_set t.vars to (Some (temp_in t from)))
  copy_kinded =
      kinded_set (kinds_in s running) t.vars to (temp_in t from) kinded copy_parts.0
      (kind_passes (kind_at (kinds_in s running) to) (kind_at (kinds_in s running) from) (temp_in t from) copy_parts.1
      (kinded.each from copy_parts.2))

pub copies_run_law : CopiesRun
copies_run_law s code x stack w p running (instr.Copy to from) rest is sel at t m point kinded ws form has = record {
  next = record t { vars = slice_set t.vars to (Some (temp_in t from)) };
  means = λ k. refl;
  kinded = copy_kinded s code x stack w p running to from rest sel t kinded;
  does = copies s code x stack p running (instr.Copy to from) to from rest refl refl (zero, refl)
      (λ n h. h) sel at t m point (temp_in t from)
      refl (point.fits.calls.1.known from (now (zero, refl)))
      (λ e. kinded.given from (copy_parts s code x stack w p running to from rest sel t kinded).2) ws form has;
}
copies_run_law s code x stack w p running i rest is sel at t m point kinded ws form has = absurd is
